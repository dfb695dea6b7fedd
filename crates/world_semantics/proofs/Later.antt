-- Processes and terminals go on: what copies sent only grows, and no number of terminals falls.
use Rattle.std.proofs.Common.{◌≡◌, ℕ, zero, suc, ◌+◌, ◌==◌, Bool, true, false, List, [], ◌∷◌, Option, Some, None}
use Rattle.std.proofs.Common.{slice_get, refl, subst, arith}
use Rattle.checkpoint_image.specs.tal_tree.specs.declared.act.Act.{Act}
use Rattle.checkpoint_image.specs.tal_tree.specs.declared.site.Site.{Site}
use Rattle.disc_device.specs.Sectors.{Stored}
use Rattle.checkpoint_image.specs.declared.message.ImageMessage.{ImageMessage}
use Rattle.world_semantics.specs.Core.{Core}
use Rattle.world_semantics.specs.World.{Copy, Pair, Down, Terminal, World, Which, First, Second, with_copy}
use Rattle.world_semantics.specs.Messages.{Sending, Cause}
use Rattle.world_semantics.specs.Passes.{Passes, by_send, by_pass_again, by_pass, by_end, by_apply_behind}
use Rattle.world_semantics.specs.Passes.{by_apply, by_acknowledge}
use Rattle.world_semantics.specs.Rules.{Change, by_own, by_checkpoint, by_request, by_early_request, by_enter, by_print}
use Rattle.world_semantics.specs.Rules.{by_stop, by_mark, by_reload, stopped_pair, taker, pair_after_down}
use Rattle.world_semantics.specs.Rules.{pair_at_down, renewals_ended, new_core, reloaded_by, reloaded_pair}
use Rattle.world_semantics.specs.Rules.{reloaded_from}
use Rattle.world_semantics.specs.Laws.{IsLaterPair, IsLaterTerminal}
use Rattle.world_semantics.proofs.Lists.{some-same, IsThen, set-then, map-then, grown-none, grown-one, grown-both}
use Rattle.world_semantics.proofs.Runs.{IsKept}

grown-pair : (pair next : Pair) → next.checkpoints ≡ pair.checkpoints → next.takens ≡ pair.takens
    → IsLaterPair pair next
grown-pair pair next c t = record { checkpoints = ([], c); takens = ([], t) }

pair-same : (pair : Pair) → IsLaterPair pair pair
pair-same pair = grown-pair pair pair refl refl

pair-both : {a b c : Pair} → IsLaterPair a b → IsLaterPair b c → IsLaterPair a c
pair-both f g = record {
  checkpoints = grown-both f.checkpoints g.checkpoints;
  takens = grown-both f.takens g.takens;
}

-- the same process with another copy
copy-set : (k : Which) (copy : Copy) (pair : Pair) → IsLaterPair pair (with_copy k copy pair)
copy-set First copy pair = grown-pair pair _ refl refl
copy-set Second copy pair = grown-pair pair _ refl refl

own-later : (k : Which) (copy : Copy) (pair : Pair) (sectors : List Stored)
    → IsLaterPair pair (with_copy k copy (record pair { sectors = sectors }))
own-later First copy pair sectors = grown-pair pair _ refl refl
own-later Second copy pair sectors = grown-pair pair _ refl refl

one-sent : (new : ImageMessage) (k : Which) (copy : Copy) (pair : Pair)
    → IsLaterPair pair (with_copy k copy (record pair { checkpoints = new ∷ pair.checkpoints }))
one-sent new First copy pair = record { checkpoints = grown-one new pair.checkpoints; takens = grown-none pair.takens }
one-sent new Second copy pair = record { checkpoints = grown-one new pair.checkpoints; takens = grown-none pair.takens }

passes-later : {number : ℕ} {downs : List Down} {kept after : List Act} {pair next : Pair} {cause : Cause}
    {sendings : List Sending}
    → Passes number downs kept pair cause sendings next after → IsLaterPair pair next
passes-later {pair = p} (by_send k r t s m) = one-sent _ k _ p
passes-later {pair = p} (by_pass_again k r t m l) = copy-set k _ p
passes-later {pair = p} (by_pass k r t m l) = copy-set k _ p
passes-later {pair = p} (by_end k r s t m) = copy-set k _ p
passes-later {pair = p} (by_apply_behind First message applied r i e n a l) =
    record { checkpoints = grown-none p.checkpoints; takens = grown-one _ p.takens }
passes-later {pair = p} (by_apply_behind Second message applied r i e n a l) =
    record { checkpoints = grown-none p.checkpoints; takens = grown-one _ p.takens }
passes-later {pair = p} (by_apply First message applied r i e n a l) =
    record { checkpoints = grown-none p.checkpoints; takens = grown-one _ p.takens }
passes-later {pair = p} (by_apply Second message applied r i e n a l) =
    record { checkpoints = grown-none p.checkpoints; takens = grown-one _ p.takens }
passes-later {pair = p} (by_acknowledge k taken r s i e n) = copy-set k _ p

stopped-later : (x : ℕ) (p : Pair) → IsLaterPair p (stopped_pair x p)
stopped-later x p = grown-pair p _ refl refl

marking-later : (node x : ℕ) (k : Option Which) (p : Pair) → IsLaterPair p (renewals_ended node x (pair_after_down k p))
marking-later node x None p = grown-pair p _ refl refl
marking-later node x (Some First) p = grown-pair p _ refl refl
marking-later node x (Some Second) p = grown-pair p _ refl refl

reloaded-later : (core : Core) (p : Pair) (one two : Bool) → IsLaterPair p (reloaded_by core p one two)
reloaded-later core p false false = pair-same p
reloaded-later core p true false = grown-pair p _ refl refl
reloaded-later core p false true = grown-pair p _ refl refl
reloaded-later core p true true = grown-pair p _ refl refl

reload-then : (site : Site) (x from : ℕ) (pairs : List Pair) (j : ℕ) (pair : Pair) → slice_get pairs j ≡ Some pair
    → IsThen IsLaterPair pair (slice_get (reloaded_from site x from pairs) j)
reload-then site x from [] j pair e = absurd (cc)
reload-then site x from (p ∷ pairs) zero pair e =
    let core = new_core site from (slice_get site.processes from) p.first.core in (
      reloaded_pair x core p,
      refl,
      subst (λ v. IsLaterPair v (reloaded_pair x core p)) (some-same e)
          (reloaded-later core p (p.first.processor == x) (p.second.processor == x)),
    )
reload-then site x from (p ∷ pairs) (suc j) pair e = reload-then site x (from + 1) pairs j pair e

-- All changes

abbrev pub PairsGoOn : World → World → Type 0
PairsGoOn w next = (number : ℕ) (pair : Pair) → slice_get w.processes number ≡ Some pair
    → IsThen IsLaterPair pair (slice_get next.processes number)

abbrev pub TerminalsGoOn : World → World → Type 0
TerminalsGoOn w next =
    (number : ℕ) (terminal : Terminal) → slice_get w.terminals number ≡ Some terminal
    → IsThen IsLaterTerminal terminal (slice_get next.terminals number)

pub change-later : {site : Site} (w next : World) (cause : Cause) (sendings : List Sending)
    → Change site w cause sendings next → PairsGoOn w next
change-later w next cause sendings (by_own number k pair there acts c a e fr) =
    set-then IsLaterPair pair-same w.processes number pair _ there (own-later k _ pair _)
change-later w next cause sendings (by_checkpoint number pair there p) =
    set-then IsLaterPair pair-same w.processes number pair _ there (passes-later p)
change-later w next cause sendings (by_request request k pair i there r) =
    set-then IsLaterPair pair-same w.processes request.process pair _ there (copy-set k _ pair)
change-later w next cause sendings (by_early_request request k pair i there r) =
    set-then IsLaterPair pair-same w.processes request.process pair _ there (copy-set k _ pair)
change-later w next cause sendings (by_enter number terminal opener t e r o) = λ n p there. (p, there, pair-same p)
change-later w next cause sendings (by_print number terminal reply t e i o n) = λ n p there. (p, there, pair-same p)
change-later w next cause sendings (by_stop x r h) = map-then IsLaterPair (stopped_pair x) (stopped-later x) w.processes
change-later w next cause sendings (by_mark node x s r n) =
    map-then IsLaterPair (pair_at_down node x) (λ p. marking-later node x (taker node x p) p) w.processes
change-later {site = site} w next cause sendings (by_reload x s m t l) = reload-then site x 0 w.processes

pub pairs-go-on : (site : Site) → IsKept site PairsGoOn
pairs-go-on site = record {
  same = λ w n p there. (p, there, pair-same p);
  both = λ u v w f g n p there. let a = f n p there in let b = g n a.0 a.1 in (b.0, b.1, pair-both a.2 b.2);
  change = change-later;
}

terminal-same : (t : Terminal) → IsLaterTerminal t t
terminal-same t = record { entered = omega arith; printed = omega arith }

pub change-terminals : {site : Site} (w next : World) (cause : Cause) (sendings : List Sending)
    → Change site w cause sendings next → TerminalsGoOn w next
change-terminals w next cause sendings (by_enter number terminal opener t e r o) =
    set-then IsLaterTerminal terminal-same w.terminals number terminal _ t
    (record { entered = omega arith; printed = omega arith })
change-terminals w next cause sendings (by_print number terminal reply t e i o n) =
    set-then IsLaterTerminal terminal-same w.terminals number terminal _ t
    (record { entered = omega arith; printed = omega arith })
change-terminals w next cause sendings (by_own number k pair there acts c a e fr) =
    λ n t there. (t, there, terminal-same t)
change-terminals w next cause sendings (by_checkpoint number pair there p) = λ n t there. (t, there, terminal-same t)
change-terminals w next cause sendings (by_request request k pair i there r) = λ n t there. (t, there, terminal-same t)
change-terminals w next cause sendings (by_early_request request k pair i there r) =
    λ n t there. (t, there, terminal-same t)
change-terminals w next cause sendings (by_stop x r h) = λ n t there. (t, there, terminal-same t)
change-terminals w next cause sendings (by_mark node x s r n) = λ m t there. (t, there, terminal-same t)
change-terminals w next cause sendings (by_reload x s m t l) = λ n t there. (t, there, terminal-same t)

pub terminals-go-on : (site : Site) → IsKept site TerminalsGoOn
terminals-go-on site = record {
  same = λ w n t there. (t, there, terminal-same t);
  both = λ u v w f g n t there. let a = f n t there in let b = g n a.0 a.1 in (
    b.0,
    b.1,
    record {
      entered = omega (arith, a.2.entered, b.2.entered);
      printed = omega (arith, a.2.printed, b.2.printed);
    },
  );
  change = change-terminals;
}
