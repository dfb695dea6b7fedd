-- What only grows.
use Rattle.std.proofs.Common.{◌≡◌, ◌⊎◌, inl, inr, ℕ, zero, suc, Bool, true, List, [], ◌∷◌, Some, slice_get, slice_set}
use Rattle.std.proofs.Common.{refl, ap, ◌∙◌, append_assoc, false, not, sym, ◌++◌, ◌==◌}
use Rattle.std.proofs.lemmas.Bool.{eq-eqb}
use Rattle.checkpoint_image.specs.gd_words.specs.Members.{IsAmong}
use Rattle.checkpoint_image.specs.tal_tree.specs.declared.act.Act.{Act}
use Rattle.checkpoint_image.specs.tal_tree.specs.declared.site.Site.{Site}
use Rattle.world_semantics.specs.Core.{Core, Deed}
use Rattle.world_semantics.specs.World.{Copy, Pair, Down, World, copy_of, other_of}
use Rattle.world_semantics.specs.Kept.{Enters, holds_on, repeats, begins, keeps}
use Rattle.world_semantics.specs.Messages.{Message, Sending, Cause}
use Rattle.world_semantics.specs.Own.{Around, Causes, by_inner, by_take, by_ask, by_answer, by_device, by_write}
use Rattle.world_semantics.specs.Own.{by_reply}
use Rattle.world_semantics.specs.Passes.{Passes, by_send, by_pass_again, by_pass, by_apply, by_acknowledge}
use Rattle.world_semantics.specs.Passes.{by_apply_behind, by_end, point_at}
use Rattle.world_semantics.specs.Rules.{Change, by_own, by_checkpoint, by_request, by_early_request, by_enter, by_print}
use Rattle.world_semantics.specs.Rules.{by_stop, by_mark, by_reload, without_downs}
use Rattle.world_semantics.specs.Laws.{HasGrown}
use Rattle.world_semantics.proofs.Lists.{grown-none, grown-one, grown-more, grown-by, grown-both}
use Rattle.world_semantics.proofs.Runs.{IsKept}
use Rattle.world_semantics.proofs.Members.{among-filter}
use Rattle.world_semantics.specs.Shares.{acts_at}

-- processors that have stopped stay so
abbrev pub StayStopped : List Bool → List Bool → Type 0
StayStopped before after =
    (processor : ℕ) → slice_get before processor ≡ Some true → slice_get after processor ≡ Some true

pub stop-stays : (stopped : List Bool) (x : ℕ) → StayStopped stopped (slice_set stopped x true)
stop-stays [] x processor e = e
stop-stays (s ∷ stopped) zero zero e = refl
stop-stays (s ∷ stopped) zero (suc processor) e = e
stop-stays (s ∷ stopped) (suc x) zero e = e
stop-stays (s ∷ stopped) (suc x) (suc processor) e = stop-stays stopped x processor e

-- a later world has what an earlier one had
pub record Grows (before after : World) : Type 0 where
  pub requests : HasGrown before.requests after.requests
  pub replies : HasGrown before.replies after.replies
  pub shown : HasGrown before.shown after.shown
  pub kept : HasGrown before.kept after.kept

pub record AroundGrows (before after : Around) : Type 0 where
  pub requests : HasGrown before.requests after.requests
  pub replies : HasGrown before.replies after.replies
  pub shown : HasGrown before.shown after.shown

around-same : (a : Around) → AroundGrows a a
around-same a = record { requests = grown-none a.requests; replies = grown-none a.replies; shown = grown-none a.shown }

pub causes-grow : {site : Site} {number node : ℕ} {core : Core} {before after : Around} {cause : Cause} {deed : Deed}
    {act : Act} {messages : List Message}
    → Causes site number node core before cause deed act messages after → AroundGrows before after
causes-grow {before = b} by_inner = around-same b
causes-grow {before = b} (by_take e) =
    record { requests = grown-none b.requests; replies = grown-none b.replies; shown = grown-none b.shown }
causes-grow {before = b} by_ask =
    record { requests = grown-by _ b.requests; replies = grown-none b.replies; shown = grown-none b.shown }
causes-grow {before = b} (by_answer e) =
    record { requests = grown-none b.requests; replies = grown-one _ b.replies; shown = grown-none b.shown }
causes-grow {before = b} (by_device e) = around-same b
causes-grow {before = b} (by_write e) =
    record { requests = grown-none b.requests; replies = grown-none b.replies; shown = grown-one _ b.shown }
causes-grow {before = b} (by_reply i o n e) = around-same b

pub enters-grows : {number : ℕ} {act : Act} {kept after : List Act} {copy entered : Copy}
    → Enters number act kept copy entered after → HasGrown kept after
enters-grows {kept = kept} (holds_on e) = grown-none kept
enters-grows {kept = kept} (repeats e l) = grown-none kept
enters-grows {kept = kept} (begins e l t) = grown-none kept
enters-grows {act = act} {kept = kept} (keeps e l t) = grown-one act kept

pub passes-grow : {number : ℕ} {downs : List Down} {kept after : List Act} {pair next : Pair} {cause : Cause}
    {sendings : List Sending}
    → Passes number downs kept pair cause sendings next after → HasGrown kept after
passes-grow {kept = kept} (by_send k r p s m) = grown-none kept
passes-grow {kept = kept} (by_pass_again k r p m l) = grown-none kept
passes-grow {kept = kept} (by_pass k r p m l) = grown-more _ _ kept
passes-grow {kept = kept} (by_end k r s p m) = grown-none kept
passes-grow {kept = kept} (by_apply_behind k message applied r i e n a l) = grown-none kept
passes-grow {number = number} {kept = kept} {pair = pair} (by_apply k message applied r i e n a l) = (
  acts_at number (point_at (copy_of (other_of k) pair)) ++ (copy_of (other_of k) pair).held,
  sym (append_assoc (acts_at number (point_at (copy_of (other_of k) pair))) (copy_of (other_of k) pair).held kept),
)
passes-grow {kept = kept} (by_acknowledge k taken r s i e n) = grown-none kept

same-but-kept : (w : World) (processes : List Pair) (kept : List Act) → HasGrown w.kept kept
    → Grows w (record w { processes = processes; kept = kept })
same-but-kept w processes kept g = record {
  requests = grown-none w.requests;
  replies = grown-none w.replies;
  shown = grown-none w.shown;
  kept = g;
}

pub change-grows : {site : Site} (w next : World) (cause : Cause) (sendings : List Sending)
    → Change site w cause sendings next → Grows w next
change-grows w next cause sendings (by_own number k pair there acts c a e f) =
    let g = causes-grow c in
    record { requests = g.requests; replies = g.replies; shown = g.shown; kept = enters-grows e }
change-grows w next cause sendings (by_checkpoint number pair there p) = same-but-kept w _ _ (passes-grow p)
change-grows w next cause sendings (by_request request k pair i there r) = same-but-kept w _ w.kept (grown-none w.kept)
change-grows w next cause sendings (by_early_request request k pair i there r) =
    same-but-kept w _ w.kept (grown-none w.kept)
change-grows w next cause sendings (by_enter number terminal opener t e r o) = record {
  requests = grown-one _ w.requests;
  replies = grown-none w.replies;
  shown = grown-none w.shown;
  kept = grown-one _ w.kept;
}
change-grows w next cause sendings (by_print number terminal reply t e i o n) = record {
  requests = grown-none w.requests;
  replies = grown-none w.replies;
  shown = grown-one _ w.shown;
  kept = grown-one _ w.kept;
}
change-grows w next cause sendings (by_stop processor r h) = record {
  requests = grown-none w.requests;
  replies = grown-none w.replies;
  shown = grown-none w.shown;
  kept = grown-none w.kept;
}
change-grows w next cause sendings (by_mark node processor s r n) = record {
  requests = grown-none w.requests;
  replies = grown-none w.replies;
  shown = grown-none w.shown;
  kept = grown-none w.kept;
}
change-grows w next cause sendings (by_reload processor s m t l) = record {
  requests = grown-none w.requests;
  replies = grown-none w.replies;
  shown = grown-none w.shown;
  kept = grown-none w.kept;
}

pub growth : (site : Site) → IsKept site Grows
growth site = record {
  same = λ w. same-but-kept w w.processes w.kept (grown-none w.kept);
  both = λ u v w f g. record {
    requests = grown-both f.requests g.requests;
    replies = grown-both f.replies g.replies;
    shown = grown-both f.shown g.shown;
    kept = grown-both f.kept g.kept;
  };
  change = change-grows;
}

-- a processor that runs again: the others are as they were
pub runs-again : (stopped : List Bool) (x processor : ℕ) → (processor ≡ x → ⊥)
    → slice_get (slice_set stopped x false) processor ≡ slice_get stopped processor
runs-again [] x processor n = refl
runs-again (s ∷ stopped) zero zero n = absurd (n refl)
runs-again (s ∷ stopped) zero (suc processor) n = refl
runs-again (s ∷ stopped) (suc x) zero n = refl
runs-again (s ∷ stopped) (suc x) (suc processor) n = runs-again stopped x processor (λ same. n (ap suc same))

pub downs-left : (x : ℕ) (downs : List Down) (m : Down) → IsAmong m (without_downs x downs)
    → IsAmong m downs × (m.down ≡ x → ⊥)
downs-left x downs m i =
    let both = among-filter m (λ mark. not (mark.down == x)) downs i in
    (both.0, λ same. (let t : (m.down == x) ≡ true = eq-eqb m.down x same in let f = both.1 in cc))

-- only processors that have stopped are marked
abbrev pub AreStopped : World → Type 0
AreStopped w = (m : Down) → IsAmong m w.downs → slice_get w.stopped m.down ≡ Some true

pub change-downs : {site : Site} (w next : World) (cause : Cause) (sendings : List Sending)
    → Change site w cause sendings next → AreStopped w → AreStopped next
change-downs w next cause sendings (by_own number k pair there acts c a e f) ok = ok
change-downs w next cause sendings (by_checkpoint number pair there p) ok = ok
change-downs w next cause sendings (by_request request k pair i there r) ok = ok
change-downs w next cause sendings (by_early_request request k pair i there r) ok = ok
change-downs w next cause sendings (by_enter number terminal opener t e r o) ok = ok
change-downs w next cause sendings (by_print number terminal reply t e i o n) ok = ok
change-downs w next cause sendings (by_stop processor r h) ok = λ m i. stop-stays w.stopped processor m.down (ok m i)
change-downs w next cause sendings (by_mark node processor s r n) ok = added
  where
    added : (m : Down) → (m ≡ record { node = node; down = processor }) ⊎ IsAmong m w.downs
        → slice_get w.stopped m.down ≡ Some true
    added m (inl same) = ap (λ (x : Down). slice_get w.stopped x.down) same ∙ s
    added m (inr i) = ok m i
change-downs w next cause sendings (by_reload processor s m t l) ok = λ mark i.
    (let left = downs-left processor w.downs mark i in runs-again w.stopped processor mark.down left.1 ∙ ok mark left.0)
