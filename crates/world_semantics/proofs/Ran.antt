-- A process that runs makes the one change that is computed, and none where none is.
use Rattle.std.proofs.Common.{◌≡◌, ℕ, ◌||◌, Bool, true, false, nat_lt, List, Option, Some, None, slice_get, slice_set}
use Rattle.std.proofs.Common.{refl, subst, sym, ap, ◌∙◌, [], inl, inr, not, ◌∷◌}
use Rattle.std.proofs.lemmas.Bool.{lt-ltb, ltb-true, le-ltb, ltb-false}
use Rattle.checkpoint_image.specs.tal_tree.specs.declared.act.Act.{Act}
use Rattle.checkpoint_image.specs.tal_tree.specs.declared.site.Site.{Site}
use Rattle.plain_semantics.specs.process_semantics.specs.declared.point.Point.{Point}
use Rattle.plain_semantics.specs.process_semantics.specs.declared.point.Point.TheVariants as point
use Rattle.plain_semantics.specs.process_semantics.specs.Process as process
use Rattle.world_semantics.specs.declared.role.Role.{Role}
use Rattle.world_semantics.specs.declared.role.Role.TheVariants.{Acting, Watching, Gone, Blank}
use Rattle.world_semantics.specs.World.{Copy, Pair, Down, World, Which, First, Second, copy_of, other_of, may_pass}
use Rattle.world_semantics.specs.World.{has_marked, with_copy}
use Rattle.world_semantics.specs.Kept.{own_acts}
use Rattle.world_semantics.specs.Core.{Core, Deed}
use Rattle.world_semantics.specs.Messages.{Message, Sending, sent_at, Cause, Running, Checkpointing}
use Rattle.world_semantics.specs.Own.{Around, around, Causes, by_inner, by_take, by_ask, by_answer, by_device, by_write}
use Rattle.world_semantics.specs.Own.{by_reply}
use Rattle.world_semantics.specs.Passes.{Passes, by_send, by_pass_again, by_pass, by_apply, by_acknowledge}
use Rattle.world_semantics.specs.Passes.{after_sending, by_apply_behind, by_end, checkpoint_of}
use Rattle.world_semantics.specs.Rules.{Change, by_own, by_checkpoint, by_request, by_early_request, by_enter, by_print}
use Rattle.world_semantics.specs.Rules.{by_stop, by_mark, after_own, IsFreeFor, by_reload}
use Rattle.world_semantics.specs.Follows.{IsIdleFor}
use Rattle.world_semantics.specs.Records.{records_of}
use Rattle.world_semantics.specs.Running.{Done, Own, Stepped, first_step, own_at, run_done, run_pair, step_of_copy}
use Rattle.world_semantics.specs.Running.{ending_step, in_world, sending_step}
use Rattle.world_semantics.specs.Shares.{after_entering, share_after_act, share_of}
use Rattle.world_semantics.proofs.Lifted.{lifted, done_at_checkpoint, own_done, own_made, passed_done, run_as}
use Rattle.world_semantics.proofs.Lifted.{run_at, run_copy}
use Rattle.world_semantics.proofs.Lifted.{ended_done, free_at, made_if, sent_done}
use Rattle.world_semantics.proofs.Lists.{some-same}
use Rattle.world_semantics.proofs.Running.{enters-as, enters-only, own-can, own-only}

-- The computed change is permitted

-- a change that is made where a process runs
abbrev MayRun : Site → ℕ → World → Done → Type 0
MayRun site number w done = Change site w (Running number) done.sendings done.world

either-not : (a b : Bool) → (a || b) ≡ false → b ≡ false
either-not true b e = absurd (cc)
either-not false b e = e

passed-may : (site : Site) (number : ℕ) (k : Which) (pair : Pair) (w : World)
    → slice_get w.processes number ≡ Some pair → (copy_of k pair).role ≡ Acting
    → process.point (copy_of k pair).core.state ≡ point.AtCheckpoint → may_pass w.downs k pair ≡ true
    → (again : Bool) → nat_lt (copy_of k pair).position (own_acts number w.kept) ≡ again
    → MayRun site number w (passed_done number k pair w again)
passed-may site number k pair w there role p m true e =
    by_checkpoint number pair there (by_pass_again k role p m (ltb-true _ _ e))
passed-may site number k pair w there role p m false e =
    by_checkpoint number pair there (by_pass k role p m (ltb-false _ _ e))

mark-may : (site : Site) (number : ℕ) (k : Which) (pair : Pair) (w : World) → slice_get w.processes number ≡ Some pair
    → (copy_of k pair).role ≡ Acting
    → process.point (copy_of k pair).core.state ≡ point.AtCheckpoint → (free sent : Bool)
    → may_pass w.downs k pair ≡ free → (copy_of k pair).sent ≡ sent
    → (done : Done) → done_at_checkpoint number k pair w free sent ≡ Some done → MayRun site number w done
mark-may site number k pair w there role p true sent m s done e =
    subst (MayRun site number w) (some-same e)
    (passed-may site number k pair w there role p m (nat_lt (copy_of k pair).position (own_acts number w.kept))
    refl)
mark-may site number k pair w there role p false true m s done e = absurd (cc)
mark-may site number k pair w there role p false false m s done e =
    subst (MayRun site number w) (some-same e)
    (by_checkpoint number pair there (by_send k role (inl p) s (either-not (copy_of k pair).acknowledged _ m)))

own-may : (site : Site) (number : ℕ) (k : Which) (pair : Pair) (w : World) → slice_get w.processes number ≡ Some pair
    → (copy_of k pair).role ≡ Acting
    → (copy_of k pair).sent ≡ false → (copy_of k pair).renewal ≡ false → (p : Point)
    → process.point (copy_of k pair).core.state ≡ p → (o : Option Own)
    → own_at site number (copy_of k pair).core (around (copy_of k pair) pair w) p ≡ o → (done : Done)
    → own_made number k pair w o ≡ Some done
    → MayRun site number w done
own-may site number k pair w there role s r p stands None a done e = absurd (cc)
own-may site number k pair w there role s r p stands (Some o) a done e =
    let can = own-can site number (copy_of k pair).processor (copy_of k pair).core (around (copy_of k pair) pair w) o p
    stands a in
    subst (MayRun site number w) (some-same e)
    (by_own number k pair there role can.causes can.advances (enters-as number o.done w.kept (copy_of k pair)) (s, r))

made-if : (number : ℕ) (w : World) (b : Bool) (step : Stepped) (done : Done) → made_if number w b step ≡ Some done
    → (b ≡ true) × (in_world number w step ≡ done)
made-if number w true step done e = (refl, some-same e)
made-if number w false step done e = absurd (cc)

not-true : (b : Bool) → not b ≡ true → b ≡ false
not-true true e = absurd (cc)
not-true false e = refl

send-may : (site : Site) (number : ℕ) (k : Which) (pair : Pair) (w : World) → slice_get w.processes number ≡ Some pair
    → (copy_of k pair).role ≡ Acting
    → (copy_of k pair).sent ≡ false → (copy_of k pair).renewal ≡ true
    → (process.point (copy_of k pair).core.state ≡ point.Await → ⊥)
    → (done : Done) → made_if number w (not (has_marked w.downs (copy_of k pair).processor
    (copy_of (other_of k) pair).processor)) (sending_step number k pair (records_of w)) ≡ Some done
    → MayRun site number w done
send-may site number k pair w there role s r away done e =
    let is = made-if number w (not (has_marked w.downs (copy_of k pair).processor
    (copy_of (other_of k) pair).processor)) (sending_step number k pair (records_of w)) done e in
    subst (MayRun site number w) is.1 (by_checkpoint number pair there
    (by_send k role (inr (r, away)) s (not-true _ is.0)))

free-may : (site : Site) (number : ℕ) (k : Which) (pair : Pair) (w : World) → slice_get w.processes number ≡ Some pair
    → (copy_of k pair).role ≡ Acting
    → (p : Point) → (p ≡ point.AtCheckpoint → ⊥) → process.point (copy_of k pair).core.state ≡ p
    → (sent renewal : Bool) → (copy_of k pair).sent ≡ sent
    → (copy_of k pair).renewal ≡ renewal → (done : Done) → free_at site number k pair w p sent renewal ≡ Some done
    → MayRun site number w done
free-may site number k pair w there role p away stands true renewal s r done e =
    let is = made-if number w (may_pass w.downs k pair) (ending_step number k pair (records_of w)) done e in
    subst (MayRun site number w) is.1 (by_checkpoint number pair there
    (by_end k role s (λ m. away (sym stands ∙ m)) is.0))
free-may site number k pair w there role p away stands false false s r done e =
    own-may site number k pair w there role s r p stands _ refl done e
free-may site number k pair w there role point.AtCheckpoint away stands false true s r done e = absurd (away refl)
free-may site number k pair w there role point.Await away stands false true s r done e = absurd (cc)
free-may site number k pair w there role point.Inner away stands false true s r done e =
    send-may site number k pair w there role s r (λ a. (let b = sym stands ∙ a in cc)) done e
free-may site number k pair w there role point.Take away stands false true s r done e =
    send-may site number k pair w there role s r (λ a. (let b = sym stands ∙ a in cc)) done e
free-may site number k pair w there role point.Ask away stands false true s r done e =
    send-may site number k pair w there role s r (λ a. (let b = sym stands ∙ a in cc)) done e
free-may site number k pair w there role point.Answer away stands false true s r done e =
    send-may site number k pair w there role s r (λ a. (let b = sym stands ∙ a in cc)) done e
free-may site number k pair w there role point.Device away stands false true s r done e =
    send-may site number k pair w there role s r (λ a. (let b = sym stands ∙ a in cc)) done e
free-may site number k pair w there role point.Ended away stands false true s r done e =
    send-may site number k pair w there role s r (λ a. (let b = sym stands ∙ a in cc)) done e

at-may : (site : Site) (number : ℕ) (k : Which) (pair : Pair) (w : World) → slice_get w.processes number ≡ Some pair
    → (copy_of k pair).role ≡ Acting
    → (p : Point) → process.point (copy_of k pair).core.state ≡ p → (done : Done)
    → run_at site number k pair w p ≡ Some done → MayRun site number w done
at-may site number k pair w there role point.AtCheckpoint stands done e =
    mark-may site number k pair w there role stands (may_pass w.downs k pair) (copy_of k pair).sent refl refl done e
at-may site number k pair w there role point.Inner stands done e =
    free-may site number k pair w there role point.Inner (λ m. cc) stands (copy_of k pair).sent
    (copy_of k pair).renewal refl refl done e
at-may site number k pair w there role point.Take stands done e =
    free-may site number k pair w there role point.Take (λ m. cc) stands (copy_of k pair).sent (copy_of k pair).renewal
    refl refl done e
at-may site number k pair w there role point.Ask stands done e =
    free-may site number k pair w there role point.Ask (λ m. cc) stands (copy_of k pair).sent (copy_of k pair).renewal
    refl refl done e
at-may site number k pair w there role point.Await stands done e =
    free-may site number k pair w there role point.Await (λ m. cc) stands (copy_of k pair).sent
    (copy_of k pair).renewal refl refl done e
at-may site number k pair w there role point.Answer stands done e =
    free-may site number k pair w there role point.Answer (λ m. cc) stands (copy_of k pair).sent
    (copy_of k pair).renewal refl refl done e
at-may site number k pair w there role point.Device stands done e =
    free-may site number k pair w there role point.Device (λ m. cc) stands (copy_of k pair).sent
    (copy_of k pair).renewal refl refl done e
at-may site number k pair w there role point.Ended stands done e =
    free-may site number k pair w there role point.Ended (λ m. cc) stands (copy_of k pair).sent
    (copy_of k pair).renewal refl refl done e

as-may : (site : Site) (number : ℕ) (k : Which) (pair : Pair) (w : World) → slice_get w.processes number ≡ Some pair
    → (role : Role)
    → (copy_of k pair).role ≡ role → (done : Done) → run_as site number k pair w role ≡ Some done
    → MayRun site number w done
as-may site number k pair w there Acting role done e = at-may site number k pair w there role _ refl done e
as-may site number k pair w there Watching role done e = absurd (cc)
as-may site number k pair w there Gone role done e = absurd (cc)
as-may site number k pair w there Blank role done e = absurd (cc)

two-may : (site : Site) (number : ℕ) (w : World) (first second : Option Stepped) (done : Done)
    → ((one : Done) → lifted number w first ≡ Some one → MayRun site number w one)
    → ((one : Done) → lifted number w second ≡ Some one → MayRun site number w one)
    → lifted number w (first_step first second) ≡ Some done → MayRun site number w done
two-may site number w None second done a b e = b done e
two-may site number w (Some one) second done a b e = a done e

pair-may : (site : Site) (number : ℕ) (w : World) (pair : Option Pair) → slice_get w.processes number ≡ pair
    → (done : Done)
    → run_pair site number w pair ≡ Some done → MayRun site number w done
pair-may site number w None there done e = absurd (cc)
pair-may site number w (Some pair) there done e =
    two-may site number w (step_of_copy site number pair w.downs (records_of w) First)
    (step_of_copy site number pair w.downs (records_of w) Second) done
    (λ one. as-may site number First pair w there pair.first.role refl one)
    (λ one. as-may site number Second pair w there pair.second.role refl one) e

pub run-may : (site : Site) (number : ℕ) (w : World) (done : Done) → run_done site number w ≡ Some done
    → Change site w (Running number) done.sendings done.world
run-may site number w done e = pair-may site number w (slice_get w.processes number) refl done e

-- No other change is permitted

-- nothing is acknowledged where nothing is sent
abbrev pub IsSettled : Copy → Type 0
IsSettled copy = copy.sent ≡ false → copy.acknowledged ≡ false

-- the copy that makes a change for which its process runs, which is the computed one
record Ran (site : Site) (number : ℕ) (w : World) (done : Done) : Type 0 where
  pub pair : Pair
  pub k : Which
  pub there : slice_get w.processes number ≡ Some pair
  pub role : (copy_of k pair).role ≡ Acting
  pub exact : IsSettled (copy_of k pair) → run_at site number k pair w (process.point (copy_of k pair).core.state)
      ≡ Some done
  pub some : run_at site number k pair w (process.point (copy_of k pair).core.state) ≡ None → ⊥

free-run : (site : Site) (number : ℕ) (k : Which) (pair : Pair) (w : World) (p : Point) (o : Own)
    → (copy_of k pair).sent ≡ false → (copy_of k pair).renewal ≡ false
    → own_at site number (copy_of k pair).core (around (copy_of k pair) pair w) p ≡ Some o
    → free_at site number k pair w p (copy_of k pair).sent (copy_of k pair).renewal
    ≡ Some (own_done number k pair w o)
free-run site number k pair w p o s r e =
    ap (λ t. free_at site number k pair w p t (copy_of k pair).renewal) s
    ∙ ap (λ t. free_at site number k pair w p false t) r ∙ ap (own_made number k pair w) e

own-run : (site : Site) (number : ℕ) (k : Which) (pair : Pair) (w : World) (p : Point) (o : Own)
    → (copy_of k pair).sent ≡ false → (copy_of k pair).renewal ≡ false
    → own_at site number (copy_of k pair).core (around (copy_of k pair) pair w) p ≡ Some o
    → run_at site number k pair w p ≡ Some (own_done number k pair w o)
own-run site number k pair w point.AtCheckpoint o s r e = absurd (cc)
own-run site number k pair w point.Inner o s r e = free-run site number k pair w point.Inner o s r e
own-run site number k pair w point.Take o s r e = free-run site number k pair w point.Take o s r e
own-run site number k pair w point.Ask o s r e = free-run site number k pair w point.Ask o s r e
own-run site number k pair w point.Await o s r e = free-run site number k pair w point.Await o s r e
own-run site number k pair w point.Answer o s r e = free-run site number k pair w point.Answer o s r e
own-run site number k pair w point.Device o s r e = free-run site number k pair w point.Device o s r e
own-run site number k pair w point.Ended o s r e = free-run site number k pair w point.Ended o s r e

not-none : {A : Type 0} {o : Option A} {x : A} → o ≡ Some x → o ≡ None → ⊥
not-none e n = cc

free-or : (downs : List Down) (k : Which) (pair : Pair) → IsSettled (copy_of k pair) → (copy_of k pair).sent ≡ false
    → has_marked downs (copy_of k pair).processor (copy_of (other_of k) pair).processor ≡ false
    → may_pass downs k pair ≡ false
free-or downs k pair settled s m = rw (settled s, m) refl

mark-some : (number : ℕ) (k : Which) (pair : Pair) (w : World) (free : Bool)
    → done_at_checkpoint number k pair w free false ≡ None → ⊥
mark-some number k pair w true e = cc
mark-some number k pair w false e = cc

pass-ran : (site : Site) (number : ℕ) (w : World) (pair : Pair) → slice_get w.processes number ≡ Some pair
    → {cause : Cause} {sendings : List Sending} {next : Pair}
    {kept : List Act} → cause ≡ Running number → Passes number w.downs w.kept pair cause sendings next kept
    → Ran site number w (record {
      world = record w { processes = slice_set w.processes number next; kept = kept };
      sendings = sendings;
    })
pass-ran site number w pair there r (by_send k role (inl p) s m) = record {
  pair = pair;
  k = k;
  there = there;
  role = role;
  exact = λ settled.
      ap (run_at site number k pair w) p ∙ ap (λ sent. done_at_checkpoint number k pair w (may_pass w.downs k pair)
      sent) s
      ∙ ap (λ free. done_at_checkpoint number k pair w free false) (free-or w.downs k pair settled s m);
  some = rw (p, s) (mark-some number k pair w (may_pass w.downs k pair));
}
pass-ran site number w pair there r (by_send k role (inr both) s m) =
    which (process.point (copy_of k pair).core.state) refl
  where
    new : World
    new = record w {
      processes = slice_set w.processes number
          (with_copy k (after_sending (copy_of k pair))
          (record pair { checkpoints = checkpoint_of number (copy_of k pair) ∷ pair.checkpoints }));
      kept = w.kept;
    }

    done : Done
    done = record {
      world = new;
      sendings =
          sent_at (copy_of k pair).processor (Checkpointing (checkpoint_of number (copy_of k pair)) ∷ []);
    }

    at-checkpoint : process.point (copy_of k pair).core.state ≡ point.AtCheckpoint → Ran site number w done
    at-checkpoint p = record {
      pair = pair;
      k = k;
      there = there;
      role = role;
      exact = λ settled.
          ap (run_at site number k pair w) p ∙ ap (λ sent. done_at_checkpoint number k pair w
          (may_pass w.downs k pair) sent) s
          ∙ ap (λ free. done_at_checkpoint number k pair w free false) (free-or w.downs k pair settled s m);
      some = rw (p, s) (mark-some number k pair w (may_pass w.downs k pair));
    }

    elsewhere : run_at site number k pair w (process.point (copy_of k pair).core.state)
        ≡ Some (sent_done number k pair w) → Ran site number w done
    elsewhere e = record { pair = pair; k = k; there = there; role = role; exact = λ _. e; some = not-none e }

    which : (p : Point) → process.point (copy_of k pair).core.state ≡ p → Ran site number w done
    which point.AtCheckpoint p = at-checkpoint p
    which point.Await p = absurd (both.1 p)
    which point.Inner p = elsewhere (ap (run_at site number k pair w) p
        ∙ ap (λ t. free_at site number k pair w point.Inner t (copy_of k pair).renewal) s
        ∙ ap (λ t. free_at site number k pair w point.Inner false t) both.0
        ∙ ap (λ t. made_if number w (not t) (sending_step number k pair (records_of w))) m)
    which point.Take p = elsewhere (ap (run_at site number k pair w) p
        ∙ ap (λ t. free_at site number k pair w point.Take t (copy_of k pair).renewal) s
        ∙ ap (λ t. free_at site number k pair w point.Take false t) both.0
        ∙ ap (λ t. made_if number w (not t) (sending_step number k pair (records_of w))) m)
    which point.Ask p = elsewhere (ap (run_at site number k pair w) p
        ∙ ap (λ t. free_at site number k pair w point.Ask t (copy_of k pair).renewal) s
        ∙ ap (λ t. free_at site number k pair w point.Ask false t) both.0
        ∙ ap (λ t. made_if number w (not t) (sending_step number k pair (records_of w))) m)
    which point.Answer p = elsewhere (ap (run_at site number k pair w) p
        ∙ ap (λ t. free_at site number k pair w point.Answer t (copy_of k pair).renewal) s
        ∙ ap (λ t. free_at site number k pair w point.Answer false t) both.0
        ∙ ap (λ t. made_if number w (not t) (sending_step number k pair (records_of w))) m)
    which point.Device p = elsewhere (ap (run_at site number k pair w) p
        ∙ ap (λ t. free_at site number k pair w point.Device t (copy_of k pair).renewal) s
        ∙ ap (λ t. free_at site number k pair w point.Device false t) both.0
        ∙ ap (λ t. made_if number w (not t) (sending_step number k pair (records_of w))) m)
    which point.Ended p = elsewhere (ap (run_at site number k pair w) p
        ∙ ap (λ t. free_at site number k pair w point.Ended t (copy_of k pair).renewal) s
        ∙ ap (λ t. free_at site number k pair w point.Ended false t) both.0
        ∙ ap (λ t. made_if number w (not t) (sending_step number k pair (records_of w))) m)
pass-ran site number w pair there r (by_end k role s away m) = which (process.point (copy_of k pair).core.state) refl
  where
    done : Done
    done = ended_done number k pair w

    elsewhere : run_at site number k pair w (process.point (copy_of k pair).core.state)
        ≡ Some (ended_done number k pair w) → Ran site number w done
    elsewhere e = record { pair = pair; k = k; there = there; role = role; exact = λ _. e; some = not-none e }

    which : (p : Point) → process.point (copy_of k pair).core.state ≡ p → Ran site number w done
    which point.AtCheckpoint p = absurd (away p)
    which point.Inner p = elsewhere (rw (p, s, m) refl)
    which point.Take p = elsewhere (rw (p, s, m) refl)
    which point.Ask p = elsewhere (rw (p, s, m) refl)
    which point.Await p = elsewhere (rw (p, s, m) refl)
    which point.Answer p = elsewhere (rw (p, s, m) refl)
    which point.Device p = elsewhere (rw (p, s, m) refl)
    which point.Ended p = elsewhere (rw (p, s, m) refl)
pass-ran site number w pair there r (by_pass_again k role p m l) =
    let e : run_at site number k pair w (process.point (copy_of k pair).core.state)
    ≡ Some (passed_done number k pair w true) = rw (p, m, lt-ltb _ _ l) refl in
    record { pair = pair; k = k; there = there; role = role; exact = λ _. e; some = not-none e }
pass-ran site number w pair there r (by_pass k role p m l) =
    let e : run_at site number k pair w (process.point (copy_of k pair).core.state)
    ≡ Some (passed_done number k pair w false) = rw (p, m, le-ltb _ _ l) refl in
    record { pair = pair; k = k; there = there; role = role; exact = λ _. e; some = not-none e }
pass-ran site number w pair there r (by_apply k message applied role i e n a l) = absurd (cc)
pass-ran site number w pair there r (by_apply_behind k message applied role i e n a l) = absurd (cc)
pass-ran site number w pair there r (by_acknowledge k taken role s i e n) = absurd (cc)

own-ran : (site : Site) (number : ℕ) (k : Which) (pair : Pair) (w : World) → slice_get w.processes number ≡ Some pair
    → (copy_of k pair).role ≡ Acting
    → (copy_of k pair).sent ≡ false → (copy_of k pair).renewal ≡ false
    → (done : Act) (messages : List Message) (after : Around) (core : Core) (next : Copy) (kept : List Act)
    → own_at site number (copy_of k pair).core (around (copy_of k pair) pair w)
    (process.point (copy_of k pair).core.state)
    ≡ Some (record { done = done; messages = messages; after = after; core = core })
    → (after_entering number done w.kept (copy_of k pair) ≡ next)
    × ((share_after_act number done w.kept (share_of (copy_of k pair))).kept ≡ kept)
    → Ran site number w (record {
      world = after_own number k pair core next after kept w;
      sendings = sent_at (copy_of k pair).processor messages;
    })
own-ran site number k pair w there role unsent still done messages after core next kept e s =
    let run = own-run site number k pair w (process.point (copy_of k pair).core.state) _ unsent still e in
    record {
      pair = pair;
      k = k;
      there = there;
      role = role;
      exact = λ _. rw (sym s.0, sym s.1) run;
      some = not-none run;
    }

same-number : {one other : ℕ} → Running one ≡ Running other → one ≡ other
same-number e = cc

own-number : {site : Site} {number one node : ℕ} {core : Core} {before after : Around} {cause : Cause} {deed : Deed}
    {done : Act} {messages : List Message}
    → cause ≡ Running number → Causes site one node core before cause deed done messages after → one ≡ number
own-number r by_inner = same-number r
own-number r (by_take e) = same-number r
own-number r by_ask = same-number r
own-number r (by_answer e) = same-number r
own-number r (by_device e) = same-number r
own-number r (by_write e) = same-number r
own-number r (by_reply i o m e) = absurd (cc)

pass-number : {number one : ℕ} {downs : List Down} {kept after : List Act} {pair next : Pair} {cause : Cause}
    {sendings : List Sending}
    → cause ≡ Running number → Passes one downs kept pair cause sendings next after → one ≡ number
pass-number r (by_send k role p s m) = same-number r
pass-number r (by_pass_again k role p m l) = same-number r
pass-number r (by_pass k role p m l) = same-number r
pass-number r (by_end k role s p m) = same-number r
pass-number r (by_apply k message applied role i e n a l) = absurd (cc)
pass-number r (by_apply_behind k message applied role i e n a l) = absurd (cc)
pass-number r (by_acknowledge k taken role s i e n) = absurd (cc)

free-of : {cause : Cause} {number : ℕ} (copy : Copy) → cause ≡ Running number → IsFreeFor cause copy
    → (copy.sent ≡ false) × (copy.renewal ≡ false)
free-of copy r f = subst (λ c. IsFreeFor c copy) r f

-- the change by which a process runs
change-ran : {site : Site} (number : ℕ) (w next : World) (cause : Cause) (sendings : List Sending)
    → cause ≡ Running number
    → Change site w cause sendings next → Ran site number w (record { world = next; sendings = sendings })
change-ran {site = site} number w next cause sendings r
    (by_own {done = done} {messages = messages} {after = after} {core = core} {entered = copy} {kept = kept} one k pair
    there role c a e f) =
    let same = own-number r c in
    let free = free-of (copy_of k pair) r f in
    subst (λ n. Ran site n w (record {
      world = after_own one k pair core copy after kept w;
      sendings = sent_at (copy_of k pair).processor messages;
    })) same
    (own-ran site one k pair w there role free.0 free.1 done messages after core copy kept
    (own-only (r ∙ ap Running (sym same)) c a) (enters-only e))
change-ran {site = site} number w next cause sendings r (by_checkpoint {next = pair'} {kept = kept} one pair there p) =
    let same = pass-number r p in
    subst (λ n. Ran site n w (record {
      world = record w { processes = slice_set w.processes one pair'; kept = kept };
      sendings = sendings;
    })) same
    (pass-ran site one w pair there (r ∙ ap Running (sym same)) p)
change-ran number w next cause sendings r (by_request request k pair i there role) = absurd (cc)
change-ran number w next cause sendings r (by_early_request request k pair i there role) = absurd (cc)
change-ran number w next cause sendings r (by_enter one terminal opener t e q o) = absurd (cc)
change-ran number w next cause sendings r (by_print one terminal reply t e i o n) = absurd (cc)
change-ran number w next cause sendings r (by_stop x s h) = absurd (cc)
change-ran number w next cause sendings r (by_mark node x s run n) = absurd (cc)
change-ran number w next cause sendings r (by_reload x s m t l) = absurd (cc)

none-of-two : (number : ℕ) (w : World) (first second : Option Stepped)
    → lifted number w (first_step first second) ≡ None
    → (lifted number w first ≡ None) × (lifted number w second ≡ None)
none-of-two number w None second e = (refl, e)
none-of-two number w (Some one) second e = absurd (cc)

copy-none : (site : Site) (number : ℕ) (pair : Pair) (w : World) (k : Which)
    → (run_copy site number pair w First ≡ None) × (run_copy site number pair w Second ≡ None)
    → run_copy site number pair w k ≡ None
copy-none site number pair w First n = n.0
copy-none site number pair w Second n = n.1

-- where nothing is computed, nothing is permitted
pub run-idle : (site : Site) (number : ℕ) (w : World) → run_done site number w ≡ None
    → IsIdleFor site w (Running number)
run-idle site number w none sendings next c =
    let ran = change-ran number w next (Running number) sendings refl c in
    let two : run_pair site number w (Some ran.pair) ≡ None = ap (run_pair site number w) (sym ran.there) ∙ none in
    let copy = copy-none site number ran.pair w ran.k
    (none-of-two number w (step_of_copy site number ran.pair w.downs (records_of w) First)
    (step_of_copy site number ran.pair w.downs (records_of w) Second) two) in
    ran.some (ap (run_as site number ran.k ran.pair w) (sym ran.role) ∙ copy)

not-acting : (site : Site) (number : ℕ) (k : Which) (pair : Pair) (w : World) (role : Role) → (role ≡ Acting → ⊥)
    → run_as site number k pair w role ≡ None
not-acting site number k pair w Acting n = absurd (n refl)
not-acting site number k pair w Watching n = refl
not-acting site number k pair w Gone n = refl
not-acting site number k pair w Blank n = refl

first-made : (number : ℕ) (w : World) (first second : Option Stepped) (done : Done) → lifted number w first ≡ Some done
    → lifted number w (first_step first second) ≡ Some done
first-made number w None second done e = absurd (cc)
first-made number w (Some one) second done e = e

second-made : (number : ℕ) (w : World) (first second : Option Stepped) (done : Done) → lifted number w first ≡ None
    → lifted number w second ≡ Some done
    → lifted number w (first_step first second) ≡ Some done
second-made number w None second done n e = e
second-made number w (Some one) second done n e = absurd (cc)

pair-only : (site : Site) (number : ℕ) (pair : Pair) (w : World) (done : Done) (k : Which)
    → (pair.first.role ≡ Acting → pair.second.role ≡ Acting → ⊥)
    → (copy_of k pair).role ≡ Acting → run_copy site number pair w k ≡ Some done
    → run_pair site number w (Some pair) ≡ Some done
pair-only site number pair w done First alone role e =
    first-made number w (step_of_copy site number pair w.downs (records_of w) First)
    (step_of_copy site number pair w.downs (records_of w) Second) done e
pair-only site number pair w done Second alone role e =
    second-made number w (step_of_copy site number pair w.downs (records_of w) First)
    (step_of_copy site number pair w.downs (records_of w) Second) done
    (not-acting site number First pair w pair.first.role (λ a. alone a role)) e

-- where at most one copy acts, and none is acknowledged that hasn't sent, the computed change alone is permitted
pub run-only : (site : Site) (number : ℕ) (w next : World) (sendings : List Sending)
    → ((pair : Pair) → slice_get w.processes number ≡ Some pair
    → (pair.first.role ≡ Acting → pair.second.role ≡ Acting → ⊥) × ((k : Which) → IsSettled (copy_of k pair)))
    → Change site w (Running number) sendings next
    → run_done site number w ≡ Some (record { world = next; sendings = sendings })
run-only site number w next sendings ok c =
    let ran = change-ran number w next (Running number) sendings refl c in
    let known = ok ran.pair ran.there in
    let copy : run_copy site number ran.pair w ran.k ≡ Some (record { world = next; sendings = sendings }) =
    ap (run_as site number ran.k ran.pair w) ran.role ∙ ran.exact (known.1 ran.k) in
    ap (run_pair site number w) ran.there ∙ pair-only site number ran.pair w _ ran.k known.0 ran.role copy
