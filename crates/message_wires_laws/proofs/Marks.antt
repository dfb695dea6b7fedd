-- After the tick of a node it has marked each processor that has stopped.
use Rattle.std.proofs.Common.{◌≡◌, ◌<◌, ℕ, zero, suc, ◌+◌, ◌&&◌, ◌||◌, Bool, true, false, not, if◌then◌else◌, List}
use Rattle.std.proofs.Common.{length, Option, Some, None, slice_get, refl, sym, ap, subst, ◌∙◌, arith, eq-eqb, ap₂}
use Rattle.std.specs.Cmp.Derive.{both_true}
use Rattle.std.proofs.lemmas.Option.{slice_get_within}
use Rattle.schedule.specs.declared.event.Event.TheVariants.{Tick}
use Rattle.world_semantics.specs.World.{is_running, has_marked}
use Rattle.computed_changes.specs.Stopped.{may_mark, world_at_down, marked_where, mark_where, down_done}
use Rattle.message_wires.specs.machine_states.specs.States.{Played, Makes, Skips, Would}
use Rattle.message_wires.specs.Wires.{Wires}
use Rattle.message_wires.specs.Play.{MachineState, marked_by, marks_from, state_after_tick, play}
use Rattle.message_wires_laws.proofs.Going.{downs-none}

-- a node has marked a processor
abbrev HasMarked : ℕ → ℕ → MachineState → Type 0
HasMarked node processor s = has_marked s.world.downs node processor ≡ true

-- marks stay
mark-stays : (node other processor : ℕ) (s : MachineState) → HasMarked node processor s
    → HasMarked node processor (marked_by node other s (down_done node other s.world))
mark-stays node other processor s has = by (slice_get s.world.stopped other)
  where
    grown : (new old : Bool) → old ≡ true → (new || old) ≡ true
    grown true old e = refl
    grown false old e = e

    may : (test : Bool) → HasMarked node processor (marked_by node other s (marked_where node other s.world test))
    may true = grown _ (has_marked s.world.downs node processor) has
    may false = has

    by : (stopped : Option Bool) → HasMarked node processor
        (marked_by node other s (mark_where node other s.world stopped))
    by None = has
    by (Some true) = may (may_mark node other s.world)
    by (Some false) = has

-- a processor that has stopped is marked
mark-made : (node processor : ℕ) (s : MachineState) → is_running s.world.stopped node ≡ true
    → slice_get s.world.stopped processor ≡ Some true
    → HasMarked node processor (marked_by node processor s (down_done node processor s.world))
mark-made node processor s runs stopped =
    subst (λ (one : Option Bool). HasMarked node processor
    (marked_by node processor s (mark_where node processor s.world one))) (sym stopped)
    (may (has_marked s.world.downs node processor) refl)
  where
    Made : Bool → Type 0
    Made test = HasMarked node processor (marked_by node processor s (marked_where node processor s.world test))

    new : (has_marked (world_at_down node processor s.world).world.downs node processor) ≡ true
    new = ap (λ b. b || has_marked s.world.downs node processor)
        (both_true (eq-eqb node node refl) (eq-eqb processor processor refl))

    may : (marked : Bool) → has_marked s.world.downs node processor ≡ marked → Made (may_mark node processor s.world)
    may true e = subst Made (sym (ap₂ (λ a b. a && not b) runs e)) e
    may false e = subst Made (sym (ap₂ (λ a b. a && not b) runs e)) new

all-stay : (node from more processor : ℕ) (s : MachineState) → HasMarked node processor s
    → HasMarked node processor (marks_from node from more s)
all-stay node from zero processor s has = has
all-stay node from (suc more) processor s has =
    all-stay node (from + 1) more processor _ (mark-stays node from processor s has)

all-made : (node from more k : ℕ) (s : MachineState) → is_running s.world.stopped node ≡ true → k < more
    → slice_get s.world.stopped (from + k) ≡ Some true
    → HasMarked node (from + k) (marks_from node from more s)
all-made node from zero k s runs low stopped = absurd (omega (arith, low))
all-made node from (suc more) zero s runs low stopped =
    let here : from + 0 ≡ from = omega arith in
    subst (λ n. HasMarked node n (marks_from node from (suc more) s)) (sym here)
    (all-stay node (from + 1) more from _ (mark-made node from s runs
    (subst (λ n. slice_get s.world.stopped n ≡ Some true) here stopped)))
all-made node from (suc more) (suc k) s runs low stopped =
    let there : from + suc k ≡ from + 1 + k = omega arith in
    let same = (downs-none node from 1 s).1 in
    subst (λ n. HasMarked node n (marks_from node from (suc more) s)) (sym there)
    (all-made node (from + 1) more k (marked_by node from s (down_done node from s.world))
    (ap (λ (xs : List Bool). is_running xs node) same ∙ runs) (omega (arith, low))
    (ap (λ (xs : List Bool). slice_get xs (from + 1 + k)) same ∙ ap (slice_get s.world.stopped) (sym there) ∙ stopped))

pub tick-downs : (s next : MachineState) (node processor : ℕ) → play s (Tick node) ≡ Makes next
    → slice_get next.world.stopped processor ≡ Some true
    → has_marked next.world.downs node processor ≡ true
tick-downs s next node processor e = subst Marks e (by (is_running s.world.stopped node) refl)
  where
    Marks : Played Wires → Type 0
    Marks (Makes next) =
        slice_get next.world.stopped processor ≡ Some true → has_marked next.world.downs node processor ≡ true
    Marks Skips = Unit {0}
    Marks (Would harm) = Unit {0}

    by : (test : Bool) → is_running s.world.stopped node ≡ test
        → Marks (if test then Makes (state_after_tick node (marks_from node 0 (length s.world.stopped) s)) else Skips)
    by true runs = λ stopped.
        let was : slice_get s.world.stopped processor ≡ Some true =
        ap (λ (xs : List Bool). slice_get xs processor) (sym (downs-none node 0 (length s.world.stopped) s).1)
        ∙ stopped in
        let here : 0 + processor ≡ processor = omega arith in
        subst (λ n. HasMarked node n (marks_from node 0 (length s.world.stopped) s)) here
        (all-made node 0 (length s.world.stopped) processor s runs (slice_get_within s.world.stopped processor true was)
        (subst (λ n. slice_get s.world.stopped n ≡ Some true) (sym here) was))
    by false runs = tt
