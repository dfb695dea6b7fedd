-- Where none of the acts that can be tried is possible, none is.
use Rattle.std.proofs.Common.{◌≡◌, ℕ, zero, suc, ◌+◌, ◌<◌, Bool, true, false, ◌&&◌, List, [], ◌∷◌, length, Option, Some}
use Rattle.std.proofs.Common.{None, is_some, is_none, slice_get, refl, ap, sym, ◌∙◌, arith}
use Rattle.std.specs.Option.{option_map}
use Rattle.tal_tree.specs.declared.act.Act.{Act}
use Rattle.tal_tree.specs.declared.act.Act.TheVariants.{Step, Take, Enter, Print}
use Rattle.tal_tree.specs.declared.site.Site.{Site}
use Rattle.tal_tree.specs.declared.site.TerminalSpec.{TerminalSpec}
use Rattle.tal_tree.specs.declared.site.Who.TheVariants as who
use Rattle.process_semantics.specs.declared.point.Point.{Point}
use Rattle.process_semantics.specs.declared.point.Point.TheVariants as point
use Rattle.process_semantics.specs.Process as process
use Rattle.plain_semantics.specs.declared.slot.Opener.{Opener}
use Rattle.plain_semantics.specs.declared.slot.Slot.{Slot}
use Rattle.plain_semantics.specs.declared.slot.Slot.TheVariants.{Empty, Waiting, Taken, Answered}
use Rattle.plain_semantics.specs.Openers.{opener_on, opener_of}
use Rattle.plain_semantics.specs.Machine.{Plain, PlainProcess, made, step_made, step_at, take_made, take_at, take_slot}
use Rattle.plain_semantics.specs.Machine.{enter_made, print_made, slot_of, IsStill}
use Rattle.plain_machine.specs.Rounds.{enter_of, next_move, print_of, move_of, move_at, waiting_from}
use Rattle.plain_machine.specs.Stillness.{has_waiting, none_of, is_still}
use Rattle.plain_machine.proofs.Waiting.{took-first}

and-left : (a b : Bool) → a && b ≡ true → a ≡ true
and-left true b both = refl
and-left false b both = both

and-right : (a b : Bool) → a && b ≡ true → b ≡ true
and-right true b both = both
and-right false b both = absurd (cc)

none-is : {A : Type 0} (o : Option A) → is_none o ≡ true → o ≡ None
none-is None gone = refl
none-is (Some x) gone = absurd (cc)

there : {A : Type 0} (xs : List A) (k : ℕ) (x : A) → slice_get xs k ≡ Some x → k < length xs
there [] k x found = absurd (cc)
there (y ∷ xs) zero x found = omega arith
there (y ∷ xs) (suc k) x found = omega (arith, there xs k x found)

-- each act of a sweep in which none is possible
none_of-at : (site : Site) (plain : Plain) (act : Plain → ℕ → Act) (n left k : ℕ)
    → none_of site plain act n left ≡ true → k < left
    → made site plain (act plain (n + k)) ≡ None
none_of-at site plain act n zero k none within = absurd (omega arith)
none_of-at site plain act n (suc left) zero none within =
    let e : n + 0 ≡ n = omega arith in
    ap (λ j. made site plain (act plain j)) e
    ∙ none-is (made site plain (act plain n))
    (and-left (is_none (made site plain (act plain n))) (none_of site plain act (n + 1) left) none)
none_of-at site plain act n (suc left) (suc k) none within =
    let e : n + suc k ≡ (n + 1) + k = omega arith in
    let less : k < left = omega arith in
    ap (λ j. made site plain (act plain j)) e
    ∙ none_of-at site plain act (n + 1) left k
    (and-right (is_none (made site plain (act plain n))) (none_of site plain act (n + 1) left) none) less

none_of-there : (site : Site) (plain : Plain) (act : Plain → ℕ → Act) (left k : ℕ)
    → none_of site plain act 0 left ≡ true → k < left
    → made site plain (act plain k) ≡ None
none_of-there site plain act left k none within =
    let e : k ≡ 0 + k = omega arith in
    ap (λ j. made site plain (act plain j)) e ∙ none_of-at site plain act 0 left k none within

-- a terminal that isn't there is no opener
no-opener : (site : Site) (terminal : ℕ) → slice_get site.terminals terminal ≡ None
    → opener_of site (who.Terminal terminal) ≡ None
no-opener site terminal gone =
    ap (λ o. opener_on site (who.Terminal terminal) (option_map (λ spec. spec.target) o)) gone

enter-none : (site : Site) (plain : Plain) (t : ℕ) (spec : Option TerminalSpec) → slice_get site.terminals t ≡ spec
    → none_of site plain enter_of 0 (length site.terminals) ≡ true → made site plain (Enter t) ≡ None
enter-none site plain t None gone none =
    ap (λ (opener : Option Opener). enter_made site t opener plain (slot_of plain opener)) (no-opener site t gone)
enter-none site plain t (Some spec) found none =
    none_of-there site plain enter_of (length site.terminals) t none (there site.terminals t spec found)

print-none : (site : Site) (plain : Plain) (t : ℕ) (spec : Option TerminalSpec) → slice_get site.terminals t ≡ spec
    → none_of site plain print_of 0 (length site.terminals) ≡ true → made site plain (Print t) ≡ None
print-none site plain t None gone none =
    ap (λ (opener : Option Opener). print_made t opener plain (slot_of plain opener)) (no-opener site t gone)
print-none site plain t (Some spec) found none =
    none_of-there site plain print_of (length site.terminals) t none (there site.terminals t spec found)

move-is : (plain : Plain) (p : ℕ) (one : PlainProcess) (stands : Point) → slice_get plain.processes p ≡ Some one
    → process.point one.state ≡ stands
    → next_move plain p ≡ move_at p one.slots stands
move-is plain p one stands found at = ap (move_of p) found ∙ ap (move_at p one.slots) at

step-by : (site : Site) (plain : Plain) (p : ℕ) (one : PlainProcess) (stands : Point)
    → slice_get plain.processes p ≡ Some one → process.point one.state ≡ stands
    → made site plain (move_at p one.slots stands) ≡ None → made site plain (Step p) ≡ None
step-by site plain p one point.Take found at none = ap (step_made site p plain) found ∙ ap (step_at site p one plain) at
step-by site plain p one point.Inner found at none = none
step-by site plain p one point.Ask found at none = none
step-by site plain p one point.Await found at none = none
step-by site plain p one point.Answer found at none = none
step-by site plain p one point.AtCheckpoint found at none = none
step-by site plain p one point.Device found at none = none
step-by site plain p one point.Ended found at none = none

step-none : (site : Site) (plain : Plain) (p : ℕ) (one : Option PlainProcess) → slice_get plain.processes p ≡ one
    → none_of site plain next_move 0 (length plain.processes) ≡ true → made site plain (Step p) ≡ None
step-none site plain p None gone none = ap (step_made site p plain) gone
step-none site plain p (Some one) found none =
    step-by site plain p one (process.point one.state) found refl
    (ap (made site plain) (sym (move-is plain p one (process.point one.state) found refl))
    ∙ none_of-there site plain next_move (length plain.processes) p none (there plain.processes p one found))

none-waits : (number place : ℕ) (one : PlainProcess) (plain : Plain) (slots : List Slot) (k : ℕ)
    → has_waiting slots ≡ false
    → take_slot number place one plain (slice_get slots k) ≡ None
none-waits number place one plain [] k none = refl
none-waits number place one plain (Waiting words ∷ slots) k none = absurd (cc)
none-waits number place one plain (Empty ∷ slots) zero none = refl
none-waits number place one plain (Empty ∷ slots) (suc k) none = none-waits number place one plain slots k none
none-waits number place one plain (Taken ∷ slots) zero none = refl
none-waits number place one plain (Taken ∷ slots) (suc k) none = none-waits number place one plain slots k none
none-waits number place one plain (Answered words ∷ slots) zero none = refl
none-waits number place one plain (Answered words ∷ slots) (suc k) none = none-waits number place one plain slots k none

take-by : (site : Site) (plain : Plain) (p o : ℕ) (one : PlainProcess) (stands : Point)
    → slice_get plain.processes p ≡ Some one → process.point one.state ≡ stands
    → made site plain (move_at p one.slots stands) ≡ None → take_at p o one plain stands ≡ None
take-by site plain p o one point.Take found at none =
    let first : take_slot p (waiting_from 0 one.slots) one plain (slice_get one.slots (waiting_from 0 one.slots))
    ≡ None =
    sym (ap (take_made p (waiting_from 0 one.slots) plain) found
    ∙ ap (take_at p (waiting_from 0 one.slots) one plain) at) ∙ none in
    none-waits p o one plain one.slots o (sym (took-first p (waiting_from 0 one.slots) one plain one.slots)
    ∙ ap is_some first)
take-by site plain p o one point.Inner found at none = refl
take-by site plain p o one point.Ask found at none = refl
take-by site plain p o one point.Await found at none = refl
take-by site plain p o one point.Answer found at none = refl
take-by site plain p o one point.AtCheckpoint found at none = refl
take-by site plain p o one point.Device found at none = refl
take-by site plain p o one point.Ended found at none = refl

take-none : (site : Site) (plain : Plain) (p o : ℕ) (one : Option PlainProcess) → slice_get plain.processes p ≡ one
    → none_of site plain next_move 0 (length plain.processes) ≡ true → made site plain (Take p o) ≡ None
take-none site plain p o None gone none = ap (take_made p o plain) gone
take-none site plain p o (Some one) found none =
    ap (take_made p o plain) found
    ∙ take-by site plain p o one (process.point one.state) found refl
    (ap (made site plain) (sym (move-is plain p one (process.point one.state) found refl))
    ∙ none_of-there site plain next_move (length plain.processes) p none (there plain.processes p one found))

abbrev no_enter : Site → Plain → Bool
no_enter site plain = none_of site plain enter_of 0 (length site.terminals)

abbrev no_print : Site → Plain → Bool
no_print site plain = none_of site plain print_of 0 (length site.terminals)

abbrev no_move : Site → Plain → Bool
no_move site plain = none_of site plain next_move 0 (length plain.processes)

pub all-still : (site : Site) (plain : Plain) → is_still site plain ≡ true → IsStill site plain
all-still site plain still (Enter t) =
    enter-none site plain t (slice_get site.terminals t) refl
    (and-left (no_enter site plain) (no_print site plain)
    (and-left (no_enter site plain && no_print site plain) (no_move site plain) still))
all-still site plain still (Print t) =
    print-none site plain t (slice_get site.terminals t) refl
    (and-right (no_enter site plain) (no_print site plain)
    (and-left (no_enter site plain && no_print site plain) (no_move site plain) still))
all-still site plain still (Step p) =
    step-none site plain p (slice_get plain.processes p) refl
    (and-right (no_enter site plain && no_print site plain) (no_move site plain) still)
all-still site plain still (Take p o) =
    take-none site plain p o (slice_get plain.processes p) refl
    (and-right (no_enter site plain && no_print site plain) (no_move site plain) still)

none_of-all : (site : Site) (plain : Plain) (act : Plain → ℕ → Act) (n left : ℕ) → IsStill site plain
    → none_of site plain act n left ≡ true
none_of-all site plain act n zero still = refl
none_of-all site plain act n (suc left) still =
    ap (λ m. is_none m && none_of site plain act (n + 1) left) (still (act plain n))
    ∙ none_of-all site plain act (n + 1) left still

pub still-told : (site : Site) (plain : Plain) → IsStill site plain → is_still site plain ≡ true
still-told site plain still =
    ap (λ first. first && no_print site plain && no_move site plain)
    (none_of-all site plain enter_of 0 (length site.terminals) still)
    ∙ ap (λ second. second && no_move site plain) (none_of-all site plain print_of 0 (length site.terminals) still)
    ∙ none_of-all site plain next_move 0 (length plain.processes) still
