-- The first slot in which a request waits.
use Rattle.std.proofs.Common.{◌≡◌, ℕ, suc, ◌+◌, List, [], ◌∷◌, Some, is_some, slice_get, refl, ap, ◌∙◌, arith}
use Rattle.tal_tree.specs.declared.site.Site.{Site}
use Rattle.process_semantics.specs.declared.point.Point.TheVariants as point
use Rattle.process_semantics.specs.Process as process
use Rattle.plain_semantics.specs.declared.slot.Slot.{Slot}
use Rattle.plain_semantics.specs.declared.slot.Slot.TheVariants.{Empty, Waiting, Taken, Answered}
use Rattle.plain_semantics.specs.Machine.{Plain, PlainProcess, made, take_made, take_at, take_slot}
use Rattle.plain_machine.specs.Rounds.{waiting_from, move_of, move_at, next_move}
use Rattle.plain_machine.specs.Stillness.{has_waiting}

pub waiting_from-suc : (n : ℕ) (slots : List Slot) → waiting_from (n + 1) slots ≡ suc (waiting_from n slots)
waiting_from-suc n [] = omega arith
waiting_from-suc n (Waiting words ∷ slots) = omega arith
waiting_from-suc n (Empty ∷ slots) = waiting_from-suc (n + 1) slots
waiting_from-suc n (Taken ∷ slots) = waiting_from-suc (n + 1) slots
waiting_from-suc n (Answered words ∷ slots) = waiting_from-suc (n + 1) slots

pub took-first : (number place : ℕ) (one : PlainProcess) (plain : Plain) (slots : List Slot)
    → is_some (take_slot number place one plain (slice_get slots (waiting_from 0 slots))) ≡ has_waiting slots
took-first number place one plain [] = refl
took-first number place one plain (Waiting words ∷ slots) = refl
took-first number place one plain (Empty ∷ slots) =
    ap (λ k. is_some (take_slot number place one plain (slice_get (Empty ∷ slots) k))) (waiting_from-suc 0 slots)
    ∙ took-first number place one plain slots
took-first number place one plain (Taken ∷ slots) =
    ap (λ k. is_some (take_slot number place one plain (slice_get (Taken ∷ slots) k))) (waiting_from-suc 0 slots)
    ∙ took-first number place one plain slots
took-first number place one plain (Answered words ∷ slots) =
    ap (λ k. is_some (take_slot number place one plain (slice_get (Answered words ∷ slots) k)))
    (waiting_from-suc 0 slots) ∙ took-first number place one plain slots

-- a process at Take can take exactly where a request waits
pub can-take : (site : Site) (plain : Plain) (number : ℕ) (one : PlainProcess)
    → slice_get plain.processes number ≡ Some one
    → process.point one.state ≡ point.Take → is_some (made site plain (next_move plain number)) ≡ has_waiting one.slots
can-take site plain number one there stands =
    ap (λ act. is_some (made site plain act)) (ap (move_of number) there ∙ ap (move_at number one.slots) stands)
    ∙ ap (λ o. is_some (take_made number (waiting_from 0 one.slots) plain o)) there
    ∙ ap (λ p. is_some (take_at number (waiting_from 0 one.slots) one plain p)) stands
    ∙ took-first number (waiting_from 0 one.slots) one plain one.slots
