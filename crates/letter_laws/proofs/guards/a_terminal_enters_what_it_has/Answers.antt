use Rattle.std.proofs.Common.{◌≡◌, ◌-◌, ◌≤◌, ℕ, zero, suc, ℤ, pos, List, [], ◌∷◌, Some, slice_get, refl, subst, arith}
use Rattle.plain_semantics.specs.Machine.{next_request}
use Rattle.awaited_requests.specs.process_histories.specs.Served.{disc_site}
use Rattle.world_semantics.specs.World.{Terminal}
use Rattle.world_semantics.proofs.Lists.{some-same}
use Rattle.letter_laws.proofs.guards.a_terminal_enters_what_it_has.Goals as goal

its-own : (number : ℕ) (terminal : Terminal)
    → slice_get (record { entered = 1; printed = 0 } ∷ []) number ≡ Some terminal → 1 ≤ terminal.entered
    → (words : List ℤ) × (next_request disc_site number (terminal.entered - 1) ≡ Some words)
its-own zero terminal there some =
    subst (λ (t : Terminal). (words : List ℤ) × (next_request disc_site 0 (t.entered - 1) ≡ Some words))
    (some-same there) (pos 2 ∷ pos 1 ∷ pos 5 ∷ [], refl)
its-own (suc number) terminal there some = absurd (cc)

pub returns-clause-one : goal.returns-clause-one
returns-clause-one c = its-own

pub returns-clause-more : goal.returns-clause-more
returns-clause-more c = λ all. let second = (all 0 (record { entered = 2; printed = 1 }) refl (omega arith)).1 in cc
