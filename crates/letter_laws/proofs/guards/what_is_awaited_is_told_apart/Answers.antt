use Rattle.std.proofs.Common.{inl, inr, refl, ap}
use Rattle.gd_words.specs.declared.message.Request.{Request}
use Rattle.awaited_requests.specs.Examples.{first_request}
use Rattle.letter_laws.proofs.guards.what_is_awaited_is_told_apart.Goals as goal

pub returns-clause-unsent : goal.returns-clause-unsent
returns-clause-unsent c = λ sent. sent.terminals 0 (record { entered = 1; printed = 0 }) first_request refl (inl refl)

pub returns-clause-other : goal.returns-clause-other
returns-clause-other c =
    λ sent. elim (sent.terminals 0 (record { entered = 1; printed = 0 }) first_request refl (inl refl)) [
      | inl same ↦ (let number = ap (λ (r : Request). r.number) same in cc)
      | inr none ↦ none
    ]
