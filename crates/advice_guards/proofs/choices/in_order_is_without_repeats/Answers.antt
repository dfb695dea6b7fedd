use Rattle.std.proofs.Common.{◌<◌, inl, [], ◌∷◌, arith, refl}
use Rattle.advice_guards.proofs.Listed.{in-order}
use Rattle.advice_guards.proofs.choices.in_order_is_without_repeats.Goals as goal

pub returns-clause-ordered : goal.returns-clause-ordered
returns-clause-ordered c = in-order (0 ∷ 2 ∷ 3 ∷ []) refl

pub returns-clause-repeated : goal.returns-clause-repeated
returns-clause-repeated c = λ is. let wrong : 1 < 1 = is.0 1 (inl refl) in absurd (omega arith)

pub returns-clause-turned : goal.returns-clause-turned
returns-clause-turned c = λ is. let wrong : 3 < 2 = is.1.0 2 (inl refl) in absurd (omega arith)
