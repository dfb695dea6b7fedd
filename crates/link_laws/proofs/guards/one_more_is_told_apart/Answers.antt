use Rattle.std.proofs.Common.{◌≡◌, ℕ, ◌+◌, [], ◌∷◌, length, length-append, refl, ap, ◌∙◌, arith}
use Rattle.link_laws.specs.Effects.{IsOneMore}
use Rattle.link_laws.proofs.guards.one_more_is_told_apart.Goals as goal

as-many : IsOneMore {A = ℕ} 2 (1 ∷ 2 ∷ []) (1 ∷ 2 ∷ []) → ⊥
as-many more =
    let fewer : 2 ≡ length more.front + length more.rest =
    ap length more.without ∙ length-append more.front more.rest in
    let most : 2 ≡ length more.front + length (2 ∷ more.rest) =
    ap length more.within ∙ length-append more.front (2 ∷ more.rest) in
    omega (arith, fewer, most)

pub returns : goal.returns
returns c = record {
  between = record { front = 1 ∷ []; rest = 3 ∷ []; without = refl; within = refl };
  last = record { front = 1 ∷ []; rest = []; without = refl; within = refl };
  none = as-many;
}
