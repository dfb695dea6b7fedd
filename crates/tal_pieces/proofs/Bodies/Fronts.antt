-- Tokens one after another: what stands behind a token, an expression and a target.
use Rattle.std.proofs.Common.{◌≡◌, List, ◌∷◌, ap, ◌∙◌}
use Rattle.tal_tokens.specs.declared.token.Token.{Token}
use Rattle.tal_syntax.specs.Grammar as g

pub behind : {t : Token} {all xs ys : List Token} → all ≡ t ∷ xs → xs ≡ ys → all ≡ t ∷ ys
behind {t = t} e d = e ∙ ap (λ ts. t ∷ ts) d

pub past : (x : g.Expr) {all xs ys : List Token} → all ≡ g.of_expr x xs → xs ≡ ys → all ≡ g.of_expr x ys
past x e d = e ∙ ap (g.of_expr x) d

pub past_spot : (x : g.Spot) {all xs ys : List Token} → all ≡ g.of_spot x xs → xs ≡ ys → all ≡ g.of_spot x ys
past_spot x e d = e ∙ ap (g.of_spot x) d
