-- Constants, and the steps of FORs: they have the tokens in which they are found, and are found in them.
use Rattle.std.proofs.Common.{◌≡◌, List, ◌∷◌, Some, None, refl, ap, ◌∙◌}
use Rattle.std.specs.Prelude.{option_map}
use Rattle.tal_tokens.specs.declared.token.At.{At}
use Rattle.tal_tokens.specs.declared.token.Token.{Token}
use Rattle.tal_tokens.specs.declared.token.Token.TheVariants as tok
use Rattle.tal_syntax.specs.Grammar as g
use Rattle.tal_builder.specs.declared.plain_token.PlainToken.TheVariants as plain
use Rattle.tal_builder.specs.PlainTokens.{plain_of}
use Rattle.tal_builder.specs.Parse.{Found, atom_at, constant_after, constant_at, step_after, step_at}
use Rattle.tal_builder.proofs.Told.{Told, mapped}
use Rattle.tal_builder.proofs.SoundTokens.{plain_is}

-- a part is found in its tokens
abbrev pub Is : {X : Type 0} → (X → List Token → List Token) → (List Token → Found X) → Type 0
Is of_x reader = (ks : List Token) → Told (reader ks) (λ r. of_x r.0 r.1 ≡ ks)

atom_is : Is g.of_atom atom_at
atom_is (tok.Number at n ∷ ks) = record { told = refl }
atom_is (tok.Name at name ∷ ks) = record { told = refl }
atom_is _ = record { told = tt }

constant_after_is : (ks : List Token) (o : Found At) → Told o (λ r. tok.Minus r.0 ∷ r.1 ≡ ks)
    → Told (constant_after ks o) (λ r. g.of_constant r.0 r.1 ≡ ks)
constant_after_is ks None h = mapped (atom_at ks) _ (atom_is ks) (λ v p. p)
constant_after_is ks (Some (sign, us)) h = mapped (atom_at us) _ (atom_is us) (λ v p. rw p h.told)

pub constant_is : Is g.of_constant constant_at
constant_is ks = constant_after_is ks (plain_of plain.Minus ks) (plain_is plain.Minus ks)

step_after_is : (ks : List Token) (o : Found At) → Told o (λ r. tok.By r.0 ∷ r.1 ≡ ks)
    → Told (step_after ks o) (λ r. g.of_step r.0 r.1 ≡ ks)
step_after_is ks None h = record { told = refl }
step_after_is ks (Some (at, us)) h =
    mapped (constant_at us) _ (constant_is us) (λ c p. ap (λ ts. tok.By at ∷ ts) p ∙ h.told)

pub step_is : Is g.of_step step_at
step_is ks = step_after_is ks (plain_of plain.By ks) (plain_is plain.By ks)

pub found_constant : (c : g.Constant) (ks : List Token) → constant_at (g.of_constant c ks) ≡ Some (c, ks)
found_constant (g.positive (g.digits at v)) ks = refl
found_constant (g.positive (g.known at name)) ks = refl
found_constant (g.negative sign (g.digits at v)) ks = refl
found_constant (g.negative sign (g.known at name)) ks = refl

pub found_step : (s : g.Step) (ks : List Token) → plain_of plain.By ks ≡ None → step_at (g.of_step s ks) ≡ Some (s, ks)
found_step g.step_one ks q = ap (step_after ks) q
found_step (g.step_by at c) ks q = ap (option_map (λ c. (g.step_by at c.0, c.1))) (found_constant c ks)
