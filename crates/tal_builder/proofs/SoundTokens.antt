-- What stands first in tokens that begin with it.
use Rattle.std.proofs.Common.{◌≡◌, List, [], ◌∷◌, refl, ap}
use Rattle.tal_tokens.specs.declared.token.Token.{Token}
use Rattle.tal_tokens.specs.declared.token.Token.TheVariants as tok
use Rattle.tal_syntax.specs.Grammar as g
use Rattle.tal_builder.specs.declared.plain_token.PlainToken.{PlainToken}
use Rattle.tal_builder.specs.declared.plain_token.PlainToken.TheVariants as plain
use Rattle.tal_builder.specs.First.{name_of, called_of, rel_of, sign_of, scale_of, direction_of}
use Rattle.tal_builder.specs.PlainTokens.{token_of_plain, place_of, plain_of}
use Rattle.tal_builder.proofs.Told.{Told, mapped}

place_is : (m : PlainToken) (k : Token) → Told (place_of m k) (λ at. token_of_plain m at ≡ k)
place_is plain.And (tok.And at) = record { told = refl }
place_is plain.Begin (tok.Begin at) = record { told = refl }
place_is plain.By (tok.By at) = record { told = refl }
place_is plain.Do (tok.Do at) = record { told = refl }
place_is plain.Else (tok.Else at) = record { told = refl }
place_is plain.End (tok.End at) = record { told = refl }
place_is plain.Int (tok.Int at) = record { told = refl }
place_is plain.Literal (tok.Literal at) = record { told = refl }
place_is plain.Main (tok.Main at) = record { told = refl }
place_is plain.Or (tok.Or at) = record { told = refl }
place_is plain.Proc (tok.Proc at) = record { told = refl }
place_is plain.Then (tok.Then at) = record { told = refl }
place_is plain.Until (tok.Until at) = record { told = refl }
place_is plain.Assign (tok.Assign at) = record { told = refl }
place_is plain.Equal (tok.Equal at) = record { told = refl }
place_is plain.Minus (tok.Minus at) = record { told = refl }
place_is plain.Open (tok.Open at) = record { told = refl }
place_is plain.Close (tok.Close at) = record { told = refl }
place_is plain.OpenIndex (tok.OpenIndex at) = record { told = refl }
place_is plain.CloseIndex (tok.CloseIndex at) = record { told = refl }
place_is plain.Comma (tok.Comma at) = record { told = refl }
place_is plain.Semicolon (tok.Semicolon at) = record { told = refl }
place_is plain.Colon (tok.Colon at) = record { told = refl }
place_is plain.Finish (tok.Finish at) = record { told = refl }
place_is _ _ = record { told = tt }

pub plain_is : (m : PlainToken) (ks : List Token) → Told (plain_of m ks) (λ r. token_of_plain m r.0 ∷ r.1 ≡ ks)
plain_is m [] = record { told = tt }
plain_is m (k ∷ ks) = mapped (place_of m k) _ (place_is m k) (λ at e. ap (λ k. k ∷ ks) e)

pub name_is : (ks : List Token) → Told (name_of ks) (λ r. tok.Name r.0.0 r.0.1 ∷ r.1 ≡ ks)
name_is (tok.Name at name ∷ ks) = record { told = refl }
name_is _ = record { told = tt }

pub called_is : (ks : List Token) → Told (called_of ks) (λ r. tok.Name r.0 r.1 ∷ tok.Open r.2 ∷ r.3 ≡ ks)
called_is (tok.Name at name ∷ tok.Open start ∷ ks) = record { told = refl }
called_is _ = record { told = tt }

pub rel_is : (ks : List Token) → Told (rel_of ks) (λ r. g.of_rel r.0 ∷ r.1 ≡ ks)
rel_is (tok.Equal at ∷ ks) = record { told = refl }
rel_is (tok.Differs at ∷ ks) = record { told = refl }
rel_is (tok.Less at ∷ ks) = record { told = refl }
rel_is (tok.AtMost at ∷ ks) = record { told = refl }
rel_is (tok.Greater at ∷ ks) = record { told = refl }
rel_is (tok.AtLeast at ∷ ks) = record { told = refl }
rel_is _ = record { told = tt }

pub sign_is : (ks : List Token) → Told (sign_of ks) (λ r. g.of_sign r.0 ∷ r.1 ≡ ks)
sign_is (tok.Plus at ∷ ks) = record { told = refl }
sign_is (tok.Minus at ∷ ks) = record { told = refl }
sign_is _ = record { told = tt }

pub scale_is : (ks : List Token) → Told (scale_of ks) (λ r. g.of_scale r.0 ∷ r.1 ≡ ks)
scale_is (tok.Star at ∷ ks) = record { told = refl }
scale_is (tok.Slash at ∷ ks) = record { told = refl }
scale_is _ = record { told = tt }

pub direction_is : (ks : List Token) → Told (direction_of ks) (λ r. g.of_direction r.0 ∷ r.1 ≡ ks)
direction_is (tok.To at ∷ ks) = record { told = refl }
direction_is (tok.DownTo at ∷ ks) = record { told = refl }
direction_is _ = record { told = tt }
