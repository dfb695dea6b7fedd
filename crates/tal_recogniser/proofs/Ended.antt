-- Where nothing is to come the last token was the end.
use Rattle.std.proofs.Common.{◌≡◌, ◌⊎◌, inl, inr, Bool, true, false, List, [], ◌∷◌, ◌++◌, Option, Some, None, refl, sym}
use Rattle.std.proofs.Common.{ap, ◌∙◌, append_assoc}
use Rattle.std.proofs.lemmas.Option.{none-some}
use Rattle.tal_tokens.specs.declared.token.At.{At}
use Rattle.tal_tokens.specs.declared.token.Token.{Token}
use Rattle.tal_tokens.specs.declared.token.Token.TheVariants as tok
use Rattle.tal_recogniser.specs.declared.symbol.Symbol.{Symbol}
use Rattle.tal_recogniser.specs.declared.symbol.Symbol.TheVariants as sym
use Rattle.tal_recogniser.specs.ExpressionTable.{Stack}
use Rattle.tal_recogniser.specs.WantedTable.{finish_step}
use Rattle.tal_recogniser.specs.Machine.{step, vanishes, fed_by, feed, noted, trace, start}

-- the end is to come last
abbrev IsGrounded : Stack → Type 0
IsGrounded ss = (front : Stack) × (ss ≡ front ++ sym.WantFinish ∷ [])

-- it still is, or it was this token and nothing is to come
abbrev Stays : Token → Option Stack → Type 0
Stays k None = Unit {0}
Stays k (Some ss) = IsGrounded ss ⊎ ((at : At) × (k ≡ tok.Finish at) × (ss ≡ []))

stays-last : (k : Token) → Stays k (fed_by (finish_step k) false [] None)
stays-last (tok.Finish at) = inr (at, refl, refl)
stays-last _ = tt

stays-by : (k : Token) (o : Option Stack) (b : Bool) (front : Stack) (later : Option Stack) → Stays k later
    → Stays k (fed_by o b (front ++ sym.WantFinish ∷ []) later)
stays-by k (Some ts) b front later h = inl (ts ++ front, sym (append_assoc ts front (sym.WantFinish ∷ [])))
stays-by k None true front later h = h
stays-by k None false front later h = tt

stays : (k : Token) (front : Stack) → Stays k (feed k (front ++ sym.WantFinish ∷ []))
stays k [] = stays-last k
stays k (s ∷ front) = stays-by k (step s k) (vanishes s) front (feed k (front ++ sym.WantFinish ∷ [])) (stays k front)

abbrev EndsIn : List Token → Type 0
EndsIn ks = (front : List Token) × (at : At) × (ks ≡ front ++ tok.Finish at ∷ [])

abbrev some_front : Option Stack → Stack
some_front None = []
some_front (Some ss) = ss

abbrev first_symbol : Stack → Option Symbol
first_symbol [] = None
first_symbol (s ∷ ss) = Some s

bare : (s : Symbol) (ss : Stack) → s ∷ ss ≡ [] → ⊥
bare s ss e = none-some s (sym (ap first_symbol e))

nothing-on : (ks : List Token) → (trace [] ks).0 ≡ Some [] → ks ≡ []
nothing-on [] e = refl
nothing-on (k ∷ ks) e = absurd (none-some [] e)

not-bare : (front : Stack) → front ++ sym.WantFinish ∷ [] ≡ [] → ⊥
not-bare [] e = bare sym.WantFinish [] e
not-bare (s ∷ front) e = bare s (front ++ sym.WantFinish ∷ []) e

ended-on : (k : Token) (ks : List Token) (o : Option Stack) → Stays k o → (noted o (λ ts. trace ts ks)).0 ≡ Some []
    → ((front : Stack) → (trace (front ++ sym.WantFinish ∷ []) ks).0 ≡ Some [] → EndsIn ks) → EndsIn (k ∷ ks)
ended-on k ks None h e go = absurd (none-some [] e)
ended-on k ks (Some ss) (inl (front, g)) e go =
    let r : EndsIn ks = go front (ap (λ s. (trace s ks).0) (sym g) ∙ e) in
    (k ∷ r.0, r.1, ap (λ l. k ∷ l) r.2)
ended-on k ks (Some ss) (inr (at, same, g)) e go =
    ([], at, ap (λ j. j ∷ ks) same ∙ ap (λ l. tok.Finish at ∷ l) (nothing-on ks (ap (λ s. (trace s ks).0) (sym g) ∙ e)))

ended-from : (ks : List Token) (front : Stack) → (trace (front ++ sym.WantFinish ∷ []) ks).0 ≡ Some [] → EndsIn ks
ended-from [] front e = absurd (not-bare front (ap some_front e))
ended-from (k ∷ ks) front e =
    ended-on k ks (feed k (front ++ sym.WantFinish ∷ [])) (stays k front) e (ended-from ks)

pub ended : (ks : List Token) → (trace start ks).0 ≡ Some []
    → (front : List Token) × (at : At) × (ks ≡ front ++ tok.Finish at ∷ [])
ended ks e = ended-from ks (sym.Lines ∷ []) e
