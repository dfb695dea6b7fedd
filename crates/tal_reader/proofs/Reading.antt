-- What a text reads as, and for which fault it is refused.
use Rattle.std.proofs.Common.{◌≡◌, inl, inr, ℕ, List, [], ◌∷◌, ◌++◌, Some, None, Ok, Err, refl, sym, ap, subst, ◌∙◌}
use Rattle.std.proofs.Common.{◌<◌, length, get_or, zero, suc, arith}
use Rattle.std.specs.Prelude.{Result, slice_get}
use Rattle.tal_tokens.specs.declared.lexer.TokenList.{TokenList}
use Rattle.tal_tokens.specs.declared.token.At.{At}
use Rattle.tal_tokens.specs.declared.token.Token.{Token}
use Rattle.tal_tokens.specs.declared.token.Token.TheVariants as tok
use Rattle.tal_tokens.specs.Lexer.{tokens_of}
use Rattle.tal_builder.specs.tal_syntax.specs.Grammar as g
use Rattle.tal_builder.specs.tal_syntax.specs.Expected as expect
use Rattle.tal_builder.specs.tal_syntax.specs.Expected.{IsWithin, IsUnexpected, IsTooDeep, IsUnfinished}
use Rattle.tal_recogniser.specs.declared.judgement.Judgement.{Judgement}
use Rattle.tal_recogniser.specs.declared.judgement.Judgement.TheVariants.{Fine, Unfinished, Unexpected, TooDeep}
use Rattle.tal_recogniser.specs.Judged as judged
use Rattle.tal_recogniser.specs.Machine.{trace, start}
use Rattle.tal_recogniser.proofs.CompleteTexts.{complete-text}
use Rattle.tal_recogniser.proofs.Ended as recognised
use Rattle.tal_recogniser.proofs.Once.{one_judgement}
use Rattle.tal_builder.specs.Built.{IsSyntax}
use Rattle.tal_builder.proofs.Exact.{one_syntax}
use Rattle.tal_tree.specs.declared.fault.TalFault.{TalFault}
use Rattle.tal_tree.specs.declared.fault.TalFault.TheVariants as fault
use Rattle.tal_tree.specs.declared.program.Program.{Program}
use Rattle.tal_meaning.specs.tal_names.specs.Faults.{IsLeast}
use Rattle.tal_meaning.specs.tal_rules.specs.Texts.{faults}
use Rattle.tal_meaning.specs.Programs.{tree_of}
use Rattle.tal_reader.specs.Places.{place_of}
use Rattle.tal_reader.specs.Reads.{IsSyntaxOf, Reads, IsRefused, misspelt, unexpected, too_deep, unruly, IsRead}
use Rattle.tal_reader.specs.Reads.{IsJudged}
use Rattle.tal_reader.proofs.Ends.{AllGoOn, Ended, whole, broken, tokens-end}
use Rattle.tal_reader.proofs.Least.{one-answer, none-least}
use Rattle.tal_tree.specs.declared.limit.ProgramLimit.TheVariants as program_limit

-- One program, one fault

same-tokens : (text : List ℕ) (t : g.Text) → IsSyntaxOf text t → g.of_text t ≡ (tokens_of text).list
same-tokens text t s = sym (ap (λ (l : TokenList). l.list) s.1)

within : (text : List ℕ) (t : g.Text) → IsSyntaxOf text t → IsWithin 33 (tokens_of text).list
within text t s = (t, s.0, same-tokens text t s, s.2)

one-syntax : (text : List ℕ) (t u : g.Text) → IsSyntaxOf text t → IsSyntaxOf text u → t ≡ u
one-syntax text t u s r =
    one_syntax (tokens_of text).list t u (s.0, same-tokens text t s, s.2) (r.0, same-tokens text u r, r.2)

pub one-program : (text : List ℕ) (p q : Program) → Reads text p → Reads text q → p ≡ q
one-program text p q r s = r.3 ∙ ap tree_of (one-syntax text r.0 s.0 r.1 s.1) ∙ sym s.3

-- what is refused and what has a syntax is judged in one way
once : (text : List ℕ) (i j : Judgement) → judged.Judged (tokens_of text).list i
    → judged.Judged (tokens_of text).list j → i ≡ j
once text i j a b = one_judgement (tokens_of text).list i j a b

one-token : (ks : List Token) (j k : ℕ) (one other : Token) → j ≡ k → slice_get ks j ≡ Some one
    → slice_get ks k ≡ Some other → one ≡ other
one-token ks j k one other e a b = cc

one-place : (ks : List Token) (j k : ℕ) (one other : Token) → j ≡ k → slice_get ks j ≡ Some one
    → slice_get ks k ≡ Some other → place_of one ≡ place_of other
one-place ks j k one other e a b = ap place_of (one-token ks j k one other e a b)

pub one-fault : (text : List ℕ) (f h : TalFault) → IsRefused text f → IsRefused text h → f ≡ h
one-fault text f h (misspelt e u) (misspelt d v) = (let same : Some f ≡ Some h = sym e ∙ d in cc)
one-fault text f h (misspelt e u) (unexpected k token v g d) =
    absurd (let s : Unfinished ≡ Unexpected k = once text Unfinished (Unexpected k) u v in cc)
one-fault text f h (misspelt e u) (too_deep k token v g d) =
    absurd (let s : Unfinished ≡ TooDeep k = once text Unfinished (TooDeep k) u v in cc)
one-fault text f h (misspelt e u) (unruly t least v l d) =
    absurd (let s : Unfinished ≡ Fine = once text Unfinished Fine u (within text t v) in cc)
one-fault text f h (unexpected j one u g e) (misspelt d v) =
    absurd (let s : Unexpected j ≡ Unfinished = once text (Unexpected j) Unfinished u v in cc)
one-fault text f h (unexpected j one u g e) (unexpected k other v i d) =
    let s : Unexpected j ≡ Unexpected k = once text (Unexpected j) (Unexpected k) u v in
    let same : j ≡ k = cc in
    e ∙ ap fault.Expected (one-place (tokens_of text).list j k one other same g i) ∙ sym d
one-fault text f h (unexpected j one u g e) (too_deep k other v i d) =
    absurd (let s : Unexpected j ≡ TooDeep k = once text (Unexpected j) (TooDeep k) u v in cc)
one-fault text f h (unexpected j one u g e) (unruly t least v l d) =
    absurd (let s : Unexpected j ≡ Fine = once text (Unexpected j) Fine u (within text t v) in cc)
one-fault text f h (too_deep j one u g e) (misspelt d v) =
    absurd (let s : TooDeep j ≡ Unfinished = once text (TooDeep j) Unfinished u v in cc)
one-fault text f h (too_deep j one u g e) (unexpected k other v i d) =
    absurd (let s : TooDeep j ≡ Unexpected k = once text (TooDeep j) (Unexpected k) u v in cc)
one-fault text f h (too_deep j one u g e) (too_deep k other v i d) =
    let s : TooDeep j ≡ TooDeep k = once text (TooDeep j) (TooDeep k) u v in
    let same : j ≡ k = cc in
    e ∙ ap (fault.Limit program_limit.Levels) (one-place (tokens_of text).list j k one other same g i) ∙ sym d
one-fault text f h (too_deep j one u g e) (unruly t least v l d) =
    absurd (let s : TooDeep j ≡ Fine = once text (TooDeep j) Fine u (within text t v) in cc)
one-fault text f h (unruly t least u l e) (misspelt d v) =
    absurd (let s : Fine ≡ Unfinished = once text Fine Unfinished (within text t u) v in cc)
one-fault text f h (unruly t least u l e) (unexpected k other v i d) =
    absurd (let s : Fine ≡ Unexpected k = once text Fine (Unexpected k) (within text t u) v in cc)
one-fault text f h (unruly t least u l e) (too_deep k other v i d) =
    absurd (let s : Fine ≡ TooDeep k = once text Fine (TooDeep k) (within text t u) v in cc)
one-fault text f h (unruly t least u l e) (unruly t2 least2 v m d) =
    let same : t2 ≡ t = one-syntax text t2 t v u in
    e ∙ one-answer (faults t) least least2 l (subst (λ x. IsLeast least2 (faults x)) same m) ∙ sym d

pub refused-as-none : (text : List ℕ) (f : TalFault) (p : Program) → IsRefused text f → Reads text p → ⊥
refused-as-none text f p (misspelt e u) r =
    (let none : (tokens_of text).fault ≡ None = ap (λ (l : TokenList). l.fault) r.1.1 in cc)
refused-as-none text f p (unexpected k token v g d) r =
    (let s : Unexpected k ≡ Fine = once text (Unexpected k) Fine v (within text r.0 r.1) in cc)
refused-as-none text f p (too_deep k token v g d) r =
    (let s : TooDeep k ≡ Fine = once text (TooDeep k) Fine v (within text r.0 r.1) in cc)
refused-as-none text f p (unruly t least v l d) r =
    let same : faults t ≡ [] = ap faults (one-syntax text t r.0 v r.1) ∙ r.2 in
    none-least least (subst (λ fs. IsLeast least fs) same l)

-- Answers

not-going : (front : List Token) (at : At) → AllGoOn (front ++ tok.Finish at ∷ []) → ⊥
not-going [] at a = a.0
not-going (k ∷ front) at a = not-going front at a.1

ends-in : (ks : List Token) → IsWithin 33 ks → (front : List Token) × (at : At) × (ks ≡ front ++ tok.Finish at ∷ [])
ends-in ks (t, n, e, a) = recognised.ended ks (ap (λ l. (trace start l).0) (sym e) ∙ ap (λ u. u.0) (complete-text t n))

-- tokens that are a text have no fault
faultless-by : (tokens : TokenList) → Ended tokens → IsWithin 33 tokens.list → tokens.fault ≡ None
faultless-by tokens (whole front at e l) w = e
faultless-by tokens (broken e a) w =
    let r = ends-in tokens.list w in absurd (not-going r.0 r.1 (subst AllGoOn r.2 a))

ended-as : (text : List ℕ) (tokens : TokenList) → tokens ≡ tokens_of text → Ended tokens
ended-as text tokens e = subst Ended (sym e) (tokens-end text)

syntax-as : (text : List ℕ) (tokens : TokenList) (t : g.Text) → tokens ≡ tokens_of text → IsWithin 33 tokens.list
    → IsSyntax tokens.list t → IsSyntaxOf text t
syntax-as text tokens t e w s =
    let none : tokens.fault ≡ None = faultless-by tokens (ended-as text tokens e) w in
    let as_of : tokens_of text ≡ record { list = g.of_text t; fault = None } =
    sym e ∙ ap (λ f. record tokens { fault = f }) none ∙ ap (λ l. record { list = l; fault = None }) (sym s.1) in
    (s.0, as_of, s.2)

pub fine-as : (text : List ℕ) (tokens : TokenList) (r : Result Program TalFault) → tokens ≡ tokens_of text
    → IsWithin 33 tokens.list
    → IsJudged tokens.list r → IsRead text r
fine-as text tokens (Ok p) e w (inl m) = absurd cc
fine-as text tokens (Ok p) e w (inr (t, s, j)) = (t, syntax-as text tokens t e w s, j.0, j.1)
fine-as text tokens (Err f) e w (inl m) = λ ne. absurd (ne cc)
fine-as text tokens (Err f) e w (inr (t, s, j)) =
    λ ne. (let l = j ne in unruly t l.0 (syntax-as text tokens t e w s) l.1 l.2)

pub misspelt-as : (text : List ℕ) (tokens : TokenList) (f : TalFault) → tokens ≡ tokens_of text → tokens.fault ≡ Some f
    → IsUnfinished 33 tokens.list
    → IsRead text (Err f)
misspelt-as text tokens f e i u = λ ne.
    misspelt (subst (λ (l : TokenList). l.fault ≡ Some f) e i) (subst (λ (l : TokenList). IsUnfinished 33 l.list) e u)

pub not-whole : (text : List ℕ) (tokens : TokenList) → tokens ≡ tokens_of text → tokens.fault ≡ None
    → IsUnfinished 33 tokens.list → ⊥
not-whole text tokens e none u = by (ended-as text tokens e)
  where
    by : Ended tokens → ⊥
    by (whole front at i l) = u.endless front at l
    by (broken i a) = cc

pub unexpected-as : (text : List ℕ) (tokens : TokenList) (k : ℕ) (token : Token) → tokens ≡ tokens_of text
    → IsUnexpected 33 tokens.list k
    → slice_get tokens.list k ≡ Some token → IsRead text (Err (fault.Expected (place_of token)))
unexpected-as text tokens k token e u i =
    λ ne. unexpected k token (subst (λ (l : TokenList). IsUnexpected 33 l.list k) e u)
    (subst (λ (l : TokenList). slice_get l.list k ≡ Some token) e i) refl

pub deep-as : (text : List ℕ) (tokens : TokenList) (k : ℕ) (token : Token) → tokens ≡ tokens_of text
    → IsTooDeep 33 tokens.list k
    → slice_get tokens.list k ≡ Some token → IsRead text (Err (fault.Limit program_limit.Levels (place_of token)))
deep-as text tokens k token e u i =
    λ ne. too_deep k token (subst (λ (l : TokenList). IsTooDeep 33 l.list k) e u)
    (subst (λ (l : TokenList). slice_get l.list k ≡ Some token) e i) refl

pub deep-there : (ks : List Token) (k : ℕ) → IsTooDeep 33 ks k → k < length ks
deep-there ks k (expect.too_deep t more h n e a d) = h

-- the token at a place in a list
pub token-at : (ks : List Token) (k : ℕ) (token : Token) → k < length ks → token ≡ get_or ks k token
    → slice_get ks k ≡ Some token
token-at [] k token h e = absurd (omega arith)
token-at (other ∷ ks) zero token h e = ap Some (sym e)
token-at (other ∷ ks) (suc k) token h e = token-at ks k token (omega arith) e
