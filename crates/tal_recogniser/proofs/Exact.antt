-- The machine's answers are exact.
use Rattle.std.proofs.Common.{◌≡◌, ℕ, ◌+◌, ◌<◌, ◌≤◌, List, [], ◌∷◌, ◌++◌, length, take, get_or, Option, Some, None}
use Rattle.std.proofs.Common.{refl, sym, ap, ◌∙◌, append_assoc, append-nil}
use Rattle.std.proofs.Math.Seq.{take-append_seam}
use Rattle.std.proofs.lemmas.Option.{none-some}
use Rattle.std.proofs.lemmas.List.{take_more, take_all}
use Rattle.tal_tokens.specs.declared.token.Token.{Token}
use Rattle.tal_syntax.specs.Grammar as g
use Rattle.tal_syntax.specs.Nesting.{nest_text}
use Rattle.tal_syntax.specs.Expected.{AllAtMost, Viable, IsWithin, Begins, IsUnexpected, IsTooDeep, too_deep}
use Rattle.tal_syntax.specs.Expected.{IsUnfinished}
use Rattle.tal_recogniser.specs.declared.symbol.Symbol.{Symbol}
use Rattle.tal_recogniser.specs.ExpressionTable.{Stack}
use Rattle.tal_recogniser.specs.Machine.{feed, open_levels, over, trace, start}
use Rattle.tal_recogniser.proofs.Things.{Things, of_things, Made, closings}
use Rattle.tal_recogniser.proofs.Sound.{Back, sound-trace}
use Rattle.tal_recogniser.proofs.Split.{on_from, none_from, levels-length, one_more, one_less, one_and_more}
use Rattle.tal_recogniser.proofs.Finished.{finished}
use Rattle.tal_recogniser.proofs.CompleteTexts.{complete-text}

-- after tokens the stack is reached, and none of them stands deeper than m levels
abbrev pub Reached : ℕ → List Token → Stack → Type 0
Reached m ks ss = ((trace start ks).0 ≡ Some ss) × AllAtMost m (trace start ks).1

back-some : (ks : List Token) (o : Option Stack) (ts : Stack) → Back start ks o → o ≡ Some ts → (x : Things ts)
    → Made start (ks ++ of_things ts x)
back-some ks o ts b e = rw e at b

-- the text that the closing of the stack completes
pub completed : (ks : List Token) (ts : Stack) → (trace start ks).0 ≡ Some ts → (x : Things ts)
    → (t : g.Text) × g.IsText t × (g.of_text t ≡ ks ++ of_things ts x)
completed ks ts e x =
    let made : Made start (ks ++ of_things ts x) = back-some ks (trace start ks).0 ts (sound-trace ks start) e x in
    (g.text made.0.0.0 made.0.0.1.0 made.0.1.0, made.0.0.1.1, made.1)

-- the levels of a text are those that the machine notes
levels-are : (t : g.Text) (ks more : List Token) (ts : Stack) → g.IsText t → g.of_text t ≡ ks ++ more
    → (trace start ks).0 ≡ Some ts
    → nest_text t ≡ (trace start ks).1 ++ (trace ts more).1
levels-are t ks more ts n e r =
    sym (ap (λ u. u.1) (complete-text t n)) ∙ ap (λ l. (trace start l).1) e ∙ ap (λ u. u.1) (on_from start ts ks more r)

pub front-levels : (t : g.Text) (ks more : List Token) (ts : Stack) → g.IsText t → g.of_text t ≡ ks ++ more
    → (trace start ks).0 ≡ Some ts
    → take (length ks) (nest_text t) ≡ (trace start ks).1
front-levels t ks more ts n e r =
    ap (λ l. take (length ks) l) (levels-are t ks more ts n e r)
    ∙ ap (λ j. take j ((trace start ks).1 ++ (trace ts more).1)) (sym (levels-length ks start ts r))
    ∙ take-append_seam (trace start ks).1 (trace ts more).1

pub begins-at : (m : ℕ) (ks : List Token) (ts : Stack) → Reached m ks ts → Begins m ks
begins-at m ks ts r =
    let more : List Token = of_things ts (closings ts) in
    let t = completed ks ts r.0 (closings ts) in
    (t.0, more, t.1, t.2, rw (front-levels t.0 ks more ts t.1 t.2 r.0) r.1)

all-one-more : (m l : ℕ) (ls : List ℕ) → AllAtMost m ls → l ≤ m → AllAtMost m (ls ++ l ∷ [])
all-one-more m l [] a h = (h, tt)
all-one-more m l (k ∷ ls) a h = (a.0, all-one-more m l ls a.1 h)

stack-after : (front : List Token) (k : Token) (ss ts : Stack) → (trace start front).0 ≡ Some ss → feed k ss ≡ Some ts
    → trace start (front ++ k ∷ []) ≡ (Some ts, (trace start front).1 ++ open_levels ts ∷ [])
stack-after front k ss ts r f =
    on_from start ss front (k ∷ []) r ∙ ap (over (λ l. (trace start front).1 ++ l)) (one_more k ss ts f)

-- a token that is taken and stands within the levels
pub reached-more : (m : ℕ) (front : List Token) (k : Token) (ss ts : Stack) → Reached m front ss → feed k ss ≡ Some ts
    → open_levels ts ≤ m → Reached m (front ++ k ∷ []) ts
reached-more m front k ss ts r f h =
    let e = stack-after front k ss ts r.0 f in
    (ap (λ u. u.0) e, rw (ap (λ u. u.1) e) (all-one-more m (open_levels ts) (trace start front).1 r.1 h))

-- a token that isn't taken: no text goes on after it
pub not-viable : (ks : List Token) → (trace start ks).0 ≡ None → Viable ks → ⊥
not-viable ks e (t, more, n, same) =
    none-some [] (sym (none_from start ks more e) ∙ ap (λ l. (trace start l).0) (sym same)
    ∙ ap (λ u. u.0) (complete-text t n))

pub unexpected-at : (m : ℕ) (ks : List Token) (j : ℕ) (k : Token) (ss : Stack) → j < length ks
    → take (j + 1) ks ≡ take j ks ++ k ∷ []
    → Reached m (take j ks) ss → feed k ss ≡ None → IsUnexpected m ks j
unexpected-at m ks j k ss h e r f = record {
  there = h;
  before = begins-at m (take j ks) ss r;
  after = λ v. not-viable (take (j + 1) ks)
      (ap (λ l. (trace start l).0) e ∙ ap (λ u. u.0) (on_from start ss (take j ks) (k ∷ []) r.0)
      ∙ ap (λ u. u.0) (one_less k ss f)) v;
}

get_or-seam : (ls : List ℕ) (l : ℕ) (more : List ℕ) (d : ℕ) → get_or (ls ++ l ∷ more) (length ls) d ≡ l
get_or-seam [] l more d = refl
get_or-seam (x ∷ ls) l more d = get_or-seam ls l more d

-- a token that is taken and stands too deep
pub too-deep-at : (m : ℕ) (ks : List Token) (j : ℕ) (k : Token) (ss ts : Stack) → j < length ks
    → length (take j ks) ≡ j → take (j + 1) ks ≡ take j ks ++ k ∷ []
    → Reached m (take j ks) ss → feed k ss ≡ Some ts → m < open_levels ts → IsTooDeep m ks j
too-deep-at m ks j k ss ts h len e r f deep =
    let front : List Token = take j ks in
    let more : List Token = of_things ts (closings ts) in
    let t = completed (front ++ k ∷ []) ts (ap (λ u. u.0) (stack-after front k ss ts r.0 f)) (closings ts) in
    let whole : g.of_text t.0 ≡ front ++ k ∷ more = t.2 ∙ append_assoc front (k ∷ []) more in
    let levels : nest_text t.0 ≡ (trace start front).1 ++ open_levels ts ∷ (trace ts more).1 =
    levels-are t.0 front (k ∷ more) ss t.1 whole r.0
    ∙ ap (λ l. (trace start front).1 ++ l) (one_and_more k ss ts more f) in
    let before : take j (nest_text t.0) ≡ (trace start front).1 =
    ap (λ i. take i (nest_text t.0)) (sym len) ∙ front-levels t.0 front (k ∷ more) ss t.1 whole r.0 in
    let here : get_or (nest_text t.0) j 0 ≡ open_levels ts =
    ap (λ l. get_or l j 0) levels
    ∙ ap (λ i. get_or ((trace start front).1 ++ open_levels ts ∷ (trace ts more).1) i 0)
    (sym (levels-length front start ss r.0 ∙ len))
    ∙ get_or-seam (trace start front).1 (open_levels ts) (trace ts more).1 0 in
    too_deep t.0 more h t.1 (t.2 ∙ ap (λ l. l ++ more) (sym e)) (rw before r.1) (rw here deep)

-- all tokens are taken and nothing is to come
pub within-at : (m : ℕ) (ks : List Token) → Reached m ks [] → IsWithin m ks
within-at m ks r =
    let t = completed ks [] r.0 tt in
    let same : g.of_text t.0 ≡ ks = t.2 ∙ append-nil ks in
    let levels : nest_text t.0 ≡ (trace start ks).1 =
    sym (ap (λ u. u.1) (complete-text t.0 t.1)) ∙ ap (λ l. (trace start l).1) same in
    (t.0, t.1, same, rw levels r.1)

emptiness : Stack → Option Stack
emptiness [] = None
emptiness (s ∷ ss) = Some ss

not-empty : (s : Symbol) (ss : Stack) → s ∷ ss ≡ [] → ⊥
unfolding emptiness
not-empty s ss e = none-some ss (sym (ap emptiness e))

-- all tokens are taken and something is to come
pub unfinished-at : (m : ℕ) (ks : List Token) (s : Symbol) (ss : Stack) → Reached m ks (s ∷ ss) → IsUnfinished m ks
unfinished-at m ks s ss r = record {
  begins = begins-at m ks (s ∷ ss) r;
  endless = λ front at e. not-empty s ss (finished front at (s ∷ ss) (ap (λ l. (trace start l).0) (sym e) ∙ r.0));
}

-- one token more of a list
pub one_on : (ks : List Token) (j : ℕ) (k : Token) → j < length ks → k ≡ get_or ks j k
    → take (j + 1) ks ≡ take j ks ++ k ∷ []
one_on ks j k h e = take_more ks j k h ∙ ap (λ x. take j ks ++ x ∷ []) (sym e)

all_taken : (ks : List Token) (j : ℕ) → length ks ≤ j → take j ks ≡ ks
all_taken ks j h = take_all j ks h

-- at the end of the list
pub is_finished : (m : ℕ) (ks : List Token) (j : ℕ) (ss : Stack) → length ks ≤ j → Reached m (take j ks) ss → ss ≡ []
    → IsWithin m ks
is_finished m ks j ss h r e = within-at m ks (rw e at (rw (all_taken ks j h) at r))

pub is_unfinished : (m : ℕ) (ks : List Token) (j : ℕ) (ss : Stack) → length ks ≤ j → Reached m (take j ks) ss
    → (ss ≡ [] → ⊥) → IsUnfinished m ks
is_unfinished m ks j [] h r e = absurd (e refl)
is_unfinished m ks j (s ∷ ss) h r e = unfinished-at m ks s ss (rw (all_taken ks j h) at r)
