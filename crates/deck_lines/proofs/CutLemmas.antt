-- How a loop over a text finds where to cut it, and what the cuts are to its lines and words.
use Rattle.std.proofs.Common.{◌≡◌, ℕ, ◌+◌, ◌<◌, ◌≤◌, suc, Bool, true, false, cond, List, [], ◌∷◌, ◌++◌, length, take}
use Rattle.std.proofs.Common.{drop, get_or, refl, sym, ap, ◌∙◌, arith, append_assoc, drop-cons, add-one, append-nil}
use Rattle.std.proofs.Math.Seq.{drop-length}
use Rattle.std.proofs.lemmas.List.{take_more}
use Rattle.deck_lines.specs.Cuts.{front_of, back_of}

-- no sign before place k passes
pub record IsCutFrom (passes : ℕ → Bool) (text : List ℕ) (k : ℕ) : Type 0 where
  pub front : front_of passes text ≡ take k text ++ front_of passes (drop k text)
  pub back : back_of passes text ≡ back_of passes (drop k text)

next : (text : List ℕ) (k d : ℕ) → k < length text → drop k text ≡ get_or text k d ∷ drop (k + 1) text
next text k d within = drop-cons text k d within ∙ ap (λ j. get_or text k d ∷ drop j text) (sym (add-one k))

-- it doesn't pass at k either
pub on : (passes : ℕ → Bool) (text : List ℕ) (k d : ℕ) → k < length text → passes (get_or text k d) ≡ false
    → IsCutFrom passes text k → IsCutFrom passes text (k + 1)
on passes text k d within fails cut = record {
  front = cut.front ∙ ap (λ rest. take k text ++ front_of passes rest) (next text k d within)
      ∙ ap (λ b. take k text ++ cond b [] (get_or text k d ∷ front_of passes (drop (k + 1) text))) fails
      ∙ sym (append_assoc (take k text) (get_or text k d ∷ []) (front_of passes (drop (k + 1) text)))
      ∙ ap (λ xs. xs ++ front_of passes (drop (k + 1) text)) (sym (take_more text k d within));
  back = cut.back ∙ ap (back_of passes) (next text k d within)
      ∙ ap (λ b. cond b (get_or text k d ∷ drop (k + 1) text) (back_of passes (drop (k + 1) text))) fails;
}

-- it passes at k
pub here-front : (passes : ℕ → Bool) (text : List ℕ) (k d : ℕ) → k < length text → passes (get_or text k d) ≡ true
    → IsCutFrom passes text k → take k text ≡ front_of passes text
here-front passes text k d within yields cut =
    sym (cut.front ∙ ap (λ rest. take k text ++ front_of passes rest) (next text k d within)
    ∙ ap (λ b. take k text ++ cond b [] (get_or text k d ∷ front_of passes (drop (k + 1) text))) yields
    ∙ append-nil (take k text))

pub here-back : (passes : ℕ → Bool) (text : List ℕ) (k d : ℕ) → k < length text → passes (get_or text k d) ≡ true
    → IsCutFrom passes text k → drop k text ≡ back_of passes text
here-back passes text k d within yields cut =
    next text k d within
    ∙ sym (cut.back ∙ ap (back_of passes) (next text k d within)
    ∙ ap (λ b. cond b (get_or text k d ∷ drop (k + 1) text) (back_of passes (drop (k + 1) text))) yields)

-- it passes nowhere
pub nowhere-front : (passes : ℕ → Bool) (text : List ℕ) → IsCutFrom passes text (length text)
    → take (length text) text ≡ front_of passes text
nowhere-front passes text cut =
    sym (cut.front ∙ ap (λ rest. take (length text) text ++ front_of passes rest) (drop-length text) ∙ append-nil _)

pub nowhere-back : (passes : ℕ → Bool) (text : List ℕ) → IsCutFrom passes text (length text) → back_of passes text ≡ []
nowhere-back passes text cut = cut.back ∙ ap (back_of passes) (drop-length text)

pub length-back_of : (passes : ℕ → Bool) (text : List ℕ) → length (back_of passes text) ≤ length text
length-back_of passes [] = omega arith
length-back_of passes (c ∷ cs) = by (length-back_of passes cs) (passes c)
  where
    by : length (back_of passes cs) ≤ length cs → (b : Bool)
        → length (cond b (c ∷ cs) (back_of passes cs)) ≤ suc (length cs)
    by shorter true = omega arith
    by shorter false = omega arith

-- where the first sign doesn't pass, the rest is shorter
pub length-back_of-lt : (passes : ℕ → Bool) (c : ℕ) (cs : List ℕ) → passes c ≡ false
    → length (back_of passes (c ∷ cs)) < length (c ∷ cs)
length-back_of-lt passes c cs fails =
    let same : back_of passes (c ∷ cs) ≡ back_of passes cs = ap (λ b. cond b (c ∷ cs) (back_of passes cs)) fails in
    rw same (omega (arith, length-back_of passes cs))

-- what is left begins with a sign that passes
pub back_of-head : (passes : ℕ → Bool) (text : List ℕ) (c : ℕ) (cs : List ℕ) → back_of passes text ≡ c ∷ cs
    → passes c ≡ true
back_of-head passes [] c cs e = absurd (cc)
back_of-head passes (x ∷ xs) c cs e = by (back_of-head passes xs c cs) (passes x) refl e
  where
    by : (back_of passes xs ≡ c ∷ cs → passes c ≡ true) → (b : Bool) → passes x ≡ b
        → cond b (x ∷ xs) (back_of passes xs) ≡ c ∷ cs → passes c ≡ true
    by later true yields same = let first : x ≡ c = cc in ap passes (sym first) ∙ yields
    by later false fails same = later same
