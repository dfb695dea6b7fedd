-- The first line of a text and the first word of a line.
use Rattle.std.proofs.Common.{◌≡◌, ◌<◌, ℕ, length, arith, sym, Bool, true, false, not, nat_eq, cond, List, [], ◌∷◌}
use Rattle.std.proofs.Common.{refl, ap, ◌∙◌}
use Rattle.deck_lines.specs.Cuts.{front_of, back_of}
use Rattle.deck_lines.proofs.CutLemmas.{length-back_of, length-back_of-lt, back_of-head}
use Rattle.deck_lines.specs.Lines.{lines_of, words_of, before_first, onto}

abbrev feed : ℕ → Bool
feed c = nat_eq c 10

abbrev space : ℕ → Bool
space c = nat_eq c 32

-- the lines after the line feed at which a text was cut
abbrev pub lines_after : List ℕ → List (List ℕ)
lines_after [] = []
lines_after (c ∷ cs) = lines_of cs

first_of_lines : (c : ℕ) (cs : List ℕ) → lines_of (c ∷ cs)
    ≡ front_of feed (c ∷ cs) ∷ lines_after (back_of feed (c ∷ cs))
first_of_lines c [] = by (feed c)
  where
    by : (b : Bool) → cond b ([] ∷ []) (before_first c []) ≡ cond b [] (c ∷ []) ∷ lines_after (cond b (c ∷ []) [])
    by true = refl
    by false = refl
first_of_lines c (d ∷ ds) = by (first_of_lines d ds) (feed c)
  where
    by : lines_of (d ∷ ds) ≡ front_of feed (d ∷ ds) ∷ lines_after (back_of feed (d ∷ ds)) → (b : Bool)
        → cond b ([] ∷ lines_of (d ∷ ds)) (before_first c (lines_of (d ∷ ds)))
        ≡ cond b [] (c ∷ front_of feed (d ∷ ds)) ∷ lines_after (cond b (c ∷ d ∷ ds) (back_of feed (d ∷ ds)))
    by later true = refl
    by later false = ap (before_first c) later

-- the first line of a text ends at its first line feed
pub first_line : (text : List ℕ) → 0 < length text
    → lines_of text ≡ front_of feed text ∷ lines_after (back_of feed text)
first_line [] there = absurd (omega arith)
first_line (c ∷ cs) there = first_of_lines c cs

-- spaces before the first word don't count
pub spaces_before : (line : List ℕ) → words_of line ≡ words_of (back_of (λ c. not (space c)) line)
spaces_before [] = refl
spaces_before (c ∷ cs) = by (spaces_before cs) (space c) refl
  where
    by : words_of cs ≡ words_of (back_of (λ x. not (space x)) cs) → (b : Bool) → space c ≡ b
        → words_of (c ∷ cs) ≡ words_of (cond (not b) (c ∷ cs) (back_of (λ x. not (space x)) cs))
    by later true e = ap (λ b. cond b (words_of cs) (onto c cs (words_of cs))) e ∙ later
    by later false e = refl

-- the first word ends at the first space
pub first_word : (c : ℕ) (cs : List ℕ) → space c ≡ false
    → words_of (c ∷ cs) ≡ front_of space (c ∷ cs) ∷ words_of (back_of space (c ∷ cs))
first_word c [] e = by (space c) e
  where
    by : (b : Bool) → b ≡ false → cond b [] ((c ∷ []) ∷ []) ≡ cond b [] (c ∷ []) ∷ words_of (cond b (c ∷ []) [])
    by true h = absurd (cc)
    by false h = refl
first_word c (d ∷ ds) e =
    ap (λ b. cond b (words_of (d ∷ ds)) (onto c (d ∷ ds) (words_of (d ∷ ds)))) e
    ∙ by (first_word d ds) (space d) refl
    ∙ sym (ap (λ b. cond b [] (c ∷ front_of space (d ∷ ds)) ∷ words_of (cond b (c ∷ d ∷ ds) (back_of space (d ∷ ds))))
    e)
  where
    by : (space d ≡ false → words_of (d ∷ ds) ≡ front_of space (d ∷ ds) ∷ words_of (back_of space (d ∷ ds)))
        → (b : Bool) → space d ≡ b
        → cond b ((c ∷ []) ∷ words_of (d ∷ ds)) (before_first c (words_of (d ∷ ds)))
        ≡ (c ∷ front_of space (d ∷ ds)) ∷ words_of (back_of space (d ∷ ds))
    by later true h =
        sym (ap (λ b. (c ∷ cond b [] (d ∷ front_of space ds)) ∷ words_of (cond b (d ∷ ds) (back_of space ds))) h)
    by later false h = ap (before_first c) (later h)

pub lines_after-empty : (text : List ℕ) → length text ≡ 0 → lines_after text ≡ lines_of text
lines_after-empty [] e = refl
lines_after-empty (c ∷ cs) e = absurd (omega arith)

-- a line of spaces has no words
pub no_words : (line : List ℕ) → length (back_of (λ c. not (space c)) line) ≡ 0 → words_of line ≡ []
no_words line e = spaces_before line ∙ empty (back_of (λ c. not (space c)) line) e
  where
    empty : (text : List ℕ) → length text ≡ 0 → words_of text ≡ []
    empty [] e = refl
    empty (c ∷ cs) e = absurd (omega arith)

not_true : (b : Bool) → not b ≡ true → b ≡ false
not_true true e = sym e
not_true false e = refl

-- what stands before the spaces is the first word of a line
pub a_word : (line text : List ℕ) → text ≡ back_of (λ c. not (space c)) line → 0 < length text
    → (words_of line ≡ front_of space text ∷ words_of (back_of space text))
    × (length (back_of space text) < length line)
a_word line [] e there = absurd (omega arith)
a_word line (c ∷ cs) e there =
    let begins : space c ≡ false = not_true (space c) (back_of-head (λ x. not (space x)) line c cs (sym e)) in (
      spaces_before line ∙ ap words_of (sym e) ∙ first_word c cs begins,
      omega (arith, length-back_of-lt space c cs begins, length-back_of (λ x. not (space x)) line, ap length e),
    )
