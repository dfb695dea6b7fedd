-- The first line of a text, and two texts compared line by line.
use Rattle.std.proofs.Common.{◌≡◌, ◌≢◌, ℕ, zero, suc, ◌+◌, ◌<◌, Bool, true, false, cond, nat_eq, List, [], ◌∷◌, ◌++◌}
use Rattle.std.proofs.Common.{length, take, drop, Option, Some, None, refl, sym, ap, ◌∙◌, arith, append_assoc}
use Rattle.std.proofs.Common.{length-append, subst}
use Rattle.std.specs.Prelude.{not}
use Rattle.std.specs.Str.{bytes_eq}
use Rattle.std.proofs.lemmas.List.{length-drop}
use Rattle.std.proofs.lemmas.Slice.Eq.{bytes_eq-Decides}
use Rattle.deck_lines.specs.Lines.{before_first}
use Rattle.report_judge.specs.Lines.{IsFirstDifference, IsFirstLine, first_in, line_length, lines_of}

lines-cut : (c : ℕ) (cs : List ℕ) → lines_of (c ∷ cs)
    ≡ take (line_length (c ∷ cs)) (c ∷ cs) ∷ lines_of (drop (line_length (c ∷ cs)) (c ∷ cs))
lines-cut c [] = by (nat_eq c 10)
  where
    by : (b : Bool) → cond b ((c ∷ []) ∷ []) (before_first c [])
        ≡ take (cond b (suc zero) (suc zero)) (c ∷ []) ∷ lines_of (drop (cond b (suc zero) (suc zero)) (c ∷ []))
    by true = refl
    by false = refl
lines-cut c (d ∷ ds) = by (lines-cut d ds) (nat_eq c 10)
  where
    n : ℕ
    n = line_length (d ∷ ds)

    by : lines_of (d ∷ ds) ≡ take n (d ∷ ds) ∷ lines_of (drop n (d ∷ ds)) → (b : Bool)
        → cond b ((c ∷ []) ∷ lines_of (d ∷ ds)) (before_first c (lines_of (d ∷ ds)))
        ≡ take (cond b (suc zero) (suc n)) (c ∷ d ∷ ds) ∷ lines_of (drop (cond b (suc zero) (suc n)) (c ∷ d ∷ ds))
    by later true = refl
    by later false = ap (before_first c) later

some-length : (c : ℕ) (cs : List ℕ) → 0 < line_length (c ∷ cs)
some-length c cs = by (nat_eq c 10)
  where
    by : (b : Bool) → 0 < cond b (suc zero) (suc (line_length cs))
    by true = omega arith
    by false = omega arith

front-and-back : (n : ℕ) (text : List ℕ) → text ≡ take n text ++ drop n text
front-and-back zero text = refl
front-and-back (suc n) [] = refl
front-and-back (suc n) (c ∷ cs) = ap (λ (xs : List ℕ). c ∷ xs) (front-and-back n cs)

first-cut : (text : List ℕ) → 0 < length text
    → IsFirstLine text (take (line_length text) text) (drop (line_length text) text)
first-cut [] there = absurd (omega arith)
first-cut (c ∷ cs) there = record {
  whole = front-and-back (line_length (c ∷ cs)) (c ∷ cs);
  lines = lines-cut c cs;
  shorter = omega (arith, length-drop (line_length (c ∷ cs)) (c ∷ cs), some-length c cs);
}

pub first-line : (text line rest : List ℕ) → 0 < length text → line ≡ take (line_length text) text
    → rest ≡ drop (line_length text) text → IsFirstLine text line rest
first-line text line rest there front back =
    subst (λ (l : List ℕ). IsFirstLine text l rest) (sym front)
    (subst (IsFirstLine text (take (line_length text) text)) (sym back) (first-cut text there))

pub nothing : (text : List ℕ) → length text ≡ 0 → text ≡ []
nothing [] e = refl
nothing (c ∷ cs) e = absurd (omega arith)

-- what `!=` says of two lines
pub lines-same : (line other : List ℕ) (apart : Bool) → apart ≡ not (bytes_eq line other) → apart ≡ false
    → line ≡ other
lines-same line other apart is answered = (bytes_eq-Decides line other).0 (by (bytes_eq line other) (sym is ∙ answered))
  where
    by : (b : Bool) → not b ≡ false → b ≡ true
    by true e = refl
    by false e = absurd (cc)

-- two texts are the same up to these rests, whose first lines have this number
pub record AreSameTo (one other one_rest other_rest : List ℕ) (number : ℕ) : Type 0 where
  pub same : List (List ℕ)
  pub front : List ℕ
  pub one_lines : lines_of one ≡ same ++ lines_of one_rest
  pub other_lines : lines_of other ≡ same ++ lines_of other_rest
  pub one_whole : one ≡ front ++ one_rest
  pub other_whole : other ≡ front ++ other_rest
  pub counted : number ≡ length same + 1

pub same-so-far : (one other : List ℕ) → AreSameTo one other one other 1
same-so-far one other = record {
  same = [];
  front = [];
  one_lines = refl;
  other_lines = refl;
  one_whole = refl;
  other_whole = refl;
  counted = refl;
}

grown : {X : Type 0} (front : List X) (line rest : List X) (whole : List X) (old : List X) → whole ≡ front ++ old
    → old ≡ line ++ rest → whole ≡ (front ++ line) ++ rest
grown front line rest whole old is cut = is ∙ ap (λ xs. front ++ xs) cut ∙ sym (append_assoc front line rest)

pub same-more : (one other one_rest other_rest line other_line one_after other_after : List ℕ) (number : ℕ)
    → AreSameTo one other one_rest other_rest number
    → IsFirstLine one_rest line one_after → IsFirstLine other_rest other_line other_after → line ≡ other_line
    → AreSameTo one other one_after other_after (number + 1)
same-more one other one_rest other_rest line other_line one_after other_after number to first other_first equal =
    record {
      same = to.same ++ line ∷ [];
      front = to.front ++ line;
      one_lines = grown to.same (line ∷ []) (lines_of one_after) (lines_of one) (lines_of one_rest) to.one_lines
          first.lines;
      other_lines =
          grown to.same (line ∷ []) (lines_of other_after) (lines_of other) (lines_of other_rest) to.other_lines
          (other_first.lines ∙ ap (λ (l : List ℕ). l ∷ lines_of other_after) (sym equal));
      one_whole = grown to.front line one_after one one_rest to.one_whole first.whole;
      other_whole = grown to.front line other_after other other_rest to.other_whole
          (other_first.whole ∙ ap (λ (l : List ℕ). l ++ other_after) (sym equal));
      counted = omega (arith, to.counted, length-append to.same (line ∷ []));
    }

-- they differ in their next lines
differ : (one other one_rest other_rest : List ℕ) (number : ℕ) → AreSameTo one other one_rest other_rest number
    → first_in (lines_of one_rest) ≢ first_in (lines_of other_rest)
    → IsFirstDifference (lines_of one) (lines_of other) number
differ one other one_rest other_rest number to apart = record {
  same = to.same;
  one_rest = lines_of one_rest;
  other_rest = lines_of other_rest;
  one_is = to.one_lines;
  other_is = to.other_lines;
  differ = apart;
  counted = to.counted;
}

none-some : (line : List ℕ) → ◌≡◌ {A = Option (List ℕ)} None (Some line) → ⊥
none-some line e = cc

pub one-ends : (one other one_rest other_rest : List ℕ) (number : ℕ) → AreSameTo one other one_rest other_rest number
    → one_rest ≡ [] → 0 < length other_rest → IsFirstDifference (lines_of one) (lines_of other) number
one-ends one other one_rest other_rest number to ends there =
    let first = first-cut other_rest there in
    differ one other one_rest other_rest number to
    (λ e. none-some (take (line_length other_rest) other_rest)
    (sym (ap (λ (t : List ℕ). first_in (lines_of t)) ends) ∙ e ∙ ap first_in first.lines))
