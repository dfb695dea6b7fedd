-- A deck that has ended stays the same deck, whatever follows it.
use Rattle.std.proofs.Common.{◌≡◌, ℕ, suc, ◌+◌, nat_eq, Bool, true, false, if◌then◌else◌, List, []}
use Rattle.std.proofs.Common.{◌∷◌}
use Rattle.std.proofs.Common.{◌++◌, length, take, drop, refl, sym, ap, ◌∙◌, arith, append_assoc, append-nil}
use Rattle.std.proofs.Common.{length-append}
use Rattle.report_reader.specs.DeckEnds.{deck_end, is_end, is_inside, length_to_end}
use Rattle.report_reader.specs.Parts.{Parts, parts_of, parts_onto, parts_with}
use Rattle.command_dues.specs.Verified.{deck_in, report_in}
use Rattle.reported_runs.specs.EndedDecks.{IsEnded}

-- how long the lines are up to the first that is END, where these signs stand before the parts
abbrev length-with : Bool → List ℕ → Parts → ℕ
length-with inside pre parts = length_to_end inside (pre ++ parts.first) parts.others

at-feed : (inside : Bool) (pre : List ℕ) (parts : Parts) → length-with inside pre (parts_with [] parts)
    ≡ length pre + 1 + (if is_end inside pre then 0 else length_to_end (is_inside inside pre) parts.first parts.others)
at-feed inside pre parts =
    ap (λ (line : List ℕ). length line + 1
    + (if is_end inside line then 0 else length_to_end (is_inside inside line) parts.first parts.others))
    (append-nil pre)

at-sign : (inside : Bool) (pre : List ℕ) (c : ℕ) (parts : Parts) → length-with inside pre (parts_onto c parts)
    ≡ length-with inside (pre ++ c ∷ []) parts
at-sign inside pre c parts =
    ap (λ (line : List ℕ). length_to_end inside line parts.others) (sym (append_assoc pre (c ∷ []) parts.first))

one-less : (a b c : ℕ) → a + 1 + b ≡ a + suc c → b ≡ c
one-less a b c e = omega (arith, e)

one-more : (a b c : ℕ) → b ≡ c → a + 1 + b ≡ a + suc c
one-more a b c e = omega (arith, e)

with-zero : (a n : ℕ) → a ≡ n → a ≡ 0 + n
with-zero a n e = omega (arith, e)

without-zero : (a n : ℕ) → a ≡ 0 + n → a ≡ n
without-zero a n e = omega (arith, e)

longer : (pre : List ℕ) (c n : ℕ) → length (pre ++ c ∷ []) + n ≡ length pre + suc n
longer pre c n = let both = length-append pre (c ∷ []) in omega (arith, both)

stays : (text : List ℕ) (bytes : List ℕ) (inside : Bool) (pre : List ℕ)
    → length-with inside pre (parts_of 10 (bytes ++ 10 ∷ [])) ≡ length pre + length bytes
    → length-with inside pre (parts_of 10 (bytes ++ text)) ≡ length pre + length bytes
stays text [] inside pre ended = absurd (by (is_end inside pre) (sym (at-feed inside pre (parts_of 10 [])) ∙ ended))
  where
    by : (b : Bool) → length pre + 1 + (if b then 0 else 0) ≡ length pre + 0 → ⊥
    by true e = omega (arith, e)
    by false e = omega (arith, e)
stays text (c ∷ bytes) inside pre ended =
    by (λ within before e. stays text bytes within before e) (nat_eq c 10) ended
  where
    after : ((within : Bool) (before : List ℕ)
        → length-with within before (parts_of 10 (bytes ++ 10 ∷ [])) ≡ length before + length bytes
        → length-with within before (parts_of 10 (bytes ++ text)) ≡ length before + length bytes)
        → (b : Bool) (within : Bool)
        → length pre + 1 + (if b then 0 else length_to_end within (parts_of 10 (bytes ++ 10 ∷ [])).first
        (parts_of 10 (bytes ++ 10 ∷ [])).others) ≡ length pre + suc (length bytes)
        → length pre + 1 + (if b then 0 else length_to_end within (parts_of 10 (bytes ++ text)).first
        (parts_of 10 (bytes ++ text)).others) ≡ length pre + suc (length bytes)
    after later true within e = e
    after later false within e =
        let marked = length-with within [] (parts_of 10 (bytes ++ 10 ∷ [])) in
        let followed = length-with within [] (parts_of 10 (bytes ++ text)) in
        one-more (length pre) followed (length bytes) (without-zero followed (length bytes)
        (later within [] (with-zero marked (length bytes) (one-less (length pre) marked (length bytes) e))))

    by : ((within : Bool) (before : List ℕ)
        → length-with within before (parts_of 10 (bytes ++ 10 ∷ [])) ≡ length before + length bytes
        → length-with within before (parts_of 10 (bytes ++ text)) ≡ length before + length bytes)
        → (b : Bool)
        → length-with inside pre (if b then parts_with [] (parts_of 10 (bytes ++ 10 ∷ []))
        else parts_onto c (parts_of 10 (bytes ++ 10 ∷ []))) ≡ length pre + suc (length bytes)
        → length-with inside pre (if b then parts_with [] (parts_of 10 (bytes ++ text))
        else parts_onto c (parts_of 10 (bytes ++ text))) ≡ length pre + suc (length bytes)
    by later true e =
        at-feed inside pre (parts_of 10 (bytes ++ text))
        ∙ after later (is_end inside pre) (is_inside inside pre)
        (sym (at-feed inside pre (parts_of 10 (bytes ++ 10 ∷ []))) ∙ e)
    by later false e =
        at-sign inside pre c (parts_of 10 (bytes ++ text))
        ∙ later inside (pre ++ c ∷ [])
        (sym (at-sign inside pre c (parts_of 10 (bytes ++ 10 ∷ []))) ∙ e ∙ sym (longer pre c (length bytes)))
        ∙ longer pre c (length bytes)

end-stays : (bytes text : List ℕ) → IsEnded bytes → deck_end (bytes ++ text) ≡ length bytes
end-stays bytes text ended =
    without-zero (deck_end (bytes ++ text)) (length bytes)
    (stays text bytes false [] (with-zero (deck_end (bytes ++ 10 ∷ [])) (length bytes) ended))

take-all : (xs ys : List ℕ) → take (length xs) (xs ++ ys) ≡ xs
take-all [] [] = refl
take-all [] (y ∷ ys) = refl
take-all (x ∷ xs) ys = ap (λ (rest : List ℕ). x ∷ rest) (take-all xs ys)

drop-all : (xs ys : List ℕ) → drop (length xs) (xs ++ ys) ≡ ys
drop-all [] [] = refl
drop-all [] (y ∷ ys) = refl
drop-all (x ∷ xs) ys = drop-all xs ys

pub deck-first : (bytes text : List ℕ) → IsEnded bytes → deck_in (bytes ++ text) ≡ bytes
deck-first bytes text ended =
    ap (λ (n : ℕ). take n (bytes ++ text)) (end-stays bytes text ended) ∙ take-all bytes text

pub report-last : (bytes text : List ℕ) → IsEnded bytes → report_in (bytes ++ text) ≡ text
report-last bytes text ended =
    ap (λ (n : ℕ). drop n (bytes ++ text)) (end-stays bytes text ended) ∙ drop-all bytes text
