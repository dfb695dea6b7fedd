-- A table that the writes were put into has the words of the last write on each sector.
use Rattle.std.proofs.Common.{◌≡◌, ◌≢◌, ℕ, zero, suc, ◌+◌, ◌<◌, ◌==◌, ◌&&◌, Bool, true, false, if◌then◌else◌, ℤ, List}
use Rattle.std.proofs.Common.{[], ◌∷◌, ◌++◌, length, replicate, slice_get, slice_set, Option, Some, None, refl, ap, ap₂}
use Rattle.std.proofs.Common.{sym, ◌∙◌, arith}
use Rattle.std.proofs.lemmas.Bool.{eq-eqb, ne_eqb}
use Rattle.tal_tree.specs.declared.act.Shown.{Shown}
use Rattle.tal_tree.specs.declared.act.Shown.TheVariants.{Write, Reply}
use Rattle.tal_tree.specs.declared.site.ProcessSpec.{ProcessSpec}
use Rattle.shown_sectors.specs.Sectors.{written_on, later_of, last_written, sector_with, sectors_from, sector_count}
use Rattle.shown_sectors.specs.Sectors.{sectors_of}
use Rattle.shown_sectors.specs.Tables.{Row, blank_row, blank_rows, row_put, rows_with, rows_after, row_sectors}
use Rattle.shown_sectors.specs.Tables.{rows_sectors}

-- a row of a process, from a sector on, and rows, from a process on, after what is shown
abbrev over_row : List Shown → ℕ → ℕ → Row → Row
over_row shown process sector [] = []
over_row shown process sector (words ∷ row) =
    later_of words (last_written process sector shown) ∷ over_row shown process (sector + 1) row

abbrev over_rows : List Shown → ℕ → List Row → List Row
over_rows shown process [] = []
over_rows shown process (row ∷ rows) = over_row shown process 0 row ∷ over_rows shown (process + 1) rows

later-later : (a b c : Option (List ℤ)) → later_of (later_of a b) c ≡ later_of a (later_of b c)
later-later a b (Some words) = refl
later-later a (Some words) None = refl
later-later a None None = refl

-- a write on another sector leaves a sector as it was
other-sector : (shown : List Shown) (p s q t : ℕ) (words : List ℤ) (w : Option (List ℤ))
    → ((q == p) && (t == s)) ≡ false
    → later_of w (last_written p s (Write q t words ∷ shown)) ≡ later_of w (last_written p s shown)
other-sector shown p s q t words w other =
    ap (λ (b : Bool). later_of w (later_of (if b then Some words else None) (last_written p s shown))) other
    ∙ none-first (last_written p s shown)
  where
    none-first : (last : Option (List ℤ)) → later_of w (later_of None last) ≡ later_of w last
    none-first (Some words) = refl
    none-first None = refl

and-false : (b : Bool) → (b && false) ≡ false
and-false true = refl
and-false false = refl

-- nor the sectors past it
past-row : (shown : List Shown) (p s q t : ℕ) (words : List ℤ) (row : Row) → t < s
    → over_row (Write q t words ∷ shown) p s row ≡ over_row shown p s row
past-row shown p s q t words [] past = refl
past-row shown p s q t words (w ∷ row) past =
    ap₂ (λ (one : Option (List ℤ)) (rest : Row). one ∷ rest)
    (other-sector shown p s q t words w (ap (λ b. (q == p) && b) (ne_eqb t s (λ same. omega (arith, past, same)))
    ∙ and-false (q == p)))
    (past-row shown p (s + 1) q t words row (omega (arith, past)))

-- nor those of another process
other-row : (shown : List Shown) (p s q t : ℕ) (words : List ℤ) (row : Row) → q ≢ p
    → over_row (Write q t words ∷ shown) p s row ≡ over_row shown p s row
other-row shown p s q t words [] apart = refl
other-row shown p s q t words (w ∷ row) apart =
    ap₂ (λ (one : Option (List ℤ)) (rest : Row). one ∷ rest)
    (other-sector shown p s q t words w (ap (λ b. b && (t == s)) (ne_eqb q p apart)))
    (other-row shown p (s + 1) q t words row apart)

past-rows : (shown : List Shown) (p q t : ℕ) (words : List ℤ) (rows : List Row) → q < p
    → over_rows (Write q t words ∷ shown) p rows ≡ over_rows shown p rows
past-rows shown p q t words [] past = refl
past-rows shown p q t words (row ∷ rows) past =
    ap₂ (λ (one : Row) (rest : List Row). one ∷ rest)
    (other-row shown p 0 q t words row (λ same. omega (arith, past, same)))
    (past-rows shown (p + 1) q t words rows (omega (arith, past)))

-- a write that is put into a row
put-row : (shown : List Shown) (p s k : ℕ) (words : List ℤ) (row : Row)
    → over_row shown p s (slice_set row k (Some words)) ≡ over_row (Write p (s + k) words ∷ shown) p s row
put-row shown p s k words [] = refl
put-row shown p s zero words (w ∷ row) =
    let here : s + 0 ≡ s = omega arith in
    let same : ((p == p) && ((s + 0) == s)) ≡ true =
    ap₂ (λ (a b : Bool). a && b) (eq-eqb p p refl) (ap (λ n. n == s) here ∙ eq-eqb s s refl) in
    ap₂ (λ (one : Option (List ℤ)) (rest : Row). one ∷ rest)
    (put-first (last_written p s shown) ∙ ap
    (λ (b : Bool). later_of w (later_of (if b then Some words else None) (last_written p s shown))) (sym same))
    (sym (past-row shown p (s + 1) p (s + 0) words row (omega arith)))
  where
    put-first : (last : Option (List ℤ)) → later_of (Some words) last ≡ later_of w (later_of (Some words) last)
    put-first (Some later) = refl
    put-first None = refl
put-row shown p s (suc k) words (w ∷ row) =
    let next : (s + 1) + k ≡ s + suc k = omega arith in
    ap₂ (λ (one : Option (List ℤ)) (rest : Row). one ∷ rest)
    (sym (other-sector shown p s p (s + suc k) words w
    (ap (λ b. (p == p) && b) (ne_eqb (s + suc k) s (λ same. omega (arith, same))) ∙ and-false (p == p))))
    (put-row shown p (s + 1) k words row ∙ ap (λ t. over_row (Write p t words ∷ shown) p (s + 1) row) next)

put-rows : (shown : List Shown) (n k t : ℕ) (words : List ℤ) (rows : List Row)
    → over_rows shown n (row_put rows k t words (slice_get rows k)) ≡ over_rows (Write (n + k) t words ∷ shown) n rows
put-rows shown n k t words [] = refl
put-rows shown n zero t words (row ∷ rows) =
    let here : n + 0 ≡ n = omega arith in
    ap₂ (λ (one : Row) (rest : List Row). one ∷ rest)
    (put-row shown n 0 t words row ∙ ap₂ (λ (q u : ℕ). over_row (Write q u words ∷ shown) n 0 row) (sym here)
    (omega arith))
    (sym (past-rows shown (n + 1) (n + 0) t words rows (omega arith)))
put-rows shown n (suc k) t words (row ∷ rows) =
    let next : (n + 1) + k ≡ n + suc k = omega arith in
    later-rows (slice_get rows k) refl
    ∙ ap₂ (λ (one : Row) (rest : List Row). one ∷ rest)
    (sym (other-row shown n 0 (n + suc k) t words row (λ same. omega (arith, same))))
    (put-rows shown (n + 1) k t words rows ∙ ap (λ q. over_rows (Write q t words ∷ shown) (n + 1) rows) next)
  where
    later-rows : (there : Option Row) → slice_get rows k ≡ there
        → over_rows shown n (row_put (row ∷ rows) (suc k) t words (slice_get (row ∷ rows) (suc k)))
        ≡ over_row shown n 0 row ∷ over_rows shown (n + 1) (row_put rows k t words (slice_get rows k))
    later-rows None gone =
        ap (λ o. over_rows shown n (row_put (row ∷ rows) (suc k) t words o)) gone
        ∙ ap (λ o. over_row shown n 0 row ∷ over_rows shown (n + 1) (row_put rows k t words o)) (sym gone)
    later-rows (Some one) is =
        ap (λ o. over_rows shown n (row_put (row ∷ rows) (suc k) t words o)) is
        ∙ ap (λ o. over_row shown n 0 row ∷ over_rows shown (n + 1) (row_put rows k t words o)) (sym is)

nothing-row : (p s : ℕ) (row : Row) → over_row [] p s row ≡ row
nothing-row p s [] = refl
nothing-row p s (w ∷ row) = ap (λ rest. w ∷ rest) (nothing-row p (s + 1) row)

nothing-rows : (p : ℕ) (rows : List Row) → over_rows [] p rows ≡ rows
nothing-rows p [] = refl
nothing-rows p (row ∷ rows) =
    ap₂ (λ (one : Row) (rest : List Row). one ∷ rest) (nothing-row p 0 row) (nothing-rows (p + 1) rows)

reply-row : (shown : List Shown) (p s terminal number : ℕ) (words : List ℤ) (row : Row)
    → over_row (Reply terminal number words ∷ shown) p s row ≡ over_row shown p s row
reply-row shown p s terminal number words [] = refl
reply-row shown p s terminal number words (w ∷ row) =
    ap₂ (λ (one : Option (List ℤ)) (rest : Row). one ∷ rest) (none-first (last_written p s shown))
    (reply-row shown p (s + 1) terminal number words row)
  where
    none-first : (last : Option (List ℤ)) → later_of w (later_of None last) ≡ later_of w last
    none-first (Some words) = refl
    none-first None = refl

reply-rows : (shown : List Shown) (p terminal number : ℕ) (words : List ℤ) (rows : List Row)
    → over_rows (Reply terminal number words ∷ shown) p rows ≡ over_rows shown p rows
reply-rows shown p terminal number words [] = refl
reply-rows shown p terminal number words (row ∷ rows) =
    ap₂ (λ (one : Row) (rest : List Row). one ∷ rest) (reply-row shown p 0 terminal number words row)
    (reply-rows shown (p + 1) terminal number words rows)

after-rows : (shown : List Shown) (rows : List Row) → rows_after rows shown ≡ over_rows shown 0 rows
after-rows [] rows = sym (nothing-rows 0 rows)
after-rows (Write process sector words ∷ shown) rows =
    let here : 0 + process ≡ process = omega arith in
    after-rows shown (row_put rows process sector words (slice_get rows process))
    ∙ put-rows shown 0 process sector words rows
    ∙ ap (λ q. over_rows (Write q sector words ∷ shown) 0 rows) here
after-rows (Reply terminal number words ∷ shown) rows =
    after-rows shown rows ∙ sym (reply-rows shown 0 terminal number words rows)

blank-row-sectors : (shown : List Shown) (p s count : ℕ)
    → row_sectors p s (over_row shown p s (replicate count None)) ≡ sectors_from p shown s count
blank-row-sectors shown p s zero = refl
blank-row-sectors shown p s (suc count) =
    ap₂ (λ a b. a ++ b) (ap (sector_with p s) (none-later (last_written p s shown)))
    (blank-row-sectors shown p (s + 1) count)
  where
    none-later : (last : Option (List ℤ)) → later_of None last ≡ last
    none-later (Some words) = refl
    none-later None = refl

blank-rows-sectors : (shown : List Shown) (p : ℕ) (specs : List ProcessSpec)
    → rows_sectors p (over_rows shown p (blank_rows specs)) ≡ sectors_of shown p specs
blank-rows-sectors shown p [] = refl
blank-rows-sectors shown p (spec ∷ specs) =
    ap₂ (λ a b. a ++ b) (blank-row-sectors shown p 0 (sector_count spec.what)) (blank-rows-sectors shown (p + 1) specs)

-- what has been written of a table that was blank
pub written-rows : (shown : List Shown) (specs : List ProcessSpec)
    → rows_sectors 0 (rows_after (blank_rows specs) shown) ≡ sectors_of shown 0 specs
written-rows shown specs = ap (rows_sectors 0) (after-rows shown (blank_rows specs)) ∙ blank-rows-sectors shown 0 specs

over-length : (shown : List Shown) (p : ℕ) (rows : List Row) → length (over_rows shown p rows) ≡ length rows
over-length shown p [] = refl
over-length shown p (row ∷ rows) = ap suc (over-length shown (p + 1) rows)

blank-length : (specs : List ProcessSpec) → length (blank_rows specs) ≡ length specs
blank-length [] = refl
blank-length (spec ∷ specs) = ap suc (blank-length specs)

pub rows-length : (shown : List Shown) (specs : List ProcessSpec)
    → length (rows_after (blank_rows specs) shown) ≡ length specs
rows-length shown specs =
    ap length (after-rows shown (blank_rows specs)) ∙ over-length shown 0 (blank_rows specs) ∙ blank-length specs
