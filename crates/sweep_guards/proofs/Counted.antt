-- Which runs a row counts, and which rows a sweep has.
use Rattle.std.proofs.Common.{◌≡◌, ◌∙◌, ℕ, List, [], ◌∷◌, length, arith}
use Rattle.run_table.specs.Counts.{row_of}
use Rattle.run_table.specs.declared.rows.Row.{Row}
use Rattle.run_table.specs.declared.rows.RunKind.{RunKind}
use Rattle.run_table.specs.declared.table.ProcessorRow.{ProcessorRow}
use Rattle.schedule.specs.declared.line.Line.{Line}
use Rattle.schedule_sweeps.specs.Sweeps.{AreKindsOf, AreRowsFrom, IsRowOf, IsSweepOf}
use Rattle.tal_tree.specs.declared.site.Site.{Site}
use Rattle.sweep_guards.specs.Runs.{CountsNone, CountsTwo, HasTwoRows}

no-kind : (kinds : List RunKind) (row : Row) → length kinds ≡ 0 → row ≡ row_of kinds → CountsNone row
no-kind [] row many is = is
no-kind (kind ∷ kinds) row many is = absurd (omega (arith, many))

pub counts-none : (site : Site) (lines : List Line) (processor : ℕ) (row : Row) → IsRowOf site lines processor 0 row
    → CountsNone row
counts-none site lines processor row is = no-kind is.kinds row is.many is.counts

both : (a b x y : RunKind) → a ≡ x → b ≡ y → row_of (a ∷ b ∷ []) ≡ row_of (x ∷ y ∷ [])
both a b x y one two = cc

two-kinds : (site : Site) (lines : List Line) (processor : ℕ) (kinds : List RunKind) (row : Row) → length kinds ≡ 2
    → AreKindsOf site lines processor kinds
    → row ≡ row_of kinds → CountsTwo site lines processor row
two-kinds site lines processor [] row many are is = absurd (omega (arith, many))
two-kinds site lines processor (a ∷ []) row many are is = absurd (omega (arith, many))
two-kinds site lines processor (a ∷ b ∷ c ∷ kinds) row many are is = absurd (omega (arith, many))
two-kinds site lines processor (a ∷ b ∷ []) row many ((last, ends, how), ((first, begins, so), done)) is = record {
  first = first;
  last = last;
  begins = begins;
  ends = ends;
  counts = is ∙ both a b _ _ how so;
}

pub counts-two : (site : Site) (lines : List Line) (processor : ℕ) (row : Row) → IsRowOf site lines processor 2 row
    → CountsTwo site lines processor row
counts-two site lines processor row is = two-kinds site lines processor is.kinds row is.many is.made is.counts

placed : (one two : ProcessorRow) → one.processor ≡ 0 → two.processor ≡ 1
    → ◌≡◌ {A = List ProcessorRow} (one ∷ two ∷ [])
    (record { processor = 0; row = one.row } ∷ record { processor = 1; row = two.row } ∷ [])
placed one two first second =
    λ i. record { processor = first i; row = one.row } ∷ record { processor = second i; row = two.row } ∷ []

two-rows : (site : Site) (lines : List Line) (runs : ℕ) (rows : List ProcessorRow) → length rows ≡ 2
    → AreRowsFrom site lines runs 0 rows
    → HasTwoRows site lines runs rows
two-rows site lines runs [] many are = absurd (omega (arith, many))
two-rows site lines runs (one ∷ []) many are = absurd (omega (arith, many))
two-rows site lines runs (one ∷ two ∷ three ∷ rows) many are = absurd (omega (arith, many))
two-rows site lines runs (one ∷ two ∷ []) many (here, first, (there, second, done)) = record {
  zero = one.row;
  one = two.row;
  both = placed one two here there;
  of_zero = first;
  of_one = second;
}

pub has-two : (site : Site) (lines : List Line) (runs : ℕ) (rows : List ProcessorRow) → IsSweepOf site lines runs rows
    → site.processors ≡ 2
    → HasTwoRows site lines runs rows
has-two site lines runs rows is two = two-rows site lines runs rows (is.all ∙ two) is.rising
