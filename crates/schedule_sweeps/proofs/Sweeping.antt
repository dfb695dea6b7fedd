-- The rows of a sweep, run by run and row by row.
use Rattle.std.proofs.Common.{◌≡◌, ℕ, ◌+◌, List, [], ◌∷◌, ◌++◌, length, arith, refl, subst, sym}
use Rattle.run_table.specs.Counts.{row_of}
use Rattle.run_table.specs.declared.rows.Row.{Row}
use Rattle.run_table.specs.declared.rows.RunKind.{RunKind}
use Rattle.run_table.specs.declared.table.ProcessorRow.{ProcessorRow}
use Rattle.schedule.specs.declared.line.Line.{Line}
use Rattle.tal_tree.specs.declared.site.Site.{Site}
use Rattle.schedule_sweeps.specs.Sweeps.{AreRowsFrom, IsKindOf, IsRowOf}

-- one run more
pub row-more : (site : Site) (lines : List Line) (processor runs : ℕ) (row next : Row) (kind : RunKind)
    → IsRowOf site lines processor runs row
    → IsKindOf site lines (record { processor = processor; after = runs }) kind
    → ((kinds : List RunKind) → row ≡ row_of kinds → next ≡ row_of (kind ∷ kinds))
    → IsRowOf site lines processor (runs + 1) next
row-more site lines processor runs row next kind is one adds = record {
  kinds = kind ∷ is.kinds;
  many = more is.kinds is.many;
  made = (
    subst (λ (n : ℕ). IsKindOf site lines (record { processor = processor; after = n }) kind) (sym is.many) one,
    is.made,
  );
  counts = adds is.kinds is.counts;
}
  where
    more : (kinds : List RunKind) → length kinds ≡ runs → length (kind ∷ kinds) ≡ runs + 1
    more kinds many = omega (arith, many)

-- one row more
pub rows-more : (site : Site) (lines : List Line) (runs from to : ℕ) (rows : List ProcessorRow) (one : ProcessorRow)
    → AreRowsFrom site lines runs from rows
    → to ≡ from + length rows → one.processor ≡ to → IsRowOf site lines to runs one.row
    → AreRowsFrom site lines runs from (rows ++ one ∷ [])
rows-more site lines runs from to [] one are at place is =
    let same : to ≡ from = omega (arith, at) in
    (subst (λ (n : ℕ). one.processor ≡ n) same place, subst (λ (n : ℕ). IsRowOf site lines n runs one.row) same is, tt)
rows-more site lines runs from to (first ∷ rows) one (here, made, rest) at place is =
    (here, made, rows-more site lines runs (from + 1) to rows one rest (omega (arith, at)) place is)

one-longer : (rows : List ProcessorRow) (one : ProcessorRow) → length (rows ++ one ∷ []) ≡ length rows + 1
one-longer [] one = refl
one-longer (first ∷ rows) one =
    let rest : length (rows ++ one ∷ []) ≡ length rows + 1 = one-longer rows one in omega (arith, rest)

-- the row of the next processor
pub next-row : (site : Site) (lines : List Line) (runs processor : ℕ) (rows next : List ProcessorRow) (row : Row)
    → (length rows ≡ processor) × AreRowsFrom site lines runs 0 rows
    → next ≡ rows ++ record { processor = processor; row = row } ∷ []
    → IsRowOf site lines processor runs row → (length next ≡ processor + 1) × AreRowsFrom site lines runs 0 next
next-row site lines runs processor rows next row (many, are) added is =
    let one : ProcessorRow = record { processor = processor; row = row } in
    let longer : length (rows ++ one ∷ []) ≡ length rows + 1 = one-longer rows one in
    subst (λ (all : List ProcessorRow). (length all ≡ processor + 1) × AreRowsFrom site lines runs 0 all) (sym added)
    (omega (arith, many, longer), rows-more site lines runs 0 processor rows one are (omega (arith, many)) refl is)
