-- A deck has one sweep.
use Rattle.std.proofs.Common.{◌≡◌, ℕ, ◌+◌, List, [], ◌∷◌, length, Some, arith, refl, subst, sym, ap, ◌∙◌}
use Rattle.player.specs.declared.stop.ProcessorStop.{ProcessorStop}
use Rattle.run_table.specs.Counts.{row_of}
use Rattle.run_table.specs.declared.rows.Row.{Row}
use Rattle.run_table.specs.declared.rows.RunKind.{RunKind}
use Rattle.run_table.specs.declared.table.ProcessorRow.{ProcessorRow}
use Rattle.schedule.specs.declared.line.Line.{Line}
use Rattle.single_runs.specs.packet_runs.specs.declared.ran.Ran.{Ran}
use Rattle.single_runs.proofs.Runs.{one-run}
use Rattle.tal_tree.specs.declared.site.Site.{Site}
use Rattle.command_dues.specs.schedule_sweeps.specs.Sweeps.{AreKindsOf, AreRowsFrom, IsKindOf, IsRowOf, IsSweepOf}
use Rattle.command_dues.specs.schedule_sweeps.specs.Sweeps.{kind_of}

one-kind : (site : Site) (lines : List Line) (stop : ProcessorStop) (kind other : RunKind)
    → IsKindOf site lines stop kind → IsKindOf site lines stop other → kind ≡ other
one-kind site lines stop kind other (ran, is, how) (too, its, so) =
    how ∙ ap (λ (ran : Ran). kind_of ran.ending) (one-run site lines (Some stop) ran too is its) ∙ sym so

joined : {A : Type 0} (x y : A) (xs ys : List A) → x ≡ y → xs ≡ ys → ◌≡◌ {A = List A} (x ∷ xs) (y ∷ ys)
joined x y xs ys first rest = cc

fewer : {A B : Type 0} (x : A) (y : B) (xs : List A) (ys : List B) → length (x ∷ xs) ≡ length (y ∷ ys)
    → length xs ≡ length ys
fewer x y xs ys same = omega (arith, same)

one-kinds : (site : Site) (lines : List Line) (processor : ℕ) (kinds others : List RunKind)
    → length kinds ≡ length others
    → AreKindsOf site lines processor kinds → AreKindsOf site lines processor others → kinds ≡ others
one-kinds site lines processor [] [] same are too = refl
one-kinds site lines processor [] (other ∷ others) same are too = absurd (omega (arith, same))
one-kinds site lines processor (kind ∷ kinds) [] same are too = absurd (omega (arith, same))
one-kinds site lines processor (kind ∷ kinds) (other ∷ others) same (first, are) (its, too) =
    let rest = fewer kind other kinds others same in
    joined kind other kinds others
    (one-kind site lines (record { processor = processor; after = length others }) kind other
    (subst (λ (n : ℕ). IsKindOf site lines (record { processor = processor; after = n }) kind) rest first) its)
    (one-kinds site lines processor kinds others rest are too)

one-row : (site : Site) (lines : List Line) (processor runs : ℕ) (row other : Row)
    → IsRowOf site lines processor runs row
    → IsRowOf site lines processor runs other → row ≡ other
one-row site lines processor runs row other one two =
    one.counts ∙ ap row_of (one-kinds site lines processor one.kinds two.kinds (one.many ∙ sym two.many) one.made
    two.made) ∙ sym two.counts

same-place : (one other : ProcessorRow) → one.processor ≡ other.processor → one.row ≡ other.row → one ≡ other
same-place one other processor row = λ i. record { processor = processor i; row = row i }

one-rows : (site : Site) (lines : List Line) (runs processor : ℕ) (rows others : List ProcessorRow)
    → length rows ≡ length others
    → AreRowsFrom site lines runs processor rows → AreRowsFrom site lines runs processor others → rows ≡ others
one-rows site lines runs processor [] [] same are too = refl
one-rows site lines runs processor [] (other ∷ others) same are too = absurd (omega (arith, same))
one-rows site lines runs processor (one ∷ rows) [] same are too = absurd (omega (arith, same))
one-rows site lines runs processor (one ∷ rows) (other ∷ others) same (here, made, are) (there, its, too) =
    joined one other rows others
    (same-place one other (here ∙ sym there) (one-row site lines processor runs one.row other.row made its))
    (one-rows site lines runs (processor + 1) rows others (fewer one other rows others same) are too)

pub one-sweep : (site : Site) (lines : List Line) (runs : ℕ) (rows others : List ProcessorRow)
    → IsSweepOf site lines runs rows
    → IsSweepOf site lines runs others → rows ≡ others
one-sweep site lines runs rows others one two =
    one-rows site lines runs 0 rows others (one.all ∙ sym two.all) one.rising two.rising
