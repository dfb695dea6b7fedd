-- A call whose counts are good and that has a request in hand, or none, as it has to, is at a point of its own.
use Rattle.std.proofs.Common.{◌≡◌, ◌⊎◌, inl, inr, ℕ, Bool, true, false, if◌then◌else◌, Option, Some, None, refl, ap}
use Rattle.std.proofs.Common.{sym, ◌∙◌}
use Rattle.process_semantics.specs.Points.{point_in, where_both_good, where_good}
use Rattle.process_semantics.specs.State.{ProgramState, count_of}
use Rattle.process_semantics.specs.declared.point.Point.{Point}
use Rattle.process_semantics.specs.declared.point.Point.TheVariants as point
use Rattle.tal_tree.specs.declared.expression.Expr.{Expr}
use Rattle.tal_tree.specs.declared.expression.Variable.{Variable}
use Rattle.tal_tree.specs.declared.program.Program.{Program}
use Rattle.tal_tree.specs.declared.statement.What.{What-F}

no-count : (own : Point) (count : Option ℕ) → (own ≡ point.Inner → ⊥) → where_good own count ≡ point.Inner
    → count ≡ None
no-count own None other is = refl
no-count own (Some n) other is = absurd (other is)

no-counts : (own : Point) (send room : Option ℕ) → (own ≡ point.Inner → ⊥)
    → where_both_good own send room ≡ point.Inner → (send ≡ None) ⊎ (room ≡ None)
no-counts own None room other is = inl refl
no-counts own (Some n) room other is = inr (no-count own room other is)

take-apart : point.Take ≡ point.Inner → ⊥
take-apart same = absurd (cc)

answer-apart : point.Answer ≡ point.Inner → ⊥
answer-apart same = absurd (cc)

ask-apart : point.Ask ≡ point.Inner → ⊥
ask-apart same = absurd (cc)

await-apart : point.Await ≡ point.Inner → ⊥
await-apart same = absurd (cc)

pub reads-why : (program : Program) (s : ProgramState) (buffer : ℕ) (most : Expr) (got : Variable)
    → s.in_hand ≡ false → point_in program s (What-F.ReadUpdate buffer most got) ≡ point.Inner
    → count_of program s buffer most ≡ None
reads-why program s buffer most got none is =
    no-count point.Take (count_of program s buffer most) take-apart
    (sym (ap (λ (hand : Bool). if hand then point.Inner else where_good point.Take (count_of program s buffer most))
    none) ∙ is)

pub replies-why : (program : Program) (s : ProgramState) (buffer : ℕ) (count : Expr) → s.in_hand ≡ true
    → point_in program s (What-F.Reply buffer count) ≡ point.Inner → count_of program s buffer count ≡ None
replies-why program s buffer count hand is =
    no-count point.Answer (count_of program s buffer count) answer-apart
    (sym (ap (λ (hand : Bool). if hand then where_good point.Answer (count_of program s buffer count) else point.Inner)
    hand) ∙ is)

asks-by : (program : Program) (s : ProgramState) (buffer : ℕ) (send room : Expr) (awaits : Bool)
    → (if awaits then point.Await
    else where_both_good point.Ask (count_of program s buffer send) (count_of program s buffer room)) ≡ point.Inner
    → (count_of program s buffer send ≡ None) ⊎ (count_of program s buffer room ≡ None)
asks-by program s buffer send room true is = absurd (await-apart is)
asks-by program s buffer send room false is =
    no-counts point.Ask (count_of program s buffer send) (count_of program s buffer room) ask-apart is

pub asks-why : (program : Program) (s : ProgramState) (file buffer : ℕ) (send room : Expr) (got : Variable)
    → point_in program s (What-F.WriteRead file buffer send room got) ≡ point.Inner
    → (count_of program s buffer send ≡ None) ⊎ (count_of program s buffer room ≡ None)
asks-why program s file buffer send room got is = asks-by program s buffer send room s.awaits is
