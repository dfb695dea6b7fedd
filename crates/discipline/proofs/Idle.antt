-- Where nothing is due nothing breaks.
use Rattle.std.proofs.Common.{◌≡◌, ◌≤◌, ℕ, ◌&&◌, Bool, true, false, arith, refl, ap, ◌∙◌}
use Rattle.std.specs.Prelude.{IsTrue, nat_le}
use Rattle.tal_tree.specs.declared.program.Program.{Program}
use Rattle.process_semantics.specs.State.{Entry}
use Rattle.path_semantics.specs.declared.reason.Reason.{Reason}
use Rattle.due_search.specs.reason_dues.specs.Amounts.{most_of, is_there, may_break_at, breaks_with}

pub never : (b : Bool) → IsTrue b → b ≡ false → ⊥
never b holds none = absurd (cc)

pub and-false : (b : Bool) → (b && false) ≡ false
and-false true = refl
and-false false = refl

too-few : (most : ℕ) → 1 ≤ most → nat_le most 0 ≡ false
too-few most some = grind arith

-- nothing breaks where nothing is due
pub none-due : (program : Program) (reason : Reason) (entry : Entry) → 1 ≤ most_of program reason
    → breaks_with program reason entry 0 ≡ false
none-due program reason entry some =
    ap (λ (b : Bool). may_break_at reason entry && (is_there program reason && b))
    (too-few (most_of program reason) some)
    ∙ ap (λ (b : Bool). may_break_at reason entry && b) (and-false (is_there program reason))
    ∙ and-false (may_break_at reason entry)
