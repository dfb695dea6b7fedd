-- A break is told by how much is due, and by that cut at what breaks.
use Rattle.std.proofs.Common.{◌≡◌, ℕ, ◌&&◌, Bool, true, false, arith, Option, Some, None, slice_get, refl, ap, sym, ◌∙◌}
use Rattle.std.specs.Prelude.{nat_le, min, is_some}
use Rattle.gd_words.specs.Members.{is_among}
use Rattle.tal_tree.specs.declared.program.FileUse.{FileUse}
use Rattle.tal_tree.specs.declared.program.Program.{Program}
use Rattle.tal_tree.specs.declared.statement.What.{out-What}
use Rattle.process_semantics.specs.State.{Entry, Run, Test, Last}
use Rattle.path_semantics.specs.declared.dues.Dues.{Dues}
use Rattle.path_semantics.specs.declared.reason.Reason.{Reason}
use Rattle.path_semantics.specs.declared.reason.Reason.TheVariants.{Data, SyncBlock, Input, Depth}
use Rattle.path_semantics.specs.Break.{asked_count, is_reached, may_break, is_enough, breaks_entry}
use Rattle.due_search.specs.reason_dues.specs.Amounts.{one_if, amount, depth_in, most_of, is_there, breaks_with}

one-due : (b : Bool) → b ≡ nat_le 1 (one_if b)
one-due true = refl
one-due false = refl

reached-is : (file : Option FileUse) (n : ℕ) → is_reached file n ≡ (is_some file && nat_le (depth_in file) n)
reached-is None n = refl
reached-is (Some file) n = refl

enough-is : (program : Program) (reason : Reason) (dues : Dues)
    → is_enough program reason dues ≡ (is_there program reason && nat_le (most_of program reason) (amount reason dues))
enough-is program (Data item) dues = one-due (is_among item dues.globals)
enough-is program (SyncBlock file) dues = one-due (is_among file dues.asked)
enough-is program Input dues = one-due dues.read
enough-is program (Depth file) dues = reached-is (slice_get program.files file) (asked_count file dues)

le-cut : (most n : ℕ) → nat_le most (min most n) ≡ nat_le most n
le-cut most n = grind arith

-- an entry breaks exactly where so much is due, also when that is cut
pub breaks-is : (program : Program) (reason : Reason) (dues : Dues) (entry : Entry)
    → breaks_entry program reason dues (Some entry)
    ≡ breaks_with program reason entry (min (most_of program reason) (amount reason dues))
breaks-is program reason dues (Run statement) =
    ap (λ (b : Bool). may_break reason (out-What statement.what) && b)
    (enough-is program reason dues ∙ ap (λ (b : Bool). is_there program reason && b)
    (sym (le-cut (most_of program reason) (amount reason dues))))
breaks-is program reason dues (Test statement) = refl
breaks-is program reason dues (Last statement) = refl
