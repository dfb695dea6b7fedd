-- What is cut off at so much makes no difference later.
use Rattle.std.proofs.Common.{◌≡◌, ℕ, Bool, true, false, arith, List, refl, ap, sym, ◌∙◌}
use Rattle.std.specs.Prelude.{min, if◌then◌else◌}
use Rattle.tal_tree.specs.declared.statement.What.{out-What}
use Rattle.path_semantics.specs.process_semantics.specs.State.{Entry, Run, Test, Last}
use Rattle.path_semantics.specs.declared.dues.Dues.{Dues}
use Rattle.path_semantics.specs.declared.reason.Reason.{Reason}
use Rattle.path_semantics.specs.declared.reason.Reason.TheVariants.{Data, SyncBlock, Input, Depth}
use Rattle.path_semantics.specs.Dues.{no_dues, with_changed, changed_by, after_entry as dues_after}
use Rattle.reason_dues.specs.Amounts.{amount, clears, adds, adds_changed, one_more, after_changed, after_entry}
use Rattle.reason_dues.specs.Amounts.{cut_after}
use Rattle.reason_dues.proofs.Amounts.{amount-none, amount-changed, amount-entry}

-- nothing is due at the start
pub cut-none : (most : ℕ) (reason : Reason) → min most (amount reason no_dues) ≡ 0
cut-none most reason = ap (min most) (amount-none reason) ∙ (omega arith)

cut-if : (most n m k : ℕ) (b : Bool) → min most n ≡ min most m
    → min most (if b then k else n) ≡ min most (if b then k else m)
cut-if most n m k true same = refl
cut-if most n m k false same = same

cut-more : (reason : Reason) (most n m : ℕ) → min most n ≡ min most m
    → min most (one_more reason n) ≡ min most (one_more reason m)
cut-more (Data item) most n m same = refl
cut-more (SyncBlock file) most n m same = refl
cut-more Input most n m same = refl
cut-more (Depth file) most n m same = omega arith

cut-changed : (reason : Reason) (most n m : ℕ) (globals : List ℕ) → min most n ≡ min most m
    → min most (after_changed reason globals n) ≡ min most (after_changed reason globals m)
cut-changed reason most n m globals same = cut-if most n m 1 (adds_changed reason globals) same

cut-added : (reason : Reason) (most n m : ℕ) (b : Bool) → min most n ≡ min most m
    → min most (if b then one_more reason n else n) ≡ min most (if b then one_more reason m else m)
cut-added reason most n m true same = cut-more reason most n m same
cut-added reason most n m false same = same

cut-cleared : (reason : Reason) (most n m : ℕ) (b adds : Bool) → min most n ≡ min most m
    → min most (if b then 0 else (if adds then one_more reason n else n))
    ≡ min most (if b then 0 else (if adds then one_more reason m else m))
cut-cleared reason most n m true adds same = refl
cut-cleared reason most n m false adds same = cut-added reason most n m adds same

cut-entry : (reason : Reason) (most n m : ℕ) (entry : Entry) → min most n ≡ min most m
    → min most (after_entry reason entry n) ≡ min most (after_entry reason entry m)
cut-entry reason most n m (Run statement) same =
    cut-cleared reason most n m (clears (out-What statement.what)) (adds reason (out-What statement.what)) same
cut-entry reason most n m (Test statement) same = same
cut-entry reason most n m (Last statement) same =
    cut-changed reason most n m (changed_by (out-What statement.what)) same

cut-twice : (most n : ℕ) → min most n ≡ min most (min most n)
cut-twice most n = omega arith

-- a change after a cut
pub changed-cut : (reason : Reason) (most n : ℕ) (globals : List ℕ)
    → min most (after_changed reason globals (min most n)) ≡ min most (after_changed reason globals n)
changed-cut reason most n globals = cut-changed reason most (min most n) n globals (sym (cut-twice most n))

-- along an edge: what is due before, cut, tells what is due after it, cut
pub along-edge : (most : ℕ) (reason : Reason) (dues : Dues) (entry : Entry) (globals : List ℕ)
    → min most (amount reason (with_changed globals (dues_after dues entry)))
    ≡ cut_after most reason entry globals (min most (amount reason dues))
along-edge most reason dues entry globals =
    ap (min most) (amount-changed reason globals (dues_after dues entry)
    ∙ ap (after_changed reason globals) (amount-entry reason dues entry))
    ∙ cut-changed reason most (after_entry reason entry (amount reason dues))
    (after_entry reason entry (min most (amount reason dues))) globals
    (cut-entry reason most (amount reason dues) (min most (amount reason dues)) entry
    (cut-twice most (amount reason dues)))

-- an entry, from what is due cut, twice or once
pub entry-cut : (most : ℕ) (reason : Reason) (dues : Dues) (entry : Entry) (due : ℕ)
    → due ≡ min most (amount reason dues)
    → min most (after_entry reason entry (min most due)) ≡ min most (amount reason (dues_after dues entry))
entry-cut most reason dues entry due is =
    cut-entry reason most (min most due) (amount reason dues) entry
    (sym (cut-twice most due) ∙ ap (min most) is ∙ sym (cut-twice most (amount reason dues)))
    ∙ ap (min most) (sym (amount-entry reason dues entry))
