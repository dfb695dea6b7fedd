-- Reasons that are tried one after the other.
use Rattle.std.proofs.Common.{◌≡◌, ◌≤◌, ◌<◌, ◌⊎◌, inl, inr, ℕ, zero, suc, ◌+◌, ◌&&◌, Bool, true, arith, List, [], ◌∷◌}
use Rattle.std.proofs.Common.{length, Option, Some, None, slice_get, refl, ap, subst, sym, ◌∙◌}
use Rattle.std.specs.Prelude.{is_some, nat_le}
use Rattle.gd_words.proofs.Among.{among-at}
use Rattle.tal_tree.specs.Limits.{IsWithinLimits}
use Rattle.tal_tree.specs.Regular.{IsRegular}
use Rattle.tal_tree.specs.declared.program.FileUse.{FileUse}
use Rattle.tal_tree.specs.declared.program.Program.{Program}
use Rattle.path_semantics.specs.declared.reason.Reason.{Reason}
use Rattle.path_semantics.specs.declared.reason.Reason.TheVariants.{Data, SyncBlock, Input, Depth}
use Rattle.path_semantics.specs.Accepted.{IsAccepted}
use Rattle.path_semantics.specs.Bounds.{IsWithinBounds}
use Rattle.path_semantics.specs.declared.dues.Dues.{Dues}
use Rattle.path_semantics.specs.Break.{Breaks, breaks_entry}
use Rattle.path_semantics.specs.Place.{next_entry}
use Rattle.process_semantics.specs.State.{Entry}
use Rattle.due_search.specs.flow_paths.specs.Flow.{IsFlow}
use Rattle.due_search.specs.flow_paths.specs.Graph.{Node}
use Rattle.due_search.specs.reason_dues.specs.Amounts.{is_there, may_break_at, most_of, depth_in}
use Rattle.due_search.specs.declared.queue.Visit.{Visit}
use Rattle.due_search.specs.declared.search.Aim.{Aim}
use Rattle.due_search.specs.Ends.{counted, ends_next, IsEnd, IsFirstEnd, AreReached, HasFound}
use Rattle.due_search.proofs.Paths.{ends-cut, none-ends}
use Rattle.discipline.specs.Suspects.{IsKnown}
use Rattle.discipline.specs.Verdict.{IsLeast, NoneBefore}
use Rattle.discipline.proofs.Cut.{breaks-is}
use Rattle.discipline.proofs.Impossible.{no-item, no-file, no-depth}

abbrev NoneFor : Program → Reason → Type 0
NoneFor program reason = (path : List ℕ) → Breaks program path reason → ⊥

-- What a search tells of a reason

abbrev pub aim_with : Reason → ℕ → Aim
aim_with reason most = record { reason = reason; most = most; ends = true }

module _ (program : Program) (reason : Reason) (there : is_there program reason ≡ true) where
  abbrev aim : Aim
  aim = aim_with reason (most_of program reason)

  -- an entry ends the search where it breaks
  ends-is : (dues : Dues) (next : Option Entry) → ends_next aim dues next ≡ breaks_entry program reason dues next
  ends-is dues None = refl
  ends-is dues (Some entry) =
      ends-cut aim entry dues
      ∙ ap (λ (b : Bool). may_break_at reason entry && (b && nat_le (most_of program reason) (counted aim dues)))
      (sym there)
      ∙ sym (breaks-is program reason dues entry)

  end-breaks : (path : List ℕ) → IsEnd program aim path → Breaks program path reason
  end-breaks path end = record {
    front = end.front;
    number = end.number;
    stand = end.stand;
    split = end.split;
    leads = end.leads;
    next = end.next;
    breaks = sym (ends-is end.stand.dues (next_entry end.stand)) ∙ end.ends;
  }

  breaks-end : (path : List ℕ) → Breaks program path reason → IsEnd program aim path
  breaks-end path broken = record {
    front = broken.front;
    number = broken.number;
    stand = broken.stand;
    split = broken.split;
    leads = broken.leads;
    next = broken.next;
    ends = ends-is broken.stand.dues (next_entry broken.stand) ∙ broken.breaks;
  }

  module _ (nodes : List Node) (flow : IsFlow program nodes) (most : ℕ) (is_most : most ≡ most_of program reason)
      (queue : List Visit) where
    pub found-none : HasFound nodes (aim_with reason most) queue None → NoneFor program reason
    found-none reached path broken =
        none-ends program nodes flow aim queue (subst (λ (m : ℕ). AreReached nodes (aim_with reason m) queue) is_most
        reached) path (breaks-end path broken)

    pub found-some : (path : List ℕ) → HasFound nodes (aim_with reason most) queue (Some path)
        → IsLeast program reason path
    found-some path found =
        let first = subst (λ (m : ℕ). IsFirstEnd program (aim_with reason m) path) is_most (found program flow) in
        record {
          breaks = end-breaks path first.ends;
          least = λ other broken. first.least other (breaks-end other broken);
        }

-- What is known of how much breaks

pub record HasMost (program : Program) (reason : Reason) : Type 0 where
  pub there : is_there program reason ≡ true
  pub some : 1 ≤ most_of program reason
  pub few : most_of program reason ≤ 4

pub has-most : (program : Program) (reason : Reason) → IsWithinLimits program → IsKnown program reason
    → HasMost program reason
has-most program (Data item) limits known = record { there = refl; some = omega arith; few = omega arith }
has-most program (SyncBlock file) limits known = record { there = refl; some = omega arith; few = omega arith }
has-most program Input limits known = record { there = refl; some = omega arith; few = omega arith }
has-most program (Depth file) limits known =
    let at = place program.files file known in
    let within = limits.each_file at.0 (among-at program.files file at.0 at.1) in
    record {
      there = ap is_some at.1;
      some = subst (λ (f : Option FileUse). 1 ≤ depth_in f) (sym at.1) within.lowest;
      few = subst (λ (f : Option FileUse). depth_in f ≤ 4) (sym at.1) within.highest;
    }
  where
    place : (files : List FileUse) (k : ℕ) → k < length files → (file : FileUse) × (slice_get files k ≡ Some file)
    place [] k inside = absurd (omega arith)
    place (file ∷ files) zero inside = (file, refl)
    place (file ∷ files) (suc k) inside = place files k (omega arith)

-- The order of reasons

less-or-same : (n m : ℕ) → n < m + 1 → (n < m) ⊎ (n ≡ m)
less-or-same n m less = grind arith

below-or-past : (n m : ℕ) → (n < m) ⊎ (m ≤ n)
below-or-past n m = grind arith

pub before-first : (program : Program) → NoneBefore program (Data 0)
before-first program (Data item) path earlier broken = omega arith
before-first program (SyncBlock file) path earlier broken = earlier
before-first program Input path earlier broken = earlier
before-first program (Depth file) path earlier broken = earlier

pub before-item : (program : Program) (n : ℕ) → NoneBefore program (Data n) → NoneFor program (Data n)
    → NoneBefore program (Data (n + 1))
before-item program n before none (Data item) path earlier broken = by_case (less-or-same item n earlier)
  where
    by_case : (item < n) ⊎ (item ≡ n) → ⊥
    by_case (inl less) = before (Data item) path less broken
    by_case (inr same) = none path (subst (λ (k : ℕ). Breaks program path (Data k)) same broken)
before-item program n before none (SyncBlock file) path earlier broken = earlier
before-item program n before none Input path earlier broken = earlier
before-item program n before none (Depth file) path earlier broken = earlier

pub before-files : (program : Program) (n : ℕ) → IsRegular program → length program.items ≤ n
    → NoneBefore program (Data n) → NoneBefore program (SyncBlock 0)
before-files program n regular all before (Data item) path earlier broken = by_case (below-or-past item n)
  where
    by_case : (item < n) ⊎ (n ≤ item) → ⊥
    by_case (inl less) = before (Data item) path less broken
    by_case (inr past) = no-item program item regular (omega arith) path broken
before-files program n regular all before (SyncBlock file) path earlier broken = omega arith
before-files program n regular all before Input path earlier broken = earlier
before-files program n regular all before (Depth file) path earlier broken = earlier

pub before-file : (program : Program) (n : ℕ) → NoneBefore program (SyncBlock n) → NoneFor program (SyncBlock n)
    → NoneBefore program (SyncBlock (n + 1))
before-file program n before none (Data item) path earlier broken = before (Data item) path tt broken
before-file program n before none (SyncBlock file) path earlier broken = by_case (less-or-same file n earlier)
  where
    by_case : (file < n) ⊎ (file ≡ n) → ⊥
    by_case (inl less) = before (SyncBlock file) path less broken
    by_case (inr same) = none path (subst (λ (k : ℕ). Breaks program path (SyncBlock k)) same broken)
before-file program n before none Input path earlier broken = earlier
before-file program n before none (Depth file) path earlier broken = earlier

pub before-input : (program : Program) (n : ℕ) → IsRegular program → length program.files ≤ n
    → NoneBefore program (SyncBlock n) → NoneBefore program Input
before-input program n regular all before (Data item) path earlier broken = before (Data item) path tt broken
before-input program n regular all before (SyncBlock file) path earlier broken = by_case (below-or-past file n)
  where
    by_case : (file < n) ⊎ (n ≤ file) → ⊥
    by_case (inl less) = before (SyncBlock file) path less broken
    by_case (inr past) = no-file program file regular (omega arith) path broken
before-input program n regular all before Input path earlier broken = earlier
before-input program n regular all before (Depth file) path earlier broken = earlier

pub before-depths : (program : Program) → NoneBefore program Input → NoneFor program Input
    → NoneBefore program (Depth 0)
before-depths program before none (Data item) path earlier broken = before (Data item) path tt broken
before-depths program before none (SyncBlock file) path earlier broken = before (SyncBlock file) path tt broken
before-depths program before none Input path earlier broken = none path broken
before-depths program before none (Depth file) path earlier broken = omega arith

pub before-depth : (program : Program) (n : ℕ) → NoneBefore program (Depth n) → NoneFor program (Depth n)
    → NoneBefore program (Depth (n + 1))
before-depth program n before none (Data item) path earlier broken = before (Data item) path tt broken
before-depth program n before none (SyncBlock file) path earlier broken = before (SyncBlock file) path tt broken
before-depth program n before none Input path earlier broken = before Input path tt broken
before-depth program n before none (Depth file) path earlier broken = by_case (less-or-same file n earlier)
  where
    by_case : (file < n) ⊎ (file ≡ n) → ⊥
    by_case (inl less) = before (Depth file) path less broken
    by_case (inr same) = none path (subst (λ (k : ℕ). Breaks program path (Depth k)) same broken)

-- all reasons are tried
pub all-tried : (program : Program) (n : ℕ) → IsWithinBounds program → length program.files ≤ n
    → NoneBefore program (Depth n) → IsAccepted program
all-tried program n bounds all before =
    record { bounds = bounds; unbroken = λ path reason broken. none reason path broken }
  where
    none : (reason : Reason) (path : List ℕ) → Breaks program path reason → ⊥
    none (Data item) path broken = before (Data item) path tt broken
    none (SyncBlock file) path broken = before (SyncBlock file) path tt broken
    none Input path broken = before Input path tt broken
    none (Depth file) path broken = by_case (below-or-past file n)
      where
        by_case : (file < n) ⊎ (n ≤ file) → ⊥
        by_case (inl less) = before (Depth file) path less broken
        by_case (inr past) = no-depth program file (omega arith) path broken
