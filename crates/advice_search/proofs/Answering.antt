-- The answer, put together of its parts.
use Rattle.std.proofs.Common.{◌≡◌, ◌≤◌, ◌<◌, ◌⊎◌, inl, inr, ◌↔◌, ℕ, zero, suc, ◌+◌, IsTrue, true, arith, List, [], ◌∷◌}
use Rattle.std.proofs.Common.{◌++◌, map, length, Some, None, option_map, slice_get, refl, ap, subst, sym, ◌∙◌}
use Rattle.std.specs.Prelude.{Ok, is_some}
use Rattle.std.proofs.lemmas.Option.{slice_get-map}
use Rattle.gd_words.specs.Members.{IsAmong, is_among}
use Rattle.gd_words.proofs.AmongTest.{among_there}
use Rattle.tal_tree.specs.Limits.{IsWithinLimits}
use Rattle.tal_tree.specs.Regular.{IsRegular}
use Rattle.tal_tree.specs.declared.program.FileUse.{FileUse}
use Rattle.tal_tree.specs.declared.program.Program.{Program}
use Rattle.tal_tree.specs.declared.statement.Statement.{Statement}
use Rattle.path_semantics.specs.declared.reason.Reason.{Reason}
use Rattle.path_semantics.specs.declared.reason.Reason.TheVariants.{Data, SyncBlock, Input, Depth}
use Rattle.path_semantics.specs.Bounds.{IsWithinBounds}
use Rattle.path_semantics.specs.Break.{Breaks}
use Rattle.path_semantics.specs.Dues.{after_entry}
use Rattle.path_semantics.proofs.Kept.{one-mapped}
use Rattle.advice.specs.flow_paths.specs.Flow.{AllArrive, IsFlow}
use Rattle.advice.specs.flow_paths.specs.Graph.{Node, edges_of}
use Rattle.advice.specs.reason_dues.specs.Amounts.{is_there, most_of, depth_in}
use Rattle.advice.specs.reason_dues.specs.declared.number_set.Numbers.{Numbers}
use Rattle.advice.specs.due_search.specs.declared.queue.Visit.{Visit}
use Rattle.advice.specs.due_search.specs.Ends.{HasFound}
use Rattle.advice.specs.discipline.specs.Verdict.{IsEarlier}
use Rattle.advice.specs.discipline.proofs.Impossible.{dues-own}
use Rattle.advice.specs.discipline.proofs.Tried.{aim_with, found-none, found-some}
use Rattle.advice.specs.declared.answer.Advised.{Advised}
use Rattle.advice.specs.Advice.{IsLeastDepth}
use Rattle.advice.specs.Answer.{checkpoints_of, IsLeastList, IsBeyondLists, IsUnmendable}
use Rattle.advice.specs.Choice.{deepened, deepest}
use Rattle.advice.specs.Due.{IsItemDue, IsFileDue}
use Rattle.advice.proofs.Deepest.{successors-kept}
use Rattle.advice_search.specs.declared.checkpoints.Checkpoint.{Checkpoint}
use Rattle.advice_search.specs.Advising.{NoneDeepBefore, IsInputTried, AreLeastDepths}
use Rattle.advice_search.specs.Gathered.{has_in, AreDue}
use Rattle.advice_search.specs.Lists.{place_of, numbers_below, advised}
use Rattle.advice_search.proofs.Below.{below-is, below-ascending}
use Rattle.advice_search.proofs.Places.{checkpoint-low}

-- The graph of a program is that of the program with the greatest depths

pub flow-deepest : (program : Program) (nodes : List Node) → IsFlow program nodes → IsFlow (deepest program) nodes
flow-deepest program nodes flow = record {
  count = flow.count;
  place = flow.place;
  start = flow.start;
  right = λ k node got.
      let right = flow.right k node got in
      record {
        next = right.next;
        caller = right.caller;
        leads = λ dues.
            subst (AllArrive (length nodes) flow.place (after_entry dues node.entry) (edges_of node))
            (sym (successors-kept program dues (flow.place k))) (right.leads dues);
      };
}

there-at : (files : List FileUse) (k : ℕ) → k < length files → (file : FileUse) × (slice_get files k ≡ Some file)
there-at [] k inside = absurd (omega arith)
there-at (file ∷ files) zero inside = (file, refl)
there-at (file ∷ files) (suc k) inside = there-at files k (omega arith)

file-there : (program : Program) (file : ℕ) → file < length program.files
    → (one : FileUse) × (slice_get (deepest program).files file ≡ Some (deepened one))
file-there program file inside =
    let at = there-at program.files file inside in
    (at.0, slice_get-map deepened program.files file ∙ ap (option_map deepened) at.1)

-- Input

module _ (program : Program) (nodes : List Node) (flow : IsFlow program nodes) (queue : List Visit) where
  pub input-none : HasFound nodes (aim_with Input 1) queue None → IsInputTried program (Ok tt)
  input-none found = (
    found-none program Input refl nodes flow 1 refl queue found,
    record {
      input = found-none (deepest program) Input refl nodes (flow-deepest program nodes flow) 1 refl queue found;
      depths = λ earlier path less broken. omega arith;
    },
  )

  no-input-before : (earlier : Reason) → IsBeyondLists earlier → IsEarlier earlier Input → ⊥
  no-input-before (Data item) beyond less = beyond
  no-input-before (SyncBlock file) beyond less = beyond
  no-input-before Input beyond less = less
  no-input-before (Depth file) beyond less = less

  pub input-some : IsWithinBounds program → (path : List ℕ) → HasFound nodes (aim_with Input 1) queue (Some path)
      → IsUnmendable program Input path
  input-some bounds path found = record {
    bounds = bounds;
    beyond = tt;
    shortest = found-some (deepest program) Input refl nodes (flow-deepest program nodes flow) 1 refl queue path found;
    first = λ earlier other beyond less broken. no-input-before earlier beyond less;
  }

  -- Depths

  module _ (file : ℕ) (inside : file < length program.files) where
    depth-there : is_there (deepest program) (Depth file) ≡ true
    depth-there = ap is_some (file-there program file inside).1

    depth-most : 4 ≡ most_of (deepest program) (Depth file)
    depth-most = sym (ap depth_in (file-there program file inside).1)

    pub depth-none : HasFound nodes (aim_with (Depth file) 4) queue None → (path : List ℕ)
        → Breaks (deepest program) path (Depth file) → ⊥
    depth-none found = found-none (deepest program) (Depth file) depth-there nodes (flow-deepest program nodes flow) 4
        depth-most queue found

    none-before : NoneDeepBefore program file → (earlier : Reason) (other : List ℕ) → IsBeyondLists earlier
        → IsEarlier earlier (Depth file) → Breaks (deepest program) other earlier → ⊥
    none-before before (Data item) other beyond less broken = beyond
    none-before before (SyncBlock one) other beyond less broken = beyond
    none-before before Input other beyond less broken = before.input other broken
    none-before before (Depth one) other beyond less broken = before.depths one other less broken

    pub depth-some : IsWithinBounds program → NoneDeepBefore program file → (path : List ℕ)
        → HasFound nodes (aim_with (Depth file) 4) queue (Some path) → IsUnmendable program (Depth file) path
    depth-some bounds before path found = record {
      bounds = bounds;
      beyond = tt;
      shortest = found-some (deepest program) (Depth file) depth-there nodes (flow-deepest program nodes flow) 4
          depth-most queue path found;
      first = none-before before;
    }

less-or-same : (n m : ℕ) → n < m + 1 → (n < m) ⊎ (n ≡ m)
less-or-same n m less = grind arith

pub none-more : (program : Program) (file : ℕ) → NoneDeepBefore program file
    → ((path : List ℕ) → Breaks (deepest program) path (Depth file) → ⊥) → NoneDeepBefore program (file + 1)
none-more program file before none = record {
  input = before.input;
  depths = λ earlier path less broken.
      by_place earlier path (less-or-same earlier file less) broken;
}
  where
    by_place : (earlier : ℕ) (path : List ℕ) → (earlier < file) ⊎ (earlier ≡ file)
        → Breaks (deepest program) path (Depth earlier) → ⊥
    by_place earlier path (inl less) broken = before.depths earlier path less broken
    by_place earlier path (inr same) broken =
        none path (subst (λ (k : ℕ). Breaks (deepest program) path (Depth k)) same broken)

-- One depth more

pushed : (depths : List ℕ) (depth place one : ℕ) → slice_get (depths ++ depth ∷ []) place ≡ Some one
    → (slice_get depths place ≡ Some one) ⊎ ((place ≡ length depths) × (one ≡ depth))
pushed [] depth zero one got = inr (refl, (let same : depth ≡ one = cc in sym same))
pushed [] depth (suc place) one got = absurd (let wrong : None ≡ Some one = got in cc)
pushed (first ∷ depths) depth zero one got = inl got
pushed (first ∷ depths) depth (suc place) one got = by_case (pushed depths depth place one got)
  where
    by_case : (slice_get depths place ≡ Some one) ⊎ ((place ≡ length depths) × (one ≡ depth))
        → (slice_get depths place ≡ Some one) ⊎ ((suc place ≡ suc (length depths)) × (one ≡ depth))
    by_case (inl before) = inl before
    by_case (inr last) = inr (ap suc last.0, last.1)

-- Lists

own-item : (program : Program) → IsRegular program → (number item : ℕ) → IsItemDue program number item
    → item < length program.items
own-item program regular number item due =
    (dues-own program regular due.path due.stand due.leads).globals item
    (among_there item due.stand.dues.globals due.due)

own-file : (program : Program) → IsRegular program → (number file : ℕ) → IsFileDue program number file
    → file < length program.files
own-file program regular number file due =
    (dues-own program regular due.path due.stand due.leads).asked file (among_there file due.stand.dues.asked due.due)

-- what is listed for a number is what is due
due-listed : (IsDue : ℕ → ℕ → Type 0) (sets : List Numbers) (count number : ℕ) → count ≤ 64 → number ≤ 2000
    → AreDue IsDue sets count → ((n : ℕ) → IsDue number n → n < count) → (n : ℕ)
    → IsTrue (is_among n (numbers_below (has_in sets number) count)) ↔ IsDue number n
due-listed IsDue sets count number few small due own n = (to, from)
  where
    listed : IsTrue (is_among n (numbers_below (has_in sets number) count))
        ↔ ((n < count) × IsTrue (has_in sets number n))
    listed = below-is (has_in sets number) count n

    to : IsTrue (is_among n (numbers_below (has_in sets number) count)) → IsDue number n
    to is = let both =
        listed.0 is in let less : n < count = both.0 in ((due number n small (omega (arith, few))).0 both.1).1

    from : IsDue number n → IsTrue (is_among n (numbers_below (has_in sets number) count))
    from is_due = let less : n < count = own n is_due in
        listed.1 (less, (due number n small (omega (arith, few))).1 (less, is_due))

module _ (program : Program) (limits : IsWithinLimits program) (regular : IsRegular program)
    (items files : List Numbers) (items_due : AreDue (IsItemDue program) items (length program.items))
    (files_due : AreDue (IsFileDue program) files (length program.files)) where
  abbrev lists : List Advised
  lists = map (λ (checkpoint : Checkpoint). advised program items files checkpoint)
      (map place_of (checkpoints_of program))

  few-files : length program.files ≤ 64
  few-files = let few = limits.files in omega arith

  least : (checkpoint : Checkpoint) → checkpoint.statement ≤ 2000
      → IsLeastList program (advised program items files checkpoint)
  least checkpoint small = record {
    items = due-listed (IsItemDue program) items (length program.items) checkpoint.statement limits.items small
        items_due (own-item program regular checkpoint.statement);
    files = due-listed (IsFileDue program) files (length program.files) checkpoint.statement few-files small files_due
        (own-file program regular checkpoint.statement);
    ascending_items = below-ascending (has_in items checkpoint.statement) (length program.items);
    ascending_files = below-ascending (has_in files checkpoint.statement) (length program.files);
  }

  pub least-lists : (all : List Advised) → all ≡ lists → (one : Advised) → IsAmong one all → IsLeastList program one
  least-lists all is one among =
      let at = one-mapped (λ (checkpoint : Checkpoint). advised program items files checkpoint) one
      (map place_of (checkpoints_of program)) (subst (IsAmong one) is among) in
      let place = one-mapped place_of at.0 (checkpoints_of program) at.1 in
      subst (IsLeastList program) (sym at.2)
      (least at.0 (subst (λ (checkpoint : Checkpoint). checkpoint.statement ≤ 2000) (sym place.2)
      (checkpoint-low program limits place.0 place.1)))

  numbers-listed : (statements : List Statement)
      → map (λ (one : Advised). one.statement)
      (map (λ (checkpoint : Checkpoint). advised program items files checkpoint) (map place_of statements))
      ≡ map (λ (statement : Statement). statement.number) statements
  numbers-listed [] = refl
  numbers-listed (statement ∷ rest) = ap (λ (later : List ℕ). statement.number ∷ later) (numbers-listed rest)

  lines-listed : (statements : List Statement)
      → map (λ (one : Advised). one.line) (map (λ (checkpoint : Checkpoint). advised program items files checkpoint)
      (map place_of statements))
      ≡ map (λ (statement : Statement). statement.line) statements
  lines-listed [] = refl
  lines-listed (statement ∷ rest) = ap (λ (later : List ℕ). statement.line ∷ later) (lines-listed rest)

  pub numbers-are : (all : List Advised) → all ≡ lists
      → map (λ one. one.statement) all ≡ map (λ statement. statement.number) (checkpoints_of program)
  numbers-are all is = ap (map (λ (one : Advised). one.statement)) is ∙ numbers-listed (checkpoints_of program)

  pub lines-are : (all : List Advised) → all ≡ lists
      → map (λ one. one.line) all ≡ map (λ statement. statement.line) (checkpoints_of program)
  lines-are all is = ap (map (λ (one : Advised). one.line)) is ∙ lines-listed (checkpoints_of program)

-- one depth more
pub depths-more : (program : Program) (depths : List ℕ) (file depth : ℕ) → length depths ≡ file
    → AreLeastDepths program depths → IsLeastDepth program file depth → depth ≤ 4
    → AreLeastDepths program (depths ++ depth ∷ [])
depths-more program depths file depth count before least few = record {
  least = λ place one got. by_least place one (pushed depths depth place one got);
  few = λ place one got. by_few place one (pushed depths depth place one got);
}
  where
    by_least : (place one : ℕ) → (slice_get depths place ≡ Some one) ⊎ ((place ≡ length depths) × (one ≡ depth))
        → IsLeastDepth program place one
    by_least place one (inl got) = before.least place one got
    by_least place one (inr last) =
        subst (λ (k : ℕ). IsLeastDepth program k one) (sym (last.0 ∙ count))
        (subst (λ (d : ℕ). IsLeastDepth program file d) (sym last.1) least)

    by_few : (place one : ℕ) → (slice_get depths place ≡ Some one) ⊎ ((place ≡ length depths) × (one ≡ depth)) → one ≤ 4
    by_few place one (inl got) = before.few place one got
    by_few place one (inr last) = subst (λ (d : ℕ). d ≤ 4) (sym last.1) few
