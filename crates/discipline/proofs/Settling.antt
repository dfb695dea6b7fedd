-- Sets of what may be due that hold along edges: for a reason that isn't found where it may break, no path breaks.
use Rattle.std.proofs.Common.{◌≡◌, ◌≤◌, ◌<◌, ◌⊎◌, inl, inr, ℕ, zero, suc, ◌+◌, ◌&&◌, ◌||◌, Bool, true, false, arith}
use Rattle.std.proofs.Common.{List, [], ◌∷◌, length, Option, Some, slice_get, get_or, refl, ap, subst, sym, ◌∙◌}
use Rattle.std.specs.Prelude.{IsTrue, min, nat_le, if◌then◌else◌}
use Rattle.std.specs.Option.{option_to_list}
use Rattle.std.proofs.lemmas.Option.{slice_get_within, slice_get_read}
use Rattle.gd_words.specs.Members.{IsAmong}
use Rattle.tal_tree.specs.declared.program.Program.{Program}
use Rattle.tal_tree.specs.declared.statement.What.{out-What}
use Rattle.process_semantics.specs.State.{Entry, Run, Test, Last}
use Rattle.path_semantics.specs.declared.reason.Reason.{Reason}
use Rattle.path_semantics.specs.Break.{breaks_at}
use Rattle.path_semantics.specs.Dues.{changed_by}
use Rattle.due_search.specs.flow_paths.specs.declared.graph.Edge.{Edge}
use Rattle.due_search.specs.flow_paths.specs.declared.graph.Goal.TheVariants.{At}
use Rattle.due_search.specs.flow_paths.specs.Graph.{Node, IsWithin, edges_of}
use Rattle.due_search.specs.flow_paths.specs.Flow.{IsFlow}
use Rattle.due_search.specs.reason_dues.specs.declared.reasons.Reasons.{Reasons}
use Rattle.due_search.specs.reason_dues.specs.Amounts.{clears, adds, adds_changed, one_more, after_entry, after_changed}
use Rattle.due_search.specs.reason_dues.specs.Amounts.{most_of}
use Rattle.due_search.specs.reason_dues.specs.Amounts.{cut_after, is_there, may_break_at, breaks_with}
use Rattle.due_search.specs.reason_dues.specs.Sets.{has_reason, IsNear, AreReasons, due_after}
use Rattle.discipline.specs.Suspects.{Reaches, IsSettled, AreSettled, AreFoundAt, AreFoundBefore, AreSuspects}
use Rattle.discipline.proofs.Goals.{goal-within}
use Rattle.discipline.proofs.Idle.{never, none-due}
use Rattle.discipline.proofs.Unbroken.{unbroken}

-- The edges of a node

pub first-inside : (count : ℕ) (node : Node) → IsWithin count node → (edge : Edge) → edge ≡ node.first → (k : ℕ)
    → edge.goal ≡ At k → k < count
first-inside count node within edge is k goal = within.goals edge (inl is) k goal

pub second-inside : (count : ℕ) (node : Node) → IsWithin count node → (edge : Edge) → Some edge ≡ node.second → (k : ℕ)
    → edge.goal ≡ At k → k < count
second-inside count node within edge is k goal =
    within.goals edge (inr (subst (λ (o : Option Edge). IsAmong edge (option_to_list o)) is (inl refl))) k goal

module _ (sets : List Reasons) (here after : Reasons) (node : Node) (entry : Entry) (is_entry : entry ≡ node.entry)
    (is_after : AreReasons after (λ reason. due_after reason entry (has_reason here reason))) where
  by-edge : (edge : Edge) → Reaches sets after edge → (j : ℕ) (there : Reasons) (reason : Reason) → edge.goal ≡ At j
      → slice_get sets j ≡ Some there → IsNear reason
      → IsTrue (adds_changed reason edge.targets || due_after reason node.entry (has_reason here reason))
      → IsTrue (has_reason there reason)
  by-edge edge reaches j there reason goal got near due =
      reaches j there reason goal got near
      (subst (λ (b : Bool). IsTrue (adds_changed reason edge.targets || b))
      (sym (is_after reason near ∙ ap (λ (e : Entry). due_after reason e (has_reason here reason)) is_entry)) due)

  pub settled-one : (first : Edge) → first ≡ node.first → Reaches sets after first → [] ≡ option_to_list node.second
      → IsSettled sets here node
  settled-one first is reaches none edge j there reason (inl same) goal got near due =
      by-edge edge (subst (Reaches sets after) (is ∙ sym same) reaches) j there reason goal got near due
  settled-one first is reaches none edge j there reason (inr among) goal got near due =
      absurd (subst (IsAmong edge) (sym none) among)

  pub settled-two : (first second : Edge) → first ≡ node.first → Reaches sets after first → Some second ≡ node.second
      → Reaches sets after second → IsSettled sets here node
  settled-two first second is reaches is_second also edge j there reason (inl same) goal got near due =
      by-edge edge (subst (Reaches sets after) (is ∙ sym same) reaches) j there reason goal got near due
  settled-two first second is reaches is_second also edge j there reason (inr among) goal got near due =
      by_same (subst (λ (o : Option Edge). IsAmong edge (option_to_list o)) (sym is_second) among)
    where
      by_same : IsAmong edge (second ∷ []) → IsTrue (has_reason there reason)
      by_same (inl same) = by-edge edge (subst (Reaches sets after) (sym same) also) j there reason goal got near due
      by_same (inr none) = absurd none

-- Node by node

below-or-here : (n m : ℕ) → n < m + 1 → (n < m) ⊎ (n ≡ m)
below-or-here n m less = grind arith

same-in : {A : Type 0} (x y : A) → Some x ≡ Some y → x ≡ y
same-in x y both = cc

module _ (P : Node → Reasons → Type 0) (nodes : List Node) (sets : List Reasons) where
  abbrev pub Before : ℕ → Type 0
  Before k = (j : ℕ) (node : Node) (here : Reasons) → j < k → slice_get nodes j ≡ Some node
      → slice_get sets j ≡ Some here → P node here

  pub one-further : (k : ℕ) (node : Node) (here : Reasons) → Before k → slice_get nodes k ≡ Some node
      → slice_get sets k ≡ Some here → P node here → Before (k + 1)
  one-further k node here before got at holds j other set less found there = by_case (below-or-here j k less)
    where
      by_case : (j < k) ⊎ (j ≡ k) → P other set
      by_case (inl below) = before j other set below found there
      by_case (inr same) =
          subst (λ (n : Node). P n set) (same-in node other (sym got ∙ ap (slice_get nodes) (sym same) ∙ found))
          (subst (P node) (same-in here set (sym at ∙ ap (slice_get sets) (sym same) ∙ there)) holds)

-- the set that is read at a place
pub read-at : (sets : List Reasons) (place k : ℕ) (set : Reasons) → place ≡ k → k < length sets
    → set ≡ get_or sets place set → slice_get sets k ≡ Some set
read-at sets place k set is inside read =
    slice_get_read sets (length sets) k set refl inside (read ∙ ap (λ (n : ℕ). get_or sets n set) is)

-- all nodes are before their number
pub all-before : (P : Node → Reasons → Type 0) (nodes : List Node) (sets : List Reasons) (k : ℕ) → length nodes ≤ k
    → Before P nodes sets k
    → (j : ℕ) (node : Node) (here : Reasons) → slice_get nodes j ≡ Some node → slice_get sets j ≡ Some here
    → P node here
all-before P nodes sets k all before j node here got at =
    before j node here (let inside : j < length nodes = slice_get_within nodes j node got in omega arith) got at

or-left : (a b : Bool) → IsTrue a → IsTrue (a || b)
or-left true b holds = refl
or-left false b holds = absurd (let no : false ≡ true = holds in cc)

or-right : (a b : Bool) → IsTrue b → IsTrue (a || b)
or-right true b holds = refl
or-right false b holds = holds

both-true : (a b : Bool) → IsTrue a → IsTrue b → IsTrue (a && b)
both-true true b holds also = also
both-true false b holds also = absurd (let no : false ≡ true = holds in cc)

module _ (nodes : List Node) (sets : List Reasons) (found new : Reasons) (k : ℕ) (node : Node)
    (here broken both : Reasons) (entry : Entry) (is_entry : entry ≡ node.entry)
    (is_broken : AreReasons broken (λ reason. may_break_at reason entry))
    (is_both : (reason : Reason) → has_reason both reason ≡ (has_reason broken reason && has_reason here reason))
    (is_new : (reason : Reason) → has_reason new reason ≡ (has_reason both reason || has_reason found reason)) where
  pub found-more : AreFoundBefore nodes sets found k → slice_get nodes k ≡ Some node → slice_get sets k ≡ Some here
      → AreFoundBefore nodes sets new (k + 1)
  found-more before got at =
      one-further (λ node here. AreFoundAt new here node) nodes sets k node here
      (λ j other set less is there reason near due breaks.
      subst (λ (b : Bool). IsTrue b) (sym (is_new reason))
      (or-right (has_reason both reason) (has_reason found reason)
      (before j other set less is there reason near due breaks)))
      got at
      (λ reason near due breaks.
      subst (λ (b : Bool). IsTrue b) (sym (is_new reason))
      (or-left (has_reason both reason) (has_reason found reason)
      (subst (λ (b : Bool). IsTrue b) (sym (is_both reason))
      (both-true (has_reason broken reason) (has_reason here reason)
      (subst (λ (b : Bool). IsTrue b) (sym (is_broken reason near ∙ ap (may_break_at reason) is_entry)) breaks) due))))

-- Nothing is due where it may not be

or-none : (a b : Bool) → (a || b) ≡ false → (a ≡ false) × (b ≡ false)
or-none true b none = absurd (cc)
or-none false b none = (refl, none)

-- where so much is due it may be
abbrev MayBe : ℕ → Bool → Type 0
MayBe due before = (due ≡ 0) ⊎ IsTrue before

none-is : (due : ℕ) (before : Bool) → MayBe due before → before ≡ false → due ≡ 0
none-is due before (inl none) not_before = none
none-is due before (inr may) not_before = absurd (never before may not_before)

zero-after : (reason : Reason) (entry : Entry) (due : ℕ) (before : Bool) → MayBe due before
    → due_after reason entry before ≡ false → after_entry reason entry due ≡ 0
zero-after reason (Run statement) due before may none =
    by_clear (clears (out-What statement.what)) (adds reason (out-What statement.what)) none
  where
    by_clear : (clears adds : Bool) → (if clears then false else (adds || before)) ≡ false
        → (if clears then 0 else (if adds then one_more reason due else due)) ≡ 0
    by_clear true adds none = refl
    by_clear false true none = absurd (cc)
    by_clear false false none = none-is due before may none
zero-after reason (Test statement) due before may none = none-is due before may none
zero-after reason (Last statement) due before may none =
    let both = or-none (adds_changed reason (changed_by (out-What statement.what))) before none in
    ap (λ (b : Bool). if b then 1 else due) both.0 ∙ none-is due before may both.1

zero-along : (program : Program) (reason : Reason) (entry : Entry) (targets : List ℕ) (due : ℕ) (before : Bool)
    → MayBe due before
    → (adds_changed reason targets || due_after reason entry before) ≡ false
    → cut_after (most_of program reason) reason entry targets due ≡ 0
zero-along program reason entry targets due before may none =
    let both = or-none (adds_changed reason targets) (due_after reason entry before) none in
    let most = most_of program reason in
    let changed : after_changed reason targets (after_entry reason entry due) ≡ 0 =
    ap (λ (b : Bool). if b then 1 else after_entry reason entry due) both.0
    ∙ zero-after reason entry due before may both.1 in
    ap (min most) changed ∙ (omega arith)

set-at : (sets : List Reasons) (k : ℕ) → k < length sets → (set : Reasons) × (slice_get sets k ≡ Some set)
set-at [] k inside = absurd (omega arith)
set-at (set ∷ sets) zero inside = (set, refl)
set-at (set ∷ sets) (suc k) inside = set-at sets k (omega arith)

true-or-false : (b : Bool) → IsTrue b ⊎ (b ≡ false)
true-or-false true = inl refl
true-or-false false = inr refl

module _ (nodes : List Node) (sets : List Reasons) (count : length sets ≡ length nodes)
    (settled : AreSettled nodes sets) (program : Program) (reason : Reason) (flow : IsFlow program nodes)
    (near : IsNear reason) where
  -- nothing is due, or the set of the node has the reason
  abbrev Mark : ℕ → ℕ → ℕ → Type 0
  Mark n k due = (due ≡ 0) ⊎ ((set : Reasons) × (slice_get sets k ≡ Some set) × IsTrue (has_reason set reason))

  may-be : (n k due : ℕ) (here : Reasons) → slice_get sets k ≡ Some here → Mark n k due
      → MayBe due (has_reason here reason)
  may-be n k due here at (inl none) = inl none
  may-be n k due here at (inr (set, there, has)) =
      inr (subst (λ (s : Reasons). IsTrue (has_reason s reason)) (same-in set here (sym there ∙ at)) has)

  stepped : (n k j due : ℕ) (node : Node) (edge : Edge) → slice_get nodes k ≡ Some node → Mark n k due
      → IsAmong edge (edges_of node) → edge.goal ≡ At j
      → Mark (n + 1) j (cut_after (most_of program reason) reason node.entry edge.targets due)
  stepped n k j due node edge got mark among goal =
      let inside : k < length nodes = slice_get_within nodes k node got in
      let here = set-at sets k (subst (λ m. k < m) (sym count) inside) in
      let there = set-at sets j (subst (λ m. j < m) (sym count)
      (goal-within program nodes flow k j node edge got among goal)) in
      by_case here.0 here.1 there.0 there.1 (true-or-false
      (adds_changed reason edge.targets || due_after reason node.entry (has_reason here.0 reason)))
    where
      by_case : (here : Reasons) → slice_get sets k ≡ Some here → (there : Reasons) → slice_get sets j ≡ Some there
          → IsTrue (adds_changed reason edge.targets || due_after reason node.entry (has_reason here reason))
          ⊎ ((adds_changed reason edge.targets || due_after reason node.entry (has_reason here reason)) ≡ false)
          → Mark (n + 1) j (cut_after (most_of program reason) reason node.entry edge.targets due)
      by_case here at there is (inl due_there) =
          inr (there, is, settled k node here got at edge j there reason among goal is near due_there)
      by_case here at there is (inr none) = inl
          (zero-along program reason node.entry edge.targets due (has_reason here reason) (may-be n k due here at mark)
          none)

  unfound : (found : Reasons) → AreFoundBefore nodes sets found (length nodes) → 1 ≤ most_of program reason
      → has_reason found reason ≡ false
      → (n k due : ℕ) (node : Node) → Mark n k due → slice_get nodes k ≡ Some node
      → breaks_with program reason node.entry due ≡ false
  unfound found all some none n k due node (inl zero_due) got =
      ap (breaks_with program reason node.entry) zero_due ∙ none-due program reason node.entry some
  unfound found all some none n k due node (inr (set, at, has)) got =
      by_case (true-or-false (may_break_at reason node.entry))
    where
      by_case : IsTrue (may_break_at reason node.entry) ⊎ (may_break_at reason node.entry ≡ false)
          → breaks_with program reason node.entry due ≡ false
      by_case (inl breaks) = absurd (never (has_reason found reason)
          (all k node set (slice_get_within nodes k node got) got at reason near has breaks) none)
      by_case (inr never_breaks) =
          ap (λ (b : Bool). b && (is_there program reason && nat_le (most_of program reason) due)) never_breaks

pub suspected : (nodes : List Node) (sets : List Reasons) (found : Reasons) → length sets ≡ length nodes
    → AreSettled nodes sets → AreFoundBefore nodes sets found (length nodes) → AreSuspects nodes found
suspected nodes sets found count settled all program reason flow some near none path broken =
    never (breaks_at program reason broken.stand) broken.breaks
    (unbroken program nodes flow reason (Mark nodes sets count settled program reason flow near)
    (record { first = λ inside. inl refl; step = stepped nodes sets count settled program reason flow near })
    (λ n. Unit {0})
    (λ n k due node within holds got. unfound nodes sets count settled program reason flow near found all some none n k
    due node holds got)
    broken.front broken.stand tt broken.leads)

-- with no nodes nothing breaks
pub none-suspected : (nodes : List Node) (found : Reasons) → length nodes ≡ 0 → AreSuspects nodes found
none-suspected nodes found empty =
    suspected nodes [] found (sym empty) (λ k node here got at. absurd (cc)) (λ j node here less got at. absurd (cc))
