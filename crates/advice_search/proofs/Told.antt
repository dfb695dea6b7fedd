-- What the visits of a search tell of the CHECKPOINTs to which paths lead.
use Rattle.std.proofs.Common.{◌≡◌, ◌≤◌, ◌↔◌, ℕ, ◌==◌, ◌&&◌, Bool, true, false, IsTrue, arith, List}
use Rattle.std.proofs.Common.{Option, Some, None, slice_get, if◌then◌else◌, eq-eqb, refl, ap, subst, sym, ◌∙◌}
use Rattle.std.specs.Prelude.{nat_le, min}
use Rattle.std.proofs.lemmas.Bool.{eqb-true}
use Rattle.gd_words.specs.Members.{is_among}
use Rattle.tal_tree.specs.declared.program.Program.{Program}
use Rattle.tal_tree.specs.declared.statement.What.{out-What}
use Rattle.process_semantics.specs.State.{Entry, Run, Test, Last}
use Rattle.path_semantics.specs.declared.reason.Reason.TheVariants.{Data, Depth}
use Rattle.path_semantics.specs.Break.{asked_count}
use Rattle.path_semantics.specs.Path.{Leads}
use Rattle.path_semantics.specs.Place.{Stand, next_entry}
use Rattle.advice.specs.flow_paths.specs.Flow.{IsFlow}
use Rattle.advice.specs.flow_paths.specs.Graph.{Node}
use Rattle.advice.specs.reason_dues.specs.Amounts.{amount, one_if}
use Rattle.advice.specs.due_search.specs.declared.queue.Visit.{Visit}
use Rattle.advice.specs.due_search.specs.declared.search.Aim.{Aim}
use Rattle.advice.specs.due_search.specs.Ends.{counted, AreReached, AreNumbered, HasFound, ends_next}
use Rattle.advice.specs.due_search.proofs.Paths.{at-node, at-stand}
use Rattle.advice.specs.Due.{is_checkpoint, is_checkpoint_next, IsItemDue, IsFileDue}
use Rattle.advice_search.specs.Gathered.{checkpoint_at, checkpoint_in, due_at, is_this, is_due_among, AreReadable}
use Rattle.advice_search.proofs.Any.{any-there, any-at, counted-among, among-counted}

pub never : {A : Type 0} → false ≡ true → A
never wrong = absurd (cc)

-- The number of a CHECKPOINT

checkpoint-next : (entry : Entry) (number : ℕ) → checkpoint_at entry ≡ Some number
    → IsTrue (is_checkpoint_next number (Some entry))
checkpoint-next (Run statement) number is = by_test (is_checkpoint (out-What statement.what)) is
  where
    by_test : (b : Bool) → (if b then Some statement.number else None) ≡ Some number
        → IsTrue ((statement.number == number) && b)
    by_test true same =
        let both : Some statement.number ≡ Some number = same in
        ap (λ (b : Bool). b && true) (eq-eqb statement.number number (let one : statement.number ≡ number = cc in one))
    by_test false none = absurd (let wrong : None ≡ Some number = none in cc)
checkpoint-next (Test statement) number is = absurd (let wrong : None ≡ Some number = is in cc)
checkpoint-next (Last statement) number is = absurd (let wrong : None ≡ Some number = is in cc)

next-checkpoint : (entry : Entry) (number : ℕ) → IsTrue (is_checkpoint_next number (Some entry))
    → checkpoint_at entry ≡ Some number
next-checkpoint (Run statement) number is =
    by_test (statement.number == number) (is_checkpoint (out-What statement.what)) refl is
  where
    by_test : (same b : Bool) → (statement.number == number) ≡ same → IsTrue (same && b)
        → (if b then Some statement.number else None) ≡ Some number
    by_test true true equal holds = ap Some (eqb-true statement.number number equal)
    by_test true false equal holds = never holds
    by_test false b equal holds = never holds
next-checkpoint (Test statement) number is = never is
next-checkpoint (Last statement) number is = never is

is-this : (number : ℕ) (found : Option ℕ) → is_this number found ≡ true → found ≡ Some number
is-this number None is = never is
is-this number (Some other) is = ap Some (eqb-true other number is)

pub both-told : (b : Bool) (found : Option ℕ) (number : ℕ) → (if b then found else None) ≡ Some number
    → (b ≡ true) × (found ≡ Some number)
both-told true found number is = (refl, is)
both-told false found number is = absurd (let wrong : None ≡ Some number = is in cc)

pub record IsNodeOf (found : Option Node) (number : ℕ) : Type 0 where
  pub node : Node
  pub there : found ≡ Some node
  pub is : checkpoint_at node.entry ≡ Some number

node-of : (found : Option Node) (number : ℕ) → checkpoint_in found ≡ Some number → IsNodeOf found number
node-of None number is = absurd (let wrong : None ≡ Some number = is in cc)
node-of (Some node) number is = record { node = node; there = refl; is = is }

le-one : (n : ℕ) → nat_le 1 n ≡ true → 1 ≤ n
le-one n is = grind arith

one-le : (n : ℕ) → 1 ≤ n → nat_le 1 n ≡ true
one-le n is = grind arith

-- a visit that stands at a CHECKPOINT with something due
pub due-told : (nodes : List Node) (visit : Visit) (number : ℕ) → due_at nodes visit ≡ Some number
    → (1 ≤ visit.due) × IsNodeOf (slice_get nodes visit.node) number
due-told nodes visit number is =
    let both = both-told (nat_le 1 visit.due) (checkpoint_in (slice_get nodes visit.node)) number is in
    (le-one visit.due both.0, node-of (slice_get nodes visit.node) number both.1)

told-due : (nodes : List Node) (visit : Visit) (number : ℕ) (node : Node) → 1 ≤ visit.due
    → slice_get nodes visit.node ≡ Some node → checkpoint_at node.entry ≡ Some number
    → is_this number (due_at nodes visit) ≡ true
told-due nodes visit number node some got is =
    ap (λ (b : Bool). is_this number (if b then checkpoint_in (slice_get nodes visit.node) else None))
    (one-le visit.due some)
    ∙ ap (λ (found : Option Node). is_this number (checkpoint_in found)) got ∙ ap (is_this number) is
    ∙ eq-eqb number number refl

-- a path leads to the CHECKPOINT of a number with something due
pub record IsDueFor (program : Program) (aim : Aim) (number : ℕ) : Type 0 where
  pub path : List ℕ
  pub stand : Stand
  pub leads : Leads program path stand
  pub next : IsTrue (is_checkpoint_next number (next_entry stand))
  pub due : 1 ≤ counted aim stand.dues

module _ (program : Program) (nodes : List Node) (flow : IsFlow program nodes) (aim : Aim) (visits : List Visit)
    (reached : AreReached nodes aim visits) (number : ℕ) where
  pub among-due : IsTrue (is_due_among nodes visits number) → IsDueFor program aim number
  among-due is =
      let found = any-there (λ (visit : Visit). is_this number (due_at nodes visit)) visits is in
      let told = due-told nodes found.one number (is-this number (due_at nodes found.one) found.holds) in
      let walk = reached.walked found.place found.one found.got in
      let at = at-stand program nodes flow walk.path found.one.node walk.dues told.1.node walk.goes told.1.there in
      record {
        path = walk.path;
        stand = at.stand;
        leads = at.leads;
        next = subst (λ (next : Option Entry). IsTrue (is_checkpoint_next number next)) (sym at.next)
            (checkpoint-next told.1.node.entry number told.1.is);
        due = subst (λ (n : ℕ). 1 ≤ n) (walk.due ∙ ap (counted aim) (sym at.due)) told.0;
      }

  pub due-among : IsDueFor program aim number → IsTrue (is_due_among nodes visits number)
  due-among due = by_next (next_entry due.stand) refl due.next
    where
      by_next : (next : Option Entry) → next_entry due.stand ≡ next → IsTrue (is_checkpoint_next number next)
          → IsTrue (is_due_among nodes visits number)
      by_next None is holds = never holds
      by_next (Some entry) is holds =
          let at = at-node program nodes flow due.path due.stand entry due.leads is in
          let met = reached.met due.path at.k due.stand.dues at.node at.goes at.got in
          any-at (λ (visit : Visit). is_this number (due_at nodes visit)) visits met.place met.visit met.got
          (told-due nodes met.visit number at.node (subst (λ (n : ℕ). 1 ≤ n) (sym met.same_due) due.due)
          (ap (slice_get nodes) met.same_node ∙ at.got)
          (next-checkpoint at.node.entry number (subst (λ (e : Entry). IsTrue (is_checkpoint_next number (Some e)))
          (sym at.is) holds)))

-- Globals and files

one-due : (b : Bool) → 1 ≤ min 1 (one_if b) → b ≡ true
one-due true some = refl
one-due false some = absurd (omega arith)

due-one : (b : Bool) → b ≡ true → 1 ≤ min 1 (one_if b)
due-one true is = omega arith
due-one false is = never is

some-cut : (n : ℕ) → 1 ≤ min 4 n → 1 ≤ n
some-cut n some = omega arith

cut-some : (n : ℕ) → 1 ≤ n → 1 ≤ min 4 n
cut-some n some = omega arith

abbrev pub item_aim : ℕ → Aim
item_aim item = record { reason = Data item; most = 1; ends = false }

abbrev pub file_aim : ℕ → Aim
file_aim file = record { reason = Depth file; most = 4; ends = true }

module _ (program : Program) (nodes : List Node) (flow : IsFlow program nodes) (visits : List Visit) where
  pub item-told : (item number : ℕ) → AreReached nodes (item_aim item) visits
      → IsTrue (is_due_among nodes visits number) ↔ IsItemDue program number item
  item-told item number reached = (
    (λ is.
        let due = among-due program nodes flow (item_aim item) visits reached number is in
        record {
          path = due.path;
          stand = due.stand;
          leads = due.leads;
          next = due.next;
          due = one-due (is_among item due.stand.dues.globals) due.due;
        }),
    (λ due. due-among program nodes flow (item_aim item) visits reached number
        (record {
          path = due.path;
          stand = due.stand;
          leads = due.leads;
          next = due.next;
          due = due-one (is_among item due.stand.dues.globals) due.due;
        })),
  )

  pub file-told : (file number : ℕ) → AreReached nodes (file_aim file) visits
      → IsTrue (is_due_among nodes visits number) ↔ IsFileDue program number file
  file-told file number reached = (
    (λ is.
        let due = among-due program nodes flow (file_aim file) visits reached number is in
        record {
          path = due.path;
          stand = due.stand;
          leads = due.leads;
          next = due.next;
          due = counted-among file due.stand.dues.asked (some-cut (asked_count file due.stand.dues) due.due);
        }),
    (λ due. due-among program nodes flow (file_aim file) visits reached number
        (record {
          path = due.path;
          stand = due.stand;
          leads = due.leads;
          next = due.next;
          due = cut-some (asked_count file due.stand.dues) (among-counted file due.stand.dues.asked due.due);
        })),
  )

  -- a search that never ends has its visits
  pub never-ends : (item : ℕ) (found : Option (List ℕ)) → HasFound nodes (item_aim item) visits found
      → AreReached nodes (item_aim item) visits
  never-ends item None reached = reached
  never-ends item (Some path) first =
      let shortest = first program flow in absurd (by_next (next_entry shortest.ends.stand) shortest.ends.ends)
    where
      by_next : (next : Option Entry) → IsTrue (ends_next (item_aim item) (first program flow).ends.stand.dues next) → ⊥
      by_next None is = never is
      by_next (Some entry) is = never is

-- visits that walks lead to can be read
pub readable : (nodes : List Node) (aim : Aim) (visits : List Visit) → AreNumbered nodes → aim.most ≤ 4
    → AreReached nodes aim visits → AreReadable nodes visits
readable nodes aim visits numbered few reached = record {
  there = reached.there;
  low = λ place visit node got found. let walk =
      reached.walked place visit got in numbered walk.path visit.node walk.dues node walk.goes found;
  few = λ place visit got.
      let walk = reached.walked place visit got in
      let due : visit.due ≡ min aim.most (amount aim.reason walk.dues) = walk.due in omega (arith, few);
}
