-- The least depth that is enough for a file, told by the visits of a search.
use Rattle.std.proofs.Common.{◌≡◌, ◌≤◌, ◌<◌, ◌⊎◌, inl, inr, ℕ, ◌+◌, ◌==◌, ◌||◌, ◌&&◌, Bool, true, false, IsTrue, arith}
use Rattle.std.proofs.Common.{List, length, get_or, Option, Some, None, slice_get, refl, ap, subst, sym, ◌∙◌}
use Rattle.std.specs.Prelude.{nat_le, min}
use Rattle.std.proofs.lemmas.Option.{slice_get_read, slice_get_within}
use Rattle.tal_tree.specs.declared.program.Program.{Program}
use Rattle.tal_tree.specs.declared.statement.Statement.{Statement}
use Rattle.tal_tree.specs.declared.statement.What.{What, What-F, out-What}
use Rattle.process_semantics.specs.State.{Entry, Run, Test, Last}
use Rattle.path_semantics.specs.declared.reason.Reason.TheVariants.{Depth}
use Rattle.path_semantics.specs.Break.{asked_count, may_break}
use Rattle.path_semantics.specs.Place.{next_entry}
use Rattle.advice.specs.flow_paths.specs.Flow.{IsFlow}
use Rattle.advice.specs.flow_paths.specs.Graph.{Node}
use Rattle.advice.specs.reason_dues.specs.Amounts.{may_break_at}
use Rattle.advice.specs.due_search.specs.declared.queue.Visit.{Visit}
use Rattle.advice.specs.due_search.specs.Ends.{AreReached}
use Rattle.advice.specs.due_search.proofs.Paths.{at-node, at-stand}
use Rattle.advice.specs.Advice.{IsDepthEnough, IsLeastDepth}
use Rattle.advice.specs.Due.{is_ask, is_ask_next, IsAskedAfter}
use Rattle.advice_search.specs.Gathered.{asks_in, IsDeepest}
use Rattle.advice_search.proofs.Told.{never}

or-false : (b : Bool) → (b || false) ≡ b
or-false true = refl
or-false false = refl

asks-layer : (file : ℕ) (layer : What-F What Statement) → may_break (Depth file) layer ≡ is_ask file layer
asks-layer file (What-F.WriteRead asked buffer send room got) = or-false (asked == file)
asks-layer file (What-F.Assign to value) = refl
asks-layer file (What-F.AssignCall to procedure arguments) = refl
asks-layer file (What-F.If test first second) = refl
asks-layer file (What-F.While test body) = refl
asks-layer file (What-F.DoUntil body test) = refl
asks-layer file (What-F.For variable from to down step body last) = refl
asks-layer file (What-F.Call procedure arguments) = refl
asks-layer file (What-F.Return value) = refl
asks-layer file (What-F.ReadUpdate buffer most got) = refl
asks-layer file (What-F.Reply buffer count) = refl
asks-layer file (What-F.Checkpoint items files) = refl
asks-layer file What-F.CheckMonitor = refl
asks-layer file (What-F.Open other) = refl
asks-layer file What-F.Stop = refl

-- an entry may break a depth where it asks the file
pub asks-is : (file : ℕ) (entry : Entry) → may_break_at (Depth file) entry ≡ is_ask_next file (Some entry)
asks-is file (Run statement) = asks-layer file (out-What statement.what)
asks-is file (Test statement) = refl
asks-is file (Last statement) = refl

-- One visit after the other

module _ (nodes : List Node) (file : ℕ) (visits : List Visit) (k : ℕ) (visit : Visit) (inside : k < length visits)
    (read : visit ≡ get_or visits k visit) (node : Node)
    (found : slice_get nodes visit.node ≡ Some node) where
  got : slice_get visits k ≡ Some visit
  got = slice_get_read visits (length visits) k visit refl inside read

  less-or-same : (n m : ℕ) → n < m + 1 → (n < m) ⊎ (m ≡ n)
  less-or-same n m less = grind arith

  asks-here : IsTrue (asks_in file (slice_get nodes visit.node)) → IsTrue (may_break_at (Depth file) node.entry)
  asks-here is = asks-is file node.entry ∙ ap (asks_in file) (sym found) ∙ is

  pub deeper : (depth new : ℕ) → IsDeepest nodes file visits k depth → may_break_at (Depth file) node.entry ≡ true
      → depth ≤ visit.due → new ≡ visit.due + 1
      → IsDeepest nodes file visits (k + 1) new
  deeper depth new deepest asks more is = record {
    lowest = omega arith;
    enough = λ place one less there asked. by_place place one there asked (less-or-same place k less);
    least = inr (k, visit, got, (ap (asks_in file) found ∙ sym (asks-is file node.entry) ∙ asks), is);
  }
    where
      by_place : (place : ℕ) (one : Visit) → slice_get visits place ≡ Some one
          → IsTrue (asks_in file (slice_get nodes one.node)) → (place < k) ⊎ (k ≡ place) → one.due < new
      by_place place one there asked (inl before) =
          let less : one.due < depth = deepest.enough place one before there asked in omega arith
      by_place place one there asked (inr same) =
          let both : Some visit ≡ Some one = sym got ∙ ap (slice_get visits) same ∙ there in
          let due : visit.due ≡ one.due = ap (λ (v : Visit). v.due) (let is_one : visit ≡ one = cc in is_one) in
          omega arith

  pub as-deep : (depth : ℕ) → IsDeepest nodes file visits k depth
      → (IsTrue (may_break_at (Depth file) node.entry) → visit.due < depth) → IsDeepest nodes file visits (k + 1) depth
  as-deep depth deepest few = record {
    lowest = deepest.lowest;
    enough = λ place one less there asked. by_place place one there asked (less-or-same place k less);
    least = deepest.least;
  }
    where
      by_place : (place : ℕ) (one : Visit) → slice_get visits place ≡ Some one
          → IsTrue (asks_in file (slice_get nodes one.node)) → (place < k) ⊎ (k ≡ place) → one.due < depth
      by_place place one there asked (inl before) = deepest.enough place one before there asked
      by_place place one there asked (inr same) =
          let both : Some visit ≡ Some one = sym got ∙ ap (slice_get visits) same ∙ there in
          let is_one : visit ≡ one = cc in
          subst (λ (v : Visit). v.due < depth) is_one
          (few (asks-here (subst (λ (v : Visit). IsTrue (asks_in file (slice_get nodes v.node))) (sym is_one)
          asked)))

-- What it tells of paths

not-le : (n m : ℕ) → nat_le n m ≡ false → m < n
not-le n m is = grind arith

few-of : (asks : Bool) (n : ℕ) → asks ≡ true → (asks && nat_le 4 n) ≡ false → n < 4
few-of true n is none = not-le 4 n none
few-of false n is none = never is

uncut : (n due : ℕ) → due ≡ min 4 n → due < 4 → n ≡ due
uncut n due is few = omega arith

pub record IsNodeThere (file : ℕ) (found : Option Node) : Type 0 where
  pub node : Node
  pub there : found ≡ Some node
  pub asks : IsTrue (is_ask_next file (Some node.entry))

node-there : (file : ℕ) (found : Option Node) → IsTrue (asks_in file found) → IsNodeThere file found
node-there file None is = never is
node-there file (Some node) is = record { node = node; there = refl; asks = is }

module _ (program : Program) (nodes : List Node) (flow : IsFlow program nodes) (file : ℕ) (visits : List Visit)
    (reached : AreReached nodes (record { reason = Depth file; most = 4; ends = true }) visits) (depth : ℕ)
    (deepest : IsDeepest nodes file visits (length visits) depth) where
  -- where a file is asked, fewer than four are counted
  few-asked : (place : ℕ) (visit : Visit) (node : Node) → slice_get visits place ≡ Some visit
      → slice_get nodes visit.node ≡ Some node → IsTrue (is_ask_next file (Some node.entry)) → visit.due < 4
  few-asked place visit node got found asks =
      few-of (may_break_at (Depth file) node.entry) visit.due (asks-is file node.entry ∙ asks)
      (reached.goes_on place visit node got found)

  pub depth-enough : IsDepthEnough program file depth
  depth-enough = record {
    lowest = deepest.lowest;
    counts = λ count asked. by_next count asked (next_entry asked.stand) refl asked.next;
  }
    where
      by_next : (count : ℕ) (asked : IsAskedAfter program file count) (next : Option Entry)
          → next_entry asked.stand ≡ next → IsTrue (is_ask_next file next) → count < depth
      by_next count asked None is asks = never asks
      by_next count asked (Some entry) is asks =
          let at = at-node program nodes flow asked.path asked.stand entry asked.leads is in
          let met = reached.met asked.path at.k asked.stand.dues at.node at.goes at.got in
          let got : slice_get nodes met.visit.node ≡ Some at.node = ap (slice_get nodes) met.same_node ∙ at.got in
          let here : IsTrue (is_ask_next file (Some at.node.entry)) =
          subst (λ (e : Entry). IsTrue (is_ask_next file (Some e))) (sym at.is) asks in
          let few : met.visit.due < 4 = few-asked met.place met.visit at.node met.got got here in
          let less : met.visit.due < depth =
          deepest.enough met.place met.visit (slice_get_within visits met.place met.visit met.got) met.got
          (ap (asks_in file) got ∙ here) in
          let same : asked_count file asked.stand.dues ≡ met.visit.due =
          uncut (asked_count file asked.stand.dues) met.visit.due met.same_due few in
          let is_count : asked_count file asked.stand.dues ≡ count = asked.counted in
          omega arith

  pub asked-there : (place : ℕ) (visit : Visit) → slice_get visits place ≡ Some visit
      → IsTrue (asks_in file (slice_get nodes visit.node)) → IsAskedAfter program file visit.due
  asked-there place visit got asks =
      let node = node-there file (slice_get nodes visit.node) asks in
      let walk = reached.walked place visit got in
      let at = at-stand program nodes flow walk.path visit.node walk.dues node.node walk.goes node.there in
      record {
        path = walk.path;
        stand = at.stand;
        leads = at.leads;
        next = subst (λ (next : Option Entry). IsTrue (is_ask_next file next)) (sym at.next) node.asks;
        counted = ap (asked_count file) at.due ∙ uncut (asked_count file walk.dues) visit.due walk.due
            (few-asked place visit node.node got node.there node.asks);
      }

  pub least-depth : IsLeastDepth program file depth
  least-depth = record { enough = depth-enough; least = λ other enough. by_case other enough deepest.least }
    where
      by_case : (other : ℕ) → IsDepthEnough program file other
          → (depth ≡ 1) ⊎ ((place : ℕ) × (visit : Visit) × (slice_get visits place ≡ Some visit)
          × IsTrue (asks_in file (slice_get nodes visit.node)) × (depth ≡ visit.due + 1)) → depth ≤ other
      by_case other enough (inl one) = let some : 1 ≤ other = enough.lowest in omega arith
      by_case other enough (inr (place, visit, got, asks, is)) =
          let less : visit.due < other = enough.counts visit.due (asked-there place visit got asks) in omega arith

  pub few-deep : depth ≤ 4
  few-deep = by_case deepest.least
    where
      by_case : (depth ≡ 1) ⊎ ((place : ℕ) × (visit : Visit) × (slice_get visits place ≡ Some visit)
          × IsTrue (asks_in file (slice_get nodes visit.node)) × (depth ≡ visit.due + 1)) → depth ≤ 4
      by_case (inl one) = omega arith
      by_case (inr (place, visit, got, asks, is)) =
          let node = node-there file (slice_get nodes visit.node) asks in
          let few : visit.due < 4 = few-asked place visit node.node got node.there node.asks in omega arith
