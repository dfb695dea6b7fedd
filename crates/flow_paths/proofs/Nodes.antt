-- Nodes of a list and their edges, and what is within it.
use Rattle.std.proofs.Common.{◌≡◌, inl, inr, ℕ, zero, suc, ◌<◌, ◌≤◌, arith, List, [], ◌∷◌, length, get_or, Option, Some}
use Rattle.std.proofs.Common.{refl, subst, sym}
use Rattle.std.specs.Option.{option_to_list}
use Rattle.gd_words.specs.Members.{IsAmong}
use Rattle.flow_paths.specs.declared.graph.Edge.{Edge}
use Rattle.flow_paths.specs.declared.graph.Goal.TheVariants.{At}
use Rattle.flow_paths.specs.Graph.{Node, IsWithin, AreClosed}

among-get : (nodes : List Node) (k : ℕ) (node : Node) → k < length nodes → node ≡ get_or nodes k node
    → IsAmong node nodes
among-get [] k node below is = absurd (omega arith)
among-get (first ∷ nodes) zero node below is = inl is
among-get (first ∷ nodes) (suc k) node below is = inr (among-get nodes k node (omega arith) is)

-- the node at a number has its edges and its caller within the list
pub node-within : (nodes : List Node) (k : ℕ) (node : Node) → k < length nodes → node ≡ get_or nodes k node
    → AreClosed nodes → IsWithin (length nodes) node
node-within nodes k node below is closed = closed node (among-get nodes k node below is)

-- what is within some is within more
pub within-more : (count more : ℕ) (node : Node) → count ≤ more → IsWithin count node → IsWithin more node
within-more count more node most within = record {
  caller = λ k is. let less = within.caller k is in (let e : k < more = omega arith in e);
  goals = λ edge among k is. let less = within.goals edge among k is in (let e : k < more = omega arith in e);
}

pub first-within : (count : ℕ) (node : Node) → IsWithin count node → (k : ℕ) → node.first.goal ≡ At k → k < count
first-within count node within k is = within.goals node.first (inl refl) k is

pub second-within : (count : ℕ) (node : Node) (edge : Edge) → IsWithin count node → node.second ≡ Some edge → (k : ℕ)
    → edge.goal ≡ At k → k < count
second-within count node edge within second k is =
    within.goals edge (subst (λ (found : Option Edge). IsAmong edge (node.first ∷ option_to_list found)) (sym second)
    (inr (inl refl))) k is
