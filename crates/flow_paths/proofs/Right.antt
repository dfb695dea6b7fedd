-- The graph of a procedure, with its places, for whoever called it: its edges are the ways of its entries, also where
-- it stands behind a call.
use Rattle.std.proofs.Common.{◌≡◌, ℕ, zero, suc, ◌+◌, arith, List, [], ◌∷◌, ◌++◌, map, drop, length, slice_get, Some}
use Rattle.std.proofs.Common.{None, Option, refl, ap, subst, sym, ◌∙◌}
use Rattle.std.specs.Option.{option_map, option_to_list}
use Rattle.std.proofs.lemmas.List.{append-nil, append_assoc}
use Rattle.std.proofs.lemmas.Option.{slice_get-map}
use Rattle.tal_tree.specs.declared.program.Program.{Program}
use Rattle.tal_tree.specs.declared.statement.Statement.{Statement}
use Rattle.tal_tree.specs.declared.statement.What.{out-What}
use Rattle.path_semantics.specs.process_semantics.specs.State.{Entry, Run}
use Rattle.path_semantics.specs.declared.dues.Dues.{Dues}
use Rattle.path_semantics.specs.Dues.{with_changed, after_entry, target_of}
use Rattle.path_semantics.specs.Place.{Place, Stand, next_in, body_of, stand_at, stands_after}
use Rattle.flow_paths.specs.declared.graph.Edge.{Edge}
use Rattle.flow_paths.specs.declared.graph.Goal.{Goal}
use Rattle.flow_paths.specs.declared.graph.Goal.TheVariants.{At, Left, Ended}
use Rattle.flow_paths.specs.Graph.{Node, edges_of}
use Rattle.flow_paths.specs.Layout.{to_node, leaving, with_targets, moved_by, moved, moved_node, start_in, caller_from}
use Rattle.flow_paths.proofs.Placed.{Placed, placed_moved}

-- What it means

-- with these dues a goal is this stand, where the procedure at hand was called from there
abbrev pub LeadsTo : List Placed → Place → Dues → Goal → Stand → Type 0
LeadsTo nodes callers dues (At k) stand =
    (one : Placed) × (slice_get nodes k ≡ Some one) × (stand ≡ record { place = one.place ++ callers; dues = dues })
LeadsTo nodes callers dues Left stand = stand ≡ stand_at [] callers dues
LeadsTo nodes callers dues Ended stand = stand ≡ record { place = []; dues = dues }

abbrev pub ArrivesIn : List Placed → Place → Dues → Edge → Stand → Type 0
ArrivesIn nodes callers dues edge stand = LeadsTo nodes callers (with_changed edge.targets dues) edge.goal stand

abbrev pub AllArriveIn : List Placed → Place → Dues → List Edge → List Stand → Type 0
AllArriveIn nodes callers dues [] [] = Unit {0}
AllArriveIn nodes callers dues (edge ∷ edges) (stand ∷ stands) =
    ArrivesIn nodes callers dues edge stand × AllArriveIn nodes callers dues edges stands
AllArriveIn nodes callers dues _ _ = ⊥

-- the node of the call whose procedure runs above these, none above the procedure at hand
abbrev pub IsCalledBy : List Placed → Option ℕ → Place → Type 0
IsCalledBy nodes None callers = callers ≡ []
IsCalledBy nodes (Some k) callers = (call : Placed) × (slice_get nodes k ≡ Some call) × (callers ≡ call.place)

-- the edges of a node are where its entry leads, whoever called and whatever is due
pub record IsRightIn (program : Program) (nodes : List Placed) (one : Placed) : Type 0 where
  pub next : next_in one.place ≡ Some one.node.entry
  pub caller : IsCalledBy nodes one.node.caller (drop 1 one.place)
  pub leads : (callers : Place) (dues : Dues)
      → AllArriveIn nodes callers (after_entry dues one.node.entry) (edges_of one.node)
      (stands_after program dues (one.place ++ callers))

abbrev pub AreRight : Program → List Placed → List Placed → Type 0
AreRight program nodes [] = Unit {0}
AreRight program nodes (one ∷ rest) = IsRightIn program nodes one × AreRight program nodes rest

-- an edge leads where these entries are what remains
abbrev pub Follows : List Placed → Edge → List Entry → Type 0
Follows nodes edge later =
    (callers : Place) (dues : Dues) → ArrivesIn nodes callers dues edge (stand_at later callers dues)

-- Dues

pub nothing-changed : (dues : Dues) → with_changed [] dues ≡ dues
nothing-changed dues = ap (λ (globals : List ℕ). record dues { globals = globals }) (append-nil dues.globals)

changed-more : (first second : List ℕ) (dues : Dues)
    → with_changed (first ++ second) dues ≡ with_changed second (with_changed first dues)
changed-more first second dues =
    ap (λ (globals : List ℕ). record dues { globals = globals }) (sym (append_assoc dues.globals first second))

-- Nodes that stand in a list from a place on

abbrev pub Holds : List Placed → ℕ → List Placed → Type 0
Holds nodes base [] = Unit {0}
Holds nodes base (one ∷ rest) = (slice_get nodes base ≡ Some one) × Holds nodes (base + 1) rest

pub holds-at : (nodes part : List Placed) (base other : ℕ) → base ≡ other → Holds nodes base part
    → Holds nodes other part
holds-at nodes part base other same holds = subst (λ (k : ℕ). Holds nodes k part) same holds

pub holds-left : (nodes xs ys : List Placed) (base : ℕ) → Holds nodes base (xs ++ ys) → Holds nodes base xs
holds-left nodes [] ys base holds = tt
holds-left nodes (x ∷ xs) ys base holds = (holds.0, holds-left nodes xs ys (base + 1) holds.1)

pub holds-right : (nodes xs ys : List Placed) (base : ℕ) → Holds nodes base (xs ++ ys)
    → Holds nodes (base + length xs) ys
holds-right nodes [] ys base holds = holds-at nodes ys base (base + 0) (omega arith) holds
holds-right nodes (x ∷ xs) ys base holds =
    holds-at nodes ys (base + 1 + length xs) (base + suc (length xs)) (omega arith)
    (holds-right nodes xs ys (base + 1) holds.1)

holds-get : (nodes part : List Placed) (base k : ℕ) (one : Placed) → Holds nodes base part
    → slice_get part k ≡ Some one → slice_get nodes (base + k) ≡ Some one
holds-get nodes [] base k one holds got = absurd (cc)
holds-get nodes (x ∷ xs) base zero one holds got =
    ap (slice_get nodes) (let same : base + 0 ≡ base = omega arith in same) ∙ holds.0 ∙ got
holds-get nodes (x ∷ xs) base (suc k) one holds got =
    ap (slice_get nodes) (let same : base + suc k ≡ base + 1 + k = omega arith in same)
    ∙ holds-get nodes xs (base + 1) k one holds.1 got

pub right-append : (program : Program) (nodes xs ys : List Placed) → AreRight program nodes xs
    → AreRight program nodes ys → AreRight program nodes (xs ++ ys)
right-append program nodes [] ys first second = second
right-append program nodes (x ∷ xs) ys first second = (first.0, right-append program nodes xs ys first.1 second)

-- Edges

with-targets-arrives : (nodes : List Placed) (callers : Place) (targets : List ℕ) (dues : Dues) (edge : Edge)
    (stand : Stand)
    → ArrivesIn nodes callers (with_changed targets dues) edge stand
    → ArrivesIn nodes callers dues (with_targets targets edge) stand
with-targets-arrives nodes callers targets dues edge stand arrives =
    subst (λ (d : Dues). LeadsTo nodes callers d edge.goal stand) (sym (changed-more targets edge.targets dues)) arrives

-- where nothing is due besides
plainly : (nodes : List Placed) (callers : Place) (dues : Dues) (goal : Goal) (stand : Stand)
    → LeadsTo nodes callers dues goal stand
    → ArrivesIn nodes callers dues (record { goal = goal; targets = [] }) stand
plainly nodes callers dues goal stand leads =
    subst (λ (d : Dues). LeadsTo nodes callers d goal stand) (sym (nothing-changed dues)) leads

pub follows-node : (nodes : List Placed) (k : ℕ) (one : Placed) (entry : Entry) (rest : List Entry)
    → slice_get nodes k ≡ Some one → one.place ≡ (entry ∷ rest) ∷ []
    → Follows nodes (to_node k) (entry ∷ rest)
follows-node nodes k one entry rest got place callers dues =
    plainly nodes callers dues (At k) (stand_at (entry ∷ rest) callers dues)
    (one, got, ap (λ (p : Place). record { place = p ++ callers; dues = dues }) (sym place))

pub follows-leaving : (nodes : List Placed) → Follows nodes leaving []
follows-leaving nodes callers dues = plainly nodes callers dues Left (stand_at [] callers dues) refl

-- A call

still-next : (place : Place) (entry : Entry) (frame : List Entry) → next_in place ≡ Some entry
    → next_in (place ++ frame ∷ []) ≡ Some entry
still-next [] entry frame is = absurd (cc)
still-next (first ∷ callers) entry frame is = is

still-below : (place : Place) (entry : Entry) (frame : List Entry) → next_in place ≡ Some entry
    → drop 1 (place ++ frame ∷ []) ≡ drop 1 place ++ frame ∷ []
still-below [] entry frame is = absurd (cc)
still-below (first ∷ callers) entry frame is = refl

edges-moved : (call : ℕ) (after : Edge) (node : Node)
    → edges_of (moved_node call after node) ≡ map (moved (call + 1) after) (edges_of node)
edges-moved call after node = ap (λ (edges : List Edge). moved (call + 1) after node.first ∷ edges) (listed node.second)
  where
    listed : (edge : Option Edge) → option_to_list (option_map (moved (call + 1) after) edge)
        ≡ map (moved (call + 1) after) (option_to_list edge)
    listed None = refl
    listed (Some edge) = refl

-- the graph of a procedure: right for whoever calls it, and where it begins its body remains
pub record IsTemplate (program : Program) (procedure : ℕ) (nodes : List Placed) : Type 0 where
  pub right : AreRight program nodes nodes
  pub begins : Follows nodes (start_in nodes 0 leaving) (body_of program procedure)

module _ (program : Program) (nodes template : List Placed) (call : ℕ) (after : Edge) (self : Statement)
    (rest : List Entry) (own : Placed)
    (here : slice_get nodes call ≡ Some own) (own_place : own.place ≡ (Run self ∷ rest) ∷ [])
    (holds : Holds nodes (call + 1)
    (map (placed_moved call (record { goal = after.goal; targets = target_of (out-What self.what) ++ after.targets })
    (Run self ∷ rest)) template))
    (follows : Follows nodes after rest) where
  abbrev inner : Edge
  inner = with_targets (target_of (out-What self.what)) after

  abbrev frame : List Entry
  frame = Run self ∷ rest

  got-moved : (k : ℕ) (one : Placed) → slice_get template k ≡ Some one
      → slice_get nodes (call + 1 + k) ≡ Some (placed_moved call inner frame one)
  got-moved k one got =
      holds-get nodes (map (placed_moved call inner frame) template) (call + 1) k (placed_moved call inner frame one)
      holds
      (slice_get-map (placed_moved call inner frame) template k ∙ ap (option_map (placed_moved call inner frame)) got)

  leads-moved : (callers : Place) (dues : Dues) (targets : List ℕ) (goal : Goal) (stand : Stand)
      → LeadsTo template (frame ∷ callers) (with_changed targets dues) goal stand
      → ArrivesIn nodes callers dues (moved_by (call + 1) inner targets goal) stand
  leads-moved callers dues targets (At k) stand leads = (
    placed_moved call inner frame leads.0,
    got-moved k leads.0 leads.1,
    leads.2 ∙ ap (λ (p : Place). record { place = p; dues = with_changed targets dues })
        (sym (append_assoc leads.0.place (frame ∷ []) callers)),
  )
  leads-moved callers dues targets Left stand leads =
      with-targets-arrives nodes callers targets dues inner stand
      (with-targets-arrives nodes callers (target_of (out-What self.what)) (with_changed targets dues) after stand
      (subst (ArrivesIn nodes callers (with_changed (target_of (out-What self.what)) (with_changed targets dues))
      after) (sym leads)
      (follows callers (with_changed (target_of (out-What self.what)) (with_changed targets dues)))))
  leads-moved callers dues targets Ended stand leads = leads

  all-moved : (callers : Place) (dues : Dues) (edges : List Edge) (stands : List Stand)
      → AllArriveIn template (frame ∷ callers) dues edges stands
      → AllArriveIn nodes callers dues (map (moved (call + 1) inner) edges) stands
  all-moved callers dues [] [] all = tt
  all-moved callers dues [] (stand ∷ stands) all = absurd all
  all-moved callers dues (edge ∷ edges) [] all = absurd all
  all-moved callers dues (edge ∷ edges) (stand ∷ stands) all =
      (leads-moved callers dues edge.targets edge.goal stand all.0, all-moved callers dues edges stands all.1)

  caller-moved : (caller : Option ℕ) (below : Place) → IsCalledBy template caller below
      → IsCalledBy nodes (caller_from call caller) (below ++ frame ∷ [])
  caller-moved None below is = (own, here, ap (λ (p : Place). p ++ frame ∷ []) is ∙ sym own_place)
  caller-moved (Some k) below is =
      (placed_moved call inner frame is.0, got-moved k is.0 is.1, ap (λ (p : Place). p ++ frame ∷ []) is.2)

  node-moved : (one : Placed) → IsRightIn program template one
      → IsRightIn program nodes (placed_moved call inner frame one)
  node-moved one right = record {
    next = still-next one.place one.node.entry frame right.next;
    caller = subst (IsCalledBy nodes (caller_from call one.node.caller))
        (sym (still-below one.place one.node.entry frame right.next))
        (caller-moved one.node.caller (drop 1 one.place) right.caller);
    leads = λ callers dues.
        subst (λ (edges : List Edge). AllArriveIn nodes callers (after_entry dues one.node.entry) edges
        (stands_after program dues ((one.place ++ frame ∷ []) ++ callers)))
        (sym (edges-moved call inner one.node))
        (all-moved callers (after_entry dues one.node.entry) (edges_of one.node)
        (stands_after program dues ((one.place ++ frame ∷ []) ++ callers))
        (subst (λ (p : Place). AllArriveIn template (frame ∷ callers) (after_entry dues one.node.entry)
        (edges_of one.node) (stands_after program dues p))
        (sym (append_assoc one.place (frame ∷ []) callers)) (right.leads (frame ∷ callers) dues)));
  }

  pub nodes-moved : (part : List Placed) → AreRight program template part
      → AreRight program nodes (map (placed_moved call inner frame) part)
  nodes-moved [] right = tt
  nodes-moved (one ∷ part) right = (node-moved one right.0, nodes-moved part right.1)

  pub begins-moved : (entries : List Entry) → Follows template (start_in template 0 leaving) entries
      → (callers : Place) (dues : Dues) → ArrivesIn nodes callers dues
      (moved (call + 1) inner (start_in template 0 leaving)) (stand_at entries (frame ∷ callers) dues)
  begins-moved entries begins callers dues =
      leads-moved callers dues (start_in template 0 leaving).targets (start_in template 0 leaving).goal
      (stand_at entries (frame ∷ callers) dues)
      (begins (frame ∷ callers) dues)
