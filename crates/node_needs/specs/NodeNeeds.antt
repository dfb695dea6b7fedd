-- What the links of a node are for in a world of copies: the requests that wait at its copies, those that its acting
-- copies have in hand, and those whose replies its acting copies and terminals await.
use Rattle.std.specs.Prelude.{ℕ, ◌==◌, if◌then◌else◌, List, [], ◌∷◌, ◌++◌, slice_get, Option, Some, None}
use Rattle.gd_words.specs.declared.message.Request.{Request}
use Rattle.message_wires.specs.tal_tree.specs.declared.site.Site.{Site}
use Rattle.message_wires.specs.checkpoint_image.specs.declared.receive.OpenerBlock.{OpenerBlock}
use Rattle.message_wires.specs.checkpoint_image.specs.declared.receive.ReceiveBlock.{ReceiveBlock}
use Rattle.message_wires.specs.world_semantics.specs.declared.role.Role.{Role}
use Rattle.message_wires.specs.world_semantics.specs.declared.role.Role.TheVariants.{Gone}
use Rattle.message_wires.specs.world_semantics.specs.World.{Copy, World, terminal_node}
use Rattle.message_wires.specs.letters.specs.Again.{awaited_by, awaited_from, if_acts_on}
pub use Rattle.message_wires.specs.letters.specs.Again.{of_copies, of_terminals}
use Rattle.standing_links.specs.Needs.{Name, Needs}

-- Copies

-- what is for a copy on a node that isn't gone
abbrev pub if_there : {A : Type 0} → ℕ → Role → ℕ → List A → List A
if_there node Gone at items = []
if_there node _ at items = if at == node then items else []

-- the request of the opener at a place with the number that was last taken from it
abbrev pub last_taken : ℕ → ℕ → Option OpenerBlock → List Name
last_taken number place None = []
last_taken number place (Some block) = record { process = number; opener = place; number = block.taken } ∷ []

-- the request that is in hand by a receive table of the process of this number
abbrev pub in_hand_by : ℕ → ReceiveBlock → Option ℕ → List Name
in_hand_by number table None = []
in_hand_by number table (Some place) = last_taken number place (slice_get table.openers place)

-- the requests that wait at a copy, if it is at a node
abbrev pub waiting_at : ℕ → Copy → List Request
waiting_at node copy = if_there node copy.role copy.processor copy.waiting

-- the request that a copy of the process of a number has in hand, if it acts there
abbrev pub in_hand_at : ℕ → ℕ → Copy → List Name
in_hand_at node number copy =
    if_acts_on node copy.role copy.processor (in_hand_by number copy.core.receive copy.core.receive.in_hand)

-- the request whose reply it awaits there
abbrev pub awaited_at : Site → ℕ → ℕ → Copy → List Request
awaited_at site node number copy = if_acts_on node copy.role copy.processor (awaited_by site number copy.core)

-- Nodes

abbrev pub needs_at : Site → World → ℕ → Needs
needs_at site w node = record {
  waiting = of_copies (λ number copy. waiting_at node copy) 0 w.processes;
  in_hand = of_copies (in_hand_at node) 0 w.processes;
  awaited =
      of_copies (awaited_at site node) 0 w.processes
      ++ (if node == terminal_node then of_terminals (awaited_from site) 0 w.terminals else []);
}
