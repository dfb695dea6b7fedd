-- The open links of a node that are for one process or for one terminal. Our own rule.
use Rattle.std.specs.Prelude.{ℕ, List, [], ◌++◌, Option, Some, None}
use Rattle.gd_words.specs.declared.message.Request.{Request}
use Rattle.world_copies.specs.tal_tree.specs.declared.site.Site.{Site}
use Rattle.world_copies.specs.world_semantics.specs.World.{Terminal}
use Rattle.world_copies.specs.sendings.specs.letters.specs.Again.{awaited_from}
use Rattle.world_copies.specs.process_copies.specs.Seen.{Placed}
use Rattle.node_needs.specs.standing_links.specs.Needs.{Name}
use Rattle.node_needs.specs.NodeNeeds.{awaited_at, in_hand_at, waiting_at}

-- the requests that wait at both copies of a process
abbrev pub waiting_of : ℕ → Placed → List Request
waiting_of node one = waiting_at node one.pair.first ++ waiting_at node one.pair.second

-- those that they have in hand
abbrev pub in_hand_of : ℕ → Placed → List Name
in_hand_of node one = in_hand_at node one.number one.pair.first ++ in_hand_at node one.number one.pair.second

-- those whose replies they await
abbrev pub awaited_of : ℕ → Placed → List Request
awaited_of node one =
    awaited_at one.site node one.number one.pair.first ++ awaited_at one.site node one.number one.pair.second

-- the request whose reply the terminal of a number awaits, if it is there
abbrev pub awaited_by_terminal : Site → ℕ → Option Terminal → List Request
awaited_by_terminal site number None = []
awaited_by_terminal site number (Some terminal) = awaited_from site number terminal
