-- Needs of nodes in worked runs: the adder, which is taken over, and two tiers.
use Rattle.std.specs.Prelude.{ℕ, pos, List, [], ◌∷◌, ◌++◌}
use Rattle.gd_words.specs.declared.message.Request.{Request}
use Rattle.schedule.specs.declared.event.Event.{Event}
use Rattle.schedule.specs.declared.event.Event.TheVariants as event
use Rattle.message_wires.specs.world_semantics.specs.Examples.{delivery, run}
use Rattle.message_wires.specs.Examples.{adder_at_boot, end_of, up_to_checkpoint}
use Rattle.standing_links.specs.Needs.{Needs, name_of, nothing}
use Rattle.node_needs.specs.NodeNeeds.{needs_at}

-- the needs of a node after these events
abbrev pub needs_after : List Event → ℕ → Needs
needs_after events node =
    needs_at (end_of adder_at_boot events).site (end_of adder_at_boot events).world node

-- the request that the terminal enters
abbrev pub asked : Request
asked = record { process = 0; opener = 0; number = 1; words = pos 5 ∷ [] }

abbrev pub awaited_alone : Needs
awaited_alone = record nothing { awaited = asked ∷ [] }

abbrev pub waiting_alone : Needs
waiting_alone = record nothing { waiting = asked ∷ [] }

abbrev pub in_hand_alone : Needs
in_hand_alone = record nothing { in_hand = name_of asked ∷ [] }

-- two tiers in one processor: the adder and the front that asks it each have a request in hand, and the front awaits
-- the adder's reply
abbrev pub both_serve : Needs
both_serve = record {
  waiting = [];
  in_hand = name_of asked ∷ record (name_of asked) { process = 1 } ∷ [];
  awaited = asked ∷ [];
}

-- until the request has come to the first copy
abbrev pub until_it_came : List Event
until_it_came = event.Enter 0 ∷ run ∷ run ∷ run ∷ delivery ∷ []

-- until the first copy has answered
abbrev pub until_answered : List Event
until_answered = up_to_checkpoint ++ delivery ∷ delivery ∷ run ∷ run ∷ []

-- the first copy's processor stops when the checkpoint was taken, and the second copy takes over
abbrev pub until_taken_over : List Event
until_taken_over = up_to_checkpoint ++ delivery ∷ event.Fail 0 ∷ event.Tick 1 ∷ []
