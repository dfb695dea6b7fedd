-- What the nodes of a site have: their ends of channels, and what they know of the processors. Processors that share no
-- memory and send each other packets are Bartlett's; a channel for each ordered pair of nodes, and a node of its own
-- for the terminals, are this project's own rules.
use Rattle.std.specs.Prelude.{if◌then◌else◌}
use Rattle.std.specs.Prelude.{ℕ, zero, suc, ◌+◌, ◌==◌, not, List, [], ◌∷◌, map, slice_get, slice_set, Option}
use Rattle.std.specs.List.{filter}
use Rattle.std.specs.Option.{option_and_then}
use Rattle.packet_words.specs.declared.packet.Incarnation.{Incarnation}
use Rattle.packet_words.specs.gd_words.specs.declared.limits.TheConstants.{MOST_NODES}
use Rattle.link_control.specs.Ends.{End, new_end, end_after_reload}
use Rattle.alive_regroup.specs.Watching.{Watching, new_watch, after_up}

-- a node has an end of a channel with each node, itself included, by the other one's number; and it watches the
-- processors
pub record Node : Type 0 where
  pub ends : List End
  pub watch : Watching

-- as many numbers as this, in rising order from the first one
abbrev pub numbers : ℕ → ℕ → List ℕ
numbers first zero = []
numbers first (suc more) = first ∷ numbers (first + 1) more

-- the numbers that nodes may have: 16 is that of the terminals, and a number below it that of a processor, if the site
-- has so many
abbrev pub all_nodes : List ℕ
all_nodes = numbers 0 MOST_NODES

-- the processors of a site with so many, this node left out
abbrev pub others : ℕ → ℕ → List ℕ
others processors node = filter (λ other. not (other == node)) (numbers 0 processors)

-- no node was ever loaded again
abbrev pub never_reloaded : Incarnation
never_reloaded = record { sender = 0; receiver = 0 }

abbrev pub node_at_boot : ℕ → ℕ → Node
node_at_boot processors node = record {
  ends = map (λ other. new_end node other never_reloaded) all_nodes;
  watch = new_watch node processors;
}

abbrev pub nodes_at_boot : ℕ → List Node
nodes_at_boot processors = map (node_at_boot processors) all_nodes

-- a node after the processor x was loaded again: each end of x and with x is a new one; x knows of the others what it
-- knew at the beginning, and each other node knows that x is up
abbrev pub node_after_reload : ℕ → ℕ → Node → Node
node_after_reload processors x node = record {
  ends = map (end_after_reload x) node.ends;
  watch = if node.watch.me == x then new_watch x processors else after_up x node.watch;
}

-- the end that x has of its channel with y
abbrev pub end_at : List Node → ℕ → ℕ → Option End
end_at nodes x y = option_and_then (λ node. slice_get node.ends y) (slice_get nodes x)

-- the nodes, where the node x has another end with y
abbrev pub with_end : ℕ → ℕ → Node → End → List Node → List Node
with_end x y node e nodes = slice_set nodes x (record node { ends = slice_set node.ends y e })

-- the nodes, where the node x knows this of the processors
abbrev pub with_watch : ℕ → Node → Watching → List Node → List Node
with_watch x node watch nodes = slice_set nodes x (record node { watch = watch })
