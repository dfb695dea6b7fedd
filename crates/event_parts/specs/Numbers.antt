-- That ends have numbers for their next pieces. That numbers end is our own.
use Rattle.std.specs.Prelude.{◌≡◌, ℕ, List, Some, slice_get}
use Rattle.link_control.specs.Ends.{End, HasIncarnationLeft, HasNumberForPush, HasNumbersLeft}
use Rattle.packet_wires.specs.Nodes.{Node}

-- at each end of a node what is pushed finds a number
abbrev pub NodeCanPush : Node → Type 0
NodeCanPush node = (y : ℕ) (e : End) → slice_get node.ends y ≡ Some e → HasNumberForPush e

-- at each end of each node
abbrev pub CanPush : List Node → Type 0
CanPush nodes = (x : ℕ) (node : Node) → slice_get nodes x ≡ Some node → NodeCanPush node

-- the end that a node has with another, where it has one, has numbers left
abbrev pub HasNumbersWith : ℕ → Node → Type 0
HasNumbersWith y node = (e : End) → slice_get node.ends y ≡ Some e → HasNumbersLeft e

-- the end that x has with y, where it has one, has numbers left
abbrev pub HasNumbersAt : ℕ → ℕ → List Node → Type 0
HasNumbersAt x y nodes = (node : Node) → slice_get nodes x ≡ Some node → HasNumbersWith y node

-- a node can be loaded again as far as the ends of a node know
abbrev pub NodeCanReload : ℕ → Node → Type 0
NodeCanReload x node = (y : ℕ) (e : End) → slice_get node.ends y ≡ Some e → HasIncarnationLeft x e

-- and as far as those of each node know
abbrev pub CanReload : ℕ → List Node → Type 0
CanReload x nodes = (y : ℕ) (node : Node) → slice_get nodes y ≡ Some node → NodeCanReload x node
