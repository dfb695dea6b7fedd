-- What stays as it was away from a node.
use Rattle.std.specs.Prelude.{◌≡◌, ◌≢◌, ℕ, slice_get, Some}
use Rattle.world_semantics.specs.declared.which.Which.{Which}
use Rattle.world_semantics.specs.World.{Copy, Pair, World, copy_of}
use Rattle.packet_wires.specs.Play.{Packeted}

-- a copy keeps all that its processor holds of it. Which of its acts are kept, and how many, is told of the run and
-- stands in no processor
pub record KeepsItsOwn (before after : Copy) : Type 0 where
  pub processor : after.processor ≡ before.processor
  pub role : after.role ≡ before.role
  pub era : after.era ≡ before.era
  pub number : after.number ≡ before.number
  pub sent : after.sent ≡ before.sent
  pub acknowledged : after.acknowledged ≡ before.acknowledged
  pub renewal : after.renewal ≡ before.renewal
  pub core : after.core ≡ before.core
  pub waiting : after.waiting ≡ before.waiting

-- each copy in another processor stays as it was, unless that processor stops
abbrev pub CopiesStay : ℕ → World → World → Type 0
CopiesStay node w next = (number : ℕ) (k : Which) (before after : Pair) → slice_get w.processes number ≡ Some before
    → slice_get next.processes number ≡ Some after
    → (copy_of k before).processor ≢ node → slice_get next.stopped (copy_of k before).processor
    ≡ slice_get w.stopped (copy_of k before).processor
    → KeepsItsOwn (copy_of k before) (copy_of k after)

-- away from a node all stays as it was: what the other nodes have of channels and know of processors; and the copies
pub record StaysElsewhere (node : ℕ) (s next : Packeted) : Type 0 where
  pub nodes : (x : ℕ) → x ≢ node → slice_get next.wires.nodes x ≡ slice_get s.wires.nodes x
  pub copies : CopiesStay node s.world next.world
