-- One of the two copies of a process, lent for reading or writing. Only this crate's own code sees this.
use Rattle.std.specs.Borrow.{Fml, Lends, MutBor}
use Rattle.world_semantics.specs.declared.which.Which.{Which}
use Rattle.world_semantics.specs.declared.which.Which.TheVariants.{First, Second}
use Rattle.node_copies.specs.Seen.{CopyAndDepths}
use Rattle.node_copies.specs.contracts.one.NodeCopy as one
use Rattle.process_copies.specs.declared.two.TwoCopies.{TwoCopies}
use Rattle.process_copies.specs.contracts.two.TwoCopies as two

abbrev pub one_of : Which → TwoCopies → CopyAndDepths
one_of First copies = copies.first
one_of Second copies = copies.second

abbrev pub with_one : Which → TwoCopies → CopyAndDepths → TwoCopies
with_one First copies copy = record copies { first = copy }
with_one Second copies copy = record copies { second = copy }

-- the copies have this one as it is when it was given back
abbrev pub LendsCopy : MutBor TwoCopies → Which → MutBor CopyAndDepths → Fml
LendsCopy copies which lent = Lends two.the_row one.the_row copies lent (with_one which copies.now)
