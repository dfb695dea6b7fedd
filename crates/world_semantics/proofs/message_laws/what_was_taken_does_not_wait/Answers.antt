use Rattle.world_semantics.specs.World.{copy_of}
use Rattle.world_semantics.proofs.Tidy.{run-tidy, untaken-stands}
use Rattle.world_semantics.proofs.message_laws.what_was_taken_does_not_wait.Goals as goal

pub returns : goal.returns
returns c = λ site events w number pair k request run there acts waits.
    untaken-stands (copy_of k pair).core.receive request ((run-tidy run number pair there k).untaken acts request waits)
