-- Programs among processes.
use Rattle.std.proofs.Common.{◌≡◌, ◌≢◌, ap}
use Rattle.tal_tree.specs.declared.program.Program.{Program}
use Rattle.tal_tree.specs.declared.site.Kind.TheVariants as kind
use Rattle.process_semantics.specs.declared.point.Point.TheVariants as point
use Rattle.process_semantics.specs.Process.{ProcessState, Runs, Serves}
use Rattle.process_semantics.specs.State.{ProgramState}
use Rattle.checkpoint_laws.specs.world_semantics.specs.Core.{Deed, Went, Checkpointed, Took, Asked, Got, Answered}
use Rattle.checkpoint_laws.specs.world_semantics.specs.Core.{Acted}
use Rattle.process_histories.specs.Histories.{kind_of}
use Rattle.process_histories.proofs.Deeds.{point_of}

abbrev state_or : ProgramState → ProcessState → ProgramState
state_or other (Runs program s) = s
state_or other (Serves sectors s) = other

abbrev program_or : Program → ProcessState → Program
program_or other (Runs program s) = program
program_or other (Serves sectors s) = other

pub runs-same : {program other : Program} {s t : ProgramState} → Runs program s ≡ Runs other t → s ≡ t
runs-same {s = s} e = ap (state_or s) e

pub program-same : {program other : Program} {s t : ProgramState} → Runs program s ≡ Runs other t → program ≡ other
program-same {program = program} e = ap (program_or program) e

-- a process that runs this program
pub record IsRunning (state : ProcessState) (program : Program) : Type 0 where
  pub s : ProgramState
  pub same : state ≡ Runs program s

pub running : (state : ProcessState) (program : Program) → kind_of state ≡ kind.Pair program → IsRunning state program
running (Runs other s) program e = let same : other ≡ program = cc in record { s = s; same = ap (λ c. Runs c s) same }
running (Serves sectors s) program e = absurd (cc)

-- no deed is done at the end
pub deed-alive : (deed : Deed) → point_of deed ≢ point.Ended
deed-alive Went e = cc
deed-alive Checkpointed e = cc
deed-alive (Took place words) e = cc
deed-alive (Asked file words) e = cc
deed-alive (Got file words) e = cc
deed-alive (Answered place words) e = cc
deed-alive (Acted call found) e = cc
