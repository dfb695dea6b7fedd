use Rattle.process_semantics.specs.Process.{start_of}
use Rattle.whole_states.proofs.Processes.{stays-whole, start-process}
use Rattle.process_control.proofs.Starting.{start-files, start-free}
use Rattle.process_control.proofs.laws.a_process_at_its_beginning_can_start.Goals as goal

pub returns : goal.returns
returns c = record {
  whole = λ what regular. stays-whole (start_of what) (start-process what regular);
  free = start-free;
  files = start-files;
}
