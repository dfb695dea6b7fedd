use Rattle.packet_guards.proofs.Twice.{no-mark-on-suspicion-twice}
use Rattle.packet_guards.proofs.Marks.{no-mark-on-suspicion-runs}
use Rattle.packet_guards.proofs.guards.no_mark_on_suspicion.Goals as goal

pub returns : goal.returns
returns c = record { runs = no-mark-on-suspicion-runs; twice = no-mark-on-suspicion-twice }
