use Rattle.history_laws.proofs.Packets.{ends-alike}
use Rattle.history_laws.proofs.laws.no_run_reads_what_was_sent.Goals as goal

pub returns : goal.returns
returns c = ends-alike
