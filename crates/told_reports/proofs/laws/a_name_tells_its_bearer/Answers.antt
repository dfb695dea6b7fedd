use Rattle.told_reports.proofs.Named.{opener-told, process-told, terminal-told}
use Rattle.told_reports.proofs.laws.a_name_tells_its_bearer.Goals as goal

pub returns : goal.returns
returns c = record { process = process-told; terminal = terminal-told; opener = opener-told }
