use Rattle.std.proofs.Common.{length}
use Rattle.takeover_laws.proofs.Kept.{run-keeps}
use Rattle.awaited_requests.proofs.Awaited.{awaited-stands}
use Rattle.awaited_requests.proofs.laws.awaited_requests_stand_at_their_server.Goals as goal

pub returns : goal.returns
returns c = λ site events w asker one n opener pair k fit few run awaited opens there not_gone full.
    awaited-stands site fit (length events) w (run-keeps site fit events w few run) asker one n opener pair k opens
    there awaited not_gone full
