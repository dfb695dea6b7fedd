use Rattle.process_control.proofs.Starting.{starts}
use Rattle.process_control.proofs.inside.CopyCore.start.Goals as goal

pub returns : goal.returns
returns g c =
    starts (g.B.Behaviour.state c.args.behaviour) c.args.files c.args.openers.now c.new-2.result c.in_ok-receive.receive
    c.new-2.ensures c.in_ok-receive.ensures.value
