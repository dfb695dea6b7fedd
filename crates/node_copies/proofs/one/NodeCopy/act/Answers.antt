use Rattle.node_copies.specs.Seen.{sectors_on}
use Rattle.node_copies.proofs.one.NodeCopy.act.Goals as goal

pub returns-in_ok-step-in-Inner-clause-acted : goal.returns-in_ok-step-in-Inner-clause-acted
returns-in_ok-step-in-Inner-clause-acted c =
    λ site here deep. rw c.in-Inner.is (c.in_ok-step-in-Inner.ensures.acted site (sectors_on c.args.device.now))

pub returns-in_ok-step-in-Take-clause-acted : goal.returns-in_ok-step-in-Take-clause-acted
returns-in_ok-step-in-Take-clause-acted c =
    λ site here deep. rw c.in-Take.is (c.in_ok-step-in-Take.ensures.acted site (sectors_on c.args.device.now))

pub returns-in_ok-step-in-Ask-clause-acted : goal.returns-in_ok-step-in-Ask-clause-acted
returns-in_ok-step-in-Ask-clause-acted c =
    λ site here deep. rw c.in-Ask.is (c.in_ok-step-in-Ask.ensures.acted site (sectors_on c.args.device.now) here)

pub returns-in_ok-step-in-Device-clause-acted : goal.returns-in_ok-step-in-Device-clause-acted
returns-in_ok-step-in-Device-clause-acted c =
    λ site here deep. rw c.in-Device.is (c.in_ok-step-in-Device.ensures.acted site)
