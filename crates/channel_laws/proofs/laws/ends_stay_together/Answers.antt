use Rattle.channel_laws.proofs.Joints.{joint-pushing, joint-coming, joint-telling, joint-ticking}
use Rattle.channel_laws.proofs.laws.ends_stay_together.Goals as goal

pub returns-clause-push : goal.returns-clause-push
returns-clause-push c message w n j = joint-pushing message w n j

pub returns-clause-piece : goal.returns-clause-piece
returns-clause-piece c number piece w o j = joint-coming number piece w o j

pub returns-clause-acknowledgement : goal.returns-clause-acknowledgement
returns-clause-acknowledgement c number w o j = joint-telling number w o.1 j

pub returns-clause-tick : goal.returns-clause-tick
returns-clause-tick c w j = joint-ticking w j
