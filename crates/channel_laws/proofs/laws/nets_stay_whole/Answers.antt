use Rattle.channel_laws.proofs.Nets.{whole-quiet, whole-goes, whole-run}
use Rattle.channel_laws.proofs.laws.nets_stay_whole.Goals as goal

pub returns-clause-begins : goal.returns-clause-begins
returns-clause-begins c reloads = whole-quiet reloads

pub returns-clause-goes : goal.returns-clause-goes
returns-clause-goes c n next g w = whole-goes g w

pub returns-clause-run : goal.returns-clause-run
returns-clause-run c reloads n r = whole-run reloads r
