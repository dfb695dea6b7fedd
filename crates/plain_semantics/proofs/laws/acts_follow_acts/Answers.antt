use Rattle.plain_semantics.proofs.Runs.{made_all-append}
use Rattle.plain_semantics.proofs.laws.acts_follow_acts.Goals as goal

pub returns : goal.returns
returns c = λ site plain first second. made_all-append site first second plain
