use Rattle.alive_regroup.proofs.NoneMissed.{none-held}
use Rattle.node_guards.proofs.silence.no_line_is_pulled_if_none_was_missed.Goals as goal

pub returns : goal.returns
returns c = none-held
