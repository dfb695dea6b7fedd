use Rattle.computed_changes.proofs.Fitting.{sent-fits}
use Rattle.computed_changes.proofs.laws.a_sent_checkpoint_fits.Goals as goal

pub returns : goal.returns
returns c = λ site events w number spec pair k message run named there i files.
    sent-fits w number spec pair k message run named there i files
