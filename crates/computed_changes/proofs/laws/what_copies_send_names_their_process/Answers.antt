use Rattle.computed_changes.proofs.Reached.{run-sent}
use Rattle.computed_changes.proofs.laws.what_copies_send_names_their_process.Goals as goal

pub returns : goal.returns
returns c = λ site events w message run sent. run-sent w message run sent
