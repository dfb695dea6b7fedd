use Rattle.command_laws.proofs.OneDue.{one-due, one-load}
use Rattle.command_laws.proofs.laws.what_is_due_is_one.Goals as goal

pub returns-clause-told : goal.returns-clause-told
returns-clause-told c = one-due

pub returns-clause-load : goal.returns-clause-load
returns-clause-load c = one-load
