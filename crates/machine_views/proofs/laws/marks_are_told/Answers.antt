use Rattle.machine_views.proofs.Told.{mark-is-told}
use Rattle.machine_views.proofs.laws.marks_are_told.Goals as goal

pub returns : goal.returns
returns c = mark-is-told
