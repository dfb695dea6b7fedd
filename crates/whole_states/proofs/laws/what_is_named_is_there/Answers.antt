use Rattle.whole_states.proofs.Processes.{listed-there, files-there, asked-file-there}
use Rattle.whole_states.proofs.laws.what_is_named_is_there.Goals as goal

pub returns : goal.returns
returns c = record { listed = listed-there; files = files-there; asked = asked-file-there }
