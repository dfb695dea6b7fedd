use Rattle.code_room.proofs.Read.{read_waits_below}
use Rattle.code_room.proofs.laws.what_is_read_has_room.Goals as goal

pub returns : goal.returns
returns c = read_waits_below
