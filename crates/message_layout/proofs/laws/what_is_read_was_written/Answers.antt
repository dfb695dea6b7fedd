use Rattle.message_layout.proofs.Exact.{read-written}
use Rattle.message_layout.proofs.laws.what_is_read_was_written.Goals as goal

pub returns : goal.returns
returns c = read-written
