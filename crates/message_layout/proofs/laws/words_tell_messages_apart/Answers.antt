use Rattle.message_layout.proofs.Again.{apart}
use Rattle.message_layout.proofs.laws.words_tell_messages_apart.Goals as goal

pub returns : goal.returns
returns c = apart
