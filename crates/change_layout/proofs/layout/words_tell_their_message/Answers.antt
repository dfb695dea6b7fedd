use Rattle.change_layout.proofs.Messages.{read-apart}
use Rattle.change_layout.proofs.layout.words_tell_their_message.Goals as goal

pub returns : goal.returns
returns c = read-apart
