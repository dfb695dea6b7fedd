use Rattle.checkpoint_image.proofs.Messages.{read-apart}
use Rattle.checkpoint_image.proofs.layout.words_tell_their_message.Goals as goal

pub returns : goal.returns
returns c = read-apart
