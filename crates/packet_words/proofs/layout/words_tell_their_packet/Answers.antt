use Rattle.packet_words.proofs.Telling.{told_apart}
use Rattle.packet_words.proofs.layout.words_tell_their_packet.Goals as goal

pub returns : goal.returns
returns c = told_apart
