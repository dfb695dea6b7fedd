use Rattle.channel_laws.proofs.Rounds.{brought-on}
use Rattle.channel_laws.proofs.laws.a_round_brings_a_piece_on.Goals as goal

pub returns : goal.returns
returns c n a b l next r w here there numbered = brought-on n a b r w here there numbered
