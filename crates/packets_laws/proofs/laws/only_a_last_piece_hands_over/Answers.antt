use Rattle.packets_laws.proofs.Pieces.{deliver-hands, drive-keeps, lose-keeps, repeat-keeps}
use Rattle.packets_laws.proofs.laws.only_a_last_piece_hands_over.Goals as goal

pub returns : goal.returns
returns c = record { deliver = deliver-hands; lose = lose-keeps; repeat = repeat-keeps; drive = drive-keeps }
