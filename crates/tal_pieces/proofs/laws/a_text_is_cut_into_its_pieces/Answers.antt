use Rattle.tal_pieces.proofs.Spelling.Cut.{cuts}
use Rattle.tal_pieces.proofs.laws.a_text_is_cut_into_its_pieces.Goals as goal

pub returns : goal.returns
returns c = cuts
