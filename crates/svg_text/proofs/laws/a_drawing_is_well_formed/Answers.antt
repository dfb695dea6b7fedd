use Rattle.svg_text.proofs.Documents.{drawing_is}
use Rattle.svg_text.proofs.laws.a_drawing_is_well_formed.Goals as goal

pub returns : goal.returns
returns c = drawing_is
