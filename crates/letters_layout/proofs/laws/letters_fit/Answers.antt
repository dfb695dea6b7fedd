use Rattle.letters_layout.proofs.Letters.{all-fit}
use Rattle.letters_layout.proofs.laws.letters_fit.Goals as goal

pub returns : goal.returns
returns c = all-fit
