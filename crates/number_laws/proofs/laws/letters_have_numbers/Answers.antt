use Rattle.number_laws.proofs.Counts.{letters-within}
use Rattle.number_laws.proofs.laws.letters_have_numbers.Goals as goal

pub returns : goal.returns
returns c = λ site events s limits processors played few.
    letters-within site limits.processes limits.terminals processors events s played few
