use Rattle.letter_laws.proofs.Honest.{played-honest}
use Rattle.letter_laws.proofs.laws.letters_were_sent.Goals as goal

pub returns : goal.returns
returns c = λ site events post letter fit few played among.
    (played-honest site fit events post few played).letters letter among
