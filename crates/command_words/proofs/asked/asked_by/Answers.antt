use Rattle.clap.specs.Words.{found_of, rows_of}
use Rattle.command_words.proofs.Ranges.{in_range}
use Rattle.command_words.proofs.asked.asked_by.Goals as goal

pub returns-in-Some-clause-range : goal.returns-in-Some-clause-range
returns-in-Some-clause-range c = rw c.command_in.ensures (in_range (rows_of (found_of c.in-Some.matches)))
