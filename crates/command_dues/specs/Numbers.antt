-- The numbers with which the program ends.
use Rattle.std.specs.Prelude.{ℕ}
use Rattle.command_dues.specs.declared.outcome.Status.{Status}
use Rattle.command_dues.specs.declared.outcome.Status.TheVariants.{Done, Usage, DeckRefused, Refused, Cut, SecondStop}
use Rattle.command_dues.specs.declared.outcome.Status.TheVariants.{ReadFault, WriteFault, NoMemory, Rejected, DiscLost}

abbrev pub status_number : Status → ℕ
status_number Done = 0
status_number Usage = 1
status_number (DeckRefused fault) = 2
status_number (Refused process refusal) = 3
status_number Cut = 4
status_number (SecondStop processor) = 5
status_number ReadFault = 6
status_number WriteFault = 7
status_number (NoMemory _) = 8
status_number (Rejected line cause) = 9
status_number (DiscLost process) = 10
