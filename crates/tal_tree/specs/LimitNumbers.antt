-- The numbers by which a report tells which limit is passed. Our own.
use Rattle.std.specs.Prelude.{ℕ}
use Rattle.tal_tree.specs.declared.limit.DeckLimit.{DeckLimit}
use Rattle.tal_tree.specs.declared.limit.DeckLimit.TheVariants as deck_limit
use Rattle.tal_tree.specs.declared.limit.ProgramLimit.{ProgramLimit}
use Rattle.tal_tree.specs.declared.limit.ProgramLimit.TheVariants as program_limit

-- that of a limit of programs
abbrev pub program_limit_number : ProgramLimit → ℕ
program_limit_number program_limit.Globals = 1
program_limit_number program_limit.GlobalWords = 2
program_limit_number program_limit.ArrayWords = 3
program_limit_number program_limit.Files = 4
program_limit_number program_limit.Procedures = 5
program_limit_number program_limit.Locals = 6
program_limit_number program_limit.Statements = 7
program_limit_number program_limit.Levels = 8
program_limit_number program_limit.KeptReplies = 9

-- that of a limit of decks
abbrev pub deck_limit_number : DeckLimit → ℕ
deck_limit_number deck_limit.Processes = 1
deck_limit_number deck_limit.Terminals = 2
deck_limit_number deck_limit.Requests = 3
deck_limit_number deck_limit.RequestWords = 4
deck_limit_number deck_limit.Sectors = 5
deck_limit_number deck_limit.Singles = 6
deck_limit_number deck_limit.Rounds = 7
deck_limit_number deck_limit.Processors = 8
