-- The fault of a deck as a sentence. Our own wording.
use Rattle.std.specs.Prelude.{ℕ, List, codes}
use Rattle.tal_tree.specs.declared.fault.DeckFault.{DeckFault}
use Rattle.tal_tree.specs.declared.fault.DeckFault.TheVariants as deck
use Rattle.tal_tree.specs.declared.fault.TalFault.{TalFault}
use Rattle.tal_tree.specs.declared.fault.TalFault.TheVariants as tal
use Rattle.tal_tree.specs.declared.limit.DeckLimit.{DeckLimit}
use Rattle.tal_tree.specs.declared.limit.DeckLimit.TheVariants as most
use Rattle.tal_tree.specs.declared.limit.ProgramLimit.{ProgramLimit}
use Rattle.tal_tree.specs.declared.limit.ProgramLimit.TheVariants as limit

-- that a program passes this limit
abbrev pub program_limit : ProgramLimit → List ℕ
program_limit limit.Globals = codes "the program has more than 64 global names"
program_limit limit.GlobalWords = codes "the globals have more than 1,024 words"
program_limit limit.ArrayWords = codes "an array has at most 256 words"
program_limit limit.Files = codes "the program has more than 8 files"
program_limit limit.Procedures = codes "the program has more than 64 procedures"
program_limit limit.Locals = codes "the procedure has more than 12 locals and parameters"
program_limit limit.Statements = codes "the program has more than 2,000 numbered statements"
program_limit limit.Levels = codes "this stands more than 32 levels deep"
program_limit limit.KeptReplies = codes "an OPEN keeps 1 to 4 replies, and 1 for $RECEIVE"

-- that a deck does
abbrev pub deck_limit : DeckLimit → List ℕ
deck_limit most.Processes = codes "the deck has more than 16 discs and pairs"
deck_limit most.Terminals = codes "the deck has more than 16 terminals"
deck_limit most.Requests = codes "the terminal has more than 1,000 requests"
deck_limit most.RequestWords = codes "a request has at most 16 words"
deck_limit most.Sectors = codes "a disc has 1 to 64 sectors"
deck_limit most.Singles = codes "the lines ask for more than 1,000,000 single events"
deck_limit most.Rounds = codes "the lines ask for more than 100,000 rounds"
deck_limit most.Processors = codes "a deck has 2 to 16 processors"

-- a fault of a program
abbrev pub program_sentence : TalFault → List ℕ
program_sentence (tal.BadCharacter place) = codes "this byte begins no token"
program_sentence (tal.NumberTooLarge place) = codes "the number is too large"
program_sentence (tal.OpenString place) = codes "the string has no end on its line"
program_sentence (tal.NameTooLong place) = codes "the name has more than 31 signs"
program_sentence (tal.Expected place) = codes "no program has this token here"
program_sentence (tal.Unknown place) = codes "the name isn't declared"
program_sentence (tal.Twice place) = codes "this stands a second time"
program_sentence (tal.WrongKind place) = codes "something of another kind has to stand here"
program_sentence (tal.NotBefore place) = codes "the procedure isn't declared before this one"
program_sentence (tal.Prologue place) = codes "the main procedure has to begin with CHECKMONITOR and the OPENs"
program_sentence (tal.Limit passed place) = program_limit passed
program_sentence (tal.NoMain place) = codes "no procedure is MAIN"
program_sentence (tal.NoMemory _) = codes "out of memory"

-- a fault of a deck; that of a program is told as it is
abbrev pub sentence_of : DeckFault → List ℕ
sentence_of (deck.Line line) = codes "this line is of no form that may stand here"
sentence_of (deck.Program line fault) = program_sentence fault
sentence_of (deck.NameTwice line) = codes "the name was declared before"
sentence_of (deck.UnknownName line) = codes "this line, or an OPEN of its program, names nothing that is there"
sentence_of (deck.SameProcessor line) = codes "primary and backup are one processor"
sentence_of (deck.NoProcessor line) = codes "there is no such processor"
sentence_of (deck.Limit line passed) = deck_limit passed
sentence_of (deck.NoEnd line) = codes "the deck ends before END, or in a program"
sentence_of (deck.OpensItself line) = codes "the program opens its own pair"
sentence_of deck.TooLong = codes "the deck has more than 1,048,576 bytes"
sentence_of (deck.NoMemory _) = codes "out of memory"
