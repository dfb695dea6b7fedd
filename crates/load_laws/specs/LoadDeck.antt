-- The deck that the load text spells.
use Rattle.std.specs.Prelude.{ℕ, zero, suc, ◌+◌, ◌*◌, ◌%◌, ℤ, pos, false, List, [], ◌∷◌, ◌++◌, codes}
use Rattle.std.specs.Fmt.{decimal}
use Rattle.tal_tree.specs.declared.expression.Cond.TheVariants.{Truth}
use Rattle.tal_tree.specs.declared.expression.Expr.TheVariants.{Number, Read, Two}
use Rattle.tal_tree.specs.declared.expression.Op.TheVariants.{Add}
use Rattle.tal_tree.specs.declared.expression.Spot.{Spot}
use Rattle.tal_tree.specs.declared.expression.Spot.TheVariants.{Element, Simple}
use Rattle.tal_tree.specs.declared.expression.Variable.TheVariants as variable
use Rattle.tal_tree.specs.declared.program.Program.{Program}
use Rattle.tal_tree.specs.declared.program.Shape.TheVariants as shape
use Rattle.tal_tree.specs.declared.program.Target.TheVariants as target
use Rattle.tal_tree.specs.declared.statement.Statement.{Statement}
use Rattle.tal_tree.specs.declared.statement.What.{What}
use Rattle.tal_tree.specs.declared.statement.What.TheVariants as what
use Rattle.tal_tree.specs.declared.site.Kind.TheVariants as kind
use Rattle.tal_tree.specs.declared.site.ProcessSpec.{ProcessSpec}
use Rattle.tal_tree.specs.declared.site.Site.{Site}
use Rattle.tal_tree.specs.declared.site.TerminalSpec.{TerminalSpec}
use Rattle.schedule.specs.declared.event.Event.TheVariants as event
use Rattle.schedule.specs.declared.line.Line.{Line}
use Rattle.schedule.specs.declared.line.Line.TheVariants as line
use Rattle.deck_reader.specs.declared.deck.Deck.{Deck}

-- what is made of the numbers below a bound, from 0 on
abbrev pub each_below : {A : Type 0} → (ℕ → A) → ℕ → List A
each_below make zero = []
each_below make (suc number) = each_below make number ++ make number ∷ []

-- the statement of this number, on this line
abbrev pub stated : ℕ → ℕ → What → Statement
stated number line what = record { number = number; line = line; what = what }

-- the globals of a bank: its total, the count that it got, and the elements of its buffers
abbrev pub total : Spot
total = Simple 0

abbrev pub element : ℕ → ℕ → Spot
element item place = Element item (Number (pos place))

-- what a bank does for each request: it adds its word to the total, checkpoints, writes the total to a sector of its
-- disc, and answers the total
abbrev pub serving : ℕ → List Statement
serving sector =
    stated 5 11 (what.ReadUpdate 4 (Number (pos 1)) (variable.Simple 1))
    ∷ stated 6 12 (what.Assign total (Two Add (Read total) (Read (element 4 0))))
    ∷ stated 7 13 (what.Checkpoint (4 ∷ 5 ∷ 1 ∷ 0 ∷ []) (1 ∷ []))
    ∷ stated 8 14 (what.Assign (element 5 0) (Number (pos 2)))
    ∷ stated 9 15 (what.Assign (element 5 1) (Number (pos sector)))
    ∷ stated 10 16 (what.Assign (element 5 2) (Read total))
    ∷ stated 11 17 (what.WriteRead 1 5 (Number (pos 3)) (Number (pos 1)) (variable.Simple 1))
    ∷ stated 12 18 (what.Assign (element 4 0) (Read total))
    ∷ stated 13 19 (what.Reply 4 (Number (pos 1)))
    ∷ []

-- the name of a disc, a bank or a terminal: a letter and a number
abbrev pub name_with : List ℕ → ℕ → List ℕ
name_with letter number = codes "$" ++ letter ++ decimal number

-- the program of a bank: it keeps its total on a sector of a disc
abbrev pub bank_program : ℕ → ℕ → Program
bank_program disc sector = record {
  items =
      record { name = codes "TOTAL"; shape = shape.Simple }
      ∷ record { name = codes "GOT"; shape = shape.Simple }
      ∷ record { name = codes "RCV"; shape = shape.File 0 }
      ∷ record { name = codes "DISK"; shape = shape.File 1 }
      ∷ record { name = codes "BUF"; shape = shape.Array (pos 0) (pos 0) }
      ∷ record { name = codes "OUT"; shape = shape.Array (pos 0) (pos 2) }
      ∷ [];
  files =
      record { item = 2; target = target.Receive; depth = 1 }
      ∷ record { item = 3; target = target.Process (name_with (codes "D") disc); depth = 1 }
      ∷ [];
  procedures =
      record {
        name = codes "BANK";
        gives = false;
        parameters = 0;
        locals = [];
        body =
            stated 1 6 what.CheckMonitor ∷ stated 2 7 (what.Open 0) ∷ stated 3 8 (what.Open 1)
            ∷ stated 4 9 (what.While (Truth (Number (pos 1))) (serving sector)) ∷ [];
      }
      ∷ [];
  main = 0;
}

-- the disc of a number and of 64 sectors
abbrev pub disc : ℕ → ProcessSpec
disc number =
    record {
      name = name_with (codes "D") number;
      primary = 2 * number;
      backup = 2 * number + 1;
      what = kind.Disc 64 false;
    }

-- the bank of a number
abbrev pub bank : ℕ → ProcessSpec
bank number = record {
  name = name_with (codes "B") number;
  primary = 4 + number;
  backup = (5 + number) % 16;
  what = kind.Pair (bank_program (number % 2) number);
}

-- a request of a terminal, numbered from 0
abbrev pub request : ℕ → ℕ → List ℤ
request terminal number = pos ((7 * terminal + 3 * (number + 1)) % 100) ∷ []

-- the terminal of a number with so many requests: it asks one of the twelve banks, which stand behind the two discs
abbrev pub terminal : ℕ → ℕ → TerminalSpec
terminal count number = record {
  name = name_with (codes "T") number;
  target = 2 + number % 12;
  requests = each_below (request number) count;
}

-- 16 processors, two discs, twelve banks and sixteen terminals
abbrev pub load_site : ℕ → Site
load_site count = record {
  processors = 16;
  processes = each_below disc 2 ++ each_below bank 12;
  terminals = each_below (terminal count) 16;
}

-- 500 mixed rounds, the stop of processor 4, and rounds until all is done
abbrev pub load_schedule : List Line
load_schedule = line.Mix 7 500 ∷ line.One (event.Fail 4) ∷ line.Drain 90000 ∷ []

-- the load deck in which each terminal has so many requests
abbrev pub load_deck : ℕ → Deck
load_deck count = record { site = load_site count; lines = load_schedule }
