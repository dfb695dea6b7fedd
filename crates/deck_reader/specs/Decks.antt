-- The deck that bytes spell.
use Rattle.std.specs.Prelude.{◌≡◌, ◌≤◌, ℕ, List, [], ◌∷◌, length, Some, None}
use Rattle.name_table.specs.Entries.{Named, place_of}
use Rattle.tal_laws.specs.tal_reader.specs.Reads.{Reads}
use Rattle.tal_tree.specs.declared.site.Kind.{Kind}
use Rattle.tal_tree.specs.declared.site.Kind.TheVariants as kind
use Rattle.tal_tree.specs.declared.site.ProcessSpec.{ProcessSpec}
use Rattle.tal_tree.specs.declared.site.TerminalSpec.{TerminalSpec}
use Rattle.deck_lines.specs.Lines.{lines_of}
use Rattle.deck_reader.specs.Names.{misnamed_in}
use Rattle.deck_reader.specs.Outlined.{outline_of}
use Rattle.deck_reader.specs.declared.deck.Deck.{Deck}
use Rattle.deck_reader.specs.declared.outline.Body.{Body}
use Rattle.deck_reader.specs.declared.outline.Body.TheVariants as body
use Rattle.deck_reader.specs.declared.outline.Outline.{Outline}
use Rattle.deck_reader.specs.declared.outline.ProcessLines.{ProcessLines}
use Rattle.deck_reader.specs.declared.outline.TerminalLines.{TerminalLines}
use Rattle.deck_reader.specs.declared.told.Told.TheVariants as told
use Rattle.gd_words.specs.declared.limits.TheConstants.{MOST_DECK_BYTES}

-- one after another, each x with its y
abbrev pub EachWith : {X Y : Type 0} → (X → Y → Type 0) → List X → List Y → Type 0
EachWith R [] [] = Unit {0}
EachWith R (x ∷ xs) (y ∷ ys) = R x y × EachWith R xs ys
EachWith R [] (y ∷ ys) = ⊥
EachWith R (x ∷ xs) [] = ⊥

-- what a process is: a disc with its sectors, or a pair that runs the program that its text reads as
abbrev pub IsKindOf : Body → Kind → Type 0
IsKindOf (body.Disc told both) (kind.Disc sectors mirrored) = (sectors ≡ told) × (mirrored ≡ both)
IsKindOf (body.Pair lines) (kind.Pair program) = Reads lines.text program
IsKindOf _ _ = ⊥

-- the process of its name and its lines
pub record IsProcessOf (lines : Named ProcessLines) (process : ProcessSpec) : Type 0 where
  pub name : process.name ≡ lines.0
  pub primary : process.primary ≡ lines.1.primary
  pub backup : process.backup ≡ lines.1.backup
  pub what : IsKindOf lines.1.body process.what

abbrev pub AreProcessesOf : List (Named ProcessLines) → List ProcessSpec → Type 0
AreProcessesOf lines processes = EachWith IsProcessOf lines processes

-- the terminal of its name and its lines asks the process that they name
pub record IsTerminalOf (processes : List (Named ProcessLines)) (lines : Named TerminalLines)
    (terminal : TerminalSpec) : Type 0 where
  pub name : terminal.name ≡ lines.0
  pub target : place_of processes lines.1.target ≡ Some terminal.target
  pub requests : terminal.requests ≡ lines.1.requests

abbrev pub AreTerminalsOf : List (Named ProcessLines) → List (Named TerminalLines) → List TerminalSpec → Type 0
AreTerminalsOf processes lines terminals = EachWith (IsTerminalOf processes) lines terminals

-- the deck of an outline: programs read and names looked up
pub record IsDeckOf (outline : Outline) (deck : Deck) : Type 0 where
  pub processors : deck.site.processors ≡ outline.processors
  pub processes : AreProcessesOf outline.processes deck.site.processes
  pub terminals : AreTerminalsOf outline.processes outline.terminals deck.site.terminals
  pub lines : deck.lines ≡ outline.events.lines
  pub named : misnamed_in outline deck.site.processes ≡ None

-- the bytes, at most 1,048,576, are the lines of the deck
pub record Decks (bytes : List ℕ) (deck : Deck) : Type 0 where
  pub short : length bytes ≤ MOST_DECK_BYTES
  pub outlined : (outline : Outline) × (outline_of (lines_of bytes) ≡ told.Whole outline) × IsDeckOf outline deck
