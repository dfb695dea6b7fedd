-- The deck that a text of the grammar spells. Names are declared once and may be used before their line. The numbers
-- that limit a deck are those of `IsWithinDeckLimits`.
use Rattle.std.specs.Prelude.{◌≡◌, ◌≢◌, ◌≤◌, ℕ, ℤ, Bool, false, if◌then◌else◌, List, [], ◌∷◌, length, map, position}
use Rattle.std.specs.Prelude.{slice_get, Option, Some, None, option_and_then, option_map, IsSome}
use Rattle.std.specs.List.{All, AllZip}
use Rattle.std.specs.Str.{bytes_eq}
use Rattle.gd_words.specs.Members.{IsAmong}
use Rattle.schedule.specs.declared.event.Event.TheVariants as event
use Rattle.schedule.specs.declared.line.Line.{Line}
use Rattle.schedule.specs.declared.line.Line.TheVariants as line
use Rattle.tal_reader.specs.Reads.{Reads}
use Rattle.tal_tree.specs.declared.program.FileUse.{FileUse}
use Rattle.tal_tree.specs.declared.program.Program.{Program}
use Rattle.tal_tree.specs.declared.program.Target.{Target}
use Rattle.tal_tree.specs.declared.program.Target.TheVariants as target
use Rattle.tal_tree.specs.declared.site.Kind.{Kind}
use Rattle.tal_tree.specs.declared.site.Kind.TheVariants as kind
use Rattle.tal_tree.specs.declared.site.ProcessSpec.{ProcessSpec}
use Rattle.tal_tree.specs.declared.site.Site.{Site}
use Rattle.tal_tree.specs.declared.site.TerminalSpec.{TerminalSpec}
use Rattle.deck_lines.specs.Lines.{lines_of}
use Rattle.deck_lines.specs.declared.event_saying.EventSaying.{EventSaying}
use Rattle.deck_lines.specs.declared.event_saying.EventSaying.TheVariants as asked
use Rattle.deck_lines.specs.declared.saying.Placing.{Placing}
use Rattle.deck_reader.specs.Limits.{IsWithinDeckLimits}
use Rattle.deck_reader.specs.declared.deck.Deck.{Deck}
use Rattle.deck_grammar.specs.Grammar.{AreItems, Block, Disc, Pair, Terminal, deck_items, point, text_of}
use Rattle.schedule.specs.declared.event.DriveChange.TheVariants.{Copy}
use Rattle.gd_words.specs.declared.limits.TheConstants.{MOST_DECK_BYTES}

-- where a process, or a terminal, of this name stands, counted from 0
abbrev pub process_at : Site → List ℕ → Option ℕ
process_at site name = position (λ (process : ProcessSpec). bytes_eq process.name name) site.processes

abbrev pub terminal_at : Site → List ℕ → Option ℕ
terminal_at site name = position (λ (terminal : TerminalSpec). bytes_eq terminal.name name) site.terminals

-- a program opens `$RECEIVE`, or a process of the site that isn't its own pair
abbrev pub MayOpen : Site → List ℕ → Target → Type 0
MayOpen site own target.Receive = Unit {0}
MayOpen site own (target.Process name) = IsSome (process_at site name) × (name ≢ own)

-- the process of this name and these processors
abbrev pub placed : Placing → Kind → ProcessSpec
placed placing what = record { name = placing.name; primary = placing.primary; backup = placing.backup; what = what }

-- a pair runs the program that its lines read as
pub record IsPairOf (site : Site) (placing : Placing) (lines : List (List ℕ)) (process : ProcessSpec) : Type 0 where
  pub program : Program
  pub before_point : All (λ line. line ≢ point) lines
  pub reads : Reads (text_of lines) program
  pub opens : All (λ (file : FileUse). MayOpen site placing.name file.target) program.files
  pub same : process ≡ placed placing (kind.Pair program)

-- a terminal asks a process of the site
pub record IsTerminalOf (site : Site) (name target : List ℕ) (requests : List (List ℤ)) (terminal : TerminalSpec) :
    Type 0 where
  pub named : terminal.name ≡ name
  pub asks : process_at site target ≡ Some terminal.target
  pub sends : terminal.requests ≡ requests

-- blocks declare these processes and these terminals, in their order
abbrev pub Declare : Site → List Block → List ProcessSpec → List TerminalSpec → Type 0
Declare site [] [] [] = Unit {0}
Declare site (Disc placing sectors mirrored ∷ blocks) (process ∷ processes) terminals =
    (process ≡ placed placing (kind.Disc sectors mirrored)) × Declare site blocks processes terminals
Declare site (Pair placing lines ∷ blocks) (process ∷ processes) terminals =
    IsPairOf site placing lines process × Declare site blocks processes terminals
Declare site (Terminal name target requests ∷ blocks) processes (terminal ∷ terminals) =
    IsTerminalOf site name target requests terminal × Declare site blocks processes terminals
Declare site _ _ _ = ⊥

-- what a block declares has this name
abbrev pub name_in : Block → List ℕ
name_in (Disc placing sectors mirrored) = placing.name
name_in (Pair placing lines) = placing.name
name_in (Terminal name target requests) = name

-- no name stands twice
abbrev pub AreDistinct : List (List ℕ) → Type 0
AreDistinct [] = Unit {0}
AreDistinct (name ∷ names) = (IsAmong name names → ⊥) × AreDistinct names

-- whether this is a mirrored disc, if it is there
abbrev pub is_mirror : Kind → Bool
is_mirror (kind.Disc sectors mirrored) = mirrored
is_mirror (kind.Pair program) = false

abbrev pub is_mirror_there : Option ProcessSpec → Bool
is_mirror_there None = false
is_mirror_there (Some process) = is_mirror process.what

-- the place of the mirrored disc of this name
abbrev pub mirror_at : Site → List ℕ → Option ℕ
mirror_at site name = option_and_then
    (λ place. if is_mirror_there (slice_get site.processes place) then Some place else None) (process_at site name)

-- what an event line asks for, where what it names is there
abbrev pub line_of : Site → EventSaying → Option Line
line_of site (asked.Run name) = option_map (λ place. line.One (event.Run place)) (process_at site name)
line_of site (asked.RunTimes name times) =
    option_map (λ place. line.Many (event.Run place) times) (process_at site name)
line_of site (asked.Enter name) = option_map (λ place. line.One (event.Enter place)) (terminal_at site name)
line_of site (asked.Deliver packet) = Some (line.One (event.Deliver packet.bus packet.k))
line_of site (asked.Lose packet) = Some (line.One (event.Lose packet.bus packet.k))
line_of site (asked.Repeat packet) = Some (line.One (event.Repeat packet.bus packet.k))
line_of site (asked.Tick node) = Some (line.One (event.Tick node))
line_of site (asked.Fail processor) = Some (line.One (event.Fail processor))
line_of site (asked.Reload processor) = Some (line.One (event.Reload processor))
line_of site (asked.Drive name drive change) = option_map
    (λ place. line.One (event.Drive (record { process = place; drive = drive; change = change })))
    (mirror_at site name)
line_of site (asked.CopyTimes name drive times) = option_map
    (λ place. line.Many (event.Drive (record { process = place; drive = drive; change = Copy })) times)
    (mirror_at site name)
line_of site (asked.Drain rounds) = Some (line.Drain rounds)
line_of site (asked.Mix start rounds) = Some (line.Mix start rounds)
line_of site (asked.Mute processor rounds) = Some (line.Mute processor rounds)
line_of site (asked.Until writes count rounds) = Some (line.Until writes count rounds)

-- the bytes, at most 1,048,576, are a text of the grammar, and the deck is what it declares and asks for
pub record Spells (bytes : List ℕ) (deck : Deck) : Type 0 where
  pub short : length bytes ≤ MOST_DECK_BYTES
  pub blocks : List Block
  pub events : List EventSaying
  pub text : AreItems (lines_of bytes) (deck_items deck.site.processors blocks events)
  pub once : AreDistinct (map name_in blocks)
  pub declared : Declare deck.site blocks deck.site.processes deck.site.terminals
  pub scheduled : AllZip (λ (saying : EventSaying) (line : Line). line_of deck.site saying ≡ Some line) events
      deck.lines
  pub limits : IsWithinDeckLimits deck
