-- The deck of an outline is what its blocks declare and its event lines ask for.
use Rattle.std.proofs.Common.{◌≡◌, ℕ, ℤ, Bool, true, false, cond, nat_eq, nat_lt, ◌||◌, List, [], ◌∷◌, Option, Some}
use Rattle.std.proofs.Common.{None, option_map, refl, sym, ap, ap₂, ◌∙◌, subst}
use Rattle.std.specs.List.{AllZip}
use Rattle.std.specs.Str.{bytes_eq}
use Rattle.name_table.specs.Entries.{Named, place_of}
use Rattle.schedule.specs.declared.event.DriveChange.TheVariants.{Copy}
use Rattle.schedule.specs.declared.event.Event.TheVariants as event
use Rattle.schedule.specs.declared.line.Line.{Line}
use Rattle.schedule.specs.declared.line.Line.TheVariants as line
use Rattle.tal_reader.specs.Reads.{Reads}
use Rattle.tal_tree.specs.declared.program.Program.{Program}
use Rattle.tal_tree.specs.declared.site.Kind.{Kind}
use Rattle.tal_tree.specs.declared.site.Kind.TheVariants as kind
use Rattle.tal_tree.specs.declared.site.ProcessSpec.{ProcessSpec}
use Rattle.tal_tree.specs.declared.site.Site.{Site}
use Rattle.tal_tree.specs.declared.site.TerminalSpec.{TerminalSpec}
use Rattle.deck_lines.specs.Lines.{lines_of}
use Rattle.deck_lines.specs.declared.event_saying.EventSaying.{EventSaying}
use Rattle.deck_lines.specs.declared.event_saying.EventSaying.TheVariants as asked
use Rattle.deck_lines.specs.declared.saying.Placing.{Placing}
use Rattle.deck_lines.specs.declared.saying.Saying.TheVariants as said
use Rattle.deck_reader.specs.Decks as d
use Rattle.deck_reader.specs.EventLineOf.{event_line, mirror_of}
use Rattle.deck_reader.specs.Names.{earlier, event_misnamed, first_of, pairs_misnamed, process_misnamed}
use Rattle.deck_reader.specs.Names.{targets_misnamed}
use Rattle.deck_reader.specs.declared.deck.Deck.{Deck}
use Rattle.deck_reader.specs.declared.names.NameFault.{NameFault}
use Rattle.deck_reader.specs.declared.outline.Body.TheVariants as body
use Rattle.deck_reader.specs.declared.outline.Outline.{Outline}
use Rattle.deck_reader.specs.declared.outline.ProcessLines.{ProcessLines}
use Rattle.deck_reader.specs.declared.outline.ProgramLines.{ProgramLines}
use Rattle.deck_reader.specs.declared.outline.TerminalLines.{TerminalLines}
use Rattle.deck_reader.specs.declared.step.Stage.TheVariants as at
use Rattle.deck_reader.proofs.DeckLimits.{deck_within}
use Rattle.deck_grammar.specs.Grammar.{AreItems, Block, Disc, Item, Pair, Says, Terminal, text_of}
use Rattle.deck_grammar.specs.Spells.{Declare, IsPairOf, IsTerminalOf, Spells, line_of, mirror_at, placed}
use Rattle.deck_grammar.specs.Spells.{terminal_at}
use Rattle.deck_grammar.proofs.Added.{disc_with, heading_with, terminal_with}
use Rattle.deck_grammar.proofs.Items.{body-is}
use Rattle.deck_grammar.proofs.Looked.{AreThere, files_open, same_mirror, same_place}
use Rattle.deck_grammar.proofs.Parsed.{InOpening, IsPairTold, IsTerminalTold, Told, all_lead, named, pair_with}
use Rattle.deck_grammar.proofs.Parsed.{program_at, with_requests}

-- neither of two lines is amiss
neither : (a b : Option NameFault) → first_of a b ≡ None → (a ≡ None) × (b ≡ None)
neither None b e = (refl, e)
neither (Some one) b e = absurd (cc)

none_earlier : (a b : Option NameFault) → earlier a b ≡ None → (a ≡ None) × (b ≡ None)
none_earlier None b e = (refl, e)
none_earlier (Some one) b e = absurd (cc)

none_noted : (unknown : Option ℕ) → event_misnamed unknown ≡ None → unknown ≡ None
none_noted None e = refl
none_noted (Some number) e = absurd (cc)

disc_kind : (sectors : ℕ) (mirrored : Bool) (what : Kind) → d.IsKindOf (body.Disc sectors mirrored) what
    → what ≡ kind.Disc sectors mirrored
disc_kind sectors mirrored (kind.Disc told both) is = ap₂ kind.Disc is.0 is.1
disc_kind sectors mirrored (kind.Pair program) is = absurd is

pair_kind : (lines : ProgramLines) (what : Kind) → d.IsKindOf (body.Pair lines) what
    → (program : Program) × Reads lines.text program × (what ≡ kind.Pair program)
pair_kind lines (kind.Disc told both) is = absurd is
pair_kind lines (kind.Pair program) reads = (program, reads, refl)

disc_declared : (placing : Placing) (sectors : ℕ) (mirrored : Bool) (process : ProcessSpec)
    → d.IsProcessOf (disc_with placing sectors mirrored) process → process ≡ placed placing (kind.Disc sectors mirrored)
disc_declared placing sectors mirrored process one =
    let what = disc_kind sectors mirrored process.what one.what in
    λ i. record { name = one.name i; primary = one.primary i; backup = one.backup i; what = what i }

module _ (site : Site) (all : List (Named ProcessLines)) (there : AreThere all site) where
  pair_declared : (placing : Placing) (lines : List (List ℕ)) (told : Named ProcessLines) (process : ProcessSpec)
      → IsPairTold placing lines told → d.IsProcessOf told process
      → process_misnamed all told.0 told.1.body process.what ≡ None → IsPairOf site placing lines process
  pair_declared placing lines told process is of none =
      let one : d.IsProcessOf (pair_with (heading_with placing) (program_at is.0) lines) process =
      subst (λ (p : Named ProcessLines). d.IsProcessOf p process) is.2 of in
      let read = pair_kind (record { line = is.0; text = text_of lines }) process.what one.what in
      let same : process_misnamed all told.0 told.1.body process.what
      ≡ process_misnamed all placing.name (pair_with (heading_with placing) (program_at is.0) lines).1.body
      (kind.Pair read.0) =
      ap₂ (λ (p : Named ProcessLines) (what : Kind). process_misnamed all p.0 p.1.body what) is.2 read.2 in record {
        program = read.0;
        before_point = is.1;
        reads = read.1;
        opens = files_open all site there placing.name is.0 read.0.files (sym same ∙ none);
        same = λ i. record { name = one.name i; primary = one.primary i; backup = one.backup i; what = read.2 i };
      }

  terminal_declared : (name target : List ℕ) (requests : List (List ℤ)) (told : Named TerminalLines)
      (terminal : TerminalSpec) → IsTerminalTold name target requests told
      → d.IsTerminalOf all told terminal → IsTerminalOf site name target requests terminal
  terminal_declared name target requests told terminal is of =
      let one : d.IsTerminalOf all (named name (with_requests (terminal_with is.0 target) requests)) terminal =
      subst (λ (t : Named TerminalLines). d.IsTerminalOf all t terminal) is.1 of in
      record { named = one.name; asks = sym (there target) ∙ one.target; sends = one.requests }

  all_declared : (blocks : List Block) (lines : List (Named ProcessLines)) (more : List (Named TerminalLines))
      (processes : List ProcessSpec) (terminals : List TerminalSpec)
      → Told blocks lines more → d.AreProcessesOf lines processes → d.AreTerminalsOf all more terminals
      → pairs_misnamed all lines processes ≡ None
      → Declare site blocks processes terminals
  all_declared [] [] [] [] [] told of asks none = tt
  all_declared [] [] [] (process ∷ processes) terminals told of asks none = absurd of
  all_declared [] [] [] [] (terminal ∷ terminals) told of asks none = absurd asks
  all_declared [] [] (one ∷ more) processes terminals told of asks none = absurd told
  all_declared [] (one ∷ lines) more processes terminals told of asks none = absurd told
  all_declared (Disc placing sectors mirrored ∷ blocks) [] more processes terminals told of asks none = absurd told
  all_declared (Disc placing sectors mirrored ∷ blocks) (one ∷ lines) more [] terminals told of asks none = absurd of
  all_declared (Disc placing sectors mirrored ∷ blocks) (one ∷ lines) more (process ∷ processes) terminals told of
      asks none = (
        disc_declared placing sectors mirrored process (subst (λ (p : Named ProcessLines). d.IsProcessOf p process)
            told.0 of.0),
        all_declared blocks lines more processes terminals told.1 of.1 asks
            (neither (process_misnamed all one.0 one.1.body process.what) (pairs_misnamed all lines processes) none).1,
      )
  all_declared (Pair placing rows ∷ blocks) [] more processes terminals told of asks none = absurd told
  all_declared (Pair placing rows ∷ blocks) (one ∷ lines) more [] terminals told of asks none = absurd of
  all_declared (Pair placing rows ∷ blocks) (one ∷ lines) more (process ∷ processes) terminals told of asks none = (
    pair_declared placing rows one process told.0 of.0
        (neither (process_misnamed all one.0 one.1.body process.what) (pairs_misnamed all lines processes) none).0,
    all_declared blocks lines more processes terminals told.1 of.1 asks
        (neither (process_misnamed all one.0 one.1.body process.what) (pairs_misnamed all lines processes) none).1,
  )
  all_declared (Terminal name target requests ∷ blocks) lines [] processes terminals told of asks none = absurd told
  all_declared (Terminal name target requests ∷ blocks) lines (one ∷ more) processes [] told of asks none = absurd asks
  all_declared (Terminal name target requests ∷ blocks) lines (one ∷ more) processes (terminal ∷ terminals) told of
      asks none = (
        terminal_declared name target requests one terminal told.0 asks.0,
        all_declared blocks lines more processes terminals told.1 of asks.1 none,
      )

module _ (outline : Outline) (site : Site) (processes : AreThere outline.processes site)
    (terminals : (name : List ℕ) → place_of outline.terminals name ≡ terminal_at site name)
    (mirrors : (name : List ℕ) → mirror_of outline.processes name ≡ mirror_at site name) where
  -- what passes a test is told
  tested : {X : Type 0} (b : Bool) (one told : X) → cond b (Some one) None ≡ Some told → Some one ≡ Some told
  tested true one told e = e
  tested false one told e = absurd (cc)

  untested : {X : Type 0} (b : Bool) (o : Option X) (told : X) → cond b None o ≡ Some told → o ≡ Some told
  untested true o told e = absurd (cc)
  untested false o told e = e

  -- an event line that is told asks for this
  line_meant : (saying : EventSaying) (told : Line) → event_line outline saying ≡ Some told
      → line_of site saying ≡ Some told
  line_meant (asked.Run name) told e = ap (option_map (λ place. line.One (event.Run place))) (sym (processes name)) ∙ e
  line_meant (asked.RunTimes name times) told e =
      ap (option_map (λ place. line.Many (event.Run place) times)) (sym (processes name))
      ∙ untested (nat_lt times 1) _ told e
  line_meant (asked.Enter name) told e =
      ap (option_map (λ place. line.One (event.Enter place))) (sym (terminals name)) ∙ e
  line_meant (asked.Deliver packet) told e = e
  line_meant (asked.Lose packet) told e = e
  line_meant (asked.Repeat packet) told e = e
  line_meant (asked.Tick node) told e =
      tested (nat_lt node outline.processors || nat_eq node 16) (line.One (event.Tick node)) told e
  line_meant (asked.Fail processor) told e =
      tested (nat_lt processor outline.processors) (line.One (event.Fail processor)) told e
  line_meant (asked.Reload processor) told e =
      tested (nat_lt processor outline.processors) (line.One (event.Reload processor)) told e
  line_meant (asked.Drive name drive change) told e =
      ap (option_map (λ place. line.One (event.Drive (record { process = place; drive = drive; change = change }))))
      (sym (mirrors name)) ∙ e
  line_meant (asked.CopyTimes name drive times) told e =
      ap (option_map
      (λ place. line.Many (event.Drive (record { process = place; drive = drive; change = Copy })) times))
      (sym (mirrors name)) ∙ untested (nat_lt times 1) _ told e
  line_meant (asked.Drain rounds) told e = e
  line_meant (asked.Mix start rounds) told e = e
  line_meant (asked.Mute processor rounds) told e =
      tested (nat_lt processor outline.processors) (line.Mute processor rounds) told e
  line_meant (asked.Until writes count rounds) told e = e

  lines_meant : (events : List EventSaying) (lines : List Line)
      → AllZip (λ (saying : EventSaying) (told : Line). event_line outline saying ≡ Some told) events lines
      → AllZip (λ (saying : EventSaying) (told : Line). line_of site saying ≡ Some told) events lines
  lines_meant [] [] all = tt
  lines_meant (saying ∷ events) (told ∷ lines) all = (line_meant saying told all.0, lines_meant events lines all.1)
  lines_meant [] (told ∷ lines) all = absurd all
  lines_meant (saying ∷ events) [] all = absurd all

-- what the reader takes for a deck, the grammar spells
pub spelt : (bytes : List ℕ) (deck : Deck) → d.Decks bytes deck → Spells bytes deck
spelt bytes deck decks =
    let outline = decks.outlined.0 in
    let is = decks.outlined.2 in
    let site = deck.site in
    let leads : InOpening outline (lines_of bytes) = all_lead at.Opening 0 (lines_of bytes) outline decks.outlined.1 in
    let parts = leads.1 in
    let of = leads.3 in
    let named = none_earlier (earlier (pairs_misnamed outline.processes outline.processes site.processes)
    (targets_misnamed outline.processes outline.terminals)) (event_misnamed outline.events.unknown) is.named in
    let pairs = none_earlier (pairs_misnamed outline.processes outline.processes site.processes)
    (targets_misnamed outline.processes outline.terminals) named.0 in
    let scheduled = of.scheduled (none_noted outline.events.unknown named.1) in
    let processes : AreThere outline.processes site =
    λ name. same_place (λ (entry : Named ProcessLines). bytes_eq entry.0 name)
    (λ (process : ProcessSpec). bytes_eq process.name name) d.IsProcessOf
    (λ lines process one. ap (λ (n : List ℕ). bytes_eq n name) (sym one.name)) outline.processes site.processes
    is.processes in
    let terminals : (name : List ℕ) → place_of outline.terminals name ≡ terminal_at site name =
    λ name. same_place (λ (entry : Named TerminalLines). bytes_eq entry.0 name)
    (λ (terminal : TerminalSpec). bytes_eq terminal.name name) (d.IsTerminalOf outline.processes)
    (λ lines terminal one. ap (λ (n : List ℕ). bytes_eq n name) (sym one.name)) outline.terminals site.terminals
    is.terminals in
    let mirrors : (name : List ℕ) → mirror_of outline.processes name ≡ mirror_at site name =
    same_mirror outline.processes site processes is.processes in
    let items = ap₂ (λ (count : ℕ) (rest : List Item). Says (said.Processors count) ∷ rest)
    (sym (is.processors ∙ of.processors)) (sym (body-is parts.blocks parts.events)) in record {
      short = decks.short;
      blocks = parts.blocks;
      events = parts.events;
      text = subst (AreItems (lines_of bytes)) items leads.2;
      once = of.once;
      declared = all_declared site outline.processes processes parts.blocks parts.processes parts.terminals
          site.processes site.terminals of.told
          (subst (λ (lines : List (Named ProcessLines)). d.AreProcessesOf lines site.processes) of.processes
          is.processes)
          (subst (λ (lines : List (Named TerminalLines)). d.AreTerminalsOf outline.processes lines site.terminals)
          of.terminals is.terminals)
          (subst (λ (lines : List (Named ProcessLines)). pairs_misnamed outline.processes lines site.processes ≡ None)
          of.processes pairs.0);
      scheduled =
          subst (AllZip (λ (saying : EventSaying) (told : Line). line_of site saying ≡ Some told) parts.events)
          (sym (is.lines ∙ scheduled.2))
          (lines_meant outline site processes terminals mirrors parts.events scheduled.0 scheduled.3);
      limits = deck_within bytes deck decks;
    }
