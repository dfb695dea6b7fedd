-- Lines that have the parts of the grammar are gone through to their end.
use Rattle.std.proofs.Common.{◌≡◌, ℕ, ℤ, ◌+◌, ◌<◌, ◌≤◌, Bool, cond, List, [], ◌∷◌, ◌++◌, length, map, Option, Some}
use Rattle.std.proofs.Common.{None, Result, Ok, refl, sym, ap, ap₂, ◌∙◌, subst, arith, inl, inr, append_assoc}
use Rattle.std.proofs.Common.{append-nil, length-append}
use Rattle.std.specs.Prelude.{◌≢◌}
use Rattle.std.specs.List.{All, AllZip}
use Rattle.std.specs.Str.{bytes_eq}
use Rattle.std.specs.Cmp.Lexicographic.{bytes_decides}
use Rattle.std.proofs.lemmas.Bool.{lt-leb}
use Rattle.std.proofs.lemmas.List.Elements.{All-head, All-tail}
use Rattle.gd_words.specs.Members.{IsAmong}
use Rattle.name_table.specs.Entries.{Named, place_of}
use Rattle.schedule.specs.declared.line.Line.{Line}
use Rattle.tal_tree.specs.declared.program.FileUse.{FileUse}
use Rattle.tal_tree.specs.declared.site.Kind.{Kind}
use Rattle.tal_tree.specs.declared.site.Kind.TheVariants as kind
use Rattle.tal_tree.specs.declared.site.ProcessSpec.{ProcessSpec}
use Rattle.tal_tree.specs.declared.site.TerminalSpec.{TerminalSpec}
use Rattle.deck_lines.specs.SayingOf.{saying_of}
use Rattle.deck_lines.specs.declared.event_saying.EventSaying.{EventSaying}
use Rattle.deck_lines.specs.declared.saying.Placing.{Placing}
use Rattle.deck_lines.specs.declared.saying.Saying.TheVariants as said
use Rattle.deck_reader.specs.Decks as d
use Rattle.deck_reader.specs.Limits.{IsProcessWithinLimits, IsTerminalWithinLimits, IsWithinDeckLimits}
use Rattle.deck_reader.specs.EventLineOf.{mirror_of}
use Rattle.deck_reader.specs.LineFaults.{heading_of, outline_with, process_with}
use Rattle.deck_reader.specs.Names.{event_misnamed, pairs_misnamed, process_misnamed, first_of}
use Rattle.deck_reader.specs.Outlined as o
use Rattle.deck_reader.specs.Schedules.{IsLineOf, rounds_of, singles_of}
use Rattle.deck_reader.specs.declared.deck.Deck.{Deck}
use Rattle.deck_reader.specs.declared.line_fault.LineFault.{LineFault}
use Rattle.deck_reader.specs.declared.line_fault.LineFault.TheVariants as fault
use Rattle.deck_reader.specs.declared.outline.Body.{Body}
use Rattle.deck_reader.specs.declared.outline.Body.TheVariants as body
use Rattle.deck_reader.specs.declared.outline.EventLines.{EventLines}
use Rattle.deck_reader.specs.declared.outline.Heading.{Heading}
use Rattle.deck_reader.specs.declared.outline.Outline.{Outline}
use Rattle.deck_reader.specs.declared.outline.ProcessLines.{ProcessLines}
use Rattle.deck_reader.specs.declared.outline.ProgramLines.{ProgramLines}
use Rattle.deck_reader.specs.declared.outline.TerminalLines.{TerminalLines}
use Rattle.deck_reader.specs.declared.step.Stage.{Stage}
use Rattle.deck_reader.specs.declared.step.Stage.TheVariants as at
use Rattle.deck_reader.specs.declared.step.LineOutcome.{LineOutcome}
use Rattle.deck_reader.specs.declared.step.LineOutcome.TheVariants as step
use Rattle.deck_reader.specs.declared.told.Told.TheVariants as told
use Rattle.deck_reader.proofs.DeckLimits.{same_length}
use Rattle.deck_reader.proofs.EachLemmas.{each_more}
use Rattle.deck_reader.proofs.NameLemmas.{found_in}
use Rattle.deck_grammar.specs.Grammar.{AreItems, Block, Disc, Pair, Says, Terminal, point, text_of}
use Rattle.deck_grammar.specs.Spells.{AreDistinct, Declare, MayOpen, line_of, mirror_at, name_in, placed}
use Rattle.deck_grammar.specs.Spells.{process_at, terminal_at}
use Rattle.deck_grammar.proofs.Added.{disc_added, disc_with, heading_added, heading_with, processors_added}
use Rattle.deck_grammar.proofs.Added.{terminal_added, terminal_with}
use Rattle.deck_grammar.proofs.Items.{StartsWith, after_first, body_items, body_starts, event_items, first_saying}
use Rattle.deck_grammar.proofs.Items.{more_text, no_body, no_events as no_event_items, no_program, no_requests}
use Rattle.deck_grammar.proofs.Items.{program_items, request_items}
use Rattle.deck_grammar.proofs.Looked.{AreThere, each_so, open_files, same_mirror, same_place}
use Rattle.deck_grammar.proofs.NewNames.{AreNew, IsNew, differ, new_after_process, new_after_terminal}
use Rattle.deck_grammar.proofs.Parsed.{named, pair_with, program_at, with_requests}
use Rattle.deck_grammar.proofs.Played.{line_added}
use Rattle.tal_tree.specs.declared.limit.DeckLimit.TheVariants as deck_limit

abbrev no_lines : EventLines
no_lines = record { lines = []; sums = record { singles = 0; rounds = 0 }; unknown = None }

-- what a program opens may be opened
abbrev pub Opens : Deck → List ℕ → Kind → Type 0
Opens deck own (kind.Disc sectors mirrored) = Unit {0}
Opens deck own (kind.Pair program) = All (λ (file : FileUse). MayOpen deck.site own file.target) program.files

abbrev pub IsProcessSaid : Deck → Named ProcessLines → ProcessSpec → Type 0
IsProcessSaid deck lines process = d.IsProcessOf lines process × Opens deck lines.0 process.what

abbrev pub IsTerminalSaid : Deck → Named TerminalLines → TerminalSpec → Type 0
IsTerminalSaid deck lines terminal =
    (terminal.name ≡ lines.0) × (process_at deck.site lines.1.target ≡ Some terminal.target)
    × (terminal.requests ≡ lines.1.requests)

-- the outline has the processes and the terminals of the deck but these
pub record Holds (deck : Deck) (outline : Outline) (processes : List ProcessSpec) (terminals : List TerminalSpec) :
    Type 0 where
  pub processors : outline.processors ≡ deck.site.processors
  pub done : List ProcessSpec
  pub whole : deck.site.processes ≡ done ++ processes
  pub each : d.EachWith (IsProcessSaid deck) outline.processes done
  pub done_terminals : List TerminalSpec
  pub whole_terminals : deck.site.terminals ≡ done_terminals ++ terminals
  pub each_terminal : d.EachWith (IsTerminalSaid deck) outline.terminals done_terminals

-- the blocks that are to come fit it
pub record Fits (deck : Deck) (outline : Outline) (blocks : List Block) (processes : List ProcessSpec)
    (terminals : List TerminalSpec) : Type 0 where
  pub declared : Declare deck.site blocks processes terminals
  pub new : AreNew outline blocks
  pub once : AreDistinct (map name_in blocks)
  pub holds : Holds deck outline processes terminals
  pub none : outline.events ≡ no_lines

abbrev pub AreAsked : Deck → List EventSaying → List Line → Type 0
AreAsked deck events lines =
    AllZip (λ (saying : EventSaying) (told : Line). line_of deck.site saying ≡ Some told) events lines

-- the event lines that are to come fit it
pub record FitsEvents (deck : Deck) (outline : Outline) (events : List EventSaying) (lines : List Line) : Type 0 where
  pub each : AreAsked deck events lines
  pub holds : Holds deck outline [] []
  pub whole : deck.lines ≡ outline.events.lines ++ lines
  pub unknown : outline.events.unknown ≡ None
  pub singles : outline.events.sums.singles + singles_of lines ≤ 1000000
  pub rounds : outline.events.sums.rounds + rounds_of lines ≤ 100000

abbrev pub ReadyBlocks : Deck → Outline → List (List ℕ) → Type 0
ReadyBlocks deck outline lines = (blocks : List Block) × (processes : List ProcessSpec)
    × (terminals : List TerminalSpec) × (events : List EventSaying)
    × AreItems lines (body_items blocks events) × Fits deck outline blocks processes terminals
    × AreAsked deck events deck.lines

abbrev pub ReadyOpening : Deck → List (List ℕ) → Type 0
ReadyOpening deck lines = (blocks : List Block) × (processes : List ProcessSpec) × (terminals : List TerminalSpec)
    × (events : List EventSaying)
    × AreItems lines (Says (said.Processors deck.site.processors) ∷ body_items blocks events)
    × Fits deck (outline_with deck.site.processors) blocks processes terminals
    × AreAsked deck events deck.lines

abbrev pub ReadyProgram : Deck → Outline → Result Heading LineFault → ProgramLines → List (List ℕ) → Type 0
ReadyProgram deck outline heading program lines =
    (blocks : List Block) × (processes : List ProcessSpec) × (terminals : List TerminalSpec)
    × (events : List EventSaying)
    × (rows : List (List ℕ)) × (begun : Heading) × (heading ≡ Ok begun) × All (λ row. row ≢ point) rows
    × AreItems lines (program_items rows (body_items blocks events))
    × Fits deck (o.with_process outline (pair_with begun program rows)) blocks processes terminals
    × AreAsked deck events deck.lines

abbrev pub ReadyRequests : Deck → Outline → List ℕ → TerminalLines → List (List ℕ) → Type 0
ReadyRequests deck outline name terminal lines =
    (blocks : List Block) × (processes : List ProcessSpec) × (terminals : List TerminalSpec)
    × (events : List EventSaying)
    × (requests : List (List ℤ)) × (length terminal.requests + length requests ≤ 1000)
    × AreItems lines (request_items requests (body_items blocks events))
    × Fits deck (o.with_terminal outline name (with_requests terminal requests)) blocks processes terminals
    × AreAsked deck events deck.lines

abbrev pub ReadySchedule : Deck → Outline → List (List ℕ) → Type 0
ReadySchedule deck outline lines = (events : List EventSaying) × (asked : List Line)
    × AreItems lines (event_items events) × FitsEvents deck outline events asked

-- a stage from which lines lead to the deck
abbrev pub Ready : Deck → Stage → List (List ℕ) → Type 0
Ready deck at.Opening lines = ReadyOpening deck lines
Ready deck (at.Blocks outline) lines = ReadyBlocks deck outline lines
Ready deck (at.Program outline heading program) lines = ReadyProgram deck outline heading program lines
Ready deck (at.Requests outline name terminal) lines = ReadyRequests deck outline name terminal lines
Ready deck (at.Schedule outline) lines = ReadySchedule deck outline lines
Ready deck (at.Ended outline) lines = d.IsDeckOf outline deck × AreItems lines []

-- a step to such a stage
abbrev pub GoesOn : Deck → List (List ℕ) → LineOutcome → Type 0
GoesOn deck lines one = (next : Stage) × (one ≡ step.Next next) × Ready deck next lines

-- what holds of each holds of the one that stands there
middle : {X : Type 0} (P : X → Type 0) (front : List X) (one : X) (rest : List X) → All P (front ++ one ∷ rest) → P one
middle P [] one rest all = All-head P one rest all
middle P (x ∷ front) one rest all = middle P front one rest (All-tail P x (front ++ one ∷ rest) all)

process_fits : (deck : Deck) (outline : Outline) (block : Block) (blocks : List Block) (process : ProcessSpec)
    (processes : List ProcessSpec) (terminals : List TerminalSpec)
    (lines : Named ProcessLines) → lines.0 ≡ name_in block → IsProcessSaid deck lines process
    → Declare deck.site blocks processes terminals
    → Fits deck outline (block ∷ blocks) (process ∷ processes) terminals
    → Fits deck (o.with_process outline lines) blocks processes terminals
process_fits deck outline block blocks process processes terminals lines same said declared fits = record {
  declared = declared;
  new = new_after_process outline lines blocks fits.new.1
      (subst (λ (name : List ℕ). IsAmong name (map name_in blocks) → ⊥) (sym same) fits.once.0);
  once = fits.once.1;
  holds = record {
    processors = fits.holds.processors;
    done = fits.holds.done ++ process ∷ [];
    whole = fits.holds.whole ∙ sym (append_assoc fits.holds.done (process ∷ []) processes);
    each = each_more (IsProcessSaid deck) outline.processes fits.holds.done lines process fits.holds.each said;
    done_terminals = fits.holds.done_terminals;
    whole_terminals = fits.holds.whole_terminals;
    each_terminal = fits.holds.each_terminal;
  };
  none = fits.none;
}

terminal_fits : (deck : Deck) (outline : Outline) (name target : List ℕ) (requests : List (List ℤ))
    (blocks : List Block) (processes : List ProcessSpec) (terminal : TerminalSpec)
    (terminals : List TerminalSpec) (lines : TerminalLines) → IsTerminalSaid deck (named name lines) terminal
    → Declare deck.site blocks processes terminals
    → Fits deck outline (Terminal name target requests ∷ blocks) processes (terminal ∷ terminals)
    → Fits deck (o.with_terminal outline name lines) blocks processes terminals
terminal_fits deck outline name target requests blocks processes terminal terminals lines said declared fits = record {
  declared = declared;
  new = new_after_terminal outline name lines blocks fits.new.1 fits.once.0;
  once = fits.once.1;
  holds = record {
    processors = fits.holds.processors;
    done = fits.holds.done;
    whole = fits.holds.whole;
    each = fits.holds.each;
    done_terminals = fits.holds.done_terminals ++ terminal ∷ [];
    whole_terminals =
        fits.holds.whole_terminals ∙ sym (append_assoc fits.holds.done_terminals (terminal ∷ []) terminals);
    each_terminal = each_more (IsTerminalSaid deck) outline.terminals fits.holds.done_terminals (named name lines)
        terminal fits.holds.each_terminal said;
  };
  none = fits.none;
}

-- event lines leave the processes and the terminals as they are
holds_still : (deck : Deck) (outline : Outline) (events : EventLines) → Holds deck outline [] []
    → Holds deck (record outline { events = events }) [] []
holds_still deck outline events holds = record {
  processors = holds.processors;
  done = holds.done;
  whole = holds.whole;
  each = holds.each;
  done_terminals = holds.done_terminals;
  whole_terminals = holds.whole_terminals;
  each_terminal = holds.each_terminal;
}

-- where all blocks have come, the outline has the deck's processes and terminals
module _ (deck : Deck) (outline : Outline) (holds : Holds deck outline [] []) where
  each_process : d.EachWith (IsProcessSaid deck) outline.processes deck.site.processes
  each_process =
      subst (d.EachWith (IsProcessSaid deck) outline.processes) (sym (holds.whole ∙ append-nil holds.done)) holds.each

  each_terminal : d.EachWith (IsTerminalSaid deck) outline.terminals deck.site.terminals
  each_terminal = subst (d.EachWith (IsTerminalSaid deck) outline.terminals)
      (sym (holds.whole_terminals ∙ append-nil holds.done_terminals)) holds.each_terminal

  processes_there : AreThere outline.processes deck.site
  processes_there name =
      same_place (λ (entry : Named ProcessLines). bytes_eq entry.0 name)
      (λ (process : ProcessSpec). bytes_eq process.name name) (IsProcessSaid deck)
      (λ lines process one. ap (λ (n : List ℕ). bytes_eq n name) (sym one.0.name)) outline.processes
      deck.site.processes each_process

  terminals_there : (name : List ℕ) → place_of outline.terminals name ≡ terminal_at deck.site name
  terminals_there name =
      same_place (λ (entry : Named TerminalLines). bytes_eq entry.0 name)
      (λ (terminal : TerminalSpec). bytes_eq terminal.name name) (IsTerminalSaid deck)
      (λ lines terminal one. ap (λ (n : List ℕ). bytes_eq n name) (sym one.0)) outline.terminals deck.site.terminals
      each_terminal

  mirrors_there : (name : List ℕ) → mirror_of outline.processes name ≡ mirror_at deck.site name
  mirrors_there =
      same_mirror outline.processes deck.site processes_there
      (each_so (IsProcessSaid deck) d.IsProcessOf (λ lines process said. said.0) outline.processes
      deck.site.processes each_process)

  file_fine : (own : List ℕ) (lines : Body) (what : Kind) → Opens deck own what
      → process_misnamed outline.processes own lines what ≡ None
  file_fine own (body.Disc sectors mirrored) what opens = refl
  file_fine own (body.Pair lines) (kind.Disc sectors mirrored) opens = refl
  file_fine own (body.Pair lines) (kind.Pair program) opens =
      open_files outline.processes deck.site processes_there own lines.line program.files opens

  pairs_fine : (lines : List (Named ProcessLines)) (processes : List ProcessSpec)
      → d.EachWith (IsProcessSaid deck) lines processes
      → pairs_misnamed outline.processes lines processes ≡ None
  pairs_fine [] [] each = refl
  pairs_fine (one ∷ lines) (process ∷ processes) each =
      ap₂ first_of (file_fine one.0 one.1.body process.what each.0.1) (pairs_fine lines processes each.1)
  pairs_fine [] (process ∷ processes) each = absurd each
  pairs_fine (one ∷ lines) [] each = absurd each

  -- it is the outline of the deck, where its event lines are the deck's too
  deck_held : deck.lines ≡ outline.events.lines → outline.events.unknown ≡ None → d.IsDeckOf outline deck
  deck_held lines unknown =
      let terminals = each_so (IsTerminalSaid deck) (d.IsTerminalOf outline.processes)
      (λ entry terminal one. record {
        name = one.0;
        target = processes_there entry.1.target ∙ one.1;
        requests = one.2;
      }) outline.terminals deck.site.terminals each_terminal in
      record {
        processors = sym holds.processors;
        processes = each_so (IsProcessSaid deck) d.IsProcessOf (λ entry process one. one.0) outline.processes
            deck.site.processes each_process;
        terminals = terminals;
        lines = lines;
        named = found_in outline deck.site.processes deck.site.terminals None None None terminals
            (sym (pairs_fine outline.processes deck.site.processes each_process))
            (sym (ap event_misnamed unknown)) refl;
      }

module _ (deck : Deck) (limits : IsWithinDeckLimits deck) where
  process_within : (outline : Outline) (process : ProcessSpec) (processes : List ProcessSpec)
      (terminals : List TerminalSpec) → Holds deck outline (process ∷ processes) terminals
      → IsProcessWithinLimits deck.site.processors process × (length outline.processes < 16)
  process_within outline process processes terminals holds = (
    middle (IsProcessWithinLimits deck.site.processors) holds.done process processes
        (subst (All (IsProcessWithinLimits deck.site.processors)) holds.whole limits.site.each_process),
    omega (
      arith,
      limits.site.processes,
      ap (λ (xs : List ProcessSpec). length xs) holds.whole,
      length-append holds.done (process ∷ processes),
      same_length (IsProcessSaid deck) outline.processes holds.done holds.each,
    ),
  )

  terminal_within : (outline : Outline) (terminal : TerminalSpec) (processes : List ProcessSpec)
      (terminals : List TerminalSpec) → Holds deck outline processes (terminal ∷ terminals)
      → IsTerminalWithinLimits (length deck.site.processes) terminal × (length outline.terminals < 16)
  terminal_within outline terminal processes terminals holds = (
    middle (IsTerminalWithinLimits (length deck.site.processes)) holds.done_terminals terminal terminals
        (subst (All (IsTerminalWithinLimits (length deck.site.processes))) holds.whole_terminals
        limits.site.each_terminal),
    omega (
      arith,
      limits.site.terminals,
      ap (λ (xs : List TerminalSpec). length xs) holds.whole_terminals,
      length-append holds.done_terminals (terminal ∷ terminals),
      same_length (IsTerminalSaid deck) outline.terminals holds.done_terminals holds.each_terminal,
    ),
  )

  heading_fits : (outline : Outline) (placing : Placing) (what : Kind) (process : ProcessSpec)
      (processes : List ProcessSpec) (terminals : List TerminalSpec)
      → process ≡ placed placing what → IsNew outline placing.name → Holds deck outline (process ∷ processes) terminals
      → heading_of outline placing ≡ Ok (heading_with placing)
  heading_fits outline placing what process processes terminals same new holds =
      let within = process_within outline process processes terminals holds in
      let of : IsProcessWithinLimits deck.site.processors (placed placing what) =
      subst (IsProcessWithinLimits deck.site.processors) same within.0 in
      heading_added outline placing new (omega (arith, of.primary, holds.processors))
      (omega (arith, of.backup, holds.processors)) of.apart within.1

  -- the first line of blocks leads to what follows it
  blocks_go : (outline : Outline) (number : ℕ) (lines : List (List ℕ)) (blocks : List Block)
      (processes : List ProcessSpec) (terminals : List TerminalSpec) (events : List EventSaying)
      → AreItems lines (after_first blocks events) → Fits deck outline blocks processes terminals
      → AreAsked deck events deck.lines
      → GoesOn deck lines (o.in_blocks outline number (first_saying blocks))
  blocks_go outline number lines [] [] [] events are fits asked = (
    at.Schedule outline,
    refl,
    (
      events,
      deck.lines,
      are,
      record {
        each = asked;
        holds = fits.holds;
        whole = sym (ap (λ (e : EventLines). e.lines ++ deck.lines) fits.none);
        unknown = ap (λ (e : EventLines). e.unknown) fits.none;
        singles = omega (arith, limits.singles, ap (λ (e : EventLines). e.sums.singles) fits.none);
        rounds = omega (arith, limits.rounds, ap (λ (e : EventLines). e.sums.rounds) fits.none);
      },
    ),
  )
  blocks_go outline number lines [] (process ∷ processes) terminals events are fits asked = absurd fits.declared
  blocks_go outline number lines [] [] (terminal ∷ terminals) events are fits asked = absurd fits.declared
  blocks_go outline number lines (Disc placing sectors mirrored ∷ blocks) [] terminals events are fits asked =
      absurd fits.declared
  blocks_go outline number lines (Disc placing sectors mirrored ∷ blocks) (process ∷ processes) terminals events are
      fits asked =
      let same = fits.declared.0 in
      let one = disc_with placing sectors mirrored in
      let within : IsProcessWithinLimits deck.site.processors (placed placing (kind.Disc sectors mirrored)) =
      subst (IsProcessWithinLimits deck.site.processors) same
      (process_within outline process processes terminals fits.holds).0 in
      let heading =
      heading_fits outline placing (kind.Disc sectors mirrored) process processes terminals same fits.new.0
      fits.holds in
      let said : IsProcessSaid deck one process =
      subst (IsProcessSaid deck one) (sym same)
      (record { name = refl; primary = refl; backup = refl; what = (refl, refl) }, tt) in (
        at.Blocks (o.with_process outline one),
        ap (o.disc_told outline number) (disc_added outline placing sectors mirrored heading within.what.0
            within.what.1),
        (
          blocks,
          processes,
          terminals,
          events,
          are,
          process_fits deck outline (Disc placing sectors mirrored) blocks process processes terminals one refl said
              fits.declared.1 fits,
          asked,
        ),
      )
  blocks_go outline number lines (Pair placing rows ∷ blocks) [] terminals events are fits asked = absurd fits.declared
  blocks_go outline number lines (Pair placing rows ∷ blocks) (process ∷ processes) terminals events are fits asked =
      let of = fits.declared.0 in
      let one = pair_with (heading_with placing) (program_at number) rows in
      let said : IsProcessSaid deck one process =
      subst (IsProcessSaid deck one) (sym of.same)
      (record { name = refl; primary = refl; backup = refl; what = of.reads }, of.opens) in (
        at.Program outline (heading_of outline placing) (program_at number),
        refl,
        (
          blocks,
          processes,
          terminals,
          events,
          rows,
          heading_with placing,
          heading_fits outline placing (kind.Pair of.program) process processes terminals of.same fits.new.0 fits.holds,
          of.before_point,
          are,
          process_fits deck outline (Pair placing rows) blocks process processes terminals one refl said
              fits.declared.1 fits,
          asked,
        ),
      )
  blocks_go outline number lines (Terminal name target requests ∷ blocks) processes [] events are fits asked =
      absurd fits.declared
  blocks_go outline number lines (Terminal name target requests ∷ blocks) processes (terminal ∷ terminals) events are
      fits asked =
      let of = fits.declared.0 in
      let within = terminal_within outline terminal processes terminals fits.holds in
      let begun = terminal_with number target in (
        at.Requests outline name begun,
        ap (o.terminal_told outline number name) (terminal_added outline number name target fits.new.0 within.1),
        (
          blocks,
          processes,
          terminals,
          events,
          requests,
          omega (arith, within.0.requests, ap (λ (all : List (List ℤ)). length all) of.sends),
          are,
          terminal_fits deck outline name target requests blocks processes terminal terminals
              (with_requests begun requests) (of.named, of.asks, of.sends) fits.declared.1 fits,
          asked,
        ),
      )

  module _ (line : List ℕ) (lines : List (List ℕ)) where
    opening_goes : (number : ℕ) → ReadyOpening deck (line ∷ lines)
        → GoesOn deck lines (o.opening number (saying_of line))
    opening_goes number ready = by ready.4
      where
        by : StartsWith line lines (said.Processors deck.site.processors) (body_items ready.0 ready.3)
            (Says (said.Processors deck.site.processors) ∷ body_items ready.0 ready.3)
            → GoesOn deck lines (o.opening number (saying_of line))
        by (inl first) = (
          at.Blocks (outline_with deck.site.processors),
          ap (o.opening number) first.0 ∙ ap (o.site_told number)
              (processors_added deck.site.processors limits.site.fewest_processors limits.site.most_processors),
          (ready.0, ready.1, ready.2, ready.3, first.1, ready.5, ready.6),
        )
        by (inr silent) = (
          at.Opening,
          ap (o.opening number) silent.0,
          (ready.0, ready.1, ready.2, ready.3, silent.1, ready.5, ready.6),
        )

    body_goes : (outline : Outline) (number : ℕ) → ReadyBlocks deck outline (line ∷ lines)
        → GoesOn deck lines (o.in_blocks outline number (saying_of line))
    body_goes outline number ready = by (body_starts line lines ready.0 ready.3 ready.4)
      where
        by : StartsWith line lines (first_saying ready.0) (after_first ready.0 ready.3) (body_items ready.0 ready.3)
            → GoesOn deck lines (o.in_blocks outline number (saying_of line))
        by (inl first) =
            let later = blocks_go outline number lines ready.0 ready.1 ready.2 ready.3 first.1 ready.5 ready.6 in
            (later.0, ap (o.in_blocks outline number) first.0 ∙ later.1, later.2)
        by (inr silent) = (
          at.Blocks outline,
          ap (o.in_blocks outline number) silent.0,
          (ready.0, ready.1, ready.2, ready.3, silent.1, ready.5, ready.6),
        )

    program_goes : (outline : Outline) (heading : Result Heading LineFault) (program : ProgramLines)
        (blocks : List Block) (processes : List ProcessSpec) (terminals : List TerminalSpec)
        (events : List EventSaying) (rows : List (List ℕ)) (begun : Heading) → heading ≡ Ok begun
        → All (λ row. row ≢ point) rows
        → AreItems (line ∷ lines) (program_items rows (body_items blocks events))
        → Fits deck (o.with_process outline (pair_with begun program rows)) blocks processes terminals
        → AreAsked deck events deck.lines → GoesOn deck lines (o.in_program outline heading program line)
    program_goes outline heading program blocks processes terminals events [] begun same before are fits asked =
        let ends = (bytes_decides line point).1 are.0 in
        let with_text : List ℕ → Outline =
        λ text. o.with_process outline (process_with begun (body.Pair (record program { text = text }))) in (
          at.Blocks (o.with_process outline (process_with begun (body.Pair program))),
          ap (λ (c : Bool). cond c (o.program_ended outline heading program)
              (step.Next (at.Program outline heading (record program { text = program.text ++ line ++ 10 ∷ [] })))) ends
              ∙ ap (λ (h : Result Heading LineFault). o.program_ended outline h program) same,
          (
            blocks,
            processes,
            terminals,
            events,
            are.1,
            subst (λ (text : List ℕ). Fits deck (with_text text) blocks processes terminals) (append-nil program.text)
                fits,
            asked,
          ),
        )
    program_goes outline heading program blocks processes terminals events (row ∷ rows) begun same before are fits
        asked =
        let goes = differ line point (λ ends. All-head (λ (one : List ℕ). one ≢ point) row rows before
        (sym are.0 ∙ ends)) in
        let with_text : List ℕ → Outline =
        λ text. o.with_process outline (process_with begun (body.Pair (record program { text = text }))) in
        let texts = more_text program.text line (text_of rows)
        ∙ ap (λ (l : List ℕ). program.text ++ ((l ++ 10 ∷ []) ++ text_of rows)) are.0 in (
          at.Program outline heading (record program { text = program.text ++ line ++ 10 ∷ [] }),
          ap (λ (c : Bool). cond c (o.program_ended outline heading program)
              (step.Next (at.Program outline heading (record program { text = program.text ++ line ++ 10 ∷ [] }))))
              goes,
          (
            blocks,
            processes,
            terminals,
            events,
            rows,
            begun,
            same,
            All-tail (λ (one : List ℕ). one ≢ point) row rows before,
            are.1,
            subst (λ (text : List ℕ). Fits deck (with_text text) blocks processes terminals) (sym texts) fits,
            asked,
          ),
        )

    -- what follows the requests begins as it would without them
    after_requests : (outline : Outline) (name : List ℕ) (terminal : TerminalLines) (number : ℕ) (blocks : List Block)
        → o.in_requests outline name terminal number (first_saying blocks)
        ≡ o.in_blocks (o.with_terminal outline name terminal) number (first_saying blocks)
    after_requests outline name terminal number [] = refl
    after_requests outline name terminal number (Disc placing sectors mirrored ∷ blocks) = refl
    after_requests outline name terminal number (Pair placing rows ∷ blocks) = refl
    after_requests outline name terminal number (Terminal other target requests ∷ blocks) = refl

    requests_go : (outline : Outline) (name : List ℕ) (terminal : TerminalLines) (number : ℕ) (blocks : List Block)
        (processes : List ProcessSpec) (terminals : List TerminalSpec)
        (events : List EventSaying) (requests : List (List ℤ)) → length terminal.requests + length requests ≤ 1000
        → AreItems (line ∷ lines) (request_items requests (body_items blocks events))
        → Fits deck (o.with_terminal outline name (with_requests terminal requests)) blocks processes terminals
        → AreAsked deck events deck.lines → GoesOn deck lines
        (o.in_requests outline name terminal number (saying_of line))
    requests_go outline name terminal number blocks processes terminals events [] room are fits asked =
        by (body_starts line lines blocks events are)
      where
        with_all : List (List ℤ) → Type 0
        with_all requests = Fits deck (o.with_terminal outline name (record terminal { requests = requests })) blocks
            processes terminals

        by : StartsWith line lines (first_saying blocks) (after_first blocks events) (body_items blocks events)
            → GoesOn deck lines (o.in_requests outline name terminal number (saying_of line))
        by (inl first) =
            let later = blocks_go (o.with_terminal outline name terminal) number lines blocks processes terminals
            events first.1 (subst with_all (append-nil terminal.requests) fits) asked in (
              later.0,
              ap (o.in_requests outline name terminal number) first.0
                  ∙ after_requests outline name terminal number blocks ∙ later.1,
              later.2,
            )
        by (inr silent) = (
          at.Requests outline name terminal,
          ap (o.in_requests outline name terminal number) silent.0,
          (blocks, processes, terminals, events, [], room, silent.1, fits, asked),
        )
    requests_go outline name terminal number blocks processes terminals events (words ∷ requests) room (inl first) fits
        asked =
        let full = lt-leb 1000 (length terminal.requests) (omega (arith, room)) in
        let next : TerminalLines = record terminal { requests = terminal.requests ++ words ∷ [] } in (
          at.Requests outline name next,
          ap (o.in_requests outline name terminal number) first.0
              ∙ ap (λ (c : Bool). cond c (step.Broken (o.breach_at outline number (fault.Limit deck_limit.Requests)))
              (step.Next (at.Requests outline name next))) full,
          (
            blocks,
            processes,
            terminals,
            events,
            requests,
            omega (arith, room, length-append terminal.requests (words ∷ [])),
            first.1,
            subst (λ (all : List (List ℤ)). Fits deck
                (o.with_terminal outline name (record terminal { requests = all })) blocks processes terminals)
                (sym (append_assoc terminal.requests (words ∷ []) requests)) fits,
            asked,
          ),
        )
    requests_go outline name terminal number blocks processes terminals events (words ∷ requests) room (inr silent)
        fits asked = (
          at.Requests outline name terminal,
          ap (o.in_requests outline name terminal number) silent.0,
          (blocks, processes, terminals, events, words ∷ requests, room, silent.1, fits, asked),
        )

    events_go : (outline : Outline) (number : ℕ) (events : List EventSaying) (asked : List Line)
        → AreItems (line ∷ lines) (event_items events) → FitsEvents deck outline events asked
        → GoesOn deck lines (o.in_schedule outline number (saying_of line))
    events_go outline number [] [] (inl first) fits = (
      at.Ended outline,
      ap (o.in_schedule outline number) first.0,
      (deck_held deck outline fits.holds (fits.whole ∙ append-nil outline.events.lines) fits.unknown, first.1),
    )
    events_go outline number [] [] (inr silent) fits =
        (at.Schedule outline, ap (o.in_schedule outline number) silent.0, ([], [], silent.1, fits))
    events_go outline number [] (told ∷ asked) are fits = absurd fits.each
    events_go outline number (saying ∷ events) [] are fits = absurd fits.each
    events_go outline number (saying ∷ events) (told ∷ asked) (inl first) fits =
        let of : IsLineOf deck.site.processors (length deck.site.processes) (length deck.site.terminals) told =
        middle (IsLineOf deck.site.processors (length deck.site.processes) (length deck.site.terminals))
        outline.events.lines told asked
        (subst (All (IsLineOf deck.site.processors (length deck.site.processes) (length deck.site.terminals)))
        fits.whole limits.each_line) in
        let added = line_added outline deck.site outline.events.sums fits.holds.processors
        (processes_there deck outline fits.holds) (terminals_there deck outline fits.holds)
        (mirrors_there deck outline fits.holds) saying told fits.each.0 of (omega (arith, fits.singles))
        (omega (arith, fits.rounds)) in
        let next : EventLines = record {
          lines = outline.events.lines ++ told ∷ [];
          sums = added.1.0;
          unknown = outline.events.unknown;
        } in (
          at.Schedule (record outline { events = next }),
          ap (o.in_schedule outline number) first.0 ∙ ap (o.asked outline number saying) added.1.1
              ∙ ap (λ (one : Option Line). step.Next (at.Schedule
              (record outline { events = o.with_event outline.events number added.1.0 one }))) added.0,
          (
            events,
            asked,
            first.1,
            record {
              each = fits.each.1;
              holds = holds_still deck outline next fits.holds;
              whole = fits.whole ∙ sym (append_assoc outline.events.lines (told ∷ []) asked);
              unknown = fits.unknown;
              singles = omega (arith, fits.singles, added.1.2);
              rounds = omega (arith, fits.rounds, added.1.3);
            },
          ),
        )
    events_go outline number (saying ∷ events) (told ∷ asked) (inr silent) fits = (
      at.Schedule outline,
      ap (o.in_schedule outline number) silent.0,
      (saying ∷ events, told ∷ asked, silent.1, fits),
    )

    -- one more line
    one_goes : (stage : Stage) (number : ℕ) → Ready deck stage (line ∷ lines)
        → GoesOn deck lines (o.next_stage stage number line)
    one_goes at.Opening number ready = opening_goes number ready
    one_goes (at.Blocks outline) number ready = body_goes outline number ready
    one_goes (at.Program outline heading program) number ready =
        program_goes outline heading program ready.0 ready.1 ready.2 ready.3 ready.4 ready.5 ready.6 ready.7 ready.8
        ready.9 ready.10
    one_goes (at.Requests outline name terminal) number ready =
        requests_go outline name terminal number ready.0 ready.1 ready.2 ready.3 ready.4 ready.5 ready.6 ready.7 ready.8
    one_goes (at.Schedule outline) number ready = events_go outline number ready.0 ready.1 ready.2 ready.3
    one_goes (at.Ended outline) number ready =
        (at.Ended outline, ap (o.ended outline number) ready.1.0, (ready.0, ready.1.1))

  -- no more lines
  none_left : (stage : Stage) (count : ℕ) → Ready deck stage []
      → (outline : Outline) × (o.at_end stage count ≡ told.Whole outline) × d.IsDeckOf outline deck
  none_left at.Opening count ready = absurd ready.4
  none_left (at.Blocks outline) count ready = absurd (no_body ready.0 ready.3 ready.4)
  none_left (at.Program outline heading program) count ready =
      absurd (no_program ready.4 (body_items ready.0 ready.3) ready.8)
  none_left (at.Requests outline name terminal) count ready = absurd (no_requests ready.4 ready.0 ready.3 ready.6)
  none_left (at.Schedule outline) count ready = absurd (no_event_items ready.0 ready.2)
  none_left (at.Ended outline) count ready = (outline, refl, ready.0)

  -- where the grammar's lines are still to come, the outline at their end is that of the deck
  pub all_go : (stage : Stage) (count : ℕ) (lines : List (List ℕ)) → Ready deck stage lines
      → (outline : Outline) × (o.told_after stage count lines ≡ told.Whole outline) × d.IsDeckOf outline deck
  all_go stage count [] ready = none_left stage count ready
  all_go stage count (line ∷ lines) ready =
      let one = one_goes line lines stage (count + 1) ready in
      let later = all_go one.0 (count + 1) lines one.2 in
      (later.0, ap (o.led_on (λ next. o.told_after next (count + 1) lines)) one.1 ∙ later.1, later.2)
