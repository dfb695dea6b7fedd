-- Lines that are gone through to their end have the parts of the grammar.
use Rattle.std.proofs.Common.{◌≡◌, ℕ, ℤ, ◌+◌, Bool, true, false, cond, nat_le, List, [], ◌∷◌, ◌++◌, length, map, Option}
use Rattle.std.proofs.Common.{Some, None, Result, Ok, Err, refl, sym, ap, ◌∙◌, subst, inl, inr, append_assoc}
use Rattle.std.proofs.Common.{append-nil}
use Rattle.std.specs.Prelude.{◌≢◌}
use Rattle.std.specs.List.{All, AllZip}
use Rattle.std.specs.Str.{bytes_eq}
use Rattle.std.specs.Cmp.Lexicographic.{bytes_decides}
use Rattle.std.proofs.lemmas.List.Elements.{All-cons, All-nil}
use Rattle.name_table.specs.Entries.{Named}
use Rattle.schedule.specs.declared.line.Line.{Line}
use Rattle.deck_lines.specs.SayingOf.{saying_of}
use Rattle.deck_lines.specs.declared.event_saying.EventSaying.{EventSaying}
use Rattle.deck_lines.specs.declared.event_saying.EventSaying.TheVariants as asked
use Rattle.deck_lines.specs.declared.saying.Placing.{Placing}
use Rattle.deck_lines.specs.declared.saying.Saying.{Saying}
use Rattle.deck_lines.specs.declared.saying.Saying.TheVariants as said
use Rattle.deck_reader.specs.EventLineOf.{event_line}
use Rattle.deck_reader.specs.LineFaults.{asks, disc_of, heading_of, outline_with, process_with, processors_of}
use Rattle.deck_reader.specs.LineFaults.{terminal_of}
use Rattle.deck_reader.specs.Outlined as o
use Rattle.deck_reader.specs.declared.line_fault.LineFault.{LineFault}
use Rattle.deck_reader.specs.declared.line_fault.LineFault.TheVariants as fault
use Rattle.deck_reader.specs.declared.outline.Body.TheVariants as body
use Rattle.deck_reader.specs.declared.outline.EventLines.{EventLines}
use Rattle.deck_reader.specs.declared.outline.Heading.{Heading}
use Rattle.deck_reader.specs.declared.outline.Outline.{Outline}
use Rattle.deck_reader.specs.declared.outline.ProcessLines.{ProcessLines}
use Rattle.deck_reader.specs.declared.outline.ProgramLines.{ProgramLines}
use Rattle.deck_reader.specs.declared.outline.Sums.{Sums}
use Rattle.deck_reader.specs.declared.outline.TerminalLines.{TerminalLines}
use Rattle.deck_reader.specs.declared.step.Stage.{Stage}
use Rattle.deck_reader.specs.declared.step.Stage.TheVariants as at
use Rattle.deck_reader.specs.declared.step.LineOutcome.{LineOutcome}
use Rattle.deck_reader.specs.declared.step.LineOutcome.TheVariants as step
use Rattle.deck_reader.specs.declared.told.Told.TheVariants as told
use Rattle.gd_words.specs.Members.{IsAmong}
use Rattle.deck_grammar.specs.Grammar.{AreItems, Block, Disc, Pair, Says, Terminal, point, text_of}
use Rattle.deck_grammar.specs.Spells.{AreDistinct, name_in}
use Rattle.deck_grammar.proofs.Added.{DiscIs, HeadingIs, ProcessorsAre, TerminalIs, disc_is, disc_with, heading_is}
use Rattle.deck_grammar.proofs.Added.{heading_with, processors_are, terminal_is, terminal_with}
use Rattle.deck_grammar.proofs.Items.{before_body, before_events, before_requests, body_items, event_items, more_text}
use Rattle.deck_grammar.proofs.Items.{program_items, request_items}
use Rattle.deck_grammar.proofs.NewNames.{AreNew, IsNew, apart, new_before_process, new_before_terminal}
use Rattle.tal_tree.specs.declared.limit.DeckLimit.TheVariants as deck_limit

-- a pair and a terminal of the outline, whatever the number of their line
abbrev pub pair_with : Heading → ProgramLines → List (List ℕ) → Named ProcessLines
pair_with heading program lines =
    process_with heading (body.Pair (record program { text = program.text ++ text_of lines }))

abbrev pub program_at : ℕ → ProgramLines
program_at number = record { line = number; text = [] }

abbrev pub with_requests : TerminalLines → List (List ℤ) → TerminalLines
with_requests terminal requests = record terminal { requests = terminal.requests ++ requests }

abbrev pub named : List ℕ → TerminalLines → Named TerminalLines
named name terminal = (name, terminal)

abbrev pub IsPairTold : Placing → List (List ℕ) → Named ProcessLines → Type 0
IsPairTold placing lines process = (number : ℕ) × All (λ line. line ≢ point) lines
    × (process ≡ pair_with (heading_with placing) (program_at number) lines)

abbrev pub IsTerminalTold : List ℕ → List ℕ → List (List ℤ) → Named TerminalLines → Type 0
IsTerminalTold name target requests terminal =
    (number : ℕ) × (terminal ≡ named name (with_requests (terminal_with number target) requests))

-- blocks are these lines of an outline
abbrev pub Told : List Block → List (Named ProcessLines) → List (Named TerminalLines) → Type 0
Told [] [] [] = Unit {0}
Told (Disc placing sectors mirrored ∷ blocks) (process ∷ processes) terminals =
    (process ≡ disc_with placing sectors mirrored) × Told blocks processes terminals
Told (Pair placing lines ∷ blocks) (process ∷ processes) terminals =
    IsPairTold placing lines process × Told blocks processes terminals
Told (Terminal name target requests ∷ blocks) processes (terminal ∷ terminals) =
    IsTerminalTold name target requests terminal × Told blocks processes terminals
Told _ _ _ = ⊥

-- where all event lines name what is there, these are the lines that they add
abbrev pub AreScheduled : EventLines → Outline → List EventSaying → Type 0
AreScheduled before final events = final.events.unknown ≡ None
    → (later : List Line) × (before.unknown ≡ None) × (final.events.lines ≡ before.lines ++ later)
    × AllZip (λ (saying : EventSaying) (line : Line). event_line final saying ≡ Some line) events later

-- what is still to come
pub record Parts : Type 0 where
  pub blocks : List Block
  pub events : List EventSaying
  pub processes : List (Named ProcessLines)
  pub terminals : List (Named TerminalLines)

-- it leads from an outline to the final one
pub record Leads (outline final : Outline) (parts : Parts) : Type 0 where
  pub told : Told parts.blocks parts.processes parts.terminals
  pub new : AreNew outline parts.blocks
  pub once : AreDistinct (map name_in parts.blocks)
  pub processors : final.processors ≡ outline.processors
  pub processes : final.processes ≡ outline.processes ++ parts.processes
  pub terminals : final.terminals ≡ outline.terminals ++ parts.terminals
  pub scheduled : AreScheduled outline.events final parts.events

some_not_none : {X : Type 0} (x : X) → Some x ≡ None → ⊥
some_not_none x e = absurd (cc)

-- an event line asks for the same, whatever event lines stood before it
line_kept : (outline : Outline) (events : EventLines) (saying : EventSaying)
    → event_line outline saying ≡ event_line (record outline { events = events }) saying
line_kept outline events (asked.Run name) = refl
line_kept outline events _ = refl

line_same : (a b : Outline) → a.processors ≡ b.processors → a.processes ≡ b.processes → a.terminals ≡ b.terminals
    → (saying : EventSaying)
    → event_line a saying ≡ event_line b saying
line_same a b p q r saying =
    let same : record a { events = b.events } ≡ b =
    λ i. record { processors = p i; processes = q i; terminals = r i; events = b.events } in
    line_kept a b.events saying ∙ ap (λ (one : Outline). event_line one saying) same

-- lines lead from a stage to the final outline
abbrev pub InBlocks : Outline → Outline → List (List ℕ) → Type 0
InBlocks outline final lines =
    (parts : Parts) × AreItems lines (body_items parts.blocks parts.events) × Leads outline final parts

abbrev pub InOpening : Outline → List (List ℕ) → Type 0
InOpening final lines = (processors : ℕ) × (parts : Parts)
    × AreItems lines (Says (said.Processors processors) ∷ body_items parts.blocks parts.events)
    × Leads (outline_with processors) final parts

abbrev pub InProgram : Outline → Result Heading LineFault → ProgramLines → Outline → List (List ℕ) → Type 0
InProgram outline heading program final lines =
    (rows : List (List ℕ)) × (parts : Parts) × (begun : Heading) × (heading ≡ Ok begun) × All (λ row. row ≢ point) rows
    × AreItems lines (program_items rows (body_items parts.blocks parts.events))
    × Leads (o.with_process outline (pair_with begun program rows)) final parts

abbrev pub InRequests : Outline → List ℕ → TerminalLines → Outline → List (List ℕ) → Type 0
InRequests outline name terminal final lines =
    (requests : List (List ℤ)) × (parts : Parts)
    × AreItems lines (request_items requests (body_items parts.blocks parts.events))
    × Leads (o.with_terminal outline name (with_requests terminal requests)) final parts

abbrev pub InSchedule : Outline → Outline → List (List ℕ) → Type 0
InSchedule outline final lines =
    (events : List EventSaying) × AreItems lines (event_items events) × (final.processors ≡ outline.processors)
    × (final.processes ≡ outline.processes) × (final.terminals ≡ outline.terminals)
    × AreScheduled outline.events final events

abbrev pub InEnded : Outline → Outline → List (List ℕ) → Type 0
InEnded outline final lines = (final ≡ outline) × AreItems lines []

abbrev pub LeadFrom : Stage → Outline → List (List ℕ) → Type 0
LeadFrom at.Opening final lines = InOpening final lines
LeadFrom (at.Blocks outline) final lines = InBlocks outline final lines
LeadFrom (at.Program outline heading program) final lines = InProgram outline heading program final lines
LeadFrom (at.Requests outline name terminal) final lines = InRequests outline name terminal final lines
LeadFrom (at.Schedule outline) final lines = InSchedule outline final lines
LeadFrom (at.Ended outline) final lines = InEnded outline final lines

abbrev LeadOn : LineOutcome → Outline → List (List ℕ) → Type 0
LeadOn (step.Next stage) final lines = LeadFrom stage final lines
LeadOn (step.Broken breach) final lines = ⊥

-- with one more process, or one more terminal, before them
abbrev more_process : Block → Named ProcessLines → Parts → Parts
more_process block process parts = record {
  blocks = block ∷ parts.blocks;
  events = parts.events;
  processes = process ∷ parts.processes;
  terminals = parts.terminals;
}

abbrev more_terminal : Block → Named TerminalLines → Parts → Parts
more_terminal block terminal parts = record {
  blocks = block ∷ parts.blocks;
  events = parts.events;
  processes = parts.processes;
  terminals = terminal ∷ parts.terminals;
}

process_leads : (outline final : Outline) (parts : Parts) (block : Block) (process : Named ProcessLines)
    → process.0 ≡ name_in block → IsNew outline (name_in block)
    → Told (block ∷ parts.blocks) (process ∷ parts.processes) parts.terminals
    → Leads (o.with_process outline process) final parts
    → Leads outline final (more_process block process parts)
process_leads outline final parts block process name new told later =
    let before = new_before_process outline process parts.blocks later.new in record {
      told = told;
      new = (new, before.0);
      once = (subst (λ (n : List ℕ). IsAmong n (map name_in parts.blocks) → ⊥) name before.1, later.once);
      processors = later.processors;
      processes = later.processes ∙ append_assoc outline.processes (process ∷ []) parts.processes;
      terminals = later.terminals;
      scheduled = later.scheduled;
    }

terminal_leads : (outline final : Outline) (parts : Parts) (name target : List ℕ) (requests : List (List ℤ))
    (terminal : TerminalLines) → IsNew outline name
    → IsTerminalTold name target requests (named name terminal)
    → Leads (o.with_terminal outline name terminal) final parts
    → Leads outline final (more_terminal (Terminal name target requests) (named name terminal) parts)
terminal_leads outline final parts name target requests terminal new told later =
    let before = new_before_terminal outline name terminal parts.blocks later.new in record {
      told = (told, later.told);
      new = (new, before.0);
      once = (before.1, later.once);
      processors = later.processors;
      processes = later.processes;
      terminals = later.terminals ∙ append_assoc outline.terminals (named name terminal ∷ []) parts.terminals;
      scheduled = later.scheduled;
    }

module _ (final : Outline) (line : List ℕ) (lines : List (List ℕ)) where
  opening_leads : (number : ℕ) (saying : Saying) → saying_of line ≡ saying
      → LeadOn (o.opening number saying) final lines → InOpening final (line ∷ lines)
  opening_leads number said.Nothing says later = (later.0, later.1, inr (says, later.2), later.3)
  opening_leads number (said.Processors count) says later = by (processors_of count) (processors_are count) later
    where
      by : (r : Result Outline LineFault) → ProcessorsAre count r → LeadOn (o.site_told number r) final lines
          → InOpening final (line ∷ lines)
      by (Err why) are later = absurd later
      by (Ok outline) are later =
          (count, later.0, inl (says, later.1), subst (λ (one : Outline). Leads one final later.0) are later.2)
  opening_leads number _ says later = absurd later

  disc_leads : (outline : Outline) (number : ℕ) (placing : Placing) (sectors : ℕ) (mirrored : Bool)
      → saying_of line ≡ said.Disc placing sectors mirrored
      → LeadOn (o.disc_told outline number (disc_of outline placing sectors mirrored)) final lines
      → InBlocks outline final (line ∷ lines)
  disc_leads outline number placing sectors mirrored says later =
      by (disc_of outline placing sectors mirrored) (disc_is outline placing sectors mirrored) later
    where
      by : (r : Result (Named ProcessLines) LineFault) → DiscIs outline placing sectors mirrored r
          → LeadOn (o.disc_told outline number r) final lines → InBlocks outline final (line ∷ lines)
      by (Err why) is later = absurd later
      by (Ok process) is later = (
        more_process (Disc placing sectors mirrored) process later.0,
        inl (says, later.1),
        process_leads outline final later.0 (Disc placing sectors mirrored) process
            (ap (λ (p : Named ProcessLines). p.0) is.0)
            is.1 (is.0, later.2.told) later.2,
      )

  pair_leads : (outline : Outline) (number : ℕ) (placing : Placing) → saying_of line ≡ said.Pair placing
      → InProgram outline (heading_of outline placing) (program_at number) final lines
      → InBlocks outline final (line ∷ lines)
  pair_leads outline number placing says later =
      let is : HeadingIs outline placing (Ok later.2) =
      subst (HeadingIs outline placing) later.3 (heading_is outline placing) in
      let process = pair_with later.2 (program_at number) later.0 in (
        more_process (Pair placing later.0) process later.1,
        inl (says, later.5),
        process_leads outline final later.1 (Pair placing later.0) process (ap (λ (h : Heading). h.name) is.0) is.1
            ((number, later.4, ap (λ (h : Heading). pair_with h (program_at number) later.0) is.0), later.6.told)
            later.6,
      )

  terminal_begins : (outline : Outline) (number : ℕ) (name target : List ℕ) → saying_of line ≡ said.Terminal name target
      → LeadOn (o.terminal_told outline number name (terminal_of outline number name target)) final lines
      → InBlocks outline final (line ∷ lines)
  terminal_begins outline number name target says later =
      by (terminal_of outline number name target) (terminal_is outline number name target) later
    where
      by : (r : Result TerminalLines LineFault) → TerminalIs outline number name target r
          → LeadOn (o.terminal_told outline number name r) final lines
          → InBlocks outline final (line ∷ lines)
      by (Err why) is later = absurd later
      by (Ok terminal) is later =
          let whole = with_requests terminal later.0 in (
            more_terminal (Terminal name target later.0) (named name whole) later.1,
            inl (says, later.2),
            terminal_leads outline final later.1 name target later.0 whole is.1
                (number, ap (λ (t : TerminalLines). named name (with_requests t later.0)) is.0) later.3,
          )

  schedule_begins : (outline : Outline) → saying_of line ≡ said.Schedule → InSchedule outline final lines
      → InBlocks outline final (line ∷ lines)
  schedule_begins outline says later = (
    record { blocks = []; events = later.0; processes = []; terminals = [] },
    inl (says, later.1),
    record {
      told = tt;
      new = tt;
      once = tt;
      processors = later.2;
      processes = later.3 ∙ sym (append-nil outline.processes);
      terminals = later.4 ∙ sym (append-nil outline.terminals);
      scheduled = later.5;
    },
  )

  blocks_lead : (outline : Outline) (number : ℕ) (saying : Saying) → saying_of line ≡ saying
      → LeadOn (o.in_blocks outline number saying) final lines
      → InBlocks outline final (line ∷ lines)
  blocks_lead outline number said.Nothing says later =
      (later.0, before_body line lines later.0.blocks later.0.events says later.1, later.2)
  blocks_lead outline number (said.Disc placing sectors mirrored) says later =
      disc_leads outline number placing sectors mirrored says later
  blocks_lead outline number (said.Pair placing) says later = pair_leads outline number placing says later
  blocks_lead outline number (said.Terminal name target) says later =
      terminal_begins outline number name target says later
  blocks_lead outline number said.Schedule says later = schedule_begins outline says later
  blocks_lead outline number _ says later = absurd later

  program_leads : (outline : Outline) (heading : Result Heading LineFault) (program : ProgramLines)
      → LeadOn (o.in_program outline heading program line) final lines
      → InProgram outline heading program final (line ∷ lines)
  program_leads outline heading program later = by (bytes_eq line point) refl later
    where
      with_text : Heading → List ℕ → Outline
      with_text begun text = o.with_process outline (process_with begun (body.Pair (record program { text = text })))

      ends : (r : Result Heading LineFault) → line ≡ point → LeadOn (o.program_ended outline r program) final lines
          → InProgram outline r program final (line ∷ lines)
      ends (Err why) same later = absurd later
      ends (Ok begun) same later = (
        [],
        later.0,
        begun,
        refl,
        All-nil (λ (row : List ℕ). row ≢ point),
        (same, later.1),
        subst (λ (text : List ℕ). Leads (with_text begun text) final later.0) (sym (append-nil program.text)) later.2,
      )

      by : (b : Bool) → bytes_eq line point ≡ b
          → LeadOn (cond b (o.program_ended outline heading program)
          (step.Next (at.Program outline heading (record program { text = program.text ++ line ++ 10 ∷ [] })))) final
          lines
          → InProgram outline heading program final (line ∷ lines)
      by true e later = ends heading ((bytes_decides line point).0 e) later
      by false e later = (
        line ∷ later.0,
        later.1,
        later.2,
        later.3,
        All-cons (λ (row : List ℕ). row ≢ point) line later.0 (apart line point e) later.4,
        (refl, later.5),
        subst (λ (text : List ℕ). Leads (with_text later.2 text) final later.1)
            (more_text program.text line (text_of later.0)) later.6,
      )

  requests_lead : (outline : Outline) (name : List ℕ) (terminal : TerminalLines) (number : ℕ) (saying : Saying)
      → saying_of line ≡ saying
      → LeadOn (o.in_requests outline name terminal number saying) final lines
      → InRequests outline name terminal final (line ∷ lines)
  requests_lead outline name terminal number said.Nothing says later =
      (later.0, later.1, before_requests line lines later.0 later.1.blocks later.1.events says later.2, later.3)
  requests_lead outline name terminal number (said.Send words) says later =
      by (nat_le 1000 (length terminal.requests)) later
    where
      with_all : Parts → List (List ℤ) → Type 0
      with_all parts requests =
          Leads (o.with_terminal outline name (record terminal { requests = requests })) final parts

      by : (b : Bool)
          → LeadOn (cond b (step.Broken (o.breach_at outline number (fault.Limit deck_limit.Requests)))
          (step.Next (at.Requests outline name (record terminal { requests = terminal.requests ++ words ∷ [] }))))
          final lines
          → InRequests outline name terminal final (line ∷ lines)
      by true later = absurd later
      by false later = (
        words ∷ later.0,
        later.1,
        inl (says, later.2),
        subst (with_all later.1) (append_assoc terminal.requests (words ∷ []) later.0) later.3,
      )
  requests_lead outline name terminal number said.LongSend says later =
      by (nat_le 1000 (length terminal.requests)) later
    where
      by : (b : Bool) → LeadOn (cond b (step.Broken (o.breach_at outline number (fault.Limit deck_limit.Requests)))
          (step.Broken (o.breach_at outline number (fault.Limit deck_limit.RequestWords)))) final lines
          → InRequests outline name terminal final (line ∷ lines)
      by true later = absurd later
      by false later = absurd later
  requests_lead outline name terminal number saying says later =
      let blocks = blocks_lead (o.with_terminal outline name terminal) number saying says later in (
        [],
        blocks.0,
        blocks.1,
        subst (λ (requests : List (List ℤ)). Leads
            (o.with_terminal outline name (record terminal { requests = requests })) final blocks.0)
            (sym (append-nil terminal.requests)) blocks.2,
      )

  event_leads : (outline : Outline) (number : ℕ) (saying : EventSaying) → saying_of line ≡ said.Event saying
      → LeadOn (o.asked outline number saying (asks outline.processors outline.events.sums saying)) final lines
      → InSchedule outline final (line ∷ lines)
  event_leads outline number saying says later = by (asks outline.processors outline.events.sums saying) later
    where
      noted : (sums : Sums) (one : Option Line) → event_line outline saying ≡ one
          → InSchedule (record outline { events = o.with_event outline.events number sums one }) final lines
          → InSchedule outline final (line ∷ lines)
      noted sums (Some added) e later = (
        saying ∷ later.0,
        inl (says, later.1),
        later.2,
        later.3,
        later.4,
        λ none.
            let rest = later.5 none in (
              added ∷ rest.0,
              rest.1,
              rest.2 ∙ append_assoc outline.events.lines (added ∷ []) rest.0,
              (line_same final outline later.2 later.3 later.4 saying ∙ e, rest.3),
            ),
      )
      noted sums None e later = (
        saying ∷ later.0,
        inl (says, later.1),
        later.2,
        later.3,
        later.4,
        λ none. absurd (some_not_none _ (later.5 none).1),
      )

      by : (r : Result Sums LineFault) → LeadOn (o.asked outline number saying r) final lines
          → InSchedule outline final (line ∷ lines)
      by (Err why) later = absurd later
      by (Ok sums) later = noted sums (event_line outline saying) refl later

  schedule_leads : (outline : Outline) (number : ℕ) (saying : Saying) → saying_of line ≡ saying
      → LeadOn (o.in_schedule outline number saying) final lines
      → InSchedule outline final (line ∷ lines)
  schedule_leads outline number said.Nothing says later =
      (later.0, before_events line lines later.0 says later.1, later.2, later.3, later.4, later.5)
  schedule_leads outline number (said.Event saying) says later = event_leads outline number saying says later
  schedule_leads outline number said.End says later = (
    [],
    inl (says, later.1),
    ap (λ (one : Outline). one.processors) later.0,
    ap (λ (one : Outline). one.processes) later.0,
    ap (λ (one : Outline). one.terminals) later.0,
    λ none. (
      [],
      sym (ap (λ (one : Outline). one.events.unknown) later.0) ∙ none,
      ap (λ (one : Outline). one.events.lines) later.0 ∙ sym (append-nil outline.events.lines),
      tt,
    ),
  )
  schedule_leads outline number _ says later = absurd later

  ended_leads : (outline : Outline) (number : ℕ) (saying : Saying) → saying_of line ≡ saying
      → LeadOn (o.ended outline number saying) final lines
      → InEnded outline final (line ∷ lines)
  ended_leads outline number said.Nothing says later = (later.0, (says, later.1))
  ended_leads outline number _ says later = absurd later

  -- so does one more line
  one_leads : (stage : Stage) (number : ℕ) → LeadOn (o.next_stage stage number line) final lines
      → LeadFrom stage final (line ∷ lines)
  one_leads at.Opening number later = opening_leads number (saying_of line) refl later
  one_leads (at.Blocks outline) number later = blocks_lead outline number (saying_of line) refl later
  one_leads (at.Program outline heading program) number later = program_leads outline heading program later
  one_leads (at.Requests outline name terminal) number later =
      requests_lead outline name terminal number (saying_of line) refl later
  one_leads (at.Schedule outline) number later = schedule_leads outline number (saying_of line) refl later
  one_leads (at.Ended outline) number later = ended_leads outline number (saying_of line) refl later

last_leads : (stage : Stage) (count : ℕ) (final : Outline) → o.at_end stage count ≡ told.Whole final
    → LeadFrom stage final []
last_leads at.Opening count final e = absurd (cc)
last_leads (at.Blocks outline) count final e = absurd (cc)
last_leads (at.Program outline (Err why) program) count final e = absurd (cc)
last_leads (at.Program outline (Ok heading) program) count final e = absurd (cc)
last_leads (at.Requests outline name terminal) count final e = absurd (cc)
last_leads (at.Schedule outline) count final e = absurd (cc)
last_leads (at.Ended outline) count final e = let same : outline ≡ final = cc in (sym same, tt)

-- where lines lead from a stage to the end, they have the parts of the grammar
pub all_lead : (stage : Stage) (count : ℕ) (lines : List (List ℕ)) (final : Outline)
    → o.told_after stage count lines ≡ told.Whole final → LeadFrom stage final lines
all_lead stage count [] final e = last_leads stage count final e
all_lead stage count (line ∷ lines) final e =
    one_leads final line lines stage (count + 1)
    (by (λ next. all_lead next (count + 1) lines final) (o.next_stage stage (count + 1) line) e)
  where
    by : ((next : Stage) → o.told_after next (count + 1) lines ≡ told.Whole final → LeadFrom next final lines)
        → (one : LineOutcome) → o.led_on (λ next. o.told_after next (count + 1) lines) one ≡ told.Whole final
        → LeadOn one final lines
    by later (step.Next next) e = later next e
    by later (step.Broken breach) e = absurd (cc)
