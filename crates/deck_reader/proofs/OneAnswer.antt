-- Bytes spell one deck, or are refused for one fault.
use Rattle.std.proofs.Common.{◌≡◌, ◌<◌, ◌≤◌, ℕ, List, [], ◌∷◌, length, Option, Some, None, option_map, refl, sym, ap}
use Rattle.std.proofs.Common.{ap₂, ◌∙◌, subst, arith, inl, inr, ℤ}
use Rattle.std.specs.Prelude.{◌⊎◌}
use Rattle.name_table.specs.Entries.{Named}
use Rattle.schedule.specs.declared.line.Line.{Line}
use Rattle.tal_laws.specs.tal_reader.proofs.Reading.{one-fault}
use Rattle.tal_tree.specs.declared.fault.DeckFault.{DeckFault}
use Rattle.tal_tree.specs.declared.fault.DeckFault.TheVariants as fault
use Rattle.tal_tree.specs.declared.site.Kind.TheVariants as kind
use Rattle.tal_tree.specs.declared.site.ProcessSpec.{ProcessSpec}
use Rattle.tal_tree.specs.declared.site.TerminalSpec.{TerminalSpec}
use Rattle.deck_reader.specs.Decks.{Decks, IsDeckOf, IsTerminalOf, AreTerminalsOf}
use Rattle.deck_lines.specs.Lines.{lines_of}
use Rattle.deck_reader.specs.Names.{misnamed_in}
use Rattle.deck_reader.specs.Outlined.{outline_of}
use Rattle.deck_reader.specs.Refusals.{IsBreachFault, IsFaultOf, IsFirstProgramFault, IsOutlineFault, IsOwnFault}
use Rattle.deck_reader.specs.Refusals.{IsRefusalOf, IsRefusedAs, fault_at, name_fault}
use Rattle.deck_reader.specs.declared.deck.Deck.{Deck}
use Rattle.deck_reader.specs.declared.outline.Body.{Body}
use Rattle.deck_reader.specs.declared.outline.Body.TheVariants as body
use Rattle.deck_reader.specs.declared.outline.Outline.{Outline}
use Rattle.deck_reader.specs.declared.outline.ProcessLines.{ProcessLines}
use Rattle.deck_reader.specs.declared.outline.ProgramLines.{ProgramLines}
use Rattle.deck_reader.specs.declared.outline.TerminalLines.{TerminalLines}
use Rattle.deck_reader.specs.declared.step.Breach.{Breach}
use Rattle.deck_reader.specs.declared.told.Told.{Told}
use Rattle.deck_reader.specs.declared.told.Told.TheVariants as told
use Rattle.deck_reader.proofs.RefusedLemmas.{same_processes, not_both, none_refused}

-- the lines of bytes are one outline
one_outline : (bytes : List ℕ) (a b : Outline) → outline_of (lines_of bytes) ≡ told.Whole a
    → outline_of (lines_of bytes) ≡ told.Whole b → b ≡ a
one_outline bytes a b e f = (let both : told.Whole b ≡ told.Whole a = sym f ∙ e in cc)

abbrev terminal_with : List ℕ → ℕ → List (List ℤ) → TerminalSpec
terminal_with name target requests = record { name = name; target = target; requests = requests }

one_terminal : (lines : List (Named ProcessLines)) (one : Named TerminalLines) (a b : TerminalSpec)
    → IsTerminalOf lines one a → IsTerminalOf lines one b → a ≡ b
one_terminal lines one a b h k =
    let place : Some a.target ≡ Some b.target = sym h.target ∙ k.target in
    ap (λ name. terminal_with name a.target a.requests) (h.name ∙ sym k.name)
    ∙ ap (λ target. terminal_with b.name target a.requests) (cc)
    ∙ ap (terminal_with b.name b.target) (h.requests ∙ sym k.requests)

same_terminals : (lines : List (Named ProcessLines)) (all : List (Named TerminalLines)) (xs ys : List TerminalSpec)
    → AreTerminalsOf lines all xs → AreTerminalsOf lines all ys → xs ≡ ys
same_terminals lines [] [] [] h k = refl
same_terminals lines (one ∷ rest) (x ∷ xs) (y ∷ ys) h k =
    ap₂ (λ z zs. z ∷ zs) (one_terminal lines one x y h.0 k.0) (same_terminals lines rest xs ys h.1 k.1)
same_terminals lines [] (x ∷ xs) ys h k = absurd h
same_terminals lines [] [] (y ∷ ys) h k = absurd k
same_terminals lines (one ∷ rest) [] ys h k = absurd h
same_terminals lines (one ∷ rest) (x ∷ xs) [] h k = absurd k

abbrev deck_with : ℕ → List ProcessSpec → List TerminalSpec → List Line → Deck
deck_with processors processes terminals lines =
    record { site = record { processors = processors; processes = processes; terminals = terminals }; lines = lines }

same_deck : (outline : Outline) (a b : Deck) → IsDeckOf outline a → IsDeckOf outline b → a ≡ b
same_deck outline a b h k =
    ap (λ n. deck_with n a.site.processes a.site.terminals a.lines) (h.processors ∙ sym k.processors)
    ∙ ap (λ processes. deck_with b.site.processors processes a.site.terminals a.lines)
    (same_processes outline.processes a.site.processes b.site.processes h.processes k.processes)
    ∙ ap (λ terminals. deck_with b.site.processors b.site.processes terminals a.lines)
    (same_terminals outline.processes outline.terminals a.site.terminals b.site.terminals h.terminals k.terminals)
    ∙ ap (deck_with b.site.processors b.site.processes b.site.terminals) (h.lines ∙ sym k.lines)

pub one_deck : (bytes : List ℕ) (a b : Deck) → Decks bytes a → Decks bytes b → a ≡ b
one_deck bytes a b h k =
    same_deck h.outlined.0 a b h.outlined.2
    (subst (λ (o : Outline). IsDeckOf o b) (one_outline bytes h.outlined.0 k.outlined.0 h.outlined.1 k.outlined.1)
    k.outlined.2)

one_program_fault : (lines : Body) (f g : DeckFault) → IsRefusedAs lines f → IsRefusedAs lines g → f ≡ g
one_program_fault (body.Disc sectors mirrored) f g h k = absurd h
one_program_fault (body.Pair lines) (fault.Program n a) (fault.Program m b) h k =
    ap₂ fault.Program (h.0 ∙ sym k.0) (one-fault lines.text a b h.1 k.1)
one_program_fault (body.Pair lines) (fault.Program n a) _ h k = absurd k
one_program_fault (body.Pair lines) _ g h k = absurd h

one_refused : (lines : List (Named ProcessLines)) (f g : DeckFault) → IsFirstProgramFault lines f
    → IsFirstProgramFault lines g → f ≡ g
one_refused [] f g h k = absurd h
one_refused (one ∷ rest) f g (inl h) (inl k) = one_program_fault one.1.body f g h k
one_refused (one ∷ rest) f g (inl h) (inr k) = absurd (not_both one.1.body k.0 f k.1 h)
one_refused (one ∷ rest) f g (inr h) (inl k) = absurd (not_both one.1.body h.0 g h.1 k)
one_refused (one ∷ rest) f g (inr h) (inr k) = one_refused rest f g h.2 k.2

one_own : (own : Option ProgramLines) (line f g : DeckFault) → IsOwnFault own line f → IsOwnFault own line g → f ≡ g
one_own None line f g h k = h ∙ sym k
one_own (Some lines) line f g (inl h) (inl k) = one_program_fault (body.Pair lines) f g h k
one_own (Some lines) line f g (inl h) (inr k) = absurd (not_both (body.Pair lines) (kind.Pair k.0) f k.1 h)
one_own (Some lines) line f g (inr h) (inl k) = absurd (not_both (body.Pair lines) (kind.Pair h.0) g h.1 k)
one_own (Some lines) line f g (inr h) (inr k) = h.2 ∙ sym k.2

one_of_breach : (breach : Breach) (f g : DeckFault) → IsBreachFault breach f → IsBreachFault breach g → f ≡ g
one_of_breach breach f g (inl h) (inl k) = one_refused breach.processes f g h k
one_of_breach breach f g (inl h) (inr k) = absurd (none_refused breach.processes k.0 f k.1 h)
one_of_breach breach f g (inr h) (inl k) = absurd (none_refused breach.processes h.0 g h.1 k)
one_of_breach breach f g (inr h) (inr k) = one_own breach.own (fault_at breach.line breach.why) f g h.2 k.2

one_of_outline : (outline : Outline) (f g : DeckFault) → IsOutlineFault outline f → IsOutlineFault outline g → f ≡ g
one_of_outline outline f g (inl h) (inl k) = one_refused outline.processes f g h k
one_of_outline outline f g (inl h) (inr k) = absurd (none_refused outline.processes k.0 f k.1 h)
one_of_outline outline f g (inr h) (inl k) = absurd (none_refused outline.processes h.0 g h.1 k)
one_of_outline outline f g (inr h) (inr k) =
    let specs : h.0 ≡ k.0 = same_processes outline.processes h.0 k.0 h.1 k.1 in
    let both : Some f ≡ Some g = sym h.2 ∙ ap (λ xs. option_map name_fault (misnamed_in outline xs)) specs ∙ k.2 in
    cc

one_fault_of : (said : Told) (f g : DeckFault) → IsFaultOf said f → IsFaultOf said g → f ≡ g
one_fault_of (told.Whole outline) f g h k = one_of_outline outline f g h k
one_fault_of (told.Broken breach) f g h k = one_of_breach breach f g h k

-- bytes are refused for their length, or for what their lines say
pub refused_for : (bytes : List ℕ) (f : DeckFault) → IsRefusalOf bytes f
    → ((f ≡ fault.TooLong) × (1048576 < length bytes))
    ⊎ ((length bytes ≤ 1048576) × IsFaultOf (outline_of (lines_of bytes)) f)
refused_for bytes fault.TooLong h = inl (refl, h)
refused_for bytes (fault.NoMemory _) h = absurd h
refused_for bytes f h = inr h

pub one_refusal : (bytes : List ℕ) (f g : DeckFault) → IsRefusalOf bytes f → IsRefusalOf bytes g → f ≡ g
one_refusal bytes f g h k = by (refused_for bytes f h) (refused_for bytes g k)
  where
    by : ((f ≡ fault.TooLong) × (1048576 < length bytes))
        ⊎ ((length bytes ≤ 1048576) × IsFaultOf (outline_of (lines_of bytes)) f)
        → ((g ≡ fault.TooLong) × (1048576 < length bytes))
        ⊎ ((length bytes ≤ 1048576) × IsFaultOf (outline_of (lines_of bytes)) g) → f ≡ g
    by (inl h) (inl k) = h.0 ∙ sym k.0
    by (inl h) (inr k) = absurd (omega (arith, h.1, k.0))
    by (inr h) (inl k) = absurd (omega (arith, h.0, k.1))
    by (inr h) (inr k) = one_fault_of (outline_of (lines_of bytes)) f g h.1 k.1

-- where there is a deck of an outline, it has no fault
fault_of_deck : (outline : Outline) (f : DeckFault) (deck : Deck) → IsOutlineFault outline f → IsDeckOf outline deck → ⊥
fault_of_deck outline f deck (inl h) is = none_refused outline.processes deck.site.processes f is.processes h
fault_of_deck outline f deck (inr h) is =
    let specs : h.0 ≡ deck.site.processes = same_processes outline.processes h.0 deck.site.processes h.1 is.processes in
    let none : Some f ≡ None = sym h.2 ∙ ap (λ xs. option_map name_fault (misnamed_in outline xs)) specs
    ∙ ap (option_map name_fault) is.named in
    cc

pub no_deck : (bytes : List ℕ) (f : DeckFault) (deck : Deck) → IsRefusalOf bytes f → Decks bytes deck → ⊥
no_deck bytes f deck h is = by (refused_for bytes f h)
  where
    by : ((f ≡ fault.TooLong) × (1048576 < length bytes))
        ⊎ ((length bytes ≤ 1048576) × IsFaultOf (outline_of (lines_of bytes)) f) → ⊥
    by (inl h) = omega (arith, h.1, is.short)
    by (inr h) = fault_of_deck is.outlined.0 f deck (subst (λ said. IsFaultOf said f) is.outlined.1 h.1) is.outlined.2
