-- A deck keeps the limits, since the lines of its outline do and its programs are what their texts read as.
use Rattle.std.proofs.Common.{◌≡◌, ℕ, suc, List, [], ◌∷◌, length, refl, sym, ap, ◌∙◌, subst, arith, zero}
use Rattle.std.specs.List.{All}
use Rattle.std.proofs.lemmas.List.Elements.{All-cons, All-nil}
use Rattle.schedule.specs.declared.line.Line.{Line}
use Rattle.tal_laws.proofs.WithinLimits.{read_is_within}
use Rattle.tal_tree.specs.declared.site.Kind.{Kind}
use Rattle.tal_tree.specs.declared.site.Kind.TheVariants as kind
use Rattle.deck_reader.specs.Decks.{Decks, IsDeckOf, IsKindOf, EachWith}
use Rattle.deck_reader.specs.Limits.{IsKindWithinLimits, IsProcessWithinLimits, IsTerminalWithinLimits}
use Rattle.deck_reader.specs.Limits.{IsWithinDeckLimits}
use Rattle.deck_lines.specs.Lines.{lines_of}
use Rattle.deck_reader.specs.Schedules.{IsLineOf, singles_of, rounds_of}
use Rattle.deck_reader.specs.declared.deck.Deck.{Deck}
use Rattle.deck_reader.specs.declared.outline.Body.{Body}
use Rattle.deck_reader.specs.declared.outline.Body.TheVariants as body
use Rattle.deck_reader.specs.declared.outline.Outline.{Outline}
use Rattle.deck_reader.proofs.ScheduleLemmas.{place_there}
use Rattle.deck_reader.proofs.StageLemmas.{BlocksKeep, BodyKeeps, EventsFit, LinesKeep, TerminalKeeps, outline_kept}

-- as many as belong to them
pub same_length : {X Y : Type 0} (R : X → Y → Type 0) (xs : List X) (ys : List Y) → EachWith R xs ys
    → length ys ≡ length xs
same_length R [] [] each = refl
same_length R (x ∷ xs) (y ∷ ys) each = omega (arith, same_length R xs ys each.1)
same_length R [] (y ∷ ys) each = absurd each
same_length R (x ∷ xs) [] each = absurd each

-- what holds of each x gives what holds of its y
pub all_with : {X Y : Type 0} (R : X → Y → Type 0) (P : X → Type 0) (Q : Y → Type 0)
    → ((x : X) (y : Y) → P x → R x y → Q y) → (xs : List X) (ys : List Y) → All P xs → EachWith R xs ys → All Q ys
all_with R P Q gives [] [] all each = All-nil Q
all_with R P Q gives (x ∷ xs) (y ∷ ys) all each =
    All-cons Q y ys (gives x y (all zero x (omega arith)) each.0)
    (all_with R P Q gives xs ys (λ k d there. all (suc k) d (omega (arith, there))) each.1)
all_with R P Q gives [] (y ∷ ys) all each = absurd each
all_with R P Q gives (x ∷ xs) [] all each = absurd each

kind_within : (lines : Body) (what : Kind) → BodyKeeps lines → IsKindOf lines what → IsKindWithinLimits what
kind_within (body.Disc told both) (kind.Disc sectors mirrored) keeps is =
    (omega (arith, keeps.0, is.0), omega (arith, keeps.1, is.0))
kind_within (body.Pair lines) (kind.Pair program) keeps reads = read_is_within lines.text program reads
kind_within (body.Disc told both) (kind.Pair program) keeps is = absurd is
kind_within (body.Pair lines) (kind.Disc sectors mirrored) keeps is = absurd is

deck_of_within : (outline : Outline) (deck : Deck) → BlocksKeep outline → EventsFit outline → IsDeckOf outline deck
    → IsWithinDeckLimits deck
deck_of_within outline deck keeps fit is =
    let processes = same_length _ outline.processes deck.site.processes is.processes in
    let terminals = same_length _ outline.terminals deck.site.terminals is.terminals in record {
      site = record {
        fewest_processors = omega (arith, keeps.processors.0, is.processors);
        most_processors = omega (arith, keeps.processors.1, is.processors);
        processes = omega (arith, keeps.few.processes, processes);
        each_process =
            subst (λ processors. All (IsProcessWithinLimits processors) deck.site.processes) (sym is.processors)
            (all_with _ (LinesKeep outline.processors) (IsProcessWithinLimits outline.processors)
            (λ lines process one of. record {
              primary = omega (arith, one.primary, of.primary);
              backup = omega (arith, one.backup, of.backup);
              apart = λ same. one.apart (sym of.primary ∙ same ∙ of.backup);
              what = kind_within lines.1.body process.what one.body of.what;
            }) outline.processes deck.site.processes keeps.each_process is.processes);
        terminals = omega (arith, keeps.few.terminals, terminals);
        each_terminal =
            subst (λ n. All (IsTerminalWithinLimits n) deck.site.terminals) (sym processes)
            (all_with _ TerminalKeeps (IsTerminalWithinLimits (length outline.processes))
            (λ lines terminal one of. record {
              target = place_there _ outline.processes terminal.target of.target;
              requests = omega (arith, one, ap (λ (requests : List _). length requests) of.requests);
            }) outline.terminals deck.site.terminals keeps.each_terminal is.terminals);
      };
      each_line =
          subst (λ (lines : List Line). All (IsLineOf deck.site.processors (length deck.site.processes)
          (length deck.site.terminals)) lines) (sym is.lines)
          (subst (λ p. All (IsLineOf p (length deck.site.processes) (length deck.site.terminals)) outline.events.lines)
          (sym is.processors)
          (subst (λ m. All (IsLineOf outline.processors m (length deck.site.terminals)) outline.events.lines)
          (sym processes)
          (subst (λ n. All (IsLineOf outline.processors (length outline.processes) n) outline.events.lines)
          (sym terminals) fit.each_line)));
      singles = omega (arith, fit.singles, fit.few.singles, ap singles_of is.lines);
      rounds = omega (arith, fit.rounds, fit.few.rounds, ap rounds_of is.lines);
    }

pub deck_within : (bytes : List ℕ) (deck : Deck) → Decks bytes deck → IsWithinDeckLimits deck
deck_within bytes deck is =
    let outline = is.outlined.0 in
    let kept = outline_kept (lines_of bytes) outline is.outlined.1 in
    deck_of_within outline deck kept.0 kept.1 is.outlined.2
