-- A report can tell what a deck shows.
use Rattle.std.proofs.Common.{◌≡◌, ℕ, ◌+◌, ◌<◌, ◌≤◌, ℤ, List, length, slice_get, Option, Some, None}
use Rattle.std.proofs.Common.{refl, sym, subst, arith}
use Rattle.std.specs.List.{All}
use Rattle.std.specs.Option.{option_and_then}
use Rattle.std.proofs.lemmas.Option.{get_or_from_slice_get, slice_get_within}
use Rattle.deck_reader.specs.tal_laws.proofs.Regular.{read_is_regular}
use Rattle.tal_tree.specs.declared.site.Kind.{Kind}
use Rattle.tal_tree.specs.declared.site.Kind.TheVariants as kind
use Rattle.tal_tree.specs.declared.site.ProcessSpec.{ProcessSpec}
use Rattle.tal_tree.specs.declared.site.TerminalSpec.{TerminalSpec}
use Rattle.deck_lines.specs.Lines.{lines_of}
use Rattle.deck_reader.proofs.DeckLimits.{all_with, deck_within}
use Rattle.deck_reader.proofs.DeckPrograms.{deck_programs}
use Rattle.deck_reader.proofs.DeckRequests.{deck_requests}
use Rattle.deck_reader.specs.Decks.{Decks, IsTerminalOf}
use Rattle.deck_reader.specs.Limits.{HasShortRequests, IsKindWithinLimits, IsProcessWithinLimits}
use Rattle.deck_reader.specs.Limits.{IsTerminalWithinLimits}
use Rattle.deck_reader.specs.declared.deck.Deck.{Deck}
use Rattle.deck_forms.proofs.Numbers.{read-numbers}
use Rattle.deck_forms.proofs.Requests.{HasWordy, IsWordy, outline_wordy}
use Rattle.shown_forms.specs.Numbers.{IsMessage}
use Rattle.shown_forms.specs.Sites.{IsTellable, IsTellableKind}

abbrev HasWordRequests : TerminalSpec → Type 0
HasWordRequests terminal = All IsWordy terminal.requests

word-requests : (bytes : List ℕ) (deck : Deck) → Decks bytes deck → All HasWordRequests deck.site.terminals
word-requests bytes deck decks =
    let outline = decks.outlined.0 in
    all_with (IsTerminalOf outline.processes) HasWordy HasWordRequests
    (λ lines terminal wordy of. subst (All IsWordy) (sym of.requests) wordy)
    outline.terminals deck.site.terminals (outline_wordy (lines_of bytes) outline decks.outlined.1)
    decks.outlined.2.terminals

-- what holds of all holds of what stands at a place
all-at : {X : Type 0} (P : X → Type 0) (xs : List X) (k : ℕ) (x : X) → All P xs → slice_get xs k ≡ Some x → P x
all-at P xs k x all there =
    subst P (get_or_from_slice_get xs k x x there) (all k x (slice_get_within xs k x there))

module _ (bytes : List ℕ) (deck : Deck) (decks : Decks bytes deck) where
  kind-tellable : (number : ℕ) (spec : ProcessSpec) → slice_get deck.site.processes number ≡ Some spec
      → (what : Kind) → spec.what ≡ what → IsKindWithinLimits what → IsTellableKind what
  kind-tellable number spec there (kind.Disc sectors mirrored) is within = omega (arith, within.1)
  kind-tellable number spec there (kind.Pair program) is within =
      let text = deck_programs bytes deck number spec program decks there is in
      (read_is_regular text.0 program text.1, read-numbers text.0 program text.1)

  request-of : (terminal entered : ℕ) (words : List ℤ) (o : Option TerminalSpec)
      → slice_get deck.site.terminals terminal ≡ o
      → option_and_then (λ spec. slice_get spec.requests entered) o ≡ Some words
      → IsMessage words × (entered + 1 < 4294967296)
  request-of terminal entered words None there is = absurd (cc is)
  request-of terminal entered words (Some spec) there is =
      let limits : IsTerminalWithinLimits (length deck.site.processes) spec =
      all-at (IsTerminalWithinLimits (length deck.site.processes)) deck.site.terminals terminal spec
      (deck_within bytes deck decks).site.each_terminal there in
      let low = slice_get_within spec.requests entered words is in (
        (
          all-at IsWordy spec.requests entered words
              (all-at HasWordRequests deck.site.terminals terminal spec (word-requests bytes deck decks) there) is,
          all-at (λ (request : List ℤ). length request ≤ 16) spec.requests entered words
              (all-at HasShortRequests deck.site.terminals terminal spec (deck_requests bytes deck decks) there) is,
        ),
        omega (arith, low, limits.requests),
      )

pub deck-tellable : (bytes : List ℕ) (deck : Deck) → Decks bytes deck → IsTellable deck.site
deck-tellable bytes deck decks = record {
  processes = λ number spec there.
      let limits : IsProcessWithinLimits deck.site.processors spec =
      all-at (IsProcessWithinLimits deck.site.processors) deck.site.processes number spec
      (deck_within bytes deck decks).site.each_process there in
      kind-tellable bytes deck decks number spec there spec.what refl limits.what;
  requests = λ terminal entered words is.
      request-of bytes deck decks terminal entered words (slice_get deck.site.terminals terminal) refl is;
}
