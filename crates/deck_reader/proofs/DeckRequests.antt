-- The requests of a deck's terminals have at most 16 words each, since those of its lines do.
use Rattle.std.proofs.Common.{ℕ, List, sym, subst}
use Rattle.std.specs.List.{All}
use Rattle.deck_reader.specs.Decks.{Decks, IsTerminalOf}
use Rattle.deck_reader.specs.Limits.{HasShortRequests}
use Rattle.deck_lines.specs.Lines.{lines_of}
use Rattle.deck_reader.specs.declared.deck.Deck.{Deck}
use Rattle.deck_reader.proofs.DeckLimits.{all_with}
use Rattle.deck_reader.proofs.ShortRequests.{HasShort, IsShort, outline_short}

pub deck_requests : (bytes : List ℕ) (deck : Deck) → Decks bytes deck → All HasShortRequests deck.site.terminals
deck_requests bytes deck decks =
    let outline = decks.outlined.0 in
    all_with (IsTerminalOf outline.processes) HasShort HasShortRequests
    (λ lines terminal short of. subst (All IsShort) (sym of.requests) short)
    outline.terminals deck.site.terminals (outline_short (lines_of bytes) outline decks.outlined.1)
    decks.outlined.2.terminals
