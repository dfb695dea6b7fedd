-- The grammar spells the decks that the reader takes.
use Rattle.std.proofs.Common.{◌≡◌, ◌↔◌, ℕ, List, [], ◌∷◌, refl, ap, subst}
use Rattle.deck_lines.specs.Lines.{lines_of}
use Rattle.deck_lines.specs.declared.saying.Saying.TheVariants as said
use Rattle.deck_reader.specs.Decks.{Decks}
use Rattle.deck_reader.specs.LineFaults.{outline_with}
use Rattle.deck_reader.specs.declared.deck.Deck.{Deck}
use Rattle.deck_reader.specs.declared.step.Stage.TheVariants as at
use Rattle.deck_reader.proofs.OneAnswer.{one_deck}
use Rattle.deck_grammar.specs.Grammar.{AreItems, Block, Item, Says}
use Rattle.deck_grammar.specs.Spells.{Spells}
use Rattle.deck_grammar.proofs.Items.{body-is}
use Rattle.deck_grammar.proofs.Meant.{spelt}
use Rattle.deck_grammar.proofs.NewNames.{AreNew}
use Rattle.deck_grammar.proofs.Ready.{Ready, all_go}

-- all names are new where there are none
all_new : (processors : ℕ) (blocks : List Block) → AreNew (outline_with processors) blocks
all_new processors [] = tt
all_new processors (block ∷ blocks) = ((refl, refl), all_new processors blocks)

-- before its first line all of a text is to come
begins : (bytes : List ℕ) (deck : Deck) → Spells bytes deck → Ready deck at.Opening (lines_of bytes)
begins bytes deck spells = (
  spells.blocks,
  deck.site.processes,
  deck.site.terminals,
  spells.events,
  subst (AreItems (lines_of bytes)) (ap (λ (rest : List Item). Says (said.Processors deck.site.processors) ∷ rest)
      (body-is spells.blocks spells.events)) spells.text,
  record {
    declared = spells.declared;
    new = all_new deck.site.processors spells.blocks;
    once = spells.once;
    holds = record {
      processors = refl;
      done = [];
      whole = refl;
      each = tt;
      done_terminals = [];
      whole_terminals = refl;
      each_terminal = tt;
    };
    none = refl;
  },
  spells.scheduled,
)

pub taken : (bytes : List ℕ) (deck : Deck) → Spells bytes deck → Decks bytes deck
taken bytes deck spells = record {
  short = spells.short;
  outlined = all_go deck spells.limits at.Opening 0 (lines_of bytes) (begins bytes deck spells);
}

pub the_decks : (bytes : List ℕ) (deck : Deck) → Spells bytes deck ↔ Decks bytes deck
the_decks bytes deck = (taken bytes deck, spelt bytes deck)

pub one_spelt : (bytes : List ℕ) (a b : Deck) → Spells bytes a → Spells bytes b → a ≡ b
one_spelt bytes a b one other = one_deck bytes a b (taken bytes a one) (taken bytes b other)
