-- Bytes that spell no deck, and bytes that spell one.
use Rattle.std.proofs.Common.{◌≡◌, ℕ, ◌≤◌, Bool, true, false, List, [], ◌∷◌, length, nat_le, Some, is_some, refl, sym}
use Rattle.std.proofs.Common.{◌∙◌, ap, true≢false, arith, leb-true, ⊎_elim, codes, pos, negsuc, inl, inr}
use Rattle.std.specs.List.{All, AllZip}
use Rattle.std.proofs.lemmas.List.Elements.{All-cons, All-nil}
use Rattle.schedule.specs.declared.bus_name.BusName.TheVariants as bus
use Rattle.schedule.specs.declared.event.Event.TheVariants as event
use Rattle.schedule.specs.declared.line.Line.{Line}
use Rattle.schedule.specs.declared.line.Line.TheVariants as line
use Rattle.tal_tree.specs.declared.site.ProcessSpec.{ProcessSpec}
use Rattle.deck_lines.specs.Lines.{lines_of}
use Rattle.deck_lines.specs.declared.event_saying.EventSaying.{EventSaying}
use Rattle.deck_lines.specs.declared.event_saying.EventSaying.TheVariants as asked
use Rattle.deck_reader.specs.Limits.{IsProcessWithinLimits, IsTerminalWithinLimits, IsWithinDeckLimits}
use Rattle.deck_reader.specs.Names.{misnamed_in}
use Rattle.deck_reader.specs.Outlined.{outline_of}
use Rattle.deck_reader.specs.Schedules.{IsLineOf, rounds_of, singles_of}
use Rattle.deck_reader.specs.declared.deck.Deck.{Deck}
use Rattle.deck_reader.specs.declared.told.Told.{Told}
use Rattle.deck_reader.specs.declared.told.Told.TheVariants as told
use Rattle.deck_grammar.specs.Grammar.{AreItems, Disc, Terminal, deck_items}
use Rattle.deck_grammar.specs.Spells.{Spells, line_of}
use Rattle.deck_grammar.proofs.Law.{taken}
use Rattle.deck_grammar.proofs.NewNames.{apart}
use Rattle.deck_guards.specs.Texts.{LinesSpell, asked_disc, asking, asking_lines, asking_terminal, bare, later_events}

-- a line can't stand where it does, or names what isn't there
abbrev is_amiss : Told → List ProcessSpec → Bool
is_amiss (told.Whole outline) processes = is_some (misnamed_in outline processes)
is_amiss (told.Broken breach) processes = true

pub none_spelt : (bytes : List ℕ) → ((processes : List ProcessSpec)
    → is_amiss (outline_of (lines_of bytes)) processes ≡ true) → (deck : Deck) → Spells bytes deck → ⊥
none_spelt bytes amiss deck spells =
    let decks = taken bytes deck spells in
    true≢false (sym (amiss deck.site.processes)
    ∙ ap (λ (one : Told). is_amiss one deck.site.processes) decks.outlined.1 ∙ ap is_some decks.outlined.2.named)

-- the same, whether a process is read or none
pub none_spelt_by : (bytes : List ℕ) → is_amiss (outline_of (lines_of bytes)) [] ≡ true
    → ((process : ProcessSpec) (processes : List ProcessSpec)
    → is_amiss (outline_of (lines_of bytes)) (process ∷ processes) ≡ true)
    → (deck : Deck) → Spells bytes deck → ⊥
none_spelt_by bytes none some = none_spelt bytes by
  where
    by : (processes : List ProcessSpec) → is_amiss (outline_of (lines_of bytes)) processes ≡ true
    by [] = none
    by (process ∷ processes) = some process processes

pub bare_within : (processors : ℕ) (lines : List Line) → 2 ≤ processors → processors ≤ 16
    → All (IsLineOf processors 0 0) lines → singles_of lines ≤ 1000000 → rounds_of lines ≤ 100000
    → IsWithinDeckLimits (bare processors lines)
bare_within processors lines least most each singles rounds = record {
  site = record {
    fewest_processors = least;
    most_processors = most;
    processes = omega arith;
    each_process = All-nil (IsProcessWithinLimits processors);
    terminals = omega arith;
    each_terminal = All-nil (IsTerminalWithinLimits 0);
  };
  each_line = each;
  singles = singles;
  rounds = rounds;
}

-- no event lines
pub empty_within : (processors : ℕ) → 2 ≤ processors → processors ≤ 16 → IsWithinDeckLimits (bare processors [])
empty_within processors least most =
    bare_within processors [] least most (All-nil (IsLineOf processors 0 0)) (omega arith) (omega arith)

-- two event lines
pub two_lines : (processors processes terminals : ℕ) (one other : Line) → IsLineOf processors processes terminals one
    → IsLineOf processors processes terminals other
    → All (IsLineOf processors processes terminals) (one ∷ other ∷ [])
two_lines processors processes terminals one other first second =
    let of = IsLineOf processors processes terminals in
    All-cons of one (other ∷ []) first (All-cons of other [] second (All-nil of))

-- a deck of processors and event lines alone
pub bare_spelt : (bytes : List ℕ) (processors : ℕ) (events : List EventSaying) (lines : List Line)
    → nat_le (length bytes) 1048576 ≡ true
    → AreItems (lines_of bytes) (deck_items processors [] events)
    → AllZip (λ (saying : EventSaying) (one : Line). line_of (bare processors lines).site saying ≡ Some one) events
    lines
    → IsWithinDeckLimits (bare processors lines) → Spells bytes (bare processors lines)
bare_spelt bytes processors events lines short are all limits = record {
  short = leb-true (length bytes) 1048576 short;
  blocks = [];
  events = events;
  text = are;
  once = tt;
  declared = tt;
  scheduled = all;
  limits = limits;
}

asking_within : IsWithinDeckLimits asking
asking_within = record {
  site = record {
    fewest_processors = omega arith;
    most_processors = omega arith;
    processes = omega arith;
    each_process =
        All-cons (IsProcessWithinLimits 2) asked_disc []
        (record {
          primary = omega arith;
          backup = omega arith;
          apart = λ same. absurd (omega (arith, same));
          what = (omega arith, omega arith);
        })
        (All-nil (IsProcessWithinLimits 2));
    terminals = omega arith;
    each_terminal = All-cons (IsTerminalWithinLimits 1) asking_terminal []
        (record { target = omega arith; requests = omega arith }) (All-nil (IsTerminalWithinLimits 1));
  };
  each_line =
      All-cons (IsLineOf 2 1 1) (line.Many (event.Run 0) 3) (line.One (event.Enter 0) ∷ later_events)
      (omega arith, omega arith)
      (All-cons (IsLineOf 2 1 1) (line.One (event.Enter 0)) later_events (omega arith)
      (two_lines 2 1 1 (line.One (event.Lose bus.Y 7)) (line.One (event.Tick 16)) tt (inr refl)));
  singles = omega arith;
  rounds = omega arith;
}

pub asking_spelt : LinesSpell asking_lines asking
asking_spelt = record {
  short = leb-true _ _ refl;
  blocks = Terminal (codes "$T") (codes "$D") ((pos 5 ∷ negsuc 6 ∷ []) ∷ [] ∷ [])
      ∷ Disc (record { name = codes "$D"; primary = 1; backup = 0 }) 64 false ∷ [];
  events = asked.RunTimes (codes "$D") 3 ∷ asked.Enter (codes "$T") ∷ asked.Lose (record { bus = bus.Y; k = 7 })
      ∷ asked.Tick 16 ∷ [];
  text =
      inr (
        refl,
        inl (
          refl,
          inr (
            refl,
            inl (
              refl,
              inl (
                refl,
                inr (
                  refl,
                  inl (
                    refl,
                    inl (
                      refl,
                      inl (refl, inl (refl, inl (refl, inl (refl, inl (refl, inl (refl, (refl, tt))))))),
                    ),
                  ),
                ),
              ),
            ),
          ),
        ),
      );
  once = (⊎_elim (apart (codes "$T") (codes "$D") refl) (λ later. later), (λ among. among, tt));
  declared = (record { named = refl; asks = refl; sends = refl }, (refl, tt));
  scheduled = (refl, (refl, (refl, (refl, tt))));
  limits = asking_within;
}
