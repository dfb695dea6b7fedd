-- The deck of a mirrored disc whose drive breaks, and is revived and filled.
use Rattle.std.proofs.Common.{List, [], ◌∷◌, arith, codes, inl, leb-true, refl, true}
use Rattle.std.specs.List.{All}
use Rattle.std.proofs.lemmas.List.Elements.{All-cons, All-nil}
use Rattle.schedule.specs.declared.event.DriveChange.TheVariants.{Break, Copy, Revive}
use Rattle.schedule.specs.declared.line.Line.{Line}
use Rattle.schedule.specs.declared.line.Line.TheVariants as line
use Rattle.deck_lines.specs.declared.event_saying.EventSaying.TheVariants as asked
use Rattle.deck_reader.specs.Limits.{IsProcessWithinLimits, IsTerminalWithinLimits, IsWithinDeckLimits}
use Rattle.deck_reader.specs.Schedules.{IsLineOf}
use Rattle.deck_grammar.specs.Grammar.{Disc}
use Rattle.deck_guards.specs.Texts.{LinesSpell, mirror_lines, mirrored, mirrored_disc, second_drive}
use Rattle.deck_guards.proofs.Spelt.{two_lines}

drives_within : All (IsLineOf 3 1 0) mirrored.lines
drives_within =
    let last : List Line = line.One (second_drive Copy) ∷ line.Many (second_drive Copy) 7 ∷ [] in
    All-cons (IsLineOf 3 1 0) (line.One (second_drive Break)) (line.One (second_drive Revive) ∷ last) (omega arith)
    (All-cons (IsLineOf 3 1 0) (line.One (second_drive Revive)) last (omega arith)
    (two_lines 3 1 0 (line.One (second_drive Copy)) (line.Many (second_drive Copy) 7) (omega arith)
    ((omega arith, refl), omega arith)))

mirrored_within : IsWithinDeckLimits mirrored
mirrored_within = record {
  site = record {
    fewest_processors = omega arith;
    most_processors = omega arith;
    processes = omega arith;
    each_process =
        All-cons (IsProcessWithinLimits 3) mirrored_disc []
        (record {
          primary = omega arith;
          backup = omega arith;
          apart = λ same. absurd (omega (arith, same));
          what = (omega arith, omega arith);
        })
        (All-nil (IsProcessWithinLimits 3));
    terminals = omega arith;
    each_terminal = All-nil (IsTerminalWithinLimits 1);
  };
  each_line = drives_within;
  singles = omega arith;
  rounds = omega arith;
}

pub mirrored_spelt : LinesSpell mirror_lines mirrored
mirrored_spelt = record {
  short = leb-true _ _ refl;
  blocks = Disc (record { name = codes "$M"; primary = 0; backup = 1 }) 8 true ∷ [];
  events = asked.Drive (codes "$M") 1 Break ∷ asked.Drive (codes "$M") 1 Revive ∷ asked.Drive (codes "$M") 1 Copy
      ∷ asked.CopyTimes (codes "$M") 1 7 ∷ [];
  text = inl (refl, inl (refl, inl (refl, inl (refl, inl (refl, inl (refl, inl (refl, inl (refl, tt))))))));
  once = (λ among. among, tt);
  declared = (refl, tt);
  scheduled = (refl, (refl, (refl, (refl, tt))));
  limits = mirrored_within;
}
