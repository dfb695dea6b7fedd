use Rattle.computed_changes.proofs.Late.{acting-late, era-late, gone-late, misfit-late, number-late, twice-late}
use Rattle.computed_changes.proofs.guards.only_the_next_change_is_applied.Goals as goal

pub returns : goal.returns
returns c = record {
  era = era-late;
  number = number-late;
  misfit = misfit-late;
  acting = acting-late;
  gone = gone-late;
  again = twice-late;
}
