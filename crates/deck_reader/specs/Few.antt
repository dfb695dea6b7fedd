-- How many processes and terminals there are at most while the lines of a deck are read.
use Rattle.std.specs.Prelude.{◌≤◌, length}
use Rattle.deck_reader.specs.declared.outline.Outline.{Outline}
use Rattle.deck_reader.specs.declared.step.Stage.{Stage}
use Rattle.deck_reader.specs.declared.step.Stage.TheVariants as at
use Rattle.gd_words.specs.declared.limits.TheConstants.{MOST_PROCESSES, MOST_TERMINALS}

-- at most 16 processes and at most 16 terminals
pub record AreFew (outline : Outline) : Type 0 where
  pub processes : length outline.processes ≤ MOST_PROCESSES
  pub terminals : length outline.terminals ≤ MOST_TERMINALS

-- no more than those were told up to a stage
abbrev pub HasFew : Stage → Type 0
HasFew at.Opening = Unit {0}
HasFew (at.Blocks outline) = AreFew outline
HasFew (at.Program outline heading program) = AreFew outline
HasFew (at.Requests outline name terminal) = AreFew outline
HasFew (at.Schedule outline) = AreFew outline
HasFew (at.Ended outline) = AreFew outline
