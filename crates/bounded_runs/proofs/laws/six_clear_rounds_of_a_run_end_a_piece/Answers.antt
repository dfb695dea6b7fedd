use Rattle.bounded_runs.proofs.Pieces.{six-end}
use Rattle.bounded_runs.proofs.laws.six_clear_rounds_of_a_run_end_a_piece.Goals as goal

pub returns : goal.returns
returns c site few lines stop first last = six-end site lines stop first last few
