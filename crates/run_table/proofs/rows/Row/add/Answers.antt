use Rattle.std.proofs.Common.{ap}
use Rattle.run_table.specs.Counts.{is_cut, is_idle, is_second}
use Rattle.run_table.specs.declared.rows.Row.{Row}
use Rattle.run_table.proofs.Room.{has_room}
use Rattle.run_table.proofs.rows.Row.add.Goals as goal

pub overflow_add-self-in-Idle : goal.overflow_add-self-in-Idle
overflow_add-self-in-Idle c = has_room is_idle c.requires.0 _ (ap (λ (row : Row). row.idle) c.requires.1) c.requires.2

pub overflow_add-self-in-Cut : goal.overflow_add-self-in-Cut
overflow_add-self-in-Cut c = has_room is_cut c.requires.0 _ (ap (λ (row : Row). row.cut) c.requires.1) c.requires.2

pub overflow_add-self-in-Second : goal.overflow_add-self-in-Second
overflow_add-self-in-Second c =
    has_room is_second c.requires.0 _ (ap (λ (row : Row). row.second) c.requires.1) c.requires.2
