-- What of a process stays as it is, and what only a write changes.
use Rattle.std.specs.Prelude.{ℕ}
use Rattle.process_images.specs.process_semantics.specs.Process.{ProcessState, Runs, Serves}

-- the number of a process's last write: that of a disc, and 0 for a program
abbrev pub last_write_of : ProcessState → ℕ
last_write_of (Runs program s) = 0
last_write_of (Serves sectors s) = s.last_write
