-- The counts of runs, by their kinds. Our own rule.
use Rattle.std.specs.Prelude.{ℕ, Bool, true, false, List, filter, length}
use Rattle.run_table.specs.declared.rows.Row.{Row}
use Rattle.run_table.specs.declared.rows.RunKind.{RunKind}
use Rattle.run_table.specs.declared.rows.RunKind.TheVariants.{Idle, Cut, Second}

abbrev pub is_idle : RunKind → Bool
is_idle Idle = true
is_idle _ = false

abbrev pub is_cut : RunKind → Bool
is_cut Cut = true
is_cut _ = false

abbrev pub is_second : RunKind → Bool
is_second Second = true
is_second _ = false

-- the row of runs of these kinds: how many there are, and how many of them are idle, cut, and before a second stop
abbrev pub row_of : List RunKind → Row
row_of kinds = record {
  runs = length kinds;
  idle = length (filter is_idle kinds);
  cut = length (filter is_cut kinds);
  second = length (filter is_second kinds);
}
