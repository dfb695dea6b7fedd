use Rattle.std.proofs.Common.{◌≡◌, ◌++◌, drop}
use Rattle.machine_views.specs.Views.{each_at, file_number}
use Rattle.machine_views.proofs.copies.file_numbers.Given as goal

abbrev pub invariant-loop-file : goal.invariant-loop-file
invariant-loop-file l = each_at file_number 0 l.control.core.next
    ≡ l.numbers ++ each_at file_number l.file (drop l.file l.control.core.next)
