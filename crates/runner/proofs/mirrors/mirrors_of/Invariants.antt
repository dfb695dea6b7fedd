use Rattle.std.proofs.Common.{◌≡◌, ◌++◌, drop}
use Rattle.command_dues.specs.Mirrors.{mirrors_from}
use Rattle.runner.proofs.mirrors.mirrors_of.Given as goal

abbrev pub invariant-loop-number : goal.invariant-loop-number
invariant-loop-number l = mirrors_from 0 l.site.processes l.machine.state.drives
    ≡ l.mirrors ++ mirrors_from l.number (drop l.number l.specs) l.machine.state.drives
