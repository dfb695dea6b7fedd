use Rattle.std.proofs.Common.{◌≡◌, ◌++◌, drop}
use Rattle.report_reader.specs.Reading.{acts_in}
use Rattle.report_judge.proofs.text.acts_of.Given as goal

abbrev pub invariant-loop-one : goal.invariant-loop-one
invariant-loop-one l = acts_in l.told ≡ l.acts ++ acts_in (drop l.one-index l.told)
