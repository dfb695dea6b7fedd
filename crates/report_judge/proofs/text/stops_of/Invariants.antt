use Rattle.std.proofs.Common.{◌≡◌, ◌++◌, drop}
use Rattle.report_reader.specs.Reading.{stops_in}
use Rattle.report_judge.proofs.text.stops_of.Given as goal

abbrev pub invariant-loop-one : goal.invariant-loop-one
invariant-loop-one l = stops_in l.told ≡ l.stops ++ stops_in (drop l.one-index l.told)
