use Rattle.std.proofs.Common.{◌≡◌, drop}
use Rattle.report_reader.specs.Names.{opener_from}
use Rattle.report_reader.proofs.names.opener_among.Given as goal

abbrev pub invariant-loop-place : goal.invariant-loop-place
invariant-loop-place l =
    opener_from l.site l.name 0 l.openers ≡ opener_from l.site l.name l.place (drop l.place l.openers)
