use Rattle.std.proofs.Common.{◌≡◌, ◌++◌, take, flat_map}
use Rattle.finding_text.specs.Carried.{one_sent}
use Rattle.finding_text.proofs.carried.put_sent.Given as goal

abbrev pub invariant-loop-listed : goal.invariant-loop-listed
invariant-loop-listed l = l.text ≡ l.fn.text ++ flat_map (one_sent l.program) (take l.listed-index l.all)
