use Rattle.program_deeds.proofs.Calls.{point-is, took-is, file-is, asked-is, got-is, answer-is, items-are, files-are}
use Rattle.program_deeds.proofs.Given.{done-goes, assigned-goes}
use Rattle.program_deeds.proofs.Inner.{inner-is}
use Rattle.program_deeds.proofs.laws.steps_are_deeds.Goals as goal

pub returns : goal.returns
returns c = record {
  inner = inner-is;
  done = done-goes;
  assigned = assigned-goes;
  point = point-is;
  took = took-is;
  file = file-is;
  asked = asked-is;
  got = got-is;
  answer = answer-is;
  items = items-are;
  files = files-are;
}
