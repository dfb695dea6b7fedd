use Rattle.json_lines.proofs.Printed.{string_is}
use Rattle.json_lines.proofs.Signs.{string_has, strings_have}
use Rattle.json_lines.proofs.laws.strings_stand_on_one_line.Goals as goal

pub returns-clause-written : goal.returns-clause-written
returns-clause-written c = string_is

pub returns-clause-string : goal.returns-clause-string
returns-clause-string c = string_has

pub returns-clause-strings : goal.returns-clause-strings
returns-clause-strings c = strings_have
