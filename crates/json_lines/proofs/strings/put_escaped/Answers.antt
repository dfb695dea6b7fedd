use Rattle.std.proofs.Common.{rules}
use Rattle.json.specs.Print.{escape_byte}
use Rattle.json_lines.proofs.strings.put_escaped.Goals as goal

pub returns-then-letter-gt0 : goal.returns-then-letter-gt0
unfolding escape_byte
returns-then-letter-gt0 c = search rules

pub returns-then-sign-lt32 : goal.returns-then-sign-lt32
unfolding escape_byte
returns-then-sign-lt32 c = search rules

pub returns-else-sign-lt32 : goal.returns-else-sign-lt32
unfolding escape_byte
returns-else-sign-lt32 c = search rules
