use Rattle.std.proofs.Common.{refl}
use Rattle.std.specs.Int.{int_wrap}
use Rattle.token_guards.proofs.tokens.an_octal_number_is_a_pattern.Goals as goal

pub returns-clause-least : goal.returns-clause-least
unfolding int_wrap
returns-clause-least c = refl
