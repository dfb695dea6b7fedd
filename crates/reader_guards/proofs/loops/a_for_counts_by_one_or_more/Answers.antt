use Rattle.std.proofs.Common.{refl}
use Rattle.std.specs.Int.{int_wrap}
use Rattle.reader_guards.specs.Texts.{by_zero, by_less}
use Rattle.reader_guards.proofs.Syntax.{refused}
use Rattle.reader_guards.proofs.loops.a_for_counts_by_one_or_more.Goals as goal

pub returns-clause-none : goal.returns-clause-none
unfolding int_wrap
returns-clause-none c = refused by_zero _ refl refl refl

pub returns-clause-below : goal.returns-clause-below
unfolding int_wrap
returns-clause-below c = refused by_less _ refl refl refl
