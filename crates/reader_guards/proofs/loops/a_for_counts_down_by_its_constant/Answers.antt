use Rattle.std.proofs.Common.{refl}
use Rattle.std.specs.Int.{int_wrap}
use Rattle.reader_guards.specs.Texts.{downward}
use Rattle.reader_guards.proofs.Syntax.{reads}
use Rattle.reader_guards.proofs.loops.a_for_counts_down_by_its_constant.Goals as goal

pub returns : goal.returns
unfolding int_wrap
returns c = reads downward _ refl refl refl refl
