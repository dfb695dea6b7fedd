use Rattle.std.proofs.Common.{refl}
use Rattle.std.specs.Int.{int_wrap}
use Rattle.reader_guards.specs.Texts.{upward}
use Rattle.reader_guards.proofs.Syntax.{reads}
use Rattle.reader_guards.proofs.loops.a_for_counts_by_one_where_nothing_is_said.Goals as goal

pub returns : goal.returns
unfolding int_wrap
returns c = reads upward _ refl refl refl refl
