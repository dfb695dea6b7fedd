use Rattle.std.proofs.Common.{refl}
use Rattle.reader_guards.specs.Texts.{repeated}
use Rattle.reader_guards.proofs.Syntax.{reads}
use Rattle.reader_guards.proofs.loops.a_do_is_numbered_after_its_body.Goals as goal

pub returns : goal.returns
returns c = reads repeated _ refl refl refl refl
