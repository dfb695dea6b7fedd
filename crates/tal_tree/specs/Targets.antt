-- Files that are opened to `$RECEIVE`.
use Rattle.std.specs.Prelude.{Bool, true, false}
use Rattle.tal_tree.specs.declared.program.FileUse.{FileUse}
use Rattle.tal_tree.specs.declared.program.Target.{Target}
use Rattle.tal_tree.specs.declared.program.Target.TheVariants as target

-- whether a file is opened to `$RECEIVE`, by its target and by its use
abbrev pub is_receive : Target → Bool
is_receive target.Receive = true
is_receive (target.Process name) = false

abbrev pub receives : FileUse → Bool
receives opened = is_receive opened.target
