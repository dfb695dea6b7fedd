-- What the answer of a judge says of a text.
use Rattle.std.specs.Prelude.{◌≡◌, [], Result, Ok, Err}
use Rattle.tal_tree.specs.gd_words.specs.Memory.{no_memory}
use Rattle.tal_syntax.specs.Grammar as g
use Rattle.tal_tree.specs.declared.fault.TalFault.{TalFault}
use Rattle.tal_tree.specs.declared.fault.TalFault.TheVariants as tal
use Rattle.tal_tree.specs.declared.program.Program.{Program}
use Rattle.tal_names.specs.declared.fault.RuleFault.{RuleFault}
use Rattle.tal_names.specs.Faults.{answer_of, IsLeast}
use Rattle.tal_rules.specs.Texts.{faults}
use Rattle.tal_meaning.specs.Programs.{tree_of}

-- the program is the text's, which has no fault; a fault is the least of the text's, but where memory ran out
abbrev pub Judged : g.Text → Result Program TalFault → Type 0
Judged t (Ok program) = (faults t ≡ []) × (program ≡ tree_of t)
Judged t (Err e) = (e ≡ tal.NoMemory no_memory → ⊥) → (f : RuleFault) × IsLeast f (faults t) × (e ≡ answer_of f)
