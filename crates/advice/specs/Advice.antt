-- The advice for a program: each CHECKPOINT names what is due there on some path and nothing else, and each file has
-- the least depth that is enough. The rule is our own.
use Rattle.std.specs.Prelude.{◌≤◌, ◌<◌, ◌↔◌, ℕ, IsTrue}
use Rattle.gd_words.specs.Members.{is_among}
use Rattle.tal_tree.specs.declared.program.Program.{Program}
use Rattle.advice.specs.Choice.{Choice}
use Rattle.advice.specs.Due.{IsItemDue, IsFileDue, IsAskedAfter}

-- a depth of at least 1 is enough for a file: wherever some path asks the file again, fewer are counted
pub record IsDepthEnough (program : Program) (file depth : ℕ) : Type 0 where
  pub lowest : 1 ≤ depth
  pub counts : (count : ℕ) → IsAskedAfter program file count → count < depth

-- the least depth that is enough
pub record IsLeastDepth (program : Program) (file depth : ℕ) : Type 0 where
  pub enough : IsDepthEnough program file depth
  pub least : (other : ℕ) → IsDepthEnough program file other → depth ≤ other

-- exactly what is due on some path to a CHECKPOINT is chosen for it, and for each file the least depth
pub record IsAdvice (program : Program) (choice : Choice) : Type 0 where
  pub items : (number item : ℕ) → IsTrue (is_among item (choice.items number)) ↔ IsItemDue program number item
  pub files : (number file : ℕ) → IsTrue (is_among file (choice.files number)) ↔ IsFileDue program number file
  pub depths : (file : ℕ) → IsLeastDepth program file (choice.depth file)
