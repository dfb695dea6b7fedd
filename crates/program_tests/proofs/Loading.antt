-- Everything may be listed.
use Rattle.std.proofs.Common.{◌≡◌, ℕ, List, sym, subst}
use Rattle.tal_tree.specs.Regular.{AreListed}
use Rattle.process_semantics.specs.Process.{Runs}
use Rattle.process_semantics.specs.State.{Execution}
use Rattle.process_images.specs.Images.{asking_from, listable_from}
use Rattle.process_images.proofs.Everything.{whole-listed}

pub all-are-listed : (execution : Execution) (items files : List ℕ) → items ≡ listable_from 0 execution.program.items
    → files ≡ asking_from 0 execution.program.files
    → AreListed execution.program items files
all-are-listed execution items files are asking =
    subst (λ (others : List ℕ). AreListed execution.program items others) (sym asking)
    (subst (λ (others : List ℕ). AreListed execution.program others (asking_from 0 execution.program.files)) (sym are)
    (whole-listed (Runs execution.program execution.state)))
