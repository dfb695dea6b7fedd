-- What the reader, the checker and the deck give: the premises of the headline.
use Rattle.std.specs.Prelude.{◌≡◌, ◌≤◌, ℕ, ℤ, List, length, slice_get, Some}
use Rattle.gd_words.specs.declared.limits.TheConstants.{MOST_MESSAGE_WORDS}
use Rattle.tal_tree.specs.declared.program.Program.{Program}
use Rattle.tal_tree.specs.declared.site.Kind.TheVariants.{Pair}
use Rattle.tal_tree.specs.declared.site.ProcessSpec.{ProcessSpec}
use Rattle.tal_tree.specs.declared.site.Site.{Site}
use Rattle.plain_semantics.specs.Machine.{next_request}
use Rattle.path_semantics.specs.Accepted.{IsAccepted}
use Rattle.tal_laws.specs.tal_reader.specs.Reads.{Reads}

-- each pair of the site runs a program that some text reads as and that is accepted, and no request of its terminals
-- has more than 16 words
pub record IsAcceptedSite (site : Site) : Type 0 where
  pub read : (number : ℕ) (spec : ProcessSpec) (program : Program) → slice_get site.processes number ≡ Some spec
      → spec.what ≡ Pair program
      → (text : List ℕ) × Reads text program
  pub accepted : (number : ℕ) (spec : ProcessSpec) (program : Program) → slice_get site.processes number ≡ Some spec
      → spec.what ≡ Pair program
      → IsAccepted program
  pub requests : (terminal entered : ℕ) (words : List ℤ) → next_request site terminal entered ≡ Some words
      → length words ≤ MOST_MESSAGE_WORDS
