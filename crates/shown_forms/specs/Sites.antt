-- Sites of which a report can tell all that they may show.
use Rattle.std.specs.Prelude.{◌≡◌, ◌<◌, ◌≤◌, ℕ, ℤ, ◌+◌, List, slice_get, Some}
use Rattle.plain_semantics.specs.Machine.{next_request}
use Rattle.tal_tree.specs.Regular.{IsRegular}
use Rattle.tal_tree.specs.declared.site.Kind.{Kind}
use Rattle.tal_tree.specs.declared.site.Kind.TheVariants as kind
use Rattle.tal_tree.specs.declared.site.ProcessSpec.{ProcessSpec}
use Rattle.tal_tree.specs.declared.site.Site.{Site}
use Rattle.shown_forms.specs.Numbers.{HasWordNumbers, IsMessage}

-- the sectors of a disc have numbers of 32 bits; a program is regular, and its numbers are words
abbrev pub IsTellableKind : Kind → Type 0
IsTellableKind (kind.Disc sectors mirrored) = sectors ≤ 4294967296
IsTellableKind (kind.Pair program) = IsRegular program × HasWordNumbers program

-- so is each process, and the requests of a terminal are words and few
pub record IsTellable (site : Site) : Type 0 where
  pub processes : (number : ℕ) (spec : ProcessSpec) → slice_get site.processes number ≡ Some spec
      → IsTellableKind spec.what
  pub requests : (terminal entered : ℕ) (words : List ℤ) → next_request site terminal entered ≡ Some words
      → IsMessage words × (entered + 1 < 4294967296)
