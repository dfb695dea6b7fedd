-- A word of a global that a process set. Our own wording.
use Rattle.std.specs.Fmt.{signed_decimal}
use Rattle.std.specs.Prelude.{ℕ, ℤ, pos, ◌+ℤ◌, nat_le, if◌then◌else◌, List, [], ◌++◌, codes, slice_get, Option, Some}
use Rattle.std.specs.Prelude.{None}
use Rattle.std.specs.Option.{option_and_then}
use Rattle.tal_tree.specs.declared.program.Item.{Item}
use Rattle.tal_tree.specs.declared.program.Shape.{Shape}
use Rattle.tal_tree.specs.declared.program.Shape.TheVariants as shape
use Rattle.tal_tree.specs.declared.site.Kind.{Kind}
use Rattle.tal_tree.specs.declared.site.Kind.TheVariants as kind
use Rattle.tal_tree.specs.declared.site.ProcessSpec.{ProcessSpec}
use Rattle.tal_tree.specs.declared.site.Site.{Site}

abbrev pub item_in : ℕ → Kind → Option Item
item_in item (kind.Disc sectors mirrored) = None
item_in item (kind.Pair program) = slice_get program.items item

-- a global of a process by its number
abbrev pub item_at : Site → ℕ → ℕ → Option Item
item_at site process item =
    option_and_then (λ (spec : ProcessSpec). item_in item spec.what) (slice_get site.processes process)

-- the index of a word in an array that begins with this one: an array has at most 65,536 words
abbrev pub index_text : ℤ → ℕ → List ℕ
index_text low place =
    if nat_le place 65535 then codes "[" ++ signed_decimal (low +ℤ pos place) ++ codes "]" else []

-- which word of a global is meant
abbrev pub place_text : Shape → ℕ → List ℕ
place_text shape.Simple place = []
place_text (shape.Array low high) place = index_text low place
place_text (shape.File file) place = []

abbrev pub item_text : Option Item → ℕ → List ℕ
item_text None place = []
item_text (Some item) place = item.name ++ place_text item.shape place

abbrev pub set_text : Site → ℕ → ℕ → ℕ → ℤ → List ℕ
set_text site process item place value =
    item_text (item_at site process item) place ++ codes " = " ++ signed_decimal value
