-- The names of a program's globals and files, in capital letters.
use Rattle.std.specs.Prelude.{ℕ, List, [], slice_get, Option, Some, None}
use Rattle.tal_tree.specs.declared.program.FileUse.{FileUse}
use Rattle.tal_tree.specs.declared.program.Item.{Item}
use Rattle.tal_tree.specs.declared.program.Program.{Program}
use Rattle.finding_text.specs.declared.lists.Listed.{Listed}
use Rattle.finding_text.specs.declared.lists.Listed.TheVariants as listed

abbrev pub name_in : Option Item → List ℕ
name_in None = []
name_in (Some found) = found.name

abbrev pub item_name : Program → ℕ → List ℕ
item_name program item = name_in (slice_get program.items item)

abbrev pub opened_name : Program → Option FileUse → List ℕ
opened_name program None = []
opened_name program (Some opened) = item_name program opened.item

-- a file is named by its variable
abbrev pub file_name : Program → ℕ → List ℕ
file_name program file = opened_name program (slice_get program.files file)

abbrev pub listed_name : Program → Listed → List ℕ
listed_name program (listed.Item item) = item_name program item
listed_name program (listed.File file) = file_name program file
