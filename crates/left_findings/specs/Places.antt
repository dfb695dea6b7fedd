-- At which line of its program's text a copy stands.
use Rattle.std.specs.Prelude.{ℕ, Option, None}
use Rattle.machine_views.specs.declared.views.CopyView.{CopyView}
use Rattle.program_ends.specs.Ends.{line_of_number}
use Rattle.tal_tree.specs.declared.site.Kind.{Kind}
use Rattle.tal_tree.specs.declared.site.Kind.TheVariants as kind

-- the line of what it does next; a disc has no text
abbrev pub line_of_copy : Kind → CopyView → Option ℕ
line_of_copy (kind.Disc sectors mirrored) copy = None
line_of_copy (kind.Pair program) copy = line_of_number program copy.next
