-- What the built declarations stand for in the grammar.
use Rattle.std.specs.Prelude.{List}
use Rattle.tal_syntax.specs.Grammar as g
use Rattle.tal_syntax.specs.Seen.Chained.{chained}
use Rattle.tal_syntax.specs.declared.declaration.Atom.{Atom}
use Rattle.tal_syntax.specs.declared.declaration.Atom.TheVariants as atom
use Rattle.tal_syntax.specs.declared.declaration.Constant.{Constant}
use Rattle.tal_syntax.specs.declared.declaration.Constant.TheVariants as constant
use Rattle.tal_syntax.specs.declared.declaration.Bounds.{Bounds}
use Rattle.tal_syntax.specs.declared.declaration.Bounds.TheVariants as bounds
use Rattle.tal_syntax.specs.declared.declaration.Item.{Item}
use Rattle.tal_syntax.specs.declared.declaration.NextItem.{NextItem}
use Rattle.tal_syntax.specs.declared.declaration.Literal.{Literal}
use Rattle.tal_syntax.specs.declared.declaration.NextLiteral.{NextLiteral}
use Rattle.tal_syntax.specs.declared.declaration.Globals.{Globals}
use Rattle.tal_syntax.specs.declared.declaration.Globals.TheVariants as globals
use Rattle.tal_syntax.specs.declared.declaration.NextName.{NextName}
use Rattle.tal_syntax.specs.declared.declaration.Parameters.{Parameters}
use Rattle.tal_syntax.specs.declared.declaration.Parameters.TheVariants as parameters
use Rattle.tal_syntax.specs.declared.declaration.Local.{Local}
use Rattle.tal_syntax.specs.declared.declaration.Gives.{Gives}
use Rattle.tal_syntax.specs.declared.declaration.Gives.TheVariants as gives
use Rattle.tal_syntax.specs.declared.declaration.Main.{Main}
use Rattle.tal_syntax.specs.declared.declaration.Main.TheVariants as main
use Rattle.tal_syntax.specs.declared.declaration.Heading.{Heading}

abbrev pub seen_atom : Atom → g.Atom
seen_atom (atom.Number at value) = g.digits at value
seen_atom (atom.Name at name) = g.known at name

abbrev pub seen_constant : Constant → g.Constant
seen_constant (constant.Positive a) = g.positive (seen_atom a)
seen_constant (constant.Negative sign a) = g.negative sign (seen_atom a)

abbrev pub seen_bounds : Bounds → g.Bounds
seen_bounds bounds.Simple = g.unbounded
seen_bounds (bounds.Array start low colon high close) =
    g.bounded start (seen_constant low) colon (seen_constant high) close

abbrev pub seen_item : Item → g.Item
seen_item i = g.item i.at i.name (seen_bounds i.bounds)

abbrev pub link_items : NextItem → g.Items → g.Items
link_items n rest = g.more_items n.comma (seen_item n.item) rest

abbrev pub seen_items : List NextItem → g.Items
seen_items ns = chained link_items ns g.no_items

abbrev pub seen_literal : Literal → g.Literal
seen_literal l = g.literal l.at l.name l.equal (seen_constant l.constant)

abbrev pub link_literals : NextLiteral → g.Literals → g.Literals
link_literals n rest = g.more_literals n.comma (seen_literal n.literal) rest

abbrev pub seen_literals : List NextLiteral → g.Literals
seen_literals ns = chained link_literals ns g.no_literals

abbrev pub seen_globals : Globals → g.Globals
seen_globals (globals.Int l) = g.int_line l.int (seen_item l.first) (seen_items l.more) l.end
seen_globals (globals.Literal l) = g.literal_line l.word (seen_literal l.first) (seen_literals l.more) l.end

abbrev pub link_lines : Globals → g.Lines → g.Lines
link_lines n rest = g.more_lines (seen_globals n) rest

abbrev pub seen_lines : List Globals → g.Lines
seen_lines ns = chained link_lines ns g.no_lines

abbrev pub link_names : NextName → g.Names → g.Names
link_names n rest = g.more_names n.comma n.at n.name rest

abbrev pub seen_names : List NextName → g.Names
seen_names ns = chained link_names ns g.no_names

abbrev pub seen_parameters : Parameters → g.Parameters
seen_parameters parameters.Absent = g.no_parameters
seen_parameters (parameters.Listed l) = g.parameters l.start l.at l.name (seen_names l.more) l.close

abbrev pub seen_local : Local → g.Local
seen_local l = g.local l.int l.at l.name (seen_names l.more) l.end

abbrev pub link_locals : Local → g.Locals → g.Locals
link_locals n rest = g.more_locals (seen_local n) rest

abbrev pub seen_locals : List Local → g.Locals
seen_locals ns = chained link_locals ns g.no_locals

abbrev pub seen_gives : Gives → g.Gives
seen_gives gives.Nothing = g.gives_nothing
seen_gives (gives.Int at) = g.gives_int at

abbrev pub seen_main : Main → g.Main
seen_main main.Absent = g.not_main
seen_main (main.Word at) = g.is_main at

abbrev pub seen_heading : Heading → g.Heading
seen_heading h =
    g.heading (seen_gives h.gives) h.proc_at h.at h.name (seen_parameters h.parameters) (seen_main h.main) h.end
