-- A server that takes a request and stops: its copy ends, and holds what it did since the take.
use Rattle.std.specs.Prelude.{pos, List, [], ◌∷◌, codes}
use Rattle.tal_tree.specs.declared.expression.Expr.{Number}
use Rattle.tal_tree.specs.declared.expression.Variable.TheVariants as variable
use Rattle.tal_tree.specs.declared.site.Kind.TheVariants as kind
use Rattle.tal_tree.specs.declared.site.Site.{Site}
use Rattle.tal_tree.specs.declared.statement.Statement.{Statement}
use Rattle.tal_tree.specs.declared.statement.What as what
use Rattle.schedule.specs.declared.event.Event.{Event}
use Rattle.schedule.specs.declared.event.Event.TheVariants as event
use Rattle.world_semantics.specs.Examples.{delivery, line, run, server}
use Rattle.message_wires.specs.Examples.{end_of}
use Rattle.message_wires.specs.Play.{MachineState, machine_at_boot}

abbrev leaving : List Statement
leaving = line 4 (what.ReadUpdate 3 (Number (pos 1)) (variable.Simple 1)) ∷ line 5 what.Stop ∷ []

-- as a pair in the processors 0 and 1, and a terminal that sends it 5
abbrev pub leaving_site : Site
leaving_site = record {
  processors = 2;
  processes = record { name = codes "$ADD"; primary = 0; backup = 1; what = kind.Pair (server leaving) } ∷ [];
  terminals = record { name = codes "$T"; target = 0; requests = (pos 5 ∷ []) ∷ [] } ∷ [];
}

-- the request is entered, the program comes to READUPDATE, the request is delivered and taken, and the program stops
abbrev pub leaving_events : List Event
leaving_events = event.Enter 0 ∷ run ∷ run ∷ run ∷ delivery ∷ run ∷ run ∷ []

abbrev pub leaving_end : MachineState
leaving_end = end_of (machine_at_boot leaving_site) leaving_events
