-- What is to be done with a deck. Our own rule.
use Rattle.std.specs.Prelude.{ℕ, Bool, true, false, nat_lt, Some, None}
use Rattle.tal_tree.specs.declared.site.Site.{Site}
use Rattle.command_dues.specs.declared.task.Task.{Task}
use Rattle.command_dues.specs.declared.task.Task.TheVariants.{Run, Check, Sweep, Advise}
use Rattle.command_dues.specs.declared.task.Telling.TheVariants.{Counts}

-- whether the stop, where there is one, is of a processor of the site
abbrev pub can_stop : Task → Site → Bool
can_stop (Run tells (Some stop)) site = nat_lt stop.processor site.processors
can_stop (Run tells None) site = true
can_stop Check site = true
can_stop (Sweep runs) site = true
can_stop Advise site = true

-- whether the programs of a deck have to be accepted before anything is done with it: not where advice is asked
abbrev pub judges : Task → Bool
judges Advise = false
judges _ = true

-- to run the load deck with so many requests of each terminal, and to count what is shown
abbrev pub load_task : ℕ → Task
load_task requests = Run (Counts requests) None
