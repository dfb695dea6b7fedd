-- The hold line: a device that stops its processor at once. It is this project's own, as is the rule by which a node
-- pulls one.
use Rattle.std.specs.Prelude.{ℕ, zero, suc, ◌+◌, ◌==◌, Option, Some, None, if◌then◌else◌}
use Rattle.alive_regroup.specs.Watching.{Watching, is_held}
use Rattle.packet_words.specs.gd_words.specs.declared.limits.TheConstants.{MOST_PROCESSORS}
use Rattle.packet_wires.specs.Nodes.{Node}

-- of so many processors from one on, the first whose line the node pulls: it isn't the node itself, and all agree that
-- it is silent
abbrev pub first_held : ℕ → Watching → ℕ → ℕ → Option ℕ
first_held node watch processor zero = None
first_held node watch processor (suc more) =
    if processor == node then first_held node watch (processor + 1) more
    else if is_held processor watch then Some processor
    else first_held node watch (processor + 1) more

-- the processor whose line a node pulls, of all that there may be
abbrev pub line_pulled : ℕ → Node → Option ℕ
line_pulled number node = first_held number node.watch 0 MOST_PROCESSORS
