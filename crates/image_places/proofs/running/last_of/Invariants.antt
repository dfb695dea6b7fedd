use Rattle.std.proofs.Common.{◌≡◌, ◌-◌, None}
use Rattle.std.specs.Option.{option_map}
use Rattle.image_places.specs.Running.{last_of, running_now}
use Rattle.image_places.proofs.running.last_of.Given as goal

abbrev pub invariant-loop : goal.invariant-loop
invariant-loop l =
    last_of l.program (l.count - l.counter) l.left (option_map running_now l.last)
    ≡ last_of l.program l.count l.words None
