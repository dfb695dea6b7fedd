use Rattle.schedule_loop.specs.Rules.{IsPlayBy, sight_of}
use Rattle.line_lengths.proofs.Lengths.{so-many}
use Rattle.line_lengths.proofs.laws.a_schedule_asks_for_so_many_events.Goals as goal

pub returns : goal.returns
returns g c = λ sizes room start lines stop few. so-many sizes room (sight_of g.M.ScheduleMachine.rules)
    (IsPlayBy g.M.ScheduleMachine.rules) start lines stop few
