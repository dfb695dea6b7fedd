use Rattle.std.proofs.Common.{subst, sym}
use Rattle.schedule_loop.specs.Plans.{PlaysSeen, Sight}
use Rattle.schedule_loop.specs.Rules.{IsPlayBy}
use Rattle.machine_states.specs.States.{State}
use Rattle.schedule_loop.proofs.Plain.{plays-on, plays-seen}
use Rattle.schedule_loop.proofs.laws.counts_of_states_give_the_same_runs.Goals as goal

pub returns-clause-there : goal.returns-clause-there
returns-clause-there g c = λ counts same sizes start lines stop events agenda s plays.
    plays-on (subst (λ (sight : State g.M.ScheduleMachine.Wires → Sight). PlaysSeen sizes sight
    (IsPlayBy g.M.ScheduleMachine.rules) start lines stop events agenda s) same plays)

pub returns-clause-back : goal.returns-clause-back
returns-clause-back g c = λ counts same sizes start lines stop events agenda s plays.
    subst (λ (sight : State g.M.ScheduleMachine.Wires → Sight). PlaysSeen sizes sight
    (IsPlayBy g.M.ScheduleMachine.rules) start lines stop events agenda s) (sym same) (plays-seen plays)
