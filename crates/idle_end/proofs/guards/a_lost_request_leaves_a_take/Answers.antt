use Rattle.std.proofs.Common.{◌≡◌, ◌≢◌, ℕ, zero, suc, Option, Some, None, slice_get, refl, subst}
use Rattle.tal_tree.specs.declared.act.Act.TheVariants.{Take}
use Rattle.plain_semantics.specs.Machine.{Made, made}
use Rattle.process_histories.specs.Served.{disc_site}
use Rattle.world_semantics.specs.Running.{run_done}
use Rattle.world_semantics.specs.World.{Terminal}
use Rattle.world_semantics.proofs.Lists.{some-same}
use Rattle.idle_end.specs.Examples.{lost}
use Rattle.idle_end.proofs.Quiet.{disc-idle}
use Rattle.idle_end.proofs.guards.a_lost_request_leaves_a_take.Goals as goal

lacks : (number : ℕ) (terminal : Terminal) → slice_get lost.world.terminals number ≡ Some terminal
    → terminal.entered ≢ terminal.printed
lacks zero terminal there = subst (λ (t : Terminal). t.entered ≢ t.printed) (some-same there) (λ even. cc)
lacks (suc number) terminal there = absurd (cc)

none : (number : ℕ) → run_done disc_site number lost.world ≡ None
none zero = refl
none (suc number) = refl

pub returns-clause-idle : goal.returns-clause-idle
returns-clause-idle c = disc-idle disc_site lost refl refl refl lacks none

-- the machine after these acts can take a request
abbrev CanTake : Option Made → Type 0
CanTake None = Unit {0}
CanTake (Some m) = made disc_site m.plain (Take 0 0) ≢ None

pub returns-clause-left : goal.returns-clause-left
returns-clause-left c = λ left. subst CanTake left.1 (λ none. cc) (left.2 (Take 0 0))
