-- The drawn runs of a mixed round, one process at a time.
use Rattle.std.proofs.Common.{◌≡◌, ℕ, suc, ◌+◌, ◌-◌, ◌<◌, ◌%◌, nat_lt, if◌then◌else◌, ap, ◌∙◌, arith}
use Rattle.std.proofs.lemmas.Bool.{lt-ltb}
use Rattle.schedule.specs.declared.event.Event.TheVariants as event
use Rattle.player.specs.declared.standing.Sizes.{Sizes}
use Rattle.player.specs.declared.standing.MixedPlace.TheVariants as place
use Rattle.player.specs.Mixes.{word, drawn, turn, drawn_runs, runs_from}

left-more : (k count : ℕ) → k < count → count - k ≡ suc (count - (k + 1))
left-more k count within = omega arith

runs_from-more : (sizes : Sizes) (x y process draws : ℕ) → process < sizes.processes
    → runs_from sizes x y process draws
    ≡ (if nat_lt 0 (word draws % 4)
    then turn (event.Run process) (place.Runs (process + 1) (word draws % 4 - 1)) (drawn draws)
    else runs_from sizes x y (process + 1) (drawn draws))
runs_from-more sizes x y process draws within =
    ap (λ more. drawn_runs sizes x y more process draws) (left-more process sizes.processes within)

-- the process runs, where some runs of it were drawn
pub runs_from-some : (sizes : Sizes) (x y process draws : ℕ) → process < sizes.processes → 0 < word draws % 4
    → runs_from sizes x y process draws ≡ turn (event.Run process) (place.Runs (process + 1) (word draws % 4 - 1))
    (drawn draws)
runs_from-some sizes x y process draws within some =
    runs_from-more sizes x y process draws within
    ∙ ap
    (λ runs. if runs
    then turn (event.Run process) (place.Runs (process + 1) (word draws % 4 - 1)) (drawn draws)
    else runs_from sizes x y (process + 1) (drawn draws))
    (lt-ltb 0 (word draws % 4) some)

-- and else it is passed over
pub runs_from-none : (sizes : Sizes) (x y process draws : ℕ) → process < sizes.processes → word draws % 4 ≡ 0
    → runs_from sizes x y process draws ≡ runs_from sizes x y (process + 1) (drawn draws)
runs_from-none sizes x y process draws within none =
    runs_from-more sizes x y process draws within
    ∙ ap
    (λ times. if nat_lt 0 times
    then turn (event.Run process) (place.Runs (process + 1) (word draws % 4 - 1)) (drawn draws)
    else runs_from sizes x y (process + 1) (drawn draws))
    none
