-- A round in which no act is made changes nothing, and neither do those after it.
use Rattle.std.proofs.Common.{◌≡◌, ℕ, zero, suc, ◌+◌, ◌≤◌, [], ◌∷◌, length, Option, Some, None, refl, ap, ◌∙◌, arith}
use Rattle.std.proofs.lemmas.List.{length-append}
use Rattle.tal_tree.specs.declared.act.Act.{Act}
use Rattle.tal_tree.specs.declared.site.Site.{Site}
use Rattle.plain_semantics.specs.Machine.{Plain, Made, made}
use Rattle.schedule.specs.declared.event.Event.{Event}
use Rattle.schedule.specs.declared.event.Event.TheVariants as event
use Rattle.tal_tree.specs.declared.act.Act.TheVariants.{Enter}
use Rattle.plain_machine.specs.Lines.{happened, repeated}
use Rattle.plain_machine.specs.Rounds.{Ran, ran_on, tried, swept, enter_of, next_move, print_of, round, rounds_on}

ran_on-grows : (ran : Ran) (act : Act) (m : Option Made) → length ran.acts ≤ length (ran_on ran act m).acts
ran_on-grows ran act None = omega arith
ran_on-grows ran act (Some m) = omega (arith, length-append ran.acts (act ∷ []))

swept-grows : (site : Site) (act : Plain → ℕ → Act) (n left : ℕ) (ran : Ran)
    → length ran.acts ≤ length (swept site act n left ran).acts
swept-grows site act n zero ran = omega arith
swept-grows site act n (suc left) ran =
    omega (
      arith,
      ran_on-grows ran (act ran.plain n) (made site ran.plain (act ran.plain n)),
      swept-grows site act (n + 1) left (tried site (act ran.plain n) ran),
    )

ran_on-same : (ran : Ran) (act : Act) (m : Option Made) → length (ran_on ran act m).acts ≤ length ran.acts
    → ran_on ran act m ≡ ran
ran_on-same ran act None short = refl
ran_on-same ran act (Some m) short = absurd (omega (arith, length-append ran.acts (act ∷ [])))

swept-same : (site : Site) (act : Plain → ℕ → Act) (n left : ℕ) (ran : Ran)
    → length (swept site act n left ran).acts ≤ length ran.acts → swept site act n left ran ≡ ran
swept-same site act n zero ran short = refl
swept-same site act n (suc left) ran short =
    let grows = swept-grows site act (n + 1) left (tried site (act ran.plain n) ran) in
    let here : length (ran_on ran (act ran.plain n) (made site ran.plain (act ran.plain n))).acts ≤ length ran.acts =
    omega (arith, grows, short) in
    let same = ran_on-same ran (act ran.plain n) (made site ran.plain (act ran.plain n)) here in
    let rest : length (swept site act (n + 1) left ran).acts ≤ length ran.acts =
    omega (arith, ap (λ r. length (swept site act (n + 1) left r).acts) same, short) in
    ap (swept site act (n + 1) left) same ∙ swept-same site act (n + 1) left ran rest

-- a round that adds no act leaves the run as it was
pub round-same : (site : Site) (ran : Ran) → length (round site ran).acts ≡ length ran.acts → round site ran ≡ ran
round-same site ran equal =
    let entered = swept site enter_of 0 (length site.terminals) ran in
    let moved = swept site next_move 0 (length site.processes) entered in
    let first = swept-grows site enter_of 0 (length site.terminals) ran in
    let second = swept-grows site next_move 0 (length site.processes) entered in
    let third = swept-grows site print_of 0 (length site.terminals) moved in
    let enters : entered ≡ ran =
    swept-same site enter_of 0 (length site.terminals) ran (omega (arith, first, second, third, equal)) in
    let moves : moved ≡ entered =
    swept-same site next_move 0 (length site.processes) entered (omega (arith, first, second, third, equal)) in
    let prints : round site ran ≡ moved =
    swept-same site print_of 0 (length site.terminals) moved (omega (arith, first, second, third, equal)) in
    prints ∙ moves ∙ enters

pub rounds_on-same : (site : Site) (count : ℕ) (ran : Ran) → round site ran ≡ ran → rounds_on site count ran ≡ ran
rounds_on-same site zero ran same = refl
rounds_on-same site (suc count) ran same = ap (rounds_on site count) same ∙ rounds_on-same site count ran same

-- an event that adds no act leaves the run as it was, and so it does each time
pub happened-same : (site : Site) (event : Event) (ran : Ran) → length (happened site event ran).acts ≡ length ran.acts
    → happened site event ran ≡ ran
happened-same site (event.Run process) ran equal =
    ran_on-same ran (next_move ran.plain process) (made site ran.plain (next_move ran.plain process))
    (omega (arith, equal))
happened-same site (event.Enter terminal) ran equal =
    ran_on-same ran (Enter terminal) (made site ran.plain (Enter terminal)) (omega (arith, equal))
happened-same site (event.Deliver bus k) ran equal = refl
happened-same site (event.Lose bus k) ran equal = refl
happened-same site (event.Repeat bus k) ran equal = refl
happened-same site (event.Tick node) ran equal = refl
happened-same site (event.Fail processor) ran equal = refl
happened-same site (event.Reload processor) ran equal = refl
happened-same site (event.Drive turn) ran equal = refl

pub repeated-same : (site : Site) (event : Event) (times : ℕ) (ran : Ran) → happened site event ran ≡ ran
    → repeated site event times ran ≡ ran
repeated-same site event zero ran same = refl
repeated-same site event (suc times) ran same =
    ap (repeated site event times) same ∙ repeated-same site event times ran same
