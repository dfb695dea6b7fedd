-- How many acts a run does.
use Rattle.std.proofs.Common.{◌≡◌, ◌<◌, ◌≤◌, ℕ, ◌+◌, Bool, List, [], ◌∷◌, ◌++◌, length, Option, reverse, refl, ap}
use Rattle.std.proofs.Common.{◌∙◌, arith, length-append, map}
use Rattle.std.proofs.lemmas.List.{length-reverse}
use Rattle.tal_tree.specs.declared.act.Act.{Act}
use Rattle.tal_tree.specs.declared.site.Site.{Site}
use Rattle.schedule.specs.declared.event.Event.{Event}
use Rattle.schedule.specs.declared.line.Line.{Line}
use Rattle.player.specs.declared.stop.ProcessorStop.{ProcessorStop}
use Rattle.schedule_runs.specs.message_wires.specs.Play.{MachineState}
use Rattle.schedule_runs.specs.message_wires.specs.Runs.{IsPlayed}
use Rattle.schedule_runs.specs.pair_machine.specs.number_laws.proofs.Played.{kinds_of, played-within}
use Rattle.schedule_runs.specs.pair_machine.specs.number_laws.proofs.Within.{WorldWithin, held_in}
use Rattle.schedule_runs.proofs.Played.{played}
use Rattle.schedule_runs.specs.Rules.{pair_rules}
use Rattle.schedule_runs.specs.Runs.{course_on}
use Rattle.schedule_runs.specs.schedule_loop.specs.Ends.{EndsBy}
use Rattle.schedule_runs.specs.schedule_loop.specs.declared.ran.Ending.{Ending}
use Rattle.schedule_runs.specs.schedule_loop.specs.declared.ran.Ending.TheVariants.{Idle, Cut, Second, Lost}
use Rattle.schedule_runs.specs.world_copies.specs.Closed.{closed_world}
use Rattle.world_semantics.specs.Shares.{closed, closed_by, closed_by_all, let_go}
use Rattle.world_semantics.specs.World.{Pair, World}

closed-long : (kept : List Act) (pairs : List Pair)
    → length (closed_by_all kept pairs) ≡ length kept + held_in pairs
closed-long kept [] = omega arith
closed-long kept (pair ∷ pairs) =
    let rest = closed-long (closed_by kept pair) pairs in
    let first = length-append pair.first.held kept in
    let second = length-append pair.second.held (pair.first.held ++ kept) in
    omega (arith, rest, first, second)

none-held : (kept : List Act) (pairs : List Pair) → closed_by_all kept (map let_go pairs) ≡ kept
none-held kept [] = refl
none-held kept (pair ∷ pairs) = none-held kept pairs

closed-again : (w : World) → closed (closed_world w) ≡ closed w
closed-again w = ap reverse (none-held (closed_by_all w.kept w.processes) w.processes)

closed-few : (n : ℕ) (kinds : ℕ → Bool) (w : World) → WorldWithin n kinds w → length (closed w) ≤ n
closed-few n kinds w within =
    let all = length-reverse (closed_by_all w.kept w.processes) in
    let long = closed-long w.kept w.processes in
    let most = within.acts in
    omega (arith, all, long, most)

played-few : (site : Site) (events : List Event) (s : MachineState) → length events < 4294967295
    → IsPlayed site events s → length (closed s.world) < 4294967295
played-few site events s few is =
    let most = closed-few (length events) (kinds_of site) s.world (played-within site events s is few).0 in
    omega (arith, few, most)

-- at each end of a run
pub ended-few : (site : Site) (lines : List Line) (stop : Option ProcessorStop) (events : List Event)
    (s left : MachineState) (asked : ℕ) (ending : Ending)
    → length events < 4294967295 → EndsBy pair_rules (course_on site lines stop) events s left asked ending
    → length (closed left.world) < 4294967295
ended-few site lines stop events s left asked Idle few ends =
    let most = played-few site events s few (played {lines = lines} {stop = stop} ends.0.played) in
    let same = ap length (ap (λ (one : MachineState). closed one.world) ends.2
    ∙ closed-again s.world) in
    omega (arith, most, same)
ended-few site lines stop events s left asked Cut few ends =
    let most = played-few site events s few (played {lines = lines} {stop = stop} ends.0.played) in
    let same = ap (λ (one : MachineState). length (closed one.world)) ends.2 in
    omega (arith, most, same)
ended-few site lines stop events s left asked (Second processor) few ends =
    let most = played-few site events s few (played {lines = lines} {stop = stop} ends.0.played) in
    let same = ap (λ (one : MachineState). length (closed one.world)) ends.1 in
    omega (arith, most, same)
ended-few site lines stop events s left asked (Lost process) few ends =
    let most = played-few site events s few (played {lines = lines} {stop = stop} ends.0.played) in
    let same = ap (λ (one : MachineState). length (closed one.world)) ends.1 in
    omega (arith, most, same)
