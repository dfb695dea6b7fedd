-- A run of rounds tells its acts and what they show.
use Rattle.std.proofs.Common.{◌≡◌, ◌↔◌, ℕ, zero, suc, ◌+◌, Bool, IsTrue, List, [], ◌∷◌, length, Option, Some, None}
use Rattle.std.proofs.Common.{is_some, refl, ap, sym, ◌∙◌}
use Rattle.std.specs.Option.{option_map, unwrap_or}
use Rattle.tal_tree.specs.declared.act.Act.{Act}
use Rattle.tal_tree.specs.declared.site.Site.{Site}
use Rattle.plain_semantics.specs.Machine.{Plain, Made, made, made_before, made_all, plain_start, IsPossible, IsStill}
use Rattle.plain_semantics.specs.Machine.{IsNoneLeft, shown_by}
use Rattle.plain_semantics.proofs.Runs.{made_all-snoc}
use Rattle.plain_machine.proofs.AllStill.{all-still, still-told}
use Rattle.plain_machine.specs.Stillness.{is_still}
use Rattle.schedule.specs.declared.event.Event.{Event}
use Rattle.schedule.specs.declared.event.Event.TheVariants as event
use Rattle.schedule.specs.declared.line.Line.{Line}
use Rattle.schedule.specs.declared.line.Line.TheVariants as line
use Rattle.tal_tree.specs.declared.act.Act.TheVariants.{Enter}
use Rattle.plain_machine.specs.Lines.{happened, repeated, line_played, lines_played, run_of}
use Rattle.plain_machine.specs.Rounds.{Ran, ran_on, tried, swept, enter_of, next_move, print_of, round, rounds_on}
use Rattle.plain_machine.specs.Rounds.{run_start}

-- the run's acts come to its machine, and show what it tells
pub record Told (site : Site) (ran : Ran) : Type 0 where
  pub told : made_all site (plain_start site) ran.acts ≡ Some (record { plain = ran.plain; shown = ran.shown })

told-on : (site : Site) (ran : Ran) (act : Act) (m : Option Made) → made site ran.plain act ≡ m → Told site ran
    → Told site (ran_on ran act m)
told-on site ran act None gone t = t
told-on site ran act (Some m) came t = record {
  told = made_all-snoc site ran.acts act (plain_start site) (record { plain = ran.plain; shown = ran.shown }) t.told
      ∙ ap (option_map (made_before ran.shown)) came;
}

told-swept : (site : Site) (act : Plain → ℕ → Act) (n left : ℕ) (ran : Ran) → Told site ran
    → Told site (swept site act n left ran)
told-swept site act n zero ran t = t
told-swept site act n (suc left) ran t =
    told-swept site act (n + 1) left (tried site (act ran.plain n) ran)
    (told-on site ran (act ran.plain n) (made site ran.plain (act ran.plain n)) refl t)

told-round : (site : Site) (ran : Ran) → Told site ran → Told site (round site ran)
told-round site ran t =
    let entered = swept site enter_of 0 (length site.terminals) ran in
    let moved = swept site next_move 0 (length site.processes) entered in
    told-swept site print_of 0 (length site.terminals) moved
    (told-swept site next_move 0 (length site.processes) entered
    (told-swept site enter_of 0 (length site.terminals) ran t))

told-rounds : (site : Site) (count : ℕ) (ran : Ran) → Told site ran → Told site (rounds_on site count ran)
told-rounds site zero ran t = t
told-rounds site (suc count) ran t = told-rounds site count (round site ran) (told-round site ran t)

told-tried : (site : Site) (act : Act) (ran : Ran) → Told site ran → Told site (tried site act ran)
told-tried site act ran t = told-on site ran act (made site ran.plain act) refl t

told-happened : (site : Site) (event : Event) (ran : Ran) → Told site ran → Told site (happened site event ran)
told-happened site (event.Run process) ran t = told-tried site (next_move ran.plain process) ran t
told-happened site (event.Enter terminal) ran t = told-tried site (Enter terminal) ran t
told-happened site (event.Deliver bus k) ran t = t
told-happened site (event.Lose bus k) ran t = t
told-happened site (event.Repeat bus k) ran t = t
told-happened site (event.Tick node) ran t = t
told-happened site (event.Fail processor) ran t = t
told-happened site (event.Reload processor) ran t = t
told-happened site (event.Drive turn) ran t = t

told-repeated : (site : Site) (event : Event) (times : ℕ) (ran : Ran) → Told site ran
    → Told site (repeated site event times ran)
told-repeated site event zero ran t = t
told-repeated site event (suc left) ran t =
    told-repeated site event left (happened site event ran) (told-happened site event ran t)

told-line : (site : Site) (line : Line) (ran : Ran) → Told site ran → Told site (line_played site line ran)
told-line site (line.One event) ran t = told-happened site event ran t
told-line site (line.Many event times) ran t = told-repeated site event times ran t
told-line site (line.Drain rounds) ran t = told-rounds site rounds ran t
told-line site (line.Mix start rounds) ran t = t
told-line site (line.Mute node rounds) ran t = t
told-line site (line.Until writes count rounds) ran t = t

told-lines : (site : Site) (lines : List Line) (ran : Ran) → Told site ran → Told site (lines_played site lines ran)
told-lines site [] ran t = t
told-lines site (line ∷ lines) ran t = told-lines site lines (line_played site line ran) (told-line site line ran t)

pub told-run : (site : Site) (lines : List Line) → Told site (run_of site lines)
told-run site lines = told-lines site lines (run_start site) (record { told = refl })

pub run-possible : (site : Site) (lines : List Line) (acts : List Act) → acts ≡ (run_of site lines).acts
    → IsPossible site acts
run-possible site lines acts same =
    ap (λ all. is_some (made_all site (plain_start site) all)) same ∙ ap is_some (told-run site lines).told

pub run-shown : (site : Site) (lines : List Line) (acts : List Act) → acts ≡ (run_of site lines).acts
    → (run_of site lines).shown ≡ shown_by site acts
run-shown site lines acts same =
    sym (ap (shown_by site) same ∙ ap (λ m. unwrap_or (option_map (λ m. m.shown) m) []) (told-run site lines).told)

some-is : {A : Type 0} (a b : A) → ◌≡◌ {A = Option A} (Some a) (Some b) → a ≡ b
some-is a b same = cc

left-still : (site : Site) (lines : List Line) (acts : List Act) → acts ≡ (run_of site lines).acts
    → IsNoneLeft site acts → IsStill site (run_of site lines).plain
left-still site lines acts same left act =
    let came : ◌≡◌ {A = Option Made} (Some left.0)
    (Some (record { plain = (run_of site lines).plain; shown = (run_of site lines).shown })) =
    sym left.1 ∙ ap (made_all site (plain_start site)) same ∙ (told-run site lines).told in
    ap (λ (m : Made). made site m.plain act)
    (sym (some-is left.0 (record { plain = (run_of site lines).plain; shown = (run_of site lines).shown }) came))
    ∙ left.2 act

pub run-idle : (site : Site) (lines : List Line) (acts : List Act) (idle : Bool) → acts ≡ (run_of site lines).acts
    → idle ≡ is_still site (run_of site lines).plain
    → IsTrue idle ↔ IsNoneLeft site acts
run-idle site lines acts idle same told = (
  (λ (still : IsTrue idle). (
    record { plain = (run_of site lines).plain; shown = (run_of site lines).shown },
    ap (made_all site (plain_start site)) same ∙ (told-run site lines).told,
    all-still site (run_of site lines).plain (sym told ∙ still),
  )),
  (λ (left : IsNoneLeft site acts). told ∙ still-told site (run_of site lines).plain
      (left-still site lines acts same left)),
)
