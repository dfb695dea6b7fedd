-- Sweeps of acts, one step at a time.
use Rattle.std.proofs.Common.{◌≡◌, ℕ, suc, ◌+◌, ◌-◌, ◌<◌, true, false, not, ◌&&◌, is_some, is_none, ap, ◌∙◌, arith}
use Rattle.tal_tree.specs.declared.act.Act.{Act}
use Rattle.tal_tree.specs.declared.site.Site.{Site}
use Rattle.plain_semantics.specs.Machine.{Plain, made}
use Rattle.schedule.specs.declared.event.Event.{Event}
use Rattle.plain_machine.specs.Lines.{happened, repeated}
use Rattle.plain_machine.specs.Rounds.{Ran, tried, swept, round, rounds_on}
use Rattle.plain_machine.specs.Stillness.{none_of}

left-more : (k count : ℕ) → k < count → count - k ≡ suc (count - (k + 1))
left-more k count within = omega arith

pub swept-more : (site : Site) (act : Plain → ℕ → Act) (k count : ℕ) (ran : Ran) → k < count
    → swept site act k (count - k) ran ≡ swept site act (k + 1) (count - (k + 1)) (tried site (act ran.plain k) ran)
swept-more site act k count ran within = ap (λ left. swept site act k left ran) (left-more k count within)

pub none_of-more : (site : Site) (plain : Plain) (act : Plain → ℕ → Act) (k count : ℕ) → k < count
    → none_of site plain act k (count - k) ≡ is_none (made site plain (act plain k))
    && none_of site plain act (k + 1) (count - (k + 1))
none_of-more site plain act k count within = ap (λ left. none_of site plain act k left) (left-more k count within)

-- an act that isn't possible leaves it to the others
pub none_of-after : (site : Site) (plain : Plain) (act : Plain → ℕ → Act) (k count : ℕ) → k < count
    → is_some (made site plain (act plain k)) ≡ false
    → none_of site plain act k (count - k) ≡ none_of site plain act (k + 1) (count - (k + 1))
none_of-after site plain act k count within gone =
    none_of-more site plain act k count within
    ∙ ap (λ possible. not possible && none_of site plain act (k + 1) (count - (k + 1))) gone

-- a possible act is one
pub none_of-not : (site : Site) (plain : Plain) (act : Plain → ℕ → Act) (k count : ℕ) → k < count
    → is_some (made site plain (act plain k)) ≡ true
    → none_of site plain act k (count - k) ≡ false
none_of-not site plain act k count within there =
    none_of-more site plain act k count within
    ∙ ap (λ possible. not possible && none_of site plain act (k + 1) (count - (k + 1))) there

pub rounds_on-more : (site : Site) (k count : ℕ) (ran : Ran) → k < count
    → rounds_on site (count - k) ran ≡ rounds_on site (count - (k + 1)) (round site ran)
rounds_on-more site k count ran within = ap (λ left. rounds_on site left ran) (left-more k count within)

pub repeated-more : (site : Site) (event : Event) (k times : ℕ) (ran : Ran) → k < times
    → repeated site event (times - k) ran ≡ repeated site event (times - (k + 1)) (happened site event ran)
repeated-more site event k times ran within = ap (λ left. repeated site event left ran) (left-more k times within)
