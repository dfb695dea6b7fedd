-- Alive packets are fresh: nobody who runs is missed.
use Rattle.std.specs.Prelude.{◌≡◌, ◌≢◌, ◌≤◌, ◌<◌, ◌⊎◌, ℕ, true, length, take}
use Rattle.schedule.specs.declared.bus_name.BusName.TheVariants as bus
use Rattle.gd_words.specs.Members.{IsAmong}
use Rattle.player.specs.declared.standing.Place.{Place}
use Rattle.round_laws.specs.Turns.{due, ticked}
use Rattle.alive_rounds.specs.Watched.{Sight, IsThere, WasHeard}

-- two processors that run
pub record TwoRun {S P : Type 0} (processors : ℕ) (w : Sight S P) (s : S) (q p : ℕ) : Type 0 where
  pub one : q < processors
  pub other : p < processors
  pub apart : q ≢ p
  pub here : w.runs s q ≡ true
  pub there : w.runs s p ≡ true

-- it was heard of, or will be in this round: its I'm-alive packet is among those that bus X still delivers
abbrev pub WillBeHeard : {S P : Type 0} → Sight S P → Place → S → ℕ → ℕ → Type 0
WillBeHeard {S} {P} w at s q p = WasHeard (w.knows s q p)
    ⊎ IsAmong (w.alive p q) (take (due at bus.X (length (w.buses s bus.X))) (w.buses s bus.X))

-- where a round stands so: of two processors that run, each knows that the other is there; if it has still to tick in
-- this round, and checks then, it will have heard of the other; and if the other has ticked in this round, its
-- I'm-alive
-- packet is on bus X
pub record IsFresh {S P : Type 0} (processors : ℕ) (w : Sight S P) (at : Place) (s : S) : Type 0 where
  pub low : due at bus.X (length (w.buses s bus.X)) ≤ length (w.buses s bus.X)
  pub there : (q p : ℕ) → TwoRun processors w s q p → IsThere (w.knows s q p)
  pub heard : (q p : ℕ) → TwoRun processors w s q p → ticked at ≤ q → w.checks s q ≡ true → WillBeHeard w at s q p
  pub sent : (q p : ℕ) → TwoRun processors w s q p → p < ticked at → IsAmong (w.alive p q) (w.buses s bus.X)
