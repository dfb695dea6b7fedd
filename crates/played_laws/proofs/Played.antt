-- Events, one after the other, are played where none of them would stop a second processor.
use Rattle.std.proofs.Common.{◌≡◌, Bool, true, false, ◌&&◌, List, [], ◌∷◌, ◌++◌, refl, subst, sym}
use Rattle.std.proofs.lemmas.List.{append-nil, append_assoc}
use Rattle.tal_tree.specs.declared.site.Site.{Site}
use Rattle.schedule.specs.declared.event.Event.{Event}
use Rattle.machine_states.specs.States.{Played, Makes, Skips, Would}
use Rattle.message_wires.specs.Examples.{end_of, state_after}
use Rattle.message_wires.specs.Play.{MachineState, play}
use Rattle.message_wires.specs.Runs.{IsPlayed, played_more, skipped}
use Rattle.message_wires.specs.Wires.{Wires}

abbrev pub is_played : Played Wires → Bool
is_played (Makes next) = true
is_played Skips = true
is_played (Would harm) = false

-- none of these events would stop a second processor
abbrev pub are_played : MachineState → List Event → Bool
are_played s [] = true
are_played s (event ∷ events) = is_played (play s event) && are_played (state_after (play s event) s) events

one-more : {site : Site} {before : List Event} {s : MachineState} (event : Event) → IsPlayed site before s
    → (made : Played Wires) → play s event ≡ made → is_played made ≡ true
    → IsPlayed site (before ++ event ∷ []) (state_after made s)
one-more event played (Makes next) e ok = played_more event played e
one-more event played Skips e ok = skipped event played e
one-more event played (Would harm) e ok = absurd (cc)

and-true : (one other : Bool) → (one && other) ≡ true → (one ≡ true) × (other ≡ true)
and-true true other e = (refl, e)
and-true false other e = absurd (cc)

pub played-on : {site : Site} {before : List Event} (s : MachineState) (events : List Event) → IsPlayed site before s
    → are_played s events ≡ true
    → IsPlayed site (before ++ events) (end_of s events)
played-on {site = site} {before = before} s [] played ok =
    subst (λ (all : List Event). IsPlayed site all s) (sym (append-nil before)) played
played-on {site = site} {before = before} s (event ∷ events) played ok =
    let both = and-true (is_played (play s event)) (are_played (state_after (play s event) s) events) ok in
    subst (λ (all : List Event). IsPlayed site all (end_of (state_after (play s event) s) events))
    (append_assoc before (event ∷ []) events)
    (played-on (state_after (play s event) s) events (one-more event played (play s event) refl both.0) both.1)
