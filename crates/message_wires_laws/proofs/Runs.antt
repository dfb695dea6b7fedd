-- What is played is carried, so it is a run of the world.
use Rattle.std.proofs.Common.{◌≡◌, ◌<◌, ◌⊎◌, inl, inr, ℕ, zero, suc, ◌+◌, true, List, [], ◌∷◌, ◌++◌, length, None}
use Rattle.std.proofs.Common.{refl, replicate, sym, subst, arith, length-append}
use Rattle.gd_words.specs.Members.{IsAmong}
use Rattle.tal_tree.specs.declared.site.Site.{Site}
use Rattle.schedule.specs.declared.event.Event.{Event}
use Rattle.world_semantics.specs.Follows.{IsIdleFor, IsRun}
use Rattle.world_semantics.specs.Messages.{Handing}
use Rattle.computed_changes.specs.Handed.{handed_done}
use Rattle.computed_changes.specs.Laws.{HasCopiesApart, IsSent}
use Rattle.computed_changes.proofs.Outcomes.{idle-where, run-only}
use Rattle.letter_laws.specs.takeover_laws.specs.Fit.{IsFit}
use Rattle.letters.specs.Posts as posts
use Rattle.letters.specs.Routes.{Letter}
use Rattle.letters.proofs.Worlds.{played-run}
use Rattle.letter_laws.proofs.Fitting.{letter-fits}
use Rattle.letter_laws.proofs.Honest.{played-honest}
use Rattle.message_wires.specs.Play.{MachineState, machine_at_boot, play}
use Rattle.message_wires.specs.Runs.{IsPlayed, played_none, played_more, skipped, post_of}
use Rattle.message_wires.specs.Wires.{Sent, is_current, count_before}
use Rattle.message_wires_laws.specs.Carried.{IsOn, IsCarried}
use Rattle.message_wires_laws.proofs.Going.{played-before, played-site}
use Rattle.message_wires_laws.proofs.Playing.{GoesOn, plays-on}
use Rattle.message_wires_laws.proofs.Posting.{Carries}

module _ (events : List Event) (few : length events < 4294967296) (s : MachineState) (sent : List Letter)
    (fit : IsFit s.site) (carried : IsCarried events s sent) where
  -- where one of them comes and changes nothing, no change is possible
  pub carried-only : HasCopiesApart s.site → (letter : Letter) → IsAmong letter sent
      → handed_done s.site letter.receiver letter.message s.world ≡ None
      → IsIdleFor s.site s.world (Handing letter.receiver letter.message)
  carried-only apart letter among e =
      let fitting = letter-fits s.site fit events (post_of s sent) few carried.played letter among letter.receiver in
      idle-where s.site s.world (Handing letter.receiver letter.message)
      (handed_done s.site letter.receiver letter.message s.world)
      (λ next sendings change. run-only s.world next letter.receiver letter.message sendings
      (played-run carried.played) apart fitting change) e

none-loaded : (processors node : ℕ) → count_before (replicate processors 0) node ≡ 0
none-loaded zero node = refl
none-loaded (suc processors) zero = refl
none-loaded (suc processors) (suc node) = none-loaded processors node

none-on : (one : Sent) → IsAmong one [] ⊎ IsAmong one [] → ⊥
none-on one (inl on) = on
none-on one (inr on) = on

begins-carried : (site : Site) → IsCarried [] (machine_at_boot site) []
begins-carried site = record {
  played = posts.played_none;
  tidy = record {
    given = λ one on. absurd (none-on one on);
    alike = λ one other on. absurd (none-on one on);
    loaded = λ node. (let none = none-loaded site.processors node in omega (arith, none));
    known = λ one on. absurd (none-on one on);
  };
  honest = λ one on. absurd (none-on one on);
}

module _ (site : Site) (fit : IsFit site) (apart : HasCopiesApart site) where
  goes-on : (events : List Event) (s : MachineState) (event : Event) → length events + 1 < 4294967296 → s.site ≡ site
      → length s.wires.before ≡ length s.world.stopped
      → (carries : Carries events s)
      → GoesOn (events ++ event ∷ []) s carries.0 (play s event)
  goes-on events s event few same noted (sent, carried) =
      let fits = subst IsFit (sym same) fit in
      plays-on events s sent carried
      (λ more post played letter among.
      (let less : length (events ++ more ∷ []) < 4294967296 =
      omega (arith, few, length-append events (more ∷ [])) in
      (played-honest s.site fits (events ++ more ∷ []) post less played).letters letter among))
      (carried-only events (omega (arith, few)) s sent fits carried (subst HasCopiesApart (sym same) apart)) noted event

  pub played-carried : {events : List Event} {s : MachineState} → length events < 4294967296 → IsPlayed site events s
      → Carries events s
  played-carried few played_none = ([], begins-carried site)
  played-carried few (played_more {events = events} {s = s} event before e) =
      let less : length events + 1 < 4294967296 = omega (arith, few, length-append events (event ∷ [])) in
      let was = played-carried (omega (arith, less)) before in
      subst (GoesOn (events ++ event ∷ []) s was.0) e
      (goes-on events s event less (played-site before) (played-before before) was)
  played-carried few (skipped {events = events} {s = s} event before e) =
      let less : length events + 1 < 4294967296 = omega (arith, few, length-append events (event ∷ [])) in
      let was = played-carried (omega (arith, less)) before in (
        was.0,
        subst (GoesOn (events ++ event ∷ []) s was.0) e
            (goes-on events s event less (played-site before) (played-before before) was),
      )

  module _ (events : List Event) (s : MachineState) (few : length events < 4294967296)
      (played : IsPlayed site events s) where
    -- letters that may come, of which those on the bus are some that aren't old
    pub played-letters : (sent : List Letter) × posts.HasPlayed site events (post_of s sent)
        × ((packet : Sent) → IsAmong packet s.wires.bus → is_current s.wires.before packet ≡ true
        → IsAmong packet.letter sent)
    played-letters =
        let all = played-carried few played in (
          all.0,
          subst (λ one. posts.HasPlayed one events (post_of s all.0)) (played-site played) all.1.played,
          λ packet on present. all.1.tidy.known packet (inl on) present,
        )

    pub played-world : IsRun site events s.world
    played-world = played-run played-letters.1

    pub played-sent : (one : Sent) → IsOn one s.wires → IsSent s.world one.letter.message
    played-sent one on = (played-carried few played).1.honest one on
