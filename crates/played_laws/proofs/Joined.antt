-- What is played of an accepted site that is laid out.
use Rattle.std.proofs.Common.{◌≡◌, ◌<◌, true, List, length, arith, subst}
use Rattle.tal_tree.specs.declared.site.Site.{Site}
use Rattle.schedule.specs.declared.event.Event.{Event}
use Rattle.computed_changes.specs.Laws.{HasCopiesApart}
use Rattle.letters.specs.Idle.{IsIdle}
use Rattle.letters.specs.Routes.{Letter}
use Rattle.world_semantics.specs.Follows.{IsRun}
use Rattle.awaited_requests.specs.Seats.{IsLaidOut}
use Rattle.accepted_sites.proofs.Accepted.{accepted-fit}
use Rattle.accepted_sites.specs.Premises.{IsAcceptedSite}
use Rattle.idle_end.specs.Ends.{IsIdleEnd}
use Rattle.idle_laws.proofs.Ended.{played-ends}
use Rattle.message_wires.specs.Idle.{is_idle}
use Rattle.message_wires.specs.Play.{MachineState}
use Rattle.message_wires.specs.Runs.{IsPlayed, post_of}
use Rattle.message_wires_laws.proofs.Going.{played-site}
use Rattle.message_wires_laws.proofs.Idle.{idle-both}
use Rattle.message_wires_laws.proofs.Runs.{played-letters, played-world}

pub apart : (site : Site) → IsLaidOut site → HasCopiesApart site
apart site out number spec there = (out.places number spec there).2

module _ (site : Site) (accepted : IsAcceptedSite site) (out : IsLaidOut site) (events : List Event) (s : MachineState)
    (few : length events < 4294967295)
    (played : IsPlayed site events s) where
  pub runs : IsRun site events s.world
  runs = played-world site (accepted-fit site accepted out.places) (apart site out) events s (omega (arith, few)) played

  pub ends : is_idle s ≡ true → (sent : List Letter) × IsIdleEnd site events (post_of s sent)
  ends idle =
      let fit = accepted-fit site accepted out.places in
      let letters = played-letters site fit (apart site out) events s (omega (arith, few)) played in
      let left = (idle-both s letters.0).0 idle in (
        letters.0,
        played-ends site events (post_of s letters.0) accepted out few letters.1
            (subst (λ (one : Site). IsIdle one (post_of s letters.0)) (played-site played) left),
      )
