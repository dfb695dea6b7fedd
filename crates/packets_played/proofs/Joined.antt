-- The laws of runs, at what was played.
use Rattle.std.proofs.Common.{◌≡◌, ◌<◌, true, List, length, arith}
use Rattle.tal_tree.specs.declared.site.Site.{Site}
use Rattle.schedule.specs.declared.event.Event.{Event}
use Rattle.plain_semantics.specs.SiteLimits.{KeepsSiteLimits}
use Rattle.idle_laws.specs.letters.specs.Routes.{Letter}
use Rattle.idle_laws.specs.world_semantics.specs.Follows.{IsRun}
use Rattle.idle_laws.specs.awaited_requests.specs.Seats.{IsLaidOut}
use Rattle.idle_laws.specs.accepted_sites.proofs.Accepted.{accepted-fit}
use Rattle.idle_laws.specs.accepted_sites.specs.Premises.{IsAcceptedSite}
use Rattle.idle_laws.specs.idle_end.specs.Ends.{IsIdleEnd}
use Rattle.idle_laws.proofs.Ended.{played-ends}
use Rattle.packets_laws.specs.packet_wires.specs.Idle.{is_idle}
use Rattle.packets_laws.specs.packet_wires.specs.Play.{Packeted}
use Rattle.packets_laws.specs.packet_wires.specs.Runs.{IsPlayed}
use Rattle.packets_laws.proofs.Runs.{played-post, played-world}
use Rattle.packets_played.proofs.Small.{small-of}

module _ (site : Site) (accepted : IsAcceptedSite site) (keeps : KeepsSiteLimits site) (out : IsLaidOut site)
    (events : List Event) (s : Packeted)
    (few : length events < 4294967295) (played : IsPlayed site events s) where
  pub runs : IsRun site events s.world
  runs = played-world site (accepted-fit site accepted out.places) (small-of site accepted keeps) out events s
      (omega (arith, few)) played

  pub ends : is_idle s ≡ true → (owed : List Letter) × (sent : List Letter)
      × IsIdleEnd site events (record { world = s.world; owed = owed; sent = sent })
  ends idle =
      let post = played-post site (accepted-fit site accepted out.places) (small-of site accepted keeps) out events s
      (omega (arith, few)) played in (
        post.0,
        post.1,
        played-ends site events (record { world = s.world; owed = post.0; sent = post.1 }) accepted out few post.2
            (post.3 idle),
      )
