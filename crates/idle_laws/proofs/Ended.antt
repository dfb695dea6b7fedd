-- Where machines play until they are idle, they have come to an idle end at which all is served.
use Rattle.std.proofs.Common.{◌<◌, List, length, arith}
use Rattle.tal_tree.specs.declared.site.Site.{Site}
use Rattle.schedule.specs.declared.event.Event.{Event}
use Rattle.letters.specs.Idle.{IsIdle}
use Rattle.letters.specs.Posts.{Post, HasPlayed}
use Rattle.letters.proofs.Worlds.{played-run}
use Rattle.served_requests.specs.awaited_requests.specs.Seats.{IsLaidOut}
use Rattle.accepted_sites.proofs.Accepted.{accepted-fit}
use Rattle.accepted_sites.specs.Premises.{IsAcceptedSite}
use Rattle.idle_end.specs.Ends.{IsIdleEnd}
use Rattle.idle_laws.proofs.Sound.{played-sound}

pub played-ends : (site : Site) (events : List Event) (post : Post) → IsAcceptedSite site → IsLaidOut site
    → length events < 4294967295
    → HasPlayed site events post → IsIdle site post → IsIdleEnd site events post
played-ends site events post accepted out few played idle =
    let fit = accepted-fit site accepted out.places in
    record {
      fit = fit;
      laid_out = out;
      few = omega (arith, few);
      run = played-run played;
      served = (played-sound site fit out few played).served;
      idle = idle;
    }
