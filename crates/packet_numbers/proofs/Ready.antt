-- What is played is ready for its next event.
use Rattle.std.proofs.Common.{◌<◌, List, length, arith, subst, sym}
use Rattle.tal_tree.specs.declared.site.Site.{Site}
use Rattle.schedule.specs.declared.event.Event.{Event}
use Rattle.computed_changes.specs.Laws.{HasCopiesApart}
use Rattle.packets_played.specs.takeover_laws.specs.Fit.{IsFit}
use Rattle.packets_played.specs.awaited_requests.specs.Seats.{IsLaidOut}
use Rattle.packets_played.specs.letters_layout.specs.Fitting.{IsSmall}
use Rattle.site_machine.specs.packet_wires.specs.Play.{Packeted}
use Rattle.site_machine.specs.packet_wires.specs.Runs.{IsPlayed}
use Rattle.packets_played.specs.packets_laws.proofs.Going.{played-site}
use Rattle.packets_played.specs.packets_laws.proofs.Runs.{played-post}
use Rattle.site_machine.specs.Needs.{IsReady, SendsWithin}
use Rattle.packet_numbers.proofs.Events.{bear-after, left-after}
use Rattle.packet_numbers.proofs.Rooms.{room-of}
use Rattle.packet_numbers.proofs.Sendings.{sends-within}

-- copies that are laid out are apart
laid-apart : (site : Site) → IsLaidOut site → HasCopiesApart site
laid-apart site out number spec there = (out.places number spec there).2

pub is-ready : (site : Site) (events : List Event) (s : Packeted) → IsFit site → IsSmall site → IsLaidOut site
    → length events < 4294967294 → IsPlayed site events s → IsReady s
is-ready site events s fit small out few played =
    let post = played-post site fit small out events s (omega (arith, few)) played in
    record {
      room = room-of site events (record { world = s.world; owed = post.0; sent = post.1 }) fit
          (laid-apart site out) few post.2;
      numbers = left-after played (omega (arith, few));
      bears = bear-after played;
      messages = subst (λ one. SendsWithin one s.world) (sym (played-site played))
          (sends-within site fit small out events (record { world = s.world; owed = post.0; sent = post.1 }) few
          post.2);
    }
