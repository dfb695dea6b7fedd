use Rattle.packets_played.specs.accepted_sites.proofs.Accepted.{accepted-fit}
use Rattle.packets_played.proofs.Small.{small-of}
use Rattle.packet_numbers.proofs.Ready.{is-ready}
use Rattle.packet_numbers.proofs.laws.accepted_sites_are_ready.Goals as goal

pub returns : goal.returns
returns c = λ site events s accepted keeps out few played.
    is-ready site events s (accepted-fit site accepted out.places) (small-of site accepted keeps) out few played
