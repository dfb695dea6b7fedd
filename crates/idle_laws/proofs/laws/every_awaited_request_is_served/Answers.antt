use Rattle.accepted_sites.proofs.Accepted.{accepted-fit}
use Rattle.idle_laws.proofs.Sound.{played-sound}
use Rattle.idle_laws.proofs.laws.every_awaited_request_is_served.Goals as goal

pub returns : goal.returns
returns c = λ site events post accepted out few played.
    (played-sound site (accepted-fit site accepted out.places) out few played).served
