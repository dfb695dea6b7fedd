use Rattle.std.proofs.Common.{arith}
use Rattle.takeover_laws.proofs.Kept.{kept-possible, kept-shown}
use Rattle.accepted_sites.proofs.Accepted.{accepted-fit}
use Rattle.played_laws.proofs.Joined.{runs}
use Rattle.played_laws.proofs.laws.what_is_played_is_possible.Goals as goal

pub returns : goal.returns
returns c = record {
  possible = λ site events s accepted out few played.
      kept-possible site (accepted-fit site accepted out.places) events s.world (omega (arith, few))
      (runs site accepted out events s few played);
  shown = λ site events s accepted out few played.
      kept-shown site (accepted-fit site accepted out.places) events s.world (omega (arith, few))
      (runs site accepted out events s few played);
}
