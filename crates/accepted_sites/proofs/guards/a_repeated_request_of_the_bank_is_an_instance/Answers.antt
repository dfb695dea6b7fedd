use Rattle.std.proofs.Common.{arith}
use Rattle.world_semantics.specs.Examples.{bank_site, repeat_events}
use Rattle.world_semantics.proofs.Played.{repeated}
use Rattle.takeover_laws.proofs.Kept.{kept-possible, kept-shown}
use Rattle.accepted_sites.proofs.Accepted.{accepted-fit}
use Rattle.accepted_sites.proofs.Pairs.{bank-site-accepted}
use Rattle.accepted_sites.proofs.Placed.{bank-placed}
use Rattle.accepted_sites.proofs.guards.a_repeated_request_of_the_bank_is_an_instance.Goals as goal

pub returns : goal.returns
returns c = record {
  run = (repeated.0, repeated.1);
  possible = λ w run. kept-possible bank_site (accepted-fit bank_site bank-site-accepted bank-placed) repeat_events w
      (omega arith)
      run;
  shown = λ w run. kept-shown bank_site (accepted-fit bank_site bank-site-accepted bank-placed) repeat_events w
      (omega arith) run;
}
