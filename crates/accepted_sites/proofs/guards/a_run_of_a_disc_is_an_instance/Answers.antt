use Rattle.std.proofs.Common.{arith}
use Rattle.world_semantics.specs.Examples.{disc_site, disc_events}
use Rattle.world_semantics.proofs.Played.{disc_finds}
use Rattle.takeover_laws.proofs.Kept.{kept-possible, kept-shown}
use Rattle.accepted_sites.proofs.Accepted.{accepted-fit}
use Rattle.accepted_sites.proofs.Discs.{disc-accepted}
use Rattle.accepted_sites.proofs.Placed.{disc-placed}
use Rattle.accepted_sites.proofs.guards.a_run_of_a_disc_is_an_instance.Goals as goal

pub returns : goal.returns
returns c = record {
  run = (disc_finds.0, disc_finds.1);
  possible = λ w run. kept-possible disc_site (accepted-fit disc_site disc-accepted disc-placed) disc_events w
      (omega arith) run;
  shown = λ w run. kept-shown disc_site (accepted-fit disc_site disc-accepted disc-placed) disc_events w (omega arith)
      run;
}
