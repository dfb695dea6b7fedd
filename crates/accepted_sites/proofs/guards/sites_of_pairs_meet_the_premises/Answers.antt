use Rattle.accepted_sites.proofs.Pairs.{adders-accepted, bank-site-accepted}
use Rattle.accepted_sites.proofs.Paths.{adder-accepted, bank-accepted}
use Rattle.accepted_sites.proofs.Readings.{adder-read, bank-read}
use Rattle.accepted_sites.proofs.guards.sites_of_pairs_meet_the_premises.Goals as goal

pub returns : goal.returns
returns c = record {
  adder_read = adder-read;
  adder_accepted = adder-accepted;
  adders = adders-accepted;
  bank_read = bank-read;
  bank_accepted = bank-accepted;
  banks = bank-site-accepted;
}
