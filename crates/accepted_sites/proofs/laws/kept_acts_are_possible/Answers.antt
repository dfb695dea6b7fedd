use Rattle.takeover_laws.proofs.Kept.{kept-possible, kept-shown}
use Rattle.accepted_sites.proofs.Accepted.{accepted-fit}
use Rattle.accepted_sites.proofs.laws.kept_acts_are_possible.Goals as goal

pub returns : goal.returns
returns c = record {
  possible = λ site events w accepted placed few run.
      kept-possible site (accepted-fit site accepted placed) events w few run;
  shown = λ site events w accepted placed few run. kept-shown site (accepted-fit site accepted placed) events w few run;
}
