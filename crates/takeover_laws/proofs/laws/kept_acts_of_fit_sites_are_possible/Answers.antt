use Rattle.takeover_laws.proofs.Kept.{kept-possible, kept-shown}
use Rattle.takeover_laws.proofs.laws.kept_acts_of_fit_sites_are_possible.Goals as goal

pub returns : goal.returns
returns c = record {
  possible = λ site events w fit few run. kept-possible site fit events w few run;
  shown = λ site events w fit few run. kept-shown site fit events w few run;
}
