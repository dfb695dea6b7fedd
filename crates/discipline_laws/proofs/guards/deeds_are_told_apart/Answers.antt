use Rattle.discipline_laws.proofs.guards.deeds_are_told_apart.Goals as goal

pub returns : goal.returns
returns c = record {
  uncheckpointed = ((λ e. e), ((λ e. e), ((λ e. e), ((λ e. e), ((λ e. e), ((λ e. e), tt))))));
  checkpointed = λ is. is.1.0 tt;
  inner = tt;
  not_inner = λ is. is;
  idle = ((λ e. e), ((λ e. e), ((λ e. e), ((λ e. e), tt))));
  not_idle = λ is. is.1.0 tt;
}
