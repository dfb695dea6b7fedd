use Rattle.takeover_laws.proofs.guards.deeds_are_done_anew.Goals as goal

pub returns : goal.returns
returns c = record { others = (tt, (tt, (tt, (tt, (tt, tt))))); checkpoint = λ all. all.1.0; take = λ all. all.1.0 }
