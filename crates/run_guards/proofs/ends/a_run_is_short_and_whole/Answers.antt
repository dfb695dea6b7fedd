use Rattle.run_guards.proofs.ends.a_run_is_short_and_whole.Goals as goal

pub returns : goal.returns
returns c = λ site lines stop ran run. (run.events, run.few, run.whole, run.state, run.ends)
