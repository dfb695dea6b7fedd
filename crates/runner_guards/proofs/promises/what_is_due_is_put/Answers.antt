use Rattle.runner_guards.proofs.promises.what_is_due_is_put.Goals as goal

-- src/promises.rt:64:1
pub returns : goal.returns
returns g c = λ old new decided outcome is. (is.result, is.puts, is.is)
