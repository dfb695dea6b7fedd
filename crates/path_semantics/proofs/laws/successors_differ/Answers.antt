use Rattle.path_semantics.proofs.Differing.{successors-differ}
use Rattle.path_semantics.proofs.laws.successors_differ.Goals as goal

pub returns : goal.returns
returns c = λ program path here one other ordered walk among also same.
    successors-differ program ordered path here one other walk among also same
