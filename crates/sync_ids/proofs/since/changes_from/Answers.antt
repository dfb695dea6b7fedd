use Rattle.std.proofs.Common.{◌++◌, ◌∙◌, List, ap, sym}
use Rattle.std.proofs.lemmas.List.{append-nil}
use Rattle.sync_ids.specs.declared.change.OpenerChange.{OpenerChange}
use Rattle.sync_ids.proofs.Steps.{step-last}
use Rattle.sync_ids.proofs.since.changes_from.Goals as goal

pub returns : goal.returns
returns c =
    sym (append-nil c.loop-k.changes)
    ∙ ap (λ (rest : List OpenerChange). c.loop-k.changes ++ rest)
    (sym (step-last c.args.before c.args.now c.args.olds.now c.args.news.now c.loop-k.k c.loop-k-test.false))
    ∙ c.loop-k.invariant
