use Rattle.std.proofs.Common.{◌≡◌, ◌++◌, drop}
use Rattle.sync_ids.specs.Changes.{changes_from}
use Rattle.sync_ids.proofs.since.changes_from.Given as goal

abbrev pub invariant-loop-k : goal.invariant-loop-k
invariant-loop-k l = l.changes ++ changes_from l.before l.now l.k (drop l.k l.olds) (drop l.k l.news)
    ≡ changes_from l.before l.now 0 l.olds l.news
