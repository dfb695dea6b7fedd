use Rattle.std.proofs.Common.{◌≡◌, ◌≤◌, ◌++◌, List, drop, length}
use Rattle.std.specs.List.{All}
use Rattle.tal_tree.specs.declared.site.OpenerSpec.{OpenerSpec}
use Rattle.report_reader.specs.Names.{opener_lists}
use Rattle.report_reader.proofs.names.all_openers.Given as goal

abbrev pub invariant-loop-number : goal.invariant-loop-number
invariant-loop-number l =
    (opener_lists l.site 0 l.specs ≡ l.lists ++ opener_lists l.site l.number (drop l.number l.specs))
    × All (λ (list : List OpenerSpec). length list ≤ 144) l.lists
