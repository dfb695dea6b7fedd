use Rattle.std.proofs.Common.{◌≤◌, List, length}
use Rattle.std.proofs.lemmas.List.Elements.{All-push}
use Rattle.tal_tree.specs.declared.site.OpenerSpec.{OpenerSpec}
use Rattle.report_reader.proofs.NameLemmas.{lists-more}
use Rattle.report_reader.proofs.names.all_openers.Goals as goal

pub loop-number-preserved : goal.loop-number-preserved
loop-number-preserved c =
    rw c.in_ok-push.ensures.ok (
      lists-more c.args.site.now c.args.specs.now c.loop-number.lists c.in_ok-one.one c.loop-number.number
          c.loop-number-test.true c.loop-number.invariant.0
          c.in_ok-one.ensures.openers,
      All-push (λ (list : List OpenerSpec). length list ≤ 144) c.loop-number.lists c.in_ok-one.one
          c.loop-number.invariant.1 c.in_ok-one.ensures.few,
    )
