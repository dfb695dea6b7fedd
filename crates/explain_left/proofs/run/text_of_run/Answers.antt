use Rattle.std.proofs.Common.{subst}
use Rattle.std.proofs.lemmas.Result.{IfOk-weaker}
use Rattle.left_text.specs.left_findings.specs.Left.{IsLeft}
use Rattle.explain_left.proofs.run.text_of_run.Goals as goal

pub returns : goal.returns
returns c =
    IfOk-weaker c.text_of_left.result _ _
    (λ text is. (
      c.in_ok-left.left,
      subst (λ view. IsLeft c.args.site.now view c.in_ok-left.left) c.in_ok-view.ensures c.in_ok-left.ensures,
      is,
    ))
    c.text_of_left.ensures
