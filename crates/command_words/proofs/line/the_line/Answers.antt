use Rattle.std.proofs.Common.{◌≡◌, ◌∙◌, ap₂, rules}
use Rattle.std.proofs.lemmas.Result.{IfOk-weaker}
use Rattle.clap.specs.Words.{rule_of, with_rule}
use Rattle.command_words.specs.Line.{acts_rule, fail_rule, mode_rule, number_rule}
use Rattle.command_words.proofs.line.the_line.Goals as goal

pub returns : goal.returns
returns c =
    let mode_is : rule_of c.action-mode.result ≡ mode_rule = search rules in
    let number_is : rule_of c.action-number.result ≡ number_rule = search rules in
    let acts_is : rule_of c.action-acts.result ≡ acts_rule = search rules in
    let fail_is : rule_of c.action-fail.result ≡ fail_rule = search rules in
    let one = c.in_ok-arg.ensures.shape (search rules) ∙ ap₂ with_rule c.new-5.ensures.app mode_is in
    let two = c.in_ok-arg-2.ensures.shape (search rules) ∙ ap₂ with_rule one number_is in
    let three = c.in_ok-arg-3.ensures.shape (search rules) ∙ ap₂ with_rule two acts_is in
    IfOk-weaker c.arg-4.result _ _ (λ line h. h.shape (search rules) ∙ ap₂ with_rule three fail_is) c.arg-4.ensures
