use Rattle.std.proofs.Common.{◌≡◌, ◌∙◌, ap, ap₂, codes}
use Rattle.std.proofs.lemmas.Result.{IfOk-weaker}
use Rattle.clap.specs.Simple.{app_of_fields}
use Rattle.clap.specs.Words.{app_of, new_app, with_rule}
use Rattle.explain_words.specs.Line.{versioned}
use Rattle.explain_words.proofs.line.the_line.Goals as goal

pub returns : goal.returns
returns c =
    let about_is : app_of c.about.result ≡ new_app (codes "explain") =
    ap app_of_fields c.about.ensures ∙ c.new.ensures.app in
    let version_is : app_of c.version.result ≡ versioned (new_app (codes "explain")) =
    ap app_of_fields c.version.ensures ∙ ap versioned about_is in
    let mode = c.mode_argument.ensures in
    let file = c.file_argument.ensures in
    let fail = c.valued_argument.ensures in
    let one = c.in_ok-arg.ensures.shape mode.local ∙ ap₂ with_rule version_is mode.rule in
    let two = c.in_ok-arg-2.ensures.shape file.local ∙ ap₂ with_rule one file.rule in
    let from = c.valued_argument-2.ensures in
    let to = c.valued_argument-3.ensures in
    let three = c.in_ok-arg-3.ensures.shape fail.local ∙ ap₂ with_rule two fail.rule in
    let four = c.in_ok-arg-4.ensures.shape from.local ∙ ap₂ with_rule three from.rule in
    let json = c.flag_argument.ensures in
    let five = c.in_ok-arg-5.ensures.shape to.local ∙ ap₂ with_rule four to.rule in
    let six = c.in_ok-arg-6.ensures.shape json.local ∙ ap₂ with_rule five json.rule in
    let alive = c.flag_argument-2.ensures in
    IfOk-weaker c.arg-7.result _ _ (λ line h. h.shape alive.local ∙ ap₂ with_rule six alive.rule) c.arg-7.ensures
