use Rattle.std.proofs.Common.{◌∙◌, ap}
use Rattle.plain_machine.specs.Stillness.{is_still}
use Rattle.plain_machine.proofs.Told.{run-possible, run-shown, run-idle}
use Rattle.plain_machine.proofs.lines.play_lines.Goals as goal

pub returns-clause-possible : goal.returns-clause-possible
returns-clause-possible c =
    run-possible c.args.site.now c.args.lines.now c.into_lists-acts.result.0
    (c.into_lists-acts.ensures.acts ∙ ap (λ ran. ran.acts) c.in_ok-ran.ensures)

pub returns-clause-shown : goal.returns-clause-shown
returns-clause-shown c =
    c.into_lists-acts.ensures.shown ∙ ap (λ ran. ran.shown) c.in_ok-ran.ensures
    ∙ run-shown c.args.site.now c.args.lines.now c.into_lists-acts.result.0
    (c.into_lists-acts.ensures.acts ∙ ap (λ ran. ran.acts) c.in_ok-ran.ensures)

pub returns-clause-idle : goal.returns-clause-idle
returns-clause-idle c =
    run-idle c.args.site.now c.args.lines.now c.into_lists-acts.result.0 c.is_still-idle.result
    (c.into_lists-acts.ensures.acts ∙ ap (λ ran. ran.acts) c.in_ok-ran.ensures)
    (c.is_still-idle.ensures ∙ ap (λ site. is_still site c.in_ok-ran.ran.plain) c.in_ok-wires.ensures
    ∙ ap (λ ran. is_still c.args.site.now ran.plain) c.in_ok-ran.ensures)
