use Rattle.std.proofs.Common.{◌≡◌, ◌∷◌, ap, ◌∙◌}
use Rattle.tal_values.specs.Seen.{memory_now}
use Rattle.tal_code.specs.declared.step.Instruction.TheVariants.{Load}
use Rattle.tal_code.proofs.Room.{first-room}
use Rattle.tal_code.proofs.Tops.{first-load}
use Rattle.tal_code.proofs.run.run.Goals as goal

pub run_light-requires : goal.run_light-requires
run_light-requires c =
    let shape : c.args.steps.now ≡ Load c.in-Load.operand ∷ c.in-Some.rest.now =
    c.in-Some.ensures.cases.0 ∙ ap (λ s. s ∷ c.in-Some.rest.now) c.in-Load.is in
    first-room c.in-Load.operand c.args.steps.now c.in-Some.rest.now shape c.requires

pub returns-in-Load : goal.returns-in-Load
returns-in-Load c =
    let shape : c.args.steps.now ≡ Load c.in-Load.operand ∷ c.in-Some.rest.now =
    c.in-Some.ensures.cases.0 ∙ ap (λ s. s ∷ c.in-Some.rest.now) c.in-Load.is in
    first-load (memory_now c.args.memory) c.in-Load.operand c.args.steps.now c.in-Some.rest.now c.word.result
    c.run_light.result shape
    c.word.ensures c.run_light.ensures
