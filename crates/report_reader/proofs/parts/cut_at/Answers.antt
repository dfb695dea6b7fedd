use Rattle.std.proofs.Common.{Some, ap, sym, ◌∙◌, length, arith}
use Rattle.report_reader.specs.Parts.{parts_of, parts_with}
use Rattle.report_reader.proofs.CutLemmas.{cut-found, is_sign, lengths-cut, no-cut, parts_by, parts-cut}
use Rattle.report_reader.proofs.parts.cut_at.Goals as goal

pub returns-in-None-clause-cut : goal.returns-in-None-clause-cut
returns-in-None-clause-cut c =
    sym (no-cut c.args.sign c.args.text.now (ap length (sym c.split_before.ensures.back) ∙ c.in-None.ensures.cases))

pub returns-in-None-clause-parts : goal.returns-in-None-clause-parts
returns-in-None-clause-parts c =
    parts-cut c.args.sign c.args.text.now
    ∙ ap (parts_by c.args.sign c.args.text.now)
    (no-cut c.args.sign c.args.text.now (ap length (sym c.split_before.ensures.back) ∙ c.in-None.ensures.cases))

pub returns-in-Some-clause-cut : goal.returns-in-Some-clause-cut
returns-in-Some-clause-cut c =
    ap (λ front. Some (front, c.in-Some.after.now)) c.split_before.ensures.front
    ∙ sym (cut-found c.args.sign c.args.text.now c.in-Some.field-0-0.now c.in-Some.after.now
    (sym c.split_before.ensures.back ∙ c.in-Some.ensures.cases.0))

pub returns-in-Some-clause-parts : goal.returns-in-Some-clause-parts
returns-in-Some-clause-parts c =
    parts-cut c.args.sign c.args.text.now
    ∙ ap (parts_by c.args.sign c.args.text.now)
    (cut-found c.args.sign c.args.text.now c.in-Some.field-0-0.now c.in-Some.after.now
    (sym c.split_before.ensures.back ∙ c.in-Some.ensures.cases.0))
    ∙ ap (λ front. parts_with front (parts_of c.args.sign c.in-Some.after.now)) (sym c.split_before.ensures.front)

pub returns-in-Some-clause-lengths : goal.returns-in-Some-clause-lengths
returns-in-Some-clause-lengths c =
    omega (
      arith,
      lengths-cut (is_sign c.args.sign) c.args.text.now,
      ap length c.split_before.ensures.front,
      ap length c.split_before.ensures.back,
      ap length c.in-Some.ensures.cases.0,
    )
