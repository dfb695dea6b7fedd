use Rattle.std.proofs.Common.{◌≡◌, ◌<◌, ap, arith, drop, length, take, ◌∙◌}
use Rattle.std.proofs.lemmas.Bool.Decides.{nat_tests}
use Rattle.report_judge.proofs.LineLemmas.{first-line, nothing}
use Rattle.report_judge.proofs.difference.next_line.Goals as goal

pub returns-then-is_empty : goal.returns-then-is_empty
returns-then-is_empty c =
    let empty : length c.args.text.now ≡ 0 = grind (arith, nat_tests) in
    nothing c.args.text.now empty

pub returns : goal.returns
returns c =
    let there : 0 < length c.args.text.now = grind (arith, nat_tests) in
    first-line c.args.text.now c.split_at.result.0.now c.split_at.result.1.now there
    (c.split_at.ensures.front ∙ ap (λ n. take n c.args.text.now) c.line_length.ensures.value)
    (c.split_at.ensures.back ∙ ap (λ n. drop n c.args.text.now) c.line_length.ensures.value)
