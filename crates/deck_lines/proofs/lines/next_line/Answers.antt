use Rattle.std.proofs.Common.{◌≡◌, ◌∷◌, ◌<◌, length, nat_eq, ap, ap₂, ◌∙◌, sym, arith}
use Rattle.std.proofs.lemmas.Bool.Decides.{nat_tests}
use Rattle.deck_lines.proofs.CutLemmas.{length-back_of}
use Rattle.deck_lines.proofs.LineLemmas.{first_line, lines_after, lines_after-empty}
use Rattle.deck_lines.proofs.lines.next_line.Goals as goal

pub returns-in-None : goal.returns-in-None
returns-in-None c =
    let there : 0 < length c.args.text.now = grind (arith, nat_tests) in
    let empty : length c.split_before.result.1.now ≡ 0 = c.in-None.ensures.cases in (
      first_line c.args.text.now there ∙ ap₂ (λ front back. front ∷ lines_after back)
          (sym c.split_before.ensures.front) (sym c.split_before.ensures.back)
          ∙ ap (λ rest. c.split_before.result.0.now ∷ rest) (lines_after-empty c.split_before.result.1.now empty),
      omega arith,
    )

pub returns-in-Some : goal.returns-in-Some
returns-in-Some c =
    let there : 0 < length c.args.text.now = grind (arith, nat_tests) in
    let cut : c.split_before.result.1.now ≡ c.in-Some.field-0-0.now ∷ c.in-Some.after.now =
    c.in-Some.ensures.cases.0 in (
      first_line c.args.text.now there ∙ ap₂ (λ front back. front ∷ lines_after back)
          (sym c.split_before.ensures.front) (sym c.split_before.ensures.back)
          ∙ ap (λ back. c.split_before.result.0.now ∷ lines_after back) cut,
      omega (
        arith,
        length-back_of (λ x. nat_eq x 10) c.args.text.now,
        ap length c.split_before.ensures.back,
        ap length cut,
      ),
    )
