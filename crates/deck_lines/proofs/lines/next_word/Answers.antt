use Rattle.std.proofs.Common.{◌≡◌, ◌∷◌, ◌<◌, length, ap, ap₂, ◌∙◌, sym, arith}
use Rattle.std.proofs.lemmas.Bool.Decides.{nat_tests}
use Rattle.deck_lines.specs.Lines.{words_of}
use Rattle.deck_lines.proofs.LineLemmas.{no_words, a_word}
use Rattle.deck_lines.proofs.lines.next_word.Goals as goal

pub returns-then-is_empty : goal.returns-then-is_empty
returns-then-is_empty c =
    let empty : length c.after_spaces-text.result.now ≡ 0 = grind (arith, nat_tests) in
    no_words c.args.line.now (ap length (sym c.after_spaces-text.ensures) ∙ empty)

pub returns : goal.returns
returns c =
    let there : 0 < length c.after_spaces-text.result.now = grind (arith, nat_tests) in
    let word = a_word c.args.line.now c.after_spaces-text.result.now c.after_spaces-text.ensures there in (
      word.0 ∙ ap₂ (λ front back. front ∷ words_of back) (sym c.split_before.ensures.front)
          (sym c.split_before.ensures.back),
      omega (arith, word.1, ap length c.split_before.ensures.back),
    )
