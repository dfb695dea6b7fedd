-- The parts of a text without faults.
use Rattle.std.proofs.Common.{◌≡◌, []}
use Rattle.tal_tokens.specs.declared.token.At.{At}
use Rattle.tal_syntax.specs.Grammar as g
use Rattle.tal_declarations.specs.Globals.{lines_faults, with_lines, nothing_declared}
use Rattle.tal_declarations.specs.Headings.{headings_faults}
use Rattle.tal_meaning.specs.tal_rules.specs.Texts.{faults, headed_after, headed_text, bodies_faults, main_missing}
use Rattle.tal_faultless.proofs.Common.Faultless.{split}

-- the parts of a text without faults have none
pub record AreFaultless (lines : g.Lines) (ps : g.Procedures) (finish : At) : Type 0 where
  pub lines_fine : lines_faults nothing_declared lines ≡ []
  pub headings : headings_faults (headed_after (with_lines nothing_declared lines)) ps ≡ []
  pub bodies : bodies_faults (headed_text lines ps) ps ≡ []
  pub main : main_missing (headed_text lines ps).main finish ≡ []

pub faultless : (lines : g.Lines) (ps : g.Procedures) (finish : At) → faults (g.text lines ps finish) ≡ []
    → AreFaultless lines ps finish
faultless lines ps finish fine =
    let parts = split fine in
    let three = split parts.0 in
    let two = split three.0 in
    record { lines_fine = two.0; headings = two.1; bodies = three.1; main = parts.1 }
