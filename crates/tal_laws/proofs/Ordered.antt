-- What a text reads as is numbered and ordered.
use Rattle.std.proofs.Common.{◌≡◌, ℕ, ◌+◌, ◌<◌, arith, List, [], refl, sym, subst}
use Rattle.tal_tokens.specs.declared.token.At.{At}
use Rattle.tal_syntax.specs.Grammar as g
use Rattle.tal_tree.specs.declared.program.Program.{Program}
use Rattle.tal_declarations.specs.Globals.{with_lines, nothing_declared}
use Rattle.tal_faultless.specs.tal_rules.specs.Texts.{faults, headed_after, headed_text, files_by, first_progress}
use Rattle.tal_faultless.specs.tal_meaning.specs.Programs.{tree_of}
use Rattle.tal_reader.specs.Reads.{Reads}
use Rattle.tal_tree.specs.Ordered.{numbers_in_all, IsNumbered, IsOrdered}
use Rattle.tal_faultless.proofs.Common.TextParts.{AreFaultless, faultless}
use Rattle.tal_laws.proofs.Counting.{counted-distinct}
use Rattle.tal_laws.proofs.Following.{GoOn, counts_up}
use Rattle.tal_laws.proofs.Procedures.{procedures_numbers, procedures_calls}

-- its numbers go on from 1
pub text_goes_on : (lines : g.Lines) (ps : g.Procedures) (finish : At) → faults (g.text lines ps finish) ≡ []
    → (to : ℕ) × GoOn 1 (numbers_in_all (tree_of (g.text lines ps finish)).procedures) to
text_goes_on lines ps finish fine =
    procedures_numbers (headed_text lines ps).names (files_by (headed_text lines ps) ps).names first_progress ps
    (faultless lines ps finish fine).bodies

pub is_numbered : (t : g.Text) → faults t ≡ [] → IsNumbered (tree_of t)
is_numbered (g.text lines ps finish) fine =
    let numbers = text_goes_on lines ps finish fine in
    counts_up 1 numbers.0 (numbers_in_all (tree_of (g.text lines ps finish)).procedures) numbers.1

pub is_ordered : (t : g.Text) → faults t ≡ [] → IsOrdered (tree_of t)
is_ordered (g.text lines ps finish) fine =
    let parts : AreFaultless lines ps finish = faultless lines ps finish fine in
    let globals = (headed_text lines ps).names in
    let files = (files_by (headed_text lines ps) ps).names in
    record {
      numbers = counted-distinct 1 (numbers_in_all (tree_of (g.text lines ps finish)).procedures)
          (is_numbered (g.text lines ps finish) fine);
      calls = λ k procedure found called among.
          let low : called < 0 + k =
          procedures_calls globals files (headed_after (with_lines nothing_declared lines)) first_progress ps
          parts.headings parts.bodies refl k procedure found called among in
          omega (arith, low);
    }

pub read_is_numbered : (text : List ℕ) (program : Program) → Reads text program → IsNumbered program
read_is_numbered text program r = subst IsNumbered (sym r.3) (is_numbered r.0 r.2)

pub read_is_ordered : (text : List ℕ) (program : Program) → Reads text program → IsOrdered program
read_is_ordered text program r = subst IsOrdered (sym r.3) (is_ordered r.0 r.2)
