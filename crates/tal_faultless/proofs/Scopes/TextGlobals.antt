-- The globals and the files of a text without faults.
use Rattle.std.specs.Prelude.{◌≡◌, []}
use Rattle.tal_tokens.specs.declared.token.At.{At}
use Rattle.tal_syntax.specs.Grammar as g
use Rattle.tal_declarations.specs.Globals.{with_lines, nothing_declared}
use Rattle.tal_meaning.specs.tal_rules.specs.Texts.{faults, headed_text, files_by}
use Rattle.tal_faultless.proofs.Common.TextParts.{AreFaultless, faultless}
use Rattle.tal_faultless.proofs.Files.FileWalks.{AtEnd, files_opened}
use Rattle.tal_faultless.proofs.Scopes.GlobalNames.{AreGlobals, heading_names, global_names}

module _ (lines : g.Lines) (ps : g.Procedures) (finish : At) (fine : faults (g.text lines ps finish) ≡ []) where
  parts : AreFaultless lines ps finish
  parts = faultless lines ps finish fine

  pub are_globals : AreGlobals (headed_text lines ps).names (with_lines nothing_declared lines).items (heading_names ps)
  are_globals = global_names lines ps parts.lines_fine parts.headings

  pub at_end : AtEnd (headed_text lines ps).names (files_by (headed_text lines ps) ps).names
      (files_by (headed_text lines ps) ps)
  at_end = files_opened lines ps parts.bodies
