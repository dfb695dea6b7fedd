-- Where the files of a process stand.
use Rattle.std.proofs.Common.{◌≡◌, ℕ, zero, suc, ◌+◌, List, [], ◌∷◌, Option, Some, None, slice_get, refl, ap, sym, ◌∙◌}
use Rattle.std.proofs.Common.{arith}
use Rattle.tal_tree.specs.declared.program.FileUse.{FileUse}
use Rattle.tal_tree.specs.declared.site.ProcessSpec.{ProcessSpec}
use Rattle.tal_tree.specs.declared.site.Site.{Site}
use Rattle.tal_tree.specs.declared.site.Who.TheVariants as who
use Rattle.message_wires.specs.plain_semantics.specs.declared.slot.Opener.{Opener}
use Rattle.message_wires.specs.plain_semantics.specs.Openers.{file_of, files_of, opener_of, opener_on, server_of_file}
use Rattle.node_copies.specs.Acting.{opener_among}
use Rattle.node_copies.specs.Seen.{file_row, files_by, openers_on}

module _ (site : Site) (process : ℕ) where
  -- where one of these files stands, of which the first has this number
  abbrev of-file : ℕ → Option FileUse → Option Opener
  of-file file None = None
  of-file file (Some use_) = opener_of site (who.File process file)

  in-row : (from file : ℕ) (files : List FileUse)
      → opener_among (file_row site process from files) file ≡ of-file (from + file) (slice_get files file)
  in-row from file [] = refl
  in-row from zero (first ∷ files) = ap (λ (n : ℕ). opener_of site (who.File process n)) (omega arith)
  in-row from (suc file) (first ∷ files) =
      in-row (from + 1) file files ∙ ap (λ (n : ℕ). of-file n (slice_get files file)) (omega arith)

  in-spec : (file : ℕ) (spec : Option ProcessSpec)
      → opener_among (files_by site process spec) file ≡ of-file file (file_of spec file)
  in-spec file None = refl
  in-spec file (Some spec) =
      in-row 0 file (files_of spec.what) ∙ ap (λ (n : ℕ). of-file n (slice_get (files_of spec.what) file)) (omega arith)

  of-same : (file : ℕ) (one : Option FileUse) → file_of (slice_get site.processes process) file ≡ one
      → of-file file one ≡ opener_of site (who.File process file)
  of-same file None e =
      sym (ap (λ (f : Option FileUse). opener_on site (who.File process file) (server_of_file site f)) e)
  of-same file (Some one) e = refl

  -- a file of a process stands where the row of its files says
  pub file-opener : (file : ℕ) → opener_among (openers_on site process) file ≡ opener_of site (who.File process file)
  file-opener file =
      in-spec file (slice_get site.processes process)
      ∙ of-same file (file_of (slice_get site.processes process) file) refl
