-- One run more is told of.
use Rattle.std.proofs.Common.{◌≡◌, ℕ, ◌+◌, Bool, true, false, if◌then◌else◌, List, [], ◌++◌, Option, Result, Ok, Err}
use Rattle.std.proofs.Common.{add-one, append-nil, ap, refl, subst, sym, ◌∙◌}
use Rattle.std.specs.Prelude.{⊤}
use Rattle.gd_io.specs.Joining.{puts_both, puts_nothing, puts_part}
use Rattle.gd_io.specs.Puts.{Puts}
use Rattle.gd_io.specs.declared.writing.WriteFault.{WriteFault}
use Rattle.break_progress.specs.Progress.{GoesOut, IsProgress, TellsOn, is_hundredth, progress_text, told_after}
use Rattle.break_progress.specs.Progress.{tried_line}

-- what is told of one run more
more : (total before : ℕ)
    → progress_text total (before + 1) ≡ progress_text total before ++ told_after total (before + 1)
more total before =
    ap (progress_text total) (add-one before)
    ∙ ap (λ (runs : ℕ). progress_text total before ++ told_after total runs) (sym (add-one before))

line_of : (total runs : ℕ) (is : Bool) → is_hundredth runs ≡ is
    → told_after total runs ≡ (if is then tried_line total runs else [])
line_of total runs is e = ap (λ (b : Bool). if b then tried_line total runs else []) e

-- before the first run nothing is told
pub nothing_is_told : IsProgress []
nothing_is_told = (0, 0, refl)

module _ {K : Type 0} (held : K → Option (List ℕ)) (faults : K → ℕ) (sure : K → ℕ → Type 0) where
  pub nothing_goes_out : (sink : K) → GoesOut held faults sure sink sink []
  nothing_goes_out sink = (Ok tt, puts_nothing held faults sure sink)

  -- no line is due
  pub tells_nothing : (total before : ℕ) (sink : K) (written : Result ⊤ WriteFault)
      → is_hundredth (before + 1) ≡ false
      → TellsOn held faults sure total before (before + 1) sink written sink written
  tells_nothing total before sink written none first puts =
      subst (λ (text : List ℕ). Puts held faults sure first sink text written)
      (sym (more total before
      ∙ ap (λ (line : List ℕ). progress_text total before ++ line) (line_of total (before + 1) false none)
      ∙ append-nil (progress_text total before))) puts

  -- a line before wasn't written whole
  pub tells_no_more : (total before : ℕ) (sink : K) (fault : WriteFault)
      → TellsOn held faults sure total before (before + 1) sink (Err fault) sink (Err fault)
  tells_no_more total before sink fault first puts =
      subst (λ (text : List ℕ). Puts held faults sure first sink text (Err fault)) (sym (more total before))
      (puts_part held faults sure first sink (progress_text total before) (told_after total (before + 1)) fault puts)

  -- a line is written, or its first part
  pub tells_line : (total before : ℕ) (sink sink_now : K) (written : Result ⊤ WriteFault)
      → is_hundredth (before + 1) ≡ true
      → Puts held faults sure sink sink_now (tried_line total (before + 1)) written
      → TellsOn held faults sure total before (before + 1) sink (Ok tt) sink_now written
  tells_line total before sink sink_now written whole line first puts =
      subst (λ (text : List ℕ). Puts held faults sure first sink_now text written)
      (sym (more total before
      ∙ ap (λ (one : List ℕ). progress_text total before ++ one) (line_of total (before + 1) true whole)))
      (puts_both held faults sure first sink sink_now (progress_text total before) (tried_line total (before + 1))
      written puts line)
