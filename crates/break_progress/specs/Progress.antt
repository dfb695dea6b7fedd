-- What is told of a search among runs while it goes on. Our own wording.
use Rattle.std.specs.Prelude.{◌≡◌, ℕ, zero, suc, ◌+◌, ◌*◌, ◌%◌, nat_eq, Bool, if◌then◌else◌, List, [], ◌∷◌, ◌++◌}
use Rattle.std.specs.Prelude.{codes, Option, Result, ⊤}
use Rattle.std.specs.Fmt.{decimal}
use Rattle.gd_io.specs.Puts.{Puts}
use Rattle.gd_io.specs.declared.writing.WriteFault.{WriteFault}

-- how many runs are tried in all: the one with no stop, and for each processor one for each place
abbrev pub runs_of : ℕ → ℕ → ℕ
runs_of processors places = 1 + processors * places

-- after so many of all runs
abbrev pub tried_line : ℕ → ℕ → List ℕ
tried_line total runs =
    ((decimal runs ++ codes " of ") ++ decimal total) ++ (codes " runs are tried, and none of them breaks" ++ 10 ∷ [])

abbrev pub is_hundredth : ℕ → Bool
is_hundredth runs = nat_eq (runs % 100) 0

abbrev pub told_after : ℕ → ℕ → List ℕ
told_after total runs = if is_hundredth runs then tried_line total runs else []

-- a line after each hundred of the first runs
abbrev pub progress_text : ℕ → ℕ → List ℕ
progress_text total zero = []
progress_text total (suc runs) = progress_text total runs ++ told_after total (suc runs)

-- what is told of a search that was cut off after some runs, or came to its end
abbrev pub IsProgress : List ℕ → Type 0
IsProgress text = (total : ℕ) × (runs : ℕ) × (text ≡ progress_text total runs)

module _ {K : Type 0} (held : K → Option (List ℕ)) (faults : K → ℕ) (sure : K → ℕ → Type 0) where
  -- a text goes out; or at a fault its first part, and then nothing more
  abbrev pub GoesOut : K → K → List ℕ → Type 0
  GoesOut sink sink_now text = (written : Result ⊤ WriteFault) × Puts held faults sure sink sink_now text written

  -- where what is told of so many runs was written, or its first part, so now is what is told of these
  abbrev pub TellsOn : ℕ → ℕ → ℕ → K → Result ⊤ WriteFault → K → Result ⊤ WriteFault → Type 0
  TellsOn total before runs sink written sink_now written_now =
      (first : K) → Puts held faults sure first sink (progress_text total before) written
      → Puts held faults sure first sink_now (progress_text total runs) written_now
