-- What a call that writes one text does to its sink.
use Rattle.std.specs.Prelude.{◌≡◌, ℕ, ◌+◌, ◌<◌, ◌≤◌, List, Option, Result, Ok, Err, ⊤, IsOk, OnErr, length, take}
use Rattle.std.specs.Io.KnownBytes.{Appends}
use Rattle.gd_io.specs.Faults.{HasRisen}
use Rattle.gd_io.specs.declared.writing.WriteFault.{WriteFault}

-- told bytes grow by the whole text, or at a fault by the first part of it
abbrev pub Grows : Option (List ℕ) → Option (List ℕ) → List ℕ → Result ⊤ WriteFault → Type 0
Grows old new text (Ok done) = Appends old new text
Grows old new text (Err fault) = (n : ℕ) × (n < length text) × Appends old new (take n text)

-- the text goes out: all of it, or at a fault, which the sink counts, its first part; a sink that was sure of the text
-- and n bytes more has no fault and is sure of n more
pub record Puts {K : Type 0} (held : K → Option (List ℕ)) (faults : K → ℕ) (sure : K → ℕ → Type 0) (old new : K)
    (text : List ℕ)
    (result : Result ⊤ WriteFault) : Type 0 where
  pub bytes : Grows (held old) (held new) text result
  pub later : faults old ≤ faults new
  pub cause : OnErr result (HasRisen (faults old) (faults new))
  pub still : (n : ℕ) → sure old (length text + n) → faults new ≡ faults old
  pub never : (n : ℕ) → sure old (length text + n) → IsOk result × sure new n
