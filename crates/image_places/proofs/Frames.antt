-- One frame after the other is read, up to the last.
use Rattle.std.proofs.Common.{◌≡◌, ℕ, suc, ◌+◌, ◌-◌, ◌<◌, ℤ, List, Option, Some, None, ap, ◌∙◌}
use Rattle.std.proofs.Common.{arith, option_and_then}
use Rattle.tal_tree.specs.declared.program.Program.{Program}
use Rattle.image_places.specs.Running.{Running, frame_in, last_of}

one_more : (counter count : ℕ) → counter < count → count - counter ≡ suc (count - (counter + 1))
one_more counter count more = omega (arith, more)

-- the next frame is read
pub frame_more : (program : Program) (counter count : ℕ) (words left : List ℤ) (before : Option Running)
    (frame : Running)
    → counter < count → frame_in program words ≡ Some (frame, left)
    → last_of program (count - counter) words before ≡ last_of program (count - (counter + 1)) left (Some frame)
frame_more program counter count words left before frame more is =
    ap (λ (n : ℕ). last_of program n words before) (one_more counter count more)
    ∙ ap (option_and_then (λ (one, rest). last_of program (count - (counter + 1)) rest (Some one))) is

-- there is no next frame
pub frame_lacks : (program : Program) (counter count : ℕ) (words : List ℤ) (before : Option Running)
    → counter < count → frame_in program words ≡ None → last_of program (count - counter) words before ≡ None
frame_lacks program counter count words before more is =
    ap (λ (n : ℕ). last_of program n words before) (one_more counter count more)
    ∙ ap (option_and_then (λ (one, rest). last_of program (count - (counter + 1)) rest (Some one))) is
