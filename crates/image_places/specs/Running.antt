-- Where a program stands, by the words of its image.
use Rattle.std.specs.Option.{option_map, option_and_then}
use Rattle.std.specs.Prelude.{◌≡◌, ℕ, zero, suc, ◌-◌, ℤ, List, length, slice_get, Option, Some, None}
use Rattle.tal_tree.specs.declared.program.Procedure.{Procedure}
use Rattle.tal_tree.specs.declared.program.Program.{Program}
use Rattle.process_semantics.specs.Words.{Front, count_in, words_in}
use Rattle.image_places.specs.declared.running.RunningFrame.{RunningFrame}

-- a procedure that runs: its number, the number of what comes next in it, 0 at its end, and its locals
pub record Running : Type 0 where
  pub procedure : ℕ
  pub next : ℕ
  pub locals : List ℤ

abbrev pub running_now : RunningFrame → Running
running_now frame = record { procedure = frame.procedure; next = frame.next; locals = frame.locals.now }

-- what a call gives is, as it is seen, what a definition gives
abbrev pub Gives : {A B : Type 0} → (A → B) → Option A → Option B → Type 0
Gives view None given = given ≡ None
Gives view (Some one) given = given ≡ Some (view one)

-- a frame of this procedure, whose locals these words begin with
abbrev pub frame_of : ℕ → ℕ → Procedure → List ℤ → Front Running
frame_of procedure next body words = option_map
    (λ (locals, rest). (record { procedure = procedure; next = next; locals = locals }, rest))
    (words_in (length body.locals) words)

abbrev pub frame_where : ℕ → ℕ → Option Procedure → List ℤ → Front Running
frame_where procedure next None words = None
frame_where procedure next (Some body) words = frame_of procedure next body words

-- the frame that words begin with: its procedure, what comes next, and as many locals as the procedure has
abbrev pub frame_in : Program → List ℤ → Front Running
frame_in program words = option_and_then
    (λ (procedure, left). option_and_then
    (λ (next, rest). frame_where procedure next (slice_get program.procedures procedure) rest) (count_in left))
    (count_in words)

abbrev pub with_words : List ℤ → Option Running → Front Running
with_words words frame = option_map (λ one. (one, words)) frame

-- the last of so many frames that words begin with, and the words behind it, where this one stands before them
abbrev pub last_of : Program → ℕ → List ℤ → Option Running → Front Running
last_of program zero words before = with_words words before
last_of program (suc more) words before =
    option_and_then (λ (frame, left). last_of program more left (Some frame)) (frame_in program words)

-- the procedure that runs in a program, which is the last frame of its image, and the words behind it
abbrev pub running_in : Program → List ℤ → Front Running
running_in program words = option_and_then (λ (count, left). last_of program count left None) (count_in words)

abbrev pub next_of : Front Running → ℕ
next_of None = 0
next_of (Some (frame, left)) = frame.next

-- the number of what comes next in the procedure that runs, 0 at its end and where none runs
abbrev pub next_in : Program → List ℤ → ℕ
next_in program words = next_of (running_in program words)

-- the procedure that has called the one that runs: the frame before the last one of its image. None has called MAIN
abbrev pub caller_in : Program → List ℤ → Front Running
caller_in program words = option_and_then (λ (count, left). last_of program (count - 1) left None) (count_in words)
