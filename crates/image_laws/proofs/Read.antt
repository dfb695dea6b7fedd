-- The frames of a state are read off their words, and the last is the one that runs.
use Rattle.std.proofs.Common.{◌≡◌, inl, inr, ℕ, suc, ◌-◌, ℤ, drop, List, [], ◌∷◌, ◌++◌, length, reverse, flat_map}
use Rattle.std.proofs.Common.{Option, Some, None}
use Rattle.std.proofs.Common.{refl, ap, ap₂, sym, ◌∙◌, append_assoc, option_and_then, arith}
use Rattle.std.proofs.lemmas.Grind.{flat_map-append, reverse_onto}
use Rattle.std.proofs.lemmas.List.{length-reverse}
use Rattle.std.specs.Option.{option_map}
use Rattle.image_places.specs.Memories.{globals_in, locals_of, memory_in, memory_with}
use Rattle.image_places.specs.Running.{Running, caller_in, frame_in, frame_where, last_of, next_of, with_words}
use Rattle.process_images.proofs.Frames.{AllFrames}
use Rattle.process_images.proofs.Fronts.{words-read}
use Rattle.process_images.proofs.Stacks.{all-from-main}
use Rattle.process_images.specs.Images.{listable_from}
use Rattle.gd_words.specs.Members.{IsAmong}
use Rattle.gd_words.proofs.Among.{among-at}
use Rattle.process_semantics.specs.Changes.{ends}
use Rattle.process_semantics.specs.Image.{frame_words, program_words}
use Rattle.process_semantics.specs.Remains.{Remains}
use Rattle.process_semantics.specs.Rests.{entry_number, next_number, rests_of}
use Rattle.process_semantics.specs.State as state
use Rattle.process_semantics.specs.State.{Entry, Frame, ProgramState, first_of, rest_of}
use Rattle.process_semantics.specs.Words.{Front}
use Rattle.program_ends.specs.Ends.{at_entry, coming_in, end_of_program, target_at, target_by, target_in}
use Rattle.program_ends.specs.Ends.{target_in_state, target_of}
use Rattle.program_ends.specs.declared.ending.WordTarget.{WordTarget}
use Rattle.program_entries.specs.Entries.{entry_at}
use Rattle.tal_tree.specs.Ordered.{IsNumbered}
use Rattle.tal_tree.specs.declared.program.Procedure.{Procedure}
use Rattle.tal_tree.specs.declared.program.Program.{Program}
use Rattle.process_semantics.specs.tal_values.specs.Value.{Memory}
use Rattle.whole_states.specs.Whole.{AreFrames, IsFrame, IsWhole}
use Rattle.image_laws.proofs.Globals.{globals-read}

abbrev running_of : Frame → Running
running_of frame =
    record { procedure = frame.procedure; next = next_number frame.rest; locals = frame.locals }

frame_read : (program : Program) (frame : Frame) (left : List ℤ) → IsFrame program frame
    → frame_in program (frame_words frame ++ left) ≡ Some (running_of frame, left)
frame_read program frame left is =
    ap (λ (procedure : Option Procedure). frame_where frame.procedure (next_number frame.rest) procedure
    (frame.locals ++ left))
    is.there
    ∙ ap (option_map (λ (locals, rest). (
      record {
        procedure = frame.procedure;
        next = next_number frame.rest;
        locals = locals;
      },
      rest,
    )))
    (words-read frame.locals left (length is.procedure.locals) is.locals)

abbrev last_running : List Frame → Option Running → Option Running
last_running [] before = before
last_running (frame ∷ frames) before = last_running frames (Some (running_of frame))

last_read : (program : Program) (frames : List Frame) (left : List ℤ) (before : Option Running)
    → AllFrames program frames
    → last_of program (length frames) (flat_map frame_words frames ++ left) before
    ≡ with_words left (last_running frames before)
last_read program [] left before all = refl
last_read program (frame ∷ frames) left before all =
    ap (λ (words : List ℤ). last_of program (suc (length frames)) words before)
    (append_assoc (frame_words frame) (flat_map frame_words frames) left)
    ∙ ap (option_and_then (λ (one, rest). last_of program (length frames) rest (Some one)))
    (frame_read program frame (flat_map frame_words frames ++ left) (all frame (inl refl)))
    ∙ last_read program frames left (Some (running_of frame)) (λ one among. all one (inr among))

last_is : (frames : List Frame) (frame : Frame) (before : Option Running)
    → last_running (frames ++ frame ∷ []) before ≡ Some (running_of frame)
last_is [] frame before = refl
last_is (one ∷ frames) frame before = last_is frames frame (Some (running_of one))

pub next_read : (program : Program) (frames : List Frame) (left : List ℤ) → AreFrames program frames
    → next_of (last_of program (length frames) (flat_map frame_words (reverse frames) ++ left) None)
    ≡ next_number (rest_of frames)
next_read program [] left are = refl
next_read program (frame ∷ callers) left are =
    ap (λ (n : ℕ). next_of (last_of program n (flat_map frame_words (reverse (frame ∷ callers)) ++ left) None))
    (sym (length-reverse (frame ∷ callers)))
    ∙ ap next_of
    (last_read program (reverse (frame ∷ callers)) left None (all-from-main program (frame ∷ callers) are))
    ∙ ap (λ (frames : List Frame). next_of (with_words left (last_running frames None)))
    (reverse_onto callers frame [])
    ∙ ap (λ (last : Option Running). next_of (with_words left last)) (last_is (reverse callers) frame None)

pub locals_read : (program : Program) (frames : List Frame) (left : List ℤ) → AreFrames program frames
    → locals_of (last_of program (length frames) (flat_map frame_words (reverse frames) ++ left) None)
    ≡ state.locals_of frames
locals_read program [] left are = refl
locals_read program (frame ∷ callers) left are =
    ap (λ (n : ℕ). locals_of (last_of program n (flat_map frame_words (reverse (frame ∷ callers)) ++ left) None))
    (sym (length-reverse (frame ∷ callers)))
    ∙ ap locals_of
    (last_read program (reverse (frame ∷ callers)) left None (all-from-main program (frame ∷ callers) are))
    ∙ ap (λ (frames : List Frame). locals_of (with_words left (last_running frames None)))
    (reverse_onto callers frame [])
    ∙ ap (λ (last : Option Running). locals_of (with_words left last)) (last_is (reverse callers) frame None)

-- the frame below the one that runs
abbrev caller_of : List Frame → Option Running
caller_of [] = None
caller_of (frame ∷ []) = None
caller_of (frame ∷ caller ∷ callers) = Some (running_of caller)

pub memory-read : (program : Program) (s : ProgramState) (items : List ℕ) → IsWhole program s
    → memory_in program (program_words items s) (program_words (listable_from 0 program.items) (ends s))
    ≡ state.memory_of program s
memory-read program s items whole =
    ap₂ (memory_with program) (globals-read program s whole) (locals_read program s.frames _ whole.frames)

-- The frame below the one that runs

abbrev called_back : Front Running → Option Running
called_back read = option_map (λ (frame, left). frame) read

pub caller_read : (program : Program) (frames : List Frame) (left : List ℤ) → AreFrames program frames
    → called_back (last_of program (length frames - 1) (flat_map frame_words (reverse frames) ++ left) None)
    ≡ caller_of frames
caller_read program [] left are = refl
caller_read program (frame ∷ []) left are = refl
caller_read program (frame ∷ caller ∷ callers) left are =
    let fewer : suc (suc (length callers)) - 1 ≡ suc (length callers) = omega arith in
    ap (λ (n : ℕ). called_back
    (last_of program n (flat_map frame_words (reverse (frame ∷ caller ∷ callers)) ++ left) None)) fewer
    ∙ ap (λ (frames : List Frame). called_back
    (last_of program (suc (length callers)) (flat_map frame_words frames ++ left) None))
    (reverse_onto (caller ∷ callers) frame [])
    ∙ ap (λ (words : List ℤ). called_back (last_of program (suc (length callers)) (words ++ left) None))
    (flat_map-append frame_words (reverse (caller ∷ callers)) (frame ∷ []))
    ∙ ap (λ (words : List ℤ). called_back (last_of program (suc (length callers)) words None))
    (append_assoc (flat_map frame_words (reverse (caller ∷ callers))) (flat_map frame_words (frame ∷ [])) left)
    ∙ ap (λ (n : ℕ). called_back (last_of program n
    (flat_map frame_words (reverse (caller ∷ callers)) ++ (flat_map frame_words (frame ∷ []) ++ left)) None))
    (sym (length-reverse (caller ∷ callers)))
    ∙ ap called_back (last_read program (reverse (caller ∷ callers)) (flat_map frame_words (frame ∷ []) ++ left) None
    (all-from-main program (caller ∷ callers) are.1.1))
    ∙ ap (λ (frames : List Frame). called_back
    (with_words (flat_map frame_words (frame ∷ []) ++ left) (last_running frames None)))
    (reverse_onto callers caller [])
    ∙ ap (λ (last : Option Running). called_back (with_words (flat_map frame_words (frame ∷ []) ++ left) last))
    (last_is (reverse callers) caller None)

-- What comes next by its number

-- numbers tell what comes next
abbrev pub Told : Type 0
Told = (program : Program) (procedure : Procedure) (entry : Entry) (rest : List Entry) → IsNumbered program
    → IsAmong procedure program.procedures → IsAmong (entry ∷ rest) (rests_of procedure.body)
    → entry_at program (entry_number entry) ≡ Some entry

module _ (told : Told) (program : Program) where
  pub coming : (frames : List Frame) → IsNumbered program → AreFrames program frames
      → entry_at program (next_number (rest_of frames)) ≡ state.next_of frames
  coming [] numbered are = refl
  coming (frame ∷ callers) numbered are = by_rest frame.rest are.0.rest
    where
      by_rest : (rest : List Entry) → Remains are.0.procedure.body rest
          → entry_at program (next_number rest) ≡ first_of rest
      by_rest [] remains = refl
      by_rest (entry ∷ rest) (inl none) = absurd (cc)
      by_rest (entry ∷ rest) (inr among) =
          told program are.0.procedure entry rest numbered
          (among-at program.procedures frame.procedure are.0.procedure are.0.there) among

  pub entry-read : (s : ProgramState) (items : List ℕ) → IsNumbered program → IsWhole program s
      → coming_in program (program_words items s) ≡ state.next_of s.frames
  entry-read s items numbered whole =
      ap (entry_at program) (next_read program s.frames _ whole.frames) ∙ coming s.frames numbered whole.frames

  abbrev target_by_running : (globals : List (List ℤ)) → Option Running → Option WordTarget
  target_by_running globals None = None
  target_by_running globals (Some caller) =
      Some (target_of (memory_with program globals caller.locals) (entry_at program caller.next))

  called-read : (globals : List (List ℤ)) (read : Front Running)
      → target_at program globals read ≡ target_by_running globals (called_back read)
  called-read globals None = refl
  called-read globals (Some (caller, left)) = refl

  by-frames : (s : ProgramState) (frames : List Frame) → IsNumbered program → AreFrames program frames
      → s.frames ≡ frames
      → target_by_running s.globals (caller_of frames) ≡ target_by program s (drop 1 frames)
  by-frames s [] numbered are same = refl
  by-frames s (frame ∷ []) numbered are same = refl
  by-frames s (frame ∷ caller ∷ callers) numbered are same =
      ap₂ (λ (locals : List ℤ) (call : Option Entry). Some (target_of (memory_with program s.globals locals) call))
      (ap (λ (frames : List Frame). state.locals_of (drop 1 frames)) (sym same))
      (coming (caller ∷ callers) numbered are.1.1)

  pub target-read : (s : ProgramState) (items : List ℕ) → IsNumbered program → IsWhole program s
      → target_in program (program_words items s) s.globals ≡ target_in_state program s
  target-read s items numbered whole =
      called-read s.globals (caller_in program (program_words items s))
      ∙ ap (target_by_running s.globals) (caller_read program s.frames _ whole.frames)
      ∙ by-frames s s.frames numbered whole.frames refl

  pub end-read : (s : ProgramState) (items : List ℕ) → IsNumbered program → IsWhole program s
      → end_of_program program (program_words items s) s.in_hand
      (program_words (listable_from 0 program.items) (ends s))
      ≡ at_entry (state.memory_of program s) (target_in_state program s) s.in_hand (state.next_of s.frames)
  end-read s items numbered whole =
      ap₂ (λ (memory : Memory) (next : Option Entry). at_entry memory
      (target_in program (program_words items s)
      (globals_in program (program_words (listable_from 0 program.items) (ends s)))) s.in_hand next)
      (memory-read program s items whole) (entry-read s items numbered whole)
      ∙ ap (λ (target : Option WordTarget). at_entry (state.memory_of program s) target s.in_hand
      (state.next_of s.frames))
      (ap (target_in program (program_words items s)) (globals-read program s whole)
      ∙ target-read s items numbered whole)
