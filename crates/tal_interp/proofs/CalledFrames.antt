-- Frames that are read from words, each of the procedure that the one before it has called.
use Rattle.std.proofs.Common.{◌≡◌, ◌<◌, inl, ℕ, zero, suc, ◌+◌, ℤ, Bool, true, false, ◌&&◌, if◌then◌else◌, List, []}
use Rattle.std.proofs.Common.{◌∷◌, ◌++◌, length, Option, Some, None, refl, ap, sym, subst, ◌∙◌, arith, append_assoc}
use Rattle.std.proofs.Common.{option_and_then}
use Rattle.std.specs.Option.{option_map}
use Rattle.std.proofs.lemmas.Bool.{eqb-true}
use Rattle.std.proofs.lemmas.Option.{same_Some}
use Rattle.tal_tree.specs.Ordered.{IsOrdered}
use Rattle.tal_tree.specs.declared.program.Program.{Program}
use Rattle.process_semantics.specs.Image.{are_called, frame_in, frames_in, is_called}
use Rattle.process_semantics.specs.State.{Frame, called_by}
use Rattle.process_semantics.specs.Words.{Front}
use Rattle.tal_table.specs.whole_states.specs.Whole.{IsFrame}
use Rattle.tal_table.specs.process_images.proofs.Frames.{frames-stood}
use Rattle.tal_table.specs.process_images.proofs.FewFrames.{called-before}
use Rattle.tal_interp.specs.Images.{called_frame, called_frames}

-- Frames

mapped-then : {A B C : Type 0} (f : B → Option C) (g : A → B) (o : Option A)
    → option_and_then f (option_map g o) ≡ option_and_then (λ (x : A). f (g x)) o
mapped-then f g None = refl
mapped-then f g (Some x) = refl

never : {A B : Type 0} (out : Option B) → out ≡ None → (o : Option A) → option_and_then (λ (x : A). out) o ≡ None
never out is None = refl
never out is (Some x) = is

module _ (program : Program) where
  -- a frame that was read, where it is that of the procedure that was called
  abbrev if_one : Option ℕ → Frame × List ℤ → Front Frame
  if_one called (frame, left) = if is_called called frame.procedure then Some (frame, left) else None

  -- a frame before those that follow it
  abbrev before_frames : (Frame → List ℤ → Front (List Frame)) → Front Frame → Front (List Frame)
  before_frames more f =
      option_and_then (λ (frame, left). option_map (λ (frames, rest). (frame ∷ frames, rest)) (more frame left)) f

module _ (program : Program) {A : Type 0} where
  abbrev pub if_called : (List Frame → List ℤ → Option A) → Option ℕ → List Frame × List ℤ → Option A
  if_called go called (frames, left) = if are_called called frames then go frames left else None

  abbrev pub gone : (List Frame → List ℤ → Option A) → List Frame × List ℤ → Option A
  gone go (frames, left) = go frames left

  by-test : (go : List Frame → List ℤ → Option A) (n : ℕ) (frame : Frame) (left : List ℤ)
      → option_and_then (if_called (λ frames rest. go (frame ∷ frames) rest) (called_by frame.rest))
      (frames_in program n left)
      ≡ option_and_then (gone (λ frames rest. go (frame ∷ frames) rest))
      (called_frames program (called_by frame.rest) n left)
      → (b : Bool)
      → option_and_then (λ (frames, rest). if b
      && are_called (called_by frame.rest) frames then go (frame ∷ frames) rest else None)
      (frames_in program n left)
      ≡ option_and_then (gone go)
      (before_frames program (λ one more. called_frames program (called_by one.rest) n more)
      (if b then Some (frame, left) else None))
  by-test go n frame left same false = never None refl (frames_in program n left)
  by-test go n frame left same true =
      same ∙ sym (mapped-then (gone go) (λ (frames, rest). (frame ∷ frames, rest))
      (called_frames program (called_by frame.rest) n left))

  by-frame : (go : List Frame → List ℤ → Option A) (called : Option ℕ) (n : ℕ)
      → ((frame : Frame) (left : List ℤ)
      → option_and_then (if_called (λ frames rest. go (frame ∷ frames) rest) (called_by frame.rest))
      (frames_in program n left)
      ≡ option_and_then (gone (λ frames rest. go (frame ∷ frames) rest))
      (called_frames program (called_by frame.rest) n left))
      → (f : Front Frame)
      → option_and_then (if_called go called) (before_frames program (λ frame left. frames_in program n left) f)
      ≡ option_and_then (gone go)
      (before_frames program (λ one more. called_frames program (called_by one.rest) n more)
      (option_and_then (if_one program called) f))
  by-frame go called n same None = refl
  by-frame go called n same (Some (frame, left)) =
      mapped-then (if_called go called) (λ (frames, rest). (frame ∷ frames, rest)) (frames_in program n left)
      ∙ by-test go n frame left (same frame left) (is_called called frame.procedure)

  pub frames-called : (go : List Frame → List ℤ → Option A) (called : Option ℕ) (n : ℕ) (words : List ℤ)
      → option_and_then (if_called go called) (frames_in program n words)
      ≡ option_and_then (gone go) (called_frames program called n words)
  frames-called go called zero words = refl
  frames-called go called (suc n) words =
      by-frame go called n (λ frame left. frames-called (λ frames rest. go (frame ∷ frames) rest)
      (called_by frame.rest) n left) (frame_in program words)

-- frames that are read, with these before them
abbrev pub onto : List Frame → Front (List Frame) → Front (List Frame)
onto frames more = option_map (λ (others, left). (frames ++ others, left)) more

onto-one : (frames : List Frame) (frame : Frame) (more : Front (List Frame))
    → onto frames (option_map (λ (others, left). (frame ∷ others, left)) more) ≡ onto (frames ++ frame ∷ []) more
onto-one frames frame None = refl
onto-one frames frame (Some (others, left)) =
    ap (λ (fs : List Frame). Some (fs, left)) (sym (append_assoc frames (frame ∷ []) others))

pub frames-turn : (program : Program) (called : Option ℕ) (frames : List Frame) (m n : ℕ) (words left : List ℤ)
    (frame : Frame) → m ≡ suc n
    → called_frame program called words ≡ Some (frame, left)
    → onto frames (called_frames program called m words)
    ≡ onto (frames ++ frame ∷ []) (called_frames program (called_by frame.rest) n left)
frames-turn program called frames m n words left frame count is =
    ap (λ (k : ℕ). onto frames (called_frames program called k words)) count
    ∙ ap (λ (f : Front Frame). onto frames
    (option_and_then (λ (one, more). option_map (λ (others, rest). (one ∷ others, rest))
    (called_frames program (called_by one.rest) n more)) f)) is
    ∙ onto-one frames frame (called_frames program (called_by frame.rest) n left)

-- Room for frames

-- a procedure that is called leaves room for its frame and all above it, since each calls only those before it
abbrev pub HasRoom : ℕ → Option ℕ → ℕ → Type 0
HasRoom room None frames = Unit {0}
HasRoom room (Some called) frames = frames + called < room

abbrev taken_if : Bool → Frame × List ℤ → Front Frame
taken_if taken pair = if taken then Some pair else None

called-is : (program : Program) (called : Option ℕ) (f : Front Frame) (frame : Frame) (left : List ℤ)
    → option_and_then (if_one program called) f ≡ Some (frame, left)
    → (called ≡ Some frame.procedure) × (f ≡ Some (frame, left))
called-is program called None frame left is = absurd (cc)
called-is program called (Some (one, more)) frame left is = tested called (is_called called one.procedure) refl is
  where
    is-one : (o : Option ℕ) → is_called o one.procedure ≡ true → o ≡ Some one.procedure
    is-one None is = absurd (cc)
    is-one (Some number) is = ap Some (eqb-true number one.procedure is)

    tested : (o : Option ℕ) (b : Bool) → is_called o one.procedure ≡ b → taken_if b (one, more) ≡ Some (frame, left)
        → (o ≡ Some frame.procedure) × ◌≡◌ {A = Front Frame} (Some (one, more)) (Some (frame, left))
    tested o true called is = (is-one o called ∙ ap (λ (p : Frame × List ℤ). Some p.0.procedure) (same_Some _ _ is), is)
    tested o false called is = absurd (cc)

pub room-more : (program : Program) (called : Option ℕ) (frames more : ℕ) (frame : Frame) (words left : List ℤ)
    → IsOrdered program
    → called_frame program called words ≡ Some (frame, left) → more ≡ suc frames
    → HasRoom (length program.procedures) called frames
    → HasRoom (length program.procedures) (called_by frame.rest) more
room-more program called frames more frame words left ordered is count room =
    let both = called-is program called (frame_in program words) frame left is in
    let read : frames_in program 1 words ≡ Some (frame ∷ [], left) =
    ap (option_and_then (λ (one, more). option_map (λ (others, rest). (one ∷ others, rest))
    (frames_in program 0 more))) both.1 in
    let stands : IsFrame program frame = (frames-stood program 1 words (frame ∷ []) left read).all frame (inl refl) in
    next (called_by frame.rest) refl stands
    (subst (λ (o : Option ℕ). HasRoom (length program.procedures) o frames) both.0 room)
  where
    next : (o : Option ℕ) → called_by frame.rest ≡ o → IsFrame program frame
        → frames + frame.procedure < length program.procedures
        → HasRoom (length program.procedures) o more
    next None calls stands room = tt
    next (Some number) calls stands room =
        let before =
        called-before program ordered frame number frame.rest stands calls in omega (arith, before, room, count)
