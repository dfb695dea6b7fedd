-- The frames of whole states, and how the steps of a program change them.
use Rattle.std.proofs.Common.{◌≡◌, ◌≤◌, inl, ℕ, ◌-◌, ℤ, pos, List, [], ◌∷◌, ◌++◌, length, drop, Some, slice_get, refl}
use Rattle.std.proofs.Common.{subst, ◌∙◌, arith, length-append}
use Rattle.std.proofs.lemmas.List.{length-set, length-replicate}
use Rattle.process_semantics.specs.gd_words.specs.Members.{IsAmong}
use Rattle.process_semantics.specs.tal_tree.specs.Regular.{IsRegular, IsRegularStatement}
use Rattle.process_semantics.specs.tal_tree.specs.declared.program.Procedure.{Procedure}
use Rattle.process_semantics.specs.tal_tree.specs.declared.program.Program.{Program}
use Rattle.process_semantics.specs.tal_tree.specs.declared.statement.Statement.{Statement}
use Rattle.process_semantics.specs.tal_tree.specs.declared.statement.What.{What, What-F, out-What}
use Rattle.process_semantics.specs.Changes.{local_set, put_before, without_next}
use Rattle.process_semantics.specs.Image.{is_empty}
use Rattle.process_semantics.specs.Remains.{Remains, leads_to}
use Rattle.process_semantics.specs.State.{Entry, Run, Test, Last, Frame, frame_of, rest_of, zeros}
use Rattle.whole_states.specs.Whole.{IsFrame, AreFrames}
use Rattle.process_semantics.proofs.Leading.{leads-remains, body-remains}
use Rattle.process_semantics.proofs.Standing.{entry-stands}

-- a frame stays one of its procedure with whatever else may remain of its body
pub frame-with : {program : Program} {frame : Frame} (rest : List Entry) (is : IsFrame program frame)
    → Remains is.procedure.body rest
    → IsFrame program (record frame { rest = rest })
frame-with rest is remains = record { procedure = is.procedure; there = is.there; locals = is.locals; rest = remains }

leads-first : (entry : Entry) (tail : List Entry) → IsAmong tail (leads_to entry tail)
leads-first (Run statement) tail = inl refl
leads-first (Test statement) tail = inl refl
leads-first (Last statement) tail = inl refl

drop-remains : (body : List Statement) (rest : List Entry) → Remains body rest → Remains body (drop 1 rest)
drop-remains body [] remains = remains
drop-remains body (entry ∷ tail) remains = leads-remains body entry tail tail remains (leads-first entry tail)

-- the next entry was done
pub done-frames : (program : Program) (frames : List Frame) → AreFrames program frames
    → AreFrames program (without_next frames)
done-frames program [] are = tt
done-frames program (frame ∷ callers) are =
    (frame-with (drop 1 frame.rest) are.0 (drop-remains are.0.procedure.body frame.rest are.0.rest), are.1)

pub done-empty : (frames : List Frame) → is_empty (without_next frames) ≡ is_empty frames
done-empty [] = refl
done-empty (frame ∷ callers) = refl

-- the next entry of what remains leads to these entries, with what comes after it
abbrev pub LeadsTo : List Entry → List Entry → Type 0
LeadsTo [] entries = ⊥
LeadsTo (entry ∷ tail) entries = IsAmong (entries ++ tail) (leads_to entry tail)

led-remains : (body : List Statement) (rest entries : List Entry) → Remains body rest → LeadsTo rest entries
    → Remains body (entries ++ drop 1 rest)
led-remains body [] entries remains leads = absurd leads
led-remains body (entry ∷ tail) entries remains leads = leads-remains body entry tail (entries ++ tail) remains leads

-- the next entry was done and led to others
pub before-frames : (program : Program) (frames : List Frame) (entries : List Entry) → AreFrames program frames
    → LeadsTo (rest_of frames) entries
    → AreFrames program (put_before entries (without_next frames))
before-frames program [] entries are leads = absurd leads
before-frames program (frame ∷ callers) entries are leads = (
  frame-with (entries ++ drop 1 frame.rest) are.0
      (led-remains are.0.procedure.body frame.rest entries are.0.rest leads),
  are.1,
)

pub before-empty : (frames : List Frame) (entries : List Entry)
    → is_empty (put_before entries (without_next frames)) ≡ is_empty frames
before-empty [] entries = refl
before-empty (frame ∷ callers) entries = refl

-- a local got a word
pub local-frames : (program : Program) (frames : List Frame) (local : ℕ) (word : ℤ) → AreFrames program frames
    → AreFrames program (local_set local word frames)
local-frames program [] local word are = tt
local-frames program (frame ∷ callers) local word are = (
  record {
    procedure = are.0.procedure;
    there = are.0.there;
    locals = length-set frame.locals local word
        ∙ are.0.locals;
    rest = are.0.rest;
  },
  are.1,
)

pub local-empty : (frames : List Frame) (local : ℕ) (word : ℤ)
    → is_empty (local_set local word frames) ≡ is_empty frames
local-empty [] local word = refl
local-empty (frame ∷ callers) local word = refl

pub local-rest : (frames : List Frame) (local : ℕ) (word : ℤ) → rest_of (local_set local word frames) ≡ rest_of frames
local-rest [] local word = refl
local-rest (frame ∷ callers) local word = refl

filled-length : (arguments : List ℤ) (n : ℕ) → length arguments ≤ n
    → length (arguments ++ zeros (n - length arguments)) ≡ n
filled-length arguments n few =
    let both = length-append arguments (zeros (n - length arguments)) in
    let others = length-replicate (n - length arguments) (pos 0) in
    omega (arith, both, others, few)

-- a procedure was entered
pub entered-frame : {program : Program} (number : ℕ) (arguments : List ℤ) (procedure : Procedure)
    → slice_get program.procedures number ≡ Some procedure
    → length arguments ≤ length procedure.locals → IsFrame program (frame_of number arguments procedure)
entered-frame number arguments procedure there few = record {
  procedure = procedure;
  there = there;
  locals = filled-length arguments (length procedure.locals) few;
  rest = body-remains procedure.body;
}

-- what a statement of a regular program names is there, in the procedure where it stands
pub record IsRegularSomewhere (program : Program) (what : What-F What Statement) : Type 0 where
  pub procedure : Procedure
  pub regular : IsRegularStatement program (length procedure.locals) procedure.gives what

-- so it is of the statement that comes next
pub next-regular : {program : Program} {frame : Frame} (statement : Statement) (tail : List Entry) → IsRegular program
    → IsFrame program frame
    → frame.rest ≡ Run statement ∷ tail
    → IsRegularSomewhere program (out-What statement.what)
next-regular {frame = frame} statement tail regular is first = record {
  procedure = is.procedure;
  regular = (regular.procedures frame.procedure is.procedure is.there).statements statement
      (entry-stands is.procedure.body (Run statement) tail (subst (Remains is.procedure.body) first is.rest));
}
