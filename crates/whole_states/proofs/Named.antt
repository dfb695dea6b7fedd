-- What a program lists at a checkpoint it may list, and the file that it asks at Ask is its own.
use Rattle.std.proofs.Common.{◌≡◌, ◌<◌, ℕ, List, [], ◌∷◌, length, refl, subst, sym}
use Rattle.std.proofs.lemmas.Option.{slice_get_within}
use Rattle.process_semantics.specs.tal_tree.specs.Named.{IsProcess}
use Rattle.process_semantics.specs.tal_tree.specs.Regular.{AreListed, IsRegular}
use Rattle.process_semantics.specs.tal_tree.specs.declared.program.Program.{Program}
use Rattle.process_semantics.specs.tal_tree.specs.declared.statement.Statement.{Statement}
use Rattle.process_semantics.specs.tal_tree.specs.declared.statement.What.{What, What-F, out-What}
use Rattle.process_semantics.specs.Calls.{file_in, asked_file}
use Rattle.process_semantics.specs.Image.{listed_items_in, listed_files_in}
use Rattle.process_semantics.specs.Points.{point_of}
use Rattle.process_semantics.specs.State.{Entry, Run, Test, Last, Frame, ProgramState, first_of, in_entry, in_next}
use Rattle.process_semantics.specs.declared.point.Point.TheVariants as point
use Rattle.process_semantics.proofs.Points.{AtCall, at_ask, stands-at, in-next}
use Rattle.whole_states.specs.Whole.{IsFrame, AreFrames, IsWhole}
use Rattle.whole_states.proofs.Frames.{IsRegularSomewhere, next-regular}

none-listed : (program : Program) → AreListed program [] []
none-listed program = record {
  distinct_items = tt;
  items_there = λ k among. absurd among;
  distinct_files = tt;
  files_there = λ k among. absurd among;
}

layer-listed : {program : Program} (layer : What-F What Statement) → IsRegularSomewhere program layer
    → AreListed program (listed_items_in layer) (listed_files_in layer)
layer-listed (What-F.Checkpoint items files) there = there.regular
layer-listed {program} _ there = none-listed program

pub frames-listed : (program : Program) → IsRegular program → (frames : List Frame) → AreFrames program frames
    → AreListed program (in_next [] listed_items_in frames) (in_next [] listed_files_in frames)
frames-listed program regular [] are = none-listed program
frames-listed program regular (frame ∷ callers) are = by frame.rest are.0
  where
    by : (rest : List Entry) → IsFrame program (record frame { rest = rest })
        → AreListed program (in_entry [] listed_items_in (first_of rest)) (in_entry [] listed_files_in (first_of rest))
    by [] is = none-listed program
    by (Run statement ∷ tail) is = layer-listed (out-What statement.what) (next-regular statement tail regular is refl)
    by (Test statement ∷ tail) is = none-listed program
    by (Last statement ∷ tail) is = none-listed program

pub file-there : {program : Program} (file : ℕ) → IsProcess program file → file < length program.files
file-there {program} file is = slice_get_within program.files file is.opened is.there

pub asked-there : (program : Program) (s : ProgramState) → IsRegular program → point_of program s ≡ point.Ask
    → IsWhole program s
    → asked_file s < length program.files
asked-there program s regular at is =
    let stands = stands-at program s point.Ask (λ same. cc) (λ same. cc) at in
    let are = subst (AreFrames program) stands.frames is.frames in
    subst (λ (file : ℕ). file < length program.files) (sym (in-next 0 file_in s.frames stands.statement stands.next))
    (by (out-What stands.statement.what) stands.call
    (next-regular stands.statement stands.rest regular are.0 stands.first))
  where
    by : (layer : What-F What Statement) → AtCall program s layer point.Ask → IsRegularSomewhere program layer
        → file_in layer < length program.files
    by _ (at_ask file buffer send room got free good) there = file-there file there.regular.0
