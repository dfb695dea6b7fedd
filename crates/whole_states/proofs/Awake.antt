-- The whole states that await nothing, and the changes that keep a state one of them.
use Rattle.std.proofs.Common.{◌≡◌, ◌≢◌, ◌≤◌, ℕ, ℤ, Bool, true, false, List, length, take, Option, Some, None}
use Rattle.std.proofs.Common.{option_and_then, nat_le, ◌&&◌, if◌then◌else◌, refl, ap, subst, sym, ◌∙◌, arith}
use Rattle.std.proofs.Common.{length-take}
use Rattle.std.specs.Prelude.{pos, negsuc}
use Rattle.std.proofs.Math.Nat.{min-le_left}
use Rattle.std.proofs.lemmas.Bool.{leb-true}
use Rattle.std.proofs.lemmas.List.{length-set}
use Rattle.std.proofs.lemmas.Option.{same_Some}
use Rattle.process_semantics.specs.tal_tree.specs.declared.expression.Variable.{Variable}
use Rattle.process_semantics.specs.tal_tree.specs.declared.program.Program.{Program}
use Rattle.process_semantics.specs.tal_tree.specs.declared.statement.Statement.{Statement}
use Rattle.process_semantics.specs.tal_tree.specs.declared.statement.What.{What, What-F, out-What}
use Rattle.process_semantics.specs.tal_values.specs.declared.memory.Cell.{Cell}
use Rattle.process_semantics.specs.tal_values.specs.declared.memory.Cell.TheVariants as cell
use Rattle.process_semantics.specs.Calls.{received}
use Rattle.process_semantics.specs.Changes.{done, before, ends, with_hand, with_waiting, with_word, with_words}
use Rattle.process_semantics.specs.Changes.{variable_cell}
use Rattle.process_semantics.specs.Image.{is_empty}
use Rattle.process_semantics.specs.Points.{point_in, point_at, point_of}
use Rattle.process_semantics.specs.State.{Entry, ProgramState, rest_of, words_of, good_count}
use Rattle.process_semantics.specs.declared.point.Point.{Point}
use Rattle.process_semantics.specs.declared.point.Point.TheVariants as point
use Rattle.process_semantics.proofs.Points.{AtCall, at_ask, StandsAt, stands-at, awaits-at}
use Rattle.whole_states.specs.Whole.{AreFrames, sizes_of, widths_of, IsWhole}
use Rattle.whole_states.proofs.Frames.{done-frames, done-empty, LeadsTo, before-frames, before-empty, local-frames}
use Rattle.whole_states.proofs.Frames.{local-empty, local-rest}
use Rattle.whole_states.proofs.Globals.{set-sizes, over-length}

-- a whole state that awaits nothing
pub record IsAwake (program : Program) (s : ProgramState) : Type 0 where
  pub frames : AreFrames program s.frames
  pub globals : sizes_of s.globals ≡ widths_of program
  pub ended : s.ended ≡ is_empty s.frames
  pub free : s.awaits ≡ false

pub awake-whole : {program : Program} {s : ProgramState} → IsAwake program s → IsWhole program s
awake-whole is = record {
  frames = is.frames;
  globals = is.globals;
  ended = is.ended;
  awaits = λ waits. (let free = is.free in absurd (cc));
}

-- a whole state is awake once it awaits nothing
pub whole-waked : {program : Program} {s : ProgramState} → IsWhole program s → IsAwake program (with_waiting false s)
whole-waked is = record { frames = is.frames; globals = is.globals; ended = is.ended; free = refl }

pub whole-awake : {program : Program} {s : ProgramState} → IsWhole program s → s.awaits ≡ false → IsAwake program s
whole-awake is free = record { frames = is.frames; globals = is.globals; ended = is.ended; free = free }

-- Points

pub awake-away : (program : Program) (s : ProgramState) → IsAwake program s → point_of program s ≢ point.Await
awake-away program s is at = let waits =
    awaits-at (stands-at program s point.Await (λ same. cc) (λ same. cc) at).call in let free = is.free in cc

-- a whole state that awaits is at a WRITEREAD
pub record Waits (program : Program) (s : ProgramState) : Type 0 where
  pub stands : StandsAt program (with_waiting false s) point.Ask
  pub at : point_of program s ≡ point.Await

pub waits-at : (program : Program) (s : ProgramState) → IsWhole program s → s.awaits ≡ true → Waits program s
waits-at program s is waits =
    let stands = stands-at program (with_waiting false s) point.Ask (λ same. cc) (λ same. cc) (is.awaits waits) in
    record {
      stands = stands;
      at = rw (stands.alive)
          (ap (point_at program s) stands.next ∙ by_layer (out-What stands.statement.what) stands.call);
    }
  where
    by_layer : (layer : What-F What Statement) → AtCall program (with_waiting false s) layer point.Ask
        → point_in program s layer ≡ point.Await
    by_layer _ (at_ask file buffer send room got free good) = rw (waits) refl

-- elsewhere than at Await it awaits nothing
pub awake-at : (program : Program) (s : ProgramState) (p : Point) → point_of program s ≡ p → p ≢ point.Await
    → IsWhole program s → IsAwake program s
awake-at program s p at away is = whole-awake is (by s.awaits refl)
  where
    by : (b : Bool) → s.awaits ≡ b → s.awaits ≡ false
    by false free = free
    by true waits = absurd (away (sym at ∙ (waits-at program s is waits).at))

-- Changes

pub done-awake : {program : Program} {s : ProgramState} → IsAwake program s → IsAwake program (done s)
done-awake {program} {s} is = record {
  frames = done-frames program s.frames is.frames;
  globals = is.globals;
  ended = is.ended ∙ sym (done-empty s.frames);
  free = is.free;
}

pub before-awake : {program : Program} {s : ProgramState} (entries : List Entry) → IsAwake program s
    → LeadsTo (rest_of s.frames) entries
    → IsAwake program (before entries (done s))
before-awake {program} {s} entries is leads = record {
  frames = before-frames program s.frames entries is.frames leads;
  globals = is.globals;
  ended = is.ended ∙ sym (before-empty s.frames entries);
  free = is.free;
}

pub word-awake : {program : Program} {s : ProgramState} (to : Cell) (word : ℤ) → IsAwake program s
    → IsAwake program (with_word to word s)
word-awake {program} {s} (cell.Local local) word is = record {
  frames = local-frames program s.frames local word is.frames;
  globals = is.globals;
  ended = is.ended ∙ sym (local-empty s.frames local word);
  free = is.free;
}
word-awake {program} {s} (cell.Global item offset) word is = record {
  frames = is.frames;
  globals = set-sizes s.globals item _ (length-set (words_of s.globals item) offset word) ∙ is.globals;
  ended = is.ended;
  free = is.free;
}

-- a word in a cell leaves what remains as it was
pub word-rest : (to : Cell) (word : ℤ) (s : ProgramState) → rest_of (with_word to word s).frames ≡ rest_of s.frames
word-rest (cell.Local local) word s = local-rest s.frames local word
word-rest (cell.Global item offset) word s = refl

pub words-awake : {program : Program} {s : ProgramState} (item : ℕ) (words : List ℤ)
    → length words ≤ length (words_of s.globals item) → IsAwake program s
    → IsAwake program (with_words item words s)
words-awake {program} {s} item words few is = record {
  frames = is.frames;
  globals = set-sizes s.globals item _ (over-length words (words_of s.globals item) few) ∙ is.globals;
  ended = is.ended;
  free = is.free;
}

pub hand-awake : {program : Program} {s : ProgramState} (in_hand : Bool) → IsAwake program s
    → IsAwake program (with_hand in_hand s)
hand-awake in_hand is = record { frames = is.frames; globals = is.globals; ended = is.ended; free = is.free }

pub ends-awake : (program : Program) (s : ProgramState) → sizes_of s.globals ≡ widths_of program
    → IsAwake program (ends s)
ends-awake program s same = record { frames = tt; globals = same; ended = refl; free = refl }

-- Words that come

-- a good count is no more than the words
good-most : (words : List ℤ) (value : Option ℤ) (n : ℕ) → option_and_then (good_count words) value ≡ Some n
    → n ≤ length words
good-most words None n is = absurd (cc)
good-most words (Some (negsuc k)) n is = absurd (cc)
good-most words (Some (pos k)) n is = by (nat_le k (length words)) (nat_le k 16) refl is
  where
    by : (fits few : Bool) → nat_le k (length words) ≡ fits → (if fits && few then Some k else None) ≡ Some n
        → n ≤ length words
    by true true fits found = subst (λ (m : ℕ). m ≤ length words) (same_Some k n found) (leb-true k (length words) fits)
    by true false fits found = absurd (cc)
    by false few fits found = absurd (cc)

pub received-awake : {program : Program} {s : ProgramState} (buffer : ℕ) (got : Variable) (words : List ℤ)
    (value : Option ℤ) → IsAwake program s
    → IsAwake program (received s buffer got words (option_and_then (good_count (words_of s.globals buffer)) value))
received-awake {program} {s} buffer got words value is =
    by (option_and_then (good_count (words_of s.globals buffer)) value) refl
  where
    by : (room : Option ℕ) → option_and_then (good_count (words_of s.globals buffer)) value ≡ room
        → IsAwake program (received s buffer got words room)
    by None good = is
    by (Some n) good = done-awake (word-awake (variable_cell got) _ (words-awake buffer (take n words)
        (let most = good-most (words_of s.globals buffer) value n good in
        let cut = length-take n words in
        let least = min-le_left n (length words) in
        omega (arith, most, cut, least)) is))
