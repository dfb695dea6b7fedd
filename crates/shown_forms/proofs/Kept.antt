-- Processes whose words are words, and the steps that keep them so.
use Rattle.std.proofs.Common.{◌≡◌, ℕ, ◌+◌, ◌≤◌, ◌&&◌, nat_le, ℤ, pos, negsuc, Bool, true, false, if◌then◌else◌, List}
use Rattle.std.proofs.Common.{[]}
use Rattle.std.proofs.Common.{length, Option, Some, None, option_and_then, refl, subst, arith, length-take}
use Rattle.std.specs.Option.{unwrap_or}
use Rattle.std.proofs.Math.Nat.{min-le_left}
use Rattle.std.proofs.lemmas.Bool.{leb-true}
use Rattle.gd_words.specs.declared.device.DeviceCall.{DeviceCall}
use Rattle.gd_words.specs.declared.device.DeviceCall.TheVariants.{Nothing, Read, Write}
use Rattle.tal_tree.specs.Regular.{IsRegular}
use Rattle.tal_tree.specs.declared.program.Program.{Program}
use Rattle.tal_tree.specs.declared.site.Kind.{Kind}
use Rattle.tal_tree.specs.declared.site.Kind.TheVariants as kind
use Rattle.tal_tree.specs.declared.statement.Statement.{Statement}
use Rattle.tal_tree.specs.declared.statement.What.{What, What-F, out-What}
use Rattle.tal_values.specs.Value.{value_of}
use Rattle.process_semantics.specs.Calls.{answer_in, asked_in, first_words, got_in, took_in}
use Rattle.process_semantics.specs.Process as process
use Rattle.process_semantics.specs.Process.{ProcessState, Runs, Serves}
use Rattle.process_semantics.specs.State.{Entry, Last, ProgramState, Run, Test, count_of, good_count, in_entry}
use Rattle.process_semantics.specs.State.{memory_of}
use Rattle.process_semantics.specs.State.{next_of, words_of}
use Rattle.process_semantics.specs.declared.point.Point.TheVariants as point
use Rattle.told_reports.specs.report_reader.specs.Telling.{has_sectors}
use Rattle.whole_states.proofs.Awake.{awake-whole}
use Rattle.whole_states.proofs.Calls.{answered-awake, asked-whole, got-awake, checkpointed-awake, start-awake}
use Rattle.whole_states.proofs.Calls.{took-awake}
use Rattle.whole_states.proofs.Inner.{inner-awake}
use Rattle.whole_states.specs.Whole.{IsWhole}
use Rattle.told_reports.specs.Words.{AreWords}
use Rattle.shown_forms.specs.Numbers.{HasWordNumbers, IsMessage}
use Rattle.shown_forms.specs.Sites.{IsTellableKind}
use Rattle.shown_forms.proofs.Discs.{IsCallOn, IsSectorWords, call-on, reply-message}
use Rattle.shown_forms.proofs.Inner.{inner-words}
use Rattle.shown_forms.proofs.Lists.{IfSo, item-words, take-words}
use Rattle.shown_forms.proofs.States.{HasStateWords, done-words, received-words, start-words}

abbrev pub IfMessage : Option (List ℤ) → Type 0
IfMessage None = Unit {0}
IfMessage (Some words) = IsMessage words

-- a program that runs
pub record IsRunning (program : Program) (s : ProgramState) : Type 0 where
  pub regular : IsRegular program
  pub numbers : HasWordNumbers program
  pub whole : IsWhole program s
  pub words : HasStateWords s

-- a state of a process of this kind
abbrev pub IsKept : Kind → ProcessState → Type 0
IsKept (kind.Disc sectors mirrored) (Serves count s) = (count ≡ sectors) × IfMessage s.request × IfMessage s.reply
IsKept (kind.Pair code) (Runs program s) = IsRunning program s
IsKept _ _ = ⊥

pub start-kept : (what : Kind) → IsTellableKind what → IsKept what (process.start_of what)
start-kept (kind.Disc sectors mirrored) is = (refl, tt, tt)
start-kept (kind.Pair program) is = record {
  regular = is.0;
  numbers = is.1;
  whole = awake-whole (start-awake program is.0);
  words = start-words program;
}

pub inner-kept : (what : Kind) (s : ProcessState) → IsKept what s → IsKept what (process.after_inner s)
inner-kept (kind.Disc sectors mirrored) (Serves count s) is = is
inner-kept (kind.Pair code) (Runs program s) is = record {
  regular = is.regular;
  numbers = is.numbers;
  whole = awake-whole (inner-awake program s is.regular is.whole);
  words = inner-words program is.numbers s is.whole.frames is.words;
}
inner-kept (kind.Disc sectors mirrored) (Runs program s) is = absurd is
inner-kept (kind.Pair code) (Serves count s) is = absurd is

-- what a step makes of the statement that comes next
next-words : (f : What-F What Statement → ProgramState) (s : ProgramState) → HasStateWords s
    → ((layer : What-F What Statement) → HasStateWords (f layer)) → (entry : Option Entry)
    → HasStateWords (in_entry s f entry)
next-words f s has each None = has
next-words f s has each (Some (Run statement)) = each (out-What statement.what)
next-words f s has each (Some (Test statement)) = has
next-words f s has each (Some (Last statement)) = has

took-words : (program : Program) (s : ProgramState) (words : List ℤ) → IsMessage words → HasStateWords s
    → (layer : What-F What Statement) → HasStateWords (took_in program s words layer)
took-words program s words is has (What-F.ReadUpdate buffer most got) =
    received-words s buffer got words (count_of program s buffer most) is.0 is.1 has
took-words program s words is has _ = has

got-words : (program : Program) (s : ProgramState) (words : List ℤ) → IsMessage words → HasStateWords s
    → (layer : What-F What Statement) → HasStateWords (got_in program s words layer)
got-words program s words is has (What-F.WriteRead file buffer send room got) =
    received-words s buffer got words (count_of program s buffer room) is.0 is.1 has
got-words program s words is has _ = has

pub took-kept : (what : Kind) (s : ProcessState) (words : List ℤ) → process.point s ≡ point.Take → IsMessage words
    → IsKept what s → IsKept what (process.after_took s words)
took-kept (kind.Disc sectors mirrored) (Serves count s) words at message is = (is.0, message, is.2)
took-kept (kind.Pair code) (Runs program s) words at message is = record {
  regular = is.regular;
  numbers = is.numbers;
  whole = awake-whole (took-awake program s words at is.whole);
  words = next-words (took_in program s words) s is.words (took-words program s words message is.words)
      (next_of s.frames);
}
took-kept (kind.Disc sectors mirrored) (Runs program s) words at message is = absurd is
took-kept (kind.Pair code) (Serves count s) words at message is = absurd is

pub asked-kept : (what : Kind) (s : ProcessState) → process.point s ≡ point.Ask → IsKept what s
    → IsKept what (process.after_asked s)
asked-kept (kind.Disc sectors mirrored) (Serves count s) at is = is
asked-kept (kind.Pair code) (Runs program s) at is = record {
  regular = is.regular;
  numbers = is.numbers;
  whole = asked-whole program s at is.whole;
  words = is.words;
}
asked-kept (kind.Disc sectors mirrored) (Runs program s) at is = absurd is
asked-kept (kind.Pair code) (Serves count s) at is = absurd is

pub got-kept : (what : Kind) (s : ProcessState) (words : List ℤ) → process.point s ≡ point.Await → IsMessage words
    → IsKept what s → IsKept what (process.after_got s words)
got-kept (kind.Disc sectors mirrored) (Serves count s) words at message is = is
got-kept (kind.Pair code) (Runs program s) words at message is = record {
  regular = is.regular;
  numbers = is.numbers;
  whole = awake-whole (got-awake program s words at is.whole);
  words = next-words (got_in program s words) s is.words (got-words program s words message is.words)
      (next_of s.frames);
}
got-kept (kind.Disc sectors mirrored) (Runs program s) words at message is = absurd is
got-kept (kind.Pair code) (Serves count s) words at message is = absurd is

pub answered-kept : (what : Kind) (s : ProcessState) → process.point s ≡ point.Answer → IsKept what s
    → IsKept what (process.after_answered s)
answered-kept (kind.Disc sectors mirrored) (Serves count s) at is = (is.0, tt, tt)
answered-kept (kind.Pair code) (Runs program s) at is = record {
  regular = is.regular;
  numbers = is.numbers;
  whole = awake-whole (answered-awake program s at is.whole);
  words = done-words s is.words;
}
answered-kept (kind.Disc sectors mirrored) (Runs program s) at is = absurd is
answered-kept (kind.Pair code) (Serves count s) at is = absurd is

pub marked-kept : (what : Kind) (s : ProcessState) → process.point s ≡ point.AtCheckpoint → IsKept what s
    → IsKept what (process.after_checkpoint s)
marked-kept (kind.Disc sectors mirrored) (Serves count s) at is = is
marked-kept (kind.Pair code) (Runs program s) at is = record {
  regular = is.regular;
  numbers = is.numbers;
  whole = awake-whole (checkpointed-awake program s at is.whole);
  words = done-words s is.words;
}
marked-kept (kind.Disc sectors mirrored) (Runs program s) at is = absurd is
marked-kept (kind.Pair code) (Serves count s) at is = absurd is

pub device-kept : (what : Kind) (s : ProcessState) (found : List ℤ) → IsSectorWords found → IsKept what s
    → IsKept what (process.after_device s found)
device-kept (kind.Disc sectors mirrored) (Serves count s) found sector is =
    (is.0, is.1, reply-message (process.call_of (Serves count s)) found sector)
device-kept (kind.Pair code) (Runs program s) found sector is = is
device-kept (kind.Disc sectors mirrored) (Runs program s) found sector is = absurd is
device-kept (kind.Pair code) (Serves count s) found sector is = absurd is

-- Requests and replies

given-words : (o : Option (List ℤ)) → IfMessage o → IsMessage (unwrap_or o [])
given-words None is = (tt, omega arith)
given-words (Some words) is = is

abbrev IsFew : ℕ → Type 0
IsFew n = n ≤ 16

good-few : (words : List ℤ) (value : Option ℤ) → IfSo IsFew (option_and_then (good_count words) value)
good-few words None = tt
good-few words (Some (negsuc n)) = tt
good-few words (Some (pos n)) = by (nat_le n (length words)) (nat_le n 16) refl
  where
    by : (fits few : Bool) → nat_le n 16 ≡ few → IfSo IsFew (if fits && few then Some n else None)
    by true true e = leb-true n 16 e
    by true false e = tt
    by false few e = tt

first-message : (words : List ℤ) (count : Option ℕ) → IfSo IsFew count → AreWords words
    → IsMessage (first_words words count)
first-message words None few are = (tt, omega arith)
first-message words (Some n) few are =
    let cut = length-take n words in
    let least = min-le_left n (length words) in
    (take-words n words are, omega (arith, cut, least, few))

next-message : (f : What-F What Statement → List ℤ) → ((layer : What-F What Statement) → IsMessage (f layer))
    → (entry : Option Entry) → IsMessage (in_entry [] f entry)
next-message f each None = (tt, omega arith)
next-message f each (Some (Run statement)) = each (out-What statement.what)
next-message f each (Some (Test statement)) = (tt, omega arith)
next-message f each (Some (Last statement)) = (tt, omega arith)

answer-message : (program : Program) (s : ProgramState) → HasStateWords s → (layer : What-F What Statement)
    → IsMessage (answer_in program s layer)
answer-message program s has (What-F.Reply buffer count) =
    first-message (words_of s.globals buffer) (count_of program s buffer count)
    (good-few (words_of s.globals buffer) (value_of (memory_of program s) count)) (item-words s.globals buffer has.0)
answer-message program s has _ = (tt, omega arith)

asking-message : (program : Program) (s : ProgramState) → HasStateWords s → (layer : What-F What Statement)
    → IsMessage (asked_in program s layer)
asking-message program s has (What-F.WriteRead file buffer send room got) =
    first-message (words_of s.globals buffer) (count_of program s buffer send)
    (good-few (words_of s.globals buffer) (value_of (memory_of program s) send)) (item-words s.globals buffer has.0)
asking-message program s has _ = (tt, omega arith)

pub answer-kept : (what : Kind) (s : ProcessState) → IsKept what s → IsMessage (process.answer_of s)
answer-kept (kind.Disc sectors mirrored) (Serves count s) is = given-words s.reply is.2
answer-kept (kind.Pair code) (Runs program s) is =
    next-message (answer_in program s) (answer-message program s is.words) (next_of s.frames)
answer-kept (kind.Disc sectors mirrored) (Runs program s) is = absurd is
answer-kept (kind.Pair code) (Serves count s) is = absurd is

pub asked-message : (what : Kind) (s : ProcessState) → IsKept what s → IsMessage (process.asked_words s)
asked-message (kind.Disc sectors mirrored) (Serves count s) is = (tt, omega arith)
asked-message (kind.Pair code) (Runs program s) is =
    next-message (asked_in program s) (asking-message program s is.words) (next_of s.frames)
asked-message (kind.Disc sectors mirrored) (Runs program s) is = absurd is
asked-message (kind.Pair code) (Serves count s) is = absurd is

-- a write is of a sector that is there
abbrev pub IsCallOf : Kind → DeviceCall → Type 0
IsCallOf what (Write sector words number) = (has_sectors what sector ≡ true) × IsSectorWords words
IsCallOf what _ = Unit {0}

same-call : (sectors : ℕ) (mirrored : Bool) (call : DeviceCall) → IsCallOn sectors call
    → IsCallOf (kind.Disc sectors mirrored) call
same-call sectors mirrored Nothing is = tt
same-call sectors mirrored (Read sector) is = tt
same-call sectors mirrored (Write sector words number) is = is

pub call-kept : (what : Kind) (s : ProcessState) → IsKept what s → IsCallOf what (process.call_of s)
call-kept (kind.Disc sectors mirrored) (Serves count s) is =
    subst (λ (n : ℕ). IsCallOf (kind.Disc n mirrored) (process.call_of (Serves count s))) is.0
    (same-call count mirrored (process.call_of (Serves count s))
    (call-on count (s.last_write + 1) (unwrap_or s.request []) (given-words s.request is.1).0))
call-kept (kind.Pair code) (Runs program s) is = tt
call-kept (kind.Disc sectors mirrored) (Runs program s) is = absurd is
call-kept (kind.Pair code) (Serves count s) is = absurd is
