-- How great the numbers of a state are at most after so many events.
use Rattle.std.proofs.Common.{◌≡◌, ◌≤◌, ℕ, ◌+◌, Bool, true, false, cond, List, [], ◌∷◌, length, Option, Some, None}
use Rattle.std.proofs.Common.{slice_get, slice_set, map, ap, arith, zero, suc}
use Rattle.std.specs.List.{filter}
use Rattle.process_semantics.specs.declared.disc.DiscState.{DiscState}
use Rattle.process_semantics.specs.Process.{ProcessState, Runs, Serves}
use Rattle.process_semantics.specs.Image.{restored_disc}
use Rattle.checkpoint_image.specs.declared.message.FileNumber.{FileNumber}
use Rattle.checkpoint_image.specs.declared.message.Image.{Image}
use Rattle.checkpoint_image.specs.declared.receive.OpenerBlock.{OpenerBlock}
use Rattle.checkpoint_image.specs.Behaving.{last_write_of}
use Rattle.world_semantics.specs.declared.role.Role.TheVariants.{Watching}
use Rattle.world_semantics.specs.Core.{Core}
use Rattle.world_semantics.specs.Messages.{Message, Asking, Replying, Checkpointing, Taking, Sending}
use Rattle.world_semantics.specs.Running.{Done}
use Rattle.world_semantics.specs.declared.which.Which.{Which}
use Rattle.world_semantics.specs.declared.which.Which.TheVariants.{First, Second}
use Rattle.world_semantics.specs.World.{Copy, Pair, Terminal, World, copy_of, with_copy}
use Rattle.world_semantics.proofs.Lists.{some-same}
use Rattle.message_wires.specs.Wires.{Sent, Wires}
use Rattle.number_laws.proofs.Each.{Each, each-more}

-- Cores, copies and processes

-- whether a process is a disc
abbrev pub serves : ProcessState → Bool
serves (Runs code s) = false
serves (Serves sectors s) = true

abbrev pub StateWithin : ℕ → Bool → ProcessState → Type 0
StateWithin n disc s = (serves s ≡ disc) × (last_write_of s ≤ n)

abbrev pub AreNext : ℕ → List ℕ → Type 0
AreNext n next = Each (λ number. number ≤ n + 1) next

abbrev pub AreTaken : ℕ → List OpenerBlock → Type 0
AreTaken n openers = Each (λ (block : OpenerBlock). block.taken ≤ n) openers

-- how many replies are kept to openers
abbrev pub kept_in : List OpenerBlock → ℕ
kept_in [] = 0
kept_in (block ∷ blocks) = length block.kept + kept_in blocks

pub record CoreWithin (n : ℕ) (disc : Bool) (core : Core) : Type 0 where
  pub state : StateWithin n disc core.state
  pub next : AreNext n core.next
  pub taken : AreTaken n core.receive.openers
  pub kept : kept_in core.receive.openers ≤ n

-- of a copy: its core, its number, its era, its position, and how many requests wait
abbrev pub CopyWithin : ℕ → Bool → Copy → Type 0
CopyWithin n disc copy =
    CoreWithin n disc copy.core × (copy.number ≤ n) × (copy.era ≤ n) × (copy.position ≤ n)
    × (length copy.waiting ≤ n)

abbrev pub PairWithin : ℕ → Bool → Pair → Type 0
PairWithin n disc pair = CopyWithin n disc pair.first × CopyWithin n disc pair.second × (pair.base ≤ n)

-- Messages

-- an image: the numbers of files and openers, and that of the last write of a disc which it restores
pub record ImageWithin (n : ℕ) (disc : Bool) (image : Image) : Type 0 where
  pub files : Each (λ (named : FileNumber). named.next ≤ n + 1) image.files
  pub taken : AreTaken n image.receive.openers
  pub kept : kept_in image.receive.openers ≤ n
  pub write : disc ≡ true → (hand : Bool) (t : DiscState) → restored_disc hand image.body ≡ Some t → t.last_write ≤ n

-- which processes are discs is told by their numbers
abbrev pub MessageWithin : ℕ → (ℕ → Bool) → Message → Type 0
MessageWithin n kinds (Checkpointing message) = ImageWithin n (kinds message.process) message.image
MessageWithin n kinds (Asking request) = Unit {0}
MessageWithin n kinds (Replying reply) = Unit {0}
MessageWithin n kinds (Taking taken) = Unit {0}

abbrev pub AreSendings : ℕ → (ℕ → Bool) → List Sending → Type 0
AreSendings n kinds sendings = Each (λ (sending : Sending). MessageWithin n kinds sending.message) sendings

abbrev pub AreSent : ℕ → (ℕ → Bool) → List Sent → Type 0
AreSent n kinds all = Each (λ (sent : Sent). MessageWithin n kinds sent.letter.message) all

abbrev pub WiresWithin : ℕ → (ℕ → Bool) → Wires → Type 0
WiresWithin n kinds wires = AreSent n kinds wires.bus × AreSent n kinds wires.owed

-- Worlds

-- how many acts the copies of a process hold
abbrev pub held_of : Pair → ℕ
held_of pair = length pair.first.held + length pair.second.held

abbrev pub held_in : List Pair → ℕ
held_in [] = 0
held_in (pair ∷ pairs) = held_of pair + held_in pairs

abbrev pub TerminalWithin : ℕ → Terminal → Type 0
TerminalWithin n terminal = (terminal.entered ≤ n) × (terminal.printed ≤ n)

abbrev pub PairsWithin : ℕ → (ℕ → Bool) → List Pair → Type 0
PairsWithin n kinds pairs =
    (number : ℕ) (pair : Pair) → slice_get pairs number ≡ Some pair → PairWithin n (kinds number) pair

-- the eras of copies that watch
abbrev pub WatchersWithin : ℕ → List Pair → Type 0
WatchersWithin n pairs =
    (number : ℕ) (pair : Pair) → slice_get pairs number ≡ Some pair → (k : Which) → (copy_of k pair).role ≡ Watching
    → (copy_of k pair).era ≤ n

pub record WorldWithin (n : ℕ) (kinds : ℕ → Bool) (w : World) : Type 0 where
  pub pairs : PairsWithin n kinds w.processes
  pub acts : length w.kept + held_in w.processes ≤ n
  pub shown : length w.shown ≤ n
  pub terminals : Each (TerminalWithin n) w.terminals

-- no copy that watches is of a later era than there are events
pub watchers-within : (n : ℕ) (kinds : ℕ → Bool) (w : World) → WorldWithin n kinds w
    → WatchersWithin n w.processes
watchers-within n kinds w is number pair there First watches = (is.pairs number pair there).0.2
watchers-within n kinds w is number pair there Second watches = (is.pairs number pair there).1.2

pub record DoneWithin (n : ℕ) (kinds : ℕ → Bool) (done : Done) : Type 0 where
  pub world : WorldWithin n kinds done.world
  pub sendings : AreSendings n kinds done.sendings

abbrev pub AnyWithin : ℕ → (ℕ → Bool) → Option Done → Type 0
AnyWithin n kinds None = Unit {0}
AnyWithin n kinds (Some done) = DoneWithin n kinds done

-- After more events

more : (m n k : ℕ) → n ≤ m → k ≤ n → k ≤ m
more m n k less low = omega (arith, less, low)

pub core-more : (m n : ℕ) (disc : Bool) (core : Core) → n ≤ m → CoreWithin n disc core → CoreWithin m disc core
core-more m n disc core less is = record {
  state = (is.state.0, more m n _ less is.state.1);
  next = each-more _ _ (λ number low. more (m + 1) (n + 1) number (omega (arith, less)) low) core.next is.next;
  taken = each-more _ _ (λ block low. more m n _ less low) core.receive.openers is.taken;
  kept = more m n _ less is.kept;
}

pub copy-more : (m n : ℕ) (disc : Bool) (copy : Copy) → n ≤ m → CopyWithin n disc copy → CopyWithin m disc copy
copy-more m n disc copy less is = (
  core-more m n disc copy.core less is.0,
  more m n _ less is.1,
  more m n _ less is.2,
  more m n _ less is.3,
  more m n _ less is.4,
)

pub pair-more : (m n : ℕ) (disc : Bool) (pair : Pair) → n ≤ m → PairWithin n disc pair → PairWithin m disc pair
pair-more m n disc pair less is =
    (copy-more m n disc pair.first less is.0, copy-more m n disc pair.second less is.1, more m n _ less is.2)

pub message-more : (m n : ℕ) (kinds : ℕ → Bool) → n ≤ m → (message : Message) → MessageWithin n kinds message
    → MessageWithin m kinds message
message-more m n kinds less (Checkpointing message) is = record {
  files = each-more _ _ (λ named low. more (m + 1) (n + 1) _ (omega (arith, less)) low) message.image.files is.files;
  taken = each-more _ _ (λ block low. more m n _ less low) message.image.receive.openers is.taken;
  kept = more m n _ less is.kept;
  write = λ disc hand t restores. more m n _ less (is.write disc hand t restores);
}
message-more m n kinds less (Asking request) is = tt
message-more m n kinds less (Replying reply) is = tt
message-more m n kinds less (Taking taken) is = tt

pub sent-more : (m n : ℕ) (kinds : ℕ → Bool) (all : List Sent) → n ≤ m → AreSent n kinds all → AreSent m kinds all
sent-more m n kinds all less are = each-more _ _ (λ sent is. message-more m n kinds less sent.letter.message is) all are

pub wires-more : (m n : ℕ) (kinds : ℕ → Bool) (wires : Wires) → n ≤ m → WiresWithin n kinds wires
    → WiresWithin m kinds wires
wires-more m n kinds wires less are =
    (sent-more m n kinds wires.bus less are.0, sent-more m n kinds wires.owed less are.1)

pub terminals-more : (m n : ℕ) (terminals : List Terminal) → n ≤ m → Each (TerminalWithin n) terminals
    → Each (TerminalWithin m) terminals
terminals-more m n terminals less are =
    each-more _ _ (λ terminal is. (more m n _ less is.0, more m n _ less is.1)) terminals are

pub world-more : (m n : ℕ) (kinds : ℕ → Bool) (w : World) → n ≤ m → WorldWithin n kinds w → WorldWithin m kinds w
world-more m n kinds w less is = record {
  pairs = λ number pair there. pair-more m n (kinds number) pair less (is.pairs number pair there);
  acts = more m n _ less is.acts;
  shown = more m n _ less is.shown;
  terminals = terminals-more m n w.terminals less is.terminals;
}

-- Held acts

pub held-with : (k : Which) (copy : Copy) (pair other : Pair) → other.first ≡ pair.first → other.second ≡ pair.second
    → held_of (with_copy k copy other) + length (copy_of k pair).held ≡ held_of pair + length copy.held
held-with First copy pair other first second = let same = ap (λ (c : Copy). length c.held) second in omega (arith, same)
held-with Second copy pair other first second = let same = ap (λ (c : Copy). length c.held) first in omega (arith, same)

pub held-set : (pairs : List Pair) (number : ℕ) (pair next : Pair) → slice_get pairs number ≡ Some pair
    → held_in (slice_set pairs number next) + held_of pair ≡ held_in pairs + held_of next
held-set [] number pair next there = absurd (cc)
held-set (one ∷ pairs) zero pair next there = let same = ap held_of (some-same there) in omega (arith, same)
held-set (one ∷ pairs) (suc number) pair next there =
    let rest = held-set pairs number pair next there in omega (arith, rest)

pub held-there : (pairs : List Pair) (number : ℕ) (pair : Pair) → slice_get pairs number ≡ Some pair
    → held_of pair ≤ held_in pairs
held-there [] number pair there = absurd (cc)
held-there (one ∷ pairs) zero pair there = let same = ap held_of (some-same there) in omega (arith, same)
held-there (one ∷ pairs) (suc number) pair there = let rest = held-there pairs number pair there in omega (arith, rest)

pub held-one : (k : Which) (pair : Pair) → length (copy_of k pair).held ≤ held_of pair
held-one First pair = omega arith
held-one Second pair = omega arith

pub held-mapped : (f : Pair → Pair) → ((pair : Pair) → held_of (f pair) ≤ held_of pair) → (pairs : List Pair)
    → held_in (map f pairs) ≤ held_in pairs
held-mapped f falls [] = omega arith
held-mapped f falls (pair ∷ pairs) =
    let one = falls pair in let rest = held-mapped f falls pairs in omega (arith, one, rest)

-- Kept replies and waiting requests

pub kept-set : (blocks : List OpenerBlock) (place : ℕ) (block next : OpenerBlock) → slice_get blocks place ≡ Some block
    → kept_in (slice_set blocks place next) + length block.kept ≡ kept_in blocks + length next.kept
kept-set [] place block next there = absurd (cc)
kept-set (one ∷ blocks) zero block next there =
    let same = ap (λ (b : OpenerBlock). length b.kept) (some-same there) in omega (arith, same)
kept-set (one ∷ blocks) (suc place) block next there =
    let rest = kept-set blocks place block next there in omega (arith, rest)

pub filter-few : {A : Type 0} (test : A → Bool) (xs : List A) → length (filter test xs) ≤ length xs
filter-few test [] = omega arith
filter-few test (x ∷ xs) = by (test x) (filter-few test xs)
  where
    by : (passes : Bool) → length (filter test xs) ≤ length xs
        → length (cond passes (x ∷ filter test xs) (filter test xs)) ≤ length (x ∷ xs)
    by true rest = omega (arith, rest)
    by false rest = omega (arith, rest)
