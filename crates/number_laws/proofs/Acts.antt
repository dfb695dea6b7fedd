-- What a copy does by itself raises each number by one at most.
use Rattle.std.proofs.Common.{◌≡◌, ◌≤◌, ℕ, ◌+◌, ◌-◌, ℤ, Bool, true, false, if◌then◌else◌, List, [], ◌∷◌, ◌++◌, length}
use Rattle.std.proofs.Common.{Option, Some, None, nat_lt, slice_get, map, option_map, refl, arith, length-append}
use Rattle.std.proofs.Common.{length-drop}
use Rattle.std.specs.Option.{unwrap_or}
use Rattle.gd_words.specs.declared.device.DeviceCall.{DeviceCall}
use Rattle.gd_words.specs.declared.device.DeviceCall.TheVariants.{Nothing, Read, Write}
use Rattle.tal_tree.specs.declared.act.Act.{Act}
use Rattle.tal_tree.specs.declared.site.OpenerSpec.{OpenerSpec}
use Rattle.tal_tree.specs.declared.site.Site.{Site}
use Rattle.tal_tree.specs.declared.site.Who.TheVariants as who
use Rattle.process_semantics.specs.declared.point.Point.{Point}
use Rattle.process_semantics.specs.declared.point.Point.TheVariants as point
use Rattle.process_semantics.specs.Process as process
use Rattle.process_semantics.specs.Process.{ProcessState, Runs, Serves}
use Rattle.plain_semantics.specs.declared.slot.Opener.{Opener}
use Rattle.plain_semantics.specs.Openers.{openers_of, opener_of}
use Rattle.plain_semantics.proofs.Writes.{call-next}
use Rattle.checkpoint_image.specs.declared.receive.OpenerBlock.{OpenerBlock}
use Rattle.checkpoint_image.specs.declared.receive.ReceiveBlock.{ReceiveBlock}
use Rattle.checkpoint_image.specs.Receive.{Chosen, choice_among, chosen_by, is_next, last_ones, request_standing}
use Rattle.gd_words.specs.declared.message.Request.{Request}
use Rattle.world_semantics.specs.Core.{Core, next_on}
use Rattle.world_semantics.specs.Kept.{is_own, is_take, own_acts}
use Rattle.world_semantics.specs.Messages.{Asking}
use Rattle.world_semantics.specs.Own.{Around, request_to, is_new_write}
use Rattle.world_semantics.specs.Running.{Own, own_took, own_take, own_ask, own_answer_at, own_answer, around_write}
use Rattle.world_semantics.specs.Running.{own_at}
use Rattle.world_semantics.specs.Shares.{Sharing, share_after_act, entering_behind, entering_free, share_of}
use Rattle.world_semantics.specs.World.{Copy}
use Rattle.number_laws.proofs.Each.{Each, each-get, each-set}
use Rattle.number_laws.proofs.Within.{StateWithin, AreNext, CoreWithin, MessageWithin, core-more, kept-set}

-- Steps of a process

pub state-inner : (n : ℕ) (d : Bool) (s : ProcessState) → StateWithin n d s → StateWithin n d (process.after_inner s)
state-inner n d (Runs code s) is = is
state-inner n d (Serves sectors s) is = is

pub state-took : (n : ℕ) (d : Bool) (s : ProcessState) (words : List ℤ) → StateWithin n d s
    → StateWithin n d (process.after_took s words)
state-took n d (Runs code s) words is = is
state-took n d (Serves sectors s) words is = is

pub state-asked : (n : ℕ) (d : Bool) (s : ProcessState) → StateWithin n d s → StateWithin n d (process.after_asked s)
state-asked n d (Runs code s) is = is
state-asked n d (Serves sectors s) is = is

pub state-got : (n : ℕ) (d : Bool) (s : ProcessState) (words : List ℤ) → StateWithin n d s
    → StateWithin n d (process.after_got s words)
state-got n d (Runs code s) words is = is
state-got n d (Serves sectors s) words is = is

pub state-answered : (n : ℕ) (d : Bool) (s : ProcessState) → StateWithin n d s
    → StateWithin n d (process.after_answered s)
state-answered n d (Runs code s) is = is
state-answered n d (Serves sectors s) is = is

pub state-marked : (n : ℕ) (d : Bool) (s : ProcessState) → StateWithin n d s
    → StateWithin n d (process.after_checkpoint s)
state-marked n d (Runs code s) is = is
state-marked n d (Serves sectors s) is = is

pub state-device : (n : ℕ) (d : Bool) (s : ProcessState) (found : List ℤ) → StateWithin n d s
    → StateWithin (n + 1) d (process.after_device s found)
state-device n d (Runs code s) found is = (is.0, omega arith)
state-device n d (Serves sectors s) found is =
    let one = call-next sectors s.last_write (unwrap_or s.request []) in
    (is.0, let low = is.1 in omega (arith, one, low))

-- Numbers of a core

pub next-low : (n : ℕ) (next : List ℕ) (file : ℕ) → AreNext n next → unwrap_or (slice_get next file) 1 ≤ n + 1
next-low n next file are = by (slice_get next file) refl
  where
    by : (there : Option ℕ) → slice_get next file ≡ there → unwrap_or there 1 ≤ n + 1
    by None is = omega arith
    by (Some number) is = each-get _ next file number are is

-- Acts and kept acts

-- how an act enters the kept acts: by one act more at most, and one position more
pub record EnteredWithin (copy : Copy) (kept : List Act) (e : Sharing) : Type 0 where
  pub position : e.share.position ≤ copy.position + 1
  pub acts : length e.kept + length e.share.held ≤ length kept + length copy.held + 1

pub entered-within : (number : ℕ) (done : Act) (kept : List Act) (copy : Copy)
    → EnteredWithin copy kept (share_after_act number done kept (share_of copy))
entered-within number done kept copy = by copy.held refl
  where
    free : (behind taking : Bool) → EnteredWithin copy kept (entering_free done kept (share_of copy) behind taking)
    free true taking = record { position = omega arith; acts = omega arith }
    free false true = record { position = omega arith; acts = omega arith }
    free false false = record { position = omega arith; acts = omega arith }

    by : (held : List Act) → copy.held ≡ held
        → EnteredWithin copy kept (entering_behind number done kept (share_of copy) held)
    by [] is = free (nat_lt copy.position (own_acts number kept)) (is_take done)
    by (first ∷ rest) is = record { position = omega arith; acts = omega arith }

one-or-none : (own : Bool) → (if own then 1 else 0) ≤ 1
one-or-none true = omega arith
one-or-none false = omega arith

pub own-few : (number : ℕ) (acts : List Act) → own_acts number acts ≤ length acts
own-few number [] = omega arith
own-few number (act ∷ acts) =
    let one = one-or-none (is_own number act) in
    let rest = own-few number acts in
    omega (arith, one, rest)

-- Acts of a copy

-- of the waiting requests no more wait on than did
abbrev ChosenFew : ℕ → Option Chosen → Type 0
ChosenFew before None = Unit {0}
ChosenFew before (Some found) = length found.rest ≤ before

chosen-few : (table : ReceiveBlock) (waiting : List Request) → ChosenFew (length waiting) (choice_among table waiting)
chosen-few table [] = tt
chosen-few table (request ∷ rest) =
    by (is_next (request_standing table request)) (choice_among table rest) (chosen-few table rest)
  where
    by : (next : Bool) (later : Option Chosen) → ChosenFew (length rest) later
        → ChosenFew (length (request ∷ rest)) (chosen_by next request rest later)
    by true later few = omega arith
    by false None few = tt
    by false (Some found) few = omega (arith, few)

-- an act that a copy can do: its core after it, what it sends, what was shown then, and how many requests wait
pub record OwnWithin (n : ℕ) (kinds : ℕ → Bool) (d : Bool) (own : Own) : Type 0 where
  pub core : CoreWithin n d own.core
  pub messages : Each (MessageWithin n kinds) own.messages
  pub shown : length own.after.shown ≤ n
  pub waiting : length own.after.waiting ≤ n

abbrev pub AnyOwnWithin : ℕ → (ℕ → Bool) → Bool → Option Own → Type 0
AnyOwnWithin n kinds d None = Unit {0}
AnyOwnWithin n kinds d (Some own) = OwnWithin n kinds d own

module _ (n : ℕ) (kinds : ℕ → Bool) (d : Bool) (number : ℕ) (core : Core) (before : Around) (is : CoreWithin n d core)
    (few : length before.shown ≤ n) (wait : length before.waiting ≤ n) where
  later : CoreWithin (n + 1) d core
  later = core-more (n + 1) n d core (omega arith) is

  few-later : length before.shown ≤ n + 1
  few-later = omega (arith, few)

  wait-later : length before.waiting ≤ n + 1
  wait-later = omega (arith, wait)

  -- the number last taken from an opener rises by one
  took : (found : Option Chosen) → ChosenFew (length before.waiting) found
      → AnyOwnWithin (n + 1) kinds d (own_take number core before found)
  took None rest = tt
  took (Some found) rest = by (slice_get core.receive.openers found.request.opener) refl
    where
      by : (block : Option OpenerBlock) → slice_get core.receive.openers found.request.opener ≡ block
          → AnyOwnWithin (n + 1) kinds d (option_map (own_took number core before found) block)
      by None there = tt
      by (Some block) there = record {
        core = record {
          state = state-took (n + 1) d core.state found.request.words later.state;
          next = later.next;
          taken =
              each-set _ core.receive.openers found.request.opener _ later.taken
              (let low = each-get _ core.receive.openers found.request.opener block is.taken there in
              omega (arith, low));
          kept =
              let same = kept-set core.receive.openers found.request.opener block
              (record block { taken = block.taken + 1 }) there in
              let low = is.kept in
              omega (arith, same, low);
        };
        messages = tt;
        shown = few-later;
        waiting = omega (arith, rest, wait);
      }

  asking : (words : List ℤ) (next : ℕ) (opener : Option Opener)
      → Each (MessageWithin (n + 1) kinds) (map Asking (request_to next words opener))
  asking words next None = tt
  asking words next (Some opener) = (tt, tt)

  ask : (site : Site) (file : ℕ) (words : List ℤ)
      → OwnWithin (n + 1) kinds d (own_ask site number core before file words)
  ask site file words = record {
    core = record {
      state = state-asked (n + 1) d core.state later.state;
      next = each-set _ core.next file _ later.next (let low = next-low n core.next file is.next in omega (arith, low));
      taken = later.taken;
      kept = later.kept;
    };
    messages = asking words (next_on core file) (opener_of site (who.File number file));
    shown = few-later;
    waiting = wait-later;
  }

  answer-at : (place : ℕ) (opener : Option OpenerSpec) (block : Option OpenerBlock)
      → slice_get core.receive.openers place ≡ block
      → AnyOwnWithin (n + 1) kinds d (own_answer_at number core before place opener block)
  answer-at place None block there = tt
  answer-at place (Some opener) None there = tt
  answer-at place (Some opener) (Some block) there = record {
    core = record {
      state = state-answered (n + 1) d core.state later.state;
      next = later.next;
      taken =
          each-set _ core.receive.openers place _ later.taken
          (let low = each-get _ core.receive.openers place block is.taken there in omega (arith, low));
      kept =
          let next = last_ones opener.depth (block.kept ++ process.answer_of core.state ∷ []) in
          let sum = length-append block.kept (process.answer_of core.state ∷ []) in
          let last = length-drop (length (block.kept ++ process.answer_of core.state ∷ []) - opener.depth)
          (block.kept ++ process.answer_of core.state ∷ []) in
          let same = kept-set core.receive.openers place block (record block { kept = next }) there in
          let low = is.kept in
          omega (arith, sum, last, same, low);
    };
    messages = (tt, tt);
    shown = few-later;
    waiting = wait-later;
  }

  answer : (site : Site) (place : Option ℕ) → AnyOwnWithin (n + 1) kinds d (own_answer site number core before place)
  answer site None = tt
  answer site (Some place) =
      answer-at place (slice_get (openers_of site number) place) (slice_get core.receive.openers place) refl

  -- what a call of the device leaves around
  abbrev CallFew : Around → Type 0
  CallFew after = (length after.shown ≤ n + 1) × (length after.waiting ≤ n + 1)

  around-few : (call : DeviceCall) → CallFew (around_write number before call)
  around-few (Write sector words write) = (omega (arith, few), wait-later)
  around-few Nothing = (few-later, wait-later)
  around-few (Read sector) = (few-later, wait-later)

  device-few : (new : Bool) (call : DeviceCall) → CallFew (if new then around_write number before call else before)
  device-few true call = around-few call
  device-few false call = (few-later, wait-later)

  pub own-within : (site : Site) (stands : Point) → AnyOwnWithin (n + 1) kinds d (own_at site number core before stands)
  own-within site point.Inner = record {
    core = record {
      state = state-inner (n + 1) d core.state later.state;
      next = later.next;
      taken = later.taken;
      kept = later.kept;
    };
    messages = tt;
    shown = few-later;
    waiting = wait-later;
  }
  own-within site point.Take = took (choice_among core.receive before.waiting) (chosen-few core.receive before.waiting)
  own-within site point.Ask = ask site (process.asked_file core.state) (process.asked_words core.state)
  own-within site point.Answer = answer site core.receive.in_hand
  own-within site point.Device = record {
    core = record {
      state = state-device n d core.state _ is.state;
      next = later.next;
      taken = later.taken;
      kept = later.kept;
    };
    messages = tt;
    shown = (device-few (is_new_write before.sectors (process.call_of core.state)) (process.call_of core.state)).0;
    waiting = (device-few (is_new_write before.sectors (process.call_of core.state)) (process.call_of core.state)).1;
  }
  own-within site point.Await = tt
  own-within site point.AtCheckpoint = tt
  own-within site point.Ended = tt
