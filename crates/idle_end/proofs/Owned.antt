-- On the machine of single processes each slot that isn't empty, and each request in hand, has an owner: a file or a
-- terminal that is an opener there. Where two processes have one name, the second one's openers own no slot.
use Rattle.std.proofs.Common.{◌≡◌, ◌≢◌, ℕ, zero, suc, ◌+◌, ℤ, List, [], ◌∷◌, length, Option, Some, None, option_map}
use Rattle.std.proofs.Common.{option_and_then, slice_get, slice_set, refl, sym, ◌∙◌, subst, arith, length-set}
use Rattle.tal_tree.specs.declared.act.Act.{Act}
use Rattle.tal_tree.specs.declared.act.Act.TheVariants.{Step, Take, Enter, Print}
use Rattle.tal_tree.specs.declared.act.Shown.{Shown}
use Rattle.tal_tree.specs.declared.site.Site.{Site}
use Rattle.tal_tree.specs.declared.site.ProcessSpec.{ProcessSpec}
use Rattle.tal_tree.specs.declared.site.OpenerSpec.{OpenerSpec}
use Rattle.tal_tree.specs.declared.site.Who.{Who}
use Rattle.tal_tree.specs.declared.site.Who.TheVariants as who
use Rattle.process_semantics.specs.declared.point.Point.{Point}
use Rattle.process_semantics.specs.declared.point.Point.TheVariants as point
use Rattle.process_semantics.specs.Process as process
use Rattle.plain_semantics.specs.declared.slot.Opener.{Opener}
use Rattle.plain_semantics.specs.declared.slot.Slot.{Slot}
use Rattle.plain_semantics.specs.declared.slot.Slot.TheVariants.{Empty, Waiting, Taken, Answered}
use Rattle.plain_semantics.specs.Openers.{openers_of, opener_of}
use Rattle.plain_semantics.specs.Machine.{Plain, PlainProcess, Made, made, made_before, made_all, plain_start}
use Rattle.plain_semantics.specs.Machine.{processes_at_first, slot_of, slot_put, with_slot, with_process, own_opener}
use Rattle.plain_semantics.specs.Machine.{answered_by, got_made, step_at, step_made, take_slot, take_at, take_made}
use Rattle.plain_semantics.specs.Machine.{enter_request, enter_made, print_made, next_request, entered_at}
use Rattle.world_semantics.proofs.Lists.{some-same, set-all, mapped}

abbrev pub HasOwner : Site → ℕ → ℕ → Type 0
HasOwner site number place = (one : Who) × (opener_of site one ≡ Some (record { server = number; place = place }))

pub record IsOwned (site : Site) (number : ℕ) (one : PlainProcess) : Type 0 where
  pub slots : (place : ℕ) (slot : Slot) → slice_get one.slots place ≡ Some slot → slot ≢ Empty
      → HasOwner site number place
  pub hand : (place : ℕ) → one.hand ≡ Some place → HasOwner site number place

-- there are as many processes as the site has, and what each has of requests and replies has its owner
pub record AreOwned (site : Site) (plain : Plain) : Type 0 where
  pub count : length plain.processes ≡ length site.processes
  pub each : (number : ℕ) (one : PlainProcess) → slice_get plain.processes number ≡ Some one → IsOwned site number one

module _ (site : Site) where
  -- so it is after an act, if that is possible
  abbrev StayOwned : Option Made → Type 0
  StayOwned None = Unit {0}
  StayOwned (Some m) = AreOwned site m.plain

  -- Changes of one process or one slot

  process-owned : (number : ℕ) (changed : PlainProcess) (plain : Plain) → IsOwned site number changed
      → AreOwned site plain
      → AreOwned site (with_process number changed plain)
  process-owned number changed plain own all = record {
    count = length-set plain.processes number changed ∙ all.count;
    each = set-all (λ other one. IsOwned site other one) plain.processes number changed all.each own;
  }

  -- the slots and the hand of a process stay
  rest-owned : (number : ℕ) (old changed : PlainProcess) (plain : Plain) → slice_get plain.processes number ≡ Some old
      → changed.slots ≡ old.slots
      → changed.hand ≡ old.hand → AreOwned site plain → AreOwned site (with_process number changed plain)
  rest-owned number old changed plain there slots hand all =
      let own = all.each number old there in
      process-owned number changed plain
      (record {
        slots = λ place slot at some. own.slots place slot
            (subst (λ (s : List Slot). slice_get s place ≡ Some slot) slots at) some;
        hand = λ place held. own.hand place (sym hand ∙ held);
      }) all

  slot-owned : (opener : Option Opener) (slot : Slot) (plain : Plain)
      → ((o : Opener) → opener ≡ Some o → slot ≢ Empty → HasOwner site o.server o.place)
      → AreOwned site plain → AreOwned site (with_slot opener slot plain)
  slot-owned None slot plain owner all = all
  slot-owned (Some opener) slot plain owner all = by (slice_get plain.processes opener.server) refl
    where
      by : (one : Option PlainProcess) → slice_get plain.processes opener.server ≡ one
          → AreOwned site (slot_put opener slot plain one)
      by None there = all
      by (Some server) there =
          let own = all.each opener.server server there in
          process-owned opener.server (record server { slots = slice_set server.slots opener.place slot }) plain
          (record {
            slots = set-all (λ place s. s ≢ Empty → HasOwner site opener.server place) server.slots opener.place slot
                own.slots (owner opener refl);
            hand = own.hand;
          }) all

  empty-owned : (opener : Option Opener) (plain : Plain) → AreOwned site plain
      → AreOwned site (with_slot opener Empty plain)
  empty-owned opener plain all = slot-owned opener Empty plain (λ o is some. absurd (some refl)) all

  -- Acts

  got-owned : (number : ℕ) (one : PlainProcess) (opener : Option Opener) (plain : Plain) (slot : Option Slot)
      → slice_get plain.processes number ≡ Some one
      → AreOwned site plain → StayOwned (got_made number one opener plain slot)
  got-owned number one opener plain None there all = tt
  got-owned number one opener plain (Some Empty) there all = tt
  got-owned number one opener plain (Some (Waiting words)) there all = tt
  got-owned number one opener plain (Some Taken) there all = tt
  got-owned number one opener plain (Some (Answered words)) there all =
      empty-owned opener _ (rest-owned number one _ plain there refl refl all)

  step-owned : (number : ℕ) (one : PlainProcess) (plain : Plain) (at : Point)
      → slice_get plain.processes number ≡ Some one → AreOwned site plain
      → StayOwned (step_at site number one plain at)
  step-owned number one plain point.Inner there all = rest-owned number one _ plain there refl refl all
  step-owned number one plain point.AtCheckpoint there all = rest-owned number one _ plain there refl refl all
  step-owned number one plain point.Device there all = rest-owned number one _ plain there refl refl all
  step-owned number one plain point.Take there all = tt
  step-owned number one plain point.Ended there all = tt
  step-owned number one plain point.Await there all =
      got-owned number one (own_opener site number one) plain (slot_of plain (own_opener site number one)) there all
  step-owned number one plain point.Ask there all =
      slot-owned (own_opener site number one) (Waiting (process.asked_words one.state)) _
      (λ o is some. (who.File number (process.asked_file one.state), is))
      (rest-owned number one _ plain there refl refl all)
  step-owned number one plain point.Answer there all =
      let own = all.each number one there in
      slot-owned (answered_by number one.hand) (Answered (process.answer_of one.state)) _
      (λ o is some. owner one.hand refl o is)
      (process-owned number (record one { state = process.after_answered one.state; hand = None }) plain
      (record { slots = own.slots; hand = λ place held. absurd (cc) }) all)
    where
      owner : (hand : Option ℕ) → one.hand ≡ hand → (o : Opener) → answered_by number hand ≡ Some o
          → HasOwner site o.server o.place
      owner None held o is = absurd (cc)
      owner (Some place) held o is = subst (λ (x : Opener). HasOwner site x.server x.place) (some-same is)
          ((all.each number one there).hand place held)

  take-owned : (number place : ℕ) (one : PlainProcess) (plain : Plain) (at : Point)
      → slice_get plain.processes number ≡ Some one → AreOwned site plain
      → StayOwned (take_at number place one plain at)
  take-owned number place one plain point.Inner there all = tt
  take-owned number place one plain point.Ask there all = tt
  take-owned number place one plain point.Await there all = tt
  take-owned number place one plain point.Answer there all = tt
  take-owned number place one plain point.AtCheckpoint there all = tt
  take-owned number place one plain point.Device there all = tt
  take-owned number place one plain point.Ended there all = tt
  take-owned number place one plain point.Take there all = by (slice_get one.slots place) refl
    where
      by : (slot : Option Slot) → slice_get one.slots place ≡ slot → StayOwned (take_slot number place one plain slot)
      by None found = tt
      by (Some Empty) found = tt
      by (Some Taken) found = tt
      by (Some (Answered words)) found = tt
      by (Some (Waiting words)) found =
          let own = all.each number one there in
          let owner = own.slots place (Waiting words) found (λ e. absurd (cc)) in
          process-owned number (record one {
            state = process.after_took one.state words;
            hand = Some place;
            slots = slice_set one.slots place Taken;
          }) plain
          (record {
            slots = set-all (λ at s. s ≢ Empty → HasOwner site number at) one.slots place Taken own.slots
                (λ some. owner);
            hand = λ at held. subst (HasOwner site number) (some-same held) owner;
          }) all

  enter-owned : (terminal : ℕ) (plain : Plain) (slot : Option Slot) → AreOwned site plain
      → StayOwned (enter_made site terminal (opener_of site (who.Terminal terminal)) plain slot)
  enter-owned terminal plain None all = tt
  enter-owned terminal plain (Some (Waiting words)) all = tt
  enter-owned terminal plain (Some Taken) all = tt
  enter-owned terminal plain (Some (Answered words)) all = tt
  enter-owned terminal plain (Some Empty) all = by (next_request site terminal (entered_at plain terminal))
    where
      by : (next : Option (List ℤ)) → StayOwned
          (enter_request terminal (opener_of site (who.Terminal terminal)) plain next)
      by None = tt
      by (Some words) =
          slot-owned (opener_of site (who.Terminal terminal)) (Waiting words) _
          (λ o is some. (who.Terminal terminal, is)) (record { count = all.count; each = all.each })

  print-owned : (terminal : ℕ) (opener : Option Opener) (plain : Plain) (slot : Option Slot) → AreOwned site plain
      → StayOwned (print_made terminal opener plain slot)
  print-owned terminal opener plain None all = tt
  print-owned terminal opener plain (Some Empty) all = tt
  print-owned terminal opener plain (Some (Waiting words)) all = tt
  print-owned terminal opener plain (Some Taken) all = tt
  print-owned terminal opener plain (Some (Answered words)) all = empty-owned opener plain all

  act-owned : (plain : Plain) (act : Act) → AreOwned site plain → StayOwned (made site plain act)
  act-owned plain (Step number) all = by (slice_get plain.processes number) refl
    where
      by : (one : Option PlainProcess) → slice_get plain.processes number ≡ one
          → StayOwned (step_made site number plain one)
      by None there = tt
      by (Some one) there = step-owned number one plain (process.point one.state) there all
  act-owned plain (Take number place) all = by (slice_get plain.processes number) refl
    where
      by : (one : Option PlainProcess) → slice_get plain.processes number ≡ one
          → StayOwned (take_made number place plain one)
      by None there = tt
      by (Some one) there = take-owned number place one plain (process.point one.state) there all
  act-owned plain (Enter terminal) all = enter-owned terminal plain _ all
  act-owned plain (Print terminal) all = print-owned terminal (opener_of site (who.Terminal terminal)) plain _ all

  -- Lists of acts

  all-owned : (acts : List Act) (plain : Plain) → AreOwned site plain → StayOwned (made_all site plain acts)
  all-owned [] plain all = all
  all-owned (act ∷ acts) plain all =
      by (λ next owned. all-owned acts next owned) (made site plain act) (act-owned plain act all)
    where
      after : (said : List Shown) (m : Option Made) → StayOwned m → StayOwned (option_map (made_before said) m)
      after said None owned = tt
      after said (Some m) owned = owned

      by : ((next : Plain) → AreOwned site next → StayOwned (made_all site next acts)) → (m : Option Made) → StayOwned m
          → StayOwned (option_and_then (λ first. option_map (made_before first.shown) (made_all site first.plain acts))
          m)
      by later None owned = tt
      by later (Some first) owned = after first.shown (made_all site first.plain acts) (later first.plain owned)

  -- Beginning

  first-count : (number : ℕ) (specs : List ProcessSpec) → length (processes_at_first site number specs) ≡ length specs
  first-count number [] = refl
  first-count number (spec ∷ specs) = let count = first-count (number + 1) specs in omega (arith, count)

  first-owned : (from : ℕ) (specs : List ProcessSpec) (number : ℕ) (one : PlainProcess)
      → slice_get (processes_at_first site from specs) number ≡ Some one
      → (at : ℕ) → IsOwned site at one
  first-owned from [] number one there at = absurd (cc)
  first-owned from (spec ∷ specs) (suc number) one there at = first-owned (from + 1) specs number one there at
  first-owned from (spec ∷ specs) zero one there at = subst (IsOwned site at) (some-same there) (record {
    slots = λ place slot found some. absurd
        (some (mapped (λ (opener : OpenerSpec). Empty) (openers_of site from) place slot found).2);
    hand = λ place held. absurd (cc);
  })

  pub acts-owned : (acts : List Act) (m : Made) → made_all site (plain_start site) acts ≡ Some m → AreOwned site m.plain
  acts-owned acts m is =
      subst StayOwned is (all-owned acts (plain_start site) (record {
        count = first-count 0 site.processes;
        each = λ number one there. first-owned 0 site.processes number one there number;
      }))
