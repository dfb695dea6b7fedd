-- The open links of a node where one of its copies does an act of its own.
use Rattle.std.proofs.Common.{◌≡◌, ◌≢◌, ℕ, ◌==◌, Bool, true, false, if◌then◌else◌, List, [], ◌++◌, length, Some}
use Rattle.std.proofs.Common.{slice_get, slice_set, refl, ap, subst, sym, ◌∙◌, ◌<◌}
use Rattle.std.proofs.lemmas.Bool.{eq-eqb}
use Rattle.checkpoint_image.specs.declared.receive.ReceiveBlock.{ReceiveBlock}
use Rattle.gd_words.specs.declared.message.Request.{Request}
use Rattle.tal_tree.specs.declared.act.Act.{Act}
use Rattle.tal_tree.specs.declared.site.Site.{Site}
use Rattle.schedule.specs.declared.event.Event.{Event}
use Rattle.process_semantics.specs.declared.point.Point.{Point}
use Rattle.process_semantics.specs.declared.point.Point.TheVariants as point
use Rattle.process_semantics.specs.Process as process
use Rattle.disc_device.specs.Sectors.{Stored}
use Rattle.world_semantics.specs.declared.role.Role.{Role}
use Rattle.world_semantics.specs.declared.role.Role.TheVariants.{Acting, Watching, Blank, Gone}
use Rattle.world_semantics.specs.declared.which.Which.{Which}
use Rattle.world_semantics.specs.declared.which.Which.TheVariants.{First, Second}
use Rattle.world_semantics.specs.Core.{Core}
use Rattle.world_semantics.specs.Follows.{IsRun}
use Rattle.world_semantics.specs.Kept.{Enters, holds_on, repeats, begins, keeps}
use Rattle.world_semantics.specs.Own.{Around}
use Rattle.world_semantics.specs.Rules.{after_own}
use Rattle.world_semantics.specs.World.{Copy, Pair, Terminal, World, copy_of, other_of, terminal_node, with_copy}
use Rattle.world_semantics.proofs.Reached.{run-kept}
use Rattle.served_requests.specs.letter_laws.specs.takeover_laws.specs.Fit.{IsFit}
use Rattle.served_requests.specs.letter_laws.specs.takeover_laws.proofs.Kept.{IsGood, run-keeps}
use Rattle.letters.specs.Again as again
use Rattle.letters.specs.Again.{awaited_by, awaited_from, if_acts_on}
use Rattle.node_needs.specs.NodeNeeds.{awaited_at, if_there, in_hand_at, in_hand_by, needs_at, of_copies}
use Rattle.node_needs.specs.NodeNeeds.{of_terminals, waiting_at}
use Rattle.link_laws.proofs.Lists.{AreInPlaceOf, behind, copy-put, in-front, same-put, terminal-put}

-- a world that a run reaches is good
pub run-good : (site : Site) → IsFit site → (events : List Event) (w : World) → length events < 4294967296
    → IsRun site events w → IsGood site (length events) w
run-good site fit events w few run =
    let kept = run-kept fit.seats run in
    record {
      roles = kept.roles;
      stopped = kept.downs;
      steady = kept.steady;
      seated = kept.seated;
      invariant = run-keeps site fit events w few run;
    }

-- What is for a copy that acts on a node

module _ {A : Type 0} where
  pub acts-none : (node : ℕ) (role : Role) (at : ℕ) (items : List A) → items ≡ [] → if_acts_on node role at items ≡ []
  acts-none node Acting at items none = by (at == node)
    where
      by : (b : Bool) → (if b then items else []) ≡ []
      by true = none
      by false = refl
  acts-none node Watching at items none = refl
  acts-none node Blank at items none = refl
  acts-none node Gone at items none = refl

  pub acts-there : (node : ℕ) (role : Role) (at : ℕ) (items those : List A) → role ≡ Acting → at ≡ node → items ≡ those
      → if_acts_on node role at items ≡ those
  acts-there node role at items those acting here same =
      ap (λ (r : Role). if_acts_on node r at items) acting
      ∙ ap (λ (b : Bool). if b then items else []) (eq-eqb at node here)
      ∙ same

  -- where the copy is seated as another one
  pub acts-as : (node : ℕ) (role other : Role) (at there : ℕ) (items those : List A) → role ≡ other → at ≡ there
      → items ≡ those → if_acts_on node role at items ≡ if_acts_on node other there those
  acts-as node role other at there items those one two three =
      ap (λ (r : Role). if_acts_on node r at items) one ∙ ap (λ (p : ℕ). if_acts_on node other p items) two
      ∙ ap (λ (l : List A). if_acts_on node other there l) three

  pub there-as : (node : ℕ) (role other : Role) (at there : ℕ) (items those : List A) → role ≡ other → at ≡ there
      → items ≡ those → if_there node role at items ≡ if_there node other there those
  there-as node role other at there items those one two three =
      ap (λ (r : Role). if_there node r at items) one ∙ ap (λ (p : ℕ). if_there node other p items) two
      ∙ ap (λ (l : List A). if_there node other there l) three

-- a process that doesn't stand at Await awaits nothing
pub rests-none : (site : Site) (number : ℕ) (core : Core) → process.point core.state ≢ point.Await
    → awaited_by site number core ≡ []
rests-none site number core away = by (process.point core.state) refl
  where
    by : (at : Point) → process.point core.state ≡ at → again.awaited_at site number core at ≡ []
    by point.Inner at = refl
    by point.Take at = refl
    by point.Ask at = refl
    by point.Await at = absurd (away at)
    by point.Answer at = refl
    by point.AtCheckpoint at = refl
    by point.Device at = refl
    by point.Ended at = refl

pub at-none : (site : Site) (number : ℕ) (core : Core) (at : Point) → process.point core.state ≡ at → at ≢ point.Await
    → awaited_by site number core ≡ []
at-none site number core at is away = rests-none site number core (λ same. away (sym is ∙ same))

-- How an act enters the kept acts

pub record IsSeatedAs (copy entered : Copy) : Type 0 where
  pub role : entered.role ≡ copy.role
  pub processor : entered.processor ≡ copy.processor

pub entered-seat : {number : ℕ} {act : Act} {kept after : List Act} {copy entered : Copy}
    → Enters number act kept copy entered after → IsSeatedAs copy entered
entered-seat (holds_on held) = record { role = refl; processor = refl }
entered-seat (repeats held less) = record { role = refl; processor = refl }
entered-seat (begins held most take) = record { role = refl; processor = refl }
entered-seat (keeps held most take) = record { role = refl; processor = refl }

-- the other copy stays where the sectors change
pub other-stays : (k : Which) (pair : Pair) (sectors : List Stored)
    → copy_of (other_of k) (record pair { sectors = sectors }) ≡ copy_of (other_of k) pair
other-stays First pair sectors = refl
other-stays Second pair sectors = refl

-- One copy of one process becomes another

module _ (site : Site) (w next : World) (node number : ℕ) (pair rest : Pair) (k : Which) (copy : Copy)
    (there : slice_get w.processes number ≡ Some pair)
    (others : copy_of (other_of k) rest ≡ copy_of (other_of k) pair)
    (same : next.processes ≡ slice_set w.processes number (with_copy k copy rest))
    (terminals : next.terminals ≡ w.terminals) where
  over : {A : Type 0} (f : ℕ → Copy → List A)
      → AreInPlaceOf (f number copy) (f number (copy_of k pair)) (of_copies f 0 w.processes)
      (of_copies f 0 next.processes)
  over f =
      subst (λ (ps : List Pair). AreInPlaceOf (f number copy) (f number (copy_of k pair))
      (of_copies f 0 w.processes) (of_copies f 0 ps)) (sym same)
      (copy-put f number w.processes pair rest k copy there others)

  pub waiting-put : AreInPlaceOf (waiting_at node copy) (waiting_at node (copy_of k pair))
      (needs_at site w node).waiting (needs_at site next node).waiting
  waiting-put = over (λ number copy. waiting_at node copy)

  pub held-put : AreInPlaceOf (in_hand_at node number copy) (in_hand_at node number (copy_of k pair))
      (needs_at site w node).in_hand (needs_at site next node).in_hand
  held-put = over (in_hand_at node)

  abbrev entered_by : List Terminal → List Request
  entered_by those = if node == terminal_node then of_terminals (awaited_from site) 0 those else []

  pub awaited-put : AreInPlaceOf (awaited_at site node number copy) (awaited_at site node number (copy_of k pair))
      (needs_at site w node).awaited (needs_at site next node).awaited
  awaited-put =
      subst (λ (those : List Terminal). AreInPlaceOf (awaited_at site node number copy)
      (awaited_at site node number (copy_of k pair)) (of_copies (awaited_at site node) 0 w.processes ++ entered_by
      w.terminals) (of_copies (awaited_at site node) 0 next.processes ++ entered_by those)) (sym terminals)
      (behind (entered_by w.terminals) (over (awaited_at site node)))

-- A copy does an act of its own

module _ (site : Site) (w : World) (number : ℕ) (k : Which) (pair : Pair)
    (there : slice_get w.processes number ≡ Some pair) (core : Core) (entered : Copy) (after : Around)
    (kept : List Act) (node : ℕ) where
  abbrev acted : Copy
  acted = record entered { core = core; waiting = after.waiting }

  abbrev pub acted_world : World
  acted_world = after_own number k pair core entered after kept w

  pub own-waiting : AreInPlaceOf (waiting_at node acted) (waiting_at node (copy_of k pair))
      (needs_at site w node).waiting (needs_at site acted_world node).waiting
  own-waiting =
      waiting-put site w acted_world node number pair (record pair { sectors = after.sectors }) k acted there
      (other-stays k pair after.sectors) refl refl

  pub own-held : AreInPlaceOf (in_hand_at node number acted) (in_hand_at node number (copy_of k pair))
      (needs_at site w node).in_hand (needs_at site acted_world node).in_hand
  own-held =
      held-put site w acted_world node number pair (record pair { sectors = after.sectors }) k acted there
      (other-stays k pair after.sectors) refl refl

  pub own-awaited : AreInPlaceOf (awaited_at site node number acted) (awaited_at site node number (copy_of k pair))
      (needs_at site w node).awaited (needs_at site acted_world node).awaited
  own-awaited =
      awaited-put site w acted_world node number pair (record pair { sectors = after.sectors }) k acted there
      (other-stays k pair after.sectors) refl refl

  module _ (seat : IsSeatedAs (copy_of k pair) entered) where
    -- the same requests wait
    pub waiting-stays : after.waiting ≡ (copy_of k pair).waiting
        → (needs_at site acted_world node).waiting ≡ (needs_at site w node).waiting
    waiting-stays same =
        same-put own-waiting
        (there-as node entered.role (copy_of k pair).role entered.processor (copy_of k pair).processor after.waiting
        (copy_of k pair).waiting seat.role seat.processor same)

    -- the same requests are in hand
    pub held-stays : core.receive ≡ (copy_of k pair).core.receive
        → (needs_at site acted_world node).in_hand ≡ (needs_at site w node).in_hand
    held-stays same =
        same-put own-held
        (acts-as node entered.role (copy_of k pair).role entered.processor (copy_of k pair).processor
        (in_hand_by number core.receive core.receive.in_hand)
        (in_hand_by number (copy_of k pair).core.receive (copy_of k pair).core.receive.in_hand) seat.role seat.processor
        (ap (λ (table : ReceiveBlock). in_hand_by number table table.in_hand) same))

    -- a copy that awaits nothing before and after leaves what is awaited
    pub awaited-stays : awaited_by site number core ≡ [] → awaited_by site number (copy_of k pair).core ≡ []
        → (needs_at site acted_world node).awaited ≡ (needs_at site w node).awaited
    awaited-stays now before =
        same-put own-awaited
        (acts-none node entered.role entered.processor (awaited_by site number core) now
        ∙ sym (acts-none node (copy_of k pair).role (copy_of k pair).processor
        (awaited_by site number (copy_of k pair).core) before))

-- A terminal becomes another

module _ (site : Site) (w next : World) (node number : ℕ) (terminal following : Terminal)
    (there : slice_get w.terminals number ≡ Some terminal) (here : node ≡ terminal_node)
    (processes : next.processes ≡ w.processes) (same : next.terminals ≡ slice_set w.terminals number following) where
  abbrev of_all : List Terminal → List Request
  of_all those = if node == terminal_node then of_terminals (awaited_from site) 0 those else []

  abbrev Put : List Pair → List Terminal → Type 0
  Put pairs those =
      AreInPlaceOf (awaited_from site number following) (awaited_from site number terminal)
      (needs_at site w node).awaited (of_copies (awaited_at site node) 0 pairs ++ of_all those)

  pub terminal-awaited : AreInPlaceOf (awaited_from site number following) (awaited_from site number terminal)
      (needs_at site w node).awaited (needs_at site next node).awaited
  terminal-awaited =
      subst (λ (ps : List Pair). Put ps next.terminals) (sym processes)
      (subst (λ (ts : List Terminal). Put w.processes ts) (sym same) (by (node == terminal_node)
      (eq-eqb node terminal_node here)))
    where
      with_all : Bool → List Terminal → List Request
      with_all b those =
          of_copies (awaited_at site node) 0 w.processes
          ++ (if b then of_terminals (awaited_from site) 0 those else [])

      by : (b : Bool) → b ≡ true
          → AreInPlaceOf (awaited_from site number following) (awaited_from site number terminal)
          (with_all b w.terminals) (with_all b (slice_set w.terminals number following))
      by true is =
          in-front (of_copies (awaited_at site node) 0 w.processes)
          (terminal-put (awaited_from site) number w.terminals terminal following there)
      by false is = absurd (cc)

  pub terminal-waiting : (needs_at site next node).waiting ≡ (needs_at site w node).waiting
  terminal-waiting = ap (of_copies (λ number copy. waiting_at node copy) 0) processes

  pub terminal-held : (needs_at site next node).in_hand ≡ (needs_at site w node).in_hand
  terminal-held = ap (of_copies (in_hand_at node) 0) processes
