-- A state is idle where its post is.
use Rattle.std.proofs.Common.{◌≡◌, ◌<◌, ◌↔◌, inl, inr, ℕ, zero, suc, ◌+◌, ◌&&◌, ◌||◌, Bool, true, false, not, List, []}
use Rattle.std.proofs.Common.{◌∷◌, length, Option, Some, None, is_none, slice_get, refl, sym, ap, subst, ◌∙◌, arith}
use Rattle.std.specs.List.{list_all}
use Rattle.std.specs.Cmp.Derive.{both_true}
use Rattle.std.proofs.lemmas.Bool.{eqb-true}
use Rattle.std.proofs.lemmas.Option.{slice_get_within}
use Rattle.gd_words.specs.Members.{IsAmong}
use Rattle.gd_words.proofs.Among.{among-at}
use Rattle.tal_tree.specs.declared.site.Site.{Site}
use Rattle.world_semantics.specs.declared.role.Role.{Role}
use Rattle.world_semantics.specs.declared.role.Role.TheVariants.{Acting, Watching, Blank, Gone}
use Rattle.world_semantics.specs.declared.which.Which.{Which}
use Rattle.world_semantics.specs.declared.which.Which.TheVariants.{First, Second}
use Rattle.world_semantics.specs.Follows.{IsIdleFor}
use Rattle.world_semantics.specs.Messages.{Cause, Entering}
use Rattle.world_semantics.specs.Rules.{Change}
use Rattle.world_semantics.specs.Running.{Done, run_done}
use Rattle.world_semantics.specs.World.{Pair, World, copy_of, terminal_node, runs_by, is_running, has_marked}
use Rattle.world_semantics.proofs.Members.{among-map}
use Rattle.world_semantics.proofs.Ran.{run-may, run-idle}
use Rattle.world_semantics.proofs.Roles.{both-true}
use Rattle.computed_changes.specs.Entered.{enter_done}
use Rattle.computed_changes.proofs.Entered.{enter-may, enter-only}
use Rattle.computed_changes.proofs.Outcomes.{idle-where}
use Rattle.letters.specs.Idle.{IsIdle}
use Rattle.letters.specs.Routes.{Letter}
use Rattle.message_wires.specs.Idle.{all_from, none_enters, none_runs, awaits_taking_as, awaits_taking, none_owed}
use Rattle.message_wires.specs.Idle.{none_awaits_taking}
use Rattle.message_wires.specs.Idle.{has_marked_if, has_marked_all, all_marked, is_idle}
use Rattle.message_wires.specs.Play.{MachineState}
use Rattle.message_wires.specs.Runs.{letters_in, post_of}
use Rattle.message_wires.specs.Wires.{Sent}

-- Lists and numbers that pass a test

from-all : (test : ℕ → Bool) (number left : ℕ) → all_from test number left ≡ true → (k : ℕ) → k < left
    → test (number + k) ≡ true
from-all test number zero all k low = absurd (omega (arith, low))
from-all test number (suc left) all zero low =
    let here : number ≡ number + 0 = omega arith in subst (λ n. test n ≡ true) here (both-true (test number) _ all).0
from-all test number (suc left) all (suc k) low =
    let there : number + 1 + k ≡ number + suc k = omega arith in
    subst (λ n. test n ≡ true) there (from-all test (number + 1) left (both-true (test number) _ all).1 k
    (omega (arith, low)))

from-first : (test : ℕ → Bool) (left : ℕ) → all_from test 0 left ≡ true → (k : ℕ) → k < left → test k ≡ true
from-first test left all k low =
    let same : 0 + k ≡ k = omega arith in subst (λ n. test n ≡ true) same (from-all test 0 left all k low)

passes-all : (test : ℕ → Bool) (number left : ℕ) → ((k : ℕ) → test k ≡ true) → all_from test number left ≡ true
passes-all test number zero all = refl
passes-all test number (suc left) all = both_true (all number) (passes-all test (number + 1) left all)

from-list : {A : Type 0} (test : A → Bool) (xs : List A) → list_all test xs ≡ true → (x : A) → IsAmong x xs
    → test x ≡ true
from-list test [] all x among = absurd among
from-list test (y ∷ xs) all x (inl same) = subst (λ z. test z ≡ true) (sym same) (both-true (test y) _ all).0
from-list test (y ∷ xs) all x (inr among) = from-list test xs (both-true (test y) _ all).1 x among

passes-list : {A : Type 0} (test : A → Bool) (xs : List A)
    → ((k : ℕ) (x : A) → slice_get xs k ≡ Some x → test x ≡ true) → list_all test xs ≡ true
passes-list test [] all = refl
passes-list test (x ∷ xs) all = both_true (all zero x refl) (passes-list test xs (λ k. all (suc k)))

-- where none is computed at the places of a list, none is anywhere
none-anywhere : {A : Type 0} (xs : List A) (computed : ℕ → Option Done)
    → ((k : ℕ) → slice_get xs k ≡ None → computed k ≡ None)
    → all_from (λ k. is_none (computed k)) 0 (length xs) ≡ true → (k : ℕ) → computed k ≡ None
none-anywhere xs computed outside all k = by (slice_get xs k) refl
  where
    none : (one : Option Done) → is_none one ≡ true → one ≡ None
    none None e = refl
    none (Some done) e = absurd (cc)

    by : (x : Option _) → slice_get xs k ≡ x → computed k ≡ None
    by None e = outside k e
    by (Some x) e =
        none (computed k) (from-first (λ k. is_none (computed k)) (length xs) all k (slice_get_within xs k x e))

-- Copies, letters and marks

acting-rests : (role : Role) (sent : Bool) → role ≡ Acting → not (awaits_taking_as role sent) ≡ true → sent ≡ false
acting-rests Acting true acts rests = absurd (cc)
acting-rests Acting false acts rests = refl
acting-rests Watching sent acts rests = absurd (cc)
acting-rests Blank sent acts rests = absurd (cc)
acting-rests Gone sent acts rests = absurd (cc)

copy-rests : (k : Which) (pair : Pair) → (copy_of k pair).role ≡ Acting
    → (not (awaits_taking pair.first) && not (awaits_taking pair.second)) ≡ true
    → (copy_of k pair).sent ≡ false
copy-rests First pair acts rest =
    acting-rests pair.first.role pair.first.sent acts (both-true (not (awaits_taking pair.first)) _ rest).0
copy-rests Second pair acts rest =
    acting-rests pair.second.role pair.second.sent acts (both-true (not (awaits_taking pair.first)) _ rest).1

rests-acting : (role : Role) (sent : Bool) → (role ≡ Acting → sent ≡ false) → not (awaits_taking_as role sent) ≡ true
rests-acting Acting sent rests = ap not (rests refl)
rests-acting Watching sent rests = refl
rests-acting Blank sent rests = refl
rests-acting Gone sent rests = refl

not-both : (a b : Bool) → a ≡ true → b ≡ true → not (a && b) ≡ true → ⊥
not-both true true one other neither = cc
not-both true false one other neither = cc
not-both false b one other neither = cc

one-not : (a b : Bool) → (a ≡ true → b ≡ true → ⊥) → not (a && b) ≡ true
one-not true true never = absurd (never refl refl)
one-not true false never = refl
one-not false b never = refl

among-letter : (one : Sent) (owed : List Sent) → IsAmong one owed → IsAmong one.letter (letters_in owed)
among-letter one [] among = absurd among
among-letter one (first ∷ owed) (inl same) = inl (ap (λ (x : Sent). x.letter) same)
among-letter one (first ∷ owed) (inr among) = inr (among-letter one owed among)

module _ (w : World) where
  marked-of : (node processor : ℕ) → is_running w.stopped node ≡ true → slice_get w.stopped processor ≡ Some true
      → has_marked_all w node ≡ true
      → has_marked w.downs node processor ≡ true
  marked-of node processor runs stopped all =
      let each : all_from (λ processor. has_marked_if w node processor (slice_get w.stopped processor)) 0
      (length w.stopped) ≡ true =
      ap (λ r. not r || all_from (λ processor. has_marked_if w node processor (slice_get w.stopped processor)) 0
      (length w.stopped)) (sym runs) ∙ all in
      ap (has_marked_if w node processor) (sym stopped)
      ∙ from-first (λ processor. has_marked_if w node processor (slice_get w.stopped processor)) (length w.stopped)
      each processor
      (slice_get_within w.stopped processor true stopped)

  marked-at : (node : ℕ) → all_marked w ≡ true → is_running w.stopped node ≡ true → has_marked_all w node ≡ true
  marked-at node all runs = by (slice_get w.stopped node) refl runs
    where
      parts : (all_from (λ node. has_marked_all w node) 0 (length w.stopped) ≡ true)
          × (has_marked_all w terminal_node ≡ true)
      parts = both-true (all_from (λ node. has_marked_all w node) 0 (length w.stopped))
          (has_marked_all w terminal_node) all

      by : (stopped : Option Bool) → slice_get w.stopped node ≡ stopped → runs_by node stopped ≡ true
          → has_marked_all w node ≡ true
      by None e is = subst (λ n. has_marked_all w n ≡ true) (sym (eqb-true node terminal_node is)) parts.1
      by (Some one) e is = from-first (λ node. has_marked_all w node) (length w.stopped) parts.0 node
          (slice_get_within w.stopped node one e)

  downs-all : (node : ℕ) → ((processor : ℕ) → is_running w.stopped node ≡ true
      → slice_get w.stopped processor ≡ Some true → has_marked w.downs node processor ≡ true)
      → has_marked_all w node ≡ true
  downs-all node downs = by (is_running w.stopped node) refl
    where
      each : is_running w.stopped node ≡ true → (processor : ℕ) (stopped : Option Bool)
          → slice_get w.stopped processor ≡ stopped
          → has_marked_if w node processor stopped ≡ true
      each runs processor None e = refl
      each runs processor (Some true) e = downs processor runs e
      each runs processor (Some false) e = refl

      by : (runs : Bool) → is_running w.stopped node ≡ runs
          → (not runs || all_from (λ processor. has_marked_if w node processor (slice_get w.stopped processor)) 0
          (length w.stopped)) ≡ true
      by false e = refl
      by true e =
          passes-all (λ processor. has_marked_if w node processor (slice_get w.stopped processor)) 0 (length w.stopped)
          (λ processor. each e processor (slice_get w.stopped processor) refl)

-- what a change that isn't possible computes
none-made : {site : Site} {w : World} {cause : Cause} (computed : Option Done)
    → ((done : Done) → computed ≡ Some done → Change site w cause done.sendings done.world)
    → IsIdleFor site w cause → is_none computed ≡ true
none-made None made idle = refl
none-made (Some done) made idle = absurd (idle done.sendings done.world (made done refl))

-- States

module _ (s : MachineState) (sent : List Letter) where
  idle-post : is_idle s ≡ true → IsIdle s.site (post_of s sent)
  idle-post idle =
      let enters = both-true (none_enters s.site s.world) _ idle in
      let runs = both-true (none_runs s.site s.world) _ enters.1 in
      let waits = both-true (none_awaits_taking s.world.processes) _ runs.1 in
      let rest = both-true (none_owed s.world.stopped s.wires.owed) _ waits.1 in
      record {
        enters = λ terminal. idle-where s.site s.world (Entering terminal) (enter_done s.site terminal s.world)
            (λ next sendings change. enter-only terminal s.world next sendings change)
            (none-anywhere s.world.terminals (λ k. enter_done s.site k s.world) (λ k e. rw e refl) enters.0 terminal);
        runs = λ number. run-idle s.site number s.world
            (none-anywhere s.world.processes (λ k. run_done s.site k s.world) (λ k e. rw e refl) runs.0 number);
        waits = λ number pair k there acts. copy-rests k pair acts
            (from-list _ s.world.processes waits.0 pair (among-at s.world.processes number pair there));
        owed = λ letter among sends receives.
            (let from = among-map (λ (one : Sent). one.letter) s.wires.owed letter among in
            not-both (is_running s.world.stopped from.item.letter.sender)
            (is_running s.world.stopped from.item.letter.receiver)
            (subst (λ (x : Letter). is_running s.world.stopped x.sender ≡ true) from.same sends)
            (subst (λ (x : Letter). is_running s.world.stopped x.receiver ≡ true) from.same receives)
            (from-list _ s.wires.owed rest.0 from.item from.among));
        marked = λ node processor alive stopped.
            marked-of s.world node processor alive stopped (marked-at s.world node rest.1 alive);
      }

  post-idle : IsIdle s.site (post_of s sent) → is_idle s ≡ true
  post-idle idle =
      both_true (passes-all (λ k. is_none (enter_done s.site k s.world)) 0 (length s.world.terminals)
      (λ k. none-made (enter_done s.site k s.world) (λ done e. enter-may s.site k s.world done e) (idle.enters k)))
      (both_true (passes-all (λ k. is_none (run_done s.site k s.world)) 0 (length s.world.processes)
      (λ k. none-made (run_done s.site k s.world) (λ done e. run-may s.site k s.world done e) (idle.runs k)))
      (both_true (passes-list _ s.world.processes (λ k pair there.
      both_true (rests-acting pair.first.role pair.first.sent (idle.waits k pair First there))
      (rests-acting pair.second.role pair.second.sent (idle.waits k pair Second there))))
      (both_true (passes-list _ s.wires.owed (λ k one there.
      one-not (is_running s.world.stopped one.letter.sender) (is_running s.world.stopped one.letter.receiver)
      (idle.owed one.letter (among-letter one s.wires.owed (among-at s.wires.owed k one there)))))
      (both_true (passes-all (λ node. has_marked_all s.world node) 0 (length s.world.stopped)
      (λ node. downs-all s.world node (idle.marked node)))
      (downs-all s.world terminal_node (idle.marked terminal_node))))))

  pub idle-both : is_idle s ≡ true ↔ IsIdle s.site (post_of s sent)
  idle-both = (idle-post, post-idle)
