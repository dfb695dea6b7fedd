use Rattle.std.proofs.Common.{◌≡◌, ◌≢◌, ◌≤◌, inl, inr, ℕ, zero, suc, ℤ, true, false, List, [], ◌∷◌, length, Option}
use Rattle.std.proofs.Common.{Some, None, slice_get, refl, sym, ◌∙◌, subst, arith}
use Rattle.std.proofs.lemmas.Bool.{eqb-true}
use Rattle.tal_tree.specs.declared.act.Act.TheVariants.{Take}
use Rattle.tal_tree.specs.declared.program.Program.{Program}
use Rattle.tal_tree.specs.declared.site.Kind.TheVariants as kind
use Rattle.tal_tree.specs.declared.site.ProcessSpec.{ProcessSpec}
use Rattle.tal_tree.specs.declared.site.Site.{Site}
use Rattle.schedule.specs.declared.event.Event.TheVariants.{Enter, Fail, Tick}
use Rattle.plain_semantics.specs.Machine.{Made, made, next_request}
use Rattle.gd_words.specs.Members.{IsAmong}
use Rattle.world_semantics.specs.Running.{run_done}
use Rattle.world_semantics.specs.declared.role.Role.TheVariants.{Acting, Gone}
use Rattle.world_semantics.specs.declared.which.Which.{Which}
use Rattle.world_semantics.specs.declared.which.Which.TheVariants.{First, Second}
use Rattle.served_requests.specs.computed_changes.specs.Entered.{enter_done}
use Rattle.served_requests.specs.computed_changes.proofs.Entered.{enter-only}
use Rattle.letters.specs.Routes.{Letter}
use Rattle.world_semantics.proofs.Lists.{some-same}
use Rattle.world_semantics.specs.Rules.{by_enter, by_stop, by_mark}
use Rattle.world_semantics.specs.World.{Pair, is_running, has_marked, copy_of}
use Rattle.world_semantics.proofs.Ran.{run-idle}
use Rattle.letters.specs.Idle.{IsIdle}
use Rattle.letters.specs.Posts.{Post, plays_enter, plays_fail, plays_tick, one_mark, no_mark, HasPlayed, played_none}
use Rattle.letters.specs.Posts.{played_more}
use Rattle.served_requests.specs.awaited_requests.specs.Examples.{site_with, disc_pair, letter_to}
use Rattle.idle_laws.proofs.guards.a_request_may_stay_with_nobody.Goals as goal

abbrev one_is_there : (post : Post) × HasPlayed (site_with 1 0 1) (Enter 0 ∷ Fail 0 ∷ Tick 16 ∷ []) post
one_is_there = (
  _,
  played_more (played_more (played_more played_none
      (plays_enter (by_enter 0 _ _ refl refl refl refl)))
      (plays_fail (by_stop 0 refl refl)))
      (plays_tick refl (one_mark 0 (by_mark 16 0 refl refl refl) no_mark)),
)

-- Nothing is left to do

-- a site at which no copy acts, the terminal awaits its reply, and the request is owed to a node that doesn't run
idle-by : (site : Site) (post : Post) (pair : Pair) → post.world.processes ≡ pair ∷ []
    → ((k : Which) → (copy_of k pair).role ≢ Acting)
    → post.owed ≡ letter_to 1 ∷ [] → is_running post.world.stopped 1 ≡ false
    → ((number : ℕ) → (run_done site number post.world ≡ None) × (enter_done site number post.world ≡ None))
    → ((node processor : ℕ) → is_running post.world.stopped node ≡ true
    → slice_get post.world.stopped processor ≡ Some true → has_marked post.world.downs node processor ≡ true)
    → IsIdle site post
idle-by site post pair processes rest owed stopped none marked = record {
  enters = λ number sendings next change.
      (let is = enter-only number post.world next sendings change in let nothing = (none number).1 in cc);
  runs = λ number. run-idle site number post.world (none number).0;
  waits = λ number one k there role. waits number one k
      (subst (λ (all : List Pair). slice_get all number ≡ Some one) processes there) role;
  owed = λ letter among sender receiver. elim (subst (λ (all : List Letter). IsAmong letter all) owed among) [
    | inl same ↦ absurd (let runs : is_running post.world.stopped 1
        ≡ true = subst (λ (l : Letter). is_running post.world.stopped l.receiver ≡ true) same receiver in
        let e : true ≡ false = sym runs ∙ stopped in cc)
    | inr none ↦ none
  ];
  marked = marked;
}
  where
    waits : (number : ℕ) (one : Pair) (k : Which) → slice_get (pair ∷ []) number ≡ Some one
        → (copy_of k one).role ≡ Acting → (copy_of k one).sent ≡ false
    waits zero one k there role =
        absurd (rest k (subst (λ (p : Pair). (copy_of k p).role ≡ Acting) (sym (some-same there)) role))
    waits (suc number) one k there role = absurd (cc)

none-there : (number : ℕ) → (run_done (site_with 1 0 1) number one_is_there.0.world ≡ None)
    × (enter_done (site_with 1 0 1) number one_is_there.0.world ≡ None)
none-there zero = (refl, refl)
none-there (suc number) = (refl, refl)

rest-there : (k : Which) → (copy_of k (record disc_pair { first = record disc_pair.first { role = Gone } })).role
    ≢ Acting
rest-there First acts = cc
rest-there Second acts = cc

-- of the nodes that run there is only that of the terminals
only-there : (node processor : ℕ) → is_running (true ∷ []) node ≡ true → slice_get (true ∷ []) processor ≡ Some true
    → has_marked one_is_there.0.world.downs node processor ≡ true
only-there zero processor runs down = absurd (cc)
only-there (suc node) zero runs down = rw (eqb-true (suc node) 16 runs) refl
only-there (suc node) (suc processor) runs down = absurd (cc)

-- What is left

-- the machine after these acts can take a request
abbrev CanTake : Site → Option Made → Type 0
CanTake site None = Unit {0}
CanTake site (Some m) = made site m.plain (Take 0 0) ≢ None

pub returns-clause-one_is_there : goal.returns-clause-one_is_there
returns-clause-one_is_there c = (
  one_is_there.0,
  one_is_there.1,
  idle-by (site_with 1 0 1) one_is_there.0 _ refl rest-there refl refl none-there only-there,
  λ left. subst (CanTake (site_with 1 0 1)) left.1 (λ none. cc) (left.2 (Take 0 0)),
)

-- Premises

no-pair : (processors number : ℕ) (spec : ProcessSpec) (program : Program)
    → slice_get (site_with processors 0 1).processes number ≡ Some spec
    → spec.what ≡ kind.Pair program → ⊥
no-pair processors zero spec program there is = let same = some-same there in cc
no-pair processors (suc number) spec program there is = cc

short : (processors terminal entered : ℕ) (words : List ℤ)
    → next_request (site_with processors 0 1) terminal entered ≡ Some words → length words ≤ 16
short processors zero zero words next = rw (← some-same next) (omega arith)
short processors zero (suc entered) words next = absurd (cc)
short processors (suc terminal) entered words next = absurd (cc)

pub returns-clause-accepted : goal.returns-clause-accepted
returns-clause-accepted c = λ processors. record {
  read = λ number spec program there is. absurd (no-pair processors number spec program there is);
  accepted = λ number spec program there is. absurd (no-pair processors number spec program there is);
  requests = short processors;
}
