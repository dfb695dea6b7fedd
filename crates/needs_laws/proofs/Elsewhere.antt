-- What changes of the world leave of the needs of other nodes.
use Rattle.std.proofs.Common.{◌≡◌, ◌≢◌, ℕ, ℤ, Bool, true, false, ◌==◌, List, length, Option, Some, None, option_map}
use Rattle.std.proofs.Common.{[], ◌∷◌, ◌+◌, ◌&&◌, nat_lt, suc}
use Rattle.std.proofs.Common.{slice_get, refl, sym, subst, ap, ◌∙◌, inl, inr, length-set}
use Rattle.std.proofs.lemmas.Bool.{cases_eq, eqb-true, ne_eqb}
use Rattle.std.proofs.lemmas.List.{length-map}
use Rattle.gd_words.specs.declared.message.Reply.{Reply}
use Rattle.tal_tree.specs.declared.site.Site.{Site}
use Rattle.tal_tree.specs.declared.site.OpenerSpec.{OpenerSpec}
use Rattle.tal_tree.specs.declared.site.Who.{Who}
use Rattle.tal_tree.specs.declared.site.Who.TheVariants as who
use Rattle.plain_semantics.specs.Openers.{openers_of, opener_of}
use Rattle.plain_semantics.specs.declared.slot.Opener.{Opener}
use Rattle.plain_semantics.specs.Machine.{next_request}
use Rattle.world_semantics.specs.declared.which.Which.{Which}
use Rattle.world_semantics.specs.declared.which.Which.TheVariants.{First, Second}
use Rattle.world_semantics.specs.Core.{Core}
use Rattle.world_semantics.specs.World.{Copy, Pair, Terminal, World, copy_of, is_marked_by_all, is_whole, terminal_node}
use Rattle.world_semantics.specs.Messages.{Message, Asking, Replying, Checkpointing, Taking}
use Rattle.world_semantics.specs.Records.{records_of}
use Rattle.world_semantics.specs.Rules.{new_core, most_reloads, pair_at_down, reloaded_at, reloaded_by, reloaded_from}
use Rattle.world_semantics.specs.Rules.{stopped_copy, stopped_pair}
use Rattle.world_semantics.specs.Running.{Done, Stepped, in_world, run_done, run_pair, step_of}
use Rattle.world_semantics.proofs.Lists.{Changed, is_new, is_same, changed, mapped, some-same}
use Rattle.world_semantics.proofs.Roles.{reload-all}
use Rattle.computed_changes.specs.Entered.{enter_done, enter_at, enter_where, enter_to, entered_done}
use Rattle.computed_changes.specs.Handed.{brought_to, handed_done, replied_done, step_on}
use Rattle.computed_changes.specs.Replies.{awaits_at, printed_at, printed_done, printed_where}
use Rattle.computed_changes.specs.Stopped.{down_done, mark_where, marked_where, may_mark, stop_done, stop_where}
use Rattle.computed_changes.specs.Stopped.{reload_counted, reload_done, reload_if, reload_where, reloaded_world}
use Rattle.computed_changes.specs.Stopped.{stop_if, stopped_world, world_at_down}
use Rattle.packet_places.specs.Places.{KeepsItsOwn}
use Rattle.packet_places.proofs.Copies.{AnyAt, IsDoneAt, enter-there, handed-there, keeps-same, marked-there}
use Rattle.node_needs.specs.NodeNeeds.{needs_at}
use Rattle.needs_laws.proofs.Homes.{AreHome, StepsHome, marked-home, on-home, run-home}
use Rattle.needs_laws.proofs.Same.{IsLeft, alike, needs-same}

-- a change leaves all copies in their processors, and the terminals unless it is at their node
record IsHome (node : ℕ) (w : World) (done : Done) : Type 0 where
  pub long : length done.world.processes ≡ length w.processes
  pub homes : (number : ℕ) (j : Which) (before after : Pair) → slice_get w.processes number ≡ Some before
      → slice_get done.world.processes number ≡ Some after
      → (copy_of j after).processor ≡ (copy_of j before).processor
  pub terminals : node ≢ terminal_node → done.world.terminals ≡ w.terminals

abbrev HomeAny : ℕ → World → Option Done → Type 0
HomeAny node w None = Unit {0}
HomeAny node w (Some done) = IsHome node w done

-- what is done at a node leaves the needs of another one
elsewhere : (site : Site) (w : World) (node x : ℕ) (done : Done) → x ≢ node → IsDoneAt node w done
    → IsHome node w done → needs_at site done.world x ≡ needs_at site w x
elsewhere site w node x done differs at home =
    needs-same site w done.world x home.long (λ k j before after there now. by k j before after there now)
    (λ is. home.terminals (λ same. differs (is ∙ sym same)))
  where
    by : (k : ℕ) (j : Which) (before after : Pair) → slice_get w.processes k ≡ Some before
        → slice_get done.world.processes k ≡ Some after
        → IsLeft x (copy_of j before) (copy_of j after)
    by k j before after there now = elim (cases_eq (copy_of j before).processor node) [
      | inl here ↦ inr (
        (λ same. differs (sym same ∙ here)),
        (λ same. differs (sym same ∙ home.homes k j before after there now ∙ here)),
      )
      | inr away ↦ inl (alike (at.copies k j before after there now away))
    ]

elsewhere-any : (site : Site) (w : World) (node x : ℕ) (made : Option Done) (done : Done) → made ≡ Some done
    → x ≢ node → AnyAt node w made → HomeAny node w made
    → needs_at site done.world x ≡ needs_at site w x
elsewhere-any site w node x made done is differs at home =
    elsewhere site w node x done differs (subst (AnyAt node w) is at) (subst (HomeAny node w) is home)

quiet-home : (node : ℕ) (w : World) (done : Done) → done.world.processes ≡ w.processes
    → (node ≢ terminal_node → done.world.terminals ≡ w.terminals) → IsHome node w done
quiet-home node w done same terminals = record {
  long = ap (λ (ps : List Pair). length ps) same;
  homes = λ number j before after there now.
      ap (λ (p : Pair). (copy_of j p).processor)
      (some-same (sym now ∙ ap (λ (ps : List Pair). slice_get ps number) same ∙ there));
  terminals = terminals;
}

-- Steps of one process

set-home : (w : World) (number : ℕ) (pair next : Pair) → slice_get w.processes number ≡ Some pair → AreHome pair next
    → (k : ℕ) (j : Which) (before after : Pair) → slice_get w.processes k ≡ Some before
    → Changed w.processes number next k after
    → (copy_of j after).processor ≡ (copy_of j before).processor
set-home w number pair next there home k j before after was (is_new here new) =
    let one : pair ≡ before = some-same (sym there ∙ ap (slice_get w.processes) here ∙ was) in
    ap (λ (p : Pair). (copy_of j p).processor) new ∙ home j ∙ ap (λ (p : Pair). (copy_of j p).processor) one
set-home w number pair next there home k j before after was (is_same other now) =
    ap (λ (p : Pair). (copy_of j p).processor) (some-same (sym now ∙ was))

lifted-home : (node : ℕ) (w : World) (number : ℕ) (pair : Pair) → slice_get w.processes number ≡ Some pair
    → (step : Option Stepped) → StepsHome pair step → HomeAny node w (option_map (in_world number w) step)
lifted-home node w number pair there None home = tt
lifted-home node w number pair there (Some step) home = record {
  long = length-set w.processes number step.pair;
  homes = λ k j before after was now.
      set-home w number pair step.pair there home k j before after was
      (changed w.processes number step.pair k after now);
  terminals = λ away. refl;
}

-- Runs

run-left : (site : Site) (w : World) (number x : ℕ) (pair : Pair) → slice_get w.processes number ≡ Some pair
    → ((j : Which) → (copy_of j pair).processor ≢ x) → (step : Stepped) → AreHome pair step.pair
    → needs_at site (in_world number w step).world x ≡ needs_at site w x
run-left site w number x pair there away step home =
    needs-same site w (in_world number w step).world x (length-set w.processes number step.pair)
    (λ k j before after was now. by k j before after was (changed w.processes number step.pair k after now))
    (λ is. refl)
  where
    by : (k : ℕ) (j : Which) (before after : Pair) → slice_get w.processes k ≡ Some before
        → Changed w.processes number step.pair k after
        → IsLeft x (copy_of j before) (copy_of j after)
    by k j before after was (is_new here new) =
        let one : pair ≡ before = some-same (sym there ∙ ap (slice_get w.processes) here ∙ was) in
        let old : (copy_of j pair).processor ≡ (copy_of j before).processor =
        ap (λ (p : Pair). (copy_of j p).processor) one in
        let next : (copy_of j after).processor ≡ (copy_of j pair).processor =
        ap (λ (p : Pair). (copy_of j p).processor) new ∙ home j in
        inr ((λ same. away j (old ∙ same)), (λ same. away j (sym next ∙ same)))
    by k j before after was (is_same other now) =
        let one : before ≡ after = some-same (sym was ∙ now) in
        inl (alike
        (subst (λ (p : Pair). KeepsItsOwn (copy_of j before) (copy_of j p)) one (keeps-same (copy_of j before))))

pub run-elsewhere : (site : Site) (w : World) (number x : ℕ) (pair : Pair) (done : Done)
    → run_done site number w ≡ Some done → slice_get w.processes number ≡ Some pair
    → pair.first.processor ≢ x → pair.second.processor ≢ x
    → needs_at site done.world x ≡ needs_at site w x
run-elsewhere site w number x pair done made there first second =
    by (step_of site number pair w.downs (records_of w)) (run-home site number pair w.downs (records_of w))
    (sym (ap (run_pair site number w) there) ∙ made)
  where
    away : (j : Which) → (copy_of j pair).processor ≢ x
    away First = first
    away Second = second

    by : (step : Option Stepped) → StepsHome pair step → option_map (in_world number w) step ≡ Some done
        → needs_at site done.world x ≡ needs_at site w x
    by None home is = absurd (cc)
    by (Some step) home is =
        subst (λ (d : Done). needs_at site d.world x ≡ needs_at site w x) (some-same is)
        (run-left site w number x pair there away step home)

-- Entries

enter-home : (site : Site) (number : ℕ) (w : World) → HomeAny terminal_node w (enter_done site number w)
enter-home site number w = by (slice_get w.terminals number)
  where
    words : (terminal : Terminal) (opener : Opener) (found : Option (List ℤ))
        → HomeAny terminal_node w (option_map (entered_done number terminal w opener) found)
    words terminal opener None = tt
    words terminal opener (Some asked) =
        quiet-home terminal_node w (entered_done number terminal w opener asked) refl (λ away. absurd (away refl))

    to : (terminal : Terminal) (opener : Option Opener)
        → HomeAny terminal_node w (enter_to number terminal w (next_request site number terminal.entered) opener)
    to terminal None = tt
    to terminal (Some opener) = words terminal opener (next_request site number terminal.entered)

    where_it : (terminal : Terminal) (test : Bool) → HomeAny terminal_node w (enter_where site number terminal w test)
    where_it terminal false = tt
    where_it terminal true = to terminal (opener_of site (who.Terminal number))

    by : (found : Option Terminal) → HomeAny terminal_node w (enter_at site number w found)
    by None = tt
    by (Some terminal) = where_it terminal (terminal.entered == terminal.printed)

pub enter-elsewhere : (site : Site) (w : World) (number x : ℕ) (done : Done) → enter_done site number w ≡ Some done
    → x ≢ terminal_node → needs_at site done.world x ≡ needs_at site w x
enter-elsewhere site w number x done made differs =
    elsewhere-any site w terminal_node x (enter_done site number w) done made differs (enter-there site number w)
    (enter-home site number w)

-- Messages

module _ (node : ℕ) (w : World) where
  brought-home : (site : Site) (number : ℕ) (message : Message)
      → HomeAny node w (brought_to site number node message w (slice_get w.processes number))
  brought-home site number message = by (slice_get w.processes number) refl
    where
      by : (found : Option Pair) → slice_get w.processes number ≡ found
          → HomeAny node w (brought_to site number node message w found)
      by None there = tt
      by (Some pair) there =
          lifted-home node w number pair there (step_on site number node pair (records_of w) message)
          (on-home site number pair (records_of w) node message)

  printed-home : (site : Site) (number : ℕ) (reply : Reply) (test : Bool) → (node == terminal_node) ≡ test
      → HomeAny node w (printed_at site number reply w test)
  printed-home site number reply false is = tt
  printed-home site number reply true is = by (slice_get w.terminals number)
    where
      where_it : (terminal : Terminal) (test : Bool) → HomeAny node w (printed_where number reply terminal w test)
      where_it terminal false = tt
      where_it terminal true =
          quiet-home node w _ refl (λ away. absurd (away (eqb-true node terminal_node is)))

      by : (found : Option Terminal) → HomeAny node w (printed_done site number reply w found)
      by None = tt
      by (Some terminal) = where_it terminal (awaits_at site number terminal reply)

  handed-home : (site : Site) (message : Message) → HomeAny node w (handed_done site node message w)
  handed-home site (Asking request) = brought-home site request.process (Asking request)
  handed-home site (Replying reply) =
      by (option_map (λ (opener : OpenerSpec). opener.who) (slice_get (openers_of site reply.process) reply.opener))
    where
      by : (found : Option Who) → HomeAny node w (replied_done site node reply w found)
      by None = tt
      by (Some (who.File number file)) = brought-home site number (Replying reply)
      by (Some (who.Terminal number)) = printed-home site number reply (node == terminal_node) refl
  handed-home site (Checkpointing message) = brought-home site message.process (Checkpointing message)
  handed-home site (Taking taken) = brought-home site taken.process (Taking taken)

pub handed-elsewhere : (site : Site) (w : World) (node x : ℕ) (message : Message) (done : Done)
    → handed_done site node message w ≡ Some done → x ≢ node
    → needs_at site done.world x ≡ needs_at site w x
handed-elsewhere site w node x message done made differs =
    elsewhere-any site w node x (handed_done site node message w) done made differs (handed-there node w site message)
    (handed-home node w site message)

-- Marks

down-home : (node processor : ℕ) (w : World) → IsHome node w (world_at_down node processor w)
down-home node processor w = record {
  long = length-map w.processes (pair_at_down node processor);
  homes = λ number j before after there now.
      by number j before after there (mapped (pair_at_down node processor) w.processes number after now);
  terminals = λ away. refl;
}
  where
    by : (number : ℕ) (j : Which) (before after : Pair) → slice_get w.processes number ≡ Some before
        → (pair : Pair) × (slice_get w.processes number ≡ Some pair) × (after ≡ pair_at_down node processor pair)
        → (copy_of j after).processor ≡ (copy_of j before).processor
    by number j before after there (pair, at, is) =
        ap (λ (p : Pair). (copy_of j p).processor) is ∙ marked-home node processor pair j
        ∙ ap (λ (p : Pair). (copy_of j p).processor) (some-same (sym at ∙ there))

pub marked-elsewhere : (site : Site) (w : World) (node processor x : ℕ) (done : Done)
    → down_done node processor w ≡ Some done → x ≢ node → needs_at site done.world x ≡ needs_at site w x
marked-elsewhere site w node processor x done made differs = by (slice_get w.stopped processor) made
  where
    where_it : (test : Bool) → marked_where node processor w test ≡ Some done
        → needs_at site done.world x ≡ needs_at site w x
    where_it false is = absurd (cc)
    where_it true is =
        subst (λ (d : Done). needs_at site d.world x ≡ needs_at site w x) (some-same is)
        (elsewhere site w node x (world_at_down node processor w) differs (marked-there node processor w)
        (down-home node processor w))

    by : (found : Option Bool) → mark_where node processor w found ≡ Some done
        → needs_at site done.world x ≡ needs_at site w x
    by None is = absurd (cc)
    by (Some false) is = absurd (cc)
    by (Some true) is = where_it (may_mark node processor w) is

-- Stops

stop-left : (processor x : ℕ) (copy : Copy) → x ≢ processor → IsLeft x copy (stopped_copy processor copy)
stop-left processor x copy differs = elim (cases_eq copy.processor processor) [
  | inl here ↦ inr ((λ same. differs (sym same ∙ here)), (λ same. differs (sym same ∙ here)))
  | inr away ↦ inl (record {
    processor = refl;
    role = rw (ne_eqb copy.processor processor away) refl;
    core = refl;
    waiting = refl;
  })
]

stop-left-of : (processor x : ℕ) (pair : Pair) (j : Which) → x ≢ processor
    → IsLeft x (copy_of j pair) (copy_of j (stopped_pair processor pair))
stop-left-of processor x pair First differs = stop-left processor x pair.first differs
stop-left-of processor x pair Second differs = stop-left processor x pair.second differs

pub stopped-elsewhere : (site : Site) (w : World) (processor x : ℕ) (done : Done)
    → stop_done processor w ≡ Some done → x ≢ processor → needs_at site done.world x ≡ needs_at site w x
stopped-elsewhere site w processor x done made differs = by (slice_get w.stopped processor) made
  where
    left : (k : ℕ) (j : Which) (before after : Pair) → slice_get w.processes k ≡ Some before
        → (pair : Pair) × (slice_get w.processes k ≡ Some pair) × (after ≡ stopped_pair processor pair)
        → IsLeft x (copy_of j before) (copy_of j after)
    left k j before after there (pair, at, is) =
        let one : pair ≡ before = some-same (sym at ∙ there) in
        subst (λ (p : Pair). IsLeft x (copy_of j before) (copy_of j p)) (sym is)
        (subst (λ (p : Pair). IsLeft x (copy_of j p) (copy_of j (stopped_pair processor pair))) one
        (stop-left-of processor x pair j differs))

    where_it : (whole : Bool) → stop_if processor w whole ≡ Some done → needs_at site done.world x ≡ needs_at site w x
    where_it false is = absurd (cc)
    where_it true is =
        subst (λ (d : Done). needs_at site d.world x ≡ needs_at site w x) (some-same is)
        (needs-same site w (stopped_world processor w) x (length-map w.processes (stopped_pair processor))
        (λ k j before after there now. left k j before after there
        (mapped (stopped_pair processor) w.processes k after now)) (λ is. refl))

    by : (found : Option Bool) → stop_where processor w found ≡ Some done
        → needs_at site done.world x ≡ needs_at site w x
    by None is = absurd (cc)
    by (Some true) is = absurd (cc)
    by (Some false) is = where_it (is_whole w) is

-- Reloads

module _ (processor x : ℕ) (differs : x ≢ processor) (core : Core) (pair : Pair) where
  abbrev Left : Which → Bool → Bool → Type 0
  Left j first second = IsLeft x (copy_of j pair) (copy_of j (reloaded_by core pair first second))

  away : (at : ℕ) → (at == processor) ≡ true → (at ≢ x) × (at ≢ x)
  away at is =
      let here = eqb-true at processor is in
      ((λ same. differs (sym same ∙ here)), (λ same. differs (sym same ∙ here)))

  reload-left : (first second : Bool) → (pair.first.processor == processor) ≡ first
      → (pair.second.processor == processor) ≡ second
      → (j : Which) → Left j first second
  reload-left false false one two First =
      inl (record { processor = refl; role = refl; core = refl; waiting = refl })
  reload-left false false one two Second =
      inl (record { processor = refl; role = refl; core = refl; waiting = refl })
  reload-left true false one two First = inr (away pair.first.processor one)
  reload-left true false one two Second =
      inl (record { processor = refl; role = refl; core = refl; waiting = refl })
  reload-left false true one two First =
      inl (record { processor = refl; role = refl; core = refl; waiting = refl })
  reload-left false true one two Second = inr (away pair.second.processor two)
  reload-left true true one two First = inr (away pair.first.processor one)
  reload-left true true one two Second = inr (away pair.second.processor two)

reload-long : (site : Site) (processor from : ℕ) (pairs : List Pair)
    → length (reloaded_from site processor from pairs) ≡ length pairs
reload-long site processor from [] = refl
reload-long site processor from (pair ∷ pairs) = ap suc (reload-long site processor (from + 1) pairs)

reloaded-left : (site : Site) (w : World) (processor x times : ℕ) → x ≢ processor
    → needs_at site (reloaded_world site processor times w) x ≡ needs_at site w x
reloaded-left site w processor x times differs =
    needs-same site w (reloaded_world site processor times w) x (reload-long site processor 0 w.processes)
    (λ k j before after there now. reload-all Left site processor w.processes left k after now j before there)
    (λ is. refl)
  where
    Left : ℕ → Pair → Type 0
    Left k after = (j : Which) (before : Pair) → slice_get w.processes k ≡ Some before
        → IsLeft x (copy_of j before) (copy_of j after)

    left : (k : ℕ) (pair : Pair) → slice_get w.processes k ≡ Some pair
        → Left k (reloaded_at site processor k (slice_get site.processes k) pair)
    left k pair at j before there =
        subst (λ (p : Pair). IsLeft x (copy_of j p)
        (copy_of j (reloaded_at site processor k (slice_get site.processes k) pair))) (some-same (sym at ∙ there))
        (reload-left processor x differs (new_core site k (slice_get site.processes k) pair.first.core) pair
        (pair.first.processor == processor) (pair.second.processor == processor) refl refl j)

pub reloaded-elsewhere : (site : Site) (w : World) (processor x : ℕ) (done : Done)
    → reload_done site processor w ≡ Some done → x ≢ processor → needs_at site done.world x ≡ needs_at site w x
reloaded-elsewhere site w processor x done made differs = by (slice_get w.stopped processor) made
  where
    where_it : (times : ℕ) (free : Bool) → reload_if site processor times w free ≡ Some done
        → needs_at site done.world x ≡ needs_at site w x
    where_it times false is = absurd (cc)
    where_it times true is =
        subst (λ (d : Done). needs_at site d.world x ≡ needs_at site w x) (some-same is)
        (reloaded-left site w processor x times differs)

    counted : (times : Option ℕ) → reload_counted site processor w times ≡ Some done
        → needs_at site done.world x ≡ needs_at site w x
    counted None is = absurd (cc)
    counted (Some times) is = where_it times (is_marked_by_all w processor && nat_lt times most_reloads) is

    by : (found : Option Bool) → reload_where site processor w found ≡ Some done
        → needs_at site done.world x ≡ needs_at site w x
    by None is = absurd (cc)
    by (Some false) is = absurd (cc)
    by (Some true) is = counted (slice_get w.reloads processor) is
