-- A copy that has to send everything is on a node that hasn't marked the other one's processor: such a mark ends its
-- renewal, and a reload, by which renewals begin, takes all marks of its processor away.
use Rattle.std.proofs.Common.{◌≡◌, ◌==◌, ◌&&◌, ◌||◌, ℕ, Bool, true, false, not, cond, List, [], ◌∷◌, Option, Some, None}
use Rattle.std.proofs.Common.{slice_get, refl, sym}
use Rattle.std.proofs.lemmas.Bool.{eq-eqb, eqb-true}
use Rattle.gd_words.specs.declared.message.Request.{Request}
use Rattle.tal_tree.specs.declared.act.Act.{Act}
use Rattle.tal_tree.specs.declared.site.Site.{Site}
use Rattle.schedule.specs.declared.event.Event.{Event}
use Rattle.world_semantics.specs.declared.which.Which.{Which}
use Rattle.world_semantics.specs.declared.which.Which.TheVariants.{First, Second}
use Rattle.world_semantics.specs.Core.{Core}
use Rattle.world_semantics.specs.Follows.{IsRun}
use Rattle.world_semantics.specs.Kept.{Enters, holds_on, repeats, begins, keeps}
use Rattle.world_semantics.specs.Messages.{Sending, Cause}
use Rattle.world_semantics.specs.Passes.{Passes, by_send, by_pass_again, by_pass, by_end, by_apply_behind, by_apply}
use Rattle.world_semantics.specs.Passes.{by_acknowledge}
use Rattle.world_semantics.specs.Rules.{Change, by_own, by_checkpoint, by_request, by_early_request, by_enter, by_print}
use Rattle.world_semantics.specs.Rules.{by_stop, by_mark, by_reload, stopped_pair, taker, pair_after_down, pair_at_down}
use Rattle.world_semantics.specs.Rules.{renewals_ended, new_core, reloaded_by, without_downs}
use Rattle.world_semantics.specs.World.{Copy, Pair, Down, World, copy_of, other_of, with_copy, has_marked}
use Rattle.world_semantics.proofs.Beginning.{all-begin}
use Rattle.world_semantics.proofs.Lists.{set-all, map-all}
use Rattle.world_semantics.proofs.Roles.{both-true, reload-all}
use Rattle.world_semantics.proofs.Runs.{holds-on}

-- a copy that has to send everything, at a node, where the other one is in a processor
abbrev IsUnmarked : List Down → Bool → ℕ → ℕ → Type 0
IsUnmarked downs renewal here there = renewal ≡ true → has_marked downs here there ≡ false

record BothUnmarked (downs : List Down) (one : ℕ) (first : Bool) (two : ℕ) (second : Bool) : Type 0 where
  first_copy : IsUnmarked downs first one two
  second_copy : IsUnmarked downs second two one

abbrev UnmarkedOf : List Down → Pair → Type 0
UnmarkedOf downs pair =
    BothUnmarked downs pair.first.processor pair.first.renewal pair.second.processor pair.second.renewal

abbrev AllUnmarked : World → Type 0
AllUnmarked w = (number : ℕ) (pair : Pair) → slice_get w.processes number ≡ Some pair → UnmarkedOf w.downs pair

-- Acts and checkpoints

own-unmarked : (downs : List Down) (k : Which) (pair : Pair) (core : Core) (waiting : List Request) (sectors : _)
    {number : ℕ} {act : Act} {kept after : List Act} {entered : Copy}
    → Enters number act kept (copy_of k pair) entered after → UnmarkedOf downs pair
    → UnmarkedOf downs (with_copy k (record entered { core = core; waiting = waiting })
    (record pair { sectors = sectors }))
own-unmarked downs First pair core waiting sectors (holds_on held) ok = ok
own-unmarked downs First pair core waiting sectors (repeats held less) ok = ok
own-unmarked downs First pair core waiting sectors (begins held most take) ok = ok
own-unmarked downs First pair core waiting sectors (keeps held most take) ok = ok
own-unmarked downs Second pair core waiting sectors (holds_on held) ok = ok
own-unmarked downs Second pair core waiting sectors (repeats held less) ok = ok
own-unmarked downs Second pair core waiting sectors (begins held most take) ok = ok
own-unmarked downs Second pair core waiting sectors (keeps held most take) ok = ok

waiting-unmarked : (downs : List Down) (k : Which) (pair : Pair) (waiting : List Request) → UnmarkedOf downs pair
    → UnmarkedOf downs (with_copy k (record (copy_of k pair) { waiting = waiting }) pair)
waiting-unmarked downs First pair waiting ok = ok
waiting-unmarked downs Second pair waiting ok = ok

passes-unmarked : {number : ℕ} {downs : List Down} {kept after : List Act} {pair next : Pair} {cause : Cause}
    {sendings : List Sending}
    → Passes number downs kept pair cause sendings next after → UnmarkedOf downs pair → UnmarkedOf downs next
passes-unmarked (by_send First role at unsent unmarked) ok = ok
passes-unmarked (by_send Second role at unsent unmarked) ok = ok
passes-unmarked (by_pass_again First role at may less) ok = ok
passes-unmarked (by_pass_again Second role at may less) ok = ok
passes-unmarked (by_pass First role at may most) ok = ok
passes-unmarked (by_pass Second role at may most) ok = ok
passes-unmarked (by_end First role sent at may) ok = ok
passes-unmarked (by_end Second role sent at may) ok = ok
passes-unmarked (by_apply_behind First message applied role among era is put less) ok = ok
passes-unmarked (by_apply_behind Second message applied role among era is put less) ok = ok
passes-unmarked (by_apply First message applied role among era is put most) ok = ok
passes-unmarked (by_apply Second message applied role among era is put most) ok = ok
passes-unmarked (by_acknowledge First taken role sent among era is) ok =
    record { first_copy = λ renews. absurd (cc); second_copy = ok.second_copy }
passes-unmarked (by_acknowledge Second taken role sent among era is) ok =
    record { first_copy = ok.first_copy; second_copy = λ renews. absurd (cc) }

-- Marks

-- where the renewal isn't ended by a mark, the mark is another one
mark-unmarked : (node processor : ℕ) (downs : List Down) (renewal : Bool) (here there : ℕ)
    → IsUnmarked downs renewal here there
    → IsUnmarked (record { node = node; down = processor } ∷ downs)
    (renewal && not (here == node && there == processor)) here there
mark-unmarked node processor downs renewal here there ok renews =
    let both = both-true renewal (not (here == node && there == processor)) renews in
    by (node == here) refl (processor == there) refl both.1 (ok both.0)
  where
    by : (one : Bool) → (node == here) ≡ one → (two : Bool) → (processor == there) ≡ two
        → not (here == node && there == processor) ≡ true → has_marked downs here there ≡ false
        → ((one && two) || has_marked downs here there) ≡ false
    by true a true b other old =
        let here_is = eq-eqb here node (sym (eqb-true node here a)) in
        let there_is = eq-eqb there processor (sym (eqb-true processor there b)) in
        absurd (let ended : not (true && true) ≡ true = rw (here_is, there_is) at other in cc)
    by true a false b other old = old
    by false a two b other old = old

downs-unmarked : (node processor : ℕ) (downs : List Down) (pair : Pair) (k : Option Which) → UnmarkedOf downs pair
    → UnmarkedOf (record { node = node; down = processor } ∷ downs)
    (renewals_ended node processor (pair_after_down k pair))
downs-unmarked node processor downs pair None ok = record {
  first_copy = mark-unmarked node processor downs pair.first.renewal pair.first.processor pair.second.processor
      ok.first_copy;
  second_copy = mark-unmarked node processor downs pair.second.renewal pair.second.processor pair.first.processor
      ok.second_copy;
}
downs-unmarked node processor downs pair (Some First) ok = record {
  first_copy = mark-unmarked node processor downs pair.first.renewal pair.first.processor pair.second.processor
      ok.first_copy;
  second_copy = mark-unmarked node processor downs pair.second.renewal pair.second.processor pair.first.processor
      ok.second_copy;
}
downs-unmarked node processor downs pair (Some Second) ok = record {
  first_copy = mark-unmarked node processor downs pair.first.renewal pair.first.processor pair.second.processor
      ok.first_copy;
  second_copy = mark-unmarked node processor downs pair.second.renewal pair.second.processor pair.first.processor
      ok.second_copy;
}

-- Reloads

-- what wasn't marked isn't where marks are taken away
fewer-downs : (x node processor : ℕ) (downs : List Down) → has_marked downs node processor ≡ false
    → has_marked (without_downs x downs) node processor ≡ false
fewer-downs x node processor [] none = refl
fewer-downs x node processor (mark ∷ downs) none =
    by (not (mark.down == x)) (mark.node == node && mark.down == processor) refl none
    (fewer-downs x node processor downs)
  where
    by : (stays here : Bool) → (mark.node == node && mark.down == processor) ≡ here
        → (here || has_marked downs node processor) ≡ false
        → (has_marked downs node processor ≡ false → has_marked (without_downs x downs) node processor ≡ false)
        → has_marked (cond stays (mark ∷ without_downs x downs) (without_downs x downs)) node processor ≡ false
    by stays true is none rest = absurd (cc)
    by true false is none rest = rw is (rest none)
    by false false is none rest = rest none

-- and nothing of a processor is, whose marks are
none-left : (x node : ℕ) (downs : List Down) → has_marked (without_downs x downs) node x ≡ false
none-left x node [] = refl
none-left x node (mark ∷ downs) = by (mark.down == x) refl (none-left x node downs)
  where
    not-here : (here rest : Bool) → rest ≡ false → (here && false || rest) ≡ false
    not-here true rest is = is
    not-here false rest is = is

    by : (here : Bool) → (mark.down == x) ≡ here → has_marked (without_downs x downs) node x ≡ false
        → has_marked (cond (not here) (mark ∷ without_downs x downs) (without_downs x downs)) node x ≡ false
    by true is rest = rest
    by false is rest = rw is (not-here (mark.node == node) (has_marked (without_downs x downs) node x) rest)

reload-unmarked : (core : Core) (x : ℕ) (downs : List Down) (pair : Pair) (one two : Bool)
    → (pair.first.processor == x) ≡ one → (pair.second.processor == x) ≡ two → UnmarkedOf downs pair
    → UnmarkedOf (without_downs x downs) (reloaded_by core pair one two)
reload-unmarked core x downs pair false false a b ok = record {
  first_copy = λ renews. fewer-downs x pair.first.processor pair.second.processor downs (ok.first_copy renews);
  second_copy = λ renews. fewer-downs x pair.second.processor pair.first.processor downs (ok.second_copy renews);
}
reload-unmarked core x downs pair true false a b ok = record {
  first_copy = λ renews. absurd (cc);
  second_copy = λ renews. rw (eqb-true pair.first.processor x a) (none-left x pair.second.processor downs);
}
reload-unmarked core x downs pair false true a b ok = record {
  first_copy = λ renews. rw (eqb-true pair.second.processor x b) (none-left x pair.first.processor downs);
  second_copy = λ renews. absurd (cc);
}
reload-unmarked core x downs pair true true a b ok =
    record { first_copy = λ renews. absurd (cc); second_copy = λ renews. absurd (cc) }

-- Runs

change-unmarked : {site : Site} (w next : World) (cause : Cause) (sendings : List Sending)
    → Change site w cause sendings next → AllUnmarked w → AllUnmarked next
change-unmarked w next cause sendings (by_own number k pair there acts causes advances enters fr) ok =
    set-all (λ n p. UnmarkedOf w.downs p) w.processes number _ ok
    (own-unmarked w.downs k pair _ _ _ enters (ok number pair there))
change-unmarked w next cause sendings (by_checkpoint number pair there passes) ok =
    set-all (λ n p. UnmarkedOf w.downs p) w.processes number _ ok (passes-unmarked passes (ok number pair there))
change-unmarked w next cause sendings (by_request request k pair among there role) ok =
    set-all (λ n p. UnmarkedOf w.downs p) w.processes request.process _ ok
    (waiting-unmarked w.downs k pair _ (ok request.process pair there))
change-unmarked w next cause sendings (by_early_request request k pair among there role) ok =
    set-all (λ n p. UnmarkedOf w.downs p) w.processes request.process _ ok
    (waiting-unmarked w.downs k pair _ (ok request.process pair there))
change-unmarked w next cause sendings (by_enter number terminal opener there even words opens) ok = ok
change-unmarked w next cause sendings (by_print number terminal reply there awaits among opens last) ok = ok
change-unmarked w next cause sendings (by_stop x runs whole) ok =
    map-all (λ n p. UnmarkedOf w.downs p) (stopped_pair x) w.processes (λ n p there.
    (let was = ok n p there in record { first_copy = was.first_copy; second_copy = was.second_copy }))
change-unmarked w next cause sendings (by_mark node processor stopped runs unmarked) ok =
    map-all (λ n p. UnmarkedOf (record { node = node; down = processor } ∷ w.downs) p) (pair_at_down node processor)
    w.processes
    (λ n p there. downs-unmarked node processor w.downs p (taker node processor p) (ok n p there))
change-unmarked {site = site} w next cause sendings (by_reload x stopped all counted less) ok =
    reload-all (λ n p. UnmarkedOf (without_downs x w.downs) p) site x w.processes
    (λ n p there. reload-unmarked (new_core site n (slice_get site.processes n) p.first.core) x w.downs p
    (p.first.processor == x) (p.second.processor == x) refl refl (ok n p there))

-- the node of a copy that has to send everything hasn't marked the other one's processor
abbrev pub RenewingIsUnmarked : World → Type 0
RenewingIsUnmarked w =
    (number : ℕ) (pair : Pair) (k : Which) → slice_get w.processes number ≡ Some pair
    → (copy_of k pair).renewal ≡ true
    → has_marked w.downs (copy_of k pair).processor (copy_of (other_of k) pair).processor ≡ false

pub run-renewing : {site : Site} {events : List Event} {w : World} → IsRun site events w → RenewingIsUnmarked w
run-renewing {site = site} {w = w} run number pair k there = by k
  where
    all : AllUnmarked w
    all = holds-on AllUnmarked change-unmarked run
        (all-begin (λ n p. UnmarkedOf [] p) site (λ n from spec. record {
          first_copy = λ renews. absurd (cc);
          second_copy = λ renews. absurd (cc);
        }))

    by : (k : Which) → (copy_of k pair).renewal ≡ true
        → has_marked w.downs (copy_of k pair).processor (copy_of (other_of k) pair).processor ≡ false
    by First renews = (all number pair there).first_copy renews
    by Second renews = (all number pair there).second_copy renews
