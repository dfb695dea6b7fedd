-- What a change makes of each process.
use Rattle.std.proofs.Common.{◌≡◌, ℕ, ◌==◌, Bool, List, [], map, Option, Some, None, slice_get, slice_set, refl, ap}
use Rattle.std.proofs.Common.{sym}
use Rattle.std.proofs.Common.{◌∙◌, subst}
use Rattle.std.specs.List.{flat_map}
use Rattle.gd_words.specs.Members.{IsAmong}
use Rattle.gd_words.specs.declared.message.Reply.{Reply}
use Rattle.gd_words.proofs.Among.{among-at, among-given}
use Rattle.tal_tree.specs.declared.act.Act.{Act}
use Rattle.tal_tree.specs.declared.site.Site.{Site}
use Rattle.checkpoint_image.specs.Receive.{waits, came, reply_sent_again, all_repeated}
use Rattle.world_semantics.specs.declared.role.Role.TheVariants.{Acting}
use Rattle.world_semantics.specs.declared.which.Which.{Which}
use Rattle.world_semantics.specs.declared.which.Which.TheVariants.{First, Second}
use Rattle.world_semantics.specs.World.{Copy, Pair, World, copy_of, other_of, with_copy, receives, Down}
use Rattle.world_semantics.specs.Messages.{Replying, Sending, sent_at, Cause, MarkingDown}
use Rattle.world_semantics.specs.Passes.{Passes, by_send, by_pass_again, by_pass, by_end, by_apply_behind, by_apply}
use Rattle.world_semantics.specs.Passes.{by_acknowledge}
use Rattle.world_semantics.specs.Rules.{Change, by_own, by_checkpoint, by_request, by_early_request, by_enter, by_print}
use Rattle.world_semantics.specs.Rules.{by_stop, by_mark, by_reload, stopped_copy, stopped_pair, taken_over, taker}
use Rattle.world_semantics.specs.Rules.{told_at_down, pair_at_down, pair_after_down, renewals_ended}
use Rattle.world_semantics.proofs.Becoming.{entered-same, was-role}
use Rattle.world_semantics.proofs.Lists.{Changed, is_new, is_same, changed, mapped}
use Rattle.world_semantics.proofs.Roles.{taker-is}
use Rattle.letter_laws.specs.takeover_laws.specs.Fit.{IsFit}
use Rattle.letter_laws.specs.takeover_laws.proofs.Kept.{IsGood}
use Rattle.letter_laws.specs.awaited_requests.proofs.Seats.{was-getting}
use Rattle.letter_laws.specs.Known.{WatchersAreCalm}
use Rattle.served_requests.proofs.Routes.{IsNoReload}
use Rattle.served_requests.proofs.Sending.{map-in, sent-in}
use Rattle.served_requests.proofs.Turns.{IsQuiet, Turns, is_quiet, has_asked, has_taken, has_answered, has_heard}
use Rattle.served_requests.proofs.Turns.{has_heard_early, has_taken_over, Goes, like, each, enters-seat, own-turns}
use Rattle.served_requests.proofs.Turns.{passes-turn}

-- what a process was before a change, and what that makes of both copies: the same one leads
pub record Turned (site : Site) (w : World) (cause : Cause) (sendings : List Sending) (number : ℕ) (now : Pair) :
    Type 0 where
  pub before : Pair
  pub there : slice_get w.processes number ≡ Some before
  pub led : now.led ≡ before.led
  pub goes : (k : Which) → Goes site number cause sendings before k (copy_of k now)

stop-quiet : (processor : ℕ) (copy : Copy) → IsQuiet copy (stopped_copy processor copy)
stop-quiet processor copy = record {
  watches = was-getting (copy.processor == processor) copy.role;
  acts = was-role (copy.processor == processor) copy.role Acting (λ same. cc);
  table = λ r. refl;
  awaits = λ r at. refl;
  waits = refl;
}

-- a copy that needs to send less afterwards
renewal-turns : {site : Site} {number : ℕ} {cause : Cause} {sendings : List Sending} {before after : Copy}
    {renewal : Bool} → Turns site number cause sendings before after
    → Turns site number cause sendings before (record after { renewal = renewal })
renewal-turns (is_quiet quiet) = is_quiet (record {
  watches = quiet.watches;
  acts = quiet.acts;
  table = quiet.table;
  awaits = quiet.awaits;
  waits = quiet.waits;
})
renewal-turns (has_asked words acted acts table waits sent) = has_asked words acted acts table waits sent
renewal-turns (has_taken found block acted acts away free is known table rest) =
    has_taken found block acted acts away free is known table rest
renewal-turns (has_answered place depth words block acted acts away hand known table waits sent) =
    has_answered place depth words block acted acts away hand known table waits sent
renewal-turns (has_heard request acted acts core process waits told is) =
    has_heard request acted acts core process waits told is
renewal-turns (has_heard_early request watched watches process waits is) =
    has_heard_early request watched watches process waits is
renewal-turns (has_taken_over watched acts away table waits told) =
    has_taken_over watched acts away table waits told

module _ (site : Site) (fit : IsFit site) (events : ℕ) (w : World) (good : IsGood site events w)
    (calm : WatchersAreCalm w) where
  same-turned : {cause : Cause} {sendings : List Sending} (number : ℕ) (now : Pair)
      → slice_get w.processes number ≡ Some now
      → Turned site w cause sendings number now
  same-turned number now there = record {
    before = now;
    there = there;
    led = refl;
    goes = λ k. (refl, is_quiet (like (copy_of k now) (copy_of k now) refl refl refl));
  }

  set-turned : {cause : Cause} {sendings : List Sending} (at : ℕ) (pair next : Pair)
      → slice_get w.processes at ≡ Some pair → next.led ≡ pair.led
      → ((k : Which) → Goes site at cause sendings pair k (copy_of k next)) → (number : ℕ) (now : Pair)
      → slice_get (slice_set w.processes at next) number ≡ Some now
      → Turned site w cause sendings number now
  set-turned {cause = cause} {sendings = sendings} at pair next there led turn number now is = of
      (changed w.processes at next number now is)
    where
      of : Changed w.processes at next number now → Turned site w cause sendings number now
      of (is_new here new) =
          subst (λ n. Turned site w cause sendings n now) here
          (record {
            before = pair;
            there = there;
            led = ap (λ (p : Pair). p.led) new ∙ led;
            goes = subst (λ p. (k : Which) → Goes site at cause sendings pair k (copy_of k p)) (sym new) turn;
          })
      of (is_same apart old) = same-turned number now old

  map-turned : {cause : Cause} {sendings : List Sending} (f : Pair → Pair) → ((pair : Pair) → (f pair).led ≡ pair.led)
      → ((number : ℕ) (pair : Pair) → slice_get w.processes number ≡ Some pair → (k : Which)
      → Goes site number cause sendings pair k (copy_of k (f pair)))
      → (number : ℕ) (now : Pair) → slice_get (map f w.processes) number ≡ Some now
      → Turned site w cause sendings number now
  map-turned {cause = cause} {sendings = sendings} f led turn number now is =
      let was = mapped f w.processes number now is in
      record {
        before = was.0;
        there = was.1;
        led = ap (λ (p : Pair). p.led) was.2 ∙ led was.0;
        goes = subst (λ p. (k : Which) → Goes site number cause sendings was.0 k (copy_of k p)) (sym was.2)
            (turn number was.0 was.1);
      }

  stop-goes : {cause : Cause} {sendings : List Sending} (processor number : ℕ) (pair : Pair) (k : Which)
      → Goes site number cause sendings pair k (copy_of k (stopped_pair processor pair))
  stop-goes processor number pair First = (refl, is_quiet (stop-quiet processor pair.first))
  stop-goes processor number pair Second = (refl, is_quiet (stop-quiet processor pair.second))

  marked-led : (node processor : ℕ) (pair : Pair) → (pair_at_down node processor pair).led ≡ pair.led
  marked-led node processor pair = by (taker node processor pair)
    where
      by : (who : Option Which) → (renewals_ended node processor (pair_after_down who pair)).led ≡ pair.led
      by None = refl
      by (Some First) = refl
      by (Some Second) = refl

  mark-goes : (node processor number : ℕ) (pair : Pair) → slice_get w.processes number ≡ Some pair → (k : Which)
      → Goes site number (MarkingDown node processor) (flat_map (told_at_down node processor) w.processes) pair k
      (copy_of k (pair_at_down node processor pair))
  mark-goes node processor number pair there k = ended k (by (taker node processor pair) refl k)
    where
      Here : Which → Copy → Type 0
      Here = Goes site number (MarkingDown node processor) (flat_map (told_at_down node processor) w.processes) pair

      after : Pair
      after = pair_after_down (taker node processor pair) pair

      -- that a renewal ends bears on no request
      ended : (k : Which) → Here k (copy_of k after) → Here k (copy_of k (renewals_ended node processor after))
      ended First goes = (goes.0, renewal-turns goes.1)
      ended Second goes = (goes.0, renewal-turns goes.1)

      still : (j : Which) → Here j (copy_of j pair)
      still j = (refl, is_quiet (like (copy_of j pair) (copy_of j pair) refl refl refl))

      by : (who : Option Which) → taker node processor pair ≡ who → (k : Which)
          → Here k (copy_of k (pair_after_down who pair))
      by None is = still
      by (Some k) is =
          let freed : Copy = record (copy_of (other_of k) pair) { held = [] } in
          let others = each Here (other_of k) freed pair
          (refl, is_quiet (like (copy_of (other_of k) pair) freed refl refl refl)) (still First) (still Second) in
          let role = (taker-is node processor pair k is).watching in
          each Here k (taken_over pair.base (copy_of k pair)) (with_copy (other_of k) freed pair) (
            refl,
            has_taken_over role refl (calm number pair k there (ap receives role)) refl refl told,
          ) (others First) (others Second)
        where
          told : (reply : Reply) → IsAmong reply (all_repeated (copy_of k pair).core.receive (copy_of k pair).waiting)
              → IsAmong (record { node = (copy_of k pair).processor; message = Replying reply })
              (flat_map (told_at_down node processor) w.processes)
          told reply among =
              among-given (told_at_down node processor) pair
              (record { node = (copy_of k pair).processor; message = Replying reply }) w.processes
              (among-at w.processes number pair there)
              (rw is (sent-in (copy_of k pair).processor (Replying reply)
              (map Replying (all_repeated (copy_of k pair).core.receive (copy_of k pair).waiting))
              (map-in Replying reply (all_repeated (copy_of k pair).core.receive (copy_of k pair).waiting) among)))

  with-led : (k : Which) (copy : Copy) (pair : Pair) → (with_copy k copy pair).led ≡ pair.led
  with-led First copy pair = refl
  with-led Second copy pair = refl

  passes-led : {number : ℕ} {downs : List Down} {kept after : List Act} {pair next : Pair} {cause : Cause}
      {sendings : List Sending}
      → Passes number downs kept pair cause sendings next after → next.led ≡ pair.led
  passes-led (by_send k role at unsent unmarked) = with-led k _ _
  passes-led (by_pass_again k role at may less) = with-led k _ _
  passes-led (by_pass k role at may most) = with-led k _ _
  passes-led (by_end k role sent at may) = with-led k _ _
  passes-led (by_apply_behind k message applied role among era is put less) =
      with-led k _ _ ∙ with-led (other_of k) _ _
  passes-led (by_apply k message applied role among era is put most) = with-led k _ _ ∙ with-led (other_of k) _ _
  passes-led (by_acknowledge k taken role sent among era is) = with-led k _ _

  -- what a change makes of each process, if it isn't a reload
  pub change-turned : {next : World} {cause : Cause} {sendings : List Sending} → Change site w cause sendings next
      → IsNoReload cause → (number : ℕ) (now : Pair)
      → slice_get next.processes number ≡ Some now → Turned site w cause sendings number now
  change-turned {cause = cause} (by_own {messages = messages} {after = after} {core = core} {entered = entered} number
      k pair there role causes advances enters fr) no_reload =
      set-turned number pair (with_copy k (record entered { core = core; waiting = after.waiting })
      (record pair { sectors = after.sectors })) there (with-led k _ _)
      (each (Goes site number cause (sent_at (copy_of k pair).processor messages) pair) k
      (record entered { core = core; waiting = after.waiting })
      (record pair { sectors = after.sectors }) (
        enters-seat enters,
        own-turns site fit events w good calm number pair k there role entered
            ((entered-same enters).role ∙ role) causes advances,
      )
      (refl, is_quiet (like pair.first pair.first refl refl refl))
      (refl, is_quiet (like pair.second pair.second refl refl refl)))
  change-turned (by_checkpoint {next = next} number pair there passes) no_reload =
      set-turned number pair next there (passes-led passes)
      (passes-turn site fit events w good calm number pair there passes)
  change-turned (by_request request k pair among there role) no_reload =
      let heard : Copy =
      record (copy_of k pair) { waiting = came (copy_of k pair).core.receive (copy_of k pair).waiting request } in
      set-turned request.process pair (with_copy k heard pair) there (with-led k _ _)
      (each (Goes site request.process _ _ pair) k heard pair (
        refl,
        has_heard request role role refl refl refl
            (λ reply among. sent-in (copy_of k pair).processor (Replying reply)
            (map Replying (reply_sent_again (copy_of k pair).core.receive request))
            (map-in Replying reply (reply_sent_again (copy_of k pair).core.receive request) among)) refl,
      )
      (refl, is_quiet (like pair.first pair.first refl refl refl))
      (refl, is_quiet (like pair.second pair.second refl refl refl)))
  change-turned (by_early_request request k pair among there role) no_reload =
      let heard : Copy = record (copy_of k pair) { waiting = waits (copy_of k pair).waiting request } in
      set-turned request.process pair (with_copy k heard pair) there (with-led k _ _)
      (each (Goes site request.process _ _ pair) k heard pair (refl, has_heard_early request role role refl refl refl)
      (refl, is_quiet (like pair.first pair.first refl refl refl))
      (refl, is_quiet (like pair.second pair.second refl refl refl)))
  change-turned (by_enter number terminal opener there even next opens) no_reload = same-turned
  change-turned (by_print number terminal reply there odd among opens is) no_reload = same-turned
  change-turned (by_stop processor runs whole) no_reload =
      map-turned (stopped_pair processor) (λ pair. refl) (λ number pair there. stop-goes processor number pair)
  change-turned (by_mark node processor stopped runs unmarked) no_reload =
      map-turned (pair_at_down node processor) (marked-led node processor) (mark-goes node processor)
  change-turned (by_reload processor stopped all counted less) no_reload = absurd no_reload
