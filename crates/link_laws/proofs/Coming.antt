-- What a request that comes leaves of the requests that wait at a node.
use Rattle.std.proofs.Common.{◌≡◌, ◌⊎◌, inl, inr, ℕ, ◌≤◌, List, Some, slice_get, refl, subst, sym}
use Rattle.gd_words.specs.Members.{IsAmong}
use Rattle.gd_words.specs.declared.message.Request.{Request}
use Rattle.tal_tree.specs.declared.act.Act.{Act}
use Rattle.tal_tree.specs.declared.site.Site.{Site}
use Rattle.schedule.specs.declared.event.Event.{Event}
use Rattle.checkpoint_image.specs.Receive.{came, waits}
use Rattle.world_semantics.specs.declared.which.Which.{Which}
use Rattle.world_semantics.specs.Core.{Core, Deed}
use Rattle.world_semantics.specs.Follows.{IsRun}
use Rattle.world_semantics.specs.Messages.{Message, Asking, Sending, Cause, Handing}
use Rattle.world_semantics.specs.Own.{Around, Causes, by_inner, by_take, by_ask, by_answer, by_device, by_write}
use Rattle.world_semantics.specs.Own.{by_reply}
use Rattle.world_semantics.specs.Passes.{Passes, by_send, by_pass_again, by_pass, by_end, by_apply, by_apply_behind}
use Rattle.world_semantics.specs.Passes.{by_acknowledge}
use Rattle.world_semantics.specs.Rules.{Change, by_own, by_checkpoint, by_request, by_early_request, by_enter, by_print}
use Rattle.world_semantics.specs.Rules.{by_stop, by_mark, by_reload}
use Rattle.world_semantics.specs.World.{Copy, Down, Pair, World, copy_of, with_copy, with_pair}
use Rattle.world_semantics.proofs.Fair.{fair-of, run-fair}
use Rattle.world_semantics.proofs.Waiting.{waits-all}
use Rattle.served_requests.proofs.Queues.{came-still, waits-still}
use Rattle.served_requests.specs.letter_laws.specs.takeover_laws.proofs.Waiting.{came-all}
use Rattle.node_needs.specs.NodeNeeds.{needs_at, waiting_at}
use Rattle.link_laws.proofs.Copies.{waiting-put}
use Rattle.link_laws.proofs.Lists.{AreInPlaceOf, among-new, among-old}
use Rattle.link_laws.proofs.Taken.{there-among, there-is}

-- a cause by which a request is handed over
same-asking : {node at : ℕ} {one other : Request} → Handing node (Asking one) ≡ Handing at (Asking other)
    → one ≡ other
same-asking same = cc

own-none : {site : Site} {number node at : ℕ} {core : Core} {before after : Around} {cause : Cause} {deed : Deed}
    {done : Act} {messages : List Message} {request : Request}
    → Causes site number node core before cause deed done messages after → cause ≡ Handing at (Asking request) → ⊥
own-none by_inner same = cc
own-none (by_take is) same = cc
own-none by_ask same = cc
own-none (by_answer known) same = cc
own-none (by_device old) same = cc
own-none (by_write new) same = cc
own-none (by_reply among opens last said) same = cc

passes-none : {number at : ℕ} {downs : List Down} {kept after : List Act} {pair next : Pair} {cause : Cause}
    {sendings : List Sending} {request : Request}
    → Passes number downs kept pair cause sendings next after → cause ≡ Handing at (Asking request) → ⊥
passes-none (by_send k role at unsent unmarked) same = cc
passes-none (by_pass_again k role at may less) same = cc
passes-none (by_pass k role at may most) same = cc
passes-none (by_end k role sent away may) same = cc
passes-none (by_apply_behind k message applied role among era is put at) same = cc
passes-none (by_apply k message applied role among era is put at) same = cc
passes-none (by_acknowledge k taken role sent among era is) same = cc

-- in the other direction
turned : {A : Type 0} {new old before after : List A} → AreInPlaceOf new old before after
    → AreInPlaceOf old new after before
turned put = record { front = put.front; rest = put.rest; was = put.is; is = put.was }

-- of these requests each waits where it isn't outdone by the one that came, and no other does
record HaveComeTo (request : Request) (before after : List Request) : Type 0 where
  pub stay : (one : Request) → IsAmong one before → (one.opener ≡ request.opener → request.number ≤ one.number)
      → IsAmong one after
  pub were : (one : Request) → IsAmong one after → (one ≡ request) ⊎ IsAmong one before

module _ (site : Site) (w : World) (node : ℕ) (request one : Request) where
  abbrev Waits : World → Type 0
  Waits world = IsAmong one (needs_at site world node).waiting

  abbrev heard_by : Which → Pair → List Request → World
  heard_by k pair now =
      with_pair request.process (with_copy k (record (copy_of k pair) { waiting = now }) pair) w

  -- the requests that wait at one copy become others
  module _ (k : Which) (pair : Pair) (there : slice_get w.processes request.process ≡ Some pair)
      (now : List Request) (heard : HaveComeTo request (copy_of k pair).waiting now) where
    abbrev heard_copy : Copy
    heard_copy = record (copy_of k pair) { waiting = now }

    put : AreInPlaceOf (waiting_at node heard_copy) (waiting_at node (copy_of k pair)) (needs_at site w node).waiting
        (needs_at site (heard_by k pair now) node).waiting
    put = waiting-put site w (heard_by k pair now) node request.process pair pair k heard_copy there refl refl refl

    heard-stays : {events : List Event} → IsRun site events w → Waits w
        → (one.process ≡ request.process → one.opener ≡ request.opener → request.number ≤ one.number)
        → Waits (heard_by k pair now)
    heard-stays run waits unless =
        elim (among-old one put waits) [
          | inr later ↦ later
          | inl here ↦ (let at = there-is node (copy_of k pair).role (copy_of k pair).processor (copy_of k pair).waiting
              one here in
              let fair = fair-of request.process w.replies k pair (run-fair run request.process pair there) in
              among-new one put
              (there-among node (copy_of k pair).role (copy_of k pair).processor (copy_of k pair).waiting now one here
              (heard.stay one at.among (unless (fair.waiting one at.among)))))
        ]

    heard-were : Waits (heard_by k pair now) → (one ≡ request) ⊎ Waits w
    heard-were waits =
        elim (among-old one (turned put) waits) [
          | inr before ↦ inr before
          | inl here ↦ (let at = there-is node (copy_of k pair).role (copy_of k pair).processor now one here in
              elim (heard.were one at.among) [
                | inl same ↦ inl same
                | inr old ↦ inr (among-new one (turned put)
                    (there-among node (copy_of k pair).role (copy_of k pair).processor now (copy_of k pair).waiting one
                    here old))
              ])
        ]

  came-to : (k : Which) (pair : Pair)
      → HaveComeTo request (copy_of k pair).waiting
      (came (copy_of k pair).core.receive (copy_of k pair).waiting request)
  came-to k pair = record {
    stay = λ other among unless.
        came-still (copy_of k pair).core.receive request other (copy_of k pair).waiting among unless;
    were = λ other among.
        came-all (λ r. (r ≡ request) ⊎ IsAmong r (copy_of k pair).waiting) (copy_of k pair).core.receive
        (copy_of k pair).waiting request (inl refl) (λ r old. inr old) other among;
  }

  waits-to : (k : Which) (pair : Pair)
      → HaveComeTo request (copy_of k pair).waiting (waits (copy_of k pair).waiting request)
  waits-to k pair = record {
    stay = λ other among unless. waits-still request other (copy_of k pair).waiting among unless;
    were = λ other among.
        waits-all (λ r. (r ≡ request) ⊎ IsAmong r (copy_of k pair).waiting) (copy_of k pair).waiting request (inl refl)
        (λ r old. inr old) other among;
  }

module _ (site : Site) (w : World) (node : ℕ) where
  pub handed-stays : (events : List Event) → IsRun site events w → (next : World) (cause : Cause)
      (sendings : List Sending) → Change site w cause sendings next → (at : ℕ) (request one : Request)
      → cause ≡ Handing at (Asking request) → IsAmong one (needs_at site w node).waiting
      → (one.process ≡ request.process → one.opener ≡ request.opener → request.number ≤ one.number)
      → IsAmong one (needs_at site next node).waiting
  handed-stays events run next cause sendings (by_own number k pair there role causes advances enters free) at request
      one is waited unless = absurd (own-none causes is)
  handed-stays events run next cause sendings (by_checkpoint number pair there passes) at request one is waited unless =
      absurd (passes-none passes is)
  handed-stays events run next cause sendings (by_request asked k pair known there role) at request one is waited
      unless =
      let same : asked ≡ request = same-asking is in
      heard-stays site w node asked one k pair there
      (came (copy_of k pair).core.receive (copy_of k pair).waiting asked) (came-to site w node asked one k pair) run
      waited
      (subst (λ (r : Request). one.process ≡ r.process → one.opener ≡ r.opener → r.number ≤ one.number) (sym same)
      unless)
  handed-stays events run next cause sendings (by_early_request asked k pair known there role) at request one is waited
      unless =
      let same : asked ≡ request = same-asking is in
      heard-stays site w node asked one k pair there (waits (copy_of k pair).waiting asked)
      (waits-to site w node asked one k pair) run waited
      (subst (λ (r : Request). one.process ≡ r.process → one.opener ≡ r.opener → r.number ≤ one.number) (sym same)
      unless)
  handed-stays events run next cause sendings (by_enter number terminal opener there even asked opens) at request one
      is waited unless = absurd (cc)
  handed-stays events run next cause sendings (by_print number terminal told there odd known opens same) at request one
      is waited unless = absurd (cc)
  handed-stays events run next cause sendings (by_stop processor runs whole) at request one is waited unless =
      absurd (cc)
  handed-stays events run next cause sendings (by_mark marking processor down runs unmarked) at request one is waited
      unless = absurd (cc)
  handed-stays events run next cause sendings (by_reload processor gone is_marked there less) at request one is waited
      unless = absurd (cc)

  pub handed-were : (next : World) (cause : Cause) (sendings : List Sending) → Change site w cause sendings next
      → (at : ℕ) (request one : Request) → cause ≡ Handing at (Asking request)
      → IsAmong one (needs_at site next node).waiting
      → (one ≡ request) ⊎ IsAmong one (needs_at site w node).waiting
  handed-were next cause sendings (by_own number k pair there role causes advances enters free) at request one is
      waited =
      absurd (own-none causes is)
  handed-were next cause sendings (by_checkpoint number pair there passes) at request one is waited =
      absurd (passes-none passes is)
  handed-were next cause sendings (by_request asked k pair known there role) at request one is waited =
      subst (λ (r : Request). (one ≡ r) ⊎ IsAmong one (needs_at site w node).waiting) (same-asking is)
      (heard-were site w node asked one k pair there
      (came (copy_of k pair).core.receive (copy_of k pair).waiting asked) (came-to site w node asked one k pair) waited)
  handed-were next cause sendings (by_early_request asked k pair known there role) at request one is waited =
      subst (λ (r : Request). (one ≡ r) ⊎ IsAmong one (needs_at site w node).waiting) (same-asking is)
      (heard-were site w node asked one k pair there (waits (copy_of k pair).waiting asked)
      (waits-to site w node asked one k pair) waited)
  handed-were next cause sendings (by_enter number terminal opener there even asked opens) at request one is waited =
      absurd (cc)
  handed-were next cause sendings (by_print number terminal told there odd known opens same) at request one is waited =
      absurd (cc)
  handed-were next cause sendings (by_stop processor runs whole) at request one is waited = absurd (cc)
  handed-were next cause sendings (by_mark marking processor down runs unmarked) at request one is waited = absurd (cc)
  handed-were next cause sendings (by_reload processor gone is_marked there less) at request one is waited = absurd (cc)
