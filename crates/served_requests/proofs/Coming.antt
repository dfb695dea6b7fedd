-- A request that comes is seen to by the copy to which it comes.
use Rattle.std.proofs.Common.{◌≡◌, inl, ℕ, ℤ, true, List, map, Some, slice_get, slice_set, refl, ap, sym, subst, arith}
use Rattle.gd_words.specs.Members.{IsAmong}
use Rattle.gd_words.specs.declared.message.Request.{Request}
use Rattle.tal_tree.specs.declared.act.Act.{Act}
use Rattle.tal_tree.specs.declared.site.Site.{Site}
use Rattle.tal_tree.specs.declared.site.Who.{Who}
use Rattle.plain_semantics.specs.declared.slot.Opener.{Opener}
use Rattle.plain_semantics.specs.Openers.{opener_of}
use Rattle.checkpoint_image.specs.declared.receive.RequestStanding.TheVariants.{Kept}
use Rattle.checkpoint_image.specs.Receive.{request_standing, standing_at, is_waiting, reply_sent_again, waits, came}
use Rattle.world_semantics.specs.declared.role.Role.TheVariants.{Acting}
use Rattle.world_semantics.specs.declared.which.Which.{Which}
use Rattle.world_semantics.specs.declared.which.Which.TheVariants.{First, Second}
use Rattle.world_semantics.specs.Core.{Core, Deed}
use Rattle.world_semantics.specs.World.{Copy, Pair, Down, World, copy_of, with_copy, receives}
use Rattle.world_semantics.specs.Messages.{Message, Asking, Replying, Sending, sent_at, Cause, Handing}
use Rattle.world_semantics.specs.Own.{Around, Causes, by_inner, by_take, by_ask, by_answer, by_device, by_write}
use Rattle.world_semantics.specs.Own.{by_reply}
use Rattle.world_semantics.specs.Passes.{Passes, by_send, by_pass_again, by_pass, by_end, by_apply_behind, by_apply}
use Rattle.world_semantics.specs.Passes.{by_acknowledge}
use Rattle.world_semantics.specs.Rules.{Change, by_own, by_checkpoint, by_request, by_early_request, by_enter, by_print}
use Rattle.world_semantics.specs.Rules.{by_stop, by_mark, by_reload}
use Rattle.world_semantics.proofs.Becoming.{acting-gets-none}
use Rattle.world_semantics.proofs.Lists.{set-there}
use Rattle.letter_laws.specs.takeover_laws.specs.Fit.{IsFit}
use Rattle.letter_laws.specs.takeover_laws.proofs.Kept.{IsGood}
use Rattle.letters.specs.Posts.{Post}
use Rattle.letters.specs.Routes.{Letter}
use Rattle.letter_laws.specs.awaited_requests.specs.Awaited.{IsAwaited}
use Rattle.letter_laws.specs.awaited_requests.specs.Served.{request_of, reply_of, HasSeen}
use Rattle.letter_laws.specs.Known.{IsEarly}
use Rattle.served_requests.proofs.Numbers.{asked-low, early-low}
use Rattle.served_requests.proofs.Queues.{waits-now}
use Rattle.served_requests.proofs.Sending.{map-in, sent-in, IsTold}
use Rattle.served_requests.proofs.Standings.{next-is}

same-asking : {node at : ℕ} {one other : Request} → Handing node (Asking one) ≡ Handing at (Asking other)
    → (node ≡ at) × (one ≡ other)
same-asking same = (cc, cc)

own-no-request : {site : Site} {number node at : ℕ} {core : Core} {before after : Around} {cause : Cause} {deed : Deed}
    {done : Act} {messages : List Message} {request : Request}
    → Causes site number node core before cause deed done messages after → cause ≡ Handing at (Asking request) → ⊥
own-no-request by_inner same = cc
own-no-request (by_take is) same = cc
own-no-request by_ask same = cc
own-no-request (by_answer known) same = cc
own-no-request (by_device old) same = cc
own-no-request (by_write new) same = cc
own-no-request (by_reply among opens last said) same = cc

passes-no-request : {number at : ℕ} {downs : List Down} {kept after : List Act} {pair next : Pair} {cause : Cause}
    {sendings : List Sending} {request : Request}
    → Passes number downs kept pair cause sendings next after → cause ≡ Handing at (Asking request) → ⊥
passes-no-request (by_send k role at unsent unmarked) same = cc
passes-no-request (by_pass_again k role at may less) same = cc
passes-no-request (by_pass k role at may most) same = cc
passes-no-request (by_end k role sent at may) same = cc
passes-no-request (by_apply_behind k message applied role among era is put less) same = cc
passes-no-request (by_apply k message applied role among era is put most) same = cc
passes-no-request (by_acknowledge k taken role sent among era is) same = cc

changed-copy : (k : Which) (copy : Copy) (pair : Pair) → copy_of k (with_copy k copy pair) ≡ copy
changed-copy First copy pair = refl
changed-copy Second copy pair = refl

-- a copy of the process of an opener, after a change, that has seen to a request and is on a node
pub record IsSeenAt (next : Post) (asker : ℕ) (one : Who) (opener : Opener) (n at : ℕ) : Type 0 where
  pub k : Which
  pub now : Pair
  pub there : slice_get next.world.processes opener.server ≡ Some now
  pub seat : (copy_of k now).processor ≡ at
  pub seen : HasSeen next asker one (copy_of k now) opener n

module _ (site : Site) (fit : IsFit site) (events : ℕ) (w : World) (good : IsGood site events w) (asker : ℕ)
    (one : Who) (opener : Opener) (n : ℕ)
    (opens : opener_of site one ≡ Some opener) where
  module _ (next : Post) (k : Which) (pair : Pair) (request : Request) (words : List ℤ)
      (is : request ≡ request_of opener n words)
      (stood : slice_get w.processes request.process ≡ Some pair) where
    there : slice_get w.processes opener.server ≡ Some pair
    there = subst (λ r. slice_get w.processes r.process ≡ Some pair) is stood

    -- the copy is put into its place
    placed : (change : Request → Copy) → next.world.processes
        ≡ slice_set w.processes request.process (with_copy k (change request) pair)
        → HasSeen next asker one (change (request_of opener n words)) opener n
        → IsSeenAt next asker one opener n (change (request_of opener n words)).processor
    placed change changes seen =
        let copy = change (request_of opener n words) in
        let now : next.world.processes ≡ slice_set w.processes opener.server (with_copy k copy pair) =
        subst (λ r. next.world.processes ≡ slice_set w.processes r.process (with_copy k (change r) pair)) is changes in
        record {
          k = k;
          now = with_copy k copy pair;
          there = rw now (set-there w.processes opener.server pair (with_copy k copy pair) there);
          seat = ap (λ (c : Copy). c.processor) (changed-copy k copy pair);
          seen = subst (λ c. HasSeen next asker one c opener n) (sym (changed-copy k copy pair)) seen;
        }

    heard-seen : (copy_of k pair).role ≡ Acting
        → ((words : List ℤ) → standing_at (copy_of k pair).core.receive opener.place n ≡ Kept words
        → IsTold next asker one opener n (copy_of k pair).processor words)
        → HasSeen next asker one
        (record (copy_of k pair) {
          waiting = came (copy_of k pair).core.receive (copy_of k pair).waiting
              (request_of opener n words);
        }) opener n
    heard-seen role told = record {
      watching = λ r. absurd (acting-gets-none (copy_of k pair).role role r);
      next = λ r is.
          let stands = next-is (copy_of k pair).core.receive opener.place n is in
          let wait : is_waiting (request_standing (copy_of k pair).core.receive (request_of opener n words)) ≡ true =
          rw is refl in
          rw wait (waits-now (request_of opener n words) (copy_of k pair).waiting (λ other among.
          let known = (good.invariant.processes opener.server pair there).2.waiting k other among in (
            known.0,
            λ same.
                let low = asked-low site fit events w good opener.server pair k there role other known.0 known.1
                stands.block
                (subst (λ p. slice_get (copy_of k pair).core.receive.openers p ≡ Some stands.block) (sym same)
                stands.there) in
                let last = stands.next in
                omega (arith, low, last),
          )));
      kept = λ r words is. told words is;
    }

    -- what is kept is told again
    told-again : {sendings : List Sending} → sendings
        ≡ sent_at (copy_of k pair).processor (map Replying (reply_sent_again (copy_of k pair).core.receive request))
        → (words : List ℤ) → standing_at (copy_of k pair).core.receive opener.place n ≡ Kept words
        → IsAmong (record { node = (copy_of k pair).processor; message = Replying (reply_of opener n words) }) sendings
    told-again sent words kept =
        let among : IsAmong (reply_of opener n words) (reply_sent_again (copy_of k pair).core.receive request) =
        subst (λ r. IsAmong (reply_of opener n words) (reply_sent_again (copy_of k pair).core.receive r)) (sym is)
        (rw kept (inl refl)) in
        rw sent (sent-in (copy_of k pair).processor (Replying (reply_of opener n words))
        (map Replying (reply_sent_again (copy_of k pair).core.receive request))
        (map-in Replying (reply_of opener n words) (reply_sent_again (copy_of k pair).core.receive request) among))

    heard-early-seen : receives (copy_of k pair).role ≡ true → IsAwaited site w asker one n
        → ((request : Request) → IsAmong request (copy_of k pair).waiting → IsEarly site w k request)
        → HasSeen next asker one (record (copy_of k pair)
        { waiting = waits (copy_of k pair).waiting (request_of opener n words) }) opener n
    heard-early-seen role awaited early = record {
      watching = λ r. waits-now (request_of opener n words) (copy_of k pair).waiting (λ other among.
          let known = (good.invariant.processes opener.server pair there).2.waiting k other among in (
            known.0,
            λ same. early-low site fit events w good k other asker one n opener (early other among) known.1 opens
                awaited known.0 same,
          ));
      next = λ r. absurd (acting-gets-none (copy_of k pair).role r role);
      kept = λ r. absurd (acting-gets-none (copy_of k pair).role r role);
    }

  -- a request that comes is seen to where it comes
  pub come-seen : {next : World} {cause : Cause} {sendings : List Sending} → Change site w cause sendings next
      → (owed sent : List Letter) (at : ℕ) (words : List ℤ)
      → cause ≡ Handing at (Asking (request_of opener n words)) → IsAwaited site w asker one n
      → ((node : ℕ) (words : List ℤ) → IsAmong (record { node = node; message = Replying (reply_of opener n words) })
      sendings
      → IsTold (record { world = next; owed = owed; sent = sent }) asker one opener n node words)
      → ((number : ℕ) (pair : Pair) (k : Which) (request : Request) → slice_get w.processes number ≡ Some pair
      → receives (copy_of k pair).role ≡ true
      → IsAmong request (copy_of k pair).waiting → IsEarly site w k request)
      → IsSeenAt (record { world = next; owed = owed; sent = sent }) asker one opener n at
  come-seen {next = next} (by_request request k pair among there role) owed sent at words same awaited told early =
      let post : Post = record { world = next; owed = owed; sent = sent } in
      let is = (same-asking same).1 in
      subst (IsSeenAt post asker one opener n) (same-asking same).0
      (placed post k pair request words is there
      (λ r. record (copy_of k pair) { waiting = came (copy_of k pair).core.receive (copy_of k pair).waiting r })
      refl
      (heard-seen post k pair request words is there role
      (λ kept is_kept. told (copy_of k pair).processor kept
      (told-again post k pair request words is there refl kept is_kept))))
  come-seen {next = next} (by_early_request request k pair among there role) owed sent at words same awaited told
      early =
      let post : Post = record { world = next; owed = owed; sent = sent } in
      let is = (same-asking same).1 in
      subst (IsSeenAt post asker one opener n) (same-asking same).0
      (placed post k pair request words is there
      (λ r. record (copy_of k pair) { waiting = waits (copy_of k pair).waiting r }) refl
      (heard-early-seen post k pair request words is there role awaited
      (λ other among. early request.process pair k other there role among)))
  come-seen (by_own number k pair there role causes advances enters fr) owed sent at words same awaited told early =
      absurd (own-no-request causes same)
  come-seen (by_checkpoint number pair there passes) owed sent at words same awaited told early =
      absurd (passes-no-request passes same)
  come-seen (by_enter number terminal to there even next opened) owed sent at words same awaited told early =
      absurd (cc)
  come-seen (by_print number terminal reply there odd among prints last) owed sent at words same awaited told early =
      absurd (cc)
  come-seen (by_stop processor runs whole) owed sent at words same awaited told early = absurd (cc)
  come-seen (by_mark node processor stopped runs unmarked) owed sent at words same awaited told early = absurd (cc)
  come-seen (by_reload processor stopped all counted less) owed sent at words same awaited told early = absurd (cc)
