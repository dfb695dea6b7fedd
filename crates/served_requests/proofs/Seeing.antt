-- A copy that has seen to a request has seen to it after each turn as well.
use Rattle.std.proofs.Common.{◌≡◌, ◌≢◌, ◌⊎◌, inl, inr, ℕ, ◌+◌, ◌≤◌, ℤ, true, List, Some, slice_get, refl, ap, sym, ◌∙◌}
use Rattle.std.proofs.Common.{subst, arith}
use Rattle.gd_words.specs.Members.{IsAmong}
use Rattle.gd_words.specs.declared.message.Request.{Request}
use Rattle.gd_words.proofs.Among.{among-given}
use Rattle.tal_tree.specs.declared.site.Site.{Site}
use Rattle.tal_tree.specs.declared.site.Who.{Who}
use Rattle.plain_semantics.specs.declared.slot.Opener.{Opener}
use Rattle.checkpoint_image.specs.declared.receive.OpenerBlock.{OpenerBlock}
use Rattle.checkpoint_image.specs.declared.receive.ReceiveBlock.{ReceiveBlock}
use Rattle.checkpoint_image.specs.declared.receive.RequestStanding.TheVariants.{Next, Kept}
use Rattle.checkpoint_image.specs.Receive.{request_standing, standing_at, is_waiting, reply_sent_again}
use Rattle.world_semantics.specs.declared.role.Role.TheVariants.{Acting}
use Rattle.world_semantics.specs.Messages.{Asking, Replying, Sending, Cause, Handing}
use Rattle.world_semantics.specs.World.{Copy, receives}
use Rattle.world_semantics.proofs.Becoming.{acting-gets-none}
use Rattle.letters.specs.Posts.{Post}
use Rattle.letter_laws.specs.awaited_requests.specs.Served.{WaitsFor, reply_of, HasSeen}
use Rattle.served_requests.proofs.Queues.{filter-in, waits-still, came-still, chosen-leaves}
use Rattle.served_requests.proofs.Sending.{IsTold}
use Rattle.served_requests.proofs.Standings.{next-is, took-next, took-kept, answered-next, answered-kept}
use Rattle.served_requests.proofs.Turns.{Turns, is_quiet, has_asked, has_taken, has_answered, has_heard}
use Rattle.served_requests.proofs.Turns.{has_heard_early, has_taken_over}

-- what must be so around the turn of a copy for which it has seen to a request: what was told stays told; what is sent
-- is told; the number isn't past the next one at the copy where that acts; what comes to a copy that acts isn't either;
-- and what comes to one that receives checkpoints isn't past the number
pub record LeavesTold (post next : Post) (asker : ℕ) (one : Who) (opener : Opener) (n : ℕ) (cause : Cause)
    (sendings : List Sending) (before after : Copy) : Type 0 where
  pub carried : (words : List ℤ) → before.role ≡ Acting → after.role ≡ Acting
      → standing_at after.core.receive opener.place n ≡ Kept words
      → IsTold post asker one opener n before.processor words → IsTold next asker one opener n before.processor words
  pub told : (words : List ℤ) → IsAmong (record
      { node = before.processor; message = Replying (reply_of opener n words) }) sendings
      → IsTold next asker one opener n before.processor words
  pub low : (block : OpenerBlock) → before.role ≡ Acting
      → slice_get before.core.receive.openers opener.place ≡ Some block → n ≤ block.taken + 1
  pub heard : (request : Request) (block : OpenerBlock) → before.role ≡ Acting
      → cause ≡ Handing before.processor (Asking request)
      → request.process ≡ opener.server
      → slice_get before.core.receive.openers request.opener ≡ Some block → request.number ≤ block.taken + 1
  pub early : (request : Request) → receives before.role ≡ true → cause ≡ Handing before.processor (Asking request)
      → request.process ≡ opener.server
      → request.opener ≡ opener.place → request.number ≤ n

module _ (site : Site) (post next : Post) (asker : ℕ) (one : Who) (opener : Opener) (n : ℕ) (cause : Cause)
    (sendings : List Sending) (before after : Copy)
    (seat : after.processor ≡ before.processor)
    (leaves : LeavesTold post next asker one opener n cause sendings before after) where
  abbrev IsKeptIn : ReceiveBlock → List ℤ → Type 0
  IsKeptIn table words = standing_at table opener.place n ≡ Kept words

  moved : (words : List ℤ) → IsTold next asker one opener n before.processor words
      → IsTold next asker one opener n after.processor words
  moved words told = subst (λ p. IsTold next asker one opener n p words) (sym seat) told

  -- a copy acts, before and after
  acting-seen : before.role ≡ Acting → after.role ≡ Acting
      → (standing_at after.core.receive opener.place n ≡ Next → standing_at before.core.receive opener.place n ≡ Next)
      → (standing_at after.core.receive opener.place n ≡ Next → WaitsFor before.waiting opener n
      → WaitsFor after.waiting opener n)
      → ((words : List ℤ) → IsKeptIn after.core.receive words
      → IsTold next asker one opener n before.processor words ⊎ IsKeptIn before.core.receive words)
      → HasSeen post asker one before opener n → HasSeen next asker one after opener n
  acting-seen acted acts was_next waits was_kept has = record {
    watching = λ r. absurd (acting-gets-none after.role acts r);
    next = λ r is. waits is (has.next acted (was_next is));
    kept = λ r words is. moved words (elim (was_kept words is) [
      | inl told ↦ told
      | inr kept ↦ leaves.carried words acted acts is (has.kept acted words kept)
    ]);
  }

  -- a copy receives checkpoints afterwards
  watching-seen : receives after.role ≡ true → WaitsFor after.waiting opener n → HasSeen next asker one after opener n
  watching-seen watches waits = record {
    watching = λ r. waits;
    next = λ r. absurd (acting-gets-none after.role r watches);
    kept = λ r. absurd (acting-gets-none after.role r watches);
  }

  same-seen : after.core.receive ≡ before.core.receive → after.waiting ≡ before.waiting → before.role ≡ Acting
      → after.role ≡ Acting
      → HasSeen post asker one before opener n → HasSeen next asker one after opener n
  same-seen table waits acted acts = acting-seen acted acts
      (λ is. subst (λ t. standing_at t opener.place n ≡ Next) table is)
      (λ is wait. subst (λ ws. WaitsFor ws opener n) (sym waits) wait)
      (λ words is. inr (subst (λ t. IsKeptIn t words) table is))

  pub turn-seen : Turns site opener.server cause sendings before after → HasSeen post asker one before opener n
      → HasSeen next asker one after opener n
  turn-seen (is_quiet quiet) has = record {
    watching = λ r. subst (λ ws. WaitsFor ws opener n) (sym quiet.waits) (has.watching (quiet.watches r));
    next = λ r is. (same-seen (quiet.table r) quiet.waits (quiet.acts r) r has).next r is;
    kept = λ r. (same-seen (quiet.table r) quiet.waits (quiet.acts r) r has).kept r;
  }
  turn-seen (has_asked words acted acts table waits sent) has = same-seen table waits acted acts has
  turn-seen (has_taken found block acted acts away free is known table rest) has = acting-seen acted acts
      (λ next. (took next).1)
      (λ next wait. (
        wait.0,
        subst (λ ws. IsAmong wait.0 ws) (sym rest)
            (chosen-leaves before.core.receive before.waiting found wait.0 is wait.1
            (λ same. (took next).0 (sym same ∙ wait.3))),
        wait.2,
        wait.3,
        wait.4,
      ))
      (λ words kept. inr (took-kept before.core.receive found.request.opener block known opener.place n words free
      (subst (λ t. IsKeptIn t words) table kept))) has
    where
      took : standing_at after.core.receive opener.place n ≡ Next
          → (found.request.opener ≢ opener.place) × (standing_at before.core.receive opener.place n ≡ Next)
      took next = took-next before.core.receive found.request.opener block known opener.place n
          (λ old there. leaves.low old acted there)
          (subst (λ t. standing_at t opener.place n ≡ Next) table next)
  turn-seen (has_answered place depth said block acted acts away hand known table waits sent) has =
      acting-seen acted acts
      (λ next. answered-next before.core.receive place block known opener.place n depth said
      (subst (λ t. standing_at t opener.place n ≡ Next) table next))
      (λ next wait. subst (λ ws. WaitsFor ws opener n) (sym waits) wait)
      (λ words kept. elim (answered-kept before.core.receive place block known opener.place n depth said words hand
      (subst (λ t. IsKeptIn t words) table kept)) [
        | inl now ↦ inl (leaves.told words (rw (← now.0, now.1, now.2) sent))
        | inr kept ↦ inr kept
      ]) has
  turn-seen (has_heard request acted acts core process waits told is) has = acting-seen acted acts
      (λ next. subst (λ t. standing_at t opener.place n ≡ Next) (ap (λ c. c.receive) core) next)
      (λ next wait. (
        wait.0,
        subst (λ ws. IsAmong wait.0 ws) (sym waits)
            (came-still before.core.receive request wait.0 before.waiting wait.1 (λ same.
            let stands = next-is before.core.receive opener.place n
            (subst (λ t. standing_at t opener.place n ≡ Next) (ap (λ c. c.receive) core) next) in
            let low = leaves.heard request stands.block acted is process
            (subst (λ p. slice_get before.core.receive.openers p ≡ Some stands.block) (sym wait.3 ∙ same)
            stands.there) in
            let number = wait.4 in
            omega (arith, low, stands.next, number))),
        wait.2,
        wait.3,
        wait.4,
      ))
      (λ words kept. inr (subst (λ t. IsKeptIn t words) (ap (λ c. c.receive) core) kept)) has
  turn-seen (has_heard_early request watched watches process waits is) has =
      let wait = has.watching watched in
      watching-seen watches (
        wait.0,
        subst (λ ws. IsAmong wait.0 ws) (sym waits) (waits-still request wait.0 before.waiting wait.1 (λ same.
            let low = leaves.early request watched is process (sym same ∙ wait.3) in let number =
            wait.4 in omega (arith, low, number))),
        wait.2,
        wait.3,
        wait.4,
      )
  turn-seen (has_taken_over watched acts away table waits told) has = record {
    watching = λ r. absurd (acting-gets-none after.role acts r);
    next = λ r is.
        let next : request_standing before.core.receive wait.0 ≡ Next =
        rw (wait.3, wait.4) (subst (λ t. standing_at t opener.place n ≡ Next) table is) in (
          wait.0,
          subst (λ ws. IsAmong wait.0 ws) (sym waits)
              (filter-in (λ request. is_waiting (request_standing before.core.receive request)) wait.0 before.waiting
              (rw next refl) wait.1),
          wait.2,
          wait.3,
          wait.4,
        );
    kept = λ r words is.
        let kept : request_standing before.core.receive wait.0 ≡ Kept words =
        rw (wait.3, wait.4) (subst (λ t. IsKeptIn t words) table is) in
        moved words (leaves.told words (told (reply_of opener n words)
        (among-given (reply_sent_again before.core.receive) wait.0 (reply_of opener n words) before.waiting wait.1
        (rw (kept, wait.2, wait.3, wait.4) (inl refl)))));
  }
    where
      wait : WaitsFor before.waiting opener n
      wait = has.watching (ap receives watched)
