-- Settling the requests that wait at a copy that takes over, one kept reply after another.
use Rattle.std.proofs.Common.{◌≡◌, ◌<◌, ◌≤◌, ℕ, List, [], ◌∷◌, ◌++◌, length, map, Option, Some, None, is_some, true}
use Rattle.std.proofs.Common.{refl, ap, subst, sym, ◌∙◌, append_assoc, arith}
use Rattle.std.proofs.lemmas.List.{append-nil}
use Rattle.gd_words.specs.declared.message.Reply.{Reply}
use Rattle.gd_words.specs.declared.message.Request.{Request}
use Rattle.checkpoint_image.specs.Receive.{request_standing}
use Rattle.checkpoint_image.specs.declared.receive.ReceiveBlock.{ReceiveBlock}
use Rattle.checkpoint_image.specs.declared.receive.RequestStanding.{RequestStanding}
use Rattle.checkpoint_image.specs.declared.receive.RequestStanding.TheVariants.{Next, InHand, Kept, Old, Ahead}
use Rattle.file_calls.specs.Queue.{Queue}
use Rattle.file_calls.specs.Takeover.{Settled, Settles, no_more, one_more, settlement_of, settled_by}
use Rattle.kept_acts.specs.world_semantics.specs.Messages.{Replying, Sending, sent_at}

-- what was settled so far: the replies that were told, before which those come that are still to be
pub record SettledSoFar (table : ReceiveBlock) (node : ℕ) (first now : Queue) (before told : List Sending) :
    Type 0 where
  pub openers : now.openers ≡ first.openers
  pub sent : List Reply
  pub added : told ≡ before ++ sent_at node (map Replying sent)
  pub later : (replies : List Reply) (end : List Request) → Settles table now.requests replies end
      → Settles table first.requests (sent ++ replies) end

pub nothing-settled : (table : ReceiveBlock) (node : ℕ) (first : Queue) (before : List Sending)
    → SettledSoFar table node first first before before
nothing-settled table node first before = record {
  openers = refl;
  sent = [];
  added = sym (append-nil before);
  later = λ replies end settles. settles;
}

sent-more : (node : ℕ) (sent : List Reply) (reply : Reply)
    → sent_at node (map Replying (sent ++ reply ∷ []))
    ≡ sent_at node (map Replying sent) ++ record { node = node; message = Replying reply } ∷ []
sent-more node [] reply = refl
sent-more node (one ∷ sent) reply =
    ap (λ (rest : List Sending). record { node = node; message = Replying one } ∷ rest) (sent-more node sent reply)

told-more : (node : ℕ) (before told : List Sending) (sent : List Reply) (reply : Reply)
    → told ≡ before ++ sent_at node (map Replying sent)
    → told ++ record { node = node; message = Replying reply } ∷ []
    ≡ before ++ sent_at node (map Replying (sent ++ reply ∷ []))
told-more node before told sent reply so =
    ap (λ (t : List Sending). t ++ record { node = node; message = Replying reply } ∷ []) so
    ∙ append_assoc before (sent_at node (map Replying sent)) (record { node = node; message = Replying reply } ∷ [])
    ∙ ap (λ (t : List Sending). before ++ t) (sym (sent-more node sent reply))

pub more-settled : (table : ReceiveBlock) (node : ℕ) (first now next : Queue) (before told more : List Sending)
    (reply : Reply)
    → SettledSoFar table node first now before told → Some reply ≡ (settlement_of table now.requests).reply
    → next.requests ≡ (settlement_of table now.requests).rest → next.openers ≡ now.openers
    → more ≡ told ++ record { node = node; message = Replying reply } ∷ []
    → SettledSoFar table node first next before more
more-settled table node first now next before told more reply far some rest openers so = record {
  openers = openers ∙ far.openers;
  sent = far.sent ++ reply ∷ [];
  added = so ∙ told-more node before told far.sent reply far.added;
  later = λ replies end settles.
      subst (λ (all : List Reply). Settles table first.requests all end)
      (sym (append_assoc far.sent (reply ∷ []) replies))
      (far.later (reply ∷ replies) end (one_more (sym some)
      (subst (λ (left : List Request). Settles table left replies end) rest settles)));
}

-- the replies and the requests at the end
pub all-settled : (table : ReceiveBlock) (node : ℕ) (first now next : Queue) (before told : List Sending)
    → (far : SettledSoFar table node first now before told) → None ≡ (settlement_of table now.requests).reply
    → next.requests ≡ (settlement_of table now.requests).rest → Settles table first.requests far.sent next.requests
all-settled table node first now next before told far none rest =
    subst (λ (end : List Request). Settles table first.requests far.sent end) (sym rest)
    (subst (λ (all : List Reply). Settles table first.requests all (settlement_of table now.requests).rest)
    (append-nil far.sent)
    (far.later [] (settlement_of table now.requests).rest (no_more (sym none))))

-- Each reply leaves fewer requests

record Fewer (waiting : List Request) (s : Settled) : Type 0 where
  most : length s.rest ≤ length waiting
  less : is_some s.reply ≡ true → length s.rest < length waiting

fewer-by : (request : Request) (rest : List Request) (later : Settled) (s : RequestStanding) → Fewer rest later
    → Fewer (request ∷ rest) (settled_by s request rest later)
fewer-by request rest later Next few =
    record { most = omega (arith, few.most); less = λ some. let less = few.less some in omega (arith, less) }
fewer-by request rest later Ahead few =
    record { most = omega (arith, few.most); less = λ some. let less = few.less some in omega (arith, less) }
fewer-by request rest later InHand few =
    record { most = omega (arith, few.most); less = λ some. let most = few.most in omega (arith, most) }
fewer-by request rest later Old few =
    record { most = omega (arith, few.most); less = λ some. let most = few.most in omega (arith, most) }
fewer-by request rest later (Kept words) few = record { most = omega arith; less = λ some. omega arith }

fewer : (table : ReceiveBlock) (waiting : List Request) → Fewer waiting (settlement_of table waiting)
fewer table [] = record { most = omega arith; less = λ some. absurd (cc) }
fewer table (request ∷ rest) =
    fewer-by request rest (settlement_of table rest) (request_standing table request) (fewer table rest)

pub fewer-left : (table : ReceiveBlock) (now next : Queue) (reply : Reply)
    → Some reply ≡ (settlement_of table now.requests).reply
    → next.requests ≡ (settlement_of table now.requests).rest → length next.requests < length now.requests
fewer-left table now next reply some rest =
    subst (λ (left : List Request). length left < length now.requests) (sym rest)
    ((fewer table now.requests).less (ap (λ (o : Option Reply). is_some o) (sym some)))
