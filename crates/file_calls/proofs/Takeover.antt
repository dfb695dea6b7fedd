-- Settling until there is no reply.
use Rattle.std.proofs.Common.{◌≡◌, Bool, true, false, cond, List, [], ◌∷◌, ◌++◌, Option, Some, None, option_to_list}
use Rattle.std.proofs.Common.{refl, ap, subst, sym, ◌∙◌}
use Rattle.gd_words.specs.declared.message.Reply.{Reply}
use Rattle.gd_words.specs.declared.message.Request.{Request}
use Rattle.checkpoint_image.specs.Receive.{all_repeated, is_waiting, reply_sent_again, repeated_by, reply_to}
use Rattle.checkpoint_image.specs.Receive.{request_standing}
use Rattle.checkpoint_image.specs.Receive.{still_waiting}
use Rattle.checkpoint_image.specs.declared.receive.ReceiveBlock.{ReceiveBlock}
use Rattle.checkpoint_image.specs.declared.receive.RequestStanding.{RequestStanding}
use Rattle.checkpoint_image.specs.declared.receive.RequestStanding.TheVariants.{Next, InHand, Kept, Old, Ahead}
use Rattle.file_calls.specs.Takeover.{Settled, Settles, no_more, one_more, settlement_of, settled_after, settled_by}

-- It comes to an end

no_more-by : (table : ReceiveBlock) (waiting : List Request) (s : Settled) → settlement_of table waiting ≡ s
    → s.reply ≡ None
    → Settles table waiting [] s.rest
no_more-by table waiting s is none =
    subst (λ (t : Settled). Settles table waiting [] t.rest) is (no_more (ap (λ (t : Settled). t.reply) is ∙ none))

one_more-by : (table : ReceiveBlock) (waiting end : List Request) (reply : Reply) (replies : List Reply) (s : Settled)
    → settlement_of table waiting ≡ s → s.reply ≡ Some reply
    → Settles table s.rest replies end → Settles table waiting (reply ∷ replies) end
one_more-by table waiting end reply replies s is some later =
    one_more (ap (λ (t : Settled). t.reply) is ∙ some)
    (subst (λ (t : Settled). Settles table t.rest replies end) (sym is) later)

-- before requests that are settled one waits on
waits-on : (table : ReceiveBlock) (request : Request)
    → ((rest : List Request) → settlement_of table (request ∷ rest) ≡ settled_after request (settlement_of table rest))
    → (rest end : List Request) (replies : List Reply) → Settles table rest replies end
    → Settles table (request ∷ rest) replies (request ∷ end)
waits-on table request so rest end replies (no_more none) =
    no_more-by table (request ∷ rest) (settled_after request (settlement_of table rest)) (so rest) none
waits-on table request so rest end replies (one_more {reply = reply} {replies = others} some later) =
    one_more-by table (request ∷ rest) (request ∷ end) reply others (settled_after request (settlement_of table rest))
    (so rest) some
    (waits-on table request so (settlement_of table rest).rest end others later)

-- before requests that are settled one goes
goes : (table : ReceiveBlock) (request : Request) (rest end : List Request) (replies : List Reply)
    → settlement_of table (request ∷ rest) ≡ settlement_of table rest
    → Settles table rest replies end → Settles table (request ∷ rest) replies end
goes table request rest end replies so (no_more none) =
    no_more-by table (request ∷ rest) (settlement_of table rest) so none
goes table request rest end replies so (one_more {reply = reply} {replies = others} some later) =
    one_more-by table (request ∷ rest) end reply others (settlement_of table rest) so some later

comes-by : (table : ReceiveBlock) (request : Request) (rest end : List Request) (replies : List Reply)
    (s : RequestStanding) → request_standing table request ≡ s
    → Settles table rest replies end → Settles table (request ∷ rest) (repeated_by request s ++ replies)
    (cond (is_waiting s) (request ∷ end) end)
comes-by table request rest end replies Next is settles =
    waits-on table request (λ others. ap (λ (s : RequestStanding). settled_by s request others
    (settlement_of table others))
    is) rest end replies settles
comes-by table request rest end replies Ahead is settles =
    waits-on table request (λ others. ap (λ (s : RequestStanding). settled_by s request others
    (settlement_of table others))
    is) rest end replies settles
comes-by table request rest end replies InHand is settles =
    goes table request rest end replies (ap
    (λ (s : RequestStanding). settled_by s request rest (settlement_of table rest))
    is) settles
comes-by table request rest end replies Old is settles =
    goes table request rest end replies (ap
    (λ (s : RequestStanding). settled_by s request rest (settlement_of table rest))
    is) settles
comes-by table request rest end replies (Kept words) is settles =
    one_more-by table (request ∷ rest) end (reply_to request words) replies
    (record { reply = Some (reply_to request words); rest = rest })
    (ap (λ (s : RequestStanding). settled_by s request rest (settlement_of table rest)) is) refl settles

pub comes : (table : ReceiveBlock) (waiting : List Request)
    → Settles table waiting (all_repeated table waiting) (still_waiting table waiting)
comes table [] = no_more refl
comes table (request ∷ rest) =
    comes-by table request rest (still_waiting table rest) (all_repeated table rest)
    (request_standing table request) refl
    (comes table rest)

-- There is no other

-- what one step of settling sends and leaves
record IsStep (table : ReceiveBlock) (waiting : List Request) (s : Settled) : Type 0 where
  replies : all_repeated table waiting ≡ option_to_list s.reply ++ all_repeated table s.rest
  rest : still_waiting table waiting ≡ still_waiting table s.rest
  end_replies : s.reply ≡ None → all_repeated table s.rest ≡ []
  end_rest : s.reply ≡ None → still_waiting table s.rest ≡ s.rest

step-on : (table : ReceiveBlock) (request : Request) (rest : List Request) (s : Settled)
    → reply_sent_again table request ≡ []
    → is_waiting (request_standing table request) ≡ true
    → IsStep table rest s → IsStep table (request ∷ rest) (settled_after request s)
step-on table request rest s silent waits step = record {
  replies = ap (λ (sent : List Reply). sent ++ all_repeated table rest) silent ∙ step.replies
      ∙ ap (λ (sent : List Reply). option_to_list s.reply ++ (sent ++ all_repeated table s.rest)) (sym silent);
  rest = ap (λ (left : List Request). cond (is_waiting (request_standing table request)) (request ∷ left)
      left) step.rest;
  end_replies = λ none. ap (λ (sent : List Reply). sent ++ all_repeated table s.rest) silent ∙ step.end_replies none;
  end_rest = λ none. ap (λ (b : Bool). cond b (request ∷ still_waiting table s.rest) (still_waiting table s.rest)) waits
      ∙ ap (λ (left : List Request). request ∷ left) (step.end_rest none);
}

step-without : (table : ReceiveBlock) (request : Request) (rest : List Request) (s : Settled)
    → reply_sent_again table request ≡ [] → is_waiting (request_standing table request) ≡ false
    → IsStep table rest s → IsStep table (request ∷ rest) s
step-without table request rest s silent goes step = record {
  replies = ap (λ (sent : List Reply). sent ++ all_repeated table rest) silent ∙ step.replies;
  rest = ap (λ (b : Bool). cond b (request ∷ still_waiting table rest) (still_waiting table rest)) goes ∙ step.rest;
  end_replies = step.end_replies;
  end_rest = step.end_rest;
}

step-by : (table : ReceiveBlock) (request : Request) (rest : List Request) (later : Settled) (s : RequestStanding)
    → request_standing table request ≡ s → IsStep table rest later
    → IsStep table (request ∷ rest) (settled_by s request rest later)
step-by table request rest later Next is step =
    step-on table request rest later (ap (repeated_by request) is) (ap is_waiting is) step
step-by table request rest later Ahead is step =
    step-on table request rest later (ap (repeated_by request) is) (ap is_waiting is) step
step-by table request rest later InHand is step =
    step-without table request rest later (ap (repeated_by request) is) (ap is_waiting is) step
step-by table request rest later Old is step =
    step-without table request rest later (ap (repeated_by request) is) (ap is_waiting is) step
step-by table request rest later (Kept words) is step = record {
  replies = ap (λ (sent : List Reply). sent ++ all_repeated table rest) (ap (repeated_by request) is);
  rest = ap (λ (b : Bool). cond b (request ∷ still_waiting table rest) (still_waiting table rest)) (ap is_waiting is);
  end_replies = λ none. absurd (cc);
  end_rest = λ none. absurd (cc);
}

step : (table : ReceiveBlock) (waiting : List Request) → IsStep table waiting (settlement_of table waiting)
step table [] = record { replies = refl; rest = refl; end_replies = λ none. refl; end_rest = λ none. refl }
step table (request ∷ rest) =
    step-by table request rest (settlement_of table rest) (request_standing table request) refl (step table rest)

pub only-replies : (table : ReceiveBlock) (waiting end : List Request) (replies : List Reply)
    → Settles table waiting replies end → replies ≡ all_repeated table waiting
only-replies table waiting end replies (no_more none) =
    let one = step table waiting in
    sym (one.replies ∙ ap (λ (o : Option Reply). option_to_list o
    ++ all_repeated table (settlement_of table waiting).rest)
    none ∙ one.end_replies none)
only-replies table waiting end replies (one_more {reply = reply} {replies = others} some later) =
    let one = step table waiting in
    ap (λ (sent : List Reply). reply ∷ sent) (only-replies table (settlement_of table waiting).rest end others later)
    ∙ sym (one.replies ∙ ap (λ (o : Option Reply). option_to_list o
    ++ all_repeated table (settlement_of table waiting).rest)
    some)

pub only-rest : (table : ReceiveBlock) (waiting end : List Request) (replies : List Reply)
    → Settles table waiting replies end → end ≡ still_waiting table waiting
only-rest table waiting end replies (no_more none) = let one = step table waiting in sym (one.rest ∙ one.end_rest none)
only-rest table waiting end replies (one_more {replies = others} some later) =
    only-rest table (settlement_of table waiting).rest end others later ∙ sym (step table waiting).rest
