-- What a message that comes may change: only what awaits just this message.
use Rattle.std.proofs.Common.{◌≡◌, ◌⊎◌, inl, inr, ℕ, ◌+◌, ◌==◌, ℤ, true, false, List, [], ◌∷◌, ◌++◌, map, Some}
use Rattle.std.proofs.Common.{slice_get, refl, subst, sym, ap, ◌∙◌, arith}
use Rattle.std.proofs.lemmas.List.{append_cancel_right}
use Rattle.checkpoint_image.specs.gd_words.specs.Members.{IsAmong}
use Rattle.checkpoint_image.specs.gd_words.specs.declared.message.Request.{Request}
use Rattle.checkpoint_image.specs.gd_words.specs.declared.message.Reply.{Reply}
use Rattle.checkpoint_image.specs.tal_tree.specs.declared.act.Act.{Act}
use Rattle.checkpoint_image.specs.tal_tree.specs.declared.act.Shown.{Shown}
use Rattle.checkpoint_image.specs.tal_tree.specs.declared.act.Shown.TheVariants as shown
use Rattle.checkpoint_image.specs.tal_tree.specs.declared.site.Site.{Site}
use Rattle.plain_semantics.specs.process_semantics.specs.Process as process
use Rattle.plain_semantics.specs.Openers.{openers_of}
use Rattle.checkpoint_image.specs.declared.message.ImageMessage.{ImageMessage}
use Rattle.checkpoint_image.specs.declared.message.TakenMessage.{TakenMessage}
use Rattle.checkpoint_image.specs.declared.receive.RequestStanding.{RequestStanding}
use Rattle.checkpoint_image.specs.declared.receive.RequestStanding.TheVariants.{Next, InHand, Kept, Old, Ahead}
use Rattle.world_semantics.specs.declared.role.Role.TheVariants.{Acting, Watching}
use Rattle.checkpoint_image.specs.Receive.{request_standing, reply_to, repeated_by, reply_sent_again}
use Rattle.world_semantics.specs.Core.{Core, Deed, Advances, gets}
use Rattle.world_semantics.specs.World.{Copy, Pair, Down, Terminal, World, Which, copy_of, other_of, terminal_node}
use Rattle.world_semantics.specs.World.{receives}
use Rattle.world_semantics.specs.Messages.{Message, Asking, Replying, Checkpointing, Taking, Sending, sent_at, Cause}
use Rattle.world_semantics.specs.Messages.{Handing, MarkingDown, Reloading}
use Rattle.world_semantics.specs.Own.{Around, Causes, by_inner, by_take, by_ask, by_answer, by_device, by_write}
use Rattle.world_semantics.specs.Own.{by_reply}
use Rattle.world_semantics.specs.Passes.{Passes, by_send, by_pass_again, by_pass, by_end, by_apply_behind}
use Rattle.world_semantics.specs.Passes.{by_apply, by_acknowledge}
use Rattle.world_semantics.specs.Rules.{Change, by_own, by_checkpoint, by_request, by_early_request, by_enter, by_print}
use Rattle.world_semantics.specs.Rules.{by_stop, by_mark, by_reload}
use Rattle.world_semantics.specs.Laws.{HasStayed, IsNextFor, HasApplied, Acknowledges, HasTakenOver, Awaits, AwaitsAt}
use Rattle.world_semantics.specs.Laws.{KeepsReplyTo}
use Rattle.world_semantics.proofs.Lists.{some-same, set-there}
use Rattle.world_semantics.proofs.Becoming as becoming
use Rattle.world_semantics.proofs.Becoming.{Becomes, acting-gets-none, entered-same, was-role}

-- Checkpoints

-- a copy applies a checkpoint that comes to it
abbrev pub AppliesNext : Pair → Copy → Cause → Copy → Type 0
AppliesNext pair before cause after =
    (message : ImageMessage) × (cause ≡ Handing before.processor (Checkpointing message))
    × IsAmong message pair.checkpoints × IsNextFor before message
    × HasApplied before message after

pub receiving-applies : {site : Site} {w : World} {number : ℕ} {pair : Pair} {sent : List ImageMessage} {k : Which}
    {cause : Cause} {after : Copy} → Becomes site w number pair sent k cause after
    → receives (copy_of k pair).role ≡ true
    → HasStayed (copy_of k pair) after ⊎ (AppliesNext pair (copy_of k pair) cause after
    ⊎ (cause ≡ Reloading (copy_of k pair).processor))
receiving-applies becoming.stays role = inl (record { core = refl; number = λ _. refl })
receiving-applies (becoming.acts r c a e fr) role = absurd (acting-gets-none _ r role)
receiving-applies (becoming.sends r p i) role = absurd (acting-gets-none _ r role)
receiving-applies (becoming.passes r) role = absurd (acting-gets-none _ r role)
receiving-applies (becoming.ends r) role = absurd (acting-gets-none _ r role)
receiving-applies (becoming.applies message r i e n a) role =
    inr (inl (message, refl, i, record { era = e; number = n }, record { core = a; number = refl }))
receiving-applies (becoming.is_told taken r s i e n) role = absurd (acting-gets-none _ r role)
receiving-applies becoming.is_freed role = inl (record { core = refl; number = λ _. refl })
receiving-applies becoming.needs_less role = inl (record { core = refl; number = λ _. refl })
receiving-applies (becoming.hears request r) role = absurd (acting-gets-none _ r role)
receiving-applies (becoming.hears_early request r) role = inl (record { core = refl; number = λ _. refl })
receiving-applies (becoming.stops processor) role = inl (record { core = refl; number = λ _. refl })
receiving-applies (becoming.takes_over node processor t) role =
    inl (record { core = refl; number = λ same. absurd (omega (arith, same)) })
receiving-applies (becoming.is_blank processor here e) role = inr (inr (ap Reloading (sym here)))
receiving-applies (becoming.renews processor there) role =
    inl (record { core = refl; number = λ same. absurd (omega (arith, same)) })

not-checkpointing : {site : Site} {number node at : ℕ} {core : Core} {before after : Around} {cause : Cause}
    {deed : Deed} {done : Act} {messages : List Message} {message : ImageMessage}
    → Causes site number node core before cause deed done messages after → cause ≡ Handing at (Checkpointing message)
    → ⊥
not-checkpointing by_inner e = cc
not-checkpointing (by_take c) e = cc
not-checkpointing by_ask e = cc
not-checkpointing (by_answer s) e = cc
not-checkpointing (by_device n) e = cc
not-checkpointing (by_write n) e = cc
not-checkpointing (by_reply i o n u) e = cc

pub others-stand : {site : Site} {w : World} {number node : ℕ} {pair : Pair} {sent : List ImageMessage} {k : Which}
    {cause : Cause} {after : Copy} {message : ImageMessage}
    → Becomes site w number pair sent k cause after → cause ≡ Handing node (Checkpointing message)
    → receives (copy_of k pair).role ≡ false
    → HasStayed (copy_of k pair) after
others-stand becoming.stays e other = record { core = refl; number = λ _. refl }
others-stand (becoming.acts r c a enters fr) e other = absurd (not-checkpointing c e)
others-stand (becoming.sends r p i) e other = absurd (cc)
others-stand (becoming.passes r) e other = absurd (cc)
others-stand (becoming.ends r) e other = absurd (cc)
others-stand (becoming.applies message r i era n a) e other = let f = sym r ∙ other in absurd (cc)
others-stand (becoming.is_told taken r s i era n) e other = record { core = refl; number = λ _. refl }
others-stand becoming.is_freed e other = record { core = refl; number = λ _. refl }
others-stand becoming.needs_less e other = record { core = refl; number = λ _. refl }
others-stand (becoming.hears request r) e other = record { core = refl; number = λ _. refl }
others-stand (becoming.hears_early request r) e other = record { core = refl; number = λ _. refl }
others-stand (becoming.stops processor) e other = record { core = refl; number = λ _. refl }
others-stand (becoming.takes_over m processor t) e other = absurd (cc)
others-stand (becoming.is_blank processor here next) e other = absurd (cc)
others-stand (becoming.renews processor there) e other = absurd (cc)

-- a copy is told that the checkpoint which it sent was taken
abbrev pub IsToldOf : Pair → Copy → Cause → Type 0
IsToldOf pair before cause =
    (taken : TakenMessage) × (cause ≡ Handing before.processor (Taking taken)) × IsAmong taken pair.takens
    × Acknowledges before taken

pub only-told : {site : Site} {w : World} {number : ℕ} {pair : Pair} {sent : List ImageMessage} {k : Which}
    {cause : Cause} {after : Copy} → Becomes site w number pair sent k cause after
    → (copy_of k pair).acknowledged ≡ false → after.acknowledged ≡ true → IsToldOf pair (copy_of k pair) cause
only-told becoming.stays was now = absurd (cc)
only-told (becoming.acts r c a e fr) was now = let same = (entered-same e).acknowledged in absurd (cc)
only-told (becoming.sends r p i) was now = absurd (cc)
only-told (becoming.passes r) was now = absurd (cc)
only-told (becoming.ends r) was now = absurd (cc)
only-told (becoming.applies message r i e n a) was now = absurd (cc)
only-told (becoming.is_told taken r s i e n) was now =
    (taken, refl, i, record { acting = r; sent = s; era = e; number = n })
only-told becoming.is_freed was now = absurd (cc)
only-told becoming.needs_less was now = absurd (cc)
only-told (becoming.hears request r) was now = absurd (cc)
only-told (becoming.hears_early request r) was now = absurd (cc)
only-told (becoming.stops processor) was now = absurd (cc)
only-told (becoming.takes_over node processor t) was now = absurd (cc)
only-told (becoming.is_blank processor here e) was now = absurd (cc)
only-told (becoming.renews processor there) was now = absurd (cc)

-- Takeovers

-- a copy takes over for one whose processor its node marks
abbrev pub TakesOver : Pair → Which → Cause → Copy → Type 0
TakesOver pair k cause after =
    (cause ≡ MarkingDown (copy_of k pair).processor (copy_of (other_of k) pair).processor)
    × HasTakenOver pair.base (copy_of k pair) after

pub only-taken-over : {site : Site} {w : World} {number : ℕ} {pair : Pair} {sent : List ImageMessage} {k : Which}
    {cause : Cause} {after : Copy}
    → Becomes site w number pair sent k cause after → (copy_of k pair).role ≡ Watching → after.role ≡ Acting
    → TakesOver pair k cause after
only-taken-over becoming.stays was now = absurd (cc)
only-taken-over (becoming.acts r c a e fr) was now = absurd (cc)
only-taken-over (becoming.sends r p i) was now = absurd (cc)
only-taken-over (becoming.passes r) was now = absurd (cc)
only-taken-over (becoming.ends r) was now = absurd (cc)
only-taken-over (becoming.applies message r i e n a) was now = absurd (cc)
only-taken-over (becoming.is_told taken r s i e n) was now = absurd (cc)
only-taken-over becoming.is_freed was now = absurd (cc)
only-taken-over becoming.needs_less was now = absurd (cc)
only-taken-over (becoming.hears request r) was now = absurd (cc)
only-taken-over (becoming.hears_early request r) was now = absurd (cc)
only-taken-over {pair = pair} {k = k} (becoming.stops processor) was now =
    let acts = was-role ((copy_of k pair).processor == processor) (copy_of k pair).role Acting (λ e. cc) now in
    absurd (cc)
only-taken-over (becoming.takes_over node processor t) was now =
    (rw (t.there, t.lost) refl, record { era = refl; number = refl; position = refl; held = refl; core = refl })
only-taken-over (becoming.is_blank processor here e) was now = absurd (cc)
only-taken-over (becoming.renews processor there) was now = absurd (cc)

-- Replies

same-reply : {node at : ℕ} {came reply : Reply} → Handing node (Replying came) ≡ Handing at (Replying reply)
    → (node ≡ at) × (came ≡ reply)
same-reply e = (cc, cc)

-- a copy gets a reply that it awaits
abbrev pub GetsAwaited : Site → ℕ → ℕ → Reply → Copy → Copy → Type 0
GetsAwaited site number node reply before after =
    (before.processor ≡ node) × Awaits site number before reply
    × (after.core.state ≡ process.after_got before.core.state reply.words)

got-by : {site : Site} {number at : ℕ} {next : Core} {before after : Around} {cause : Cause} {deed : Deed} {done : Act}
    {messages : List Message} {reply : Reply}
    (copy : Copy) → copy.role ≡ Acting → cause ≡ Handing at (Replying reply)
    → Causes site number copy.processor copy.core before cause deed done messages after
    → Advances (openers_of site number) copy.core deed next
    → (copy.processor ≡ at) × Awaits site number copy reply
    × (next.state ≡ process.after_got copy.core.state reply.words)
got-by copy r e by_inner a = absurd (cc)
got-by copy r e (by_take c) a = absurd (cc)
got-by copy r e by_ask a = absurd (cc)
got-by copy r e (by_answer s) a = absurd (cc)
got-by copy r e (by_device n) a = absurd (cc)
got-by copy r e (by_write n) a = absurd (cc)
got-by copy r e (by_reply i o n u) (gets p f) =
    let is = same-reply e in (
      is.0,
      record { acting = r; stands = p; file = rw (sym f, sym is.1) o; last = rw (sym f, sym is.1) (sym n) },
      ap (process.after_got copy.core.state) (u ∙ ap (λ (r : Reply). r.words) is.1),
    )

pub only-got : {site : Site} {w : World} {number node : ℕ} {pair : Pair} {sent : List ImageMessage} {k : Which}
    {cause : Cause} {after : Copy} {reply : Reply}
    → Becomes site w number pair sent k cause after → cause ≡ Handing node (Replying reply)
    → (after.core ≡ (copy_of k pair).core) ⊎ GetsAwaited site number node reply (copy_of k pair) after
only-got becoming.stays e = inl refl
only-got {pair = pair} {k = k} (becoming.acts r c a enters fr) e = inr (got-by (copy_of k pair) r e c a)
only-got (becoming.sends r p i) e = absurd (cc)
only-got (becoming.passes r) e = absurd (cc)
only-got (becoming.ends r) e = absurd (cc)
only-got (becoming.applies message r i era n a) e = absurd (cc)
only-got (becoming.is_told taken r s i era n) e = absurd (cc)
only-got becoming.is_freed e = inl refl
only-got becoming.needs_less e = inl refl
only-got (becoming.hears request r) e = absurd (cc)
only-got (becoming.hears_early request r) e = absurd (cc)
only-got (becoming.stops processor) e = absurd (cc)
only-got (becoming.takes_over m processor t) e = absurd (cc)
only-got (becoming.is_blank processor here next) e = absurd (cc)
only-got (becoming.renews processor there) e = absurd (cc)

-- Printing

-- a terminal prints a reply that it awaits, and awaits it no more
abbrev pub PrintsAwaited : Site → World → World → Cause → ℕ → ℕ → List ℤ → Type 0
PrintsAwaited site w next cause terminal number words =
    (reply : Reply) × (cause ≡ Handing terminal_node (Replying reply)) × (number ≡ reply.number)
    × (words ≡ reply.words) × AwaitsAt site w terminal reply
    × (AwaitsAt site next terminal reply → ⊥)

nothing-more : (said more : List Shown) (new : Shown) → said ≡ more ++ said → IsAmong new more → ⊥
nothing-more said more new e i =
    let none : [] ≡ more = append_cancel_right [] more said e in subst (λ l. IsAmong new l) (sym none) i

one-more : (said more : List Shown) (new one : Shown) → one ∷ said ≡ more ++ said → IsAmong new more → new ≡ one
one-more said more new one e i =
    of (let is : one ∷ [] ≡ more = append_cancel_right (one ∷ []) more said e in subst (λ l. IsAmong new l) (sym is) i)
  where
    of : IsAmong new (one ∷ []) → new ≡ one
    of (inl same) = same
    of (inr none) = absurd none

same-said : {one other n m : ℕ} {words more : List ℤ} → shown.Reply one n words ≡ shown.Reply other m more
    → (one ≡ other) × (n ≡ m) × (words ≡ more)
same-said e = (cc, cc, cc)

printed-once : (before after : Terminal) → after ≡ record { entered = before.entered; printed = before.printed + 1 }
    → before.entered ≡ before.printed + 1
    → after.entered ≡ after.printed + 1 → ⊥
printed-once before after is was now =
    let entered = ap (λ (t : Terminal). t.entered) is in
    let printed = ap (λ (t : Terminal). t.printed) is in
    omega (arith, entered, printed, was, now)

own-prints-none : {site : Site} {number node : ℕ} {core : Core} {before after : Around} {cause : Cause} {deed : Deed}
    {done : Act} {messages : List Message}
    (more : List Shown) (terminal n : ℕ) (words : List ℤ)
    → Causes site number node core before cause deed done messages after → after.shown ≡ more ++ before.shown
    → IsAmong (shown.Reply terminal n words) more → ⊥
own-prints-none {before = b} more terminal n words by_inner e i = nothing-more b.shown more _ e i
own-prints-none {before = b} more terminal n words (by_take c) e i = nothing-more b.shown more _ e i
own-prints-none {before = b} more terminal n words by_ask e i = nothing-more b.shown more _ e i
own-prints-none {before = b} more terminal n words (by_answer s) e i = nothing-more b.shown more _ e i
own-prints-none {before = b} more terminal n words (by_device new) e i = nothing-more b.shown more _ e i
own-prints-none {before = b} more terminal n words (by_write new) e i = let same = one-more b.shown more _ _ e i in cc
own-prints-none {before = b} more terminal n words (by_reply j o m u) e i = nothing-more b.shown more _ e i

pub only-printed : {site : Site} (w next : World) (cause : Cause) (sendings : List Sending) (more : List Shown)
    (terminal n : ℕ) (words : List ℤ)
    → Change site w cause sendings next → next.shown ≡ more ++ w.shown → IsAmong (shown.Reply terminal n words) more
    → PrintsAwaited site w next cause terminal n words
only-printed w next cause sendings more terminal n words (by_own number k pair there r c a enters fr) e i =
    absurd (own-prints-none more terminal n words c e i)
only-printed w next cause sendings more terminal n words (by_checkpoint number pair there p) e i =
    absurd (nothing-more w.shown more _ e i)
only-printed w next cause sendings more terminal n words (by_request request k pair j there r) e i =
    absurd (nothing-more w.shown more _ e i)
only-printed w next cause sendings more terminal n words (by_early_request request k pair j there r) e i =
    absurd (nothing-more w.shown more _ e i)
only-printed w next cause sendings more terminal n words (by_enter number t opener there f q o) e i =
    absurd (nothing-more w.shown more _ e i)
only-printed w next cause sendings more terminal n words (by_print number t reply there f j o m) e i =
    let is = same-said (one-more w.shown more _ _ e i) in (
      reply,
      refl,
      is.1,
      is.2,
      rw is.0 (record { terminal = t; there = there; opens = o; last = m; unprinted = f }),
      λ again. printed-once t again.terminal (some-same
          (sym again.there ∙ ap (slice_get _) is.0 ∙ set-there w.terminals number t _ there)) f again.unprinted,
    )
only-printed w next cause sendings more terminal n words (by_stop x s h) e i = absurd (nothing-more w.shown more _ e i)
only-printed w next cause sendings more terminal n words (by_mark node x s q m) e i =
    absurd (nothing-more w.shown more _ e i)
only-printed w next cause sendings more terminal n words (by_reload x s m t l) e i =
    absurd (nothing-more w.shown more _ e i)

-- Requests

-- what is sent again is a reply that is kept
abbrev pub SendsKept : World → ℕ → Request → Sending → Type 0
SendsKept w node request sending =
    (words : List ℤ) × KeepsReplyTo w node request words
    × (sending ≡ record { node = node; message = Replying (reply_to request words) })

repeats-kept : (w : World) (node : ℕ) (request : Request) (k : Which) (pair : Pair)
    → slice_get w.processes request.process ≡ Some pair → (copy_of k pair).role ≡ Acting
    → (copy_of k pair).processor ≡ node → (sending : Sending)
    → IsAmong sending (sent_at (copy_of k pair).processor
    (map Replying (reply_sent_again (copy_of k pair).core.receive request))) → SendsKept w node request sending
repeats-kept w node request k pair there acting here sending i =
    by-standing (request_standing (copy_of k pair).core.receive request) refl i
  where
    by-standing : (s : RequestStanding) → request_standing (copy_of k pair).core.receive request ≡ s
        → IsAmong sending (sent_at (copy_of k pair).processor (map Replying (repeated_by request s)))
        → SendsKept w node request sending
    by-standing (Kept words) e (inl same) = (
      words,
      record { pair = pair; k = k; there = there; here = here; acting = acting; kept = e },
      same
          ∙ ap (λ n. record { node = n; message = Replying (reply_to request words) }) here,
    )
    by-standing (Kept words) e (inr none) = absurd none
    by-standing Next e none = absurd none
    by-standing InHand e none = absurd none
    by-standing Old e none = absurd none
    by-standing Ahead e none = absurd none

same-request : {node at : ℕ} {came request : Request} → Handing node (Asking came) ≡ Handing at (Asking request)
    → (node ≡ at) × (came ≡ request)
same-request e = (cc, cc)

not-asking : {site : Site} {number node at : ℕ} {core : Core} {before after : Around} {cause : Cause} {deed : Deed}
    {done : Act} {messages : List Message} {request : Request}
    → Causes site number node core before cause deed done messages after → cause ≡ Handing at (Asking request) → ⊥
not-asking by_inner e = cc
not-asking (by_take c) e = cc
not-asking by_ask e = cc
not-asking (by_answer s) e = cc
not-asking (by_device n) e = cc
not-asking (by_write n) e = cc
not-asking (by_reply i o n u) e = cc

passes-no-request : {number at : ℕ} {downs : List Down} {kept after : List Act} {pair next : Pair} {cause : Cause}
    {sendings : List Sending} {request : Request}
    → Passes number downs kept pair cause sendings next after → cause ≡ Handing at (Asking request) → ⊥
passes-no-request (by_send k r p s m) e = cc
passes-no-request (by_pass_again k r p m l) e = cc
passes-no-request (by_pass k r p m l) e = cc
passes-no-request (by_end k r s p m) e = cc
passes-no-request (by_apply_behind k message applied r i era n a l) e = cc
passes-no-request (by_apply k message applied r i era n a l) e = cc
passes-no-request (by_acknowledge k taken r s i era n) e = cc

pub only-kept : {site : Site} (w next : World) (node : ℕ) (request : Request) (cause : Cause) (sendings : List Sending)
    (sending : Sending)
    → cause ≡ Handing node (Asking request) → Change site w cause sendings next → IsAmong sending sendings
    → SendsKept w node request sending
only-kept w next node request cause sendings sending e (by_own number k pair there r c a enters fr) i =
    absurd (not-asking c e)
only-kept w next node request cause sendings sending e (by_checkpoint number pair there p) i =
    absurd (passes-no-request p e)
only-kept w next node request cause sendings sending e (by_request came k pair j there r) i =
    let is = same-request e in
    subst (λ one. SendsKept w node one sending) is.1 (repeats-kept w node came k pair there r is.0 sending i)
only-kept w next node request cause sendings sending e (by_early_request came k pair j there r) i = absurd i
only-kept w next node request cause sendings sending e (by_enter number terminal opener t f q o) i = absurd (cc)
only-kept w next node request cause sendings sending e (by_print number terminal reply t f j o n) i = absurd i
only-kept w next node request cause sendings sending e (by_stop x s h) i = absurd i
only-kept w next node request cause sendings sending e (by_mark m x s q n) i = absurd (cc)
only-kept w next node request cause sendings sending e (by_reload x s m t l) i = absurd i
