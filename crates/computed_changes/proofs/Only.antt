-- Nothing else than what is computed is permitted where a message is handed over, if the copies of each process are in
-- two processors, what they send each other names it, and a checkpoint fits.
use Rattle.std.proofs.Common.{◌≡◌, ℕ, ◌+◌, true, false, nat_lt, List, [], ◌∷◌, Option, Some, slice_get, refl, sym, ap}
use Rattle.std.proofs.Common.{subst, ◌∙◌}
use Rattle.std.proofs.lemmas.Bool.{eq-eqb, le-ltb, lt-ltb}
use Rattle.tal_tree.specs.gd_words.specs.declared.message.Request.{Request}
use Rattle.tal_tree.specs.gd_words.specs.declared.message.Reply.{Reply}
use Rattle.tal_tree.specs.declared.act.Act.{Act}
use Rattle.tal_tree.specs.declared.site.Site.{Site}
use Rattle.tal_tree.specs.declared.site.Who.TheVariants as who
use Rattle.world_semantics.specs.process_semantics.specs.declared.point.Point.TheVariants as point
use Rattle.world_semantics.specs.process_semantics.specs.Process as process
use Rattle.world_semantics.specs.plain_semantics.specs.Openers.{openers_of, opener_of}
use Rattle.world_semantics.specs.checkpoint_image.specs.declared.message.ImageMessage.{ImageMessage}
use Rattle.world_semantics.specs.checkpoint_image.specs.declared.message.TakenMessage.{TakenMessage}
use Rattle.world_semantics.specs.declared.role.Role.TheVariants.{Acting, Watching, Blank, Gone}
use Rattle.world_semantics.specs.Core.{Core, Deed, next_on, put_in, Advances, gets}
use Rattle.world_semantics.specs.Kept.{Enters, own_acts}
use Rattle.world_semantics.specs.declared.role.Role.{Role}
use Rattle.world_semantics.specs.declared.which.Which.{Which}
use Rattle.world_semantics.specs.World.{Copy, Pair, Terminal, World, terminal_node, copy_of, other_of, with_copy}
use Rattle.world_semantics.specs.World.{with_pair, receives}
use Rattle.world_semantics.specs.Messages.{Message, Asking, Replying, Checkpointing, Taking, Sending, sent_at, Cause}
use Rattle.world_semantics.specs.Messages.{Handing}
use Rattle.world_semantics.specs.Own.{Around, around, Causes, by_inner, by_take, by_ask, by_answer, by_device, by_write}
use Rattle.world_semantics.specs.Own.{by_reply}
use Rattle.world_semantics.specs.Passes.{Passes, by_send, by_pass_again, by_pass, by_end, by_apply_behind, by_apply}
use Rattle.world_semantics.specs.Passes.{by_acknowledge, taken_of, after_applying, after_applying_behind, after_told}
use Rattle.world_semantics.specs.Passes.{kept_at}
use Rattle.world_semantics.specs.Records.{records_of}
use Rattle.world_semantics.specs.Rules.{Change, by_own, by_checkpoint, by_request, by_early_request, by_enter, by_print}
use Rattle.world_semantics.specs.Rules.{by_stop, by_mark, by_reload, after_own}
use Rattle.world_semantics.specs.Running.{Done, in_world}
use Rattle.world_semantics.proofs.Running.{enters-only}
use Rattle.computed_changes.specs.Fitting.{depths_of, fits}
use Rattle.computed_changes.specs.Checkpoints.{is_next_for, is_of_last}
use Rattle.computed_changes.specs.Handed.{handed_done, replied_done}
use Rattle.computed_changes.specs.Replies.{awaits, awaits_at, printed_where}
use Rattle.computed_changes.specs.Requests.{early_step}
use Rattle.computed_changes.specs.Laws.{FitsWhereItComes}
use Rattle.computed_changes.proofs.Homes.{AreApart, at-found}
use Rattle.computed_changes.proofs.Lifted.{acknowledged_where, applied_as, applied_done, applied_where, asked_done}
use Rattle.computed_changes.proofs.Lifted.{checkpoint_done, got_done, got_made, got_where, taken_done}
use Rattle.computed_changes.proofs.Placed.{opener-placed}
use Rattle.computed_changes.proofs.Reached.{AllApart, AreNamed, AllNamed}

-- this change is the computed one
abbrev IsHanded : Site → ℕ → Message → World → List Sending → World → Type 0
IsHanded site node message w sendings next =
    handed_done site node message w ≡ Some (record { world = next; sendings = sendings })

same-handing : {node one : ℕ} {message other : Message} → Handing node message ≡ Handing one other
    → (node ≡ one) × (message ≡ other)
same-handing e = (cc, cc)

-- what is computed for a message at a node is computed for the same one
handed-as : (site : Site) (w : World) {node one : ℕ} {message other : Message} {done : Option Done}
    → Handing node message ≡ Handing one other
    → handed_done site node message w ≡ done → handed_done site one other w ≡ done
handed-as site w {node = node} {other = other} {done = done} r e =
    let same = same-handing r in
    subst (λ n. handed_done site n other w ≡ done) same.0 (subst (λ m. handed_done site node m w ≡ done) same.1 e)

fits-as : (site : Site) (w : World) {node one : ℕ} {message other : Message} → Handing node message ≡ Handing one other
    → FitsWhereItComes site w one other → FitsWhereItComes site w node message
fits-as site w {node = node} {other = other} r fitting =
    let same = same-handing r in
    subst (FitsWhereItComes site w node) (sym same.1)
    (subst (λ n. FitsWhereItComes site w n other) (sym same.0) fitting)

-- Replies

awaited : (site : Site) (number : ℕ) (core : Core) (reply : Reply) → process.point core.state ≡ point.Await
    → opener_of site (who.File number (process.asked_file core.state))
    ≡ Some (record { server = reply.process; place = reply.opener })
    → reply.number + 1 ≡ next_on core (process.asked_file core.state)
    → awaits site number core reply (process.point core.state) ≡ true
awaited site number core reply stands opens last =
    rw (stands, opens, eq-eqb reply.process reply.process refl, eq-eqb reply.opener reply.opener refl, eq-eqb _ _ last)
    refl

got-only : (site : Site) (number : ℕ) (reply : Reply) (k : Which) (pair : Pair) (w : World)
    → slice_get w.processes number ≡ Some pair → AreApart pair
    → (copy_of k pair).role ≡ Acting → process.point (copy_of k pair).core.state ≡ point.Await
    → opener_of site (who.File number (process.asked_file (copy_of k pair).core.state))
    ≡ Some (record { server = reply.process; place = reply.opener })
    → reply.number + 1 ≡ next_on (copy_of k pair).core (process.asked_file (copy_of k pair).core.state)
    → handed_done site (copy_of k pair).processor (Replying reply) w ≡ Some (got_made number reply k pair w)
got-only site number reply k pair w found apart role stands opens last =
    ap (replied_done site (copy_of k pair).processor reply w)
    (opener-placed site (who.File number (process.asked_file (copy_of k pair).core.state)) reply.process
    reply.opener opens)
    ∙ at-found site number (copy_of k pair).processor (Replying reply) w (slice_get w.processes number) pair k found
    apart refl
    ∙ ap (got_done site number reply k pair w) role
    ∙ ap (got_where number reply k pair w) (awaited site number (copy_of k pair).core reply stands opens last)

own-only : {site : Site} {number node : ℕ} {message : Message} {cause : Cause} {deed : Deed} {done : Act}
    {messages : List Message} {after : Around} {core : Core}
    {entered : Copy} {kept : List Act} (k : Which) (pair : Pair) (w : World) → slice_get w.processes number ≡ Some pair
    → AreApart pair
    → (copy_of k pair).role ≡ Acting → cause ≡ Handing node message
    → Causes site number (copy_of k pair).processor (copy_of k pair).core (around (copy_of k pair) pair w) cause deed
    done messages after
    → Advances (openers_of site number) (copy_of k pair).core deed core
    → Enters number done w.kept (copy_of k pair) entered kept
    → IsHanded site node message w (sent_at (copy_of k pair).processor messages)
    (after_own number k pair core entered after kept w)
own-only k pair w found apart role r by_inner a e = absurd (cc)
own-only k pair w found apart role r (by_take c) a e = absurd (cc)
own-only k pair w found apart role r by_ask a e = absurd (cc)
own-only k pair w found apart role r (by_answer s) a e = absurd (cc)
own-only k pair w found apart role r (by_device n) a e = absurd (cc)
own-only k pair w found apart role r (by_write n) a e = absurd (cc)
own-only {site = site} {number = number} k pair w found apart role r (by_reply {reply = reply} i opens last words)
    (gets stands file) e =
    let same = enters-only e in
    handed-as site w r
    (rw (sym same.0, sym same.1, words)
    (got-only site number reply k pair w found apart role stands
    (subst (λ f. opener_of site (who.File number f) ≡ Some (record { server = reply.process; place = reply.opener }))
    file opens)
    (subst (λ f. reply.number + 1 ≡ next_on (copy_of k pair).core f) file last)))

printed-only : (site : Site) (number : ℕ) (reply : Reply) (terminal : Terminal) (w : World)
    → slice_get w.terminals number ≡ Some terminal
    → terminal.entered ≡ terminal.printed + 1
    → opener_of site (who.Terminal number) ≡ Some (record { server = reply.process; place = reply.opener })
    → reply.number ≡ terminal.entered
    → handed_done site terminal_node (Replying reply) w ≡ printed_where number reply terminal w true
printed-only site number reply terminal w found entered opens last =
    let is : awaits_at site number terminal reply ≡ true =
    rw (
      opens,
      eq-eqb reply.process reply.process refl,
      eq-eqb reply.opener reply.opener refl,
      eq-eqb _ _ entered,
      eq-eqb _ _ last,
    ) refl in
    ap (replied_done site terminal_node reply w)
    (opener-placed site (who.Terminal number) reply.process reply.opener opens)
    ∙ rw found (ap (printed_where number reply terminal w) is)

-- Checkpoints

-- to a copy that gets checkpoints one does the same whether it watches or is blank
receives-done : (site : Site) (message : ImageMessage) (k : Which) (pair : Pair) (w : World) (role : Role)
    → receives role ≡ true
    → checkpoint_done site message k pair w role
    ≡ applied_where site message k pair w (is_next_for (copy_of k pair).era (copy_of k pair).number message)
receives-done site message k pair w Watching e = refl
receives-done site message k pair w Blank e = refl
receives-done site message k pair w Acting e = absurd (cc)
receives-done site message k pair w Gone e = absurd (cc)

early-done : (request : Request) (k : Which) (pair : Pair) (w : World) (role : Role) → receives role ≡ true
    → asked_done request k pair w role
    ≡ Some (in_world request.process w (early_step k pair (records_of w) request))
early-done request k pair w Watching e = refl
early-done request k pair w Blank e = refl
early-done request k pair w Acting e = absurd (cc)
early-done request k pair w Gone e = absurd (cc)

apply-only : (site : Site) (message : ImageMessage) (k : Which) (pair : Pair) (w : World) (applied : Core)
    → slice_get w.processes message.process ≡ Some pair
    → AreApart pair → receives (copy_of k pair).role ≡ true → message.era ≡ (copy_of k pair).era
    → message.number ≡ (copy_of k pair).number + 1
    → put_in (copy_of k pair).core message.image ≡ Some applied
    → fits (depths_of site message.process) (copy_of k pair).core message.image ≡ true
    → handed_done site (copy_of k pair).processor (Checkpointing message) w
    ≡ Some (applied_done message k pair w applied)
apply-only site message k pair w applied found apart role era number is fitting =
    let next : is_next_for (copy_of k pair).era (copy_of k pair).number message ≡ true =
    rw (eq-eqb _ _ era, eq-eqb _ _ number) refl in
    at-found site message.process (copy_of k pair).processor (Checkpointing message) w
    (slice_get w.processes message.process) pair k found apart refl
    ∙ receives-done site message k pair w (copy_of k pair).role role ∙ ap (applied_where site message k pair w) next
    ∙ rw (fitting, is) refl

taken-only : (site : Site) (taken : TakenMessage) (k : Which) (pair : Pair) (w : World)
    → slice_get w.processes taken.process ≡ Some pair → AreApart pair
    → (copy_of k pair).role ≡ Acting → (copy_of k pair).sent ≡ true → taken.era ≡ (copy_of k pair).era
    → taken.number ≡ (copy_of k pair).number
    → handed_done site (copy_of k pair).processor (Taking taken) w ≡ acknowledged_where taken k pair w true
taken-only site taken k pair w found apart role sent era number =
    let last : is_of_last (copy_of k pair).sent (copy_of k pair).era (copy_of k pair).number taken ≡ true =
    rw (sent, eq-eqb _ _ era, eq-eqb _ _ number) refl in
    at-found site taken.process (copy_of k pair).processor (Taking taken) w (slice_get w.processes taken.process) pair
    k found apart refl
    ∙ ap (taken_done taken k pair w) role ∙ ap (acknowledged_where taken k pair w) last

passes-only : (site : Site) (w : World) {number node : ℕ} {message : Message} {kept : List Act} {pair next : Pair}
    {cause : Cause} {sendings : List Sending}
    → slice_get w.processes number ≡ Some pair → AreApart pair → AreNamed number pair.checkpoints pair.takens
    → cause ≡ Handing node message → FitsWhereItComes site w node message
    → Passes number w.downs w.kept pair cause sendings next kept
    → IsHanded site node message w sendings (record (with_pair number next w) { kept = kept })
passes-only site w found apart named r fitting (by_send k role p s m) = absurd (cc)
passes-only site w found apart named r fitting (by_pass_again k role p m l) = absurd (cc)
passes-only site w found apart named r fitting (by_pass k role p m l) = absurd (cc)
passes-only site w found apart named r fitting (by_end k role s p m) = absurd (cc)
passes-only site w {pair = pair} found apart named r fitting
    (by_apply_behind k message applied role i era number is l) =
    let name = named.checkpoints message i in
    let here = subst (λ n. slice_get w.processes n ≡ Some pair) (sym name) found in
    let less : nat_lt (copy_of (other_of k) pair).position (own_acts message.process w.kept) ≡ true =
    subst (λ n. nat_lt (copy_of (other_of k) pair).position (own_acts n w.kept) ≡ true) (sym name) (lt-ltb _ _ l) in
    handed-as site w r
    (subst
    (λ n. IsHanded site (copy_of k pair).processor (Checkpointing message) w
    (sent_at (copy_of k pair).processor (Taking (taken_of message) ∷ []))
    (record (with_pair n (after_applying_behind n k message applied w.kept pair) w) { kept = w.kept })) name
    (apply-only site message k pair w applied here apart role era number is
    (fits-as site w r fitting pair k here refl)
    ∙ ap (λ b. Some (applied_as message k pair w applied b)) less))
passes-only site w {pair = pair} found apart named r fitting (by_apply k message applied role i era number is l) =
    let name = named.checkpoints message i in
    let here = subst (λ n. slice_get w.processes n ≡ Some pair) (sym name) found in
    let level : nat_lt (copy_of (other_of k) pair).position (own_acts message.process w.kept) ≡ false =
    subst (λ n. nat_lt (copy_of (other_of k) pair).position (own_acts n w.kept) ≡ false) (sym name) (le-ltb _ _ l) in
    handed-as site w r
    (subst
    (λ n. IsHanded site (copy_of k pair).processor (Checkpointing message) w
    (sent_at (copy_of k pair).processor (Taking (taken_of message) ∷ []))
    (record (with_pair n (after_applying n k message applied w.kept pair) w)
    { kept = kept_at n (copy_of (other_of k) pair) w.kept })) name
    (apply-only site message k pair w applied here apart role era number is
    (fits-as site w r fitting pair k here refl)
    ∙ ap (λ b. Some (applied_as message k pair w applied b)) level))
passes-only site w {pair = pair} found apart named r fitting (by_acknowledge k taken role sent i era number) =
    let name = named.takens taken i in
    let here = subst (λ n. slice_get w.processes n ≡ Some pair) (sym name) found in
    handed-as site w r
    (subst
    (λ n. IsHanded site (copy_of k pair).processor (Taking taken) w []
    (with_pair n (with_copy k (after_told (copy_of k pair)) pair) w)) name
    (taken-only site taken k pair w here apart role sent era number))

-- All changes

change-only : {site : Site} (w next : World) (node : ℕ) (message : Message) (cause : Cause) (sendings : List Sending)
    → cause ≡ Handing node message
    → AllApart w → AllNamed w → FitsWhereItComes site w node message → Change site w cause sendings next
    → IsHanded site node message w sendings next
change-only w next node message cause sendings r apart named fitting (by_own number k pair found role c a e fr) =
    own-only k pair w found (apart number pair found) role r c a e
change-only {site = site} w next node message cause sendings r apart named fitting (by_checkpoint number pair found p) =
    passes-only site w found (apart number pair found) (named number pair found) r fitting p
change-only {site = site} w next node message cause sendings r apart named fitting
    (by_request request k pair i found role) =
    handed-as site w r
    (at-found site request.process (copy_of k pair).processor (Asking request) w
    (slice_get w.processes request.process) pair k found
    (apart request.process pair found) refl ∙ ap (asked_done request k pair w) role)
change-only {site = site} w next node message cause sendings r apart named fitting
    (by_early_request request k pair i found role) =
    handed-as site w r
    (at-found site request.process (copy_of k pair).processor (Asking request) w
    (slice_get w.processes request.process) pair k found
    (apart request.process pair found) refl ∙ early-done request k pair w (copy_of k pair).role role)
change-only w next node message cause sendings r apart named fitting (by_enter number terminal opener t f q o) =
    absurd (cc)
change-only {site = site} w next node message cause sendings r apart named fitting
    (by_print number terminal reply found awaits i opens last) =
    handed-as site w r (printed-only site number reply terminal w found awaits opens last)
change-only w next node message cause sendings r apart named fitting (by_stop x s h) = absurd (cc)
change-only w next node message cause sendings r apart named fitting (by_mark m x s q n) = absurd (cc)
change-only w next node message cause sendings r apart named fitting (by_reload x s m t l) = absurd (cc)

pub handed-only : {site : Site} (w next : World) (node : ℕ) (message : Message) (sendings : List Sending) → AllApart w
    → AllNamed w
    → FitsWhereItComes site w node message → Change site w (Handing node message) sendings next
    → handed_done site node message w ≡ Some (record { world = next; sendings = sendings })
handed-only w next node message sendings apart named fitting c =
    change-only w next node message _ sendings refl apart named fitting c
