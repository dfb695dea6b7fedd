-- A request that waits does so still after a run, or is in hand.
use Rattle.std.proofs.Common.{◌≡◌, ◌⊎◌, inl, inr, ℕ, ◌+◌, ◌==◌, Bool, true, false, if◌then◌else◌, List, [], ◌∷◌}
use Rattle.std.proofs.Common.{Option, Some, None, slice_get, slice_set, refl, ap, subst, sym, ◌∙◌}
use Rattle.std.proofs.lemmas.Bool.{eq-eqb, eqb-true}
use Rattle.gd_words.specs.Members.{IsAmong}
use Rattle.gd_words.specs.declared.message.Request.{Request}
use Rattle.tal_tree.specs.declared.act.Act.{Act}
use Rattle.tal_tree.specs.declared.site.Site.{Site}
use Rattle.schedule.specs.declared.event.Event.{Event}
use Rattle.checkpoint_image.specs.declared.message.ImageMessage.{ImageMessage}
use Rattle.checkpoint_image.specs.declared.receive.OpenerBlock.{OpenerBlock}
use Rattle.checkpoint_image.specs.declared.receive.ReceiveBlock.{ReceiveBlock}
use Rattle.checkpoint_image.specs.Receive.{Chosen, choice_among, chosen_after, chosen_by, is_next, request_standing}
use Rattle.plain_semantics.specs.Openers.{openers_of}
use Rattle.world_semantics.specs.declared.role.Role.{Role}
use Rattle.world_semantics.specs.declared.role.Role.TheVariants.{Acting, Watching, Blank, Gone}
use Rattle.world_semantics.specs.declared.which.Which.{Which}
use Rattle.world_semantics.specs.declared.which.Which.TheVariants.{First, Second}
use Rattle.world_semantics.specs.Core.{Core, Deed, Advances, goes, takes, asks, gets, answers, acts, core_taken}
use Rattle.world_semantics.specs.Follows.{IsRun}
use Rattle.world_semantics.specs.Kept.{Enters, own_acts}
use Rattle.world_semantics.specs.Messages.{Message, Sending, Cause, Running}
use Rattle.world_semantics.specs.Own.{Around, around, Causes, by_inner, by_take, by_ask, by_answer, by_device, by_write}
use Rattle.world_semantics.specs.Own.{by_reply}
use Rattle.world_semantics.specs.Passes.{Passes, by_send, by_pass_again, by_pass, by_end, by_apply, by_apply_behind}
use Rattle.world_semantics.specs.Passes.{by_acknowledge}
use Rattle.world_semantics.specs.Passes.{after_sending, after_sent, checkpoint_of, copy_at_checkpoint}
use Rattle.world_semantics.specs.Passes.{kept_at_checkpoint}
use Rattle.world_semantics.specs.Rules.{Change, by_own, by_checkpoint, by_request, by_early_request, by_enter, by_print}
use Rattle.world_semantics.specs.Rules.{by_stop, by_mark, by_reload, after_own}
use Rattle.world_semantics.specs.World.{Copy, Pair, World, copy_of, other_of, with_copy}
use Rattle.world_semantics.proofs.Fair.{fair-of, run-fair}
use Rattle.world_semantics.proofs.Lists.{set-there, some-same}
use Rattle.served_requests.specs.letter_laws.specs.takeover_laws.proofs.Waiting.{chosen-is}
use Rattle.standing_links.specs.Needs.{name_of}
use Rattle.node_needs.specs.NodeNeeds.{if_there, in_hand_by, last_taken, needs_at}
use Rattle.link_laws.proofs.Copies.{IsSeatedAs, acts-there, entered-seat, own-held, own-waiting, there-as, waiting-put}
use Rattle.link_laws.proofs.Copies.{waiting-stays}
use Rattle.link_laws.proofs.Lists.{among-new, among-old, same-put}

-- Which request is taken

-- a request that waits is the one that is taken, or one of the rest
chosen-or-rest : (table : ReceiveBlock) (waiting : List Request) (found : Chosen) (request : Request)
    → choice_among table waiting ≡ Some found → IsAmong request waiting
    → (request ≡ found.request) ⊎ IsAmong request found.rest
chosen-or-rest table [] found request is among = absurd among
chosen-or-rest table (first ∷ rest) found request is among =
    by (λ later there deeper. chosen-or-rest table rest later request there deeper)
    (is_next (request_standing table first))
    (choice_among table rest) refl is
  where
    up : ((later : Chosen) → choice_among table rest ≡ Some later → IsAmong request rest
        → (request ≡ later.request) ⊎ IsAmong request later.rest)
        → (later : Chosen) → choice_among table rest ≡ Some later
        → (request ≡ first) ⊎ IsAmong request rest
        → (request ≡ (chosen_after first later).request) ⊎ IsAmong request (chosen_after first later).rest
    up deeper later there (inl same) = inr (inl same)
    up deeper later there (inr more) =
        elim (deeper later there more) [ inl taken ↦ inl taken | inr waits ↦ inr (inr waits) ]

    by : ((later : Chosen) → choice_among table rest ≡ Some later → IsAmong request rest
        → (request ≡ later.request) ⊎ IsAmong request later.rest)
        → (next : Bool) (later : Option Chosen) → choice_among table rest ≡ later
        → chosen_by next first rest later ≡ Some found
        → (request ≡ found.request) ⊎ IsAmong request found.rest
    by deeper true later there is =
        subst (λ (c : Chosen). (request ≡ c.request) ⊎ IsAmong request c.rest) (some-same is) among
    by deeper false None there is = absurd (cc)
    by deeper false (Some later) there is =
        subst (λ (c : Chosen). (request ≡ c.request) ⊎ IsAmong request c.rest) (some-same is)
        (up deeper later there among)

-- what waits at a copy that is on a node waits there
pub record IsThere (node : ℕ) (role : Role) (at : ℕ) (items : List Request) (request : Request) : Type 0 where
  pub here : at ≡ node
  pub among : IsAmong request items

pub there-is : (node : ℕ) (role : Role) (at : ℕ) (items : List Request) (request : Request)
    → IsAmong request (if_there node role at items) → IsThere node role at items request
there-is node role at items request = by role
  where
    where_it : (b : Bool) → (at == node) ≡ b → IsAmong request (if b then items else [])
        → IsThere node role at items request
    where_it true is among = record { here = eqb-true at node is; among = among }
    where_it false is among = absurd among

    by : (other : Role) → IsAmong request (if_there node other at items) → IsThere node role at items request
    by Acting among = where_it (at == node) refl among
    by Watching among = where_it (at == node) refl among
    by Blank among = where_it (at == node) refl among
    by Gone among = absurd among

-- so what waits at a copy that acts on a node waits there
acting-there : (node : ℕ) (role : Role) (at : ℕ) (items : List Request) (request : Request) → role ≡ Acting
    → at ≡ node → IsAmong request items → IsAmong request (if_there node role at items)
acting-there node role at items request acting here among =
    subst (IsAmong request)
    (sym (ap (λ (r : Role). if_there node r at items) acting
    ∙ ap (λ (b : Bool). if b then items else []) (eq-eqb at node here))) among

-- and others that wait there then
pub there-among : (node : ℕ) (role : Role) (at : ℕ) (items those : List Request) (request : Request)
    → IsAmong request (if_there node role at items) → IsAmong request those
    → IsAmong request (if_there node role at those)
there-among node role at items those request among now = by role among
  where
    where_it : (b : Bool) → IsAmong request (if b then items else []) → IsAmong request (if b then those else [])
    where_it true among = now
    where_it false among = absurd among

    by : (role : Role) → IsAmong request (if_there node role at items) → IsAmong request (if_there node role at those)
    by Acting among = where_it (at == node) among
    by Watching among = where_it (at == node) among
    by Blank among = where_it (at == node) among
    by Gone among = absurd among

-- Changes

module _ (site : Site) (events : List Event) (w : World) (run : IsRun site events w) (node : ℕ) (request : Request)
  where
    abbrev Waits : World → Type 0
    Waits world = IsAmong request (needs_at site world node).waiting

    abbrev IsKept : World → Type 0
    IsKept next = Waits next ⊎ IsAmong (name_of request) (needs_at site next node).in_hand

    stays : (next : World) → (needs_at site next node).waiting ≡ (needs_at site w node).waiting → Waits w → IsKept next
    stays next same waits = inl (subst (IsAmong request) (sym same) waits)

    -- a copy does an act that takes no request
    stays-own : (number : ℕ) (k : Which) (pair : Pair) → slice_get w.processes number ≡ Some pair
        → (core : Core) (entered : Copy) (kept : List Act) (after : Around) → IsSeatedAs (copy_of k pair) entered
        → after.waiting ≡ (copy_of k pair).waiting → Waits w
        → IsKept (after_own number k pair core entered after kept w)
    stays-own number k pair there core entered kept after seat same waits =
        stays (after_own number k pair core entered after kept w)
        (waiting-stays site w number k pair there core entered after kept node seat same) waits

    -- a copy takes the first request that stands next
    take-kept : (number : ℕ) (k : Which) (pair : Pair) → slice_get w.processes number ≡ Some pair
        → (copy_of k pair).role ≡ Acting → (found : Chosen) (block : OpenerBlock)
        → choice_among (copy_of k pair).core.receive (copy_of k pair).waiting ≡ Some found
        → slice_get (copy_of k pair).core.receive.openers found.request.opener ≡ Some block
        → (entered : Copy) (kept : List Act) (after : Around) → IsSeatedAs (copy_of k pair) entered
        → after.waiting ≡ found.rest → Waits w
        → IsKept (after_own number k pair (core_taken found.request.opener found.request.words block
        (copy_of k pair).core) entered after kept w)
    take-kept number k pair there role found block is stood entered kept after seat left waits =
        elim (among-old request (own-waiting site w number k pair there now entered after kept node) waits) [
          | inr later ↦ inl later
          | inl here ↦ (let at = there-is node (copy_of k pair).role (copy_of k pair).processor (copy_of k pair).waiting
              request here in
              elim (chosen-or-rest before.receive (copy_of k pair).waiting found request is at.among) [
                | inr rest ↦ inl (among-new request (own-waiting site w number k pair there now entered after kept node)
                    (acting-there node entered.role entered.processor after.waiting request (seat.role ∙ role)
                    (seat.processor ∙ at.here) (subst (IsAmong request) (sym left) rest)))
                | inl taken ↦ inr (among-new (name_of request)
                    (own-held site w number k pair there now entered after kept node)
                    (subst (IsAmong (name_of request))
                    (sym (acts-there node entered.role entered.processor
                    (in_hand_by number now.receive now.receive.in_hand) (name_of request ∷ []) (seat.role ∙ role)
                    (seat.processor ∙ at.here) (named taken at.among))) (inl refl)))
              ])
        ]
      where
        before : Core
        before = (copy_of k pair).core

        now : Core
        now = core_taken found.request.opener found.request.words block before

        -- it has the request in hand
        named : request ≡ found.request → IsAmong request (copy_of k pair).waiting
            → in_hand_by number now.receive now.receive.in_hand ≡ name_of request ∷ []
        named taken among =
            let next = chosen-is before.receive (copy_of k pair).waiting found is in
            let fair = fair-of number w.replies k pair (run-fair run number pair there) in
            let its : request.process ≡ number = fair.waiting request among in
            let one : next.block ≡ block = some-same (sym next.there ∙ stood) in
            let last : block.taken + 1 ≡ request.number =
            sym (ap (λ (r : Request). r.number) taken ∙ next.next ∙ ap (λ (b : OpenerBlock). b.taken + 1) one) in
            let place : found.request.opener ≡ request.opener = ap (λ (r : Request). r.opener) (sym taken) in
            ap (last_taken number found.request.opener)
            (set-there before.receive.openers found.request.opener block (record block { taken = block.taken + 1 })
            stood)
            ∙ ap (λ (n : ℕ). record { process = number; opener = found.request.opener; number = n } ∷ []) last
            ∙ ap (λ (p : ℕ). record { process = number; opener = p; number = request.number } ∷ []) place
            ∙ ap (λ (p : ℕ). record { process = p; opener = request.opener; number = request.number } ∷ []) (sym its)

    own-kept : (number : ℕ) (k : Which) (pair : Pair) → slice_get w.processes number ≡ Some pair
        → (copy_of k pair).role ≡ Acting → {cause : Cause} {deed : Deed} {done : Act} {messages : List Message}
        {after : Around}
        → Causes site number (copy_of k pair).processor (copy_of k pair).core (around (copy_of k pair) pair w) cause
        deed done messages after
        → {core : Core} {entered : Copy} {kept : List Act}
        → Advances (openers_of site number) (copy_of k pair).core deed core
        → Enters number done w.kept (copy_of k pair) entered kept → Waits w
        → IsKept (after_own number k pair core entered after kept w)
    own-kept number k pair there role {after = after} by_inner {core = core} {entered = entered} {kept = kept}
        (goes at) enters waits =
        stays-own number k pair there core entered kept after (entered-seat enters) refl waits
    own-kept number k pair there role {after = after} (by_take {found = found} is) {entered = entered} {kept = kept}
        (takes block at stood) enters waits =
        take-kept number k pair there role found block is stood entered kept after (entered-seat enters) refl waits
    own-kept number k pair there role {after = after} by_ask {core = core} {entered = entered} {kept = kept}
        (asks at named said) enters waits =
        stays-own number k pair there core entered kept after (entered-seat enters) refl waits
    own-kept number k pair there role {after = after} (by_answer known) {core = core} {entered = entered} {kept = kept}
        (answers opener block at hand opens stood said) enters waits =
        stays-own number k pair there core entered kept after (entered-seat enters) refl waits
    own-kept number k pair there role {after = after} (by_device old) {core = core} {entered = entered} {kept = kept}
        (acts at call) enters waits =
        stays-own number k pair there core entered kept after (entered-seat enters) refl waits
    own-kept number k pair there role {after = after} (by_write new) {core = core} {entered = entered} {kept = kept}
        (acts at call) enters waits =
        stays-own number k pair there core entered kept after (entered-seat enters) refl waits
    own-kept number k pair there role {after = after} (by_reply among opens same said) {core = core}
        {entered = entered} {kept = kept} (gets at named) enters waits =
        stays-own number k pair there core entered kept after (entered-seat enters) refl waits

    -- a process with one copy changed, at which the same requests wait
    one-kept : (number : ℕ) (k : Which) (pair rest : Pair) (copy : Copy) (kept : List Act)
        → slice_get w.processes number ≡ Some pair → copy_of (other_of k) rest ≡ copy_of (other_of k) pair
        → copy.role ≡ (copy_of k pair).role → copy.processor ≡ (copy_of k pair).processor
        → copy.waiting ≡ (copy_of k pair).waiting → Waits w
        → IsKept (record w { processes = slice_set w.processes number (with_copy k copy rest); kept = kept })
    one-kept number k pair rest copy kept there others role processor waiting waits =
        stays (record w { processes = slice_set w.processes number (with_copy k copy rest); kept = kept })
        (same-put (waiting-put site w
        (record w { processes = slice_set w.processes number (with_copy k copy rest); kept = kept }) node number pair
        rest k copy there others refl refl)
        (there-as node copy.role (copy_of k pair).role copy.processor (copy_of k pair).processor copy.waiting
        (copy_of k pair).waiting role processor waiting)) waits

    others-stay : (k : Which) (pair : Pair) (message : List ImageMessage)
        → copy_of (other_of k) (record pair { checkpoints = message }) ≡ copy_of (other_of k) pair
    others-stay First pair message = refl
    others-stay Second pair message = refl

    passes-kept : {number one : ℕ} {pair next : Pair} {kept : List Act} {cause : Cause} {sendings : List Sending}
        → slice_get w.processes number ≡ Some pair
        → Passes number w.downs w.kept pair cause sendings next kept → cause ≡ Running one → Waits w
        → IsKept (record w { processes = slice_set w.processes number next; kept = kept })
    passes-kept {number = number} {pair = pair} {kept = kept} there (by_send k role may unsent unmarked) is waits =
        one-kept number k pair (record pair { checkpoints = checkpoint_of number (copy_of k pair) ∷ pair.checkpoints })
        (after_sending (copy_of k pair)) kept there
        (others-stay k pair (checkpoint_of number (copy_of k pair) ∷ pair.checkpoints)) refl refl refl waits
    passes-kept {number = number} {pair = pair} {kept = kept} there (by_pass_again k role at may less) is waits =
        one-kept number k pair pair
        (record (copy_at_checkpoint (copy_of k pair)) { position = (copy_of k pair).position + 1 }) kept there refl refl
        refl refl waits
    passes-kept {number = number} {pair = pair} {kept = kept} there (by_pass k role at may most) is waits =
        let copy : Copy = record (copy_at_checkpoint (copy_of k pair)) {
          position = own_acts number (kept_at_checkpoint number (copy_of k pair) w.kept);
          held = [];
        } in
        one-kept number k pair pair copy kept there refl refl refl refl waits
    passes-kept {number = number} {pair = pair} {kept = kept} there (by_end k role sent away may) is waits =
        one-kept number k pair pair (after_sent (copy_of k pair)) kept there refl refl refl refl waits
    passes-kept there (by_apply_behind k message applied role known era number put at) is waits = absurd (cc)
    passes-kept there (by_apply k message applied role known era number put at) is waits = absurd (cc)
    passes-kept {number = number} {pair = pair} {kept = kept} there (by_acknowledge k taken role sent known era same) is
        waits = absurd (cc)

    pub run-keeps-waiting : (next : World) (number : ℕ) (cause : Cause) (sendings : List Sending)
        → Change site w cause sendings next → cause ≡ Running number → Waits w → IsKept next
    run-keeps-waiting next number cause sendings (by_own one k pair there role causes advances enters free) is waits =
        own-kept one k pair there role causes advances enters waits
    run-keeps-waiting next number cause sendings (by_checkpoint one pair there passes) is waits =
        passes-kept there passes is waits
    run-keeps-waiting next number cause sendings (by_request asked k pair known there role) is waits = absurd (cc)
    run-keeps-waiting next number cause sendings (by_early_request asked k pair known there role) is waits = absurd (cc)
    run-keeps-waiting next number cause sendings (by_enter one terminal opener there even asked opens) is waits =
        absurd (cc)
    run-keeps-waiting next number cause sendings (by_print one terminal told there odd known opens same) is waits =
        absurd (cc)
    run-keeps-waiting next number cause sendings (by_stop processor runs whole) is waits = absurd (cc)
    run-keeps-waiting next number cause sendings (by_mark marking processor down runs unmarked) is waits = absurd (cc)
    run-keeps-waiting next number cause sendings (by_reload processor gone is_marked there less) is waits = absurd (cc)
