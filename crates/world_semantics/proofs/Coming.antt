-- What is handed over, and where.
use Rattle.std.proofs.Common.{◌≡◌, ◌≤◌, ℕ, Bool, true, false, List, length, Some, slice_get, refl, sym, ap, ◌∙◌, arith}
use Rattle.std.proofs.lemmas.Option.{slice_get_within}
use Rattle.std.proofs.lemmas.List.{length-set, length-replicate}
use Rattle.checkpoint_image.specs.tal_tree.specs.declared.act.Act.{Act}
use Rattle.checkpoint_image.specs.tal_tree.specs.declared.site.Site.{Site}
use Rattle.schedule.specs.declared.event.Event.{Event}
use Rattle.world_semantics.specs.declared.role.Role.{Role}
use Rattle.world_semantics.specs.declared.role.Role.TheVariants.{Acting, Gone}
use Rattle.world_semantics.specs.Core.{Core, Deed}
use Rattle.world_semantics.specs.World.{Pair, Down, World, Which, First, Second, copy_of, terminal_node, receives}
use Rattle.world_semantics.specs.Messages.{Message, Sending, Cause, Handing}
use Rattle.world_semantics.specs.Own.{Around, Causes, by_inner, by_take, by_ask, by_answer, by_device, by_write}
use Rattle.world_semantics.specs.Own.{by_reply}
use Rattle.world_semantics.specs.Passes.{Passes, by_send, by_pass_again, by_pass, by_end, by_apply_behind}
use Rattle.world_semantics.specs.Passes.{by_apply, by_acknowledge}
use Rattle.world_semantics.specs.Rules.{Change, by_own, by_checkpoint, by_request, by_early_request, by_enter, by_print}
use Rattle.world_semantics.specs.Rules.{by_stop, by_mark, by_reload}
use Rattle.world_semantics.specs.Follows.{IsRun}
use Rattle.world_semantics.specs.Laws.{WasSent}
use Rattle.world_semantics.proofs.Runs.{holds-on}
use Rattle.world_semantics.proofs.Roles.{RolesOf}
use Rattle.world_semantics.proofs.Reached.{run-roles}

same-handing : {node one : ℕ} {message other : Message} → Handing node message ≡ Handing one other
    → (node ≡ one) × (message ≡ other)
same-handing e = (cc, cc)

-- What was sent

own-sent : {site : Site} {number node at : ℕ} {core : Core} {before after : Around} {cause : Cause} {deed : Deed}
    {done : Act} {messages : List Message}
    (w : World) (message : Message) → before.replies ≡ w.replies → cause ≡ Handing at message
    → Causes site number node core before cause deed done messages after → WasSent w message
own-sent w message same e by_inner = absurd (cc)
own-sent w message same e (by_take c) = absurd (cc)
own-sent w message same e by_ask = absurd (cc)
own-sent w message same e (by_answer s) = absurd (cc)
own-sent w message same e (by_device n) = absurd (cc)
own-sent w message same e (by_write n) = absurd (cc)
own-sent w message same e (by_reply {reply = reply} i o n u) = rw (sym (same-handing e).1, sym same) i

passes-sent : {number at : ℕ} {kept after : List Act} {pair next : Pair} {cause : Cause} {sendings : List Sending}
    (w : World) (message : Message)
    → slice_get w.processes number ≡ Some pair → cause ≡ Handing at message
    → Passes number w.downs kept pair cause sendings next after → WasSent w message
passes-sent w message there e (by_send k role p s m) = absurd (cc)
passes-sent w message there e (by_pass_again k role p m l) = absurd (cc)
passes-sent w message there e (by_pass k role p m l) = absurd (cc)
passes-sent w message there e (by_end k role s p m) = absurd (cc)
passes-sent {number = n} {pair = pair} w message there e (by_apply_behind k sent applied role i era next a l) =
    rw (sym (same-handing e).1) (n, pair, there, i)
passes-sent {number = n} {pair = pair} w message there e (by_apply k sent applied role i era next a l) =
    rw (sym (same-handing e).1) (n, pair, there, i)
passes-sent {number = n} {pair = pair} w message there e (by_acknowledge k taken role s i era same) =
    rw (sym (same-handing e).1) (n, pair, there, i)

change-sent : {site : Site} (w next : World) (node : ℕ) (message : Message) (cause : Cause) (sendings : List Sending)
    → cause ≡ Handing node message
    → Change site w cause sendings next → WasSent w message
change-sent w next node message cause sendings e (by_own number k pair there acts c a enters fr) =
    own-sent w message refl e c
change-sent w next node message cause sendings e (by_checkpoint number pair there p) = passes-sent w message there e p
change-sent w next node message cause sendings e (by_request request k pair i there r) = rw (sym (same-handing e).1) i
change-sent w next node message cause sendings e (by_early_request request k pair i there r) =
    rw (sym (same-handing e).1) i
change-sent w next node message cause sendings e (by_enter number terminal opener t f r o) = absurd (cc)
change-sent w next node message cause sendings e (by_print number terminal reply t f i o n) =
    rw (sym (same-handing e).1) i
change-sent w next node message cause sendings e (by_stop x r h) = absurd (cc)
change-sent w next node message cause sendings e (by_mark m x s r n) = absurd (cc)
change-sent w next node message cause sendings e (by_reload x s m t l) = absurd (cc)

pub comes-sent : {site : Site} (w next : World) (node : ℕ) (message : Message) (sendings : List Sending)
    → Change site w (Handing node message) sendings next
    → WasSent w message
comes-sent w next node message sendings c = change-sent w next node message (Handing node message) sendings refl c

-- Where it comes

-- each processor of a site has its place
abbrev pub HasPlaces : Site → World → Type 0
HasPlaces site w = length w.stopped ≡ site.processors

change-places : {site : Site} (w next : World) (cause : Cause) (sendings : List Sending)
    → Change site w cause sendings next → HasPlaces site w → HasPlaces site next
change-places w next cause sendings (by_own number k pair there acts c a enters fr) ok = ok
change-places w next cause sendings (by_checkpoint number pair there p) ok = ok
change-places w next cause sendings (by_request request k pair i there r) ok = ok
change-places w next cause sendings (by_early_request request k pair i there r) ok = ok
change-places w next cause sendings (by_enter number terminal opener t f r o) ok = ok
change-places w next cause sendings (by_print number terminal reply t f i o n) ok = ok
change-places w next cause sendings (by_stop x r h) ok = length-set w.stopped x true ∙ ok
change-places w next cause sendings (by_mark m x s r n) ok = ok
change-places w next cause sendings (by_reload x s m t l) ok = length-set w.stopped x false ∙ ok

run-places : {site : Site} {events : List Event} {w : World} → IsRun site events w → HasPlaces site w
run-places {site = site} run = holds-on (HasPlaces site) change-places run (length-replicate site.processors false)

no-terminals : (site : Site) (w : World) → HasPlaces site w → site.processors ≤ 16
    → slice_get w.stopped terminal_node ≡ Some true → ⊥
no-terminals site w p l s = let i = slice_get_within w.stopped 16 true s in absurd (omega (arith, i, p, l))

-- a copy that isn't gone stands in no stopped processor
alive : (stopped : List Bool) (pair : Pair) (k : Which) → RolesOf stopped pair
    → slice_get stopped (copy_of k pair).processor ≡ Some true → (copy_of k pair).role ≡ Gone
alive stopped pair First ok s = ok.first_gone s
alive stopped pair Second ok s = ok.second_gone s

acts-alive : (stopped : List Bool) (pair : Pair) (k : Which) (role : Role) (node : ℕ) → RolesOf stopped pair
    → (copy_of k pair).role ≡ role → (role ≡ Gone → ⊥)
    → (copy_of k pair).processor ≡ node → slice_get stopped node ≡ Some true → ⊥
acts-alive stopped pair k role node ok r n same s =
    n (sym r ∙ alive stopped pair k ok (ap (slice_get stopped) same ∙ s))

not-gone : Acting ≡ Gone → ⊥
not-gone e = cc

-- a copy that gets checkpoints isn't gone
getting-alive : (stopped : List Bool) (pair : Pair) (k : Which) (node : ℕ) → RolesOf stopped pair
    → receives (copy_of k pair).role ≡ true
    → (copy_of k pair).processor ≡ node → slice_get stopped node ≡ Some true → ⊥
getting-alive stopped pair k node ok r same s =
    let gone = alive stopped pair k ok (ap (slice_get stopped) same ∙ s) in
    let none : receives (copy_of k pair).role ≡ false = ap receives gone in cc

own-node : {site : Site} {number node at : ℕ} {core : Core} {before after : Around} {cause : Cause} {deed : Deed}
    {done : Act} {messages : List Message} {message : Message}
    → cause ≡ Handing at message → Causes site number node core before cause deed done messages after → node ≡ at
own-node e by_inner = absurd (cc)
own-node e (by_take c) = absurd (cc)
own-node e by_ask = absurd (cc)
own-node e (by_answer s) = absurd (cc)
own-node e (by_device n) = absurd (cc)
own-node e (by_write n) = absurd (cc)
own-node e (by_reply i o n u) = (same-handing e).0

passes-node : {number at : ℕ} {downs : List Down} {kept after : List Act} {pair next : Pair} {cause : Cause}
    {sendings : List Sending} {message : Message} (stopped : List Bool)
    → RolesOf stopped pair → cause ≡ Handing at message → Passes number downs kept pair cause sendings next after
    → slice_get stopped at ≡ Some true → ⊥
passes-node stopped ok e (by_send k role p s m) stop = cc
passes-node stopped ok e (by_pass_again k role p m l) stop = cc
passes-node stopped ok e (by_pass k role p m l) stop = cc
passes-node stopped ok e (by_end k role s p m) stop = cc
passes-node {pair = pair} stopped ok e (by_apply_behind k sent applied role i era next a l) stop =
    getting-alive stopped pair k _ ok role (same-handing e).0 stop
passes-node {pair = pair} stopped ok e (by_apply k sent applied role i era next a l) stop =
    getting-alive stopped pair k _ ok role (same-handing e).0 stop
passes-node {pair = pair} stopped ok e (by_acknowledge k taken role s i era same) stop =
    acts-alive stopped pair k Acting _ ok role not-gone (same-handing e).0 stop

change-node : {site : Site} (w next : World) (node : ℕ) (message : Message) (cause : Cause) (sendings : List Sending)
    → (slice_get w.stopped terminal_node ≡ Some true → ⊥)
    → ((number : ℕ) (pair : Pair) → slice_get w.processes number ≡ Some pair → RolesOf w.stopped pair)
    → cause ≡ Handing node message
    → Change site w cause sendings next → slice_get w.stopped node ≡ Some true → ⊥
change-node w next node message cause sendings free ok e (by_own number k pair there acts c a enters fr) s =
    acts-alive w.stopped pair k Acting node (ok number pair there) acts not-gone (own-node e c) s
change-node w next node message cause sendings free ok e (by_checkpoint number pair there p) s =
    passes-node w.stopped (ok number pair there) e p s
change-node w next node message cause sendings free ok e (by_request request k pair i there r) s =
    acts-alive w.stopped pair k Acting node (ok request.process pair there) r not-gone (same-handing e).0 s
change-node w next node message cause sendings free ok e (by_early_request request k pair i there r) s =
    getting-alive w.stopped pair k node (ok request.process pair there) r (same-handing e).0 s
change-node w next node message cause sendings free ok e (by_enter number terminal opener t f r o) s = cc
change-node w next node message cause sendings free ok e (by_print number terminal reply t f i o n) s =
    free (ap (slice_get w.stopped) (same-handing e).0 ∙ s)
change-node w next node message cause sendings free ok e (by_stop x r h) s = cc
change-node w next node message cause sendings free ok e (by_mark m x p r n) s = cc
change-node w next node message cause sendings free ok e (by_reload x p m t l) s = cc

pub comes-running : {site : Site} {events : List Event} (w next : World) (node : ℕ) (message : Message)
    (sendings : List Sending) → IsRun site events w
    → site.processors ≤ 16 → Change site w (Handing node message) sendings next → slice_get w.stopped node ≡ Some true
    → ⊥
comes-running {site = site} w next node message sendings run few c s =
    change-node w next node message (Handing node message) sendings (no-terminals site w (run-places run) few)
    (run-roles run) refl c s
