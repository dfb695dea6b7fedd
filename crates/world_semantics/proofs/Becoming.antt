-- What a change does to each copy of a process.
use Rattle.std.proofs.Common.{◌≡◌, inl, ℕ, ◌+◌, Bool, true, false, if◌then◌else◌, List, [], map, Option, Some, None}
use Rattle.std.proofs.Common.{slice_get, slice_set, refl, subst, sym, ◌∙◌, ◌==◌, ◌≢◌}
use Rattle.std.proofs.lemmas.Bool.{eqb-true}
use Rattle.checkpoint_image.specs.gd_words.specs.Members.{IsAmong}
use Rattle.checkpoint_image.specs.gd_words.specs.declared.message.Request.{Request}
use Rattle.checkpoint_image.specs.tal_tree.specs.declared.act.Act.{Act}
use Rattle.checkpoint_image.specs.tal_tree.specs.declared.site.Site.{Site}
use Rattle.plain_semantics.specs.Openers.{openers_of}
use Rattle.checkpoint_image.specs.declared.message.ImageMessage.{ImageMessage}
use Rattle.checkpoint_image.specs.declared.message.TakenMessage.{TakenMessage}
use Rattle.world_semantics.specs.declared.role.Role.{Role}
use Rattle.world_semantics.specs.declared.role.Role.TheVariants.{Acting, Watching, Blank, Gone}
use Rattle.checkpoint_image.specs.Receive.{waits, came}
use Rattle.world_semantics.specs.Core.{Core, Deed, Advances, put_in}
use Rattle.world_semantics.specs.World.{Copy, Pair, World, Which, First, Second, copy_of, other_of, with_copy}
use Rattle.world_semantics.specs.World.{receives}
use Rattle.world_semantics.specs.Kept.{Enters, holds_on, repeats, begins, keeps}
use Rattle.world_semantics.specs.Messages.{Message, Asking, Checkpointing, Taking, Sending, Cause, Running, Handing}
use Rattle.world_semantics.specs.Messages.{Stopping, MarkingDown, Reloading}
use Rattle.world_semantics.specs.Own.{Around, around, Causes}
use Rattle.world_semantics.specs.Passes.{Passes, MaySend, by_send, by_pass_again, by_pass, by_end, by_apply}
use Rattle.world_semantics.specs.Passes.{by_apply_behind, by_acknowledge, checkpoint_of, after_sending, after_sent}
use Rattle.world_semantics.specs.Passes.{copy_at_checkpoint, after_getting, after_told}
use Rattle.world_semantics.specs.Rules.{Change, by_own, by_checkpoint, by_request, by_early_request, by_enter, by_print}
use Rattle.world_semantics.specs.Rules.{by_stop, by_mark, by_reload, IsFreeFor, stopped_copy, stopped_pair, taken_over}
use Rattle.world_semantics.specs.Rules.{taker, pair_after_down, pair_at_down, renewals_ended, blank_copy}
use Rattle.world_semantics.specs.Rules.{copy_with_renewal}
use Rattle.world_semantics.specs.Rules.{new_core, reloaded_by}
use Rattle.world_semantics.proofs.Lists.{some-same, Changed, is_new, is_same, changed, mapped}
use Rattle.world_semantics.proofs.Roles.{Takes, taker-is, reload-all}

-- what one copy of a process is after a change, where these are the checkpoints that were sent by then: it is as
-- before, acts, sends a checkpoint, passes its checkpoint, or what it has sent comes to its end; it applies a
-- checkpoint, or is told that one was taken; what it held is kept or dropped; a request comes to it; its processor
-- stops; it takes over, or needn't send everything any more; its processor is loaded again, or the other one's
pub data Becomes (site : Site) (w : World) (number : ℕ) (pair : Pair) (sent : List ImageMessage) (k : Which) : Cause
    → Copy → Type 0 where
  stays : {cause : Cause} → Becomes site w number pair sent k cause (copy_of k pair)
  acts : {cause : Cause} {deed : Deed} {done : Act} {messages : List Message} {after : Around} {core : Core}
      {entered : Copy} {kept : List Act}
      → (copy_of k pair).role ≡ Acting
      → Causes site number (copy_of k pair).processor (copy_of k pair).core (around (copy_of k pair) pair w) cause deed
      done messages after
      → Advances (openers_of site number) (copy_of k pair).core deed core
      → Enters number done w.kept (copy_of k pair) entered kept → IsFreeFor cause (copy_of k pair)
      → Becomes site w number pair sent k cause (record entered { core = core; waiting = after.waiting })
  sends : (copy_of k pair).role ≡ Acting → MaySend (copy_of k pair)
      → IsAmong (checkpoint_of number (copy_of k pair)) sent
      → Becomes site w number pair sent k (Running number) (after_sending (copy_of k pair))
  passes : {position : ℕ} {held : List Act} → (copy_of k pair).role ≡ Acting
      → Becomes site w number pair sent k (Running number)
      (record (copy_at_checkpoint (copy_of k pair)) { position = position; held = held })
  ends : (copy_of k pair).role ≡ Acting
      → Becomes site w number pair sent k (Running number) (after_sent (copy_of k pair))
  applies : {applied : Core} → (message : ImageMessage) → receives (copy_of k pair).role ≡ true
      → IsAmong message pair.checkpoints
      → message.era ≡ (copy_of k pair).era → message.number ≡ (copy_of k pair).number + 1
      → put_in (copy_of k pair).core message.image ≡ Some applied
      → Becomes site w number pair sent k (Handing (copy_of k pair).processor (Checkpointing message))
      (after_getting message.number applied (copy_of k pair))
  is_told : (taken : TakenMessage) → (copy_of k pair).role ≡ Acting → (copy_of k pair).sent ≡ true
      → IsAmong taken pair.takens
      → taken.era ≡ (copy_of k pair).era → taken.number ≡ (copy_of k pair).number
      → Becomes site w number pair sent k (Handing (copy_of k pair).processor (Taking taken))
      (after_told (copy_of k pair))
  is_freed : {cause : Cause} {position : ℕ} {renewal : Bool}
      → Becomes site w number pair sent k cause
      (record (copy_of k pair) { position = position; held = []; renewal = renewal })
  needs_less : {cause : Cause} {renewal : Bool}
      → Becomes site w number pair sent k cause (record (copy_of k pair) { renewal = renewal })
  hears : (request : Request) → (copy_of k pair).role ≡ Acting
      → Becomes site w number pair sent k (Handing (copy_of k pair).processor (Asking request))
      (record (copy_of k pair) { waiting = came (copy_of k pair).core.receive (copy_of k pair).waiting request })
  hears_early : (request : Request) → receives (copy_of k pair).role ≡ true
      → Becomes site w number pair sent k (Handing (copy_of k pair).processor (Asking request))
      (record (copy_of k pair) { waiting = waits (copy_of k pair).waiting request })
  stops : (processor : ℕ) → Becomes site w number pair sent k (Stopping processor)
      (stopped_copy processor (copy_of k pair))
  takes_over : {renewal : Bool} (node processor : ℕ) → Takes node processor k pair
      → Becomes site w number pair sent k (MarkingDown node processor)
      (record (taken_over pair.base (copy_of k pair)) { renewal = renewal })
  is_blank : {era : ℕ} (processor : ℕ) → (copy_of k pair).processor ≡ processor
      → ((copy_of (other_of k) pair).processor ≢ processor → era ≡ (copy_of (other_of k) pair).era + 1)
      → Becomes site w number pair sent k (Reloading processor)
      (blank_copy (copy_of k pair).processor era
      (new_core site number (slice_get site.processes number) pair.first.core))
  renews : (processor : ℕ) → (copy_of (other_of k) pair).processor ≡ processor
      → Becomes site w number pair sent k (Reloading processor) (copy_with_renewal (copy_of k pair))

-- what an act leaves of a copy as it was, however the act enters the kept acts
pub record IsEntered (copy entered : Copy) : Type 0 where
  pub role : entered.role ≡ copy.role
  pub sent : entered.sent ≡ copy.sent
  pub acknowledged : entered.acknowledged ≡ copy.acknowledged

pub entered-same : {number : ℕ} {done : Act} {kept after : List Act} {copy entered : Copy}
    → Enters number done kept copy entered after → IsEntered copy entered
entered-same (holds_on e) = record { role = refl; sent = refl; acknowledged = refl }
entered-same (repeats e l) = record { role = refl; sent = refl; acknowledged = refl }
entered-same (begins e l t) = record { role = refl; sent = refl; acknowledged = refl }
entered-same (keeps e l t) = record { role = refl; sent = refl; acknowledged = refl }

-- a copy that acts gets no checkpoint
pub acting-gets-none : (role : Role) → role ≡ Acting → receives role ≡ true → ⊥
acting-gets-none Acting a r = cc
acting-gets-none Watching a r = cc
acting-gets-none Blank a r = cc
acting-gets-none Gone a r = cc

-- the role that a copy has had where it has this one after a stop
pub was-role : (gone : Bool) (role wanted : Role) → (wanted ≡ Gone → ⊥) → (if gone then Gone else role) ≡ wanted
    → role ≡ wanted
was-role true role wanted other e = absurd (other (sym e))
was-role false role wanted other e = e

-- what a process was before a change, and what each of its copies becomes
pub record Was (site : Site) (w : World) (number : ℕ) (cause : Cause) (after : Pair) : Type 0 where
  pub before : Pair
  pub there : slice_get w.processes number ≡ Some before
  pub copies : (k : Which) → Becomes site w number before after.checkpoints k cause (copy_of k after)

abbrev BothBecome : Site → World → ℕ → Pair → Cause → Pair → Type 0
BothBecome site w number pair cause next =
    (k : Which) → Becomes site w number pair next.checkpoints k cause (copy_of k next)

own-copies : {site : Site} {w : World} {number : ℕ} {cause : Cause} {deed : Deed} {done : Act}
    {messages : List Message} {after : Around} {core : Core} {entered : Copy}
    {kept : List Act} (k : Which) (pair : Pair) → (copy_of k pair).role ≡ Acting
    → Causes site number (copy_of k pair).processor (copy_of k pair).core (around (copy_of k pair) pair w) cause deed
    done messages after
    → Advances (openers_of site number) (copy_of k pair).core deed core
    → Enters number done w.kept (copy_of k pair) entered kept → IsFreeFor cause (copy_of k pair)
    → BothBecome site w number pair cause (with_copy k (record entered { core = core; waiting = after.waiting })
    (record pair { sectors = after.sectors }))
own-copies First pair r c a e fr First = acts r c a e fr
own-copies First pair r c a e fr Second = stays
own-copies Second pair r c a e fr First = stays
own-copies Second pair r c a e fr Second = acts r c a e fr

passes-copies : {site : Site} {w : World} {number : ℕ} {kept : List Act} {pair next : Pair} {cause : Cause}
    {sendings : List Sending}
    → Passes number w.downs w.kept pair cause sendings next kept → BothBecome site w number pair cause next
passes-copies (by_send First r p s m) First = sends r p (inl refl)
passes-copies (by_send First r p s m) Second = stays
passes-copies (by_send Second r p s m) First = stays
passes-copies (by_send Second r p s m) Second = sends r p (inl refl)
passes-copies (by_pass_again First r p m l) First = passes r
passes-copies (by_pass_again First r p m l) Second = stays
passes-copies (by_pass_again Second r p m l) First = stays
passes-copies (by_pass_again Second r p m l) Second = passes r
passes-copies (by_pass First r p m l) First = passes r
passes-copies (by_pass First r p m l) Second = stays
passes-copies (by_pass Second r p m l) First = stays
passes-copies (by_pass Second r p m l) Second = passes r
passes-copies (by_end First r s p m) First = ends r
passes-copies (by_end First r s p m) Second = stays
passes-copies (by_end Second r s p m) First = stays
passes-copies (by_end Second r s p m) Second = ends r
passes-copies (by_apply_behind First message applied r i e n a l) First = applies message r i e n a
passes-copies (by_apply_behind First message applied r i e n a l) Second = stays
passes-copies (by_apply_behind Second message applied r i e n a l) First = stays
passes-copies (by_apply_behind Second message applied r i e n a l) Second = applies message r i e n a
passes-copies (by_apply First message applied r i e n a l) First = applies message r i e n a
passes-copies (by_apply First message applied r i e n a l) Second = is_freed
passes-copies (by_apply Second message applied r i e n a l) First = is_freed
passes-copies (by_apply Second message applied r i e n a l) Second = applies message r i e n a
passes-copies (by_acknowledge First taken r s i e n) First = is_told taken r s i e n
passes-copies (by_acknowledge First taken r s i e n) Second = stays
passes-copies (by_acknowledge Second taken r s i e n) First = stays
passes-copies (by_acknowledge Second taken r s i e n) Second = is_told taken r s i e n

hears-copies : {site : Site} {w : World} (request : Request) (k : Which) (pair : Pair) → (copy_of k pair).role ≡ Acting
    → BothBecome site w request.process pair (Handing (copy_of k pair).processor (Asking request))
    (with_copy k (record (copy_of k pair) {
      waiting =
          came (copy_of k pair).core.receive (copy_of k pair).waiting request;
    }) pair)
hears-copies request First pair r First = hears request r
hears-copies request First pair r Second = stays
hears-copies request Second pair r First = stays
hears-copies request Second pair r Second = hears request r

early-copies : {site : Site} {w : World} (request : Request) (k : Which) (pair : Pair)
    → receives (copy_of k pair).role ≡ true
    → BothBecome site w request.process pair (Handing (copy_of k pair).processor (Asking request))
    (with_copy k (record (copy_of k pair) { waiting = waits (copy_of k pair).waiting request }) pair)
early-copies request First pair r First = hears_early request r
early-copies request First pair r Second = stays
early-copies request Second pair r First = stays
early-copies request Second pair r Second = hears_early request r

stop-copies : {site : Site} {w : World} {number : ℕ} (processor : ℕ) (pair : Pair)
    → BothBecome site w number pair (Stopping processor) (stopped_pair processor pair)
stop-copies processor pair First = stops processor
stop-copies processor pair Second = stops processor

mark-copies : {site : Site} {w : World} {number : ℕ} (node processor : ℕ) (pair : Pair) (k : Option Which)
    → taker node processor pair ≡ k
    → BothBecome site w number pair (MarkingDown node processor)
    (renewals_ended node processor (pair_after_down k pair))
mark-copies node processor pair None e First = needs_less
mark-copies node processor pair None e Second = needs_less
mark-copies node processor pair (Some First) e First = takes_over node processor (taker-is node processor pair First e)
mark-copies node processor pair (Some First) e Second = is_freed
mark-copies node processor pair (Some Second) e First = is_freed
mark-copies node processor pair (Some Second) e Second =
    takes_over node processor (taker-is node processor pair Second e)

reload-copies : {site : Site} {w : World} (number processor : ℕ) (pair : Pair) (one two : Bool)
    → (pair.first.processor == processor) ≡ one → (pair.second.processor == processor) ≡ two
    → BothBecome site w number pair (Reloading processor)
    (reloaded_by (new_core site number (slice_get site.processes number) pair.first.core) pair one two)
reload-copies number processor pair false false a b k = stays
reload-copies number processor pair true false a b First = is_blank processor (eqb-true _ _ a) (λ _. refl)
reload-copies number processor pair true false a b Second = renews processor (eqb-true _ _ a)
reload-copies number processor pair false true a b First = renews processor (eqb-true _ _ b)
reload-copies number processor pair false true a b Second = is_blank processor (eqb-true _ _ b) (λ _. refl)
reload-copies number processor pair true true a b First =
    is_blank processor (eqb-true _ _ a) (λ apart. absurd (apart (eqb-true _ _ b)))
reload-copies number processor pair true true a b Second =
    is_blank processor (eqb-true _ _ b) (λ apart. absurd (apart (eqb-true _ _ a)))

same-was : {site : Site} {w : World} {cause : Cause} (number : ℕ) (after : Pair)
    → slice_get w.processes number ≡ Some after → Was site w number cause after
same-was number after there = record { before = after; there = there; copies = λ k. stays }

set-was : {site : Site} {w : World} {cause : Cause} (n : ℕ) (pair next : Pair) → slice_get w.processes n ≡ Some pair
    → BothBecome site w n pair cause next
    → (number : ℕ) (after : Pair) → slice_get (slice_set w.processes n next) number ≡ Some after
    → Was site w number cause after
set-was {site = site} {w = w} {cause = cause} n pair next there copies number after now = of
    (changed w.processes n next number after now)
  where
    of : Changed w.processes n next number after → Was site w number cause after
    of (is_new here is) =
        subst (λ m. Was site w m cause after) here
        (record { before = pair; there = there; copies = subst (BothBecome site w n pair cause) (sym is) copies })
    of (is_same other was) = same-was number after was

map-was : {site : Site} {w : World} {cause : Cause} (f : Pair → Pair)
    → ((number : ℕ) (pair : Pair) → BothBecome site w number pair cause (f pair))
    → (number : ℕ) (after : Pair) → slice_get (map f w.processes) number ≡ Some after → Was site w number cause after
map-was {site = site} {w = w} {cause = cause} f copies number after now =
    let was = mapped f w.processes number after now in
    record {
      before = was.0;
      there = was.1;
      copies = subst (BothBecome site w number was.0 cause) (sym was.2) (copies number was.0);
    }

-- what a process was before a change
pub change-was : {site : Site} (w next : World) (cause : Cause) (sendings : List Sending)
    → Change site w cause sendings next → (number : ℕ) (after : Pair)
    → slice_get next.processes number ≡ Some after → Was site w number cause after
change-was w next cause sendings (by_own n k pair there r c a e fr) =
    set-was n pair _ there (own-copies k pair r c a e fr)
change-was w next cause sendings (by_checkpoint n pair there p) = set-was n pair _ there (passes-copies p)
change-was w next cause sendings (by_request request k pair i there r) =
    set-was request.process pair _ there (hears-copies request k pair r)
change-was w next cause sendings (by_early_request request k pair i there r) =
    set-was request.process pair _ there (early-copies request k pair r)
change-was w next cause sendings (by_enter n terminal opener t e q o) = same-was
change-was w next cause sendings (by_print n terminal reply t e i o m) = same-was
change-was w next cause sendings (by_stop x s h) = map-was (stopped_pair x) (λ number pair. stop-copies x pair)
change-was w next cause sendings (by_mark m x s q n) =
    map-was (pair_at_down m x) (λ number pair. mark-copies m x pair (taker m x pair) refl)
change-was {site = site} w next cause sendings (by_reload x s m t l) =
    reload-all (λ n p. Was site w n (Reloading x) p) site x w.processes
    (λ n p there. record {
      before = p;
      there = there;
      copies = reload-copies n x p (p.first.processor == x) (p.second.processor == x) refl refl;
    })

-- what a copy becomes by a change
pub change-copy : {site : Site} (w next : World) (cause : Cause) (sendings : List Sending) (number : ℕ)
    (before after : Pair) (k : Which)
    → Change site w cause sendings next → slice_get w.processes number ≡ Some before
    → slice_get next.processes number ≡ Some after
    → Becomes site w number before after.checkpoints k cause (copy_of k after)
change-copy {site = site} w next cause sendings number before after k c there now =
    let was = change-was w next cause sendings c number after now in
    subst (λ p. Becomes site w number p after.checkpoints k cause (copy_of k after))
    (some-same (sym was.there ∙ there)) (was.copies k)
