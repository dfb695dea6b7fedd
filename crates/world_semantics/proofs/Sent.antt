-- A copy that has sent stands at its checkpoint, or awaits no reply, and the checkpoint carries what it has.
use Rattle.std.proofs.Common.{◌≡◌, ◌≢◌, ◌⊎◌, inl, inr, ◌==◌, ℕ, Bool, true, false, if◌then◌else◌, List, [], Some}
use Rattle.std.proofs.Common.{slice_get, refl, subst, sym, ap, ◌∙◌}
use Rattle.checkpoint_image.specs.gd_words.specs.Members.{IsAmong}
use Rattle.checkpoint_image.specs.tal_tree.specs.declared.act.Act.{Act}
use Rattle.checkpoint_image.specs.tal_tree.specs.declared.site.Site.{Site}
use Rattle.checkpoint_image.specs.tal_tree.specs.declared.site.ProcessSpec.{ProcessSpec}
use Rattle.schedule.specs.declared.event.Event.{Event}
use Rattle.plain_semantics.specs.process_semantics.specs.declared.point.Point.TheVariants as point
use Rattle.plain_semantics.specs.process_semantics.specs.Process as process
use Rattle.plain_semantics.specs.Openers.{openers_of}
use Rattle.checkpoint_image.specs.declared.message.ImageMessage.{ImageMessage}
use Rattle.world_semantics.specs.declared.role.Role.{Role}
use Rattle.world_semantics.specs.declared.role.Role.TheVariants.{Acting, Gone}
use Rattle.world_semantics.specs.Core.{Core, Deed, Advances, gets, carried_by}
use Rattle.world_semantics.specs.World.{Copy, Pair, World, Which, First, Second, copy_of, pair_at_boot, boot, receives}
use Rattle.world_semantics.specs.Messages.{Message, Sending, Cause}
use Rattle.world_semantics.specs.Own.{Around, Causes, by_inner, by_take, by_ask, by_answer, by_device, by_write}
use Rattle.world_semantics.specs.Own.{by_reply}
use Rattle.world_semantics.specs.Rules.{Change, IsFreeFor}
use Rattle.world_semantics.specs.Follows.{IsRun}
use Rattle.world_semantics.specs.Laws.{HasGrown, HasSentWhatItHas}
use Rattle.world_semantics.proofs.Beginning.{all-begin}
use Rattle.world_semantics.proofs.Lists.{some-same}
use Rattle.checkpoint_image.specs.gd_words.proofs.Among.{among-right}
use Rattle.world_semantics.proofs.Runs.{holds-on}
use Rattle.world_semantics.proofs.Later.{change-later}
use Rattle.world_semantics.proofs.Becoming as becoming
use Rattle.world_semantics.proofs.Becoming.{Becomes, acting-gets-none, entered-same, was-role, change-was}

-- among these checkpoints is the last one of a process, of this era and number and of what this core has
pub record SentOf (number era count : ℕ) (core : Core) (sent : List ImageMessage) : Type 0 where
  pub everything : Bool
  pub stands : (process.point core.state ≡ point.AtCheckpoint)
      ⊎ ((everything ≡ true) × (process.point core.state ≢ point.Await))
  pub among : IsAmong (record { process = number; era = era; number = count; image = carried_by everything core }) sent

-- what a copy that has sent has, where these are the checkpoints that were sent
pub record HasSent (number : ℕ) (sent : List ImageMessage) (copy : Copy) : Type 0 where
  pub getting : receives copy.role ≡ true → copy.sent ≡ false
  pub acting : copy.role ≡ Acting → copy.sent ≡ true → SentOf number copy.era copy.number copy.core sent

among-more : {before after : List ImageMessage} (message : ImageMessage) → HasGrown before after
    → IsAmong message before → IsAmong message after
among-more {before = before} message g i = subst (IsAmong message) (sym g.1) (among-right message g.0 before i)

sent-more : {number era count : ℕ} {core : Core} {before after : List ImageMessage} → HasGrown before after
    → SentOf number era count core before → SentOf number era count core after
sent-more g sent = record { everything = sent.everything; stands = sent.stands; among = among-more _ g sent.among }

-- a copy that has sent does no act: it isn't free for one for which it runs, and awaits no reply
awaits-none : {number era count : ℕ} {core : Core} {sent : List ImageMessage} → SentOf number era count core sent
    → process.point core.state ≡ point.Await → ⊥
awaits-none {core = core} ok e = by ok.stands
  where
    by : (process.point core.state ≡ point.AtCheckpoint)
        ⊎ ((ok.everything ≡ true) × (process.point core.state ≢ point.Await)) → ⊥
    by (inl p) = let same = sym p ∙ e in cc
    by (inr both) = both.1 e

not-sent : {site : Site} {number node era count : ℕ} {core next : Core} {before after : Around} {cause : Cause}
    {deed : Deed} {done : Act} {messages : List Message} {sent : List ImageMessage} (copy : Copy)
    → Causes site number node core before cause deed done messages after
    → Advances (openers_of site number) core deed next → IsFreeFor cause copy → copy.sent ≡ true
    → SentOf number era count core sent → ⊥
not-sent copy by_inner a fr s ok = let no = fr.0 in cc
not-sent copy (by_take c) a fr s ok = let no = fr.0 in cc
not-sent copy by_ask a fr s ok = let no = fr.0 in cc
not-sent copy (by_answer t) a fr s ok = let no = fr.0 in cc
not-sent copy (by_device n) a fr s ok = let no = fr.0 in cc
not-sent copy (by_write n) a fr s ok = let no = fr.0 in cc
not-sent copy (by_reply i o n u) (gets p f) fr s ok = awaits-none ok p

-- a copy that gets checkpoints after a stop did so before
was-getting : (gone : Bool) (role : Role) → receives (if gone then Gone else role) ≡ true → receives role ≡ true
was-getting true role e = absurd (cc)
was-getting false role e = e

becomes-sent : {site : Site} {w : World} {number : ℕ} {pair : Pair} {sent : List ImageMessage} {k : Which}
    {cause : Cause} {after : Copy}
    → Becomes site w number pair sent k cause after → HasGrown pair.checkpoints sent
    → HasSent number pair.checkpoints (copy_of k pair) → HasSent number sent after
becomes-sent becoming.stays g ok = record { getting = ok.getting; acting = λ r s. sent-more g (ok.acting r s) }
becomes-sent {pair = pair} {k = k} (becoming.acts {entered = entered} r c a e fr) g ok =
    let same = entered-same e in
    record {
      getting = λ w. absurd (acting-gets-none entered.role (same.role ∙ r) w);
      acting = λ _ s. (let was = sym same.sent ∙ s in
          absurd (not-sent (copy_of k pair) c a fr was (ok.acting r was)));
    }
becomes-sent {pair = pair} {k = k} (becoming.sends r p i) g ok =
    record {
      getting = λ w. absurd (acting-gets-none _ r w);
      acting = λ _ _. record { everything = (copy_of k pair).renewal; stands = p; among = i };
    }
becomes-sent (becoming.passes r) g ok = record { getting = λ _. refl; acting = λ _ s. absurd (cc) }
becomes-sent (becoming.ends r) g ok = record { getting = λ _. refl; acting = λ _ s. absurd (cc) }
becomes-sent (becoming.applies message r i e n a) g ok =
    record { getting = λ _. ok.getting r; acting = λ acts. absurd (cc) }
becomes-sent (becoming.is_told taken r s i e n) g ok =
    record { getting = ok.getting; acting = λ r s. sent-more g (ok.acting r s) }
becomes-sent becoming.is_freed g ok = record { getting = ok.getting; acting = λ r s. sent-more g (ok.acting r s) }
becomes-sent becoming.needs_less g ok = record { getting = ok.getting; acting = λ r s. sent-more g (ok.acting r s) }
becomes-sent (becoming.hears request r) g ok =
    record { getting = ok.getting; acting = λ r s. sent-more g (ok.acting r s) }
becomes-sent (becoming.hears_early request r) g ok =
    record { getting = ok.getting; acting = λ r s. sent-more g (ok.acting r s) }
becomes-sent {pair = pair} {k = k} (becoming.stops processor) g ok =
    let gone = (copy_of k pair).processor == processor in
    let role = was-role gone (copy_of k pair).role in
    record {
      getting = λ w. ok.getting (was-getting gone (copy_of k pair).role w);
      acting = λ r s. sent-more g (ok.acting (role Acting (λ e. cc) r) s);
    }
becomes-sent (becoming.takes_over node processor t) g ok =
    let unsent = ok.getting (ap receives t.watching) in
    record { getting = λ _. unsent; acting = λ _ s. absurd (let no = unsent in cc) }
becomes-sent (becoming.is_blank processor here was) g ok = record { getting = λ _. refl; acting = λ _ s. absurd (cc) }
becomes-sent (becoming.renews processor there) g ok = record { getting = λ _. refl; acting = λ _ s. absurd (cc) }

-- of both copies of all processes
abbrev pub AllSent : World → Type 0
AllSent w = (number : ℕ) (pair : Pair) → slice_get w.processes number ≡ Some pair → (k : Which)
    → HasSent number pair.checkpoints (copy_of k pair)

change-sent : {site : Site} (w next : World) (cause : Cause) (sendings : List Sending)
    → Change site w cause sendings next → AllSent w → AllSent next
change-sent w next cause sendings c ok number after now k =
    let was = change-was w next cause sendings c number after now in
    let later = change-later w next cause sendings c number was.before was.there in
    let grown = subst (λ (p : Pair). HasGrown was.before.checkpoints p.checkpoints) (some-same (sym later.1 ∙ now))
    later.2.checkpoints in
    becomes-sent (was.copies k) grown (ok number was.before was.there k)

sent-begin : (site : Site) → AllSent (boot site)
sent-begin site =
    all-begin (λ number pair. (k : Which) → HasSent number pair.checkpoints (copy_of k pair)) site by-which
  where
    by-which : (number from : ℕ) (spec : ProcessSpec) (k : Which)
        → HasSent number [] (copy_of k (pair_at_boot site from spec))
    by-which number from spec First = record { getting = λ _. refl; acting = λ _ s. absurd (cc) }
    by-which number from spec Second = record { getting = λ _. refl; acting = λ _ s. absurd (cc) }

pub run-sent : {site : Site} {events : List Event} {w : World} → IsRun site events w → AllSent w
run-sent {site = site} run = holds-on AllSent change-sent run (sent-begin site)

-- what a copy that acts and has sent sent last
pub sends-what-it-has : {site : Site} {events : List Event} {w : World} → IsRun site events w → (number : ℕ)
    (pair : Pair) (k : Which)
    → slice_get w.processes number ≡ Some pair → (copy_of k pair).role ≡ Acting → (copy_of k pair).sent ≡ true
    → HasSentWhatItHas number (copy_of k pair) pair.checkpoints
sends-what-it-has run number pair k there role sent =
    let ok = (run-sent run number pair there k).acting role sent in
    record { everything = ok.everything; stands = ok.stands; among = ok.among }
