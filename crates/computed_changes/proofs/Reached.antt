-- What holds of each process that a run reaches: its copies are in its two processors, and what they send each other
-- names it.
use Rattle.std.proofs.Common.{◌≡◌, ◌≢◌, inl, inr, ℕ, zero, suc, ◌+◌, List, [], ◌∷◌, Some, slice_get, refl, sym, ap}
use Rattle.std.proofs.Common.{subst, ◌∙◌}
use Rattle.tal_tree.specs.gd_words.specs.Members.{IsAmong}
use Rattle.tal_tree.specs.declared.act.Act.{Act}
use Rattle.tal_tree.specs.declared.site.Site.{Site}
use Rattle.tal_tree.specs.declared.site.ProcessSpec.{ProcessSpec}
use Rattle.schedule.specs.declared.event.Event.{Event}
use Rattle.world_semantics.specs.checkpoint_image.specs.declared.message.ImageMessage.{ImageMessage}
use Rattle.world_semantics.specs.checkpoint_image.specs.declared.message.TakenMessage.{TakenMessage}
use Rattle.world_semantics.specs.declared.which.Which.{Which}
use Rattle.world_semantics.specs.declared.which.Which.TheVariants.{First, Second}
use Rattle.world_semantics.specs.World.{Copy, Pair, World, copy_of, pairs_at_boot, boot}
use Rattle.world_semantics.specs.Kept.{Enters, holds_on, repeats, begins, keeps}
use Rattle.world_semantics.specs.Messages.{Message, Asking, Replying, Checkpointing, Taking, Sending, Cause}
use Rattle.world_semantics.specs.Passes.{checkpoint_of, taken_of}
use Rattle.world_semantics.specs.Rules.{Change}
use Rattle.world_semantics.specs.Follows.{IsRun}
use Rattle.world_semantics.specs.Laws.{WasSent}
use Rattle.world_semantics.proofs.Beginning.{all-begin}
use Rattle.world_semantics.proofs.Lists.{some-same}
use Rattle.world_semantics.proofs.Runs.{holds-on}
use Rattle.world_semantics.proofs.Becoming as becoming
use Rattle.world_semantics.proofs.Becoming.{Becomes, change-was}
use Rattle.computed_changes.specs.Laws.{HasCopiesApart, IsSent}
use Rattle.computed_changes.proofs.Homes.{AreApart}
use Rattle.computed_changes.proofs.Saying.{Says, nothing, a_checkpoint, was_taken, change-said}

-- Processors

entered-home : {number : ℕ} {act : Act} {kept after : List Act} {copy entered : Copy}
    → Enters number act kept copy entered after
    → entered.processor ≡ copy.processor
entered-home (holds_on e) = refl
entered-home (repeats e l) = refl
entered-home (begins e l t) = refl
entered-home (keeps e l t) = refl

becomes-home : {site : Site} {w : World} {number : ℕ} {pair : Pair} {sent : List ImageMessage} {k : Which}
    {cause : Cause} {after : Copy}
    → Becomes site w number pair sent k cause after → after.processor ≡ (copy_of k pair).processor
becomes-home becoming.stays = refl
becomes-home (becoming.acts r c a e fr) = entered-home e
becomes-home (becoming.sends r p i) = refl
becomes-home (becoming.passes r) = refl
becomes-home (becoming.ends r) = refl
becomes-home (becoming.applies message r i e n a) = refl
becomes-home (becoming.is_told taken r s i e n) = refl
becomes-home becoming.is_freed = refl
becomes-home becoming.needs_less = refl
becomes-home (becoming.hears request r) = refl
becomes-home (becoming.hears_early request r) = refl
becomes-home (becoming.stops processor) = refl
becomes-home (becoming.takes_over node processor t) = refl
becomes-home (becoming.is_blank processor here was) = refl
becomes-home (becoming.renews processor there) = refl

abbrev pub AllApart : World → Type 0
AllApart w = (number : ℕ) (pair : Pair) → slice_get w.processes number ≡ Some pair → AreApart pair

change-apart : {site : Site} (w next : World) (cause : Cause) (sendings : List Sending)
    → Change site w cause sendings next → AllApart w → AllApart next
change-apart w next cause sendings c ok number after now same =
    let was = change-was w next cause sendings c number after now in
    ok number was.before was.there (sym (becomes-home (was.copies First)) ∙ same ∙ becomes-home (was.copies Second))

apart-begin : (site : Site) (from : ℕ) (specs : List ProcessSpec)
    → ((number : ℕ) (spec : ProcessSpec) → slice_get specs number ≡ Some spec → spec.primary ≢ spec.backup)
    → (number : ℕ) (pair : Pair)
    → slice_get (pairs_at_boot site from specs) number ≡ Some pair → AreApart pair
apart-begin site from [] apart number pair e = absurd (cc)
apart-begin site from (spec ∷ specs) apart zero pair e = subst AreApart (some-same e) (apart zero spec refl)
apart-begin site from (spec ∷ specs) apart (suc number) pair e =
    apart-begin site (from + 1) specs (λ n. apart (suc n)) number pair e

pub run-apart : {site : Site} {events : List Event} {w : World} → HasCopiesApart site → IsRun site events w → AllApart w
run-apart {site = site} apart run = holds-on AllApart change-apart run (apart-begin site 0 site.processes apart)

-- Names

-- the messages of a process between its copies name it
pub record AreNamed (number : ℕ) (sent : List ImageMessage) (told : List TakenMessage) : Type 0 where
  pub checkpoints : (message : ImageMessage) → IsAmong message sent → message.process ≡ number
  pub takens : (taken : TakenMessage) → IsAmong taken told → taken.process ≡ number

sent-named : (number : ℕ) (new : ImageMessage) (sent : List ImageMessage) → new.process ≡ number
    → ((message : ImageMessage) → IsAmong message sent → message.process ≡ number) → (message : ImageMessage)
    → IsAmong message (new ∷ sent) → message.process ≡ number
sent-named number new sent is ok message (inl same) = ap (λ (m : ImageMessage). m.process) same ∙ is
sent-named number new sent is ok message (inr i) = ok message i

taken-named : (number : ℕ) (new : TakenMessage) (sent : List TakenMessage) → new.process ≡ number
    → ((taken : TakenMessage) → IsAmong taken sent → taken.process ≡ number) → (taken : TakenMessage)
    → IsAmong taken (new ∷ sent) → taken.process ≡ number
taken-named number new sent is ok taken (inl same) = ap (λ (t : TakenMessage). t.process) same ∙ is
taken-named number new sent is ok taken (inr i) = ok taken i

says-named : {number : ℕ} (before after : Pair) → Says number before after
    → AreNamed number before.checkpoints before.takens
    → AreNamed number after.checkpoints after.takens
says-named before after (nothing c t) ok = rw (c, t) ok
says-named {number = n} before after (a_checkpoint k c t) ok =
    rw (c, t) (record {
      checkpoints = sent-named n (checkpoint_of n (copy_of k before)) before.checkpoints refl
          ok.checkpoints;
      takens = ok.takens;
    })
says-named {number = n} before after (was_taken message i c t) ok =
    rw (c, t) (record {
      checkpoints = ok.checkpoints;
      takens = taken-named n (taken_of message) before.takens (ok.checkpoints message i) ok.takens;
    })

abbrev pub AllNamed : World → Type 0
AllNamed w =
    (number : ℕ) (pair : Pair) → slice_get w.processes number ≡ Some pair → AreNamed number pair.checkpoints pair.takens

change-named : {site : Site} (w next : World) (cause : Cause) (sendings : List Sending)
    → Change site w cause sendings next → AllNamed w → AllNamed next
change-named w next cause sendings c ok number after now =
    let said = change-said w next cause sendings c number after now in
    says-named said.before after said.says (ok number said.before said.there)

named-begin : (site : Site) → AllNamed (boot site)
named-begin site =
    all-begin (λ number pair. AreNamed number pair.checkpoints pair.takens) site
    (λ number from spec. record { checkpoints = λ message i. absurd i; takens = λ taken i. absurd i })

pub run-named : {site : Site} {events : List Event} {w : World} → IsRun site events w → AllNamed w
run-named {site = site} run = holds-on AllNamed change-named run (named-begin site)

-- in a run, what was sent was sent by the process that it names
pub run-sent : {site : Site} {events : List Event} (w : World) (message : Message) → IsRun site events w
    → WasSent w message → IsSent w message
run-sent w (Asking request) run i = i
run-sent w (Replying reply) run i = i
run-sent w (Checkpointing message) run (number, pair, there, i) =
    let named = (run-named run number pair there).checkpoints message i in
    (pair, subst (λ n. slice_get w.processes n ≡ Some pair) (sym named) there, i)
run-sent w (Taking taken) run (number, pair, there, i) =
    let named = (run-named run number pair there).takens taken i in
    (pair, subst (λ n. slice_get w.processes n ≡ Some pair) (sym named) there, i)
