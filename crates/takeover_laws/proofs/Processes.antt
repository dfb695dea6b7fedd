-- What a copy does, and what comes to it, keeps the invariant.
use Rattle.std.proofs.Common.{◌≡◌, ◌<◌, ◌≤◌, ℕ, ◌+◌, List, [], ◌∷◌, ◌++◌, length, Some, slice_get, ap, sym, ◌∙◌, subst}
use Rattle.std.proofs.Common.{arith, true}
use Rattle.gd_words.specs.Members.{IsAmong}
use Rattle.gd_words.specs.declared.message.Request.{Request}
use Rattle.gd_words.specs.declared.message.Reply.{Reply}
use Rattle.tal_tree.specs.declared.act.Act.{Act}
use Rattle.tal_tree.specs.declared.act.Shown.{Shown}
use Rattle.tal_tree.specs.declared.site.Site.{Site}
use Rattle.tal_tree.specs.declared.site.ProcessSpec.{ProcessSpec}
use Rattle.tal_tree.specs.declared.site.OpenerSpec.{OpenerSpec}
use Rattle.world_semantics.specs.plain_semantics.specs.Openers.{openers_of}
use Rattle.world_semantics.specs.disc_device.specs.Sectors.{Stored}
use Rattle.world_semantics.specs.declared.role.Role.TheVariants.{Acting}
use Rattle.world_semantics.specs.Core.{Core, Deed, Advances, gets}
use Rattle.world_semantics.specs.Kept.{Enters, own_acts}
use Rattle.world_semantics.specs.Messages.{Message, Sending, Cause}
use Rattle.world_semantics.specs.Own.{Around, around, Causes, by_answer, by_ask, by_device, by_inner, by_reply, by_take}
use Rattle.world_semantics.specs.Own.{by_write}
use Rattle.world_semantics.specs.Passes.{Passes}
use Rattle.world_semantics.specs.Rules.{after_own, IsFreeFor}
use Rattle.world_semantics.specs.declared.which.Which.{Which}
use Rattle.world_semantics.specs.declared.which.Which.TheVariants.{First, Second}
use Rattle.world_semantics.specs.World.{Copy, Pair, World, copy_of, with_copy, with_pair}
use Rattle.world_semantics.proofs.Growing.{AreStopped}
use Rattle.world_semantics.proofs.Roles.{AllRoles}
use Rattle.plain_histories.specs.process_histories.specs.Devices.{sectors_after}
use Rattle.plain_histories.specs.process_histories.proofs.Places.{set-one}
use Rattle.plain_histories.specs.Booking.{act_of, shown_of}
use Rattle.plain_histories.specs.Ledgers.{Ledger, with_deed, with_deeds}
use Rattle.plain_histories.proofs.Changed.{deeds-same}
use Rattle.plain_histories.proofs.Counted.{booked-count, booked-short}
use Rattle.takeover_laws.specs.Fit.{IsFit}
use Rattle.takeover_laws.specs.Invariant.{IsLed, IsAsked, IsSound, Invariant}
use Rattle.takeover_laws.proofs.Backed.{idle-sectors}
use Rattle.takeover_laws.proofs.Caused.{IsCaused, caused, AllAsked, AllAnswered}
use Rattle.takeover_laws.proofs.Frame.{process-frame, enters-held, asked-more, answered-more}
use Rattle.takeover_laws.proofs.Pairs.{Outcome, it_stays, it_is_kept, led-own, led-waits}
use Rattle.takeover_laws.proofs.Passing.{led-pass}
use Rattle.takeover_laws.proofs.Settled.{Keeps, IsSettled, settled-none, settled-more}
use Rattle.takeover_laws.proofs.Changing.{passes-held, passes-sectors, passes-waiting, each-copy, same-sectors, AllWait}
use Rattle.process_semantics.specs.Process as process
use Rattle.process_semantics.specs.declared.point.Point.TheVariants as point

-- a request is to a process, and was asked
abbrev pub IsFor : Site → Ledger → ℕ → Request → Type 0
IsFor site ledger number request = (request.process ≡ number) × IsAsked site ledger request

-- a process of the site is sound
abbrev pub SoundAs : Site → Ledger → ℕ → ℕ → Pair → Type 0
SoundAs site ledger events number pair =
    (spec : ProcessSpec) × (slice_get site.processes number ≡ Some spec) × IsSound site ledger events number spec pair

module _ (site : Site) (fit : IsFit site) where
  -- one process changed, with its deeds in the ledger
  process-changed : (events : ℕ) (w : World) (inv : Invariant site events w) (number : ℕ) (spec : ProcessSpec)
      (next : Pair) (kept : List Act) (shown : List Shown)
      (requests : List Request) (replies : List Reply) (deeds : List Deed)
      → IsSettled site kept shown inv.ledger number deeds → slice_get site.processes number ≡ Some spec
      → IsSound site (with_deeds number deeds inv.ledger) (events + 1) number spec next
      → AllAsked site (with_deeds number deeds inv.ledger) requests
      → AllAnswered (with_deeds number deeds inv.ledger) replies
      → Invariant site (events + 1) (record (with_pair number next w)
      { requests = requests; replies = replies; shown = shown; kept = kept })
  process-changed events w inv number spec next kept shown requests replies deeds settled there sound asked answered =
      record {
        ledger = with_deeds number deeds inv.ledger;
        booked = settled.booked;
        processes = set-one (SoundAs site (with_deeds number deeds inv.ledger) (events + 1)) w.processes number next
            (λ other pair apart at. let was = inv.processes other pair at in
            (was.0, was.1, process-frame (events + 1) (omega arith) (settled.left other apart) settled.keeps was.2))
            (λ _ _. (spec, there, sound));
        requests = asked;
        replies = answered;
        terminals = λ one terminal at. (let was = inv.terminals one terminal at in
            record { entered = rw settled.entered was.entered; printed = rw settled.printed was.printed });
      }

  -- nothing is sent where a copy does an act, unless it awaits a reply
  free-by : {number node : ℕ} {core next : Core} {before after : Around} {cause : Cause} {deed : Deed} {act : Act}
      {messages : List Message} {openers : List OpenerSpec} (copy : Copy)
      → Causes site number node core before cause deed act messages after → Advances openers core deed next
      → IsFreeFor cause copy → copy.sent ≡ true
      → process.point core.state ≡ point.Await
  free-by copy by_inner advances free sent = absurd (let u = free.0 in cc)
  free-by copy (by_take is) advances free sent = absurd (let u = free.0 in cc)
  free-by copy by_ask advances free sent = absurd (let u = free.0 in cc)
  free-by copy (by_answer there) advances free sent = absurd (let u = free.0 in cc)
  free-by copy (by_device stood) advances free sent = absurd (let u = free.0 in cc)
  free-by copy (by_write new) advances free sent = absurd (let u = free.0 in cc)
  free-by copy (by_reply among is last said) (gets at named) free sent = at

  -- Acts of copies

  module _ (events : ℕ) (w : World) (inv : Invariant site events w) (number : ℕ) (k : Which) (pair : Pair) where
    still-waiting : {spec : ProcessSpec} (waiting : List Request) (copy : Copy) (sectors : List Stored)
        → IsSound site inv.ledger events number spec pair
        → ((request : Request) → IsAmong request waiting → IsAmong request (copy_of k pair).waiting) → (more : Ledger)
        → Keeps inv.ledger more
        → AllWait (IsFor site more number) (with_copy k (record copy { waiting = waiting })
        (record pair { sectors = sectors }))
    still-waiting waiting copy sectors sound fewer more stay =
        each-copy (λ (c : Copy). (request : Request) → IsAmong request c.waiting → IsFor site more number request) k
        (record copy { waiting = waiting }) (record pair { sectors = sectors })
        (λ request among. let was = sound.waiting k request (fewer request among) in
        (was.0, asked-more site stay request was.1))
        (λ other request among. let was = sound.waiting other request (same other request among) in
        (was.0, asked-more site stay request was.1))
      where
        same : (other : Which) (request : Request)
            → IsAmong request (copy_of other (record pair { sectors = sectors })).waiting
            → IsAmong request (copy_of other pair).waiting
        same First request among = among
        same Second request among = among

    fewer-held : (copy : Copy) (waiting : List Request) (sectors : List Stored) (deeds : ℕ)
        → length copy.held + deeds ≤ length (copy_of k pair).held + length (inv.ledger.deeds number) + 1
        → length pair.first.held + length pair.second.held + length (inv.ledger.deeds number) ≤ events
        → length (with_copy k (record copy { waiting = waiting }) (record pair { sectors = sectors })).first.held
        + length (with_copy k (record copy { waiting = waiting }) (record pair { sectors = sectors })).second.held
        + deeds ≤ events + 1
    fewer-held copy waiting sectors deeds mine all = by k mine
      where
        by : (k : Which) → length copy.held + deeds
            ≤ length (copy_of k pair).held + length (inv.ledger.deeds number) + 1
            → length (with_copy k (record copy { waiting = waiting }) (record pair { sectors = sectors })).first.held
            + length (with_copy k (record copy { waiting = waiting }) (record pair { sectors = sectors })).second.held
            + deeds ≤ events + 1
        by First mine = omega (arith, mine, all)
        by Second mine = omega (arith, mine, all)

    led-around : {spec : ProcessSpec} (ledger : Ledger) (deeds : List Deed) (entered : Copy) (core : Core)
        (waiting : List Request) (sectors : List Stored)
        → IsLed site ledger number spec deeds (with_copy k (record entered { core = core }) pair)
        → IsLed site ledger number spec deeds (with_copy k (record entered { core = core; waiting = waiting })
        (record pair { sectors = sectors }))
    led-around {spec = spec} ledger deeds entered core waiting sectors led = by k led
      where
        by : (k : Which) → IsLed site ledger number spec deeds (with_copy k (record entered { core = core }) pair)
            → IsLed site ledger number spec deeds (with_copy k (record entered { core = core; waiting = waiting })
            (record pair { sectors = sectors }))
        by First led = led-waits site number spec ledger deeds First
            (record pair { first = record entered { core = core } }) waiting sectors led
        by Second led = led-waits site number spec ledger deeds Second
            (record pair { second = record entered { core = core } }) waiting sectors led

    pub own-keeps : {cause : Cause} {deed : Deed} {act : Act} {messages : List Message} {after : Around} {core : Core}
        {entered : Copy} {kept : List Act}
        → slice_get w.processes number ≡ Some pair → (copy_of k pair).role ≡ Acting
        → Causes site number (copy_of k pair).processor (copy_of k pair).core (around (copy_of k pair) pair w) cause
        deed act messages after
        → Advances (openers_of site number) (copy_of k pair).core deed core
        → Enters number act w.kept (copy_of k pair) entered kept → IsFreeFor cause (copy_of k pair)
        → Invariant site (events + 1) (after_own number k pair core entered after kept w)
    own-keeps {deed = deed} {act = act} {after = after} {core = core} {entered = entered} {kept = kept} at role causes
        advances enters free =
        let was = inv.processes number pair at in
        let c = caused site inv.ledger number (copy_of k pair).processor was.0 (copy_of k pair).core
        (around (copy_of k pair) pair w) inv.requests inv.replies
        (was.2.waiting k) was.2.sectors causes in
        let e : Enters number (act_of number deed) w.kept (copy_of k pair) entered kept =
        subst (λ a. Enters number a w.kept (copy_of k pair) entered kept) c.act_is enters in
        by was.0 was.1 was.2 c e (led-own site number was.0 fit.regular (fit.disciplined number was.0 was.1) was.1
        inv.ledger inv.booked kept deed k pair entered core
        was.2.led role (free-by (copy_of k pair) causes advances free) advances c.no_checkpoint c.backed e)
      where
        by : (spec : ProcessSpec) → slice_get site.processes number ≡ Some spec
            → IsSound site inv.ledger events number spec pair
            → IsCaused site inv.ledger number spec (copy_of k pair).core (around (copy_of k pair) pair w) after deed act
            → Enters number (act_of number deed) w.kept (copy_of k pair) entered kept
            → Outcome site w.kept inv.ledger number spec deed (copy_of k pair).core
            (λ l deeds. IsLed site l number spec deeds (with_copy k (record entered { core = core }) pair)) kept
            → Invariant site (events + 1) (after_own number k pair core entered after kept w)
        by spec there sound c e (it_stays is sent old led) =
            let left = c.old old in
            let settled = settled-none number inv.booked in
            let more = enters-held e in
            let same = ap (length {A = Act}) is in
            rw (is, left.1) (process-changed events w inv number spec _ w.kept w.shown after.requests after.replies []
            settled there (record {
              led = led-around inv.ledger (inv.ledger.deeds number) entered core after.waiting after.sectors led;
              sectors = same-sectors k (record entered { core = core; waiting = after.waiting })
                  (record pair { sectors = after.sectors }) ∙ left.0 ∙ sound.sectors;
              waiting = still-waiting after.waiting (record entered { core = core }) after.sectors sound c.waiting
                  inv.ledger settled.keeps;
              count = fewer-held (record entered { core = core }) after.waiting after.sectors
                  (length (inv.ledger.deeds number)) (omega (arith, more, same)) sound.count;
            }) (c.requests inv.ledger settled.keeps sent) (c.replies inv.ledger settled.keeps sent))
        by spec there sound c e (it_is_kept is sent new done allowed led) =
            let made = c.new new in
            let settled = settled-more site fit.regular inv.ledger number spec there w.kept w.shown [] deed
            (settled-none number inv.booked) done advances allowed in
            let more = enters-held e in
            let same = ap (length {A = Act}) is in
            let deeds : (with_deed number deed inv.ledger).deeds number ≡ deed ∷ inv.ledger.deeds number =
            deeds-same number (deed ∷ []) inv.ledger in
            rw (is, made.1) (process-changed events w inv number spec _ (act_of number deed ∷ w.kept)
            (shown_of number deed ++ w.shown) after.requests after.replies (deed ∷ []) settled there (record {
              led = led-around (with_deed number deed inv.ledger) ((with_deed number deed inv.ledger).deeds number)
                  entered core after.waiting after.sectors (rw deeds led);
              sectors = same-sectors k (record entered { core = core; waiting = after.waiting })
                  (record pair { sectors = after.sectors }) ∙ made.0 ∙ ap (sectors_after spec.what) (sym deeds);
              waiting = still-waiting after.waiting (record entered { core = core }) after.sectors sound c.waiting
                  (with_deed number deed inv.ledger) settled.keeps;
              count = rw deeds (fewer-held (record entered { core = core }) after.waiting after.sectors
                  (length (deed ∷ inv.ledger.deeds number)) (omega (arith, more, same)) sound.count);
            }) (c.requests (with_deed number deed inv.ledger) settled.keeps sent)
            (c.replies (with_deed number deed inv.ledger) settled.keeps sent))

    -- what waits at a copy
    pub waiting-keeps : (waiting : List Request) → slice_get w.processes number ≡ Some pair
        → ((request : Request) → IsAmong request waiting → IsFor site inv.ledger number request)
        → Invariant site (events + 1) (with_pair number
        (with_copy k (record (copy_of k pair) { waiting = waiting }) pair) w)
    waiting-keeps waiting at all =
        let was = inv.processes number pair at in
        process-changed events w inv number was.0 _ w.kept w.shown w.requests w.replies []
        (settled-none number inv.booked) was.1 (by k all was.0 was.2) inv.requests inv.replies
      where
        by : (k : Which) → ((request : Request) → IsAmong request waiting → IsFor site inv.ledger number request)
            → (spec : ProcessSpec) → IsSound site inv.ledger events number spec pair
            → IsSound site inv.ledger (events + 1) number spec
            (with_copy k (record (copy_of k pair) { waiting = waiting }) pair)
        by First all spec sound = record {
          led = led-waits site number spec inv.ledger (inv.ledger.deeds number) First pair waiting pair.sectors
              sound.led;
          sectors = sound.sectors;
          waiting = each-copy (λ (c : Copy). (request : Request) → IsAmong request c.waiting
              → IsFor site inv.ledger number request) First (record pair.first { waiting = waiting }) pair all
              sound.waiting;
          count = (let count = sound.count in omega (arith, count));
        }
        by Second all spec sound = record {
          led = led-waits site number spec inv.ledger (inv.ledger.deeds number) Second pair waiting pair.sectors
              sound.led;
          sectors = sound.sectors;
          waiting = each-copy (λ (c : Copy). (request : Request) → IsAmong request c.waiting
              → IsFor site inv.ledger number request) Second (record pair.second { waiting = waiting }) pair all
              sound.waiting;
          count = (let count = sound.count in omega (arith, count));
        }

  pub checkpoint-keeps : (events : ℕ) (w : World) (inv : Invariant site events w) (number : ℕ) (pair next : Pair)
      {cause : Cause} {sendings : List Sending} {kept : List Act} → events < 4294967295
      → AllRoles w → AreStopped w → slice_get w.processes number ≡ Some pair
      → Passes number w.downs w.kept pair cause sendings next kept
      → Invariant site (events + 1) (record (with_pair number next w) { kept = kept })
  checkpoint-keeps events w inv number pair next {cause = cause} {sendings = sendings} {kept = kept} few roles stopped
      at passes =
      let was = inv.processes number pair at in
      let all = was.2.count in
      let on = led-pass site fit.regular w.stopped w.downs w.kept w.shown inv.ledger number was.0
      (fit.disciplined number was.0 was.1) was.1 inv.booked (booked-short fit.requests inv.booked)
      stopped pair next kept cause sendings (roles number pair at) (omega (arith, all, few)) was.2.led passes in
      let deeds : (with_deeds number on.deeds inv.ledger).deeds number ≡ on.deeds ++ inv.ledger.deeds number =
      deeds-same number on.deeds inv.ledger in
      let before : own_acts number w.kept ≡ length (inv.ledger.deeds number) = booked-count inv.booked number in
      let since : own_acts number kept ≡ length ((with_deeds number on.deeds inv.ledger).deeds number) =
      booked-count on.settled.booked number in
      let more = passes-held passes in
      process-changed events w inv number was.0 next kept w.shown w.requests w.replies on.deeds on.settled was.1
      (record {
        led = subst (λ d. IsLed site (with_deeds number on.deeds inv.ledger) number was.0 d next) (sym deeds) on.led;
        sectors = passes-sectors passes ∙ was.2.sectors
            ∙ sym (idle-sectors was.0.what on.deeds (inv.ledger.deeds number) on.idle)
            ∙ ap (sectors_after was.0.what) (sym deeds);
        waiting = λ k request among.
            (let old = was.2.waiting k request (subst (IsAmong request) (passes-waiting passes k) among) in
            (old.0, asked-more site on.settled.keeps request old.1));
        count = omega (arith, more, all, before, since);
      })
      (λ request among. asked-more site on.settled.keeps request (inv.requests request among))
      (λ reply among. answered-more on.settled.keeps reply (inv.replies reply among))
