-- What is awaited was sent.
use Rattle.std.proofs.Common.{◌≡◌, inl, ℕ, ◌+◌, ◌-◌, ◌<◌, ℤ, List, ◌∷◌, length, Option, Some, None, slice_get}
use Rattle.std.proofs.Common.{slice_set, refl, sym, subst, ◌∙◌, arith}
use Rattle.gd_words.specs.Members.{IsAmong}
use Rattle.gd_words.specs.declared.message.Request.{Request}
use Rattle.gd_words.proofs.Among.{among-left}
use Rattle.tal_tree.specs.declared.act.Act.{Act}
use Rattle.tal_tree.specs.declared.site.ProcessSpec.{ProcessSpec}
use Rattle.tal_tree.specs.declared.site.Site.{Site}
use Rattle.tal_tree.specs.declared.site.Who.TheVariants as who
use Rattle.process_semantics.specs.declared.point.Point.{Point}
use Rattle.process_semantics.specs.declared.point.Point.TheVariants as point
use Rattle.process_semantics.specs.Process as process
use Rattle.plain_semantics.specs.declared.slot.Opener.{Opener}
use Rattle.plain_semantics.specs.Openers.{openers_of, opener_of}
use Rattle.world_semantics.specs.declared.role.Role.TheVariants.{Acting}
use Rattle.world_semantics.specs.declared.which.Which.{Which}
use Rattle.world_semantics.specs.Core.{Core, Deed, Asked, Advances, goes, takes, asks, gets, answers, acts, next_on}
use Rattle.world_semantics.specs.Messages.{Message, Cause}
use Rattle.world_semantics.specs.Own.{Around, Causes, by_inner, by_take, by_ask, by_answer, by_device, by_write}
use Rattle.world_semantics.specs.Own.{by_reply, request_to, asked_on}
use Rattle.world_semantics.specs.World.{Pair, World, copy_of}
use Rattle.awaited_requests.specs.process_histories.specs.Histories.{HasDone, one_more}
use Rattle.awaited_requests.specs.process_histories.specs.Words.{requests_on}
use Rattle.awaited_requests.specs.process_histories.proofs.Counts.{if-same}
use Rattle.awaited_requests.specs.process_histories.proofs.Steady.{IsSteady, calm-away, inner-calm, took-calm}
use Rattle.awaited_requests.specs.process_histories.proofs.Steady.{asked-same, got-calm}
use Rattle.awaited_requests.specs.process_histories.proofs.Steady.{answered-calm, device-calm, done-steady}
use Rattle.awaited_requests.specs.plain_histories.specs.Agreeing.{AreRegular}
use Rattle.awaited_requests.specs.takeover_laws.proofs.Backed.{next-is}
use Rattle.awaited_requests.specs.takeover_laws.proofs.Kept.{IsGood}
use Rattle.awaited_requests.proofs.Leads.{copy-takes}
use Rattle.awaited_requests.specs.letters.specs.Again.{awaited_at, awaited_by}
use Rattle.letter_laws.proofs.Given.{only}

-- Which request a process awaits

-- a request of a process to the opener on which it asks, of the number asked last
pub record IsLast (site : Site) (number : ℕ) (core : Core) (request : Request) : Type 0 where
  pub stands : process.point core.state ≡ point.Await
  pub opener : Opener
  pub opens : opener_of site (who.File number (process.asked_file core.state)) ≡ Some opener
  pub same : request ≡ record {
    process = opener.server;
    opener = opener.place;
    number = next_on core (process.asked_file core.state) - 1;
    words = process.asked_words core.state;
  }

pub awaited-last : (site : Site) (number : ℕ) (core : Core) (request : Request)
    → IsAmong request (awaited_by site number core) → IsLast site number core request
awaited-last site number core request among = by (process.point core.state) refl among
  where
    of : process.point core.state ≡ point.Await → (o : Option Opener)
        → opener_of site (who.File number (process.asked_file core.state)) ≡ o
        → IsAmong request (request_to (next_on core (process.asked_file core.state) - 1)
        (process.asked_words core.state) o) → IsLast site number core request
    of at None opens none = absurd none
    of at (Some opener) opens among =
        record { stands = at; opener = opener; opens = opens; same = only request _ among }

    by : (p : Point) → process.point core.state ≡ p → IsAmong request (awaited_at site number core p)
        → IsLast site number core request
    by point.Await at among = of at (opener_of site (who.File number (process.asked_file core.state))) refl among
    by point.Inner at none = absurd none
    by point.Take at none = absurd none
    by point.Ask at none = absurd none
    by point.Answer at none = absurd none
    by point.AtCheckpoint at none = absurd none
    by point.Device at none = absurd none
    by point.Ended at none = absurd none

asked-words : (s : process.ProcessState) → process.asked_words (process.after_asked s) ≡ process.asked_words s
asked-words (process.Runs program s) = refl
asked-words (process.Serves sectors s) = refl

-- Copies that act

pub record IsDone (site : Site) (number : ℕ) (core : Core) : Type 0 where
  pub spec : ProcessSpec
  pub there : slice_get site.processes number ≡ Some spec
  pub deeds : List Deed
  pub done : HasDone site number spec deeds core

-- what a copy that acts has, deeds have made
pub acting-done : (site : Site) (events : ℕ) (w : World) → IsGood site events w
    → (number : ℕ) (pair : Pair) (k : Which) → slice_get w.processes number ≡ Some pair
    → (copy_of k pair).role ≡ Acting → IsDone site number (copy_of k pair).core
acting-done site events w good number pair k there role =
    let sound = good.invariant.processes number pair there in
    let takes = copy-takes pair k sound.2.led (λ gone. (let same = sym role ∙ gone in cc))
    (λ blank. (let same = sym role ∙ blank in cc)) in
    record { spec = sound.0; there = sound.1; deeds = takes.whole; done = takes.done }

module _ (site : Site) (regular : AreRegular site) (number : ℕ) where
  -- the number asked last on a file is less than the next one
  pub last-less : (core : Core) → IsDone site number core → (file : ℕ) (opener : Opener)
      → opener_of site (who.File number file) ≡ Some opener
      → next_on core file - 1 < next_on core file
  last-less core is file opener opens =
      let next = next-is site regular number is.spec is.there is.deeds file opener opens is.done in omega (arith, next)

  -- after it asked on a file, its next number there is one more
  pub asked-next : (core next : Core) → IsDone site number core → (file : ℕ) (words : List ℤ) (opener : Opener)
      → Advances (openers_of site number) core (Asked file words) next
      → opener_of site (who.File number file) ≡ Some opener
      → next_on next file ≡ next_on core file + 1
  asked-next core next is file words opener advances opens =
      let before = next-is site regular number is.spec is.there is.deeds file opener opens is.done in
      let after = next-is site regular number is.spec is.there (Asked file words ∷ is.deeds) file opener opens
      (one_more is.done advances) in
      let more : length (requests_on file (Asked file words ∷ is.deeds)) ≡ length (requests_on file is.deeds) + 1 =
      rw (if-same file words) (omega arith) in
      omega (arith, before, after, more)

  -- what it awaits after an act of its own it has just sent
  pub own-awaited : {node : ℕ} {core next : Core} {before after : Around} {cause : Cause} {deed : Deed} {done : Act}
      {messages : List Message} → IsDone site number core
      → Causes site number node core before cause deed done messages after
      → Advances (openers_of site number) core deed next
      → (request : Request) → IsAmong request (awaited_by site number next) → IsAmong request after.requests
  own-awaited {core = core} {next = next} {before = before} is causes advances request among =
      by causes advances (awaited-last site number next request among)
      (done-steady (regular number is.spec is.there) is.done)
    where
      by : {node : ℕ} {after : Around} {cause : Cause} {deed : Deed} {done : Act} {messages : List Message}
          → Causes site number node core before cause deed done messages after → {next : Core}
          → Advances (openers_of site number) core deed next → IsLast site number next request
          → IsSteady core.state → IsAmong request after.requests
      by by_inner (goes at) last steady = absurd (calm-away _ (inner-calm core.state steady) last.stands)
      by (by_take {found = found} chosen) (takes block at there) last steady =
          absurd (calm-away _ (took-calm core.state found.request.words steady at) last.stands)
      by (by_answer known) (answers opener block at hand named there said) last steady =
          absurd (calm-away _ (answered-calm core.state steady at) last.stands)
      by (by_device stood) (acts {found = found} at call) last steady =
          absurd (calm-away _ (device-calm core.state found steady at) last.stands)
      by (by_write new) (acts {found = found} at call) last steady =
          absurd (calm-away _ (device-calm core.state found steady at) last.stands)
      by (by_reply {words = words} sent opens same said) (gets at named) last steady =
          absurd (calm-away _ (got-calm core.state words steady at) last.stands)
      by (by_ask {file = file} {words = words}) (asks at named said) last steady =
          let file_is : process.asked_file (process.after_asked core.state) ≡ file =
          asked-same core.state ∙ sym named in
          let opens : opener_of site (who.File number file) ≡ Some last.opener =
          subst (λ f. opener_of site (who.File number f) ≡ Some last.opener) file_is last.opens in
          let after : Core = record core {
            state = process.after_asked core.state;
            next = slice_set core.next file (next_on core file + 1);
          } in
          let more = asked-next core after is file words last.opener (asks at named said) opens in
          let number_is : next_on after file - 1 ≡ next_on core file = omega (arith, more) in
          let request_is = last.same in
          among-left request (asked_on site number core file words) before.requests
          (rw (opens) (inl (rw (request_is, file_is, number_is, asked-words core.state, said) refl)))
