-- Where each process that is behind its deeds awaits a reply that its server hasn't given, none is behind. This is the
-- one place where the order of the kept acts of different processes matters: it excludes that processes wait for each
-- other, each of them behind.
use Rattle.std.proofs.Common.{◌≡◌, ◌⊎◌, inl, inr, ℕ, ◌+◌, ◌<◌, ◌≤◌, List, [], ◌∷◌, ◌++◌, length, Some, slice_get, refl}
use Rattle.std.proofs.Common.{ap, sym, ◌∙◌, subst, arith, length-append, eq-eqb}
use Rattle.std.proofs.lemmas.Bool.{cases_lt}
use Rattle.std.proofs.lemmas.Bool.Decides.{eqb_tells}
use Rattle.tal_tree.specs.declared.act.Act.{Act}
use Rattle.tal_tree.specs.declared.act.Shown.{Shown}
use Rattle.tal_tree.specs.declared.site.Site.{Site}
use Rattle.tal_tree.specs.declared.site.ProcessSpec.{ProcessSpec}
use Rattle.tal_tree.specs.declared.site.Who.TheVariants as who
use Rattle.process_semantics.specs.declared.point.Point.TheVariants as point
use Rattle.process_semantics.specs.Process as process
use Rattle.plain_semantics.specs.declared.slot.Opener.{Opener}
use Rattle.plain_semantics.specs.Openers.{openers_of, opener_of}
use Rattle.world_semantics.specs.Core.{Core, Deed, Advances, goes, checkpoints, takes, asks, gets, answers, acts}
use Rattle.world_semantics.specs.Laws.{HasGrown}
use Rattle.world_semantics.proofs.Lists.{some-same, grown-one, grown-both}
use Rattle.process_histories.specs.Histories.{HasDone}
use Rattle.process_histories.specs.Words.{answer_to, answered_to, requests_on, awaits_on, one_if}
use Rattle.process_histories.proofs.Counts.{asked-count}
use Rattle.process_histories.proofs.Deeds.{done-one}
use Rattle.plain_histories.specs.Agreeing.{AreRegular}
use Rattle.plain_histories.specs.Booking.{IsAllowed, AreBooked, none_booked, deed_booked, entry_booked, reply_booked}
use Rattle.plain_histories.specs.Ledgers.{Ledger, with_deed, answered_of, replies_of}
use Rattle.plain_histories.proofs.Changed.{changed-same, changed-other}
use Rattle.plain_histories.proofs.Openers.{opener-is}
use Rattle.awaited_requests.proofs.Leads.{count-join}

-- Of two lists that grew to one, the shorter grew to the longer

shorter : (more xs rest ys : List Deed) → more ++ xs ≡ rest ++ ys → length xs ≤ length ys → HasGrown xs ys
shorter [] xs [] ys same less = ([], sym same)
shorter [] xs (deed ∷ rest) ys same less = absurd (omega (arith, ap length same, length-append rest ys, less))
shorter (deed ∷ more) xs [] ys same less = (deed ∷ more, sym same)
shorter (deed ∷ more) xs (other ∷ rest) ys same less =
    let tails : more ++ xs ≡ rest ++ ys = cc in shorter more xs rest ys tails less

grown-between : {xs ys whole : List Deed} → HasGrown xs whole → HasGrown ys whole → length xs ≤ length ys
    → HasGrown xs ys
grown-between {xs = xs} {ys = ys} one other less = shorter one.0 xs other.0 ys (sym one.1 ∙ other.1) less

pub grown-same : {xs ys : List Deed} → HasGrown xs ys → length ys ≤ length xs → ys ≡ xs
grown-same ([], same) most = same
grown-same {xs = xs} (deed ∷ more, same) most = absurd (omega (arith, ap length same, length-append more xs, most))

answered-grown : (place : ℕ) {before after : List Deed} → HasGrown before after
    → length (answered_to place before) ≤ length (answered_to place after)
answered-grown place {before = before} (more, same) =
    let count = count-join (answer_to place) more before in rw same (omega (arith, count))

-- how far a process is with its deeds: it has done all but the newest ones
pub record HasPast (site : Site) (number : ℕ) (spec : ProcessSpec) (deeds : List Deed) : Type 0 where
  pub past : List Deed
  pub grown : HasGrown past deeds
  pub core : Core
  pub done : HasDone site number spec past core

module _ (site : Site) (regular : AreRegular site) (end : Ledger)
    (at : (number : ℕ) (spec : ProcessSpec) → slice_get site.processes number ≡ Some spec
    → HasPast site number spec (end.deeds number)) where
  -- a process that has done these deeds awaits a reply: its server has answered fewer than it asked
  abbrev pub AwaitsMore : ℕ → List Deed → Core → Type 0
  AwaitsMore number past core =
      (process.point core.state ≡ point.Await)
      × ((opener : Opener) (server : ProcessSpec) (known : slice_get site.processes opener.server ≡ Some server)
      → opener_of site (who.File number (process.asked_file core.state)) ≡ Some opener
      → length (answered_to opener.place (at opener.server server known).past)
      < length (requests_on (process.asked_file core.state) past))

  -- a process has done all of its deeds, or awaits a reply
  abbrev pub IsStuck : (number : ℕ) (spec : ProcessSpec) → slice_get site.processes number ≡ Some spec → Type 0
  IsStuck number spec there =
      (end.deeds number ≡ (at number spec there).past)
      ⊎ AwaitsMore number (at number spec there).past (at number spec there).core

  -- no process has done fewer deeds than this ledger has
  abbrev AreWithin : Ledger → Type 0
  AreWithin ledger =
      (number : ℕ) (spec : ProcessSpec) (there : slice_get site.processes number ≡ Some spec)
      → length (ledger.deeds number) ≤ length (at number spec there).past

  module _ (stuck : (number : ℕ) (spec : ProcessSpec) (there : slice_get site.processes number ≡ Some spec)
      → IsStuck number spec there) where
    -- where a process has done just the deeds of a ledger, none of them is next
    no-next : (ledger : Ledger) (number : ℕ) (spec : ProcessSpec) (there : slice_get site.processes number ≡ Some spec)
        {deed : Deed} {before after : Core}
        → ((other : ℕ) → HasGrown (ledger.deeds other) (end.deeds other)) → AreWithin ledger
        → HasDone site number spec (ledger.deeds number) before
        → Advances (openers_of site number) before deed after → IsAllowed site ledger number spec deed
        → HasGrown (deed ∷ ledger.deeds number) (end.deeds number)
        → length (at number spec there).past ≡ length (ledger.deeds number) → ⊥
    no-next ledger number spec there {deed = deed} {before = before} grown within done advances allowed last level =
        by (stuck number spec there)
      where
        same : (at number spec there).past ≡ ledger.deeds number
        same = grown-same (grown-between (grown number) (at number spec there).grown (within number spec there))
            (omega (arith, level))

        core_same : (at number spec there).core ≡ before
        core_same = done-one (subst (λ deeds. HasDone site number spec deeds (at number spec there).core) same
            (at number spec there).done) done

        fewer : (opener : Opener) (server : ProcessSpec) (known : slice_get site.processes opener.server ≡ Some server)
            → length (answered_of ledger opener) ≤ length
            (answered_to opener.place (at opener.server server known).past)
        fewer opener server known =
            answered-grown opener.place (grown-between (grown opener.server) (at opener.server server known).grown
            (within opener.server server known))

        got : {deed : Deed} {after : Core} → Advances (openers_of site number) before deed after
            → IsAllowed site ledger number spec deed
            → AwaitsMore number (ledger.deeds number) before → ⊥
        got (goes stands) allowed awaits = let at = awaits.0 in cc
        got (checkpoints stands) allowed awaits = let at = awaits.0 in cc
        got (takes block stands known) allowed awaits = let at = awaits.0 in cc
        got (asks stands named said) allowed awaits = let at = awaits.0 in cc
        got (answers opener block stands hand known placed said) allowed awaits = let at = awaits.0 in cc
        got (acts stands call) allowed awaits = let at = awaits.0 in cc
        got (gets {file = file} {words = words} stands named) (opener, opens, answered) awaits =
            let is = opener-is site (who.File number file) opener opens in
            let one : one_if (awaits_on before.state file) ≡ 1 = rw (stands, ← named, eq-eqb file file refl) refl in
            let few = awaits.1 opener is.server is.named
            (subst (λ f. opener_of site (who.File number f) ≡ Some opener) named opens) in
            let few_on : length (answered_to opener.place (at opener.server is.server is.named).past)
            < length (requests_on file (ledger.deeds number)) =
            subst (λ f. length (answered_to opener.place (at opener.server is.server is.named).past)
            < length (requests_on f (ledger.deeds number))) (sym named) few in
            let most = fewer opener is.server is.named in
            let all : length (answered_of ledger opener) ≡ length (words ∷ replies_of ledger (who.File number file)) =
            ap length answered in
            let count = asked-count (regular number spec there) done file in
            omega (arith, few_on, most, all, count, one)

        by : IsStuck number spec there → ⊥
        by (inl all) =
            omega (arith, ap length all, ap length last.1, length-append last.0 (deed ∷ ledger.deeds number), level)
        by (inr awaits) = got advances allowed
            (subst (λ deeds. AwaitsMore number deeds before) same
            (subst (λ core. AwaitsMore number (at number spec there).past core) core_same awaits))

    -- so all processes have done what any ledger has that came before the last
    pub caught : {acts : List Act} {shown : List Shown} {ledger : Ledger} → AreBooked site acts shown ledger
        → ((other : ℕ) → HasGrown (ledger.deeds other) (end.deeds other)) → AreWithin ledger
    caught none_booked grown = λ number spec there. omega arith
    caught (entry_booked terminal opener words booked is even next) grown = caught booked grown
    caught (reply_booked terminal opener words booked is ready) grown = caught booked grown
    caught (deed_booked {ledger = ledger} number spec deed before after booked there done advances allowed) grown =
        by (caught booked old)
      where
        last : HasGrown (deed ∷ ledger.deeds number) (end.deeds number)
        last = subst (λ deeds. HasGrown deeds (end.deeds number))
            (changed-same number (deed ∷ ledger.deeds number) ledger.deeds) (grown number)

        old : (other : ℕ) → HasGrown (ledger.deeds other) (end.deeds other)
        old other = elim (eqb_tells number other) [
          | inl t ↦ subst (λ k. HasGrown (ledger.deeds k) (end.deeds k)) t.1
              (grown-both (grown-one deed (ledger.deeds number)) last)
          | inr t ↦ subst (λ deeds. HasGrown deeds (end.deeds other))
              (changed-other number other (deed ∷ ledger.deeds number) ledger.deeds t.1) (grown other)
        ]

        by : AreWithin ledger → AreWithin (with_deed number deed ledger)
        by within other one known = elim (eqb_tells number other) [
          | inl t ↦ subst (λ k. (spec : ProcessSpec) (there : slice_get site.processes k ≡ Some spec)
              → length ((with_deed number deed ledger).deeds k) ≤ length (at k spec there).past) t.1 here one known
          | inr t ↦ rw t.0 (within other one known)
        ]
          where
            here : (one : ProcessSpec) (known : slice_get site.processes number ≡ Some one)
                → length ((with_deed number deed ledger).deeds number) ≤ length (at number one known).past
            here one known =
                let same : spec ≡ one = some-same (sym there ∙ known) in
                let size : length ((with_deed number deed ledger).deeds number) ≡ length (ledger.deeds number) + 1 =
                ap length (changed-same number (deed ∷ ledger.deeds number) ledger.deeds) ∙ omega arith in
                elim (cases_lt (length (ledger.deeds number)) (length (at number one known).past)) [
                  | inl less ↦ omega (arith, size, less)
                  | inr most ↦ absurd (no-next ledger number one known old within
                      (subst (λ (s : ProcessSpec). HasDone site number s (ledger.deeds number) before) same done)
                      advances
                      (subst (λ (s : ProcessSpec). IsAllowed site ledger number s deed) same allowed) last
                      (let under = within number one known in omega (arith, most, under)))
                ]
