-- A ledger has as many deeds of a process as there are acts of its own, and short ones where the terminals' requests
-- are short.
use Rattle.std.proofs.Common.{◌≡◌, ◌≢◌, ◌==◌, ◌≤◌, inl, inr, ℕ, ℤ, false, List, ◌∷◌, length, refl, ap, sym, subst}
use Rattle.std.proofs.Common.{arith, eq-eqb}
use Rattle.std.proofs.lemmas.Bool.Decides.{eqb_tells}
use Rattle.gd_words.specs.Members.{IsAmong}
use Rattle.tal_tree.specs.declared.act.Act.{Act}
use Rattle.tal_tree.specs.declared.act.Shown.{Shown}
use Rattle.tal_tree.specs.declared.site.ProcessSpec.{ProcessSpec}
use Rattle.tal_tree.specs.declared.site.Site.{Site}
use Rattle.tal_tree.specs.declared.site.Who.{Who}
use Rattle.tal_tree.specs.declared.site.Who.TheVariants as who
use Rattle.process_histories.specs.world_semantics.specs.Core.{Core, Deed, Went, Checkpointed, Took, Asked, Got}
use Rattle.process_histories.specs.world_semantics.specs.Core.{Answered, Acted}
use Rattle.process_histories.specs.world_semantics.specs.Kept.{is_own, own_acts}
use Rattle.process_histories.specs.Bounds.{IsShort, AreShort}
use Rattle.process_histories.specs.Histories.{HasDone, one_more}
use Rattle.process_histories.specs.Words.{requests_on}
use Rattle.process_histories.proofs.Short.{requests-short}
use Rattle.process_histories.proofs.Whole.{found-eight}
use Rattle.plain_histories.specs.Booking.{act_of, IsAllowed, AreBooked, none_booked, deed_booked, entry_booked}
use Rattle.plain_histories.specs.Booking.{reply_booked, AreShortRequests}
use Rattle.plain_histories.specs.Ledgers.{Ledger, empty_ledger, with_deed, with_entered, requests_of}
use Rattle.plain_histories.proofs.Changed.{changed-same, changed-other}
use Rattle.plain_histories.proofs.Terminals.{requests-printed}

own-of : (number other : ℕ) (deed : Deed) → is_own other (act_of number deed) ≡ (other == number)
own-of number other Went = refl
own-of number other Checkpointed = refl
own-of number other (Took place words) = refl
own-of number other (Asked file words) = refl
own-of number other (Got file words) = refl
own-of number other (Answered place words) = refl
own-of number other (Acted call found) = refl

apart-eqb : (one other : ℕ) → one ≢ other → (one == other) ≡ false
apart-eqb one other apart = elim (eqb_tells one other) [ inl t ↦ absurd (apart t.1) | inr t ↦ t.0 ]

pub booked-count : {site : Site} {acts : List Act} {shown : List Shown} {ledger : Ledger}
    → AreBooked site acts shown ledger → (number : ℕ)
    → own_acts number acts ≡ length (ledger.deeds number)
booked-count none_booked number = refl
booked-count (deed_booked {ledger = ledger} one spec deed before after booked there done advances allowed) number =
    elim (eqb_tells one number) [
      | inl t ↦
          (let count = booked-count booked number in
          let same : length (ledger.deeds one) ≡ length (ledger.deeds number) = ap (λ k. length (ledger.deeds k)) t.1 in
          rw (own-of one number deed, eq-eqb number one (sym t.1), t.0) (omega (arith, count, same)))
      | inr t ↦ (let count = booked-count booked number in
          rw (own-of one number deed, apart-eqb number one (λ e. t.1 (sym e)), t.0) (omega (arith, count)))
    ]
booked-count (entry_booked terminal opener words booked is even next) number =
    let count = booked-count booked number in omega (arith, count)
booked-count (reply_booked terminal opener words booked is ready) number =
    let count = booked-count booked number in omega (arith, count)

pub record IsShortLedger (ledger : Ledger) : Type 0 where
  pub requests : (one : Who) (words : List ℤ) → IsAmong words (requests_of ledger one) → length words ≤ 16
  pub deeds : (number : ℕ) → AreShort (ledger.deeds number)

allowed-short : {site : Site} {ledger : Ledger} (number : ℕ) (spec : ProcessSpec) {before : Core} (deed : Deed)
    → IsShortLedger ledger
    → HasDone site number spec (ledger.deeds number) before → IsAllowed site ledger number spec deed → IsShort deed
allowed-short number spec (Took place words) is done (one, opens, waits) =
    is.requests one words (subst (λ all. IsAmong words all) (sym waits) (inl refl))
allowed-short number spec (Acted call found) is done found_is =
    let eight = found-eight call done in rw found_is (omega (arith, eight))
allowed-short number spec Went is done allowed = tt
allowed-short number spec Checkpointed is done allowed = tt
allowed-short number spec (Asked file words) is done allowed = tt
allowed-short number spec (Got file words) is done allowed = tt
allowed-short number spec (Answered place words) is done allowed = tt

pub booked-short : {site : Site} {acts : List Act} {shown : List Shown} {ledger : Ledger} → AreShortRequests site
    → AreBooked site acts shown ledger → IsShortLedger ledger
booked-short requests none_booked = record { requests = none; deeds = λ number. tt }
  where
    none : (one : Who) (words : List ℤ) → IsAmong words (requests_of empty_ledger one) → length words ≤ 16
    none (who.File process file) words among = absurd among
    none (who.Terminal terminal) words among = absurd among
booked-short requests (deed_booked {ledger = ledger} number spec deed before after booked there done advances allowed) =
    by (booked-short requests booked)
  where
    by : IsShortLedger ledger → IsShortLedger (with_deed number deed ledger)
    by is = record {
      requests = λ one words among. asked one words among;
      deeds = λ other. elim (eqb_tells number other) [
        | inl t ↦ rw t.0 (allowed-short number spec deed is done allowed, is.deeds number)
        | inr t ↦ rw t.0 (is.deeds other)
      ];
    }
      where
        asked : (one : Who) (words : List ℤ) → IsAmong words (requests_of (with_deed number deed ledger) one)
            → length words ≤ 16
        asked (who.Terminal terminal) words among = is.requests (who.Terminal terminal) words among
        asked (who.File process file) words among = elim (eqb_tells number process) [
          | inl t ↦ requests-short (one_more done advances) file words
              (subst (λ (all : List Deed). IsAmong words (requests_on file all))
              (changed-same number (deed ∷ ledger.deeds number) ledger.deeds)
              (subst (λ k. IsAmong words (requests_on file ((with_deed number deed ledger).deeds k))) (sym t.1) among))
          | inr t ↦ is.requests (who.File process file) words
              (subst (λ (all : List Deed). IsAmong words (requests_on file all))
              (changed-other number process (deed ∷ ledger.deeds number) ledger.deeds t.1) among)
        ]
booked-short requests (entry_booked {ledger = ledger} terminal opener words booked is even next) =
    by (booked-short requests booked)
  where
    by : IsShortLedger ledger → IsShortLedger (with_entered terminal words ledger)
    by is = record { requests = asked; deeds = is.deeds }
      where
        new : (said : List ℤ) → IsAmong said (words ∷ ledger.entered terminal) → length said ≤ 16
        new said (inl same) = rw same (requests terminal (length (ledger.entered terminal)) words next)
        new said (inr among) = is.requests (who.Terminal terminal) said among

        asked : (one : Who) (said : List ℤ) → IsAmong said (requests_of (with_entered terminal words ledger) one)
            → length said ≤ 16
        asked (who.File process file) said among = is.requests (who.File process file) said among
        asked (who.Terminal other) said among = elim (eqb_tells terminal other) [
          | inl t ↦ new said (subst (λ (all : List (List ℤ)). IsAmong said all)
              (changed-same terminal (words ∷ ledger.entered terminal) ledger.entered)
              (subst (λ k. IsAmong said ((with_entered terminal words ledger).entered k)) (sym t.1) among))
          | inr t ↦ is.requests (who.Terminal other) said
              (subst (λ (all : List (List ℤ)). IsAmong said all)
              (changed-other terminal other (words ∷ ledger.entered terminal) ledger.entered t.1) among)
        ]
booked-short requests (reply_booked {ledger = ledger} terminal opener words booked is ready) =
    let before = booked-short requests booked in
    record {
      requests = λ one said among. before.requests one said
          (subst (λ (all : List (List ℤ)). IsAmong said all) (requests-printed ledger terminal words one) among);
      deeds = before.deeds;
    }
