-- Deeds that are held, and deeds that can be done anew.
use Rattle.std.proofs.Common.{◌≡◌, ◌≢◌, ◌⊎◌, inl, inr, ℕ, List, [], ◌∷◌, ◌++◌, length, refl, ap, sym, ◌∙◌, subst, arith}
use Rattle.std.proofs.Common.{append_assoc}
use Rattle.tal_tree.specs.declared.act.Act.{Act}
use Rattle.tal_tree.specs.declared.site.Site.{Site}
use Rattle.gd_words.specs.Members.{IsAmong}
use Rattle.world_semantics.specs.Core.{Deed, Went, Checkpointed, Took, Asked, Got, Answered, Acted}
use Rattle.plain_histories.specs.process_histories.specs.Bounds.{AreShort}
use Rattle.discipline_laws.specs.Disciplined.{IsCheckpoint, AreUncheckpointed, AreIdle}
use Rattle.plain_histories.specs.Booking.{AreHeld, none_held, take_held, step_held}
use Rattle.plain_histories.specs.Ledgers.{Ledger}
use Rattle.plain_histories.proofs.Counted.{IsShortLedger}
use Rattle.takeover_laws.specs.Invariant.{IsRepeatable, AreRepeatable}

-- Lists of deeds

pub uncheckpointed-join : (more deeds : List Deed) → AreUncheckpointed more → AreUncheckpointed deeds
    → AreUncheckpointed (more ++ deeds)
uncheckpointed-join [] deeds first last = last
uncheckpointed-join (deed ∷ more) deeds first last = (first.0, uncheckpointed-join more deeds first.1 last)

pub short-join : (more deeds : List Deed) → AreShort more → AreShort deeds → AreShort (more ++ deeds)
short-join [] deeds first last = last
short-join (deed ∷ more) deeds first last = (first.0, short-join more deeds first.1 last)

pub repeatable-join : (more deeds : List Deed) → AreRepeatable more → AreRepeatable deeds
    → AreRepeatable (more ++ deeds)
repeatable-join [] deeds first last = last
repeatable-join (deed ∷ more) deeds first last = (first.0, repeatable-join more deeds first.1 last)

repeatable-split : (more deeds : List Deed) → AreRepeatable (more ++ deeds) → AreRepeatable more × AreRepeatable deeds
repeatable-split [] deeds all = (tt, all)
repeatable-split (deed ∷ more) deeds all = let rest = repeatable-split more deeds all.1 in ((all.0, rest.0), rest.1)

one-uncheckpointed : (deed : Deed) → IsRepeatable deed → IsCheckpoint deed → ⊥
one-uncheckpointed Checkpointed again is = again
one-uncheckpointed Went again is = is
one-uncheckpointed (Took place words) again is = is
one-uncheckpointed (Asked file words) again is = is
one-uncheckpointed (Got file words) again is = is
one-uncheckpointed (Answered place words) again is = is
one-uncheckpointed (Acted call found) again is = is

pub repeatable-uncheckpointed : (deeds : List Deed) → AreRepeatable deeds → AreUncheckpointed deeds
repeatable-uncheckpointed [] all = tt
repeatable-uncheckpointed (deed ∷ deeds) all = (one-uncheckpointed deed all.0, repeatable-uncheckpointed deeds all.1)

pub no-checkpoint : (deed : Deed) → deed ≢ Checkpointed → IsCheckpoint deed → ⊥
no-checkpoint Checkpointed other is = other refl
no-checkpoint Went other is = is
no-checkpoint (Took place words) other is = is
no-checkpoint (Asked file words) other is = is
no-checkpoint (Got file words) other is = is
no-checkpoint (Answered place words) other is = is
no-checkpoint (Acted call found) other is = is

-- the oldest of some deeds
pub unsnoc : (some : List Deed) → (some ≡ []) ⊎ ((rest : List Deed) × (last : Deed) × (some ≡ rest ++ last ∷ []))
unsnoc [] = inl refl
unsnoc (deed ∷ some) = elim (unsnoc some) [
  | inl none ↦ inr ([], deed, ap (λ all. deed ∷ all) none)
  | inr more ↦ inr (deed ∷ more.0, more.1, ap (λ all. deed ∷ all) more.2)
]

pub repeatable-last : (since before rest : List Deed) (last : Deed) → since ≡ rest ++ last ∷ [] → AreRepeatable since
    → (since ++ before ≡ rest ++ last ∷ before) × IsRepeatable last × AreRepeatable rest
repeatable-last since before rest last is all =
    let parts = repeatable-split rest (last ∷ []) (subst AreRepeatable is all) in
    (ap (λ deeds. deeds ++ before) is ∙ append_assoc rest (last ∷ []) before, parts.1.0, parts.0)

-- Held deeds

module _ {site : Site} {ledger : Ledger} {number : ℕ} where
  pub held-uncheckpointed : {acts : List Act} {deeds : List Deed} → AreHeld site ledger number acts deeds
      → AreUncheckpointed deeds
  held-uncheckpointed none_held = tt
  held-uncheckpointed (take_held awaits) = (λ is. is, tt)
  held-uncheckpointed (step_held held) = (λ is. is, held-uncheckpointed held)

  pub held-idle : {acts : List Act} {deeds : List Deed} → AreHeld site ledger number acts deeds → AreIdle deeds
  held-idle none_held = tt
  held-idle (take_held awaits) = (λ call. call, tt)
  held-idle (step_held held) = (λ call. call, held-idle held)

  pub held-length : {acts : List Act} {deeds : List Deed} → AreHeld site ledger number acts deeds
      → length deeds ≡ length acts
  held-length none_held = refl
  held-length (take_held awaits) = refl
  held-length (step_held held) = let rest = held-length held in omega (arith, rest)

  pub held-short : {acts : List Act} {deeds : List Deed} → IsShortLedger ledger → AreHeld site ledger number acts deeds
      → AreShort deeds
  held-short short none_held = tt
  held-short short (take_held {words = words} (one, opens, waits)) =
      (short.requests one words (subst (λ all. IsAmong words all) (sym waits) (inl refl)), tt)
  held-short short (step_held held) = (tt, held-short short held)
