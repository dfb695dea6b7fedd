-- What a deed more changes in the lists of a ledger.
use Rattle.std.proofs.Common.{◌≡◌, ◌≢◌, inl, inr, ℕ, ℤ, List, [], ◌∷◌, ◌++◌, Option, Some, None, refl, ap, sym, ◌∙◌}
use Rattle.std.proofs.Common.{eq-eqb, filter_map}
use Rattle.std.proofs.lemmas.Bool.Decides.{eqb_tells}
use Rattle.tal_tree.specs.declared.site.Who.{Who}
use Rattle.tal_tree.specs.declared.site.Who.TheVariants as who
use Rattle.plain_semantics.specs.declared.slot.Opener.{Opener}
use Rattle.process_histories.specs.world_semantics.specs.Core.{Deed}
use Rattle.process_histories.specs.Words.{take_from, answer_to, ask_on, get_on}
use Rattle.plain_histories.specs.Ledgers.{changed_at, Ledger, with_deed, with_deeds, requests_of, taken_of, answered_of}
use Rattle.plain_histories.specs.Ledgers.{replies_of}

pub changed-same : {A : Type 0} (number : ℕ) (value : A) (f : ℕ → A) → changed_at number value f number ≡ value
changed-same number value f = rw (eq-eqb number number refl) refl

pub changed-other : {A : Type 0} (number other : ℕ) (value : A) (f : ℕ → A) → number ≢ other
    → changed_at number value f other ≡ f other
changed-other number other value f apart =
    elim (eqb_tells number other) [ inl t ↦ absurd (apart t.1) | inr t ↦ rw t.0 refl ]

pub deeds-same : (number : ℕ) (deeds : List Deed) (ledger : Ledger)
    → (with_deeds number deeds ledger).deeds number ≡ deeds ++ ledger.deeds number
deeds-same number [] ledger = refl
deeds-same number (deed ∷ deeds) ledger =
    changed-same number (deed ∷ (with_deeds number deeds ledger).deeds number) (with_deeds number deeds ledger).deeds
    ∙ ap (λ all. deed ∷ all) (deeds-same number deeds ledger)

-- the words that are picked from the deeds of processes
pub picked-none : (f : Deed → Option (List ℤ)) (number : ℕ) (deed : Deed) (all : ℕ → List Deed) (other : ℕ)
    → (number ≡ other → f deed ≡ None)
    → filter_map f (changed_at number (deed ∷ all number) all other) ≡ filter_map f (all other)
picked-none f number deed all other none = elim (eqb_tells number other) [
  | inl t ↦ rw (t.0, none t.1) (ap (λ q. filter_map f (all q)) t.1)
  | inr t ↦ rw t.0 refl
]

pub picked-some : (f : Deed → Option (List ℤ)) (number : ℕ) (deed : Deed) (words : List ℤ) (all : ℕ → List Deed)
    → f deed ≡ Some words
    → filter_map f (changed_at number (deed ∷ all number) all number) ≡ words ∷ filter_map f (all number)
picked-some f number deed words all some = rw (changed-same number (deed ∷ all number) all, some) refl

-- a deed that isn't one of these leaves each list as it was

pub requests-still : (number : ℕ) (deed : Deed) (ledger : Ledger) (one : Who)
    → ((file : ℕ) → one ≡ who.File number file → ask_on file deed ≡ None)
    → requests_of (with_deed number deed ledger) one ≡ requests_of ledger one
requests-still number deed ledger (who.Terminal terminal) none = refl
requests-still number deed ledger (who.File process file) none =
    picked-none (ask_on file) number deed ledger.deeds process
    (λ same. none file (ap (λ p. who.File p file) (sym same)))

pub replies-still : (number : ℕ) (deed : Deed) (ledger : Ledger) (one : Who)
    → ((file : ℕ) → one ≡ who.File number file → get_on file deed ≡ None)
    → replies_of (with_deed number deed ledger) one ≡ replies_of ledger one
replies-still number deed ledger (who.Terminal terminal) none = refl
replies-still number deed ledger (who.File process file) none =
    picked-none (get_on file) number deed ledger.deeds process
    (λ same. none file (ap (λ p. who.File p file) (sym same)))

pub taken-still : (number : ℕ) (deed : Deed) (ledger : Ledger) (opener : Opener)
    → (number ≡ opener.server → take_from opener.place deed ≡ None)
    → taken_of (with_deed number deed ledger) opener ≡ taken_of ledger opener
taken-still number deed ledger opener none =
    picked-none (take_from opener.place) number deed ledger.deeds opener.server none

pub answered-still : (number : ℕ) (deed : Deed) (ledger : Ledger) (opener : Opener)
    → (number ≡ opener.server → answer_to opener.place deed ≡ None)
    → answered_of (with_deed number deed ledger) opener ≡ answered_of ledger opener
answered-still number deed ledger opener none =
    picked-none (answer_to opener.place) number deed ledger.deeds opener.server none
