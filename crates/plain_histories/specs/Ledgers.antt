-- What all processes of a site have done, and what its terminals entered and printed. Lists have the newest first.
use Rattle.std.specs.Prelude.{ℕ, ◌==◌, ℤ, if◌then◌else◌, List, [], ◌∷◌}
use Rattle.tal_tree.specs.declared.site.Who.{Who}
use Rattle.tal_tree.specs.declared.site.Who.TheVariants as who
use Rattle.plain_semantics.specs.declared.slot.Opener.{Opener}
use Rattle.process_histories.specs.world_semantics.specs.Core.{Deed}
use Rattle.process_histories.specs.Words.{taken_from, answered_to, requests_on, replies_on}

-- the deeds of each process, and the words that each terminal entered and printed
pub record Ledger : Type 0 where
  pub deeds : ℕ → List Deed
  pub entered : ℕ → List (List ℤ)
  pub printed : ℕ → List (List ℤ)

-- nothing was done, entered or printed
abbrev pub empty_ledger : Ledger
empty_ledger = record { deeds = λ number. []; entered = λ terminal. []; printed = λ terminal. [] }

-- a function with its value at one number changed
abbrev pub changed_at : {A : Type 0} → ℕ → A → (ℕ → A) → ℕ → A
changed_at number value f other = if number == other then value else f other

-- the ledger after one deed more of a process
abbrev pub with_deed : ℕ → Deed → Ledger → Ledger
with_deed number deed ledger = record ledger { deeds = changed_at number (deed ∷ ledger.deeds number) ledger.deeds }

-- the ledger after more deeds of a process
abbrev pub with_deeds : ℕ → List Deed → Ledger → Ledger
with_deeds number [] ledger = ledger
with_deeds number (deed ∷ deeds) ledger = with_deed number deed (with_deeds number deeds ledger)

-- the ledger after a terminal entered words
abbrev pub with_entered : ℕ → List ℤ → Ledger → Ledger
with_entered terminal words ledger =
    record ledger { entered = changed_at terminal (words ∷ ledger.entered terminal) ledger.entered }

-- the ledger after a terminal printed words
abbrev pub with_printed : ℕ → List ℤ → Ledger → Ledger
with_printed terminal words ledger =
    record ledger { printed = changed_at terminal (words ∷ ledger.printed terminal) ledger.printed }

-- Between an opener and its server

-- the requests of an opener: what a file asked, or a terminal entered
abbrev pub requests_of : Ledger → Who → List (List ℤ)
requests_of ledger (who.File process file) = requests_on file (ledger.deeds process)
requests_of ledger (who.Terminal terminal) = ledger.entered terminal

-- those of them that the server took
abbrev pub taken_of : Ledger → Opener → List (List ℤ)
taken_of ledger opener = taken_from opener.place (ledger.deeds opener.server)

-- the replies that the server answered to an opener
abbrev pub answered_of : Ledger → Opener → List (List ℤ)
answered_of ledger opener = answered_to opener.place (ledger.deeds opener.server)

-- those of them that the opener has: what was got on a file, or a terminal printed
abbrev pub replies_of : Ledger → Who → List (List ℤ)
replies_of ledger (who.File process file) = replies_on file (ledger.deeds process)
replies_of ledger (who.Terminal terminal) = ledger.printed terminal
