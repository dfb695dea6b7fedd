-- The programs of the load deck are accepted.
use Rattle.std.proofs.Common.{◌≡◌, ℕ, zero, suc, ◌%◌, List, [], ◌∷◌, ◌++◌, Some, subst}
use Rattle.tal_tree.specs.declared.program.Program.{Program}
use Rattle.tal_tree.specs.declared.site.ProcessSpec.{ProcessSpec}
use Rattle.path_semantics.specs.Accepted.{IsAccepted}
use Rattle.verdicts.specs.Refused.{AreAccepted, program_of}
use Rattle.load_laws.specs.LoadDeck.{bank, bank_program, disc, each_below, load_site}
use Rattle.load_laws.proofs.Paths.{program-accepted}

-- the program of the process, if it has one, is accepted
abbrev IsFine : ProcessSpec → Type 0
IsFine spec = (program : Program) → program_of spec.what ≡ Some program → IsAccepted program

accepted-more : (spec : ProcessSpec) (specs : List ProcessSpec) → IsFine spec → AreAccepted specs
    → AreAccepted (spec ∷ specs)
accepted-more spec specs one rest zero program there = one program there
accepted-more spec specs one rest (suc place) program there = rest place program there

accepted-none : AreAccepted []
accepted-none place program there = absurd (cc)

accepted-both : (front back : List ProcessSpec) → AreAccepted front → AreAccepted back → AreAccepted (front ++ back)
accepted-both [] back all both = both
accepted-both (spec ∷ front) back all both =
    accepted-more spec (front ++ back) (all zero) (accepted-both front back (λ place. all (suc place)) both)

accepted-below : (make : ℕ → ProcessSpec) → ((number : ℕ) → IsFine (make number)) → (bound : ℕ)
    → AreAccepted (each_below make bound)
accepted-below make each zero = accepted-none
accepted-below make each (suc number) =
    accepted-both (each_below make number) (make number ∷ []) (accepted-below make each number)
    (accepted-more (make number) [] (each number) accepted-none)

disc-fine : (number : ℕ) → IsFine (disc number)
disc-fine number program there = absurd (cc)

bank-fine : (number : ℕ) → IsFine (bank number)
bank-fine number program there =
    let same : bank_program (number % 2) number ≡ program =
    cc in subst IsAccepted same (program-accepted (number % 2) number)

pub load-accepted : (count : ℕ) → AreAccepted (load_site count).processes
load-accepted count = accepted-both (each_below disc 2) (each_below bank 12) (accepted-below disc disc-fine 2)
    (accepted-below bank bank-fine 12)
