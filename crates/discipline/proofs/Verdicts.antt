-- A program has one verdict.
use Rattle.std.proofs.Common.{◌≡◌, ◌≤◌, ◌<◌, ◌⊎◌, inl, inr, ℕ, arith, List, length, refl, ap, sym, ◌∙◌, subst}
use Rattle.std.specs.Prelude.{⊤, Result, Ok, Err}
use Rattle.gd_words.specs.Memory.{no_memory}
use Rattle.tal_tree.specs.declared.program.Program.{Program}
use Rattle.path_semantics.specs.declared.reason.Reason.{Reason}
use Rattle.path_semantics.specs.declared.reason.Reason.TheVariants.{Data, SyncBlock, Input, Depth}
use Rattle.path_semantics.specs.declared.reason.RefusalFault.{RefusalFault}
use Rattle.path_semantics.specs.declared.reason.RefusalFault.TheVariants.{TooDeep, TooLarge, Broken, NoMemory}
use Rattle.path_semantics.specs.Accepted.{IsAccepted}
use Rattle.path_semantics.specs.Break.{Breaks}
use Rattle.discipline.specs.Verdict.{IsEarlier, IsFirst, IsVerdict, Agree}

-- an accepted program is refused only if memory ran out
pub accepted-ok : (program : Program) (result : Result ⊤ RefusalFault) → IsVerdict program result → IsAccepted program
    → (result ≡ Ok tt) ⊎ (result ≡ Err (NoMemory no_memory))
accepted-ok program (Ok _) verdict accepted = inl refl
accepted-ok program (Err TooDeep) verdict accepted = absurd (let bound = accepted.bounds.depth in omega arith)
accepted-ok program (Err (TooLarge n)) verdict accepted =
    absurd (let bound = accepted.bounds.size in let large = verdict.1 in omega arith)
accepted-ok program (Err (Broken reason path)) verdict accepted =
    absurd (accepted.unbroken path reason verdict.shortest.breaks)
accepted-ok program (Err (NoMemory _)) verdict accepted = inr refl

less-or-more : (n m : ℕ) → (n < m) ⊎ ((n ≡ m) ⊎ (m < n))
less-or-more n m = grind arith

by-number : (R : ℕ → Reason) (Earlier : ℕ → ℕ → Type 0) (n m : ℕ) → ((n m : ℕ) → n < m → Earlier n m)
    → (n < m) ⊎ ((n ≡ m) ⊎ (m < n)) → Earlier n m ⊎ ((R n ≡ R m) ⊎ Earlier m n)
by-number R Earlier n m earlier (inl less) = inl (earlier n m less)
by-number R Earlier n m earlier (inr (inl same)) = inr (inl (ap R same))
by-number R Earlier n m earlier (inr (inr more)) = inr (inr (earlier m n more))

-- of two reasons one is earlier
one-earlier : (one other : Reason) → IsEarlier one other ⊎ ((one ≡ other) ⊎ IsEarlier other one)
one-earlier (Data n) (Data m) =
    by-number Data (λ n m. IsEarlier (Data n) (Data m)) n m (λ n m less. less) (less-or-more n m)
one-earlier (Data n) (SyncBlock m) = inl tt
one-earlier (Data n) Input = inl tt
one-earlier (Data n) (Depth m) = inl tt
one-earlier (SyncBlock n) (Data m) = inr (inr tt)
one-earlier (SyncBlock n) (SyncBlock m) =
    by-number SyncBlock (λ n m. IsEarlier (SyncBlock n) (SyncBlock m)) n m (λ n m less. less) (less-or-more n m)
one-earlier (SyncBlock n) Input = inl tt
one-earlier (SyncBlock n) (Depth m) = inl tt
one-earlier Input (Data m) = inr (inr tt)
one-earlier Input (SyncBlock m) = inr (inr tt)
one-earlier Input Input = inr (inl refl)
one-earlier Input (Depth m) = inl tt
one-earlier (Depth n) (Data m) = inr (inr tt)
one-earlier (Depth n) (SyncBlock m) = inr (inr tt)
one-earlier (Depth n) Input = inr (inr tt)
one-earlier (Depth n) (Depth m) =
    by-number Depth (λ n m. IsEarlier (Depth n) (Depth m)) n m (λ n m less. less) (less-or-more n m)

both-first : (program : Program) (one other : Reason) (path other_path : List ℕ) → IsFirst program one path
    → IsFirst program other other_path
    → IsEarlier one other ⊎ ((one ≡ other) ⊎ IsEarlier other one) → (one ≡ other) × (length path ≡ length other_path)
both-first program one other path other_path first second (inl earlier) =
    absurd (second.first one path earlier first.shortest.breaks)
both-first program one other path other_path first second (inr (inr earlier)) =
    absurd (first.first other other_path earlier second.shortest.breaks)
both-first program one other path other_path first second (inr (inl same)) =
    let at_most : length path ≤ length other_path =
    first.shortest.least other_path (subst (Breaks program other_path) (sym same) second.shortest.breaks) in
    let at_least : length other_path ≤ length path =
    second.shortest.least path (subst (Breaks program path) same first.shortest.breaks) in
    (same, omega arith)

pub verdicts-agree : (program : Program) (one other : Result ⊤ RefusalFault) → IsVerdict program one
    → IsVerdict program other → Agree one other
verdicts-agree program (Err (NoMemory _)) other first second = tt
verdicts-agree program (Ok _) (Err (NoMemory _)) first second = tt
verdicts-agree program (Err TooDeep) (Err (NoMemory _)) first second = tt
verdicts-agree program (Err (TooLarge n)) (Err (NoMemory _)) first second = tt
verdicts-agree program (Err (Broken reason path)) (Err (NoMemory _)) first second = tt
verdicts-agree program (Ok _) (Ok _) first second = tt
verdicts-agree program (Ok _) (Err TooDeep) first second = let bound = first.bounds.depth in omega arith
verdicts-agree program (Ok _) (Err (TooLarge m)) first second =
    let bound = first.bounds.size in let large = second.1 in omega arith
verdicts-agree program (Ok _) (Err (Broken reason path)) first second =
    first.unbroken path reason second.shortest.breaks
verdicts-agree program (Err TooDeep) (Ok _) first second = let bound = second.bounds.depth in omega arith
verdicts-agree program (Err TooDeep) (Err TooDeep) first second = tt
verdicts-agree program (Err TooDeep) (Err (TooLarge m)) first second = let shallow = second.0 in omega arith
verdicts-agree program (Err TooDeep) (Err (Broken reason path)) first second =
    let bound = second.bounds.depth in omega arith
verdicts-agree program (Err (TooLarge n)) (Ok _) first second =
    let bound = second.bounds.size in let large = first.1 in omega arith
verdicts-agree program (Err (TooLarge n)) (Err TooDeep) first second = let shallow = first.0 in omega arith
verdicts-agree program (Err (TooLarge n)) (Err (TooLarge m)) first second = first.2 ∙ sym second.2
verdicts-agree program (Err (TooLarge n)) (Err (Broken reason path)) first second =
    let bound = second.bounds.size in let large = first.1 in omega arith
verdicts-agree program (Err (Broken reason path)) (Ok _) first second =
    second.unbroken path reason first.shortest.breaks
verdicts-agree program (Err (Broken reason path)) (Err TooDeep) first second =
    let bound = first.bounds.depth in omega arith
verdicts-agree program (Err (Broken reason path)) (Err (TooLarge m)) first second =
    let bound = first.bounds.size in let large = second.1 in omega arith
verdicts-agree program (Err (Broken reason path)) (Err (Broken other other_path)) first second =
    both-first program reason other path other_path first second (one-earlier reason other)
