-- Bytes that a source or a sink tells, over several calls.
use Rattle.std.proofs.Common.{◌≡◌, ℕ, ◌+◌, ◌≤◌, List, ◌++◌, Option, Some, None, Err, length, take, drop, refl, sym, ap}
use Rattle.std.proofs.Common.{◌∙◌, subst, arith, append_assoc, take-add}
use Rattle.std.proofs.lemmas.List.{length-append}
use Rattle.std.proofs.Math.Seq.{drop-append_seam}
use Rattle.std.specs.Io.KnownBytes.{Appends, Consumes, Keeps}
use Rattle.gd_words.specs.Memory.{no_memory}
use Rattle.gd_io.specs.Joining.{Appends-more}
use Rattle.gd_io.specs.Reads.{ReadsFrom}
use Rattle.gd_io.specs.declared.reading.SourceFault.TheVariants.{Failed, TooLong, NoMemory}

pub Consumes-keeps : (old mid new : Option (List ℕ)) (bs : List ℕ) → Consumes old mid bs → Keeps mid new
    → Consumes old new bs
Consumes-keeps None mid new bs h k = tt
Consumes-keeps (Some xs) None new bs h k = absurd h
Consumes-keeps (Some xs) (Some ys) None bs h k = absurd k
Consumes-keeps (Some xs) (Some ys) (Some zs) bs h k = h ∙ ap (λ ws. bs ++ ws) (sym k)

pub Consumes-more : (old mid new : Option (List ℕ)) (bs cs : List ℕ) → Consumes old mid bs → Consumes mid new cs
    → Consumes old new (bs ++ cs)
Consumes-more None mid new bs cs h k = tt
Consumes-more (Some xs) None new bs cs h k = absurd h
Consumes-more (Some xs) (Some ys) None bs cs h k = absurd k
Consumes-more (Some xs) (Some ys) (Some zs) bs cs h k = h ∙ ap (λ ws. bs ++ ws) k ∙ sym (append_assoc bs cs zs)

pub too_long : (most : ℕ) (old new : Option (List ℕ)) (taken : List ℕ) → length taken ≡ most + 1
    → Consumes old new taken → ReadsFrom most old new (Err TooLong)
too_long most None new taken e h = (taken, drop (most + 1) taken, tt, (omega arith, refl))
too_long most (Some xs) None taken e h = absurd h
too_long most (Some xs) (Some ys) taken e h = (
  taken ++ ys,
  ys,
  (h, refl),
  (omega (arith, length-append taken ys), sym (rw (← e) (drop-append_seam taken ys))),
)

pub failed : (most : ℕ) (old new : Option (List ℕ)) (taken : List ℕ) → length taken ≤ most → Consumes old new taken
    → ReadsFrom most old new (Err Failed)
failed most None new taken e h = (taken, drop (length taken) taken, tt, (length taken, e, refl))
failed most (Some xs) None taken e h = absurd h
failed most (Some xs) (Some ys) taken e h =
    (taken ++ ys, ys, (h, refl), (length taken, e, sym (drop-append_seam taken ys)))

pub memory_ran_out : (most : ℕ) (old new : Option (List ℕ)) (taken : List ℕ) → length taken ≤ most + 1
    → Consumes old new taken → ReadsFrom most old new (Err (NoMemory no_memory))
memory_ran_out most None new taken e h = (taken, drop (length taken) taken, tt, (length taken, e, refl))
memory_ran_out most (Some xs) None taken e h = absurd h
memory_ran_out most (Some xs) (Some ys) taken e h =
    (taken ++ ys, ys, (h, refl), (length taken, e, sym (drop-append_seam taken ys)))

-- first some bytes of a piece, then some of the rest
pub Appends-take : (old mid new : Option (List ℕ)) (piece rest : List ℕ) (at n : ℕ) → rest ≡ drop at piece
    → Appends old mid (take at piece) → Appends mid new (take n rest) → Appends old new (take (at + n) piece)
Appends-take old mid new piece rest at n e h k =
    rw (take-add at n piece, ← e) (Appends-more old mid new (take at piece) (take n rest) h k)

pub sure_along : (sure : ℕ → Type 0) (a b : ℕ) → a ≡ b → sure a → sure b
sure_along sure a b e h = subst sure e h
