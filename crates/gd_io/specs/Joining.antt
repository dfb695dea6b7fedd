-- Texts written one after the other.
use Rattle.std.specs.Prelude.{ℕ, ◌+◌, ◌≤◌, List, [], ◌++◌, Option, Some, None, Result, Ok, Err, ⊤, IsOk, IsErr, OnErr}
use Rattle.std.specs.Prelude.{length, take, refl}
use Rattle.std.proofs.Common.{sym, ap, ◌∙◌, subst, arith, inl, inr, append-nil, append_assoc, length-append}
use Rattle.std.proofs.lemmas.List.{take-append-le}
use Rattle.std.proofs.Math.Nat.{eq-or-lt_of_le}
use Rattle.std.proofs.Math.Seq.{take-append-add}
use Rattle.std.specs.Io.KnownBytes.{Appends}
use Rattle.gd_io.specs.Faults.{HasRisen}
use Rattle.gd_io.specs.Puts.{Grows, Puts}
use Rattle.gd_io.specs.declared.writing.WriteFault.{WriteFault}

pub Appends-none : (held : Option (List ℕ)) → Appends held held []
Appends-none None = tt
Appends-none (Some xs) = sym (append-nil xs)

pub Appends-more : (old mid new : Option (List ℕ)) (bs cs : List ℕ) → Appends old mid bs → Appends mid new cs
    → Appends old new (bs ++ cs)
Appends-more None mid new bs cs h k = tt
Appends-more (Some xs) None new bs cs h k = absurd h
Appends-more (Some xs) (Some ys) None bs cs h k = absurd k
Appends-more (Some xs) (Some ys) (Some zs) bs cs h k = k ∙ ap (λ ws. ws ++ cs) h ∙ append_assoc xs bs cs

pub Grows-more : (old mid new : Option (List ℕ)) (xs ys : List ℕ) (result : Result ⊤ WriteFault)
    → Appends old mid xs → Grows mid new ys result → Grows old new (xs ++ ys) result
Grows-more old mid new xs ys (Ok done) h k = Appends-more old mid new xs ys h k
Grows-more old mid new xs ys (Err fault) h k = (
  length xs + k.0,
  omega (arith, length-append xs ys),
  rw (take-append-add xs ys k.0) (Appends-more old mid new xs (take k.0 ys) h k.2),
)

pub HasRisen-later : (old mid new : ℕ) → old ≤ mid → mid ≤ new → HasRisen mid new → HasRisen old new
HasRisen-later old mid new h k (inl rose) = inl (omega arith)
HasRisen-later old mid new h k (inr full) =
    elim (eq-or-lt_of_le h) [ inl same ↦ inr (omega arith) | inr below ↦ inl (omega arith) ]

-- nothing is written
pub puts_nothing : {K : Type 0} (held : K → Option (List ℕ)) (faults : K → ℕ) (sure : K → ℕ → Type 0) (sink : K)
    → Puts held faults sure sink sink [] (Ok tt)
puts_nothing held faults sure sink = record {
  bytes = Appends-none (held sink);
  later = omega arith;
  cause = tt;
  still = λ n h. refl;
  never = λ n h. (refl, subst (sure sink) (omega arith) h);
}

-- one text is written, and then another
pub puts_both : {K : Type 0} (held : K → Option (List ℕ)) (faults : K → ℕ) (sure : K → ℕ → Type 0) (old mid new : K)
    (first second : List ℕ) (result : Result ⊤ WriteFault)
    → Puts held faults sure old mid first (Ok tt) → Puts held faults sure mid new second result
    → Puts held faults sure old new (first ++ second) result
puts_both held faults sure old mid new first second result h k =
    let sure_first : (n : ℕ) → sure old (length (first ++ second) + n) → sure old (length first + (length second + n)) =
    λ n s. subst (sure old) (omega (arith, length-append first second)) s in
    record {
      bytes = Grows-more (held old) (held mid) (held new) first second result h.bytes k.bytes;
      later = omega arith;
      cause = rose result k.cause;
      still = λ n s. k.still n (h.never (length second + n) (sure_first n s)).1
          ∙ h.still (length second + n) (sure_first n s);
      never = λ n s. k.never n (h.never (length second + n) (sure_first n s)).1;
    }
  where
    rose : (result : Result ⊤ WriteFault) → OnErr result (HasRisen (faults mid) (faults new))
        → OnErr result (HasRisen (faults old) (faults new))
    rose (Ok done) c = tt
    rose (Err fault) c = HasRisen-later (faults old) (faults mid) (faults new) h.later k.later c

-- one text is not written whole, and so neither is it with another after it
pub puts_part : {K : Type 0} (held : K → Option (List ℕ)) (faults : K → ℕ) (sure : K → ℕ → Type 0) (old new : K)
    (first second : List ℕ) (fault : WriteFault)
    → Puts held faults sure old new first (Err fault) → Puts held faults sure old new (first ++ second) (Err fault)
puts_part held faults sure old new first second fault h =
    let sure_first : (n : ℕ) → sure old (length (first ++ second) + n) → sure old (length first + (length second + n)) =
    λ n s. subst (sure old) (omega (arith, length-append first second)) s in
    record {
      bytes = (
        h.bytes.0,
        omega (arith, length-append first second),
        rw (take-append-le h.bytes.0 first second (omega arith)) h.bytes.2,
      );
      later = h.later;
      cause = h.cause;
      still = λ n s. h.still (length second + n) (sure_first n s);
      never = λ n s. absurd (err_not_ok (h.never (length second + n) (sure_first n s)).0);
    }
  where
    err_not_ok : IsOk {T = ⊤} {E = WriteFault} (Err fault) → ⊥
    err_not_ok e = cc

-- a text that is not written whole stays so where its fault is passed on
pub puts_passed_on : {K : Type 0} (held : K → Option (List ℕ)) (faults : K → ℕ) (sure : K → ℕ → Type 0) (old new : K)
    (text : List ℕ) (fault : WriteFault) (result : Result ⊤ WriteFault)
    → IsErr result → Puts held faults sure old new text (Err fault) → Puts held faults sure old new text result
puts_passed_on held faults sure old new text fault (Ok done) e h = absurd (ok_not_err done e)
  where
    ok_not_err : (done : ⊤) → IsErr {T = ⊤} {E = WriteFault} (Ok done) → ⊥
    ok_not_err done e = cc
puts_passed_on held faults sure old new text fault (Err other) e h = record {
  bytes = h.bytes;
  later = h.later;
  cause = h.cause;
  still = h.still;
  never = λ n s. absurd (err_not_ok (h.never n s).0);
}
  where
    err_not_ok : IsOk {T = ⊤} {E = WriteFault} (Err fault) → ⊥
    err_not_ok e = cc
