-- The signs that names have.
use Rattle.std.proofs.Common.{◌≡◌, ℕ, Bool, true, false, nat_eq, nat_le, ◌&&◌, ◌||◌, not, cond, List, [], ◌∷◌, ◌++◌}
use Rattle.std.proofs.Common.{length}
use Rattle.std.proofs.Common.{Some, None, refl, sym, ap, ◌∙◌, subst, eqb-true}
use Rattle.std.specs.List.{list_all, list_any}
use Rattle.std.specs.Char.{is_ascii_alphabetic, is_ascii_alphanumeric, is_ascii_digit}
use Rattle.std.proofs.lemmas.Bool.{and_parts, or_from, true≢false, false_from_ne_true, eq-eqb}
use Rattle.gd_words.specs.Spelling.{ident_of, is_ident, is_ident_sign, is_name, is_name_tail, name_of, upper}
use Rattle.tal_pieces.proofs.Spelling.Begun.{spelled_so}
use Rattle.tal_pieces.proofs.Spelling.UpperCase.{name_again}

-- a sign that isn't of a kind isn't among signs that all are
free-of : (is : ℕ → Bool) (k : ℕ) → is k ≡ false → (text : List ℕ) → list_all is text ≡ true
    → list_any (λ c. nat_eq c k) text ≡ false
free-of is k none [] all = refl
free-of is k none (c ∷ text) all =
    let parts = and_parts (is c) (list_all is text) all in
    or_from (nat_eq c k) (list_any (λ c. nat_eq c k) text) (differs is k c none parts.0)
    (free-of is k none text parts.1)
  where
    differs : (is : ℕ → Bool) (k c : ℕ) → is k ≡ false → is c ≡ true → nat_eq c k ≡ false
    differs is k c none one =
        false_from_ne_true (nat_eq c k) (λ e. true≢false (sym one ∙ ap is (eqb-true c k e) ∙ none))

-- an identifier has no line feed
pub ident-whole : (name : List ℕ) → ident_of name ≡ Some name → list_any (λ c. nat_eq c 10) name ≡ false
ident-whole [] kept = refl
ident-whole (c ∷ more) kept =
    let ident : is_ident (c ∷ more) ≡ true = spelled_so (is_ident (c ∷ more)) (upper (c ∷ more)) (c ∷ more) kept in
    let parts = and_parts (not (is_ascii_digit c) && nat_le (length more) 30) (list_all is_ident_sign (c ∷ more))
    ident in
    free-of is_ident_sign 10 refl (c ∷ more) parts.1

-- a sign that names haven't
pub record IsNoSign (k : ℕ) : Type 0 where
  pub dollar : nat_eq 36 k ≡ false
  pub letter : is_ascii_alphabetic k ≡ false
  pub other : is_ascii_alphanumeric k ≡ false

tail-free : (k : ℕ) → IsNoSign k → (tail : List ℕ) → is_name_tail tail ≡ true
    → list_any (λ c. nat_eq c k) tail ≡ false
tail-free k none [] is = refl
tail-free k none (c ∷ rest) is =
    let parts = and_parts (is_ascii_alphabetic c && nat_le (length rest) 4) (list_all is_ascii_alphanumeric rest) is in
    let first = and_parts (is_ascii_alphabetic c) (nat_le (length rest) 4) parts.0 in
    or_from (nat_eq c k) (list_any (λ c. nat_eq c k) rest)
    (false_from_ne_true (nat_eq c k)
    (λ e. true≢false (sym first.0 ∙ ap is_ascii_alphabetic (eqb-true c k e) ∙ none.letter)))
    (free-of is_ascii_alphanumeric k none.other rest parts.1)

pub name-free : (k : ℕ) → IsNoSign k → (name : List ℕ) → is_name name ≡ true
    → list_any (λ c. nat_eq c k) name ≡ false
name-free k none [] is = refl
name-free k none (sign ∷ tail) is =
    let parts = and_parts (nat_eq sign 36) (is_name_tail tail) is in
    or_from (nat_eq sign k) (list_any (λ c. nat_eq c k) tail)
    (ap (λ (c : ℕ). nat_eq c k) (eqb-true sign 36 parts.0) ∙ none.dollar) (tail-free k none tail parts.1)

-- what is kept of a name is one
pub name-kept : (text name : List ℕ) → name_of text ≡ Some name → is_name name ≡ true
name-kept text name is = by (is_name text) refl is
  where
    by : (b : Bool) → is_name text ≡ b → cond b (Some (upper text)) None ≡ Some name → is_name name ≡ true
    by true e is =
        let same : upper text ≡ name = cc is in
        subst (λ (n : List ℕ). is_name n ≡ true) same
        (spelled_so (is_name (upper text)) (upper (upper text)) (upper text) (name_again text e))
    by false e is = absurd (cc is)

-- a sign between two texts
pub has-sign : (k : ℕ) (name rest : List ℕ) → list_any (λ c. nat_eq c k) (name ++ k ∷ rest) ≡ true
has-sign k [] rest = by (nat_eq k k) (eq-eqb k k refl)
  where
    by : (b : Bool) → b ≡ true → (b || list_any (λ c. nat_eq c k) rest) ≡ true
    by true e = refl
    by false e = absurd (true≢false (sym e))
has-sign k (c ∷ name) rest = by (nat_eq c k) (has-sign k name rest)
  where
    by : (b : Bool) → list_any (λ c. nat_eq c k) (name ++ k ∷ rest) ≡ true
        → (b || list_any (λ c. nat_eq c k) (name ++ k ∷ rest)) ≡ true
    by true e = refl
    by false e = e
