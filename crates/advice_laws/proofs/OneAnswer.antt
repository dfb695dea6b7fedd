-- Two answers for a program are one.
use Rattle.std.proofs.Common.{◌≡◌, ◌≤◌, ◌<◌, inl, inr, ℕ, suc, ◌↔◌, IsTrue, List, [], ◌∷◌, map, length, slice_get, Some}
use Rattle.std.proofs.Common.{arith, refl, ap₂, subst, sym, ◌∙◌}
use Rattle.gd_words.specs.Members.{IsAmong, is_among}
use Rattle.gd_words.proofs.AmongTest.{among_there, among_back}
use Rattle.tal_tree.specs.declared.program.Program.{Program}
use Rattle.advice.specs.declared.answer.Advice.{Advice}
use Rattle.advice.specs.declared.answer.Advised.{Advised}
use Rattle.advice.specs.Advice.{IsLeastDepth}
use Rattle.advice.specs.Answer.{IsAscending, IsLeastList, IsAnswer}
use Rattle.advice.specs.Due.{IsItemDue, IsFileDue}

abbrev HaveSame : List ℕ → List ℕ → Type 0
HaveSame xs ys = ((n : ℕ) → IsAmong n xs → IsAmong n ys) × ((n : ℕ) → IsAmong n ys → IsAmong n xs)

-- in order, with the same numbers: their first ones are the same, and so is what is behind them
first-same : (x y : ℕ) (xs ys : List ℕ) → IsAscending (x ∷ xs) → IsAscending (y ∷ ys) → IsAmong x (y ∷ ys)
    → IsAmong y (x ∷ xs) → x ≡ y
first-same x y xs ys one other (inl same) back = same
first-same x y xs ys one other (inr behind) (inl same) = sym same
first-same x y xs ys one other (inr behind) (inr ahead) =
    let less : y < x = other.0 x behind in let more : x < y = one.0 y ahead in absurd (omega arith)

behind-first : (n x y : ℕ) (xs ys : List ℕ) → IsAscending (x ∷ xs) → x ≡ y → IsAmong n xs → IsAmong n (y ∷ ys)
    → IsAmong n ys
behind-first n x y xs ys one first among (inr behind) = behind
behind-first n x y xs ys one first among (inl same) =
    let less : x < n = one.0 n among in let is : n ≡ y = same in let first' : x ≡ y = first in absurd (omega arith)

ascending-same : (xs ys : List ℕ) → IsAscending xs → IsAscending ys → HaveSame xs ys → xs ≡ ys
ascending-same [] [] one other same = refl
ascending-same [] (y ∷ ys) one other same = absurd (same.1 y (inl refl))
ascending-same (x ∷ xs) [] one other same = absurd (same.0 x (inl refl))
ascending-same (x ∷ xs) (y ∷ ys) one other same =
    let first : x ≡ y = first-same x y xs ys one other (same.0 x (inl refl)) (same.1 y (inl refl)) in
    ap₂ (λ (n : ℕ) (ns : List ℕ). n ∷ ns) first
    (ascending-same xs ys one.1 other.1 (
      (λ n among. behind-first n x y xs ys one first among (same.0 n (inr among))),
      (λ n among. behind-first n y x ys xs other (sym first) among (same.1 n (inr among))),
    ))

module _ {Due : ℕ → Type 0} where
  due-same : (xs ys : List ℕ) → ((n : ℕ) → IsTrue (is_among n xs) ↔ Due n) → ((n : ℕ) → IsTrue (is_among n ys) ↔ Due n)
      → HaveSame xs ys
  due-same xs ys one other = (
    (λ n among. among_there n ys ((other n).1 ((one n).0 (among_back n xs among)))),
    (λ n among. among_there n xs ((one n).1 ((other n).0 (among_back n ys among)))),
  )

list-same : (program : Program) (one other : Advised) → one.statement ≡ other.statement → one.line ≡ other.line
    → IsLeastList program one → IsLeastList program other → one ≡ other
list-same program one other statement line first second =
    let items : one.items ≡ other.items =
    ascending-same one.items other.items first.ascending_items second.ascending_items
    (due-same one.items other.items first.items
    (subst (λ (n : ℕ). (item : ℕ) → IsTrue (is_among item other.items) ↔ IsItemDue program n item) (sym statement)
    second.items)) in
    let files : one.files ≡ other.files =
    ascending-same one.files other.files first.ascending_files second.ascending_files
    (due-same one.files other.files first.files
    (subst (λ (n : ℕ). (file : ℕ) → IsTrue (is_among file other.files) ↔ IsFileDue program n file) (sym statement)
    second.files)) in
    λ i. record { statement = statement i; line = line i; items = items i; files = files i }

lists-same : (program : Program) (ones others : List Advised)
    → map (λ (one : Advised). one.statement) ones ≡ map (λ (one : Advised). one.statement) others
    → map (λ (one : Advised). one.line) ones ≡ map (λ (one : Advised). one.line) others
    → ((one : Advised) → IsAmong one ones → IsLeastList program one)
    → ((one : Advised) → IsAmong one others → IsLeastList program one) → ones ≡ others
lists-same program [] [] numbers lines all each = refl
lists-same program [] (other ∷ others) numbers lines all each = absurd (cc)
lists-same program (one ∷ ones) [] numbers lines all each = absurd (cc)
lists-same program (one ∷ ones) (other ∷ others) numbers lines all each =
    let number : one.statement ≡ other.statement = cc in
    let line : one.line ≡ other.line = cc in
    let more : map (λ (x : Advised). x.statement) ones ≡ map (λ (x : Advised). x.statement) others = cc in
    let further : map (λ (x : Advised). x.line) ones ≡ map (λ (x : Advised). x.line) others = cc in
    ap₂ (λ (x : Advised) (xs : List Advised). x ∷ xs)
    (list-same program one other number line (all one (inl refl)) (each other (inl refl)))
    (lists-same program ones others more further (λ x among. all x (inr among)) (λ x among. each x (inr among)))

depths-same : (xs ys : List ℕ) → length xs ≡ length ys
    → ((k x y : ℕ) → slice_get xs k ≡ Some x → slice_get ys k ≡ Some y → x ≡ y) → xs ≡ ys
depths-same [] [] long same = refl
depths-same [] (y ∷ ys) long same = absurd (omega arith)
depths-same (x ∷ xs) [] long same = absurd (omega arith)
depths-same (x ∷ xs) (y ∷ ys) long same =
    ap₂ (λ (n : ℕ) (ns : List ℕ). n ∷ ns) (same 0 x y refl refl)
    (depths-same xs ys (omega arith) (λ k n m one other. same (suc k) n m one other))

pub answers-same : (program : Program) (one other : Advice) → IsAnswer program one → IsAnswer program other
    → one ≡ other
answers-same program one other first second =
    let lists : one.lists ≡ other.lists =
    lists-same program one.lists other.lists (first.numbers ∙ sym second.numbers) (first.lines ∙ sym second.lines)
    first.lists second.lists in
    let depths : one.depths ≡ other.depths =
    depths-same one.depths other.depths (first.count ∙ sym second.count) same in
    λ i. record { lists = lists i; depths = depths i }
  where
    same : (k n m : ℕ) → slice_get one.depths k ≡ Some n → slice_get other.depths k ≡ Some m → n ≡ m
    same k n m there also =
        let least : IsLeastDepth program k n = first.depths k n there in
        let other-least : IsLeastDepth program k m = second.depths k m also in
        let below : n ≤ m = least.least m other-least.enough in
        let above : m ≤ n = other-least.least n least.enough in
        omega arith
