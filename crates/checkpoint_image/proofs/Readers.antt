-- Readers: they read what is written and leave the words behind it, and what they read was written so.
use Rattle.std.proofs.Common.{◌≡◌, ◌≤◌, ◌+◌, ℕ, zero, suc, ℤ, pos, negsuc, Bool, true, false, if◌then◌else◌, List, []}
use Rattle.std.proofs.Common.{◌∷◌, ◌++◌, length, take, drop, flat_map, Some, None, nat_le, refl, ap, ap₂, sym, subst}
use Rattle.std.proofs.Common.{◌∙◌, append-nil, arith, append_assoc, length-append, option_and_then}
use Rattle.std.proofs.lemmas.Bool.{le-leb, leb-true}
use Rattle.std.proofs.lemmas.List.{take-append-drop, length-take}
use Rattle.std.proofs.lemmas.List.Elements.{All-head, All-tail, All-cons, All-nil}
use Rattle.std.proofs.Math.Seq.{take-append_seam, drop-append_seam}
use Rattle.std.specs.List.{All}
use Rattle.std.specs.Option.{option_map}
use Rattle.process_images.specs.process_semantics.specs.Words.{Front, whole, words_in}
use Rattle.checkpoint_image.specs.Layout.{words_of_list}
use Rattle.checkpoint_image.specs.Reading.{number_in, sized_in, both_in, many_in, listed_in}

-- what is read stands at the front of the words, and the rest is left
abbrev pub WasWritten : {A : Type 0} → (A → List ℤ) → (A → Type 0) → List ℤ → Front A → Type 0
WasWritten write Is words None = Unit {0}
WasWritten write Is words (Some (x, left)) = (words ≡ write x ++ left) × Is x

pub record IsReader {A : Type 0} (write : A → List ℤ) (Is : A → Type 0) (read : List ℤ → Front A) : Type 0 where
  pub again : (x : A) (left : List ℤ) → Is x → read (write x ++ left) ≡ Some (x, left)
  pub exact : (words : List ℤ) → WasWritten write Is words (read words)

-- A number up to a limit

pub number-reads : (limit : ℕ) → IsReader (λ n. pos n ∷ []) (λ n. n ≤ limit) (number_in limit)
number-reads limit = record { again = again; exact = exact }
  where
    again : (n : ℕ) (left : List ℤ) → n ≤ limit → number_in limit (pos n ∷ left) ≡ Some (n, left)
    again n left few = ap (λ (b : Bool). if b then Some (n, left) else None) (le-leb n limit few)

    tested : (n : ℕ) (left : List ℤ) (b : Bool) → nat_le n limit ≡ b
        → WasWritten (λ n. pos n ∷ []) (λ n. n ≤ limit) (pos n ∷ left) (if b then Some (n, left) else None)
    tested n left true is = (refl, leb-true n limit is)
    tested n left false is = tt

    exact : (words : List ℤ) → WasWritten (λ n. pos n ∷ []) (λ n. n ≤ limit) words (number_in limit words)
    exact [] = tt
    exact (pos n ∷ left) = tested n left (nat_le n limit) refl
    exact (negsuc n ∷ left) = tt

-- How many, and what is read by that count

module _ {A : Type 0} (write : A → List ℤ) (Is : A → Type 0) (size : A → ℕ) (read : ℕ → List ℤ → Front A) (limit : ℕ)
    (reads : (n : ℕ) → IsReader write (λ x. (size x ≡ n) × Is x) (read n)) where
  after_count : (words left : List ℤ) (n : ℕ) → words ≡ pos n ∷ left → n ≤ limit → (f : Front A)
      → WasWritten write (λ x. (size x ≡ n) × Is x) left f
      → WasWritten (λ x. pos (size x) ∷ write x) (λ x. (size x ≤ limit) × Is x) words f
  after_count words left n same few None was = tt
  after_count words left n same few (Some (x, rest)) was = (
    same ∙ ap₂ (λ (k : ℕ) (ws : List ℤ). pos k ∷ ws) (sym was.1.0) was.0,
    (subst (λ k. k ≤ limit) (sym was.1.0) few, was.1.1),
  )

  counted : (words : List ℤ) (f : Front ℕ) → WasWritten (λ n. pos n ∷ []) (λ n. n ≤ limit) words f
      → WasWritten (λ x. pos (size x) ∷ write x) (λ x. (size x ≤ limit) × Is x) words
      (option_and_then (λ (n, left). read n left) f)
  counted words None was = tt
  counted words (Some (n, left)) was = after_count words left n was.0 was.1 (read n left) ((reads n).exact left)

  pub sized-reads : IsReader (λ x. pos (size x) ∷ write x) (λ x. (size x ≤ limit) × Is x) (sized_in limit read)
  sized-reads = record {
    again = λ x left is.
        ap (option_and_then (λ (n, left). read n left)) ((number-reads limit).again (size x) (write x ++ left) is.0)
        ∙ (reads (size x)).again x left (refl, is.1);
    exact = λ words. counted words (number_in limit words) ((number-reads limit).exact words);
  }

-- So many words

pub words-reads : (n : ℕ) → IsReader (λ words. words) (λ words. (length words ≡ n) × Unit {0}) (words_in n)
words-reads n = record {
  again = λ words left is. again words left is.0;
  exact = λ words. tested words (nat_le n (length words)) refl;
}
  where
    again : (words left : List ℤ) → length words ≡ n → words_in n (words ++ left) ≡ Some (words, left)
    again words left is = subst (λ (k : ℕ). words_in k (words ++ left) ≡ Some (words, left)) is
        (let all : length (words ++ left) ≡ length words + length left = length-append words left in
        let fits : nat_le (length words) (length (words ++ left)) ≡ true =
        le-leb (length words) (length (words ++ left)) (omega (arith, all)) in
        ap (λ (b : Bool). if b then Some (take (length words) (words ++ left), drop (length words) (words ++ left))
        else None) fits
        ∙ ap₂ (λ (xs ys : List ℤ). Some (xs, ys)) (take-append_seam words left) (drop-append_seam words left))

    tested : (words : List ℤ) (b : Bool) → nat_le n (length words) ≡ b
        → WasWritten (λ words. words) (λ words. (length words ≡ n) × Unit {0}) words
        (if b then Some (take n words, drop n words) else None)
    tested words true is =
        (sym (take-append-drop n words), (omega (arith, length-take n words, leb-true n (length words) is), tt))
    tested words false is = tt

-- Two parts

module _ {A B C : Type 0} {first_words : A → List ℤ} {IsFirst : A → Type 0} {first : List ℤ → Front A}
    {second_words : B → List ℤ} {IsSecond : B → Type 0} {second : List ℤ → Front B}
    (first_reads : IsReader first_words IsFirst first) (second_reads : IsReader second_words IsSecond second)
    (join : A → B → C) (left_of : C → A) (right_of : C → B) (joined : (c : C) → join (left_of c) (right_of c) ≡ c)
    (to_left : (x : A) (y : B) → left_of (join x y) ≡ x) (to_right : (x : A) (y : B) → right_of (join x y) ≡ y) where
  with_second : (words left : List ℤ) (x : A) → words ≡ first_words x ++ left → IsFirst x → (f : Front B)
      → WasWritten second_words IsSecond left f
      → WasWritten (λ c. first_words (left_of c) ++ second_words (right_of c))
      (λ c. IsFirst (left_of c) × IsSecond (right_of c)) words
      (option_map (λ (y, rest). (join x y, rest)) f)
  with_second words left x same is None was = tt
  with_second words left x same is (Some (y, rest)) was = (
    same ∙ ap (λ ws. first_words x ++ ws) was.0 ∙ sym (append_assoc (first_words x) (second_words y) rest)
        ∙ ap₂ (λ a b. (first_words a ++ second_words b) ++ rest) (sym (to_left x y)) (sym (to_right x y)),
    (subst IsFirst (sym (to_left x y)) is, subst IsSecond (sym (to_right x y)) was.1),
  )

  with_first : (words : List ℤ) (f : Front A) → WasWritten first_words IsFirst words f
      → WasWritten (λ c. first_words (left_of c) ++ second_words (right_of c))
      (λ c. IsFirst (left_of c) × IsSecond (right_of c)) words
      (option_and_then (λ (x, left). option_map (λ (y, rest). (join x y, rest)) (second left)) f)
  with_first words None was = tt
  with_first words (Some (x, left)) was = with_second words left x was.0 was.1 (second left) (second_reads.exact left)

  pub both-reads : IsReader (λ c. first_words (left_of c) ++ second_words (right_of c))
      (λ c. IsFirst (left_of c) × IsSecond (right_of c))
      (both_in join first second)
  both-reads = record {
    again = λ c rest is.
        ap (both_in join first second) (append_assoc (first_words (left_of c)) (second_words (right_of c)) rest)
        ∙ ap (option_and_then (λ (x, left). option_map (λ (y, rest). (join x y, rest)) (second left)))
        (first_reads.again (left_of c) (second_words (right_of c) ++ rest) is.0)
        ∙ ap (option_map (λ (y, rest). (join (left_of c) y, rest))) (second_reads.again (right_of c) rest is.1)
        ∙ ap (λ d. Some (d, rest)) (joined c);
    exact = λ words. with_first words (first words) (first_reads.exact words);
  }

-- Lists

module _ {A : Type 0} {write : A → List ℤ} {Is : A → Type 0} {part : List ℤ → Front A}
    (reads : IsReader write Is part) where
  many-again : (xs : List A) (left : List ℤ) → All Is xs
      → many_in part (length xs) (flat_map write xs ++ left) ≡ Some (xs, left)
  many-again [] left all = refl
  many-again (x ∷ xs) left all =
      ap (many_in part (suc (length xs))) (append_assoc (write x) (flat_map write xs) left)
      ∙ ap (option_and_then (λ (y, rest). option_map (λ (ys, last). (y ∷ ys, last)) (many_in part (length xs) rest)))
      (reads.again x (flat_map write xs ++ left) (All-head Is x xs all))
      ∙ ap (option_map (λ (ys, last). (x ∷ ys, last))) (many-again xs left (All-tail Is x xs all))

  with_more : (words left : List ℤ) (x : A) (n : ℕ) → words ≡ write x ++ left → Is x → (f : Front (List A))
      → WasWritten (flat_map write) (λ xs. (length xs ≡ n) × All Is xs) left f
      → WasWritten (flat_map write) (λ xs. (length xs ≡ suc n) × All Is xs) words
      (option_map (λ (xs, rest). (x ∷ xs, rest)) f)
  with_more words left x n same is None was = tt
  with_more words left x n same is (Some (xs, rest)) was = (
    same ∙ ap (λ ws. write x ++ ws) was.0 ∙ sym (append_assoc (write x) (flat_map write xs) rest),
    (ap suc was.1.0, All-cons Is x xs is was.1.1),
  )

  with_one : (n : ℕ) → ((left : List ℤ) → WasWritten (flat_map write) (λ xs. (length xs ≡ n) × All Is xs) left
      (many_in part n left))
      → (words : List ℤ) (f : Front A) → WasWritten write Is words f
      → WasWritten (flat_map write) (λ xs. (length xs ≡ suc n) × All Is xs) words
      (option_and_then (λ (x, left). option_map (λ (xs, rest). (x ∷ xs, rest)) (many_in part n left)) f)
  with_one n more words None was = tt
  with_one n more words (Some (x, left)) was = with_more words left x n was.0 was.1 (many_in part n left) (more left)

  many-exact : (n : ℕ) (words : List ℤ) → WasWritten (flat_map write) (λ xs. (length xs ≡ n) × All Is xs) words
      (many_in part n words)
  many-exact zero words = (refl, (refl, All-nil Is))
  many-exact (suc n) words = with_one n (many-exact n) words (part words) (reads.exact words)

  pub many-reads : (n : ℕ) → IsReader (flat_map write) (λ xs. (length xs ≡ n) × All Is xs) (many_in part n)
  many-reads n = record {
    again = λ xs left is. subst (λ (k : ℕ). many_in part k (flat_map write xs ++ left) ≡ Some (xs, left)) is.0
        (many-again xs left is.1);
    exact = many-exact n;
  }

  pub listed-reads : IsReader (words_of_list write) (λ xs. (length xs ≤ 32767) × All Is xs) (listed_in part)
  listed-reads = sized-reads (flat_map write) (All Is) length (many_in part) 32767 many-reads

-- All words, of which none is left

module _ {A : Type 0} {write : A → List ℤ} {Is : A → Type 0} {part : List ℤ → Front A}
    (reads : IsReader write Is part) where
  pub whole-again : (x : A) → Is x → whole (part (write x)) ≡ Some x
  whole-again x is =
      ap (λ words. whole (part words)) (sym (append-nil (write x)))
      ∙ ap (λ (f : Front A). whole f) (reads.again x [] is)

  pub whole-exact : (words : List ℤ) (x : A) → whole (part words) ≡ Some x → (write x ≡ words) × Is x
  whole-exact words x = by (part words) (reads.exact words)
    where
      by : (f : Front A) → WasWritten write Is words f → whole f ≡ Some x → (write x ≡ words) × Is x
      by None was found = absurd (cc)
      by (Some (one, [])) was found =
          let same : one ≡ x = cc in
          subst (λ (y : A). (write y ≡ words) × Is y) same (sym (was.0 ∙ append-nil (write one)), was.1)
      by (Some (one, word ∷ left)) was found = absurd (cc)
