-- What the words of a disc's state restore has the number of that disc's last write.
use Rattle.std.proofs.Common.{◌≡◌, ℕ, ◌/◌, ◌%◌, ◌<◌, ℤ, pos, negsuc, Bool, true, false, if◌then◌else◌, List, [], ◌∷◌}
use Rattle.std.proofs.Common.{◌++◌, length, Option, Some, None, nat_le, refl, ap, sym, ◌∙◌, arith, append_assoc}
use Rattle.std.proofs.Common.{option_and_then}
use Rattle.std.specs.Option.{unwrap_or}
use Rattle.std.proofs.lemmas.Int.{ints}
use Rattle.gd_words.specs.Arithmetic.{wrap, IsWrapOf}
use Rattle.gd_words.proofs.OneWord.{is_wrap}
use Rattle.process_semantics.specs.declared.disc.DiscState.{DiscState}
use Rattle.process_semantics.specs.Image.{disc_words, disc_with, restored_disc}
use Rattle.process_semantics.specs.Words.{long, long_in, half_of, with_count, counted_if, with_count_in, whole}
use Rattle.checkpoint_image.specs.process_images.proofs.Fronts.{words-read}
use Rattle.world_semantics.proofs.Lists.{some-same}

half-read : (m : ℕ) → m < 65536 → half_of (wrap (pos m)) ≡ m
half-read m low = by (wrap (pos m)) (is_wrap (pos m))
  where
    by : (w : ℤ) → IsWrapOf (pos m) w → half_of w ≡ m
    by (pos n) is = omega (arith, ints, low, is.word, is.apart.1)
    by (negsuc n) is = omega (arith, ints, low, is.word, is.apart.1)

long-read : (n : ℕ) (left : List ℤ) → n < 4294967296 → long_in (long n ++ left) ≡ Some (n, left)
long-read n left low =
    let high_is = half-read (n / 65536) (omega (arith, low)) in
    let low_is = half-read (n % 65536) (omega arith) in
    rw (high_is, low_is) (ap (λ k. Some (k, left)) (omega arith))

counted-none : (words : Option (List ℤ)) → counted_if words ≡ with_count (unwrap_or words [])
counted-none None = refl
counted-none (Some words) = refl

counted-read : (words left : List ℤ) → with_count_in (with_count words ++ left)
    ≡ (if nat_le (length words) 16 then Some (words, left) else None)
counted-read words left =
    ap (λ found. if nat_le (length words) 16 then found else None) (words-read words left (length words) refl)

-- the disc of a request and a number, with the reply that stands in words
abbrev with_reply : Bool → List ℤ → ℕ → List ℤ → Option DiscState
with_reply hand request number words = option_and_then (disc_with hand request number) (whole (with_count_in words))

abbrev with_number : Bool → List ℤ → List ℤ → Option DiscState
with_number hand request words = option_and_then (λ (number, rest). with_reply hand request number rest) (long_in words)

disc-number : (hand : Bool) (request reply : List ℤ) (number : ℕ) (t : DiscState)
    → disc_with hand request number reply ≡ Some t → t.last_write ≡ number
disc-number false [] [] number t is = sym (ap (λ (d : DiscState). d.last_write) (some-same is))
disc-number false [] (word ∷ words) number t is = absurd (cc)
disc-number false (word ∷ words) [] number t is = absurd (cc)
disc-number false (word ∷ words) (other ∷ others) number t is = absurd (cc)
disc-number true request [] number t is = sym (ap (λ (d : DiscState). d.last_write) (some-same is))
disc-number true request (word ∷ words) number t is = sym (ap (λ (d : DiscState). d.last_write) (some-same is))

reply-number : (hand : Bool) (request words : List ℤ) (number : ℕ) (t : DiscState)
    → with_reply hand request number words ≡ Some t → t.last_write ≡ number
reply-number hand request words number t = by (whole (with_count_in words))
  where
    by : (reply : Option (List ℤ)) → option_and_then (disc_with hand request number) reply ≡ Some t
        → t.last_write ≡ number
    by None is = absurd (cc)
    by (Some reply) is = disc-number hand request reply number t is

-- the number that a disc restores is that of the disc whose words they are
pub restored-number : (hand : Bool) (s t : DiscState) → s.last_write < 4294967296
    → restored_disc hand (disc_words s) ≡ Some t → t.last_write ≡ s.last_write
restored-number hand s t low restores =
    by (nat_le (length request) 16)
    (sym (ap (option_and_then (λ (request, left). with_number hand request left)) (counted-read request behind))
    ∙ sym (ap (restored_disc hand) stand) ∙ restores)
  where
    request : List ℤ
    request = unwrap_or s.request []

    behind : List ℤ
    behind = long s.last_write ++ counted_if s.reply

    stand : disc_words s ≡ with_count request ++ behind
    stand = append_assoc (counted_if s.request) (long s.last_write) (counted_if s.reply)
        ∙ ap (λ (front : List ℤ). front ++ behind) (counted-none s.request)

    by : (short : Bool) → option_and_then (λ (request, left). with_number hand request left)
        (if short then Some (request, behind) else None) ≡ Some t
        → t.last_write ≡ s.last_write
    by true is =
        reply-number hand request (counted_if s.reply) s.last_write t
        (sym (ap (option_and_then (λ (number, rest). with_reply hand request number rest))
        (long-read s.last_write (counted_if s.reply) low)) ∙ is)
    by false is = absurd (cc)
