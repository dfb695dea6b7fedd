-- Each part of a message is read as it is written, and only so.
use Rattle.std.proofs.Common.{◌≤◌, ◌<◌, ◌^◌, ◌≡◌, ℕ, ℤ, pos, List, [], ◌∷◌, ◌++◌, length, Some, None, refl, ap, sym}
use Rattle.std.proofs.Common.{subst, ◌∙◌, append-nil, arith}
use Rattle.world_semantics.specs.process_semantics.specs.Words.{Front, whole, words_in, long, with_count}
use Rattle.world_semantics.specs.checkpoint_image.specs.Reading.{reply_in, longs_in}
use Rattle.world_semantics.specs.checkpoint_image.proofs.Readers.{WasWritten, IsReader, number-reads, words-reads}
use Rattle.world_semantics.specs.checkpoint_image.proofs.Readers.{sized-reads, both-reads}
use Rattle.world_semantics.specs.checkpoint_image.proofs.Patterns.{pair-reads}
use Rattle.message_layout.specs.Layout.{request_words, reply_words, taken_words, report_words}
use Rattle.message_layout.specs.Reading.{address_in, body_in, request_in, answer_in, taken_in, processor_in, report_in}
use Rattle.message_layout.proofs.Sets.{set-reads}

abbrev IsShort : List ℤ → Type 0
IsShort words = (length words ≤ 16) × Unit {0}

abbrev IsAddress : ℕ × ℕ → Type 0
IsAddress (process, opener) = (process ≤ 255) × (opener ≤ 32767)

abbrev IsBody : ℕ × List ℤ → Type 0
IsBody (number, words) = (number < 2 ^ 32) × IsShort words

counted-reads : IsReader with_count IsShort reply_in
counted-reads = sized-reads (λ words. words) (λ words. Unit {0}) length words_in 16 words-reads

address-reads : IsReader (λ (process, opener). pos process ∷ pos opener ∷ []) IsAddress address_in
address-reads =
    both-reads (number-reads 255) (number-reads 32767) (λ process opener. (process, opener)) (λ address. address.0)
    (λ address. address.1)
    (λ address. refl) (λ process opener. refl) (λ process opener. refl)

body-reads : IsReader (λ (number, words). long number ++ with_count words) IsBody body_in
body-reads =
    both-reads pair-reads counted-reads (λ number words. (number, words)) (λ body. body.0) (λ body. body.1)
    (λ body. refl) (λ number words. refl) (λ number words. refl)

pub request-reads : IsReader request_words
    (λ request. IsAddress (request.process, request.opener) × IsBody (request.number, request.words)) request_in
request-reads =
    both-reads address-reads body-reads (λ (process, opener) (number, words). record
    { process = process; opener = opener; number = number; words = words })
    (λ request. (request.process, request.opener)) (λ request. (request.number, request.words)) (λ request. refl)
    (λ address body. refl) (λ address body. refl)

pub answer-reads : IsReader reply_words
    (λ reply. IsAddress (reply.process, reply.opener) × IsBody (reply.number, reply.words)) answer_in
answer-reads =
    both-reads address-reads body-reads (λ (process, opener) (number, words). record
    { process = process; opener = opener; number = number; words = words })
    (λ reply. (reply.process, reply.opener)) (λ reply. (reply.number, reply.words)) (λ reply. refl)
    (λ address body. refl) (λ address body. refl)

longs-reads : IsReader (λ (era, number). long era ++ long number) (λ (era, number). (era < 2 ^ 32) × (number < 2 ^ 32))
    longs_in
longs-reads =
    both-reads pair-reads pair-reads (λ era number. (era, number)) (λ longs. longs.0) (λ longs. longs.1)
    (λ longs. refl) (λ era number. refl) (λ era number. refl)

pub taken-reads : IsReader taken_words (λ taken. (taken.process ≤ 255)
    × ((taken.era < 2 ^ 32) × (taken.number < 2 ^ 32))) taken_in
taken-reads =
    both-reads (number-reads 255) longs-reads
    (λ process (era, number). record { process = process; era = era; number = number }) (λ taken. taken.process)
    (λ taken. (taken.era, taken.number)) (λ taken. refl) (λ process longs. refl) (λ process longs. refl)

processor-was : (words : List ℤ) (read : Front ℕ) → WasWritten (λ n. pos n ∷ []) (λ n. n ≤ 15) words read
    → WasWritten (λ n. pos n ∷ []) (λ n. n < 16) words read
processor-was words None was = was
processor-was words (Some (n, left)) was = (was.0, omega (arith, was.1))

-- the number of a processor
pub processor-reads : IsReader (λ n. pos n ∷ []) (λ n. n < 16) processor_in
processor-reads = record {
  again = λ n left is. (number-reads 15).again n left (omega (arith, is));
  exact = λ words. processor-was words (processor_in words) ((number-reads 15).exact words);
}

pub report-reads : IsReader (λ (node, silent). report_words node silent)
    (λ (node, silent). (node < 16) × (length silent.members ≡ 16)) report_in
report-reads =
    both-reads processor-reads set-reads (λ node silent. (node, silent)) (λ report. report.0) (λ report. report.1)
    (λ report. refl) (λ node silent. refl) (λ node silent. refl)

-- Words with nothing behind them

module _ {A : Type 0} {write : A → List ℤ} {Is : A → Type 0} {read : List ℤ → Front A}
    (reads : IsReader write Is read) where
  pub whole-again : (x : A) → Is x → whole (read (write x)) ≡ Some x
  whole-again x is =
      ap (λ (words : List ℤ). whole (read words)) (sym (append-nil (write x))) ∙ ap whole (reads.again x [] is)

  pub whole-exact : (words : List ℤ) (x : A) → whole (read words) ≡ Some x → (write x ≡ words) × Is x
  whole-exact words x = by (read words) (reads.exact words)
    where
      by : (f : Front A) → WasWritten write Is words f → whole f ≡ Some x → (write x ≡ words) × Is x
      by None was found = absurd cc
      by (Some (one, [])) was found =
          let same : one ≡ x = cc in
          subst (λ (y : A). (write y ≡ words) × Is y) same (sym (was.0 ∙ append-nil (write one)), was.1)
      by (Some (one, word ∷ left)) was found = absurd cc
