-- A checkpoint that is within the layout, and keeps few replies of few openers, is within it as what changed.
use Rattle.std.proofs.Common.{◌≤◌, ◌<◌, ℕ, zero, suc, ◌+◌, ◌-◌, ℤ, Bool, true, false, if◌then◌else◌, List, [], ◌∷◌}
use Rattle.std.proofs.Common.{length, drop, All, Option, arith}
use Rattle.std.proofs.lemmas.List.Elements.{All-cons, All-head, All-nil, All-tail}
use Rattle.change_layout.specs.Changing.{change_of}
use Rattle.change_layout.specs.Layout as changes
use Rattle.change_layout.specs.Layout.{IsChange, IsShort}
use Rattle.checkpoint_image.specs.Layout.{IsOpener, IsWithinLayout}
use Rattle.checkpoint_image.specs.Receive.{answered, is_place}
use Rattle.checkpoint_image.specs.declared.message.ImageMessage.{ImageMessage}
use Rattle.checkpoint_image.specs.declared.receive.OpenerBlock.{OpenerBlock}
use Rattle.change_layout.specs.sync_ids.specs.Changes.{change_at, changes_from, is_untouched}
use Rattle.change_layout.specs.sync_ids.specs.declared.change.OpenerChange.{OpenerChange}
use Rattle.change_layout.specs.sync_ids.proofs.Lists.{last-shorter}

-- few openers, of each of which few replies are kept
pub record HasFewKept (message : ImageMessage) : Type 0 where
  pub openers : length message.image.receive.openers < 4096
  pub kept : All (λ block. length block.kept ≤ 4) message.image.receive.openers

drop-all : {A : Type 0} (P : A → Type 0) (n : ℕ) (xs : List A) → All P xs → All P (drop n xs)
drop-all P zero xs all = all
drop-all P (suc n) [] all = All-nil P
drop-all P (suc n) (x ∷ xs) all = drop-all P n xs (All-tail P x xs all)

abbrev Lies : OpenerChange → Type 0
Lies change = IsShort change × IsChange change

-- what changed of openers whose places are low
record AllLie (changes : List OpenerChange) (most : ℕ) : Type 0 where
  all : All Lies changes
  few : length changes ≤ most

one-lies : (before now : Bool) (place : ℕ) (old new : OpenerBlock) → place < 4096 → IsOpener new
    → length new.kept ≤ 4 → Lies (change_at before now place old new)
one-lies before now place old new low is few =
    let count : ℕ = answered now new - answered before old in (
      record { opener = low; added = omega (arith, last-shorter count new.kept, few) },
      record {
        taken = is.taken;
        replies = drop-all (λ (words : List ℤ). length words ≤ 16) (length new.kept - count) new.kept is.replies;
      },
    )

all-lie : (before now : Option ℕ) (place : ℕ) (olds news : List OpenerBlock) → place + length news ≤ 4096
    → All IsOpener news → All (λ (block : OpenerBlock). length block.kept ≤ 4) news
    → AllLie (changes_from before now place olds news) (length news)
all-lie before now place [] news low are few = record { all = All-nil Lies; few = omega arith }
all-lie before now place (old ∷ olds) [] low are few = record { all = All-nil Lies; few = omega arith }
all-lie before now place (old ∷ olds) (new ∷ news) low are few =
    by (is_untouched (is_place before place) (is_place now place) old new)
    (all-lie before now (place + 1) olds news (omega (arith, low)) (All-tail IsOpener new news are)
    (All-tail (λ (block : OpenerBlock). length block.kept ≤ 4) new news few))
  where
    rest : List OpenerChange
    rest = changes_from before now (place + 1) olds news

    one : OpenerChange
    one = change_at (is_place before place) (is_place now place) place old new

    by : (b : Bool) → AllLie (changes_from before now (place + 1) olds news) (length news)
        → AllLie (if b then changes_from before now (place + 1) olds news
        else change_at (is_place before place) (is_place now place) place old new
        ∷ changes_from before now (place + 1) olds news) (suc (length news))
    by true later = record { all = later.all; few = let less = later.few in omega (arith, less) }
    by false later = record {
      all = All-cons Lies one rest
          (one-lies (is_place before place) (is_place now place) place old new (omega (arith, low))
          (All-head IsOpener new news are)
          (All-head (λ (block : OpenerBlock). length block.kept ≤ 4) new news few)) later.all;
      few = let less = later.few in omega (arith, less);
    }

pub change-within : (before message : ImageMessage) → IsWithinLayout message → HasFewKept message
    → changes.IsWithinLayout (change_of before message)
change-within before message is few =
    let low = few.openers in
    let short = is.short in
    let lie = all-lie before.image.receive.in_hand message.image.receive.in_hand 0 before.image.receive.openers
    message.image.receive.openers (omega (arith, low)) is.openers few.kept in record {
      short = record {
        body = short.body;
        files = short.files;
        changes = let less = lie.few in omega (arith, less, low);
        short = λ k d there. (lie.all k d there).0;
        in_hand = short.in_hand;
      };
      process = is.process;
      era = is.era;
      number = is.number;
      files = is.files;
      changes = λ k d there. (lie.all k d there).1;
    }
