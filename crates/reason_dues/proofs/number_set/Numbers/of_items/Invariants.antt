use Rattle.std.proofs.Common.{◌≡◌, ◌<◌, ℕ, ◌||◌, length}
use Rattle.gd_words.specs.Members.{is_among}
use Rattle.reason_dues.specs.Sets.{has_number}
use Rattle.reason_dues.proofs.number_set.Numbers.of_items.Given as goal

abbrev pub invariant-loop-first : goal.invariant-loop-first
invariant-loop-first l = (n : ℕ) → n < 64 → (is_among n l.left || has_number l.set n) ≡ is_among n l.items

abbrev pub decreases-loop-first : goal.decreases-loop-first
decreases-loop-first l = length l.left
