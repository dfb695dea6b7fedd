use Rattle.std.proofs.Common.{◌≡◌, ◌⊎◌, ◌≤◌, ◌<◌, ℕ, ◌+◌, length}
use Rattle.pair_findings.specs.Notes.{ClearsAt}
use Rattle.pair_findings.proofs.notes.since_checkpoint.Given as goal

-- as far as the path was passed
abbrev pub invariant-loop-place : goal.invariant-loop-place
invariant-loop-place l = record {
  none_later : (k : ℕ) → l.since ≤ k → k < l.place → k + 1 < length l.path → ClearsAt l.deeds l.path k → ⊥;
  behind : (l.since ≡ 0) ⊎ ((k : ℕ) × (l.since ≡ k + 1) × (k + 1 < length l.path) × ClearsAt l.deeds l.path k);
}
