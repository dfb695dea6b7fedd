-- A call of a disc raises the number of its last write to the next number at most.
use Rattle.std.proofs.Common.{◌≤◌, ℕ, ◌+◌, ◌==◌, ◌&&◌, ℤ, pos, Bool, true, false, if◌then◌else◌, List, [], ◌∷◌, length}
use Rattle.std.proofs.Common.{Option, Some, None, nat_le, int_eq, arith}
use Rattle.process_semantics.specs.gd_words.specs.declared.device.DeviceCall.TheVariants.{Nothing, Read, Write}
use Rattle.process_semantics.specs.Disc.{call_of, call_at, sector_of, filled, last_write_after}

call-at-next : (last : ℕ) (kind : ℤ) (words : List ℤ) (sector : Option ℕ)
    → last_write_after last (call_at (last + 1) kind words sector) ≤ last + 1
call-at-next last kind words None = omega arith
call-at-next last kind words (Some sector) =
    by (int_eq kind (pos 1) && (length words == 0))
    (int_eq kind (pos 2) && nat_le 1 (length words) && nat_le (length words) 8)
  where
    by : (reads writes : Bool) → last_write_after last
        (if reads then Read sector else if writes then Write sector (filled words) (last + 1) else Nothing) ≤ last + 1
    by true writes = omega arith
    by false true = omega arith
    by false false = omega arith

pub call-next : (sectors last : ℕ) (words : List ℤ)
    → last_write_after last (call_of sectors (last + 1) words) ≤ last + 1
call-next sectors last [] = omega arith
call-next sectors last (kind ∷ []) = omega arith
call-next sectors last (kind ∷ sector ∷ words) = call-at-next last kind words (sector_of sectors sector)
