-- Of the runs of a row no more are of one kind than there are.
use Rattle.std.proofs.Common.{◌≡◌, ◌<◌, ℕ, ◌+◌, Bool, List, length, arith, Fits, w32}
use Rattle.std.specs.Prelude.{filter}
use Rattle.std.proofs.lemmas.List.Sums.{count_by-le-length, length-filter}

pub has_room : {X : Type 0} (p : X → Bool) (kinds : List X) (n : ℕ) → n ≡ length (filter p kinds)
    → length kinds < 4294967295 → Fits w32 (n + 1)
has_room p kinds n is few =
    let same = length-filter p kinds in
    omega (arith, count_by-le-length p kinds)
