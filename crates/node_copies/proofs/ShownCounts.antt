-- No more writes, and no more replies, are shown than all.
use Rattle.std.proofs.Common.{◌≤◌, ◌+◌, Bool, true, false, if◌then◌else◌, List, [], ◌∷◌, length, arith}
use Rattle.tal_tree.specs.declared.act.Shown.{Shown}
use Rattle.node_copies.specs.ShownCounts.{is_write, replies_in, writes_in}

by-writes : (write : Bool) (rest : List Shown) → writes_in rest ≤ length rest
    → (if write then 1 else 0) + writes_in rest ≤ length rest + 1
by-writes true rest most = omega (arith, most)
by-writes false rest most = omega (arith, most)

by-replies : (write : Bool) (rest : List Shown) → replies_in rest ≤ length rest
    → (if write then 0 else 1) + replies_in rest ≤ length rest + 1
by-replies true rest most = omega (arith, most)
by-replies false rest most = omega (arith, most)

pub writes-most : (all : List Shown) → writes_in all ≤ length all
writes-most [] = omega arith
writes-most (one ∷ rest) = let most = by-writes (is_write one) rest (writes-most rest) in omega (arith, most)

pub replies-most : (all : List Shown) → replies_in all ≤ length all
replies-most [] = omega arith
replies-most (one ∷ rest) = let most = by-replies (is_write one) rest (replies-most rest) in omega (arith, most)
