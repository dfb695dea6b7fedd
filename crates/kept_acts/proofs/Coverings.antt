-- Where a copy stands after the other one applied its checkpoint: before its act at the checkpoint.
use Rattle.std.proofs.Common.{◌≡◌, ℕ, ◌+◌, Bool, true, false, nat_lt, List, ◌++◌, refl, arith}
use Rattle.world_semantics.specs.process_semantics.specs.declared.point.Point.{Point}
use Rattle.tal_tree.specs.declared.act.Act.{Act}
use Rattle.world_semantics.specs.Kept.{own_acts}
use Rattle.world_semantics.specs.Shares.{Share, acts_at, covered_count, covered_where, covering_where}
use Rattle.world_semantics.specs.Shares.{share_after_cover}
use Rattle.world_semantics.proofs.Counting.{own-append}

covered-where : (number : ℕ) (stands : Point) (kept : List Act) (share : Share) (behind : Bool)
    → covered_where number stands kept share behind
    ≡ (covering_where number stands kept share behind).share.position + own_acts number (acts_at number stands)
covered-where number stands kept share true = refl
covered-where number stands kept share false =
    let e = own-append number (acts_at number stands) (share.held ++ kept) in omega (arith, e)

pub stands-before : (number : ℕ) (stands : Point) (kept : List Act) (share : Share)
    → covered_count number stands kept share
    ≡ (share_after_cover number stands kept share).share.position + own_acts number (acts_at number stands)
stands-before number stands kept share =
    covered-where number stands kept share (nat_lt share.position (own_acts number kept))
