use Rattle.std.proofs.Common.{◌≡◌, length, arith}
use Rattle.tal_syntax.specs.Seen.{seen_further}
use Rattle.tal_names.specs.Places.{further_arguments}
use Rattle.tal_names.proofs.Counted.{length-arguments}
use Rattle.tal_names.proofs.alone.argument_count.Goals as goal

pub returns-in-Listed : goal.returns-in-Listed
returns-in-Listed c =
    let count : length (further_arguments (seen_further c.in-Listed.list.more)) ≡ length c.in-Listed.list.more =
    length-arguments c.in-Listed.list.more in
    rw (c.in-Listed.is, c.as_slice.ensures) (omega (arith, count))
