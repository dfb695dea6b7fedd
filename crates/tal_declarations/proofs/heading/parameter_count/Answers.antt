use Rattle.std.proofs.Common.{◌≡◌, length, arith}
use Rattle.tal_syntax.specs.Seen.{seen_names}
use Rattle.tal_declarations.specs.Headings.{names_of}
use Rattle.tal_declarations.proofs.Counted.{length-names}
use Rattle.tal_declarations.proofs.heading.parameter_count.Goals as goal

pub returns-in-Listed : goal.returns-in-Listed
returns-in-Listed c =
    let count : length (names_of (seen_names c.in-Listed.list.more)) ≡ length c.in-Listed.list.more =
    length-names c.in-Listed.list.more in
    rw (c.in-Listed.is, c.as_slice.ensures) (omega (arith, count))
