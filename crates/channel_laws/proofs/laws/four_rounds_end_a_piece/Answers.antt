use Rattle.std.proofs.Common.{arith}
use Rattle.channel_laws.proofs.Rounds.{brought-on}
use Rattle.channel_laws.proofs.laws.four_rounds_end_a_piece.Goals as goal

pub returns : goal.returns
returns c n a b l one two three next w here there out r1 r2 r3 r4 =
    let x = brought-on n a b r1 w here there (omega (arith, out.0)) in
    let y = brought-on n a b r2 x.whole x.here x.there x.numbered in
    let z = brought-on n a b r3 y.whole y.here y.there y.numbered in
    let last = brought-on n a b r4 z.whole z.here z.there z.numbered in
    last.ended (z.answered (y.sent x.waited))
