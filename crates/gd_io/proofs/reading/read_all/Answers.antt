use Rattle.std.proofs.Common.{◌≤◌, ◌++◌, length, take, arith}
use Rattle.std.proofs.lemmas.List.{length-append, length-take}
use Rattle.gd_io.proofs.Known.{Consumes-keeps, Consumes-more, too_long, failed, memory_ran_out}
use Rattle.gd_io.proofs.reading.read_all.Goals as goal

pub returns-in-Err-clause-bytes : goal.returns-in-Err-clause-bytes
returns-in-Err-clause-bytes g c =
    let fits : c.in-Got.n ≤ length c.take.new.room = c.in-Got.ensures.bytes.0 in
    let piece = take c.in-Got.n c.take.new.room in
    memory_ran_out c.args.most _ _ (c.loop-room.bytes.items ++ piece)
    (omega (arith, length-append c.loop-room.bytes.items piece, length-take c.in-Got.n c.take.new.room))
    (Consumes-more _ _ _ c.loop-room.bytes.items piece c.loop-room.invariant.1 c.in-Got.ensures.bytes.1)

pub returns-in-Failed-clause-bytes : goal.returns-in-Failed-clause-bytes
returns-in-Failed-clause-bytes g c =
    failed c.args.most _ _ c.loop-room.bytes.items (omega arith)
    (Consumes-keeps _ _ _ c.loop-room.bytes.items c.loop-room.invariant.1 c.in-Failed.ensures.bytes)

pub returns-clause-bytes : goal.returns-clause-bytes
returns-clause-bytes g c = too_long c.args.most _ _ c.loop-room.bytes.items (omega arith) c.loop-room.invariant.1
