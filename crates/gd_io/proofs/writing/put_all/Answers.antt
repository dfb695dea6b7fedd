use Rattle.std.proofs.Common.{◌+◌, ◌-◌, ◌≤◌, length, ◌∙◌, arith}
use Rattle.gd_io.proofs.Known.{Appends-take, sure_along}
use Rattle.gd_io.proofs.writing.put_all.Goals as goal

pub loop-at-preserved : goal.loop-at-preserved
loop-at-preserved g c =
    let rest = c.split_at.result.1.now in
    let fits : c.in-Gone.n ≤ length rest = c.in-Gone.ensures.bytes.0 in
    let later : g.K.Sink.faults c.loop-at.sink ≤ g.K.Sink.faults c.put.new.self = c.put.ensures.later in (
      omega arith,
      Appends-take _ _ _ c.args.piece.now rest c.loop-at.at c.in-Gone.n c.split_at.ensures.back
          c.loop-at.invariant.1 c.in-Gone.ensures.bytes.1,
      omega arith,
      λ n h.
          let was = c.loop-at.invariant.3 n h in
          let before : g.K.Sink.sure c.loop-at.sink (length rest + n) =
          sure_along (g.K.Sink.sure c.loop-at.sink) (length c.args.piece.now - c.loop-at.at + n) (length rest + n)
          (omega arith) was.0 in (
            sure_along (g.K.Sink.sure c.put.new.self) (length rest - c.in-Gone.n + n)
                (length c.args.piece.now - (c.loop-at.at + c.in-Gone.n) + n) (omega arith)
                (c.in-Gone.ensures.never n before),
            c.put.ensures.still n before ∙ was.1,
          ),
    )
