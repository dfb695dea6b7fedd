use Rattle.std.proofs.Common.{◌∷◌, [], Some, ap, arith, length, length-append, subst, sym}
use Rattle.report_reader.specs.Parts.{parts_of}
use Rattle.report_reader.proofs.ReadLemmas.{IsReadTo, one-read}
use Rattle.report_reader.proofs.reading.read_report.Goals as goal

pub loop-line-preserved : goal.loop-line-preserved
loop-line-preserved c =
    let next = c.in-Some-next_told.next in (
      subst (λ told. IsReadTo c.args.site.now c.args.report.now (Some next) told (parts_of 10 c.in-Some.after.now))
          (sym c.in_ok-push.ensures.ok)
          (one-read c.args.site.now c.args.report.now c.loop-line.before c.loop-line.told c.in-Some.line.now
          (parts_of 10 c.loop-line.rest.now)
          (parts_of 10 c.in-Some.after.now) c.in-Some.ensures.parts c.loop-line.invariant.0 next
          (sym c.in-Some-next_told.ensures)),
      omega (
        arith,
        ap length c.in_ok-push.ensures.ok,
        length-append c.loop-line.told (next ∷ []),
        c.in-Some.ensures.lengths,
        c.loop-line.invariant.1,
      ),
    )
