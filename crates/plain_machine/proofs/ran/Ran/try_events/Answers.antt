use Rattle.std.proofs.Common.{◌≡◌, ◌+◌, ◌-◌, ◌∙◌, ap, sym, length, arith}
use Rattle.plain_machine.specs.Lines.{happened, repeated}
use Rattle.plain_machine.specs.Rounds.{Ran}
use Rattle.plain_machine.proofs.Still.{happened-same, repeated-same}
use Rattle.plain_machine.proofs.Sweeps.{repeated-more}
use Rattle.plain_machine.proofs.Writes.{happened-within}
use Rattle.plain_machine.specs.Writes.{most_write}
use Rattle.plain_machine.proofs.ran.Ran.try_events.Goals as goal

pub returns-then-len-before : goal.returns-then-len-before
returns-then-len-before c =
    let site = c.args.wires.now in
    let ran = c.loop.self in
    let equal : length (happened site c.args.event ran).acts ≡ length ran.acts =
    ap (λ ran. length ran.acts) (sym c.in_ok-try_event.ensures) ∙ sym c.len.ensures ∙ c.if-len-before.true
    ∙ c.len-before.ensures in
    let same : happened site c.args.event ran ≡ ran = happened-same site c.args.event ran equal in
    c.in_ok-try_event.ensures ∙ same ∙ sym (repeated-same site c.args.event (c.args.times - c.loop.counter) ran same)
    ∙ sym c.loop.invariant.0

pub loop-preserved : goal.loop-preserved
loop-preserved c = (
  c.loop.invariant.0 ∙ repeated-more c.args.wires.now c.args.event c.loop.counter c.args.times c.loop.self
      c.loop-test.true
      ∙ ap (repeated c.args.wires.now c.args.event (c.args.times - (c.loop.counter + 1)))
      (sym c.in_ok-try_event.ensures),
  omega (
    arith,
    c.loop.invariant.1,
    happened-within c.args.wires.now c.args.event c.loop.self,
    ap (λ (ran : Ran). most_write ran.plain.processes) c.in_ok-try_event.ensures,
  ),
)

pub try_event-requires : goal.try_event-requires
try_event-requires c =
    omega (
      arith,
      c.requires,
      c.loop.invariant.1,
      c.loop-test.true,
    )
