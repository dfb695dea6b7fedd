use Rattle.std.proofs.Common.{◌≡◌, ◌+◌, ◌-◌, ◌∙◌, ap, sym, length, arith}
use Rattle.plain_machine.specs.Rounds.{Ran, round, rounds_on}
use Rattle.plain_machine.proofs.Still.{round-same, rounds_on-same}
use Rattle.plain_machine.proofs.Sweeps.{rounds_on-more}
use Rattle.plain_machine.proofs.Writes.{round-within, times-more, turn-within}
use Rattle.plain_machine.specs.Writes.{most_write, round_acts}
use Rattle.plain_machine.proofs.ran.Ran.play_rounds.Goals as goal

pub returns-then-len-before : goal.returns-then-len-before
returns-then-len-before c =
    let site = c.args.wires.now in
    let ran = c.loop.self in
    let equal : length (round site ran).acts ≡ length ran.acts =
    ap (λ ran. length ran.acts) (sym c.in_ok-play_round.ensures) ∙ sym c.len.ensures ∙ c.if-len-before.true
    ∙ c.len-before.ensures in
    let same : round site ran ≡ ran = round-same site ran equal in
    c.in_ok-play_round.ensures ∙ same ∙ sym (rounds_on-same site (c.args.rounds - c.loop.counter) ran same)
    ∙ sym c.loop.invariant.0

pub loop-preserved : goal.loop-preserved
loop-preserved c = (
  c.loop.invariant.0 ∙ rounds_on-more c.args.wires.now c.loop.counter c.args.rounds c.loop.self c.loop-test.true
      ∙ ap (rounds_on c.args.wires.now (c.args.rounds - (c.loop.counter + 1))) (sym c.in_ok-play_round.ensures),
  omega (
    arith,
    c.loop.invariant.1,
    round-within c.args.wires.now c.loop.self,
    ap (λ (ran : Ran). most_write ran.plain.processes) c.in_ok-play_round.ensures,
    times-more c.loop.counter (round_acts c.args.wires.now),
  ),
)

pub play_round-requires : goal.play_round-requires
play_round-requires c =
    omega (
      arith,
      c.requires,
      c.loop.invariant.1,
      c.loop-test.true,
      turn-within c.loop.counter c.args.rounds (round_acts c.args.wires.now) c.loop-test.true,
    )
