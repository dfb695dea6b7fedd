use Rattle.order_laws.proofs.Verdicts.{sound-in}
use Rattle.order_laws.proofs.laws.sound_acts_have_an_order.Goals as goal

pub returns : goal.returns
returns c = λ site acts shown idle sound.
    let possible = c.the_order_is_possible.ensures site acts sound.order shown sound.end sound.goes in (
      sound.order,
      sound-in site acts shown idle sound
          (c.the_order_keeps_turns.ensures site acts sound.order shown sound.end sound.goes) possible.0 possible.1
          possible.2,
    )
