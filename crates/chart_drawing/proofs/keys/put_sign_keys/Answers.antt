use Rattle.std.specs.Prelude.{codes}
use Rattle.chart_drawing.specs.Keys.{sign_key, sign_keys}
use Rattle.chart_drawing.specs.declared.drawn.Sign.TheVariants.{Dot, Cross}
use Rattle.chart_drawing.proofs.Behind.{put_two}
use Rattle.chart_drawing.proofs.keys.put_sign_keys.Goals as goal

pub returns : goal.returns
unfolding sign_keys
returns c =
    put_two c.args.shapes.now (sign_key c.args.bottom 8 Dot (codes "anything else"))
    (sign_key c.args.bottom 9 Cross (codes "a processor stops or a packet ends")) c.put_sign_key-2.new.shapes
    c.put_sign_key-2.result c.in_ok-put_sign_key.ensures c.put_sign_key-2.ensures
