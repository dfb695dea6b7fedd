use Rattle.std.specs.Prelude.{codes}
use Rattle.chart_drawing.specs.Keys.{node_keys, sign_key}
use Rattle.chart_drawing.specs.declared.drawn.Sign.TheVariants.{Letter}
use Rattle.chart_drawing.proofs.Behind.{put_three}
use Rattle.chart_drawing.proofs.keys.put_node_keys.Goals as goal

pub returns : goal.returns
unfolding node_keys sign_key
returns c =
    put_three c.args.shapes.now (sign_key c.args.bottom 5 (Letter 77) (codes "a node marks a processor as down"))
    (sign_key c.args.bottom 6 (Letter 87) (codes "a disc writes a sector"))
    (sign_key c.args.bottom 7 (Letter 68) (codes "a drive fails or is revived or copied"))
    c.put_sign_key-3.new.shapes c.put_sign_key-3.result c.in_ok-put_sign_key.ensures c.in_ok-put_sign_key-2.ensures
    c.put_sign_key-3.ensures
