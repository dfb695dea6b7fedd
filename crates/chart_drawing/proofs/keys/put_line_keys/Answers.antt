use Rattle.std.specs.Prelude.{codes}
use Rattle.chart_drawing.specs.Keys.{line_key, line_keys}
use Rattle.chart_drawing.proofs.Behind.{put_five}
use Rattle.chart_drawing.proofs.keys.put_line_keys.Goals as goal
use Rattle.svg_text.specs.declared.looks.Look.TheVariants as look

pub returns : goal.returns
unfolding line_keys line_key
returns c =
    put_five c.args.shapes.now (line_key c.args.bottom 10 look.Message (codes "a message"))
    (line_key c.args.bottom 11 look.Thin (codes "any other packet that comes"))
    (line_key c.args.bottom 12 look.Alive (codes "an alive packet that comes"))
    (line_key c.args.bottom 13 look.Lost (codes "a packet that is lost or dropped"))
    (line_key c.args.bottom 14 look.Hold (codes "a node pulls the hold line of a processor"))
    c.put_line_key-5.new.shapes c.put_line_key-5.result c.in_ok-put_line_key.ensures c.in_ok-put_line_key-2.ensures
    c.in_ok-put_line_key-3.ensures c.in_ok-put_line_key-4.ensures c.put_line_key-5.ensures
