use Rattle.std.proofs.Common.{[], ◌∷◌, ◌++◌}
use Rattle.std.specs.Prelude.{codes}
use Rattle.std.specs.Fmt.{decimal}
use Rattle.finding_text.specs.Lacking.{names_text}
use Rattle.text_pieces.proofs.Joins.{put_five}
use Rattle.finding_text.proofs.lacking.put_lacking.Goals as goal

pub returns : goal.returns
returns c =
    put_five c.args.text.now (codes "lacking: line ") (decimal c.args.line) (codes " has to name ")
    (names_text c.args.program.now c.args.lacking.now) (codes ":" ++ 10 ∷ [])
    c.put-3.new.text c.put-3.result c.in_ok-put.ensures c.in_ok-put_number.ensures c.in_ok-put-2.ensures
    c.in_ok-put_names.ensures c.put-3.ensures
