use Rattle.std.proofs.Common.{length, sym, subst}
use Rattle.tal_values.specs.Seen.{memory_now}
use Rattle.tal_code.specs.Words.{WordStack}
use Rattle.tal_code.specs.Parts.{Shows, built}
use Rattle.tal_code.specs.Room.{RoomFrom}
use Rattle.tal_code.proofs.Room.{all-room}
use Rattle.tal_code.proofs.Tops.{all-from-nothing}
use Rattle.tal_code.proofs.run.run_all.Goals as goal

pub go_through-requires : goal.go_through-requires
go_through-requires c = subst (λ (w : WordStack). RoomFrom (length w.below) c.args.steps.now) (sym c.new-stack.ensures)
    (all-room c.args.steps.now c.requires)

pub returns : goal.returns
returns c =
    subst (λ w. Shows (memory_now c.args.memory) (built c.args.steps.now).top w) (sym c.top.ensures)
    (all-from-nothing (memory_now c.args.memory) c.args.steps.now c.new-stack.result c.go_through.new.stack
    c.new-stack.ensures c.go_through.ensures)
