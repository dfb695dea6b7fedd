use Rattle.world_copies.proofs.Marks.{marked-sends}
use Rattle.world_copies.proofs.copies.WorldCopies.mark.Goals as goal

pub returns-clause-told : goal.returns-clause-told
returns-clause-told c =
    marked-sends c.args.self.now c.mark_processes.new.self c.args.node c.args.processor c.new-sendings.result
    c.mark_processes.new.told
    c.send_again.new.again c.new-sendings.ensures c.in_ok-mark_processes.ensures.state
    c.in_ok-mark_processes.ensures.told c.in_ok-send_again.ensures
