use Rattle.site_machine.proofs.Marks.{marks-within}
use Rattle.site_machine.proofs.whole.MachineParts.mark.Goals as goal

pub mark_down-requires-clause-within : goal.mark_down-requires-clause-within
mark_down-requires-clause-within c =
    marks-within c.args.node c.args.processor _ c.args.self.now c.self.view_is c.is_to_mark.result c.is_to_mark.ensures
    c.if-is_to_mark.true c.requires.within
