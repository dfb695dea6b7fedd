use Rattle.std.proofs.Common.{Bool, Option, sym, subst, ap, ◌∙◌}
use Rattle.world_semantics.specs.Running.{Stepped, sending_step, step_if}
use Rattle.process_copies.specs.Acting.{HasStepped}
use Rattle.process_copies.proofs.Steps.{renews-other}
use Rattle.process_copies.proofs.copies.ProcessCopies.send_all.Goals as goal

pub returns-in_ok-step-in_default : goal.returns-in_ok-step-in_default
returns-in_ok-step-in_default c = record {
  stepped = λ downs records heard.
      subst (λ (made : Option Stepped). HasStepped made c.in_ok-step-in_default.step c.args.self.now c.send.new.self
      records records)
      (sym (renews-other c.args.self.now.number c.args.which c.args.self.now.pair downs records c.args.stands
      c.in_default.not-Await
      ∙ ap (λ (b : Bool). step_if b (sending_step c.args.self.now.number c.args.which c.args.self.now.pair records))
      (sym heard ∙ c.if-not-is_heard.false)))
      (c.in_ok-step-in_default.ensures.stepped records);
  site = c.in_ok-step-in_default.ensures.site;
  number = c.in_ok-step-in_default.ensures.number;
}
