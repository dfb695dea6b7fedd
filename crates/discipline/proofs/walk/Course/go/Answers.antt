use Rattle.std.proofs.Common.{◌∷◌, sym, subst}
use Rattle.std.specs.Prelude.{List}
use Rattle.discipline.specs.declared.stack.Position.{Position}
use Rattle.discipline.specs.Walker.{Tells}
use Rattle.discipline.proofs.Stepping.{go-onward, go-nowhere, go-into, go-end}
use Rattle.discipline.proofs.walk.Course.go.Goals as goal
use Rattle.discipline.proofs.walk.Course.go.Goals.{in-Onward+in-Some, in-Onward+in_default, in-Into, in-End}

pub returns : goal.returns
returns c = λ entry rest callers place dues tells leads cut.
    let told = subst (λ (ps : List Position). Tells c.args.self.program.now ps ((entry ∷ rest) ∷ callers))
    (sym c.copy-stack.ensures) tells in
    c.settled.ensures place dues
    (elim c.match-way.branch [
      | in-Onward+in-Some w ↦ subst (λ (ps : List Position). Tells c.args.self.program.now ps place) (sym w.stack-is)
          (go-onward c.args.self.program.now c.requires.ordered c.requires.limits c.copy-stack.result w.pop.new.self
          w.push.new.self w.in-Some.top c.args.way w.in-Onward.number entry rest callers place
          w.in-Some.ensures.top w.in-Some.ensures.rest w.in-Onward.is w.push.ensures.entered told leads)
      | in-Onward+in_default w ↦ go-nowhere c.args.self.program.now c.requires.ordered c.requires.limits
          c.copy-stack.result c.match-way.stack entry rest callers place w.in_default.ensures.top told
      | in-Into w ↦ subst (λ (ps : List Position). Tells c.args.self.program.now ps place) (sym w.stack-is)
          (go-into c.args.self.program.now c.requires.ordered c.requires.limits c.copy-stack.result
          w.push-in-Into.new.self c.args.way w.in-Into.procedure w.body_number-number.result entry rest callers
          place
          w.in-Into.is w.body_number-number.ensures w.push-in-Into.ensures.entered told leads)
      | in-End w ↦ subst (λ (ps : List Position). Tells c.args.self.program.now ps place) (sym w.stack-is)
          (go-end c.args.self.program.now c.requires.ordered c.requires.limits w.new-stack.result c.args.way entry rest
          callers place w.in-End.is w.new-stack.ensures leads)
    ]) cut
