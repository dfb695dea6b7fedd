use Rattle.std.proofs.Common.{◌≡◌, ◌<◌, ℕ, Some, sym, subst}
use Rattle.process_semantics.specs.Process.{point}
use Rattle.process_semantics.specs.declared.point.Point.TheVariants.{Answer}
use Rattle.process_control.specs.Cores.{CoreAndDepths, answering_of, core_answering}
use Rattle.process_control.proofs.Consistent.{answering}
use Rattle.process_control.proofs.Tables.{answered-core, answers, as-many, found}
use Rattle.process_control.proofs.inside.CopyCore.answer.Goals as goal

pub invariant_of-self : goal.invariant_of-self
invariant_of-self g c =
    answering (g.B.Behaviour.state c.self.inside.behaviour) (g.B.Behaviour.state c.answered-words.new.self)
    c.self.inside.asker c.self.inside.receive
    c.self.invariant c.reply-opener.new.self
    (subst (λ (one : CoreAndDepths). point one.core.state ≡ Answer) (sym c.self.view_is) c.requires)
    c.answered-words.ensures.state c.reply-opener.ensures.free c.reply-opener.ensures.sound

pub returns-clause-answering : goal.returns-clause-answering
returns-clause-answering g c =
    let opener = c.reply-opener.result in
    let block = found c.self.inside.receive.table.openers opener
    (subst (λ (n : ℕ). opener < n) (sym (as-many c.self.inside.receive c.self.invariant.table))
    c.reply-opener.ensures.there) in
    let depth = found c.self.inside.receive.depths opener c.reply-opener.ensures.there in
    subst (λ (one : CoreAndDepths). answering_of one.core
    ≡ Some (record { opener = opener; number = c.taken-number.result; words = c.answered-words.result }))
    c.self.view_is
    (answers (record {
      state = g.B.Behaviour.state c.self.inside.behaviour;
      next = c.self.inside.asker;
      receive = c.self.inside.receive.table;
    })
    c.self.inside.receive.depths opener c.answered-words.result (g.B.Behaviour.state c.answered-words.new.self)
    c.reply-opener.new.self.table
    c.reply-opener.ensures.whose block.0 depth.0 block.1 depth.1 c.answered-words.ensures.words
    c.answered-words.ensures.state c.reply-opener.ensures.table
    c.taken-number.result c.taken-number.ensures)

pub returns-clause-core : goal.returns-clause-core
returns-clause-core g c =
    let opener = c.reply-opener.result in
    let block = found c.self.inside.receive.table.openers opener
    (subst (λ (n : ℕ). opener < n) (sym (as-many c.self.inside.receive c.self.invariant.table))
    c.reply-opener.ensures.there) in
    let depth = found c.self.inside.receive.depths opener c.reply-opener.ensures.there in
    subst (λ (one : CoreAndDepths). core_answering one.depths one.core ≡ Some (record {
      state = g.B.Behaviour.state c.answered-words.new.self;
      next = c.self.inside.asker;
      receive = c.reply-opener.new.self.table;
    })) c.self.view_is
    (answered-core (record {
      state = g.B.Behaviour.state c.self.inside.behaviour;
      next = c.self.inside.asker;
      receive = c.self.inside.receive.table;
    })
    c.self.inside.receive.depths opener c.answered-words.result (g.B.Behaviour.state c.answered-words.new.self)
    c.reply-opener.new.self.table
    c.reply-opener.ensures.whose block.0 depth.0 block.1 depth.1 c.answered-words.ensures.words
    c.answered-words.ensures.state c.reply-opener.ensures.table)
