use Rattle.std.proofs.Common.{◌≡◌, Some, subst, rules}
use Rattle.process_control.specs.Cores.{answering_of, core_answering}
use Rattle.node_copies.specs.Acting.{Scene, around_in}
use Rattle.node_copies.specs.Seen.{CopyAndDepths}
use Rattle.node_copies.proofs.Acts.{answers, in-core}
use Rattle.node_copies.proofs.one.NodeCopy.answer.Goals as goal

pub returns-clause-acted : goal.returns-clause-acted
returns-clause-acted c = λ site sectors here.
    let one = c.args.self.now in
    let control = c.self.inside.control in
    let before : Scene = record { one = one; sectors = sectors; records = c.args.records.now } in
    let found = in-core control c.answer-answering.new.self (core_answering control.depths control.core)
    c.answer-answering.ensures.copy in
    let rest = found.1 in
    let next : c.answer-answering.new.self ≡ record control { core = found.0 } = rest.1 in
    let told : answering_of one.copy.core ≡ Some c.answer-answering.result =
    subst (λ (o : CopyAndDepths). answering_of o.copy.core ≡ Some c.answer-answering.result) c.self.view_is
    c.answer-answering.ensures.answering in
    let made : core_answering one.depths one.copy.core ≡ Some found.0 =
    subst (λ (o : CopyAndDepths). core_answering o.depths o.copy.core ≡ Some found.0) c.self.view_is rest.0 in
    rw (answers c.args.number one.copy.core (around_in before) c.answer-answering.result found.0 site one.depths here
    told made) (search rules)
