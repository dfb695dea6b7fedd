use Rattle.std.proofs.Common.{◌≡◌, ◌∙◌, Option, ap, sym, rules}
use Rattle.message_wires.specs.plain_semantics.specs.declared.slot.Opener.{Opener}
use Rattle.process_semantics.specs.Process.{asked_file, asked_words}
use Rattle.process_control.specs.declared.told.Asking.{Asking}
use Rattle.kept_acts.specs.world_semantics.specs.Core.{next_on}
use Rattle.kept_acts.specs.world_semantics.specs.Own.{asked_on, request_to}
use Rattle.node_copies.specs.Acting.{opener_among, requests_in}
use Rattle.node_copies.specs.Seen.{CopyAndDepths}
use Rattle.node_copies.proofs.Acts.{asks}
use Rattle.node_copies.proofs.one.NodeCopy.ask.Goals as goal

pub returns-clause-acted : goal.returns-clause-acted
returns-clause-acted c = λ site sectors here.
    let core = c.args.self.now.copy.core in
    let files = c.args.files.now in
    let asked : requests_in c.request_to.result
    ≡ asked_on site c.args.number core (asked_file core.state) (asked_words core.state) =
    c.request_to.ensures
    ∙ ap (λ (o : Option Opener). request_to c.ask-asking.result.number c.ask-asking.result.words o)
    c.address_in-address.ensures
    ∙ ap (λ (a : Asking). request_to a.number a.words (opener_among files a.file)) c.ask-asking.ensures.asking
    ∙ ap (λ (one : CopyAndDepths). request_to (next_on one.copy.core (asked_file one.copy.core.state))
    (asked_words one.copy.core.state)
    (opener_among files (asked_file one.copy.core.state))) c.self.view_is
    ∙ sym (asks site c.args.number core (asked_file core.state) (asked_words core.state) files here) in
    rw (sym asked) (search rules)
