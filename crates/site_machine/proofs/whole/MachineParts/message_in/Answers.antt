use Rattle.std.proofs.Common.{◌≡◌}
use Rattle.std.specs.Option.{option_map}
use Rattle.node.specs.packet_wires.specs.message_layout.specs.Reading.{node_message_in}
use Rattle.node.specs.message_words.specs.Seen.{message_of}
use Rattle.site_machine.proofs.Known.{read-within}
use Rattle.site_machine.proofs.whole.MachineParts.message_in.Goals as goal

pub returns-clause-within : goal.returns-clause-within
returns-clause-within c =
    let is : option_map message_of c.in_ok-message.message ≡ node_message_in c.args.words.now =
    cc (c.in_ok-message.ensures) in
    read-within c.args.words.now (option_map message_of c.in_ok-message.message) is
