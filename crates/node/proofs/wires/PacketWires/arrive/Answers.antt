use Rattle.std.proofs.Common.{◌∙◌}
use Rattle.node.proofs.Arrivals.{alive-arrived, piece-arrived, receipt-arrived}
use Rattle.node.proofs.wires.PacketWires.arrive.Goals as goal

pub returns-in-Alive-clause-after : goal.returns-in-Alive-clause-after
returns-in-Alive-clause-after c =
    c.hear.ensures ∙ alive-arrived c.args.bus c.args.packet.now c.in-Alive.is c.args.self.now

pub returns-in_ok-words-in-Piece-clause-after : goal.returns-in_ok-words-in-Piece-clause-after
returns-in_ok-words-in-Piece-clause-after c =
    c.in_ok-words-in-Piece.ensures.after ∙ piece-arrived c.args.bus c.args.packet.now _ _ c.in-Piece.is c.args.self.now

pub returns-in_ok-words-in-Acknowledgement-clause-after : goal.returns-in_ok-words-in-Acknowledgement-clause-after
returns-in_ok-words-in-Acknowledgement-clause-after c =
    c.in_ok-words-in-Acknowledgement.ensures.after
    ∙ receipt-arrived c.args.bus c.args.packet.now _ c.in-Acknowledgement.is c.args.self.now
