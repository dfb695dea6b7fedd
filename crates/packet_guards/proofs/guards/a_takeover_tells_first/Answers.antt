use Rattle.packet_guards.proofs.Takeover.{takeover-again, takeover-out, takeover-told}
use Rattle.packet_guards.proofs.guards.a_takeover_tells_first.Goals as goal

pub returns : goal.returns
returns c = record { out = takeover-out; told = takeover-told; again = takeover-again }
