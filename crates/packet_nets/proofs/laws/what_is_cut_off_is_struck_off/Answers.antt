use Rattle.packet_nets.proofs.Sending.{cut-ties}
use Rattle.packet_nets.proofs.laws.what_is_cut_off_is_struck_off.Goals as goal

pub returns : goal.returns
returns c = λ site stopped reloads on midst owed sent node processor runs gone tied.
    cut-ties midst node processor runs gone tied
