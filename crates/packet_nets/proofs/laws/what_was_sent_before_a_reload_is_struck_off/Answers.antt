use Rattle.packet_nets.proofs.Reloading.{reload-ties}
use Rattle.packet_nets.proofs.laws.what_was_sent_before_a_reload_is_struck_off.Goals as goal

pub returns : goal.returns
returns c = λ site stopped reloads on midst owed sent processor times gone count tied.
    reload-ties midst processor times gone count tied
