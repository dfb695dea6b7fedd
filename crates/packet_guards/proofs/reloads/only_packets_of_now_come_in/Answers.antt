use Rattle.packet_guards.proofs.Loading.{only-packets-of-now-come-in-to-it, only-packets-of-now-come-in-from-it}
use Rattle.packet_guards.proofs.Loading.{only-packets-of-now-come-in-old-to-it}
use Rattle.packet_guards.proofs.Loading.{only-packets-of-now-come-in-old-from-it, only-packets-of-now-come-in-early}
use Rattle.packet_guards.proofs.Loading.{only-packets-of-now-come-in-elsewhere}
use Rattle.packet_guards.proofs.reloads.only_packets_of_now_come_in.Goals as goal

pub returns : goal.returns
returns c = record {
  to_it = only-packets-of-now-come-in-to-it;
  from_it = only-packets-of-now-come-in-from-it;
  old_to_it = only-packets-of-now-come-in-old-to-it;
  old_from_it = only-packets-of-now-come-in-old-from-it;
  early = only-packets-of-now-come-in-early;
  elsewhere = only-packets-of-now-come-in-elsewhere;
}
