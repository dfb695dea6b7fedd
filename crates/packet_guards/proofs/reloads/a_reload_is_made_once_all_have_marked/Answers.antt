use Rattle.packet_guards.proofs.Loading.{a-reload-is-made-once-all-have-marked-runs}
use Rattle.packet_guards.proofs.Loading.{a-reload-is-made-once-all-have-marked-unmarked}
use Rattle.packet_guards.proofs.Loading.{a-reload-is-made-once-all-have-marked-terminals}
use Rattle.packet_guards.proofs.Loading.{a-reload-is-made-once-all-have-marked-marked}
use Rattle.packet_guards.proofs.Loading.{a-reload-is-made-once-all-have-marked-again}
use Rattle.packet_guards.proofs.Loading.{a-reload-is-made-once-all-have-marked-nowhere}
use Rattle.packet_guards.proofs.reloads.a_reload_is_made_once_all_have_marked.Goals as goal

pub returns : goal.returns
returns c = record {
  runs = a-reload-is-made-once-all-have-marked-runs;
  unmarked = a-reload-is-made-once-all-have-marked-unmarked;
  terminals = a-reload-is-made-once-all-have-marked-terminals;
  marked = a-reload-is-made-once-all-have-marked-marked;
  again = a-reload-is-made-once-all-have-marked-again;
  nowhere = a-reload-is-made-once-all-have-marked-nowhere;
}
