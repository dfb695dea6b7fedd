use Rattle.packet_guards.proofs.Loading.{channels-of-a-loaded-node-begin-anew-own}
use Rattle.packet_guards.proofs.Loading.{channels-of-a-loaded-node-begin-anew-with-it}
use Rattle.packet_guards.proofs.Loading.{channels-of-a-loaded-node-begin-anew-itself}
use Rattle.packet_guards.proofs.Loading.{channels-of-a-loaded-node-begin-anew-terminals}
use Rattle.packet_guards.proofs.Loading.{channels-of-a-loaded-node-begin-anew-thrown}
use Rattle.packet_guards.proofs.Loading.{channels-of-a-loaded-node-begin-anew-anew}
use Rattle.packet_guards.proofs.Loading.{channels-of-a-loaded-node-begin-anew-other}
use Rattle.packet_guards.proofs.Loading.{channels-of-a-loaded-node-begin-anew-stays}
use Rattle.packet_guards.proofs.reloads.channels_of_a_loaded_node_begin_anew.Goals as goal

pub returns : goal.returns
returns c = record {
  own = channels-of-a-loaded-node-begin-anew-own;
  with_it = channels-of-a-loaded-node-begin-anew-with-it;
  itself = channels-of-a-loaded-node-begin-anew-itself;
  terminals = channels-of-a-loaded-node-begin-anew-terminals;
  thrown = channels-of-a-loaded-node-begin-anew-thrown;
  anew = channels-of-a-loaded-node-begin-anew-anew;
  other = channels-of-a-loaded-node-begin-anew-other;
  stays = channels-of-a-loaded-node-begin-anew-stays;
}
