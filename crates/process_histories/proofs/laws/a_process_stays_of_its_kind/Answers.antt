use Rattle.process_histories.proofs.OneKind.{done-kind, files-same, openers-same}
use Rattle.process_histories.proofs.laws.a_process_stays_of_its_kind.Goals as goal

pub returns : goal.returns
returns c = record {
  kind = λ site number spec deeds core done. done-kind done;
  files = λ site number spec deeds core done. files-same done;
  openers = λ site number spec deeds core done. openers-same done;
}
