use Rattle.plain_histories.proofs.Entries.{entry-one, entry-most, entry-stays, requests-grown, answered-grown}
use Rattle.plain_histories.proofs.Entries.{entered-grown}
use Rattle.plain_histories.proofs.laws.entries_keep_their_numbers.Goals as goal

pub returns : goal.returns
returns c = record {
  one = λ number words other all entry same. entry-one entry same;
  most = λ number words all entry. entry-most entry;
  stays = λ number words before after grown entry. entry-stays grown entry;
  requests = requests-grown;
  answered = answered-grown;
  entered = entered-grown;
}
