use Rattle.plain_histories.proofs.Entries.{slot-one, waits-next, answered-next, replies-answered}
use Rattle.plain_histories.proofs.laws.lists_make_one_slot.Goals as goal

pub returns : goal.returns
returns c = record {
  one = λ requests taken answered replies slot other is same. slot-one is same;
  waits = λ requests taken answered replies slot words is entry. waits-next is entry;
  answered = λ requests taken answered replies slot words is lacks entry. answered-next is lacks entry;
  got = λ requests taken answered replies slot is. replies-answered is;
}
