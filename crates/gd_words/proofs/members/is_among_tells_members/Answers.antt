use Rattle.gd_words.proofs.AmongTest.{among_there, among_back}
use Rattle.gd_words.proofs.members.is_among_tells_members.Goals as goal

-- src/members.rt:5:1
pub returns : goal.returns
returns c = λ n ns. (among_there n ns, among_back n ns)
