use Rattle.node_copies.proofs.one.NodeCopy.can_act.Goals as goal

pub returns-in-Take : goal.returns-in-Take
returns-in-Take c = λ site number sectors records here. rw c.in-Take.is (c.can_take.ensures site number sectors records)

pub returns-in-Answer : goal.returns-in-Answer
returns-in-Answer c =
    λ site number sectors records here. rw c.in-Answer.is (c.can_answer.ensures site number sectors records here)
