use Rattle.std.proofs.Common.{Global, map, string_bytes}
use Rattle.explain_words.proofs.RefusedKinds.{asked-for-kind}
use Rattle.explain_words.proofs.asked.asked_by.Goals as goal

pub returns-in-Refused : goal.returns-in-Refused
returns-in-Refused c =
    asked-for-kind (map (string_bytes {Z = Global}) c.args.words.now) c.in_ok-parse.parse c.in-Refused.kind
    c.kind_question.result c.in_ok-parse.ensures c.in-Refused.is c.kind_question.ensures
