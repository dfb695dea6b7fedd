use Rattle.std.proofs.Common.{Global, map, string_bytes}
use Rattle.explain_words.proofs.RefusedKinds.{no-file}
use Rattle.explain_words.proofs.asked.file_asked.Goals as goal

pub returns-in-Refused : goal.returns-in-Refused
returns-in-Refused c =
    no-file (map (string_bytes {Z = Global}) c.args.words.now) c.in_ok-parse.parse c.in-Refused.field-0
    c.in_ok-parse.ensures c.in-Refused.is
