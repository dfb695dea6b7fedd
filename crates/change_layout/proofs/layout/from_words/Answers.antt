use Rattle.std.proofs.Common.{◌≡◌, Some, None, sym, ap, ◌∙◌}
use Rattle.change_layout.specs.Reading.{message_in}
use Rattle.change_layout.proofs.Messages.{read-again, read-exact}
use Rattle.change_layout.proofs.layout.from_words.Goals as goal

pub returns-in-Ok-clause-within : goal.returns-in-Ok-clause-within
returns-in-Ok-clause-within c = (read-exact c.args.words.now c.in-Ok.message c.in-Ok.ensures).1

pub returns-in-Ok-clause-words : goal.returns-in-Ok-clause-words
returns-in-Ok-clause-words c = (read-exact c.args.words.now c.in-Ok.message c.in-Ok.ensures).0

pub returns-in-Err-NoMessage-clause-told : goal.returns-in-Err-NoMessage-clause-told
returns-in-Err-NoMessage-clause-told c = sym (c.in-Err-NoMessage.ensures (λ memory. absurd (cc)))

pub returns-in-Err-NoMessage-clause-none : goal.returns-in-Err-NoMessage-clause-none
returns-in-Err-NoMessage-clause-none c message is same =
    let none : message_in c.args.words.now ≡ None = c.in-Err-NoMessage.ensures (λ memory. absurd (cc)) in
    let found : message_in c.args.words.now ≡ Some message = ap message_in (sym same) ∙ read-again message is in
    absurd (cc)
