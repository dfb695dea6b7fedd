use Rattle.advice_laws.proofs.Proper.{item-listable, file-process, asked-process}
use Rattle.advice_laws.proofs.laws.what_is_due_may_be_named.Goals as goal

pub returns : goal.returns
returns c = record {
  items = λ program number item regular due. item-listable program regular number item due;
  files = λ program number file regular due. file-process program regular number file due;
  asked = λ program file count regular asked. asked-process program regular file count asked;
}
