use Rattle.advice_laws.proofs.SameBounds.{bounds-chosen, bounds-own}
use Rattle.advice_laws.proofs.SamePaths.{leads-chosen, leads-own}
use Rattle.advice_laws.proofs.laws.choices_change_no_path.Goals as goal

pub returns : goal.returns
returns c = record {
  leads = λ program choice path stand leads. leads-chosen choice program path stand leads;
  only = λ program choice path there leads. leads-own choice program path there leads;
  bounds = λ program choice. (bounds-chosen choice program, bounds-own choice program);
}
