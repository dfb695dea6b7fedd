use Rattle.shown_forms.proofs.Possible.{acts-named, sectors-shown, shown-formed}
use Rattle.shown_forms.proofs.laws.what_possible_acts_show_is_in_form.Goals as goal

pub returns-clause-shown : goal.returns-clause-shown
returns-clause-shown c = shown-formed

pub returns-clause-sectors : goal.returns-clause-sectors
returns-clause-sectors c = sectors-shown

pub returns-clause-acts : goal.returns-clause-acts
returns-clause-acts c = acts-named
