use Rattle.trace_forms.proofs.Objects.{has_signs}
use Rattle.trace_forms.proofs.laws.a_line_of_json_is_one_line.Goals as goal

pub returns : goal.returns
returns c = has_signs
