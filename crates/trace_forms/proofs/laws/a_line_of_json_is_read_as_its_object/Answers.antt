use Rattle.trace_forms.proofs.Objects.{is_read}
use Rattle.trace_forms.proofs.laws.a_line_of_json_is_read_as_its_object.Goals as goal

pub returns : goal.returns
returns c = is_read
