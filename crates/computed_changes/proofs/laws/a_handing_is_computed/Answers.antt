use Rattle.computed_changes.proofs.Made.{handed-may}
use Rattle.computed_changes.proofs.Outcomes.{handed-follows}
use Rattle.computed_changes.proofs.laws.a_handing_is_computed.Goals as goal

pub returns : goal.returns
returns c = record {
  made = λ site w node message done sent e. handed-may site node message w done sent e;
  follows = handed-follows;
}
