use Rattle.world_semantics.proofs.Roles.{change-starts}
use Rattle.world_semantics.proofs.laws.only_a_reload_starts_a_processor.Goals as goal

pub returns : goal.returns
returns c = λ site w next cause sendings processor change s. change-starts w next cause sendings change processor s
