use Rattle.link_laws.proofs.Stops.{reload-begins}
use Rattle.link_laws.proofs.laws.a_processor_begins_without_links.Goals as goal

pub returns : goal.returns
returns c = λ site w next processor sendings change other. reload-begins w next processor sendings change other
