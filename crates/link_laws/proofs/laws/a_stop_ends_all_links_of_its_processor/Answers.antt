use Rattle.link_laws.proofs.Stops.{stop-ends}
use Rattle.link_laws.proofs.laws.a_stop_ends_all_links_of_its_processor.Goals as goal

pub returns : goal.returns
returns c = λ site w next processor sendings change other. stop-ends w next processor sendings change other
