use Rattle.std.proofs.Common.{refl}
use Rattle.world_semantics.specs.Messages.{Asking, Handing}
use Rattle.link_laws.proofs.Coming.{handed-stays, handed-were}
use Rattle.link_laws.proofs.laws.a_request_that_comes_leaves_the_links_of_others.Goals as goal

pub returns : goal.returns
returns c = record {
  stays = λ site events w next node request one sendings run change waits unless.
      handed-stays site w node events run next (Handing node (Asking request)) sendings change node request one refl
      waits unless;
  comes = λ site w next node request one sendings change waits.
      handed-were site w node next (Handing node (Asking request)) sendings change node request one refl waits;
}
