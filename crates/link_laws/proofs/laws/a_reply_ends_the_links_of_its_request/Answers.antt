use Rattle.std.proofs.Common.{refl}
use Rattle.world_semantics.specs.Messages.{Handing, Replying, Running}
use Rattle.link_laws.proofs.Answered.{told-ended}
use Rattle.link_laws.proofs.Got.{handed-over}
use Rattle.link_laws.proofs.laws.a_reply_ends_the_links_of_its_request.Goals as goal

pub returns : goal.returns
returns c = record {
  server = λ site events w next number sendings node reply fit few run change among.
      told-ended site fit events w few run node reply next number (Running number) sendings change refl among;
  requester = λ site events w next node reply sendings fit few run change.
      handed-over site fit events w few run next (Handing node (Replying reply)) sendings change node reply refl;
}
