use Rattle.link_laws.proofs.Asked.{again-linked, sent-linked}
use Rattle.link_laws.proofs.laws.a_request_that_is_sent_is_linked.Goals as goal

pub returns : goal.returns
returns c = record {
  sent = λ site events w next cause sendings node request fit few run change among.
      sent-linked site fit events w few run node request next cause sendings change among;
  again = λ site before next node processor at request among.
      again-linked site before next node processor request at among;
}
