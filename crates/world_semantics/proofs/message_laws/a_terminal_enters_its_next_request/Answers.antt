use Rattle.std.proofs.Common.{refl}
use Rattle.world_semantics.proofs.Terminals.{only-entered}
use Rattle.world_semantics.proofs.message_laws.a_terminal_enters_its_next_request.Goals as goal

pub returns : goal.returns
returns c = λ site w next number terminal sendings sending change there i.
    only-entered w next number terminal _ sendings sending refl change there i
