use Rattle.image_laws.proofs.Read.{end-read, entry-read, memory-read, next_read, target-read}
use Rattle.image_laws.proofs.laws.an_image_tells_what_comes_next.Goals as goal

pub returns-clause-number : goal.returns-clause-number
returns-clause-number c = λ program s items whole. next_read program s.frames _ whole.frames

pub returns-clause-next : goal.returns-clause-next
returns-clause-next c = λ program. entry-read c.numbers_tell_what_comes_next.ensures.next program

pub returns-clause-memory : goal.returns-clause-memory
returns-clause-memory c = memory-read

pub returns-clause-target : goal.returns-clause-target
returns-clause-target c = λ program. target-read c.numbers_tell_what_comes_next.ensures.next program

pub returns-clause-end : goal.returns-clause-end
returns-clause-end c = λ program. end-read c.numbers_tell_what_comes_next.ensures.next program
