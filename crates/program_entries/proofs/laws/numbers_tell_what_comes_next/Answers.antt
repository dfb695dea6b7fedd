use Rattle.program_entries.proofs.Named.{next-named, numbers-each}
use Rattle.program_entries.proofs.laws.numbers_tell_what_comes_next.Goals as goal

pub returns-clause-each : goal.returns-clause-each
returns-clause-each c = numbers-each

pub returns-clause-next : goal.returns-clause-next
returns-clause-next c = next-named
