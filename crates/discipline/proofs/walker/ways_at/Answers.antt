use Rattle.std.proofs.Common.{subst, sym}
use Rattle.process_semantics.specs.SeenEntries.{entry_of}
use Rattle.process_semantics.specs.declared.entry.Entry.{Entry}
use Rattle.path_semantics.specs.Place.{ways}
use Rattle.discipline.specs.Walker.{EachLeads, listed}
use Rattle.discipline.proofs.walker.ways_at.Goals as goal

pub returns-in-Test : goal.returns-in-Test
returns-in-Test c = λ program rest callers same.
    subst (λ (e : Entry). EachLeads program (entry_of e) rest callers (listed c.test_ways.result)
    (ways program (entry_of e) rest callers)) (sym c.in-Test.is)
    (c.test_ways.ensures program rest callers same)
