-- The memory that a borrowed one shows.
use Rattle.tal_values.specs.declared.memory.Memory.{Memory as Borrowed}
use Rattle.tal_values.specs.Value.{Memory}

abbrev pub memory_now : Borrowed → Memory
memory_now m = record { items = m.items.now; globals = m.globals.now; locals = m.locals.now }
