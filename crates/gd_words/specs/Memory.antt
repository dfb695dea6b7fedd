-- That memory ran out, as a value: there is one.
use Rattle.gd_words.specs.declared.memory.NoMemory.{NoMemory}

abbrev pub no_memory : NoMemory
no_memory = record { 0 = tt }
