-- Command lines at which the definition is guarded.
use Rattle.std.specs.Prelude.{ℕ, Bool, List, ◌∷◌, Option, Some, codes}
use Rattle.clap.specs.Words.{Text}
use Rattle.command_words.specs.Asked.{asked_by}
use Rattle.command_words.specs.declared.asked.Command.{Command}
use Rattle.command_words.specs.declared.asked.Command.TheVariants.{Run}

-- what the words after the program's name ask for
abbrev pub asked : List Text → Option Command
asked words = asked_by (codes "guardian" ∷ words)

-- `run` with a stop
abbrev pub run_with_stop : Bool → ℕ → ℕ → Command
run_with_stop acts p k = Run acts (Some (record { processor = p; after = k }))
