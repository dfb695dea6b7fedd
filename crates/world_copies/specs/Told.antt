-- What the world tells where it is changed: what the change sends, which goes to the wires above. Our own rule.
use Rattle.std.specs.Prelude.{List, Option}
use Rattle.std.specs.Option.{option_map}
use Rattle.world_semantics.specs.Messages.{Sending}
use Rattle.world_semantics.specs.Running.{Done}

-- what a change sends, if one is made
abbrev pub sent_in : Option Done → Option (List Sending)
sent_in done = option_map (λ made. made.sendings) done
