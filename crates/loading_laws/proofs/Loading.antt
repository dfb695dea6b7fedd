-- What is read can be loaded.
use Rattle.std.specs.Prelude.{ℕ, List}
use Rattle.code_room.proofs.Read.{read_waits_below}
use Rattle.tal_interp.specs.Sound.{IsLoadable}
use Rattle.code_room.specs.tal_laws.proofs.Ordered.{read_is_numbered, read_is_ordered}
use Rattle.code_room.specs.tal_laws.proofs.Regular.{read_is_regular}
use Rattle.code_room.specs.tal_laws.proofs.WithinLimits.{read_is_within}
use Rattle.code_room.specs.tal_reader.specs.Reads.{Reads}
use Rattle.tal_tree.specs.declared.program.Program.{Program}

pub read-is-loadable : (text : List ℕ) (program : Program) → Reads text program → IsLoadable program
read-is-loadable text program reads = record {
  numbered = read_is_numbered text program reads;
  ordered = read_is_ordered text program reads;
  limits = read_is_within text program reads;
  regular = read_is_regular text program reads;
  waiting = read_waits_below text program reads;
}
