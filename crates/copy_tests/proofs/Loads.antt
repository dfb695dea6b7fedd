-- A process that is loaded is one that a copy can start with.
use Rattle.tal_tree.specs.declared.site.Kind.{Kind}
use Rattle.tal_tree.specs.declared.site.Kind.TheVariants as kind
use Rattle.process_semantics.specs.Process.{start_of}
use Rattle.processes.specs.Seen.{IsLoadableKind}
use Rattle.whole_states.specs.Processes.{IsRegularKind, IsWholeProcess}
use Rattle.whole_states.proofs.Processes.{stays-whole, start-process}

regular : (what : Kind) → IsLoadableKind what → IsRegularKind what
regular (kind.Disc sectors mirrored) loadable = tt
regular (kind.Pair program) loadable = loadable.regular

pub starts-whole : (what : Kind) → IsLoadableKind what → IsWholeProcess (start_of what)
starts-whole what loadable = stays-whole (start_of what) (start-process what (regular what loadable))
