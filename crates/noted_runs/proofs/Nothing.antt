-- A process may list nothing.
use Rattle.std.proofs.Common.{[], refl}
use Rattle.process_semantics.specs.Process.{ProcessState, Runs, Serves}
use Rattle.world_semantics.specs.whole_states.specs.Listing.{MayList}

pub nothing_listed : (s : ProcessState) → MayList s [] []
nothing_listed (Runs program s) = record {
  distinct_items = tt;
  items_there = λ k among. absurd among;
  distinct_files = tt;
  files_there = λ k among. absurd among;
}
nothing_listed (Serves sectors s) = (refl, refl)
