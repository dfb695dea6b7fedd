-- What comes of each part of the search for advice; only the clauses of private functions cite it.
use Rattle.std.specs.Prelude.{◌≡◌, ◌≤◌, ◌<◌, ℕ, List, length, slice_get, Some, ⊤, Result, Ok, Err}
use Rattle.tal_tree.specs.declared.program.Program.{Program}
use Rattle.path_semantics.specs.declared.reason.Reason.TheVariants.{Input, Depth}
use Rattle.path_semantics.specs.Break.{Breaks}
use Rattle.advice.specs.declared.answer.AdviseFault.{AdviseFault}
use Rattle.advice.specs.Advice.{IsLeastDepth}
use Rattle.advice.specs.Answer.{IsAdvised}
use Rattle.advice.specs.Choice.{deepest}
use Rattle.gd_words.specs.declared.limits.TheConstants.{MOST_DEPTH}

-- neither input nor the depth of a file before this one is broken, with the greatest depths
pub record NoneDeepBefore (program : Program) (file : ℕ) : Type 0 where
  pub input : (path : List ℕ) → Breaks (deepest program) path Input → ⊥
  pub depths : (earlier : ℕ) (path : List ℕ) → earlier < file → Breaks (deepest program) path (Depth earlier) → ⊥

-- no path sends after a request was read, or the program is refused
abbrev pub IsInputTried : Program → Result ⊤ AdviseFault → Type 0
IsInputTried program (Ok _) = ((path : List ℕ) → Breaks program path Input → ⊥) × NoneDeepBefore program 0
IsInputTried program (Err refusal) = IsAdvised program (Err refusal)

-- a file's depth is the least that is enough, and no path breaks the greatest; or the program is refused
abbrev pub IsDepthFound : Program → ℕ → Result ℕ AdviseFault → Type 0
IsDepthFound program file (Ok depth) =
    IsLeastDepth program file depth × (depth ≤ MOST_DEPTH)
    × ((path : List ℕ) → Breaks (deepest program) path (Depth file) → ⊥)
IsDepthFound program file (Err refusal) = IsAdvised program (Err refusal)

-- the first depths are the least that are enough
pub record AreLeastDepths (program : Program) (depths : List ℕ) : Type 0 where
  pub least : (file depth : ℕ) → slice_get depths file ≡ Some depth → IsLeastDepth program file depth
  pub few : (file depth : ℕ) → slice_get depths file ≡ Some depth → depth ≤ MOST_DEPTH

-- there is such a depth for each file, or the program is refused
abbrev pub AreDepthsFound : Program → Result (List ℕ) AdviseFault → Type 0
AreDepthsFound program (Ok depths) = AreLeastDepths program depths × (length depths ≡ length program.files)
AreDepthsFound program (Err refusal) = IsAdvised program (Err refusal)
