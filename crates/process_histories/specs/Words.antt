-- The words that a process took in and gave out by its deeds, the newest first.
use Rattle.std.specs.Prelude.{ℕ, ◌==◌, ◌&&◌, ℤ, Bool, true, false, if◌then◌else◌, List, Option, Some, None, filter_map}
use Rattle.world_semantics.specs.process_semantics.specs.declared.point.Point.{Point}
use Rattle.world_semantics.specs.process_semantics.specs.declared.point.Point.TheVariants as point
use Rattle.world_semantics.specs.process_semantics.specs.Process as process
use Rattle.world_semantics.specs.Core.{Deed, Took, Asked, Got, Answered}

-- Requests and replies

-- the words of a request that was taken from the opener at a place
abbrev pub take_from : ℕ → Deed → Option (List ℤ)
take_from place (Took one words) = if one == place then Some words else None
take_from place _ = None

-- the words of a reply to the opener at a place
abbrev pub answer_to : ℕ → Deed → Option (List ℤ)
answer_to place (Answered one words) = if one == place then Some words else None
answer_to place _ = None

-- the words of a request that was asked on a file
abbrev pub ask_on : ℕ → Deed → Option (List ℤ)
ask_on file (Asked one words) = if one == file then Some words else None
ask_on file _ = None

-- the words of a reply that was got on a file
abbrev pub get_on : ℕ → Deed → Option (List ℤ)
get_on file (Got one words) = if one == file then Some words else None
get_on file _ = None

-- the requests that were taken from the opener at a place
abbrev pub taken_from : ℕ → List Deed → List (List ℤ)
taken_from place deeds = filter_map (take_from place) deeds

-- the replies to the opener at a place
abbrev pub answered_to : ℕ → List Deed → List (List ℤ)
answered_to place deeds = filter_map (answer_to place) deeds

-- the requests that were asked on a file
abbrev pub requests_on : ℕ → List Deed → List (List ℤ)
requests_on file deeds = filter_map (ask_on file) deeds

-- the replies that were got on a file
abbrev pub replies_on : ℕ → List Deed → List (List ℤ)
replies_on file deeds = filter_map (get_on file) deeds

-- What is not yet replied to

abbrev pub is_await : Point → Bool
is_await point.Await = true
is_await _ = false

-- whether a process awaits the reply on a file
abbrev pub awaits_on : process.ProcessState → ℕ → Bool
awaits_on state file = is_await (process.point state) && (process.asked_file state == file)

-- 1 where something is so, and 0 where it isn't
abbrev pub one_if : Bool → ℕ
one_if test = if test then 1 else 0
