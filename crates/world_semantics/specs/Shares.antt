-- What the kept acts ask of a copy, by itself: its position in them and the acts that it holds back. How they change is
-- our own rule: a copy that does anew what its process did already adds nothing, and a take and the acts after it are
-- held back until the next checkpoint.
use Rattle.std.specs.Prelude.{ℕ, ◌+◌, Bool, true, false, nat_lt, List, [], ◌∷◌, ◌++◌, reverse}
use Rattle.checkpoint_image.specs.tal_tree.specs.declared.act.Act.{Act}
use Rattle.checkpoint_image.specs.tal_tree.specs.declared.act.Act.TheVariants.{Step}
use Rattle.world_semantics.specs.World.{Copy, Pair, World}
use Rattle.world_semantics.specs.Kept.{own_acts, is_take}
use Rattle.plain_semantics.specs.process_semantics.specs.declared.point.Point.{Point}
use Rattle.plain_semantics.specs.process_semantics.specs.declared.point.Point.TheVariants as point

-- a copy's share: how many of its process's kept acts it has done, and the acts that it did beyond them, the newest
-- first
pub record Share : Type 0 where
  pub position : ℕ
  pub held : List Act

-- a copy's share after a change, and the kept acts after it
pub record Sharing : Type 0 where
  pub share : Share
  pub kept : List Act

abbrev pub share_of : Copy → Share
share_of copy = record { position = copy.position; held = copy.held }

-- a copy with this share
abbrev pub with_share : Share → Copy → Copy
with_share share copy = record copy { position = share.position; held = share.held }

-- the share of a copy that has done so many acts and holds none
abbrev pub share_from : ℕ → Share
share_from position = record { position = position; held = [] }

-- Entering the kept acts

abbrev pub one_further : Share → Share
one_further share = record share { position = share.position + 1 }

abbrev pub entering_free : Act → List Act → Share → Bool → Bool → Sharing
entering_free done kept share true taking = record { share = one_further share; kept = kept }
entering_free done kept share false true = record { share = record share { held = done ∷ [] }; kept = kept }
entering_free done kept share false false = record { share = one_further share; kept = done ∷ kept }

abbrev pub entering_behind : ℕ → Act → List Act → Share → List Act → Sharing
entering_behind number done kept share [] =
    entering_free done kept share (nat_lt share.position (own_acts number kept)) (is_take done)
entering_behind number done kept share (first ∷ rest) =
    record { share = record share { held = done ∷ share.held }; kept = kept }

-- how an act of a copy enters the kept acts: behind held acts it is held too; else a copy that is behind the kept acts
-- only comes one further; else a take is held; else the act is kept
abbrev pub share_after_act : ℕ → Act → List Act → Share → Sharing
share_after_act number done kept share = entering_behind number done kept share share.held

-- the copy after its act entered them
abbrev pub after_entering : ℕ → Act → List Act → Copy → Copy
after_entering number done kept copy = with_share (share_after_act number done kept (share_of copy)).share copy

-- Checkpoints

-- the kept acts after the held acts and the step at the checkpoint were added
abbrev pub kept_with_checkpoint : ℕ → List Act → Share → List Act
kept_with_checkpoint number kept share = Step number ∷ (share.held ++ kept)

abbrev pub passing_where : ℕ → List Act → Share → Bool → Sharing
passing_where number kept share true = record { share = one_further share; kept = kept }
passing_where number kept share false =
    record {
      share = share_from (own_acts number (kept_with_checkpoint number kept share));
      kept = kept_with_checkpoint number kept share;
    }

-- a copy passes its checkpoint: which it did already, or which is kept now, with its held acts before it
abbrev pub share_after_pass : ℕ → List Act → Share → Sharing
share_after_pass number kept share = passing_where number kept share (nat_lt share.position (own_acts number kept))

-- the act of a process at its checkpoint, where it stands at one
abbrev pub acts_at : ℕ → Point → List Act
acts_at number point.AtCheckpoint = Step number ∷ []
acts_at number point.Inner = []
acts_at number point.Take = []
acts_at number point.Ask = []
acts_at number point.Await = []
acts_at number point.Answer = []
acts_at number point.Device = []
acts_at number point.Ended = []

-- the kept acts after the held acts were added, and the act at the checkpoint if a process stands at one
abbrev pub kept_up_to : ℕ → Point → List Act → Share → List Act
kept_up_to number stands kept share = acts_at number stands ++ (share.held ++ kept)

abbrev pub covering_where : ℕ → Point → List Act → Share → Bool → Sharing
covering_where number stands kept share true = record { share = share; kept = kept }
covering_where number stands kept share false =
    record { share = share_from (own_acts number (share.held ++ kept)); kept = kept_up_to number stands kept share }

-- the other copy applied a checkpoint of this copy, which stands at this point: that changes nothing where this copy is
-- behind the kept acts. Else what it holds is kept, and its act at the checkpoint, before which it then stands
abbrev pub share_after_cover : ℕ → Point → List Act → Share → Sharing
share_after_cover number stands kept share =
    covering_where number stands kept share (nat_lt share.position (own_acts number kept))

abbrev pub covered_where : ℕ → Point → List Act → Share → Bool → ℕ
covered_where number stands kept share true = share.position + own_acts number (acts_at number stands)
covered_where number stands kept share false = own_acts number (kept_up_to number stands kept share)

-- how many kept acts of the process that checkpoint covers: those that this copy has done, and the one at the
-- checkpoint if it stands at one
abbrev pub covered_count : ℕ → Point → List Act → Share → ℕ
covered_count number stands kept share =
    covered_where number stands kept share (nat_lt share.position (own_acts number kept))

-- Stops and the end

-- the share of a copy whose held acts are dropped
abbrev pub share_without_held : Share → Share
share_without_held share = record share { held = [] }

abbrev pub without_held : Copy → Copy
without_held copy = with_share (share_without_held (share_of copy)) copy

-- the run is closed: what a copy still holds is kept
abbrev pub share_at_close : List Act → Share → Sharing
share_at_close kept share = record { share = share_without_held share; kept = share.held ++ kept }

abbrev pub let_go : Pair → Pair
let_go pair = record pair { first = without_held pair.first; second = without_held pair.second }

-- the kept acts after a process was closed: what its first copy holds comes before what its second one holds
abbrev pub closed_by : List Act → Pair → List Act
closed_by kept pair = (share_at_close (share_at_close kept (share_of pair.first)).kept (share_of pair.second)).kept

-- after all processes were closed, in the order of the deck
abbrev pub closed_by_all : List Act → List Pair → List Act
closed_by_all kept [] = kept
closed_by_all kept (pair ∷ pairs) = closed_by_all (closed_by kept pair) pairs

-- the acts after the run was closed at an idle end, the oldest first: what each copy still holds is kept, in the order
-- of the deck
abbrev pub closed : World → List Act
closed w = reverse (closed_by_all w.kept w.processes)
