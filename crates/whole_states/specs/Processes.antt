-- The whole states of processes of either kind.
use Rattle.std.specs.Prelude.{◌≤◌, ◌<◌, ℤ, List, length, Option, Some, None}
use Rattle.process_semantics.specs.tal_tree.specs.Regular.{IsRegular}
use Rattle.process_semantics.specs.tal_tree.specs.declared.site.Kind.{Kind}
use Rattle.process_semantics.specs.tal_tree.specs.declared.site.Kind.TheVariants as kind
use Rattle.process_semantics.specs.declared.disc.DiscState.{DiscState}
use Rattle.process_semantics.specs.declared.point.Point.{Point}
use Rattle.process_semantics.specs.declared.point.Point.TheVariants.{Take, Answer, AtCheckpoint, Device}
use Rattle.process_semantics.specs.Process.{ProcessState, Runs, Serves}
use Rattle.whole_states.specs.Whole.{IsWhole}
use Rattle.process_semantics.specs.gd_words.specs.declared.limits.TheConstants.{MOST_MESSAGE_WORDS}

-- a disc at Take has neither request nor reply, at AtCheckpoint and at Device a request, and at Answer a reply too,
-- which isn't empty
abbrev pub IsDiscAt : Point → Option (List ℤ) → Option (List ℤ) → Type 0
IsDiscAt Take None None = Unit {0}
IsDiscAt AtCheckpoint (Some request) None = length request ≤ MOST_MESSAGE_WORDS
IsDiscAt Device (Some request) None = length request ≤ MOST_MESSAGE_WORDS
IsDiscAt Answer (Some request) (Some reply) =
    (length request ≤ MOST_MESSAGE_WORDS) × ((1 ≤ length reply) × (length reply ≤ MOST_MESSAGE_WORDS))
IsDiscAt _ _ _ = ⊥

-- a whole state of a disc: the number of its last write fits in 32 bits
pub record IsWholeDisc (s : DiscState) : Type 0 where
  pub fits : IsDiscAt s.label s.request s.reply
  pub number : s.last_write < 4294967296

-- a whole state of a process; a program's is one of a regular program
abbrev pub IsWholeProcess : ProcessState → Type 0
IsWholeProcess (Runs program s) = IsRegular program × IsWhole program s
IsWholeProcess (Serves sectors s) = IsWholeDisc s

-- a process as a site has it, whose program, if it has one, is regular
abbrev pub IsRegularKind : Kind → Type 0
IsRegularKind (kind.Disc sectors mirrored) = Unit {0}
IsRegularKind (kind.Pair program) = IsRegular program
