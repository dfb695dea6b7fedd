-- The world of copies: all that it has. Pairs in two processors, checkpoints and takeover are Bartlett's; eras, bases,
-- positions and held acts are our own. Lists of what happened (acts, what is shown, messages, marks) have the newest
-- first, so what is added stands before what was there; processes, terminals, sectors and waiting requests stand in
-- their order.
use Rattle.std.specs.Prelude.{ℕ, ◌+◌, ◌==◌, ◌&&◌, Bool, false, not, ◌||◌, List, [], ◌∷◌, map, replicate, slice_get}
use Rattle.std.specs.Prelude.{slice_set, Option, Some, None, true}
use Rattle.std.specs.List.{list_any}
use Rattle.checkpoint_image.specs.gd_words.specs.declared.message.Request.{Request}
use Rattle.checkpoint_image.specs.gd_words.specs.declared.message.Reply.{Reply}
use Rattle.checkpoint_image.specs.tal_tree.specs.declared.act.Act.{Act}
use Rattle.checkpoint_image.specs.tal_tree.specs.declared.act.Shown.{Shown}
use Rattle.checkpoint_image.specs.tal_tree.specs.declared.site.Site.{Site}
use Rattle.checkpoint_image.specs.tal_tree.specs.declared.site.ProcessSpec.{ProcessSpec}
use Rattle.checkpoint_image.specs.tal_tree.specs.declared.site.Kind.{Kind}
use Rattle.checkpoint_image.specs.tal_tree.specs.declared.site.Kind.TheVariants as kind
use Rattle.disc_device.specs.Sectors.{Stored, blank}
use Rattle.checkpoint_image.specs.declared.message.ImageMessage.{ImageMessage}
use Rattle.checkpoint_image.specs.declared.message.TakenMessage.{TakenMessage}
use Rattle.world_semantics.specs.declared.role.Role.{Role}
use Rattle.world_semantics.specs.declared.role.Role.TheVariants.{Acting, Watching, Blank, Gone}
pub use Rattle.world_semantics.specs.declared.which.Which.{Which}
pub use Rattle.world_semantics.specs.declared.which.Which.TheVariants.{First, Second}
use Rattle.world_semantics.specs.Core.{Core, core_at_boot}
use Rattle.checkpoint_image.specs.gd_words.specs.declared.limits.TheConstants.{TERMINAL_NODE}

-- a copy of a process: the processor in which it is, its role, its era, the number of the last checkpoint sent or
-- applied in that era, whether it has sent a checkpoint where it stands, whether that was acknowledged, whether it has
-- to send everything that it has, its core, and the requests that wait. Its position is how many of the process's kept
-- acts it has done, and its held acts are those that it did beyond them
pub record Copy : Type 0 where
  pub processor : ℕ
  pub role : Role
  pub era : ℕ
  pub number : ℕ
  pub sent : Bool
  pub acknowledged : Bool
  pub renewal : Bool
  pub core : Core
  pub waiting : List Request
  pub position : ℕ
  pub held : List Act

-- a process: its copies in its two processors, how many of its kept acts the last applied checkpoint covers, the
-- checkpoints that its copies ever sent and the messages that those were taken, the sectors of its device, and the copy
-- that leads: nodes send to it which haven't marked its processor. It is the first one at the beginning, and the one
-- that acts when the other one's processor is loaded again
pub record Pair : Type 0 where
  pub first : Copy
  pub second : Copy
  pub base : ℕ
  pub checkpoints : List ImageMessage
  pub takens : List TakenMessage
  pub sectors : List Stored
  pub led : Which

-- a terminal: how many requests it has entered, and how many replies it has printed
pub record Terminal : Type 0 where
  pub entered : ℕ
  pub printed : ℕ

-- a node has marked a processor as stopped
pub record Down : Type 0 where
  pub node : ℕ
  pub down : ℕ

-- the world: which processors have stopped, how many times each was loaded again, which node has marked which, the
-- requests and replies ever sent, the processes, the terminals, what was shown, and the acts that are kept
pub record World : Type 0 where
  pub stopped : List Bool
  pub reloads : List ℕ
  pub downs : List Down
  pub requests : List Request
  pub replies : List Reply
  pub processes : List Pair
  pub terminals : List Terminal
  pub shown : List Shown
  pub kept : List Act

-- Beginning

abbrev pub copy_at_boot : Role → ℕ → Core → Copy
copy_at_boot role processor core = record {
  processor = processor;
  role = role;
  era = 0;
  number = 0;
  sent = false;
  acknowledged = false;
  renewal = false;
  core = core;
  waiting = [];
  position = 0;
  held = [];
}

abbrev pub device_at_boot : Kind → List Stored
device_at_boot (kind.Disc sectors mirrored) = replicate sectors blank
device_at_boot (kind.Pair program) = []

-- a process at the beginning: the copy in its first-named processor acts, the other one watches, and both are at the
-- beginning of the program
abbrev pub pair_at_boot : Site → ℕ → ProcessSpec → Pair
pair_at_boot site number spec = record {
  first = copy_at_boot Acting spec.primary (core_at_boot site number spec);
  second = copy_at_boot Watching spec.backup (core_at_boot site number spec);
  base = 0;
  checkpoints = [];
  takens = [];
  sectors = device_at_boot spec.what;
  led = First;
}

abbrev pub pairs_at_boot : Site → ℕ → List ProcessSpec → List Pair
pairs_at_boot site number [] = []
pairs_at_boot site number (spec ∷ specs) = pair_at_boot site number spec ∷ pairs_at_boot site (number + 1) specs

-- the world at the beginning: nothing has stopped, and nothing was sent, shown or kept
abbrev pub boot : Site → World
boot site = record {
  stopped = replicate site.processors false;
  reloads = replicate site.processors 0;
  downs = [];
  requests = [];
  replies = [];
  processes = pairs_at_boot site 0 site.processes;
  terminals = map (λ terminal. record { entered = 0; printed = 0 }) site.terminals;
  shown = [];
  kept = [];
}

-- Nodes and copies

-- the node that carries the terminals. It doesn't stop
abbrev pub terminal_node : ℕ
terminal_node = TERMINAL_NODE

abbrev pub runs_by : ℕ → Option Bool → Bool
runs_by node (Some stopped) = not stopped
runs_by node None = node == terminal_node

-- whether a node runs: a processor that hasn't stopped, or the node of the terminals
abbrev pub is_running : List Bool → ℕ → Bool
is_running stopped node = runs_by node (slice_get stopped node)

-- whether a node has marked a processor
abbrev pub has_marked : List Down → ℕ → ℕ → Bool
has_marked downs node processor = list_any (λ mark. mark.node == node && mark.down == processor) downs

-- whether each of these processors, from a number on, that runs has marked a processor
abbrev pub marked_from : List Down → ℕ → ℕ → List Bool → Bool
marked_from downs processor from [] = true
marked_from downs processor from (true ∷ stopped) = marked_from downs processor (from + 1) stopped
marked_from downs processor from (false ∷ stopped) =
    has_marked downs from processor && marked_from downs processor (from + 1) stopped

-- whether each node that runs has marked a processor
abbrev pub is_marked_by_all : World → ℕ → Bool
is_marked_by_all w processor =
    marked_from w.downs processor 0 w.stopped
    && (not (is_running w.stopped terminal_node) || has_marked w.downs terminal_node processor)

abbrev pub other_of : Which → Which
other_of First = Second
other_of Second = First

abbrev pub copy_of : Which → Pair → Copy
copy_of First pair = pair.first
copy_of Second pair = pair.second

-- a process with one of its copies changed
abbrev pub with_copy : Which → Copy → Pair → Pair
with_copy First copy pair = record pair { first = copy }
with_copy Second copy pair = record pair { second = copy }

-- whether a copy may go on after its checkpoint: its checkpoint was acknowledged, or its node has marked the other
-- copy's processor
abbrev pub may_pass : List Down → Which → Pair → Bool
may_pass downs k pair =
    (copy_of k pair).acknowledged || has_marked downs (copy_of k pair).processor (copy_of (other_of k) pair).processor

abbrev pub is_acting : Role → Bool
is_acting Acting = true
is_acting Watching = false
is_acting Blank = false
is_acting Gone = false

abbrev pub is_watching : Role → Bool
is_watching Watching = true
is_watching Acting = false
is_watching Blank = false
is_watching Gone = false

-- whether of two copies one acts and the other watches
abbrev pub is_pair_of : Role → Role → Bool
is_pair_of Acting other = is_watching other
is_pair_of Watching other = is_acting other
is_pair_of Blank other = false
is_pair_of Gone other = false

-- whether a copy gets checkpoints: it watches, or it is blank
abbrev pub receives : Role → Bool
receives Watching = true
receives Blank = true
receives Acting = false
receives Gone = false

-- whether a world is whole: no processor has stopped, and each process has a copy that acts and one that watches
abbrev pub is_whole : World → Bool
is_whole w = not (list_any (λ stopped. stopped) w.stopped)
    && not (list_any (λ pair. not (is_pair_of pair.first.role pair.second.role)) w.processes)

-- the world with a process changed
abbrev pub with_pair : ℕ → Pair → World → World
with_pair number pair w = record w { processes = slice_set w.processes number pair }
