-- Whether a state is idle is told by its present alone.
use Rattle.std.proofs.Common.{◌≡◌, ℕ, ◌&&◌, ◌||◌, Bool, true, false, not, List, [], ◌∷◌, length, map, slice_get, Option}
use Rattle.std.proofs.Common.{Some, None, is_none, refl, ap, ap₂, sym, ◌∙◌}
use Rattle.std.proofs.Math.Path.{fun_ext}
use Rattle.std.proofs.lemmas.List.{length-map}
use Rattle.checkpoint_image.specs.tal_tree.specs.declared.site.Site.{Site}
use Rattle.schedule_loop.specs.world_semantics.specs.Running.{Done, run_done}
use Rattle.schedule_loop.specs.world_semantics.specs.World.{Pair, World, is_running, terminal_node}
use Rattle.packet_runs.specs.packet_wires.specs.computed_changes.specs.Entered.{enter_done}
use Rattle.packet_runs.specs.packet_wires.specs.message_wires.specs.Idle as letters
use Rattle.packet_runs.specs.packet_wires.specs.message_wires.specs.Idle.{all_from, all_marked, awaits_taking}
use Rattle.packet_runs.specs.packet_wires.specs.message_wires.specs.Idle.{has_marked_all, has_marked_if}
use Rattle.packet_runs.specs.packet_wires.specs.message_wires.specs.Idle.{none_awaits_taking, none_enters, none_owed}
use Rattle.packet_runs.specs.packet_wires.specs.message_wires.specs.Idle.{none_runs}
use Rattle.packet_runs.specs.packet_wires.specs.message_wires.specs.Play.{MachineState}
use Rattle.packet_runs.specs.packet_wires.specs.Idle.{all_quiet, is_idle}
use Rattle.packet_runs.specs.packet_wires.specs.Play.{Packeted}
use Rattle.history_laws.specs.Present.{present, present_pair, present_state}
use Rattle.history_laws.proofs.Worlds.{enter-present, present_changes, run-present}

-- What can be done

none-present : (done : Option Done) → is_none (present_changes done) ≡ is_none done
none-present None = refl
none-present (Some done) = refl

-- of changes that have one present there is none if there isn't the other
none-alike : (one other : Option Done) → present_changes one ≡ present_changes other → is_none one ≡ is_none other
none-alike one other same =
    sym (none-present one) ∙ ap (λ (done : Option Done). is_none done) same ∙ none-present other

-- the same holds of all numbers if the same holds of each
all-alike : (one other : ℕ → Bool) (first left : ℕ) → ((number : ℕ) → one number ≡ other number)
    → all_from one first left ≡ all_from other first left
all-alike one other first left same = ap (λ (test : ℕ → Bool). all_from test first left) (fun_ext same)

enters-present : (site : Site) (w : World) → none_enters site w ≡ none_enters site (present w)
enters-present site w =
    all-alike (λ terminal. is_none (enter_done site terminal w)) (λ terminal. is_none (enter_done site terminal
    (present w))) 0 (length w.terminals)
    (λ terminal. none-alike (enter_done site terminal w) (enter_done site terminal (present w))
    (enter-present site terminal w))

runs-present : (site : Site) (w : World) → none_runs site w ≡ none_runs site (present w)
runs-present site w =
    all-alike (λ number. is_none (run_done site number w)) (λ number. is_none (run_done site number (present w))) 0
    (length w.processes)
    (λ number. none-alike (run_done site number w) (run_done site number (present w)) (run-present site number w))
    ∙ ap (λ (count : ℕ). all_from (λ number. is_none (run_done site number (present w))) 0 count)
    (sym (length-map w.processes present_pair))

awaits-present : (pairs : List Pair) → none_awaits_taking pairs ≡ none_awaits_taking (map present_pair pairs)
awaits-present [] = refl
awaits-present (pair ∷ pairs) =
    ap (λ (rest : Bool). (not (awaits_taking pair.first) && not (awaits_taking pair.second)) && rest)
    (awaits-present pairs)

-- Marks

module _ (w : World) where
  marks-if : (node processor : ℕ) (stopped : Option Bool)
      → has_marked_if w node processor stopped ≡ has_marked_if (present w) node processor stopped
  marks-if node processor None = refl
  marks-if node processor (Some true) = refl
  marks-if node processor (Some false) = refl

  marks-all : (node : ℕ) → has_marked_all w node ≡ has_marked_all (present w) node
  marks-all node =
      ap (λ (marks : Bool). not (is_running w.stopped node) || marks)
      (all-alike (λ processor. has_marked_if w node processor (slice_get w.stopped processor))
      (λ processor. has_marked_if (present w) node processor (slice_get w.stopped processor)) 0 (length w.stopped)
      (λ processor. marks-if node processor (slice_get w.stopped processor)))

  marks-present : all_marked w ≡ all_marked (present w)
  marks-present =
      ap₂ (λ (each terminals : Bool). each && terminals)
      (all-alike (λ node. has_marked_all w node) (λ node. has_marked_all (present w) node) 0 (length w.stopped)
      marks-all)
      (marks-all terminal_node)

-- whatever is on the wires, by whether that is quiet
all-present : (site : Site) (w : World) (quiet : Bool)
    → (none_enters site w && (none_runs site w && (none_awaits_taking w.processes && (quiet && all_marked w))))
    ≡ (none_enters site (present w)
    && (none_runs site (present w)
    && (none_awaits_taking (map present_pair w.processes) && (quiet && all_marked (present w)))))
all-present site w quiet =
    ap₂ (λ (one rest : Bool). one && rest) (enters-present site w)
    (ap₂ (λ (one rest : Bool). one && rest) (runs-present site w)
    (ap₂ (λ (one rest : Bool). one && rest) (awaits-present w.processes)
    (ap (λ (rest : Bool). quiet && rest) (marks-present w))))

pub idle-present : (s : Packeted) → is_idle s ≡ is_idle (present_state s)
idle-present s = all-present s.site s.world (all_quiet s.world.stopped s.wires.nodes)

pub idle-letters : (s : MachineState) → letters.is_idle s ≡ letters.is_idle (present_state s)
idle-letters s = all-present s.site s.world (none_owed s.world.stopped s.wires.owed)
