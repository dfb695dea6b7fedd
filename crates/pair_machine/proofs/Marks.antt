-- A mark, step by step: the world after it, what is owed no more, and what is posted. And the marks of a tick, one
-- after another.
use Rattle.std.proofs.Common.{◌≡◌, ℕ, suc, ◌+◌, ◌-◌, ◌<◌, List, ◌++◌, ap, ap₂, sym, ◌∙◌, arith}
use Rattle.world_semantics.specs.Messages.{Sending}
use Rattle.world_semantics.specs.Running.{Done}
use Rattle.message_wires.specs.computed_changes.specs.Stopped.{down_done}
use Rattle.message_wires.specs.letters.specs.Again.{sent_again}
use Rattle.message_wires.specs.Play.{MachineState, after_marked, marked_by, marks_from}
use Rattle.message_wires.specs.Wires.{paid_between}
use Rattle.pair_machine.specs.Told.{sent_all}

pub marked-steps : (s marked paid after : MachineState) (node processor : ℕ) (sendings : List Sending) (done : Done)
    → marked ≡ record s { world = done.world }
    → sendings ≡ done.sendings ++ sent_again s.site s.world done.world node processor
    → paid ≡ record marked { wires = paid_between node processor marked.wires } → after ≡ sent_all sendings paid
    → after ≡ after_marked node processor s done
marked-steps s marked paid after node processor sendings done downs tells pays posts =
    posts
    ∙ ap₂ sent_all tells
    (pays ∙ ap (λ (s : MachineState). record s { wires = paid_between node processor s.wires }) downs)

left-more : (place count : ℕ) → place < count → count - place ≡ suc (count - (place + 1))
left-more place count within = omega arith

-- after the mark of one processor what is left to be marked leads to the same
pub downs-step : (node place count : ℕ) (s after : MachineState) → place < count
    → after ≡ marked_by node place s (down_done node place s.world)
    → marks_from node (place + 1) (count - (place + 1)) after ≡ marks_from node place (count - place) s
downs-step node place count s after within downs =
    ap (λ next. marks_from node (place + 1) (count - (place + 1)) next) downs
    ∙ ap (λ more. marks_from node place more s) (sym (left-more place count within))
