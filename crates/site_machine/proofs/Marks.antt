-- A mark, step by step: the world after it, the end that is thrown away, and what is posted.
use Rattle.std.proofs.Common.{◌≡◌, ℕ, ◌++◌, List, Option, Some, None, Bool, true, if◌then◌else◌, ap, ap₂, sym, subst}
use Rattle.std.proofs.Common.{◌∙◌}
use Rattle.node.specs.world_semantics.specs.Messages.{Sending}
use Rattle.node.specs.world_semantics.specs.Running.{Done}
use Rattle.node.specs.computed_changes.specs.Stopped.{down_done, world_at_down}
use Rattle.node.specs.letters.specs.Again.{sent_again}
use Rattle.node.specs.letters.specs.Routes.{letters_of}
use Rattle.node.specs.packet_wires.specs.Parcels.{parcels_of}
use Rattle.node.specs.packet_wires.specs.Play.{Packeted, after_marked, underway, marked_by, marks, over}
use Rattle.node.specs.packet_wires.specs.Wires.{Wires, all_posted, cut_off}
use Rattle.node.specs.event_parts.specs.Parts.{carried_out}
use Rattle.node.specs.event_parts.proofs.Adds.{adds-all-posted}
use Rattle.node.specs.event_parts.proofs.Turns.{carried-then}
use Rattle.site_machine.specs.Needs.{AreWithin, DownsWithin}
use Rattle.site_machine.specs.Told.{after_part, sent_all}

pub marked-steps : (s marked cut after : Packeted) (node processor : ℕ) (sendings : List Sending) (done : Done)
    → marked ≡ record s { world = done.world }
    → sendings ≡ done.sendings ++ sent_again s.site s.world done.world node processor
    → cut ≡ record marked { wires = carried_out (cut_off node processor) marked.wires } → after ≡ sent_all sendings cut
    → after ≡ after_part (λ u. after_marked node processor u done) s
marked-steps s marked cut after node processor sendings done marks tells cuts posts =
    posts
    ∙ ap₂ sent_all tells
    (cuts ∙ ap (λ (one : Packeted). record one { wires = carried_out (cut_off node processor) one.wires }) marks)
    ∙ ap (λ (wires : Wires). record s { world = done.world; wires = wires })
    (carried-then (cut_off node processor) (all_posted done.world.stopped (parcels_of done.world
    (letters_of s.site done.world (done.sendings ++ sent_again s.site s.world done.world node processor)))) s.wires
    (adds-all-posted done.world.stopped (parcels_of done.world
    (letters_of s.site done.world (done.sendings ++ sent_again s.site s.world done.world node processor)))))

-- where nothing is to be marked
pub mark-none : (node processor : ℕ) (s : Packeted) → down_done node processor s.world ≡ None
    → s ≡ after_part (marks node processor) s
mark-none node processor s none =
    sym (ap (λ (done : Option Done). over s.wires (marked_by node processor (underway s) done)) none)

pub mark-some : (node processor : ℕ) (s : Packeted) (done : Done) → down_done node processor s.world ≡ Some done
    → after_part (λ u. after_marked node processor u done) s ≡ after_part (marks node processor) s
mark-some node processor s done some =
    sym (ap (λ (found : Option Done). over s.wires (marked_by node processor (underway s) found)) some)

-- what a mark sends keeps to the layout, where a processor is to be marked
pub marks-within : (node processor : ℕ) (t s : Packeted) → t ≡ s → (test : Bool)
    → down_done node processor t.world ≡ (if test then Some (world_at_down node processor t.world) else None)
    → test ≡ true → DownsWithin s.site s.world
    → AreWithin (world_at_down node processor s.world).world ((world_at_down node processor s.world).sendings
    ++ sent_again s.site s.world (world_at_down node processor s.world).world node processor)
marks-within node processor t s same test tells is within =
    within node processor (world_at_down node processor s.world)
    (subst (λ (u : Packeted). down_done node processor u.world ≡ Some (world_at_down node processor u.world)) same
    (tells ∙ ap (λ (b : Bool). if b then Some (world_at_down node processor t.world) else None) is))
