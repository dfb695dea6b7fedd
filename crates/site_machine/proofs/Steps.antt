-- A change of the world that was made, and what it sends posted: the machine's state is what the change makes of it.
use Rattle.std.proofs.Common.{◌≡◌, [], ◌∷◌, List, Option, Some, None, refl, ap, sym, subst, subst₂, ◌∙◌}
use Rattle.std.specs.List.{cons_option}
use Rattle.node.specs.world_semantics.specs.Messages.{Sending}
use Rattle.node.specs.world_semantics.specs.Running.{Done, world_after}
use Rattle.node.specs.machine_states.specs.States.{Settles}
use Rattle.node.specs.machine_states.specs.declared.effect.Effect.{Effect}
use Rattle.node.specs.letters.specs.Routes.{Letter, letter_of, letters_of}
use Rattle.node.specs.packet_wires.specs.Parcels.{parcel_of, parcels_of}
use Rattle.node.specs.packet_wires.specs.Play.{Packeted, after_any, underway, ended, made_by}
use Rattle.node.specs.packet_wires.specs.Wires.{Wires, all_posted, nothing_sent, posted}
use Rattle.node.specs.event_parts.specs.Numbers.{CanPush}
use Rattle.node.specs.event_parts.specs.Parts.{carried_out}
use Rattle.node.specs.event_parts.proofs.Adds.{adds-all-posted}
use Rattle.node.specs.event_parts.proofs.Numbers.{can-all-posted}
use Rattle.node.specs.event_parts.proofs.Turns.{carried-then}
use Rattle.open_links.specs.world_copies.specs.Told.{sent_in}
use Rattle.site_machine.specs.Needs.{AreWithin, AreWithinIfAny}
use Rattle.site_machine.specs.Told.{Answers, after_part, sent_all, unsent}

settled : (s mid after : Packeted) (answer : Effect) (done : Option Done) → mid ≡ unsent s done
    → Answers (sent_in done) mid answer after
    → Settles (ended s.wires (made_by (underway s) done)) s answer after
settled s mid after answer None same answers = (answers.0, answers.1 ∙ same)
settled s mid after answer (Some done) same answers = (answers.0, answers.1 ∙ ap (sent_all done.sendings) same)

-- after what a step tells was posted, the change is made, and the answer is given to it
pub answered : (s mid after : Packeted) (answer : Effect) {told : Option (List Sending)} (done : Option Done)
    → mid ≡ unsent s done → told ≡ sent_in done
    → Answers told mid answer after → Settles (ended s.wires (made_by (underway s) done)) s answer after
answered s mid after answer done same sends answers =
    settled s mid after answer done same (subst (λ told. Answers told mid answer after) sends answers)

-- what a change tells keeps to the layout, where all that it sends does
pub told-within : (s mid : Packeted) (told : Option (List Sending)) (done : Option Done) → mid ≡ unsent s done
    → told ≡ sent_in done
    → ((made : Done) → done ≡ Some made → AreWithin made.world made.sendings) → AreWithinIfAny mid.world told
told-within s mid told done same sends within =
    subst₂ AreWithinIfAny (sym (ap (λ (one : Packeted). one.world) same)) (sym sends) (by done within)
  where
    by : (one : Option Done) → ((made : Done) → one ≡ Some made → AreWithin made.world made.sendings)
        → AreWithinIfAny (world_after s.world one) (sent_in one)
    by None all = tt
    by (Some made) all = all made refl

-- the first message is sent, and then the others
pub sent-then : (sending : Sending) (rest : List Sending) (s : Packeted)
    → sent_all rest (sent_all (sending ∷ []) s) ≡ sent_all (sending ∷ rest) s
sent-then sending rest s = by (letter_of s.site s.world sending)
  where
    by : (one : Option Letter)
        → record s {
          wires = carried_out (all_posted s.world.stopped (parcels_of s.world (letters_of s.site s.world rest)))
              (carried_out (all_posted s.world.stopped (parcels_of s.world (cons_option one []))) s.wires);
        }
        ≡ record s {
          wires = carried_out
              (all_posted s.world.stopped (parcels_of s.world (cons_option one (letters_of s.site s.world rest))))
              s.wires;
        }
    by None = refl
    by (Some letter) =
        ap (λ (wires : Wires). record s { wires = wires })
        (carried-then (posted s.world.stopped (parcel_of s.world letter))
        (all_posted s.world.stopped (parcels_of s.world (letters_of s.site s.world rest))) s.wires
        (adds-all-posted s.world.stopped (parcels_of s.world (letters_of s.site s.world rest))))

-- what is pushed goes on to find a number
pub can-sent : (sendings : List Sending) (s : Packeted) → CanPush s.wires.nodes
    → CanPush (sent_all sendings s).wires.nodes
can-sent sendings s can =
    can-all-posted s.world.stopped (parcels_of s.world (letters_of s.site s.world sendings))
    (nothing_sent s.wires.nodes) can

-- the same of a change that may be none
any : (s mid after : Packeted) (answer : Effect) (done : Option Done) → mid ≡ unsent s done
    → Answers (sent_in done) mid answer after → after ≡ after_part (λ u. after_any u done) s
any s mid after answer None same answers = answers.1 ∙ same
any s mid after answer (Some done) same answers = answers.1 ∙ ap (sent_all done.sendings) same

pub answered-any : (s mid after : Packeted) (answer : Effect) {told : Option (List Sending)} (done : Option Done)
    → mid ≡ unsent s done → told ≡ sent_in done
    → Answers told mid answer after → after ≡ after_part (λ u. after_any u done) s
answered-any s mid after answer done same sends answers =
    any s mid after answer done same (subst (λ told. Answers told mid answer after) sends answers)
