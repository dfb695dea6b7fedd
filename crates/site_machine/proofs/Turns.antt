-- What is handed over after a packet came: it changes the world, whatever was sent before it, and only adds to that.
use Rattle.std.proofs.Common.{◌≡◌, ℕ, ℤ, ◌++◌, List, Option, Some, None, refl, ap, sym, ◌∙◌}
use Rattle.tal_tree.specs.declared.site.Site.{Site}
use Rattle.alive_regroup.specs.Watching as watching
use Rattle.alive_regroup.specs.Watching.{changed_at}
use Rattle.node.specs.world_semantics.specs.World.{World}
use Rattle.node.specs.world_semantics.specs.Running.{Done}
use Rattle.node.specs.computed_changes.specs.Changed.{change_done}
use Rattle.node.specs.computed_changes.specs.Handed.{handed_done}
use Rattle.node.specs.computed_changes.specs.Stopped.{down_done}
use Rattle.node.specs.letters.specs.Again.{sent_again}
use Rattle.node.specs.letters.specs.Routes.{letters_of}
use Rattle.node.specs.packet_wires.specs.message_layout.specs.Messages.{NodeMessage, Carrying, Changing, Reporting}
use Rattle.node.specs.packet_wires.specs.message_layout.specs.Messages.{Declaring}
use Rattle.node.specs.packet_wires.specs.message_layout.specs.Reading.{understood}
use Rattle.node.specs.packet_wires.specs.Parcels.{parcels_of}
use Rattle.node.specs.packet_wires.specs.Play.{Packeted, Underway, after_any, underway, handed, handed_any}
use Rattle.node.specs.packet_wires.specs.Play.{handed_words}
use Rattle.node.specs.packet_wires.specs.Play.{marked_by}
use Rattle.node.specs.packet_wires.specs.Play.{declared, marks, marks_and_declares, over}
use Rattle.node.specs.packet_wires.specs.Wires.{Midst, Wires, all_posted, cut_off, declares, learns, nothing_sent}
use Rattle.node.specs.event_parts.specs.Parts.{OnlyAdds, carried_out}
use Rattle.node.specs.event_parts.proofs.Adds.{adds-all-posted, adds-cut-off, adds-declares, adds-learns, adds-nothing}
use Rattle.node.specs.event_parts.proofs.Adds.{adds-then}
use Rattle.node.specs.event_parts.proofs.Numbers.{can-all-posted, can-cut-off}
use Rattle.node.specs.event_parts.specs.Numbers.{CanPush}
use Rattle.node.specs.event_parts.proofs.Turns.{carried-then}
use Rattle.site_machine.specs.Told.{after_part}
use Rattle.node.specs.machine_states.specs.disc_device.specs.mirror.specs.declared.state.DriveState.{DriveState}

record IsPart (does : Underway → Underway) (site : Site) (w : World) (drives : List (List DriveState)) :
    Type 0 where
  world : World
  part : Midst → Midst
  adds : OnlyAdds part
  same : (midst : Midst) → does (record { site = site; world = w; wires = midst; drives = drives })
      ≡ record { site = site; world = world; wires = part midst; drives = drives }

module _ (site : Site) (w : World) (drives : List (List DriveState)) (node : ℕ) where
  any-part : (done : Option Done) → IsPart (λ u. after_any u done) site w drives
  any-part None = record { world = w; part = λ midst. midst; adds = adds-nothing; same = λ midst. refl }
  any-part (Some done) = record {
    world = done.world;
    part = all_posted done.world.stopped (parcels_of done.world (letters_of site done.world done.sendings));
    adds = adds-all-posted done.world.stopped (parcels_of done.world (letters_of site done.world done.sendings));
    same = λ midst. refl;
  }

  mark-part : (processor : ℕ) (done : Option Done) → IsPart (λ u. marked_by node processor u done) site w drives
  mark-part processor None = record { world = w; part = λ midst. midst; adds = adds-nothing; same = λ midst. refl }
  mark-part processor (Some done) =
      let posts : Midst → Midst = all_posted done.world.stopped
      (parcels_of done.world (letters_of site done.world
      (done.sendings ++ sent_again site w done.world node processor))) in record {
        world = done.world;
        part = λ midst. posts (cut_off node processor midst);
        adds = adds-then (cut_off node processor) posts (adds-cut-off node processor)
            (adds-all-posted done.world.stopped
            (parcels_of done.world (letters_of site done.world
            (done.sendings ++ sent_again site w done.world node processor))));
        same = λ midst. refl;
      }

  handed-part : (message : NodeMessage) → IsPart (handed node message) site w drives
  handed-part (Carrying message) =
      let one = any-part (handed_done site node message w) in
      record { world = one.world; part = one.part; adds = one.adds; same = one.same }
  handed-part (Changing change) =
      let one = any-part (change_done site node change w) in
      record { world = one.world; part = one.part; adds = one.adds; same = one.same }
  handed-part (Reporting from silent) = record {
    world = w;
    part = learns node (changed_at from (watching.neighbour_after_report silent));
    adds = adds-learns node (changed_at from (watching.neighbour_after_report silent));
    same = λ midst. refl;
  }
  handed-part (Declaring processor) =
      let one = mark-part processor (down_done node processor w) in
      record { world = one.world; part = one.part; adds = one.adds; same = one.same }

  read-part : (message : Option NodeMessage) → IsPart (handed_any node message) site w drives
  read-part None = record { world = w; part = λ midst. midst; adds = adds-nothing; same = λ midst. refl }
  read-part (Some message) =
      let one = handed-part message in
      record { world = one.world; part = one.part; adds = one.adds; same = one.same }

  words-part : (words : Option (List ℤ)) → IsPart (handed_words node words) site w drives
  words-part None = record { world = w; part = λ midst. midst; adds = adds-nothing; same = λ midst. refl }
  words-part (Some words) =
      let one = read-part (understood site words) in
      record { world = one.world; part = one.part; adds = one.adds; same = one.same }

  declared-part : (processor : ℕ) → IsPart (marks_and_declares node processor) site w drives
  declared-part processor =
      let one = mark-part processor (down_done node processor w) in record {
        world = one.world;
        part = λ midst. declares site.processors node processor (one.part midst);
        adds = adds-then one.part (declares site.processors node processor) one.adds
            (adds-declares site.processors node processor);
        same = λ midst. ap (declared node processor) (one.same midst);
      }

-- the same as a part of its own, after another part was carried out
in-turn : (does : Underway → Underway) (first : Midst → Midst) (s : Packeted) → IsPart does s.site s.world s.drives
    → over s.wires (does (record (underway s) { wires = first (nothing_sent s.wires.nodes) }))
    ≡ after_part does (record s { wires = carried_out first s.wires })
in-turn does first s one =
    let then : Wires = carried_out first s.wires in
    ap (over s.wires) (one.same (first (nothing_sent s.wires.nodes)))
    ∙ ap (λ (wires : Wires). record { site = s.site; world = one.world; wires = wires; drives = s.drives })
    (sym (carried-then first one.part s.wires one.adds))
    ∙ sym (ap (over then) (one.same (nothing_sent then.nodes)))

pub handed-in-turn : (first : Midst → Midst) (node : ℕ) (words : Option (List ℤ)) (s : Packeted)
    → over s.wires (handed_words node words (record (underway s) { wires = first (nothing_sent s.wires.nodes) }))
    ≡ after_part (handed_words node words) (record s { wires = carried_out first s.wires })
handed-in-turn first node words s = in-turn (handed_words node words) first s (words-part s.site s.world s.drives
    node words)

pub declared-in-turn : (first : Midst → Midst) (node processor : ℕ) (s : Packeted)
    → over s.wires (marks_and_declares node processor (record (underway s)
    { wires = first (nothing_sent s.wires.nodes) }))
    ≡ after_part (marks_and_declares node processor) (record s { wires = carried_out first s.wires })
declared-in-turn first node processor s =
    in-turn (marks_and_declares node processor) first s (declared-part s.site s.world s.drives node processor)

-- what is told after a mark is a part of its own
pub declared-after : (node processor : ℕ) (s : Packeted) (u : Underway)
    → record (over s.wires u) {
      wires = carried_out (declares u.site.processors node processor)
          (over s.wires u).wires;
    } ≡ over s.wires (declared node processor u)
declared-after node processor s u =
    ap (λ (wires : Wires). record { site = u.site; world = u.world; wires = wires; drives = u.drives })
    (carried-then (λ midst. u.wires) (declares u.site.processors node processor) s.wires
    (adds-declares u.site.processors node processor))

-- what is pushed goes on to find a number after a mark
pub can-marks : (node processor : ℕ) (s : Packeted) → CanPush s.wires.nodes
    → CanPush (after_part (marks node processor) s).wires.nodes
can-marks node processor s can = by (down_done node processor s.world)
  where
    by : (done : Option Done) → CanPush (over s.wires (marked_by node processor (underway s) done)).wires.nodes
    by None = can
    by (Some done) =
        can-all-posted done.world.stopped (parcels_of done.world (letters_of s.site done.world
        (done.sendings ++ sent_again s.site s.world done.world node processor)))
        (cut_off node processor (nothing_sent s.wires.nodes))
        (can-cut-off node processor (nothing_sent s.wires.nodes) can)
