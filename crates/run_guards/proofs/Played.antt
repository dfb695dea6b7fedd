-- The runs of the disc, event by event.
use Rattle.std.proofs.Common.{inl, inr, [], ◌∷◌, Some, None, refl}
use Rattle.schedule.specs.declared.event.Event.TheVariants as event
use Rattle.schedule.specs.declared.line.Line.TheVariants.{One}
use Rattle.player.specs.declared.standing.LinePlace.TheVariants as standing
use Rattle.world_semantics.specs.Examples.{disc_site}
use Rattle.message_wires.specs.Play.{machine_at_boot}
use Rattle.schedule_runs.specs.Rules.{pair_rules}
use Rattle.schedule_runs.specs.Runs.{Plan, course_on}
use Rattle.schedule_runs.specs.schedule_loop.specs.Ends.{Plays, RunsOutBy, RunsToHarmBy}
use Rattle.schedule_runs.specs.schedule_loop.specs.Plans.{seen_none, seen_on}
use Rattle.run_guards.specs.Played.{both_stop, disc_after, skipped_first, stop_of_first}
use Rattle.message_wires.specs.machine_states.specs.States.{SecondStop}

-- a run that can't be done
abbrev run_plan : Plan
run_plan = record {
  event = event.Run 0;
  agenda = record {
    standing = standing.Event (event.Run 0) 0;
    lines = One (event.Enter 0) ∷ [];
    stop = stop_of_first;
    held_back = None;
  };
}

-- the stop, which holds the entry back
abbrev stop_plan : Plan
stop_plan = record {
  event = event.Fail 0;
  agenda = record {
    standing = standing.Event (event.Enter 0) 0;
    lines = [];
    stop = None;
    held_back = Some (event.Enter 0);
  };
}

-- the entry
abbrev enter_plan : Plan
enter_plan = record {
  event = event.Enter 0;
  agenda = record { standing = standing.Event (event.Enter 0) 0; lines = []; stop = None; held_back = None };
}

skipped : Plays pair_rules (course_on disc_site skipped_first stop_of_first) (event.Run 0 ∷ []) run_plan.agenda
    (machine_at_boot disc_site)
skipped = seen_on {events = []} run_plan seen_none refl (inr (refl, refl))

stopped : Plays pair_rules (course_on disc_site skipped_first stop_of_first) (event.Run 0 ∷ event.Fail 0 ∷ [])
    stop_plan.agenda (disc_after (event.Run 0 ∷ event.Fail 0 ∷ []))
stopped = seen_on {events = event.Run 0 ∷ []} stop_plan skipped refl (inl refl)

pub entered : RunsOutBy pair_rules (course_on disc_site skipped_first stop_of_first)
    (event.Run 0 ∷ event.Fail 0 ∷ event.Enter 0 ∷ []) (disc_after (event.Run 0 ∷ event.Fail 0 ∷ event.Enter 0 ∷ []))
entered = record {
  agenda = enter_plan.agenda;
  played = seen_on {events = event.Run 0 ∷ event.Fail 0 ∷ []} enter_plan stopped refl (inl refl);
  over = refl;
}

-- the first stop
abbrev first_plan : Plan
first_plan = record {
  event = event.Fail 1;
  agenda = record {
    standing = standing.Event (event.Fail 1) 0;
    lines = One (event.Fail 0) ∷ [];
    stop = None;
    held_back = None;
  };
}

-- and the second, which isn't played
abbrev second_plan : Plan
second_plan = record {
  event = event.Fail 0;
  agenda = record { standing = standing.Event (event.Fail 0) 0; lines = []; stop = None; held_back = None };
}

pub second : RunsToHarmBy pair_rules (course_on disc_site both_stop None) (event.Fail 1 ∷ [])
    (disc_after (event.Fail 1 ∷ [])) (SecondStop 0)
second = record {
  agenda = first_plan.agenda;
  plan = second_plan;
  played = seen_on {events = []} first_plan seen_none refl (inl refl);
  comes = refl;
  would = refl;
}
