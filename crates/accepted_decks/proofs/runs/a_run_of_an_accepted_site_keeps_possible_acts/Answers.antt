use Rattle.accepted_decks.proofs.Ended.{run-keeps}
use Rattle.accepted_decks.proofs.runs.a_run_of_an_accepted_site_keeps_possible_acts.Goals as goal

pub returns : goal.returns
returns c = λ site lines stop ran accepted limits out is.
    run-keeps site lines stop ran
    (record {
      possible = λ events s few played. c.what_is_played_is_possible.ensures.possible site events s accepted limits out
          few played;
      shown = λ events s few played. c.what_is_played_is_possible.ensures.shown site events s accepted limits
          out few played;
      none = λ events s few played idle. c.an_idle_end_that_is_played_leaves_none.ensures.none site events s accepted
          limits out few played idle;
      closed_shown = λ events s few played idle.
          c.an_idle_end_that_is_played_leaves_none.ensures.shown site events s accepted limits out few
          played idle;
      schedule = λ lines stop events agenda s plays.
          c.events_of_a_schedule_are_played.ensures site lines stop events agenda s plays;
    }) is
