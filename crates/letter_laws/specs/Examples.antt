-- Worked examples: a site of one disc whose terminal awaits a reply, as it is and as it can't be.
use Rattle.std.specs.Prelude.{true, false, [], ◌∷◌, None}
use Rattle.world_semantics.specs.checkpoint_image.specs.declared.message.ImageMessage.{ImageMessage}
use Rattle.world_semantics.specs.declared.role.Role.TheVariants.{Acting}
use Rattle.world_semantics.specs.declared.which.Which.TheVariants.{Second}
use Rattle.world_semantics.specs.Rules.{blank_copy}
use Rattle.world_semantics.specs.World.{World, boot}
use Rattle.awaited_requests.specs.letters.specs.Posts.{Post}
use Rattle.awaited_requests.specs.process_histories.specs.Served.{disc_site}
use Rattle.awaited_requests.specs.Examples.{disc_pair, entered, first_request, letter_to}

-- the terminal's request was sent
abbrev pub entered_and_sent : World
entered_and_sent = record entered { requests = first_request ∷ [] }

-- one of another number was
abbrev pub another_sent : World
another_sent = record entered { requests = record first_request { number = 2 } ∷ [] }

-- the terminal has entered two requests, and has one
abbrev pub entered_too_much : World
entered_too_much = record (boot disc_site) { terminals = record { entered = 2; printed = 1 } ∷ [] }

-- the request was sent to the second copy, while the first one's processor runs and after it has stopped
abbrev pub sent_to_second : Post
sent_to_second = record { world = entered_and_sent; owed = []; sent = letter_to 1 ∷ [] }

abbrev pub sent_after_stop : Post
sent_after_stop = record sent_to_second { world = record entered_and_sent { stopped = true ∷ false ∷ [] } }

-- the request was sent to the first copy, which is blank, while the second one acts
abbrev pub sent_to_blank : Post
sent_to_blank = record {
  world = record entered_and_sent {
    processes =
        record disc_pair {
          first = blank_copy 0 1 disc_pair.first.core;
          second = record disc_pair.second { role = Acting };
          led = Second;
        } ∷ [];
  };
  owed = [];
  sent = letter_to 0 ∷ [];
}

-- the request waits at the second copy, while the first one's processor runs
abbrev pub waits_at_second : Post
waits_at_second = record {
  world = record entered_and_sent {
    processes =
        record disc_pair { second = record disc_pair.second { waiting = first_request ∷ [] } } ∷ [];
  };
  owed = [];
  sent = [];
}

-- a disc's checkpoint names a file, of which a disc has none
abbrev pub naming : ImageMessage
naming = record {
  process = 0;
  era = 0;
  number = 1;
  image = record {
    body = [];
    files = record { file = 0; next = 1 } ∷ [];
    receive = record { openers = []; in_hand = None };
  };
}

abbrev pub has_named : World
has_named = record (boot disc_site) { processes = record disc_pair { checkpoints = naming ∷ [] } ∷ [] }
