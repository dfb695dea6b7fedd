-- What a request does that comes to a copy of a process, computed.
use Rattle.std.specs.Prelude.{List, [], map, Option, Some, None}
use Rattle.tal_tree.specs.gd_words.specs.declared.message.Request.{Request}
use Rattle.world_semantics.specs.checkpoint_image.specs.Receive.{waits, came, reply_sent_again}
use Rattle.world_semantics.specs.declared.role.Role.{Role}
use Rattle.world_semantics.specs.declared.role.Role.TheVariants.{Acting, Watching, Blank, Gone}
use Rattle.world_semantics.specs.declared.which.Which.{Which}
use Rattle.world_semantics.specs.World.{Copy, Pair, copy_of, with_copy}
use Rattle.world_semantics.specs.Messages.{Replying, Sending, sent_at}
use Rattle.world_semantics.specs.Records.{Records}
use Rattle.world_semantics.specs.Running.{Stepped}

-- a copy that acts after a request came to it
abbrev pub after_request : Copy → Request → Copy
after_request copy request = record copy { waiting = came copy.core.receive copy.waiting request }

-- and what it sends again then: the kept reply
abbrev pub repeated_at : Copy → Request → List Sending
repeated_at copy request = sent_at copy.processor (map Replying (reply_sent_again copy.core.receive request))

-- a copy that watches or is blank after a request came to it
abbrev pub after_early_request : Copy → Request → Copy
after_early_request copy request = record copy { waiting = waits copy.waiting request }

abbrev pub early_step : Which → Pair → Records → Request → Stepped
early_step k pair records request = record {
  pair = with_copy k (after_early_request (copy_of k pair) request) pair;
  records = records;
  sendings = [];
}

-- a request that comes to a copy that acts waits there, or its kept reply is sent again; at one that watches or is
-- blank it waits; one that is gone does nothing
abbrev pub request_step : Which → Pair → Records → Request → Role → Option Stepped
request_step k pair records request Acting = Some (record {
  pair = with_copy k (after_request (copy_of k pair) request) pair;
  records = records;
  sendings = repeated_at (copy_of k pair) request;
})
request_step k pair records request Watching = Some (early_step k pair records request)
request_step k pair records request Blank = Some (early_step k pair records request)
request_step k pair records request Gone = None
