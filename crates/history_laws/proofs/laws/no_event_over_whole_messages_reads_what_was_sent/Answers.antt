use Rattle.history_laws.proofs.Letters.{ends-alike, played-alike, played-present}
use Rattle.history_laws.proofs.laws.no_event_over_whole_messages_reads_what_was_sent.Goals as goal

pub returns : goal.returns
returns c = record { made = played-present; alike = played-alike; run = ends-alike }
