use Rattle.history_laws.proofs.Packets.{played-alike, played-present, sent-present}
use Rattle.history_laws.proofs.laws.no_event_reads_what_was_sent.Goals as goal

pub returns : goal.returns
returns c = record { made = played-present; sent = sent-present; alike = played-alike }
