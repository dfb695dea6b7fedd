use Rattle.tal_reader.proofs.Reading.{refused-as-none}
use Rattle.tal_reader.proofs.reader.what_is_refused_reads_as_none.Goals as goal

pub returns : goal.returns
returns c = refused-as-none
