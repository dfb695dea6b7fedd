use Rattle.std.proofs.Common.{ap₂, ◌++◌, pos}
use Rattle.std.proofs.lemmas.List.{drop-replicate}
use Rattle.packet_words.proofs.layout.filled.Goals as goal

pub returns : goal.returns
returns c = ap₂ (λ front back. front ++ back) c.copy_from_slice.ensures.after (drop-replicate _ 10 (pos 0))
