use Rattle.std.proofs.Common.{ap}
use Rattle.std.specs.Option.{option_map}
use Rattle.program_ends.specs.Ends.{line_of_entry}
use Rattle.image_laws.proofs.Read.{coming}
use Rattle.image_laws.proofs.laws.a_number_tells_the_line_of_what_comes_next.Goals as goal

pub returns : goal.returns
returns c = λ program s numbered whole.
    ap (option_map line_of_entry)
    (coming c.numbers_tell_what_comes_next.ensures.next program s.frames numbered whole.frames)
