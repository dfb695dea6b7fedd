use Rattle.program_tests.proofs.Loading.{all-are-listed}
use Rattle.program_tests.proofs.programs.image_of.Goals as goal

pub image-requires : goal.image-requires
image-requires c =
    all-are-listed c.args.process.now _ _ c.everything.ensures.items c.everything.ensures.files
