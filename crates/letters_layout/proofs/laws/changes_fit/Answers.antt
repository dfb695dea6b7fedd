use Rattle.letter_laws.specs.letters.proofs.Worlds.{played-run}
use Rattle.letters_layout.proofs.Checkpoints.{change-fits}
use Rattle.letters_layout.proofs.laws.changes_fit.Goals as goal

pub returns : goal.returns
returns c = λ site fit small events post few played before message sent.
    change-fits site fit small events post.world few (played-run played) before message sent
