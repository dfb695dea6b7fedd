use Rattle.std.proofs.Common.{◌∙◌, List, None, ap, subst, sym}
use Rattle.sync_ids.specs.Openers.{remembered}
use Rattle.sync_ids.specs.Tables.{IsSound}
use Rattle.sync_ids.specs.declared.opener.Opener.{Opener}
use Rattle.sync_ids.proofs.Openers.{remembered-untaken, sound-untaken}
use Rattle.sync_ids.proofs.receive.Receive.new.Goals as goal

pub invariant_of-result : goal.invariant_of-result
invariant_of-result c =
    subst IsSound (sym (ap (λ (openers : List Opener). remembered openers None) c.in_ok-openers.ensures
    ∙ remembered-untaken c.args.openers.now))
    (sound-untaken c.args.openers.now c.requires.few c.requires.depths)

pub returns-clause-value : goal.returns-clause-value
returns-clause-value c = ap (λ (openers : List Opener). remembered openers None) c.in_ok-openers.ensures
    ∙ remembered-untaken c.args.openers.now

pub returns-clause-sound : goal.returns-clause-sound
returns-clause-sound c =
    subst IsSound (sym (ap (λ (openers : List Opener). remembered openers None) c.in_ok-openers.ensures
    ∙ remembered-untaken c.args.openers.now))
    (sound-untaken c.args.openers.now c.requires.few c.requires.depths)
