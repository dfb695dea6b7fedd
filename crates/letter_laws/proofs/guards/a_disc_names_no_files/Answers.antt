use Rattle.std.proofs.Common.{[], ◌∷◌, inl, refl, arith}
use Rattle.awaited_requests.specs.process_histories.specs.Served.{disc}
use Rattle.awaited_requests.specs.Examples.{disc_pair}
use Rattle.letter_laws.specs.Examples.{naming}
use Rattle.letter_laws.proofs.guards.a_disc_names_no_files.Goals as goal

pub returns-clause-one : goal.returns-clause-one
returns-clause-one c = λ files.
    let low = files 0 (record disc_pair { checkpoints = naming ∷ [] }) disc refl refl naming (inl refl)
    (record { file = 0; next = 1 }) (inl refl) in
    absurd (omega (arith, low))
