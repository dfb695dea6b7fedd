use Rattle.std.proofs.Common.{refl, pos, [], ◌∷◌}
use Rattle.gd_words.specs.declared.device.DeviceCall.TheVariants.{Write}
use Rattle.world_semantics.specs.Core.{Core, Took, Acted, checkpoints, takes, answers, acts}
use Rattle.process_histories.specs.Histories.{HasDone, nothing_done, one_more}
use Rattle.process_histories.specs.Served.{disc, disc_site, sector_with}
use Rattle.process_histories.proofs.guards.a_disc_serves_a_request.Goals as goal

none-uncheckpointed : (core : Core) → HasDone disc_site 0 disc
    (Acted (Write 1 (sector_with (pos 5)) 1) (sector_with (pos 0)) ∷ Took 0 (pos 2 ∷ pos 1 ∷ pos 5 ∷ []) ∷ []) core → ⊥
none-uncheckpointed core (one_more (one_more nothing_done (takes block stands there)) (acts at call)) = cc

none-elsewhere : (core : Core) → HasDone disc_site 0 disc (Took 1 (pos 1 ∷ []) ∷ []) core → ⊥
none-elsewhere core (one_more nothing_done (takes block at there)) = cc

pub returns : goal.returns
returns c = record {
  begins = nothing_done;
  serves = one_more (one_more (one_more (one_more nothing_done
      (takes {words = pos 2 ∷ pos 1 ∷ pos 5 ∷ []} _ refl refl)) (checkpoints refl)) (acts {found =
      sector_with (pos 0)} refl refl)) (answers _ _ refl refl refl refl refl);
  no_checkpoint = none-uncheckpointed;
  not_asked = none-elsewhere;
}
