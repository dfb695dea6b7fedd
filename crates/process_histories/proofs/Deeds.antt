-- A deed stands at its point, and what it leads to is determined.
use Rattle.std.proofs.Common.{◌≡◌, ℕ, List, [], ◌∷◌, ◌++◌, refl, sym, subst, ◌∙◌}
use Rattle.tal_tree.specs.declared.site.OpenerSpec.{OpenerSpec}
use Rattle.tal_tree.specs.declared.site.ProcessSpec.{ProcessSpec}
use Rattle.tal_tree.specs.declared.site.Site.{Site}
use Rattle.world_semantics.specs.process_semantics.specs.declared.point.Point.{Point}
use Rattle.world_semantics.specs.process_semantics.specs.declared.point.Point.TheVariants as point
use Rattle.world_semantics.specs.process_semantics.specs.Process as process
use Rattle.world_semantics.specs.plain_semantics.specs.Openers.{openers_of}
use Rattle.world_semantics.specs.Core.{Core, Deed, Went, Checkpointed, Took, Asked, Got, Answered, Acted, Advances}
use Rattle.world_semantics.specs.Core.{goes, checkpoints, takes, asks, gets, answers, acts}
use Rattle.world_semantics.proofs.Lists.{some-same}
use Rattle.process_histories.specs.Histories.{HasDone, nothing_done, one_more}

-- the point at which a deed is done
abbrev pub point_of : Deed → Point
point_of Went = point.Inner
point_of Checkpointed = point.AtCheckpoint
point_of (Took place words) = point.Take
point_of (Asked file words) = point.Ask
point_of (Got file words) = point.Await
point_of (Answered place words) = point.Answer
point_of (Acted call found) = point.Device

pub stands-there : {openers : List OpenerSpec} {core next : Core} {deed : Deed} → Advances openers core deed next
    → process.point core.state ≡ point_of deed
stands-there (goes at) = at
stands-there (checkpoints at) = at
stands-there (takes block at there) = at
stands-there (asks at file words) = at
stands-there (gets at file) = at
stands-there (answers opener block at hand known there words) = at
stands-there (acts at call) = at

pub leads-to-one : {openers : List OpenerSpec} {core next other : Core} {deed : Deed} → Advances openers core deed next
    → Advances openers core deed other → next ≡ other
leads-to-one (goes at) (goes _) = refl
leads-to-one (checkpoints at) (checkpoints _) = refl
leads-to-one (takes block at there) (takes same _ here) = let e = some-same (sym there ∙ here) in rw e refl
leads-to-one (asks at file words) (asks _ _ _) = refl
leads-to-one (gets at file) (gets _ _) = refl
leads-to-one (answers opener block at hand known there words) (answers spec same _ _ named here _) =
    let e = some-same (sym there ∙ here) in let f = some-same (sym known ∙ named) in rw (e, f) refl
leads-to-one (acts at call) (acts _ _) = refl

module _ {site : Site} {number : ℕ} {spec : ProcessSpec} where
  pub done-one : {deeds : List Deed} {core other : Core} → HasDone site number spec deeds core
      → HasDone site number spec deeds other → core ≡ other
  done-one nothing_done nothing_done = refl
  done-one {other = other} (one_more {deed = deed} {before = core} done advances)
      (one_more {before = old} again moves) =
      leads-to-one advances (subst (λ x. Advances (openers_of site number) x deed other) (sym (done-one done again))
      moves)

  pub done-before : (since deeds : List Deed) {core : Core} → HasDone site number spec (since ++ deeds) core
      → (old : Core) × HasDone site number spec deeds old
  done-before [] deeds {core = core} done = (core, done)
  done-before (deed ∷ since) deeds (one_more done advances) = done-before since deeds done

  pub done-last : {deed : Deed} {deeds : List Deed} {core next : Core} → HasDone site number spec deeds core
      → HasDone site number spec (deed ∷ deeds) next
      → Advances (openers_of site number) core deed next
  done-last {deed = deed} {next = next} done (one_more again advances) =
      subst (λ x. Advances (openers_of site number) x deed next) (done-one again done) advances
