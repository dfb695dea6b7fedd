-- What becomes of a process where a checkpoint goes from one of its copies to the other.
use Rattle.std.proofs.Common.{◌≡◌, ℕ, List, [], ◌∷◌, ◌++◌, length}
use Rattle.std.proofs.Common.{Some, slice_get, ap, sym, ◌∙◌, subst}
use Rattle.tal_tree.specs.declared.act.Act.{Act}
use Rattle.tal_tree.specs.declared.act.Shown.{Shown}
use Rattle.tal_tree.specs.declared.site.Site.{Site}
use Rattle.tal_tree.specs.declared.site.ProcessSpec.{ProcessSpec}
use Rattle.process_semantics.specs.declared.point.Point.TheVariants as point
use Rattle.process_semantics.specs.Process as process
use Rattle.world_semantics.specs.Core.{Core, Deed, Checkpointed, checkpoints, after_passing}
use Rattle.world_semantics.specs.World.{Copy, Pair}
use Rattle.world_semantics.specs.Kept.{own_acts}
use Rattle.world_semantics.specs.Passes.{kept_at_checkpoint}
use Rattle.plain_histories.specs.process_histories.specs.Histories.{HasDone}
use Rattle.plain_histories.specs.process_histories.proofs.Deeds.{done-before, done-last, stands-there}
use Rattle.discipline_laws.specs.Disciplined.{AreIdle}
use Rattle.plain_histories.specs.Agreeing.{AreRegular}
use Rattle.plain_histories.specs.Booking.{AreBooked, AreHeld}
use Rattle.plain_histories.specs.Ledgers.{Ledger, with_deeds}
use Rattle.plain_histories.proofs.Changed.{deeds-same}
use Rattle.plain_histories.proofs.Counted.{booked-count}
use Rattle.plain_histories.proofs.Possible.{booked-ran}
use Rattle.takeover_laws.specs.Invariant.{FirstLeads}
use Rattle.takeover_laws.specs.Invariant.{IsRepeatable}
use Rattle.takeover_laws.proofs.Settled.{IsSettled, settled-none, settled-more, settled-held}
use Rattle.takeover_laws.proofs.Checkpoints.{no-checkpoint-again}

-- what becomes of a process: so many deeds more are kept, none of which calls the device
pub record HasPassed (site : Site) (kept : List Act) (shown : List Shown) (ledger : Ledger) (number : ℕ)
    (spec : ProcessSpec) (pair : Pair) : Type 0 where
  pub deeds : List Deed
  pub settled : IsSettled site kept shown ledger number deeds
  pub idle : AreIdle deeds
  pub leads : FirstLeads site (with_deeds number deeds ledger) number spec (deeds ++ ledger.deeds number) pair

module _ (site : Site) (regular : AreRegular site) (kept : List Act) (shown : List Shown) (ledger : Ledger) (number : ℕ)
    (spec : ProcessSpec) (there : slice_get site.processes number ≡ Some spec)
    (booked : AreBooked site kept shown ledger) where
  pub same-ledger : (next : Pair) → FirstLeads site ledger number spec (ledger.deeds number) next
      → HasPassed site kept shown ledger number spec next
  same-ledger next leads = record { deeds = []; settled = settled-none number booked; idle = tt; leads = leads }

  -- the held acts of a copy at a checkpoint are kept, and then the checkpoint
  pub kept-at : (copy : Copy) (held : List Act) (more : List Deed) → copy.held ≡ held
      → AreHeld site ledger number held more
      → HasDone site number spec (more ++ ledger.deeds number) copy.core
      → process.point copy.core.state ≡ point.AtCheckpoint
      → IsSettled site (kept_at_checkpoint number copy kept) shown ledger number (Checkpointed ∷ more)
  kept-at copy held more is holds done at =
      rw is (settled-more site regular ledger number spec there (held ++ kept) shown more Checkpointed
      {after = after_passing copy.core}
      (settled-held site regular ledger number spec there booked holds done) done (checkpoints at) tt)

  pub kept-count : (copy : Copy) (more : List Deed)
      → IsSettled site (kept_at_checkpoint number copy kept) shown ledger number (Checkpointed ∷ more)
      → own_acts number (kept_at_checkpoint number copy kept) ≡ length (Checkpointed ∷ more ++ ledger.deeds number)
  kept-count copy more settled =
      booked-count settled.booked number ∙ ap (length {A = Deed}) (deeds-same number (Checkpointed ∷ more) ledger)

  -- an applied stage is at its checkpoint
  pub applied-at : {before : List Deed} {core : Core} → ledger.deeds number ≡ Checkpointed ∷ before
      → HasDone site number spec before core → process.point core.state ≡ point.AtCheckpoint
  applied-at split done =
      let stands = ((booked-ran regular booked).agrees.processes number spec there).2 in
      stands-there (done-last done (subst (λ g. HasDone site number spec g stands.core) split stands.done))

  pub behind-at : (since : List Deed) (next : Deed) (before : List Deed) {core : Core}
      → ledger.deeds number ≡ since ++ next ∷ before → IsRepeatable next → HasDone site number spec before core
      → process.point core.state ≡ point.AtCheckpoint → ⊥
  behind-at since next before split one done at =
      let stands = ((booked-ran regular booked).agrees.processes number spec there).2 in
      let then = done-before since (next ∷ before)
      (subst (λ g. HasDone site number spec g stands.core) split stands.done) in
      no-checkpoint-again next one (sym (stands-there (done-last done then.1)) ∙ at)
