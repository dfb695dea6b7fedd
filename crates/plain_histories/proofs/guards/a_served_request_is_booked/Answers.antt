use Rattle.std.proofs.Common.{refl, ◌≡◌, ◌≤◌, ℕ, zero, suc, ℤ, pos, List, [], ◌∷◌, length, Some, subst, arith}
use Rattle.tal_tree.specs.declared.act.Act.TheVariants.{Step, Enter, Take}
use Rattle.tal_tree.specs.declared.act.Shown.TheVariants.{Write}
use Rattle.tal_tree.specs.declared.site.ProcessSpec.{ProcessSpec}
use Rattle.tal_tree.specs.declared.site.Who.TheVariants as who
use Rattle.gd_words.specs.declared.device.DeviceCall.TheVariants as call
use Rattle.plain_semantics.specs.Machine.{next_request}
use Rattle.process_histories.specs.whole_states.specs.Processes.{IsRegularKind}
use Rattle.process_histories.specs.world_semantics.specs.Core.{Checkpointed, Took, Answered, Acted, checkpoints, takes}
use Rattle.process_histories.specs.world_semantics.specs.Core.{answers, acts}
use Rattle.process_histories.specs.world_semantics.proofs.Lists.{some-same}
use Rattle.process_histories.specs.Histories.{nothing_done, one_more}
use Rattle.process_histories.specs.Served.{disc, disc_site, sector_with}
use Rattle.plain_histories.specs.Agreeing.{AreRegular}
use Rattle.plain_histories.specs.Booking.{AreBooked, none_booked, deed_booked, entry_booked, reply_booked}
use Rattle.plain_histories.specs.Ledgers.{with_deed}
use Rattle.plain_histories.specs.Served.{asked, served}
use Rattle.plain_histories.proofs.Possible.{booked-ran}
use Rattle.plain_histories.proofs.guards.a_served_request_is_booked.Goals as goal

entered : AreBooked disc_site (Enter 0 ∷ []) [] asked
entered = entry_booked 0 (record { server = 0; place = 0 }) (pos 2 ∷ pos 1 ∷ pos 5 ∷ []) none_booked refl refl refl

took : AreBooked disc_site (Take 0 0 ∷ Enter 0 ∷ []) [] (with_deed 0 (Took 0 (pos 2 ∷ pos 1 ∷ pos 5 ∷ [])) asked)
took = deed_booked 0 disc (Took 0 (pos 2 ∷ pos 1 ∷ pos 5 ∷ [])) _ _ entered refl nothing_done (takes _ refl refl)
    (who.Terminal 0, refl, refl)

checkpointed : AreBooked disc_site (Step 0 ∷ Take 0 0 ∷ Enter 0 ∷ []) []
    (with_deed 0 Checkpointed (with_deed 0 (Took 0 (pos 2 ∷ pos 1 ∷ pos 5 ∷ [])) asked))
checkpointed = deed_booked 0 disc Checkpointed _ _ took refl
    (one_more nothing_done (takes {words = pos 2 ∷ pos 1 ∷ pos 5 ∷ []} _ refl refl)) (checkpoints refl) tt

written : AreBooked disc_site (Step 0 ∷ Step 0 ∷ Take 0 0 ∷ Enter 0 ∷ []) (Write 0 1 (sector_with (pos 5)) ∷ [])
    (with_deed 0 (Acted (call.Write 1 (sector_with (pos 5)) 1) (sector_with (pos 0)))
    (with_deed 0 Checkpointed (with_deed 0 (Took 0 (pos 2 ∷ pos 1 ∷ pos 5 ∷ [])) asked)))
written = deed_booked 0 disc (Acted (call.Write 1 (sector_with (pos 5)) 1) (sector_with (pos 0))) _ _ checkpointed refl
    (one_more (one_more nothing_done (takes {words = pos 2 ∷ pos 1 ∷ pos 5 ∷ []} _ refl refl)) (checkpoints refl))
    (acts refl refl) refl

answered : AreBooked disc_site (Step 0 ∷ Step 0 ∷ Step 0 ∷ Take 0 0 ∷ Enter 0 ∷ [])
    (Write 0 1 (sector_with (pos 5)) ∷ []) served
answered = deed_booked 0 disc (Answered 0 (pos 0 ∷ [])) _ _ written refl
    (one_more (one_more (one_more nothing_done (takes {words = pos 2 ∷ pos 1 ∷ pos 5 ∷ []} _ refl refl))
    (checkpoints refl))
    (acts {found = sector_with (pos 0)} refl refl)) (answers _ _ refl refl refl refl refl) tt

regular : AreRegular disc_site
regular zero spec there = subst (λ (s : ProcessSpec). IsRegularKind s.what) (some-same there) tt
regular (suc number) spec there = absurd (cc)

few : (terminal entered : ℕ) (words : List ℤ) → next_request disc_site terminal entered ≡ Some words → length words ≤ 16
few zero zero words is = subst (λ (all : List ℤ). length all ≤ 16) (some-same is) (omega arith)
few zero (suc entered) words is = absurd (cc)
few (suc terminal) entered words is = absurd (cc)

pub returns : goal.returns
returns c = record {
  served = reply_booked 0 (record { server = 0; place = 0 }) (pos 0 ∷ []) answered refl refl;
  not_twice = λ shown ledger booked. let ran = (booked-ran regular booked).ran in cc;
  not_entered = λ shown ledger booked. let ran = (booked-ran regular booked).ran in cc;
  short = few;
}
