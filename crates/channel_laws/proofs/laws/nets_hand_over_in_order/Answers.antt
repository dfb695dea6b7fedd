use Rattle.std.proofs.Common.{◌≡◌, true, List, [], ◌∷◌, ◌++◌, ℤ, refl, sym, ap, ◌∙◌, arith}
use Rattle.std.proofs.lemmas.List.{append-nil}
use Rattle.link_control.specs.Ends.{Sending, is_none}
use Rattle.channel_laws.specs.Way.{Way, IsJoint, total}
use Rattle.channel_laws.proofs.Places.{total-append, none-left}
use Rattle.channel_laws.proofs.laws.nets_hand_over_in_order.Goals as goal

pub returns-clause-order : goal.returns-clause-order
returns-clause-order c n a b w = let j = w.joint a b in (j.receiving.rest, j.receiving.come)

-- where the sender's end has nothing outstanding or queued, all is handed over
all-handed : (w : Way) → IsJoint w → w.sender.queue ≡ [] → w.out ≡ w.pushes
all-handed w j e =
    let r = j.receiving in
    let done : w.pushes ≡ j.sending.done =
    j.sending.sent ∙ ap (λ xs. j.sending.done ++ xs) e ∙ append-nil j.sending.done in
    let none : r.rest ≡ [] =
    none-left r.some r.rest r.in_part (omega (
      arith,
      j.acknowledged_is_kept,
      j.sending.count,
      r.count,
      ap total (sym r.come ∙ done),
      total-append w.out r.rest,
    )) in
    sym (r.come ∙ ap (λ xs. w.out ++ xs) none ∙ append-nil w.out)

none-is : (queue : List (List ℤ)) → is_none queue ≡ true → queue ≡ []
none-is [] e = refl
none-is (q ∷ queue) e = absurd cc

pub returns-clause-all : goal.returns-clause-all
returns-clause-all c n a b w live empty =
    all-handed (n.ways a b) (w.joint a b) (sym (ap (λ (s : Sending). s.queue) (w.tied a b live).sending)
    ∙ none-is (n.ends a b).sending.queue empty)
