-- Two acts of different actors that are both possible come to the same in either order.
use Rattle.std.proofs.Common.{◌≡◌, Option, Some, None, refl, ap, sym, ◌∙◌, subst}
use Rattle.std.specs.Option.{option_map}
use Rattle.tal_tree.specs.declared.act.Act.{Act}
use Rattle.tal_tree.specs.declared.site.Site.{Site}
use Rattle.plain_semantics.specs.declared.slot.Opener.{Opener}
use Rattle.plain_semantics.specs.declared.slot.Slot.{Slot}
use Rattle.plain_semantics.specs.Machine.{Made, Plain, made, slot_of}
use Rattle.order_laws.proofs.Deeds.{Deed, Own, actor_of, carried, deed, deed_in, did, own, touched, touched_in}
use Rattle.order_laws.proofs.Factored.{made-is}
use Rattle.order_laws.proofs.Frames.{carried-both, own-apart, slot-apart}
use Rattle.order_laws.proofs.Kept.{orderly-after}
use Rattle.order_laws.proofs.Orderly.{IsOrderly, apart-slots}

-- the deed of an act that is possible
pub record IsDone (site : Site) (plain : Plain) (act : Act) (m : Made) : Type 0 where
  pub one : Deed
  pub came : deed_in site plain act ≡ Some one
  pub made_so : did site plain act one ≡ m

done-by : (site : Site) (plain : Plain) (act : Act) (m : Made) (found : Option Deed) → deed_in site plain act ≡ found
    → option_map (did site plain act) found ≡ Some m → IsDone site plain act m
done-by site plain act m None came is = absurd (cc)
done-by site plain act m (Some one) came is = record { one = one; came = came; made_so = same is }
  where
    same : {a b : Made} → ◌≡◌ {A = Option Made} (Some a) (Some b) → a ≡ b
    same e = cc

pub done : (site : Site) (plain : Plain) (act : Act) (m : Made) → made site plain act ≡ Some m
    → IsDone site plain act m
done site plain act m is = done-by site plain act m (deed_in site plain act) refl (sym (made-is site plain act) ∙ is)

-- an act leads from an orderly state to one
pub orderly-made : (site : Site) (plain : Plain) (act : Act) (m : Made) → IsOrderly site plain
    → made site plain act ≡ Some m → IsOrderly site m.plain
orderly-made site plain act m orderly is =
    let by = done site plain act m is in
    subst (λ (end : Made). IsOrderly site end.plain) by.made_so (orderly-after site plain orderly act by.one by.came)

module _ (site : Site) (plain : Plain) (act other : Act) (one two : Deed)
    (came : deed_in site plain act ≡ Some one)
    (actors : actor_of other ≡ actor_of act → ⊥)
    (slots : (opener : Opener) → touched_in site plain other ≡ Some opener → touched_in site plain act ≡ Some opener
    → ⊥) where
  abbrev then_plain : Plain
  then_plain = carried (touched_in site plain other) (actor_of other) two plain

  same-own : own then_plain (actor_of act) ≡ own plain (actor_of act)
  same-own = own-apart (touched_in site plain other) (actor_of other) (actor_of act) two plain actors

  same-touched : touched_in site then_plain act ≡ touched_in site plain act
  same-touched = ap (λ (has : Own). touched site has act) same-own

  same-slot : (opener : Option Opener) → touched_in site plain act ≡ opener
      → slot_of then_plain opener ≡ slot_of plain opener
  same-slot None is = refl
  same-slot (Some opener) is =
      slot-apart (touched_in site plain other) (actor_of other) two plain opener (λ meets. slots opener meets is)

  same-deed : deed_in site then_plain act ≡ deed_in site plain act
  same-deed =
      ap (λ (has : Own). deed site has (slot_of then_plain (touched_in site then_plain act)) act) same-own
      ∙ ap (λ (slot : Option Slot). deed site (own plain (actor_of act)) slot act)
      (ap (slot_of then_plain) same-touched ∙ same-slot (touched_in site plain act) refl)

  -- after the other act it does the same deed
  made-then : made site then_plain act
      ≡ Some (record {
        plain = carried (touched_in site plain act) (actor_of act) one then_plain;
        shown = one.shown;
      })
  made-then =
      made-is site then_plain act
      ∙ ap (option_map (did site then_plain act)) (same-deed ∙ came)
      ∙ ap (λ (opener : Option Opener). Some (record {
        plain = carried opener (actor_of act) one then_plain;
        shown = one.shown;
      })) same-touched

-- in either order
pub record Commute (site : Site) (act other : Act) (first second : Made) : Type 0 where
  pub end : Plain
  pub act_last : made site second.plain act ≡ Some (record { plain = end; shown = first.shown })
  pub other_last : made site first.plain other ≡ Some (record { plain = end; shown = second.shown })

pub commute : (site : Site) (plain : Plain) (act other : Act) (first second : Made) → IsOrderly site plain
    → made site plain act ≡ Some first → made site plain other ≡ Some second
    → (actor_of act ≡ actor_of other → ⊥) → Commute site act other first second
commute site plain act other first second orderly is that apart =
    let one = done site plain act first is in
    let two = done site plain other second that in
    let slots = apart-slots site plain orderly act other one.one two.one one.came two.came apart in
    let end =
    carried (touched_in site plain act) (actor_of act) one.one
    (carried (touched_in site plain other) (actor_of other) two.one plain) in
    record {
      end = end;
      act_last = subst (λ (m : Made). made site m.plain act ≡ Some (record { plain = end; shown = first.shown }))
          two.made_so
          (made-then site plain act other one.one two.one one.came (λ same. apart (sym same))
          (λ opener meets touches. slots opener touches meets)
          ∙ ap (λ (m : Made). Some (record { plain = end; shown = m.shown })) one.made_so);
      other_last = subst (λ (m : Made). made site m.plain other ≡ Some (record { plain = end; shown = second.shown }))
          one.made_so
          (made-then site plain other act two.one one.one two.came apart slots
          ∙ ap (λ (p : Plain). Some (record { plain = p; shown = two.one.shown }))
          (carried-both (touched_in site plain act) (touched_in site plain other) (actor_of act) (actor_of other)
          one.one two.one plain apart slots)
          ∙ ap (λ (m : Made). Some (record { plain = end; shown = m.shown })) two.made_so);
    }
