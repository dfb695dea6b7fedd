-- How a `List` holds its items, so that a type may lead back to itself through it: the former is the list of the
-- items'.
use mathlib.Core.Path.{◌≡◌, refl, sym}
use mathlib.Core.List.{List as Items, []}
use mathlib.Core.Former.{Former, this, list, via, children}
use base.Stored.{code_map}
use denote.RattleType.{RattleType}
use denote.HoleLaws.{Alike}
use denote.HolePlaces.{Recodes, struct_places, laid}
use denote.Hole.Carrier.{listed, list-listed}
use denote.Hole.Fix.{over}
use denote.Param.Weighed.{Weighed, w_list}
use denote.Model.Placed.{view_places}
use Rattle.std.specs.formers.vec.Vec as std_vec
use Rattle.std.specs.declared.alloc.Global.{Global}
use Rattle.std.specs.contracts.alloc.Global as std_heap
use Rattle.std.specs.contracts.impls.GlobalAllocator.TheImpl.{ghosts}
use Rattle.gd_words.specs.declared.list.List.TheInside.{Inside}
use Rattle.gd_words.specs.declared.list.List.TheView.{view, invariant}
use Rattle.gd_words.specs.contracts.list.List as own
use Rattle.gd_words.specs.contracts.list.List.TheInside as own_inside

abbrev pub the_former : Former {0} → Former {0}
the_former g = list g

abbrev pub the_weighed : {g : Former {0}} → Weighed g → Weighed (the_former g)
the_weighed w = w_list w

pub the_empty : Items ⊥
the_empty = []

abbrev pub the_items : (X : Type 0) → Items X → Items X
the_items X items = items

pub the_items_listed : (X : Type 0) (items : Items X)
    → listed _ (children (the_former this) X items) ≡ the_items X items
the_items_listed X items = list-listed X items

-- a vector of holes
abbrev inside : Former {0}
inside = via (std_vec.the_former this Global) Inside (λ X l. l.items) (λ X items. record { items = items })
    (λ X l. refl) (λ X items. refl)

module _ (R S : RattleType) (h : R.Denot → S.Denot) where
  pub the_places : Alike R S h → Alike (own.the_row R) (own.the_row S) ((the_former this).map R.Denot S.Denot h)
  the_places same =
      view_places inside (list this) view (λ X Y k u. refl) (λ X u. refl) R.Denot S.Denot h (own.the_row R).coded
      (own.the_row S).coded
      (invariant R.Denot) (invariant S.Denot) (λ u p q. refl) (λ u p q. refl) (λ u e. tt) (λ u e. tt)
      (over (own_inside.the_row R)) (over (own_inside.the_row S))
      (struct_places (own_inside.the_type R) (own_inside.the_type S) (std_vec.mapped h, tt) _ (λ d. refl) refl
      (laid _ _ _ (std_vec.the_places std_heap.the_row ghosts R S h same), tt))

  pub the_codes_placed : Recodes R S h → Recodes (own.the_row R) (own.the_row S)
      ((the_former this).map R.Denot S.Denot h)
  the_codes_placed e items = sym (code_map R.coded.code S.coded.code h (λ x. sym (e x)) items)
