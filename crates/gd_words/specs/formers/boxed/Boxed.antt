-- How a `Boxed` holds its one value, so that a type may lead back to itself through it: the former is the value's own.
use mathlib.Core.Path.{refl}
use mathlib.Core.Former.{Former, this, const, pair, via}
use base.Stored.{gnil}
use base.Fml.{ftrue}
use denote.RattleType.{RattleType}
use denote.Memory.{part_of}
use denote.RawPtr.{Ptr}
use denote.Sharing.{nothing}
use denote.HoleLaws.{Alike}
use denote.HolePlaces.{Recodes, struct_places, laid, one_value}
use denote.Hole.Fix.{over}
use denote.Param.Weighed.{Weighed}
use denote.Model.Placed.{view_places}
use Rattle.std.specs.declared.boxed.Box.{Box}
use Rattle.std.specs.contracts.boxed.Box as std_box
use Rattle.std.specs.declared.alloc.Global.{Global}
use Rattle.std.specs.contracts.alloc.Global as std_heap
use Rattle.std.specs.contracts.impls.GlobalAllocator.TheImpl.{ghosts}
use Rattle.gd_words.specs.declared.boxed.Boxed.TheInside.{Inside}
use Rattle.gd_words.specs.declared.boxed.Boxed.TheView.{view, invariant}
use Rattle.gd_words.specs.contracts.boxed.Boxed as own
use Rattle.gd_words.specs.contracts.boxed.Boxed.TheInside as own_inside

abbrev pub the_former : Former {0} → Former {0}
the_former g = g

abbrev pub the_weighed : {g : Former {0}} → Weighed g → Weighed (the_former g)
the_weighed w = w

-- the pointer and the allocator stay, the value is the hole
abbrev inside : Former {0}
inside =
    via (pair (const (Ptr × Global)) this) Inside (λ X b. ((b.inner.ptr, b.inner.alloc), b.inner.value))
    (λ X parts. record { inner = record { ptr = parts.0.0; alloc = parts.0.1; value = parts.1 } }) (λ X b. refl)
    (λ X parts. refl)

abbrev holding : {X Y : Type 0} → Box X Global → Y → Box Y Global
holding b value = record { ptr = b.ptr; alloc = b.alloc; value = value }

abbrev std_box_of : RattleType → RattleType
std_box_of R = std_box.the_row R std_heap.the_row ghosts

module _ (R S : RattleType) (h : R.Denot → S.Denot) where
  box_placed : Alike R S h → Alike (std_box_of R) (std_box_of S) (λ b. holding b (h b.value))
  unfolding part_of
  box_placed same = record {
    mir_same = λ i. (std_box_of (one_value R (same.mir_same i) (λ _. ftrue) (λ _ _. nothing) gnil)).mir;
    own_same = λ b i. (std_box_of (one_value R (same.mir_same i) (same.own_same b.value i) (same.shr_same b.value i)
        gnil)).own_val (holding b tt);
    shr_same = λ b i. (std_box_of (one_value R (same.mir_same i) (same.own_same b.value i) (same.shr_same b.value i)
        gnil)).shr_at (holding b tt);
  }

  pub the_places : Alike R S h → Alike (own.the_row R) (own.the_row S) ((the_former this).map R.Denot S.Denot h)
  the_places same =
      view_places inside this view (λ X Y k u. refl) (λ X u. refl) R.Denot S.Denot h (own.the_row R).coded
      (own.the_row S).coded
      (invariant R.Denot) (invariant S.Denot) (λ u p q. refl) (λ u p q. refl) (λ u e. tt) (λ u e. tt)
      (over (own_inside.the_row R)) (over (own_inside.the_row S))
      (struct_places (own_inside.the_type R) (own_inside.the_type S) ((λ b. holding b (h b.value)), tt) _ (λ d. refl)
      refl (laid _ _ _ (box_placed same), tt))

  pub the_codes_placed : Recodes R S h → Recodes (own.the_row R) (own.the_row S)
      ((the_former this).map R.Denot S.Denot h)
  the_codes_placed e d = e d
