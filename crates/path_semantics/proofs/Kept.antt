-- What is kept along every walk.
use Rattle.std.proofs.Common.{◌≡◌, inl, inr, ℕ, List, [], ◌∷◌, map, drop, refl, subst, sym}
use Rattle.tal_tree.specs.declared.program.Program.{Program}
use Rattle.process_semantics.specs.State.{Entry, first_of}
use Rattle.path_semantics.specs.declared.dues.Dues.{Dues}
use Rattle.path_semantics.specs.Dues.{no_dues, with_changed, changed_by_return, after_entry}
use Rattle.path_semantics.specs.Place.{Place, Stand, body_of, ways, stand_at, settled, stands_after, first_stand}
use Rattle.gd_words.specs.Members.{IsAmong}
use Rattle.path_semantics.specs.Path.{Walks, Leads}

-- what holds where MAIN begins, wherever an entry leads, and where a procedure is left, also while procedures still
-- stand at their ends
pub record IsKept (program : Program) (P : Place → Type 0) : Type 0 where
  pub first : P (body_of program program.main ∷ [])
  pub way : (entry : Entry) (rest : List Entry) (callers way : Place) → P ((entry ∷ rest) ∷ callers)
      → IsAmong way (ways program entry rest callers) → P way
  pub leaving : (caller : List Entry) (callers : Place) → P ([] ∷ caller ∷ callers) → P (drop 1 caller ∷ callers)
  pub ended : P []

kept-at : (program : Program) (P : Place → Type 0) → IsKept program P
    → (frame : List Entry) (callers : Place) (dues : Dues) → P (frame ∷ callers)
    → P (stand_at frame callers dues).place
kept-at program P kept (entry ∷ rest) callers dues holds = holds
kept-at program P kept [] [] dues holds = kept.ended
kept-at program P kept [] (caller ∷ callers) dues holds =
    kept-at program P kept (drop 1 caller) callers (with_changed (changed_by_return (first_of caller)) dues)
    (kept.leaving caller callers holds)

pub kept-settled : (program : Program) (P : Place → Type 0) → IsKept program P → (dues : Dues) (place : Place)
    → P place → P (settled dues place).place
kept-settled program P kept dues [] holds = kept.ended
kept-settled program P kept dues (frame ∷ callers) holds = kept-at program P kept frame callers dues holds

-- one of what a function gives for some of these
pub one-mapped : {A B : Type 0} (f : A → B) (y : B) (xs : List A) → IsAmong y (map f xs)
    → (x : A) × IsAmong x xs × (y ≡ f x)
one-mapped f y [] among = absurd among
one-mapped f y (x ∷ xs) (inl same) = (x, inl refl, same)
one-mapped f y (x ∷ xs) (inr among) = let found = one-mapped f y xs among in (found.0, inr found.1, found.2)

pub kept-after : (program : Program) (P : Place → Type 0) → IsKept program P
    → (dues : Dues) (place : Place) (there : Stand) → P place
    → IsAmong there (stands_after program dues place) → P there.place
kept-after program P kept dues [] there holds among = absurd among
kept-after program P kept dues ([] ∷ callers) there holds among = absurd among
kept-after program P kept dues ((entry ∷ rest) ∷ callers) there holds among =
    let found = one-mapped (settled (after_entry dues entry)) there (ways program entry rest callers) among in
    subst (λ (s : Stand). P s.place) (sym found.2)
    (kept-settled program P kept (after_entry dues entry) found.0 (kept.way entry rest callers found.0 holds found.1))

pub kept-along : (program : Program) (P : Place → Type 0) → IsKept program P → (path : List ℕ) (here there : Stand)
    → P here.place → Walks program here path there → P there.place
kept-along program P kept [] here there holds same = subst (λ (s : Stand). P s.place) same holds
kept-along program P kept (number ∷ path) here there holds walk =
    kept-along program P kept path walk.0 there
    (kept-after program P kept here.dues here.place walk.0 holds walk.1.leads) walk.2

-- what is kept holds wherever a path leads
pub kept-led : (program : Program) (P : Place → Type 0) → IsKept program P → (path : List ℕ) (there : Stand)
    → Leads program path there → P there.place
kept-led program P kept path there walk =
    kept-along program P kept path (first_stand program) there
    (kept-at program P kept (body_of program program.main) [] no_dues kept.first) walk
