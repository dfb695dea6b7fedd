-- How long a path is at least that breaks: none of the stands that fewer steps come to does.
use Rattle.std.proofs.Common.{◌≡◌, ◌≤◌, ◌<◌, ◌⊎◌, inl, inr, ℕ, zero, suc, ◌+◌, nat_lt, Bool, true, false, not, IsTrue}
use Rattle.std.proofs.Common.{List, [], ◌∷◌, ◌++◌, flat_map, length, arith, refl, ap, subst}
use Rattle.std.proofs.lemmas.List.{length-append}
use Rattle.std.specs.List.{list_all}
use Rattle.gd_words.specs.Members.{IsAmong}
use Rattle.gd_words.proofs.Among.{among-given}
use Rattle.tal_tree.specs.declared.program.Program.{Program}
use Rattle.path_semantics.specs.declared.reason.Reason.{Reason}
use Rattle.path_semantics.specs.Break.{Breaks, breaks_at}
use Rattle.path_semantics.specs.Path.{Walks}
use Rattle.path_semantics.specs.Place.{Stand, successors, first_stand}
use Rattle.advice_guards.proofs.Listed.{each-does}

module _ (program : Program) where
  -- the stands to which so many steps lead from these
  abbrev pub after_steps : ℕ → List Stand → List Stand
  after_steps zero stands = stands
  after_steps (suc n) stands = after_steps n (flat_map (successors program) stands)

  walks-after : (path : List ℕ) (here there : Stand) (stands : List Stand) → IsAmong here stands
      → Walks program here path there → IsAmong there (after_steps (length path) stands)
  walks-after [] here there stands among same = subst (λ (stand : Stand). IsAmong stand stands) same among
  walks-after (number ∷ path) here there stands among walk =
      walks-after path walk.0 there (flat_map (successors program) stands)
      (among-given (successors program) here walk.0 stands among walk.1.leads) walk.2

  either : (n m : ℕ) (b : Bool) → nat_lt n m ≡ b → (n < m) ⊎ (m ≤ n)
  either n m true is = inl (grind arith)
  either n m false isnt = inr (grind arith)

  never-both : (b : Bool) → IsTrue (not b) → IsTrue b → ⊥
  never-both true isnt is = absurd (let wrong : false ≡ true = isnt in cc)
  never-both false isnt is = absurd (let wrong : false ≡ true = is in cc)

  -- where no stand breaks that fewer than so many steps lead to, each path that breaks has more numbers
  pub longer : (reason : Reason) (most : ℕ)
      → ((n : ℕ) → n < most → IsTrue (list_all (λ (stand : Stand). not (breaks_at program reason stand))
      (after_steps n (first_stand program ∷ []))))
      → (path : List ℕ) → Breaks program path reason → suc most ≤ length path
  longer reason most none path broken =
      by-order (either (length broken.front) most (nat_lt (length broken.front) most) refl) where
        by-order : (length broken.front < most) ⊎ (most ≤ length broken.front) → suc most ≤ length path
        by-order (inl fewer) =
            absurd (never-both (breaks_at program reason broken.stand)
            (each-does (λ (stand : Stand). not (breaks_at program reason stand))
            (after_steps (length broken.front) (first_stand program ∷ [])) broken.stand
            (none (length broken.front) fewer) (walks-after broken.front (first_stand program) broken.stand
            (first_stand program ∷ []) (inl refl) broken.leads))
            broken.breaks)
        by-order (inr enough) =
            let is : length path ≡ length (broken.front ++ broken.number ∷ []) =
            ap (λ (numbers : List ℕ). length numbers) broken.split in
            let both : length (broken.front ++ broken.number ∷ []) ≡ length broken.front + 1 =
            length-append broken.front (broken.number ∷ []) in
            omega arith
