-- A site keeps its limits exactly where they are counted so.
use Rattle.std.proofs.Common.{◌≡◌, ◌↔◌, ℕ, ◌≤◌, ◌&&◌, Bool, true, false, IsTrue, List, [], ◌∷◌, length, refl, ap₂}
use Rattle.std.specs.Prelude.{nat_le}
use Rattle.std.specs.List.{All, list_all}
use Rattle.std.proofs.lemmas.Bool.{leb-true, le-leb}
use Rattle.std.proofs.lemmas.List.Elements.{All-cons, All-head, All-nil, All-tail}
use Rattle.process_semantics.specs.tal_tree.specs.declared.site.ProcessSpec.{ProcessSpec}
use Rattle.process_semantics.specs.tal_tree.specs.declared.site.Site.{Site}
use Rattle.process_semantics.specs.tal_tree.specs.declared.site.TerminalSpec.{TerminalSpec}
use Rattle.plain_semantics.specs.Counted.{have_few_files, have_few_requests, is_small}
use Rattle.plain_semantics.specs.Openers.{files_of}
use Rattle.plain_semantics.specs.SiteLimits.{KeepsSiteLimits}

and-left : (a b : Bool) → (a && b) ≡ true → a ≡ true
and-left true b both = refl
and-left false b both = absurd (cc)

and-right : (a b : Bool) → (a && b) ≡ true → b ≡ true
and-right true b both = both
and-right false b both = absurd (cc)

all-few : {X : Type 0} (count : X → ℕ) (most : ℕ) (xs : List X) → list_all (λ x. nat_le (count x) most) xs ≡ true
    → All (λ x. count x ≤ most) xs
all-few count most [] few = All-nil (λ x. count x ≤ most)
all-few count most (x ∷ xs) few =
    All-cons (λ x. count x ≤ most) x xs
    (leb-true (count x) most (and-left (nat_le (count x) most) (list_all (λ x. nat_le (count x) most) xs) few))
    (all-few count most xs (and-right (nat_le (count x) most) (list_all (λ x. nat_le (count x) most) xs) few))

few-all : {X : Type 0} (count : X → ℕ) (most : ℕ) (xs : List X) → All (λ x. count x ≤ most) xs
    → list_all (λ x. nat_le (count x) most) xs ≡ true
few-all count most [] few = refl
few-all count most (x ∷ xs) few =
    ap₂ (λ (a b : Bool). a && b) (le-leb (count x) most (All-head (λ x. count x ≤ most) x xs few))
    (few-all count most xs (All-tail (λ x. count x ≤ most) x xs few))

pub small_keeps : (site : Site) → IsTrue (is_small site) ↔ KeepsSiteLimits site
small_keeps site = (
  (λ (small : IsTrue (is_small site)).
      let three = and-left (nat_le (length site.processes) 16 && nat_le (length site.terminals) 16
      && have_few_files site.processes) (have_few_requests site.terminals) small in
      let two = and-left (nat_le (length site.processes) 16 && nat_le (length site.terminals) 16)
      (have_few_files site.processes) three in
      record {
        processes = leb-true (length site.processes) 16
            (and-left (nat_le (length site.processes) 16) (nat_le (length site.terminals) 16) two);
        terminals = leb-true (length site.terminals) 16
            (and-right (nat_le (length site.processes) 16) (nat_le (length site.terminals) 16) two);
        files = all-few (λ (spec : ProcessSpec). length (files_of spec.what)) 8 site.processes
            (and-right (nat_le (length site.processes) 16 && nat_le (length site.terminals) 16)
            (have_few_files site.processes) three);
        requests = all-few (λ (spec : TerminalSpec). length spec.requests) 1000 site.terminals
            (and-right (nat_le (length site.processes) 16 && nat_le (length site.terminals) 16
            && have_few_files site.processes) (have_few_requests site.terminals) small);
      }),
  (λ (keeps : KeepsSiteLimits site).
      ap₂ (λ (a b : Bool). a && b)
      (ap₂ (λ (a b : Bool). a && b)
      (ap₂ (λ (a b : Bool). a && b) (le-leb (length site.processes) 16 keeps.processes)
      (le-leb (length site.terminals) 16 keeps.terminals))
      (few-all (λ (spec : ProcessSpec). length (files_of spec.what)) 8 site.processes keeps.files))
      (few-all (λ (spec : TerminalSpec). length spec.requests) 1000 site.terminals keeps.requests)),
)
