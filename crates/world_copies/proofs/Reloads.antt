-- A processor is loaded again: each process gets its blank copies, and stays in its place.
use Rattle.std.proofs.Common.{◌≡◌, ℕ, suc, ◌+◌, List, [], ◌∷◌, ◌++◌, length, map, Some, slice_get, slice_set}
use Rattle.std.proofs.Common.{refl, ap, ap₂, sym, ◌∙◌, arith, append_assoc, append-nil}
use Rattle.std.proofs.lemmas.List.{length-map}
use Rattle.tal_tree.specs.declared.site.Site.{Site}
use Rattle.world_semantics.specs.Rules.{reloaded_at, reloaded_from}
use Rattle.world_semantics.proofs.Lists.{map-all}
use Rattle.process_copies.specs.Reloading.{blanks_of, placed_reloaded}
use Rattle.process_copies.specs.Seen.{Placed}
use Rattle.process_copies.specs.declared.reloading.BlankCopies.{BlankCopies}
use Rattle.world_copies.specs.Seen.{ArePlaced, drives_in, pairs_in}

-- each of these processes is in its place of the site, from a place on
abbrev AreFrom : Site → ℕ → List Placed → Type 0
AreFrom site from places = (k : ℕ) (placed : Placed) → slice_get places k ≡ Some placed
    → (placed.site ≡ site) × (placed.number ≡ from + k)

from-on : (site : Site) (processor from : ℕ) (places : List Placed) → AreFrom site from places
    → pairs_in (map (placed_reloaded processor) places) ≡ reloaded_from site processor from (pairs_in places)
from-on site processor from [] at = refl
from-on site processor from (placed ∷ places) at =
    let first = at 0 placed refl in
    ap₂ (λ one rest. one ∷ rest)
    (ap₂ (λ (s : Site) (n : ℕ). reloaded_at s processor n (slice_get s.processes n) placed.pair) first.0
    (first.1 ∙ omega arith))
    (from-on site processor (from + 1) places
    (λ k one there. let next = at (suc k) one there in (next.0, next.1 ∙ omega arith)))

pub pairs-reloaded : (site : Site) (processor : ℕ) (places : List Placed) → ArePlaced site places
    → pairs_in (map (placed_reloaded processor) places) ≡ reloaded_from site processor 0 (pairs_in places)
pairs-reloaded site processor places placed =
    from-on site processor 0 places
    (λ k one there. let at = placed k one there in (at.0, at.1 ∙ omega arith))

pub drives-reloaded : (processor : ℕ) (places : List Placed)
    → drives_in (map (placed_reloaded processor) places) ≡ drives_in places
drives-reloaded processor [] = refl
drives-reloaded processor (placed ∷ places) = ap (λ all. placed.drives ∷ all) (drives-reloaded processor places)

pub placed-reloaded : (processor : ℕ) (site : Site) (places : List Placed) → ArePlaced site places
    → ArePlaced site (map (placed_reloaded processor) places)
placed-reloaded processor site places placed =
    map-all (λ number (one : Placed). (one.site ≡ site) × (one.number ≡ number)) (placed_reloaded processor) places
    (λ number one there. placed number one there)

-- One process after the other, the last one first

-- a list of which a function makes one that ends so
record Ends {A B : Type 0} (f : A → B) (xs : List A) (ys : List B) (y : B) : Type 0 where
  pub front : List A
  pub last : A
  pub split : xs ≡ front ++ last ∷ []
  pub before : map f front ≡ ys
  pub is : f last ≡ y

ends : {A B : Type 0} (f : A → B) (xs : List A) (ys : List B) (y : B) → map f xs ≡ ys ++ y ∷ [] → Ends f xs ys y
ends f [] [] y same = absurd (cc)
ends f [] (z ∷ ys) y same = absurd (cc)
ends f (x ∷ []) [] y same =
    record { front = []; last = x; split = refl; before = refl; is = cc }
ends f (x ∷ w ∷ xs) [] y same = absurd (cc)
ends f (x ∷ xs) (z ∷ ys) y same =
    let rest = ends f xs ys y (cc) in
    record {
      front = x ∷ rest.front;
      last = rest.last;
      split = ap (λ all. x ∷ all) rest.split;
      before = ap₂ (λ one all. one ∷ all) (cc) rest.before;
      is = rest.is;
    }

get-behind : {A : Type 0} (xs : List A) (x : A) (ys : List A) → slice_get (xs ++ x ∷ ys) (length xs) ≡ Some x
get-behind [] x ys = refl
get-behind (y ∷ xs) x ys = get-behind xs x ys

set-behind : {A : Type 0} (xs : List A) (x : A) (ys : List A) (y : A)
    → slice_set (xs ++ x ∷ ys) (length xs) y ≡ xs ++ y ∷ ys
set-behind [] x ys y = refl
set-behind (z ∷ xs) x ys y = ap (λ all. z ∷ all) (set-behind xs x ys y)

-- the blank copies are those of the processes in front, and the others have theirs
pub record IsReloadedFrom (processor : ℕ) (before now : List Placed) (blanks : List BlankCopies) : Type 0 where
  pub front : List Placed
  pub rest : List Placed
  pub before_is : before ≡ front ++ rest
  pub now_is : now ≡ front ++ map (placed_reloaded processor) rest
  pub left : map (blanks_of processor) front ≡ blanks

pub reload-starts : (processor : ℕ) (before : List Placed) (blanks : List BlankCopies)
    → blanks ≡ map (blanks_of processor) before → IsReloadedFrom processor before before blanks
reload-starts processor before blanks made = record {
  front = before;
  rest = [];
  before_is = sym (append-nil before);
  now_is = sym (append-nil before);
  left = sym made;
}

pub reload-ends : (processor : ℕ) (before now : List Placed) (blanks : List BlankCopies) → blanks ≡ []
    → IsReloadedFrom processor before now blanks → now ≡ map (placed_reloaded processor) before
reload-ends processor before now blanks none so_far =
    by so_far.front so_far.before_is so_far.now_is (so_far.left ∙ none)
  where
    by : (front : List Placed) → before ≡ front ++ so_far.rest
        → now ≡ front ++ map (placed_reloaded processor) so_far.rest → map (blanks_of processor) front ≡ []
        → now ≡ map (placed_reloaded processor) before
    by [] before_is now_is left = now_is ∙ ap (map (placed_reloaded processor)) (sym before_is)
    by (x ∷ front) before_is now_is left = absurd (cc)

-- the next process whose blank copies are taken
pub record IsNextOf (processor : ℕ) (before now : List Placed) (more : List BlankCopies) (one : BlankCopies) : Type 0
  where
    pub placed : Placed
    pub there : slice_get now (length more) ≡ Some placed
    pub first : slice_get before (length more) ≡ Some placed
    pub is : one ≡ blanks_of processor placed
    pub on : IsReloadedFrom processor before (slice_set now (length more) (placed_reloaded processor placed)) more

pub reload-next : (processor : ℕ) (before now : List Placed) (blanks more : List BlankCopies) (one : BlankCopies)
    → blanks ≡ more ++ one ∷ [] → IsReloadedFrom processor before now blanks
    → IsNextOf processor before now more one
reload-next processor before now blanks more one popped so_far =
    let g = placed_reloaded processor in
    let rest = so_far.rest in
    let end = ends (blanks_of processor) so_far.front more one (so_far.left ∙ popped) in
    let count : length more ≡ length end.front =
    ap length (sym end.before) ∙ length-map end.front (blanks_of processor) in
    let before_is : before ≡ end.front ++ end.last ∷ rest =
    so_far.before_is ∙ ap (λ all. all ++ rest) end.split ∙ append_assoc end.front (end.last ∷ []) rest in
    let now_is : now ≡ end.front ++ end.last ∷ map g rest =
    so_far.now_is ∙ ap (λ all. all ++ map g rest) end.split ∙ append_assoc end.front (end.last ∷ []) (map g rest) in
    record {
      placed = end.last;
      there = ap₂ (λ (all : List Placed) (n : ℕ). slice_get all n) now_is count
          ∙ get-behind end.front end.last (map g rest);
      first = ap₂ (λ (all : List Placed) (n : ℕ). slice_get all n) before_is count
          ∙ get-behind end.front end.last rest;
      is = sym end.is;
      on = record {
        front = end.front;
        rest = end.last ∷ rest;
        before_is = before_is;
        now_is = ap₂ (λ (all : List Placed) (n : ℕ). slice_set all n (g end.last)) now_is count
            ∙ set-behind end.front end.last (map g rest) (g end.last);
        left = end.before;
      };
    }
