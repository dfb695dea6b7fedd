-- Alive packets that were noted, and checks of a calm watch.
use Rattle.std.specs.List.{list_all}
use Rattle.std.specs.Option.{option_map, unwrap_or}
use Rattle.std.specs.Bool.{beq}
use Rattle.std.specs.Cmp.Lexicographic.{pointwise}
use Rattle.std.proofs.Common.{◌≡◌, ◌≤◌, ◌<◌, ◌+◌, ◌&&◌, ◌∷◌, ◌++◌, ◌∙◌, ℕ, zero, suc, Bool, true, false, not}
use Rattle.std.proofs.Common.{Option, Some, None, if◌then◌else◌, List, [], map, length, take, get_or, set, replicate}
use Rattle.std.proofs.Common.{slice_get, slice_set, refl, ap, ap₂, sym, arith}
use Rattle.std.proofs.lemmas.List.{length-map, take_all, take_more}
use Rattle.std.proofs.lemmas.Option.{slice_get_past}
use Rattle.alive_regroup.specs.declared.neighbour.Missed.TheVariants as missed
use Rattle.alive_regroup.specs.declared.neighbour.Neighbour.{Neighbour}
use Rattle.alive_regroup.specs.declared.neighbour.Neighbour.TheVariants.{Absent, Up, Down}
use Rattle.alive_regroup.specs.Sets.{nobody}
use Rattle.alive_regroup.specs.Listening.{all_heard, is_at_rest, is_calm, neighbour_if_heard, watch_after}
use Rattle.alive_regroup.specs.Watching.{Watching, after_check, after_tick, changed_at, does_check, is_missed}
use Rattle.alive_regroup.specs.Watching.{is_silent, is_up, misses_none, neighbour_after_alive, neighbour_after_check}
use Rattle.alive_regroup.specs.Watching.{set_to_tell, silent_set, told_by_tick}
use Rattle.alive_regroup.proofs.NoneMissed.{first-of}

pub none-heard : (n : ℕ) (all : List Neighbour) → all_heard (replicate n false) all ≡ all
none-heard zero all = refl
none-heard (suc n) [] = refl
none-heard (suc n) (one ∷ all) = ap (λ rest. one ∷ rest) (none-heard n all)

-- one after the other

next-heard : (heard : List Bool) (all : List Neighbour) (k : ℕ) (d : Neighbour) → k < length heard → k < length all
    → get_or heard k false ≡ true
    → set (all_heard (take k heard) all) k (neighbour_after_alive (get_or (all_heard (take k heard) all) k d))
    ≡ all_heard (take (suc k) heard) all
next-heard [] all k d within room is = absurd (omega (arith, within))
next-heard (h ∷ heard) [] k d within room is = absurd (omega (arith, room))
next-heard (h ∷ heard) (one ∷ all) zero d within room is = ap (λ b. neighbour_if_heard b one ∷ all) (sym is)
next-heard (h ∷ heard) (one ∷ all) (suc k) d within room is =
    ap (λ rest. neighbour_if_heard h one ∷ rest)
    (next-heard heard all k d (omega (arith, within)) (omega (arith, room)) is)

next-not : (heard : List Bool) (all : List Neighbour) (k : ℕ) → k < length heard → get_or heard k false ≡ false
    → all_heard (take k heard) all ≡ all_heard (take (suc k) heard) all
next-not [] all k within is = absurd (omega (arith, within))
next-not (h ∷ heard) [] zero within is = refl
next-not (h ∷ heard) [] (suc k) within is = refl
next-not (h ∷ heard) (one ∷ all) zero within is = ap (λ b. neighbour_if_heard b one ∷ all) (sym is)
next-not (h ∷ heard) (one ∷ all) (suc k) within is =
    ap (λ rest. neighbour_if_heard h one ∷ rest) (next-not heard all k (omega (arith, within)) is)

module _ (heard : List Bool) (all : List Neighbour) (k : ℕ) (within : k < length heard) where
  more : all_heard (take (suc k) heard) all ≡ all_heard (take (k + 1) heard) all
  more =
      let next : suc k ≡ k + 1 = omega arith in
      ap (λ (n : ℕ). all_heard (take n heard) all) next

  pub heard-next : (d : Neighbour) → k < length all → get_or heard k false ≡ true
      → set (all_heard (take k heard) all) k (neighbour_after_alive (get_or (all_heard (take k heard) all) k d))
      ≡ all_heard (take (k + 1) heard) all
  heard-next d room is = next-heard heard all k d within room is ∙ more

  pub heard-not : get_or heard k false ≡ false → all_heard (take k heard) all ≡ all_heard (take (k + 1) heard) all
  heard-not is = next-not heard all k within is ∙ more

-- one more

alive-still : (h : Bool) (one : Neighbour)
    → neighbour_after_alive one ≡ neighbour_after_alive (neighbour_if_heard h one)
alive-still false one = refl
alive-still true Absent = refl
alive-still true (Up came misses report) = refl
alive-still true (Down came) = refl

abbrev changed : ℕ → List Neighbour → Option Neighbour → List Neighbour
changed k all found = unwrap_or (option_map (λ one. slice_set all k (neighbour_after_alive one)) found) all

changed-behind : (one : Neighbour) (all : List Neighbour) (k : ℕ) (found : Option Neighbour)
    → one ∷ changed k all found ≡ changed (suc k) (one ∷ all) found
changed-behind one all k None = refl
changed-behind one all k (Some other) = refl

heard-at : (heard : List Bool) (all : List Neighbour) (k : ℕ) → k < length heard
    → all_heard (set heard k true) all ≡ changed k (all_heard heard all) (slice_get (all_heard heard all) k)
heard-at [] all k within = absurd (omega (arith, within))
heard-at (h ∷ heard) [] zero within = refl
heard-at (h ∷ heard) [] (suc k) within = refl
heard-at (h ∷ heard) (one ∷ all) zero within = ap (λ now. now ∷ all_heard heard all) (alive-still h one)
heard-at (h ∷ heard) (one ∷ all) (suc k) within =
    ap (λ rest. neighbour_if_heard h one ∷ rest) (heard-at heard all k (omega (arith, within)))
    ∙ changed-behind (neighbour_if_heard h one) (all_heard heard all) k (slice_get (all_heard heard all) k)

length-heard : (heard : List Bool) (all : List Neighbour) → length (all_heard heard all) ≡ length all
length-heard [] all = refl
length-heard (h ∷ heard) [] = refl
length-heard (h ∷ heard) (one ∷ all) = ap suc (length-heard heard all)

abbrev pub with_neighbours : Watching → List Neighbour → Watching
with_neighbours w all = record w { neighbours = all }

pub heard-one : (heard : List Bool) (w : Watching) (k : ℕ) → k < length heard
    → watch_after (set heard k true) w ≡ changed_at k neighbour_after_alive (watch_after heard w)
heard-one heard w k within = ap (with_neighbours w) (heard-at heard w.neighbours k within)

pub heard-past : (heard : List Bool) (w : Watching) (k : ℕ) → length w.neighbours ≤ k
    → watch_after heard w ≡ changed_at k neighbour_after_alive (watch_after heard w)
heard-past heard w k past =
    let all : List Neighbour = all_heard heard w.neighbours in
    let none : slice_get all k ≡ None =
    slice_get_past all k (omega (arith, past, length-heard heard w.neighbours)) in
    sym (ap (λ (found : Option Neighbour). with_neighbours w (changed k all found)) none)

-- calm

rest-checked : (one : Neighbour) → is_at_rest one ≡ true
    → neighbour_after_check (neighbour_if_heard (is_up one) one) ≡ one
rest-checked Absent rest = refl
rest-checked (Up true missed.None report) rest = absurd cc
rest-checked (Up false missed.None report) rest = refl
rest-checked (Up came missed.One report) rest = absurd cc
rest-checked (Up came missed.More report) rest = absurd cc
rest-checked (Down true) rest = absurd cc
rest-checked (Down false) rest = refl

rests-checked : (all : List Neighbour) → list_all is_at_rest all ≡ true
    → map neighbour_after_check (all_heard (map is_up all) all) ≡ all
rests-checked [] rest = refl
rests-checked (one ∷ all) rest =
    ap₂ (λ x xs. x ∷ xs) (rest-checked one (first-of _ _ rest).0) (rests-checked all (first-of _ _ rest).1)

rest-not-silent : (one : Neighbour) → is_at_rest one ≡ true → is_silent one ≡ false
rest-not-silent Absent rest = refl
rest-not-silent (Up came missed.None report) rest = refl
rest-not-silent (Up came missed.One report) rest = absurd cc
rest-not-silent (Up came missed.More report) rest = absurd cc
rest-not-silent (Down came) rest = refl

rests-not-silent : (all : List Neighbour) → list_all is_at_rest all ≡ true
    → map is_silent all ≡ replicate (length all) false
rests-not-silent [] rest = refl
rests-not-silent (one ∷ all) rest =
    ap₂ (λ x xs. x ∷ xs) (rest-not-silent one (first-of _ _ rest).0) (rests-not-silent all (first-of _ _ rest).1)

rest-not-missed : (h : Bool) (one : Neighbour) → is_at_rest one ≡ true
    → not (is_missed (neighbour_if_heard h one)) ≡ true
rest-not-missed true Absent rest = refl
rest-not-missed false Absent rest = refl
rest-not-missed true (Up came missed.None report) rest = refl
rest-not-missed false (Up came missed.None report) rest = refl
rest-not-missed h (Up came missed.One report) rest = absurd cc
rest-not-missed h (Up came missed.More report) rest = absurd cc
rest-not-missed true (Down came) rest = refl
rest-not-missed false (Down came) rest = refl

both-true : (a b : Bool) → a ≡ true → b ≡ true → (a && b) ≡ true
both-true a b first second = ap₂ (λ x y. x && y) first second

none-missed : (heard : List Bool) (all : List Neighbour) → list_all is_at_rest all ≡ true
    → list_all (λ one. not (is_missed one)) (all_heard heard all) ≡ true
none-missed [] [] rest = refl
none-missed [] (one ∷ all) rest =
    both-true _ _ (rest-not-missed false one (first-of _ _ rest).0) (none-missed [] all (first-of _ _ rest).1)
none-missed (h ∷ heard) [] rest = refl
none-missed (h ∷ heard) (one ∷ all) rest =
    both-true _ _ (rest-not-missed h one (first-of _ _ rest).0) (none-missed heard all (first-of _ _ rest).1)

pub same-more : (xs ys : List Bool) (k : ℕ) → k < length xs → k < length ys → take k xs ≡ take k ys
    → get_or xs k false ≡ get_or ys k false → take (k + 1) xs ≡ take (k + 1) ys
same-more xs ys k within room so here =
    take_more xs k false within ∙ ap₂ (λ items one. items ++ one ∷ []) so here ∙ sym (take_more ys k false room)

pub same-taken : (xs ys : List Bool) (k : ℕ) → length xs ≤ k → length ys ≤ k → take k xs ≡ take k ys → xs ≡ ys
same-taken xs ys k within room so = sym (take_all k xs within) ∙ so ∙ take_all k ys room

pub same-all : (xs ys : List Bool) → pointwise beq xs ys ≡ true → xs ≡ ys
same-all [] [] same = refl
same-all [] (y ∷ ys) same = absurd cc
same-all (x ∷ xs) [] same = absurd cc
same-all (x ∷ xs) (y ∷ ys) same =
    ap₂ (λ z zs. z ∷ zs) (same-one x y (first-of (beq x y) (pointwise beq xs ys) same).0)
    (same-all xs ys (first-of (beq x y) (pointwise beq xs ys) same).1)
  where
    same-one : (a b : Bool) → beq a b ≡ true → a ≡ b
    same-one true true is = refl
    same-one true false is = absurd cc
    same-one false true is = absurd cc
    same-one false false is = refl

not-true : (b : Bool) → not b ≡ true → b ≡ false
not-true true is = absurd cc
not-true false is = refl

module _ (w : Watching) (calm : is_calm w ≡ true) where
  abbrev none_told : Bool
  none_told = pointwise beq w.told.members nobody.members

  due : not w.due ≡ true
  due = (first-of (not w.due) (none_told && list_all is_at_rest w.neighbours) calm).0

  rest : (none_told ≡ true) × (list_all is_at_rest w.neighbours ≡ true)
  rest = first-of none_told (list_all is_at_rest w.neighbours)
      (first-of (not w.due) (none_told && list_all is_at_rest w.neighbours) calm).1

  pub calm-missed : (heard : List Bool) → misses_none (watch_after heard w) ≡ true
  calm-missed heard = none-missed heard w.neighbours rest.1

  module _ (checks : does_check w ≡ true) (heard : List Bool) (all : heard ≡ map is_up w.neighbours)
      (full : length heard ≡ 16) where
    same : map neighbour_after_check (all_heard heard w.neighbours) ≡ w.neighbours
    same =
        ap (λ (h : List Bool). map neighbour_after_check (all_heard h w.neighbours)) all
        ∙ rests-checked w.neighbours rest.1

    silent : map is_silent (map neighbour_after_check (all_heard heard w.neighbours)) ≡ nobody.members
    silent =
        ap (map is_silent) same ∙ rests-not-silent w.neighbours rest.1
        ∙ ap (λ (n : ℕ). replicate n false) (sym (ap length all ∙ length-map w.neighbours is_up) ∙ full)

    pub calm-told : None ≡ told_by_tick (watch_after heard w)
    calm-told =
        sym
        (ap (λ (b : Bool). if b then set_to_tell w.due w.told (silent_set (map neighbour_after_check (all_heard heard
        w.neighbours))) else None) checks
        ∙ ap (λ (members : List Bool). set_to_tell w.due w.told (record { members = members })) silent
        ∙ ap (λ (b : Bool). if b then None else Some nobody) (both-true _ _ due rest.0))

    the_watch : List Neighbour → List Bool → Bool → Watching
    the_watch all told due =
        record { me = w.me; checks = false; neighbours = all; told = record { members = told }; due = due }

    pub calm-checked : watch_after (replicate 16 false) (record w { checks = false }) ≡ after_tick (watch_after heard w)
    unfolding the_watch
    calm-checked =
        ap (λ (all : List Neighbour). the_watch all w.told.members w.due) (none-heard 16 w.neighbours)
        ∙ ap₂ (the_watch w.neighbours) (same-all _ _ rest.0) (not-true w.due due)
        ∙ sym (ap₂ (λ (all : List Neighbour) (told : List Bool). the_watch all told false) same silent)
        ∙ sym (ap (λ (b : Bool). if b then after_check (watch_after heard w) else record (watch_after heard w)
        { checks = true }) checks)
