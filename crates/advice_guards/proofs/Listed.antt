-- What is due in a program whose stands can be listed: each stand of the list leads only to others of it.
use Rattle.std.proofs.Common.{◌≡◌, ◌≤◌, ◌<◌, ◌↔◌, inl, inr, ℕ, suc, ◌==◌, nat_lt, Bool, true, false, not, ◌&&◌, ◌||◌}
use Rattle.std.proofs.Common.{IsTrue, List, [], ◌∷◌, map, slice_get, Some, arith, refl, subst, sym}
use Rattle.std.specs.List.{list_all, list_any}
use Rattle.gd_words.specs.Members.{IsAmong, is_among}
use Rattle.gd_words.proofs.Among.{among-at}
use Rattle.gd_words.proofs.AmongTest.{among_there}
use Rattle.tal_tree.specs.declared.program.Program.{Program}
use Rattle.path_semantics.specs.declared.reason.Reason.{Reason}
use Rattle.path_semantics.specs.Break.{asked_count, Breaks, breaks_at}
use Rattle.path_semantics.specs.Path.{Walks, Leads}
use Rattle.path_semantics.specs.Place.{Stand, next_entry, successors, first_stand}
use Rattle.path_semantics.specs.Reached.{reached}
use Rattle.path_semantics.proofs.Reaching.{reached-leads}
use Rattle.advice.specs.Advice.{IsDepthEnough, IsLeastDepth}
use Rattle.advice.specs.Answer.{IsAscending}
use Rattle.advice.specs.Due.{is_checkpoint_next, is_ask_next, IsItemDue, IsFileDue, IsAskedAfter}

never : {A : Type 0} → false ≡ true → A
never wrong = absurd (cc)

both : (a b : Bool) → IsTrue (a && b) → IsTrue a × IsTrue b
both true b is = (refl, is)
both false b is = never is

pub each-does : {A : Type 0} (test : A → Bool) (xs : List A) (x : A) → IsTrue (list_all test xs) → IsAmong x xs
    → IsTrue (test x)
each-does test [] x all among = absurd among
each-does test (y ∷ ys) x all (inl same) = subst (λ z. IsTrue (test z)) (sym same) (both _ _ all).0
each-does test (y ∷ ys) x all (inr among) = each-does test ys x (both _ _ all).1 among

first-or : {A : Type 0} (test : A → Bool) (x : A) (xs : List A) (b : Bool) → test x ≡ b → IsTrue (b || list_any test xs)
    → (IsTrue (list_any test xs) → (y : A) × IsAmong y xs × IsTrue (test y))
    → (y : A) × IsAmong y (x ∷ xs) × IsTrue (test y)
first-or test x xs true is any later = (x, inl refl, is)
first-or test x xs false isnt any later = let found = later any in (found.0, inr found.1, found.2)

one-does : {A : Type 0} (test : A → Bool) (xs : List A) → IsTrue (list_any test xs)
    → (x : A) × IsAmong x xs × IsTrue (test x)
one-does test [] any = never any
one-does test (x ∷ xs) any = first-or test x xs (test x) refl any (λ later. one-does test xs later)

implied : (a b : Bool) → IsTrue (not a || b) → IsTrue a → IsTrue b
implied true b is given = is
implied false b is given = never given

-- the stands of a list, and for each the places of those to which it leads
pub record AreAll (program : Program) (all : List Stand) (ways : List (List ℕ)) : Type 0 where
  pub begins : slice_get all 0 ≡ Some (first_stand program)
  pub lead : map (λ places. map (slice_get all) places) ways ≡ map (λ here. map Some (successors program here)) all

module _ (program : Program) (all : List Stand) where
  among-places : (places : List ℕ) (theres : List Stand) → map (slice_get all) places ≡ map Some theres
      → (there : Stand) → IsAmong there theres → IsAmong there all
  among-places [] [] are there among = absurd among
  among-places [] (one ∷ theres) are there among = absurd (cc)
  among-places (place ∷ places) [] are there among = absurd (cc)
  among-places (place ∷ places) (one ∷ theres) are there (inl same) =
      let got : slice_get all place ≡ Some one = cc in
      among-at all place there (subst (λ (stand : Stand). slice_get all place ≡ Some stand) (sym same) got)
  among-places (place ∷ places) (one ∷ theres) are there (inr among) =
      let rest : map (slice_get all) places ≡ map Some theres = cc in among-places places theres rest there among

  among-ways : (ways : List (List ℕ)) (heres : List Stand)
      → map (λ places. map (slice_get all) places) ways ≡ map (λ here. map Some (successors program here)) heres
      → (here there : Stand) → IsAmong here heres → IsAmong there (successors program here) → IsAmong there all
  among-ways ways [] lead here there among next = absurd among
  among-ways [] (one ∷ heres) lead here there among next = absurd (cc)
  among-ways (places ∷ ways) (one ∷ heres) lead here there (inl same) next =
      let first : map (slice_get all) places ≡ map Some (successors program one) = cc in
      among-places places (successors program one) first there
      (subst (λ (stand : Stand). IsAmong there (successors program stand)) same next)
  among-ways (places ∷ ways) (one ∷ heres) lead here there (inr among) next =
      let rest : map (λ ks. map (slice_get all) ks) ways ≡ map (λ stand. map Some (successors program stand)) heres =
      cc in
      among-ways ways heres rest here there among next

  module _ (ways : List (List ℕ)) (are : AreAll program all ways) where
    walks-among : (path : List ℕ) (here there : Stand) → IsAmong here all → Walks program here path there
        → IsAmong there all
    walks-among [] here there among same = subst (λ (stand : Stand). IsAmong stand all) same among
    walks-among (number ∷ path) here there among walk =
        walks-among path walk.0 there (among-ways ways all are.lead here walk.0 among walk.1.leads) walk.2

    -- a path leads only to these
    pub led-among : (path : List ℕ) (there : Stand) → Leads program path there → IsAmong there all
    led-among path there walk =
        walks-among path (first_stand program) there (among-at all 0 (first_stand program) are.begins) walk

    -- where none breaks for a reason, no path does
    pub unbroken : (reason : Reason) → IsTrue (list_all (λ (stand : Stand). not (breaks_at program reason stand)) all)
        → (path : List ℕ) → Breaks program path reason → ⊥
    unbroken reason none path broken =
        let isnt : IsTrue (not (breaks_at program reason broken.stand)) =
        each-does (λ (stand : Stand). not (breaks_at program reason stand)) all broken.stand none
        (led-among broken.front broken.stand broken.leads) in
        by-both (breaks_at program reason broken.stand) isnt broken.breaks
      where
        by-both : (b : Bool) → IsTrue (not b) → IsTrue b → ⊥
        by-both true isnt is = never isnt
        by-both false isnt is = never is

    -- at each CHECKPOINT of this number no other globals are due than these
    abbrev pub has_only : ℕ → List ℕ → Stand → Bool
    has_only number items stand =
        not (is_checkpoint_next number (next_entry stand)) || list_all (λ n. is_among n items) stand.dues.globals

    -- a path leads to a CHECKPOINT of this number where this global is due
    abbrev pub shows : ℕ → ℕ → Stand → Bool
    shows number item stand = is_checkpoint_next number (next_entry stand) && is_among item stand.dues.globals

    abbrev pub shown_by : ℕ → ℕ × List ℕ → Bool
    shown_by number shown = list_any (shows number shown.0) (reached program shown.1)

    shown-due : (number item : ℕ) (path : List ℕ) → IsTrue (list_any (shows number item) (reached program path))
        → IsItemDue program number item
    shown-due number item path any =
        let found = one-does (shows number item) (reached program path) any in
        let told = both _ _ found.2 in
        record {
          path = path;
          stand = found.0;
          leads = reached-leads program path found.0 found.1;
          next = told.0;
          due = told.1;
        }

    among-shown : (number item : ℕ) (shown : List (ℕ × List ℕ)) → IsTrue (list_all (shown_by number) shown)
        → IsAmong item (map (λ one. one.0) shown) → IsItemDue program number item
    among-shown number item [] each among = absurd among
    among-shown number item (one ∷ rest) each (inl same) =
        subst (IsItemDue program number) (sym same) (shown-due number one.0 one.1 (both _ _ each).0)
    among-shown number item (one ∷ rest) each (inr among) = among-shown number item rest (both _ _ each).1 among

    -- exactly these globals are due there, each on a path that is told
    pub items-are : (number : ℕ) (shown : List (ℕ × List ℕ))
        → IsTrue (list_all (has_only number (map (λ one. one.0) shown)) all)
        → IsTrue (list_all (shown_by number) shown) → (item : ℕ)
        → IsTrue (is_among item (map (λ one. one.0) shown)) ↔ IsItemDue program number item
    items-are number shown only each item = (
      (λ is. among-shown number item shown each (among_there item (map (λ one. one.0) shown) is)),
      (λ due.
          let within : IsTrue (has_only number (map (λ one. one.0) shown) due.stand) =
          each-does (has_only number (map (λ one. one.0) shown)) all due.stand only
          (led-among due.path due.stand due.leads) in
          each-does (λ (n : ℕ). is_among n (map (λ one. one.0) shown)) due.stand.dues.globals item
          (implied _ _ within due.next) (among_there item due.stand.dues.globals due.due)),
    )

    abbrev pub has_only_files : ℕ → List ℕ → Stand → Bool
    has_only_files number files stand =
        not (is_checkpoint_next number (next_entry stand)) || list_all (λ n. is_among n files) stand.dues.asked

    abbrev pub shows_file : ℕ → ℕ → Stand → Bool
    shows_file number file stand = is_checkpoint_next number (next_entry stand) && is_among file stand.dues.asked

    abbrev pub file_shown_by : ℕ → ℕ × List ℕ → Bool
    file_shown_by number shown = list_any (shows_file number shown.0) (reached program shown.1)

    among-files : (number file : ℕ) (shown : List (ℕ × List ℕ)) → IsTrue (list_all (file_shown_by number) shown)
        → IsAmong file (map (λ one. one.0) shown) → IsFileDue program number file
    among-files number file [] each among = absurd among
    among-files number file (one ∷ rest) each (inl same) =
        let found = one-does (shows_file number one.0) (reached program one.1) (both _ _ each).0 in
        let told = both _ _ found.2 in
        subst (IsFileDue program number) (sym same)
        (record {
          path = one.1;
          stand = found.0;
          leads = reached-leads program one.1 found.0 found.1;
          next = told.0;
          due = told.1;
        })
    among-files number file (one ∷ rest) each (inr among) = among-files number file rest (both _ _ each).1 among

    -- exactly these files are due there
    pub files-are : (number : ℕ) (shown : List (ℕ × List ℕ))
        → IsTrue (list_all (has_only_files number (map (λ one. one.0) shown)) all)
        → IsTrue (list_all (file_shown_by number) shown) → (file : ℕ)
        → IsTrue (is_among file (map (λ one. one.0) shown)) ↔ IsFileDue program number file
    files-are number shown only each file = (
      (λ is. among-files number file shown each (among_there file (map (λ one. one.0) shown) is)),
      (λ due.
          let within : IsTrue (has_only_files number (map (λ one. one.0) shown) due.stand) =
          each-does (has_only_files number (map (λ one. one.0) shown)) all due.stand only
          (led-among due.path due.stand due.leads) in
          each-does (λ (n : ℕ). is_among n (map (λ one. one.0) shown)) due.stand.dues.asked file
          (implied _ _ within due.next) (among_there file due.stand.dues.asked due.due)),
    )

    -- wherever this file is asked fewer are counted
    abbrev pub counts_fewer : ℕ → ℕ → Stand → Bool
    counts_fewer file depth stand =
        not (is_ask_next file (next_entry stand)) || nat_lt (asked_count file stand.dues) depth

    less-of : (n m : ℕ) → IsTrue (nat_lt n m) → n < m
    less-of n m is = grind arith

    enough : (file depth : ℕ) → 1 ≤ depth → IsTrue (list_all (counts_fewer file depth) all)
        → IsDepthEnough program file depth
    enough file depth lowest fewer = record {
      lowest = lowest;
      counts = λ count asked.
          let there : IsTrue (counts_fewer file depth asked.stand) =
          each-does (counts_fewer file depth) all asked.stand fewer
          (led-among asked.path asked.stand asked.leads) in
          subst (λ (n : ℕ). n < depth) asked.counted
          (less-of (asked_count file asked.stand.dues) depth (implied _ _ there asked.next));
    }

    -- one reply is enough
    pub one-least : (file : ℕ) → IsTrue (list_all (counts_fewer file 1) all) → IsLeastDepth program file 1
    one-least file fewer = record { enough = enough file 1 (omega arith) fewer; least = λ other is. is.lowest }

    abbrev pub asks_after : ℕ → ℕ → Stand → Bool
    asks_after file count stand = is_ask_next file (next_entry stand) && (asked_count file stand.dues == count)

    same-of : (n m : ℕ) → IsTrue (n == m) → n ≡ m
    same-of n m is = grind arith

    -- so many are wanted: on a path that is told one fewer are counted
    pub more-least : (file count : ℕ) (path : List ℕ) → IsTrue (list_all (counts_fewer file (suc count)) all)
        → IsTrue (list_any (asks_after file count) (reached program path))
        → IsLeastDepth program file (suc count)
    more-least file count path fewer any =
        let found = one-does (asks_after file count) (reached program path) any in
        let told = both _ _ found.2 in
        let asked : IsAskedAfter program file count =
        record {
          path = path;
          stand = found.0;
          leads = reached-leads program path found.0 found.1;
          next = told.0;
          counted = same-of (asked_count file found.0.dues) count told.1;
        } in
        record {
          enough = enough file (suc count) (omega arith) fewer;
          least = λ other is. let more : count < other = is.counts count asked in omega arith;
        }

-- Lists in order

abbrev pub ascends : List ℕ → Bool
ascends [] = true
ascends (n ∷ ns) = list_all (λ m. nat_lt n m) ns && ascends ns

less-if : (n m : ℕ) → IsTrue (nat_lt n m) → n < m
less-if n m is = grind arith

pub in-order : (ns : List ℕ) → IsTrue (ascends ns) → IsAscending ns
in-order [] is = tt
in-order (n ∷ ns) is =
    let told = both (list_all (λ m. nat_lt n m) ns) (ascends ns) is in
    ((λ m among. less-if n m (each-does (λ (k : ℕ). nat_lt n k) ns m told.0 among)), in-order ns told.1)
