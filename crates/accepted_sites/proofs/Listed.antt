-- When a program is accepted whose stands can be listed: each leads only to others of the list, and at none a statement
-- breaks.
use Rattle.std.proofs.Common.{◌≡◌, inl, inr, ℕ, ◌==◌, Bool, true, false, not, ◌&&◌, ◌||◌, List, [], ◌∷◌, map, slice_get}
use Rattle.std.proofs.Common.{Option, Some, None, refl, ap, subst, sym}
use Rattle.std.specs.List.{list_all}
use Rattle.std.proofs.lemmas.Bool.{eqb-true, and_right}
use Rattle.gd_words.specs.Members.{IsAmong, is_among}
use Rattle.gd_words.proofs.Among.{among-at}
use Rattle.gd_words.proofs.AmongTest.{among_there}
use Rattle.tal_tree.specs.declared.program.Program.{Program}
use Rattle.tal_tree.specs.declared.statement.Statement.{Statement}
use Rattle.tal_tree.specs.declared.statement.What.{What, What-F, out-What}
use Rattle.process_semantics.specs.State.{Entry, Run, Test, Last}
use Rattle.path_semantics.specs.declared.dues.Dues.{Dues}
use Rattle.path_semantics.specs.declared.reason.Reason.{Reason}
use Rattle.path_semantics.specs.declared.reason.Reason.TheVariants.{Data, SyncBlock, Input, Depth}
use Rattle.path_semantics.specs.Accepted.{IsAccepted}
use Rattle.path_semantics.specs.Bounds.{IsWithinBounds}
use Rattle.path_semantics.specs.Dues.{after_entry, asked_by}
use Rattle.path_semantics.specs.Break.{Breaks, asked_count, is_reached, omits_item, omits_file, sends, breaks_by}
use Rattle.path_semantics.specs.Break.{breaks_entry, breaks_at}
use Rattle.path_semantics.specs.Path.{Walks}
use Rattle.path_semantics.specs.Place.{Stand, next_entry, successors, first_stand}

-- Whether a statement breaks for no reason, with these dues before it

abbrev is_safe : Program → Dues → What-F What Statement → Bool
is_safe program dues (What-F.Checkpoint items files) =
    list_all (λ n. is_among n items) dues.globals && list_all (λ n. is_among n files) dues.asked
is_safe program dues (What-F.WriteRead file buffer send room got) =
    not dues.read && not (is_reached (slice_get program.files file) (asked_count file dues))
is_safe program dues (What-F.Reply buffer count) = not dues.read
is_safe program dues _ = true

pub both : (a b : Bool) → (a && b) ≡ true → (a ≡ true) × (b ≡ true)
both true true is = (refl, refl)
both true false is = absurd (cc)
both false b is = absurd (cc)

isnt : (a : Bool) → not a ≡ true → a ≡ false
isnt true is = absurd (cc)
isnt false is = refl

-- what all do, each does
all-do : {A : Type 0} (p : A → Bool) (xs : List A) (x : A) → list_all p xs ≡ true → IsAmong x xs → p x ≡ true
all-do p [] x all among = absurd among
all-do p (y ∷ xs) x all (inl same) = subst (λ z. p z ≡ true) (sym same) (both _ _ all).0
all-do p (y ∷ xs) x all (inr among) = all-do p xs x (both _ _ all).1 among

named : (due names : List ℕ) (n : ℕ) (is : Bool) → is_among n due ≡ is → list_all (λ m. is_among m names) due ≡ true
    → (not (is_among n names) && is) ≡ false
named due names n true there all =
    ap (λ b. not b && true) (all-do (λ m. is_among m names) due n all (among_there n due there))
named due names n false there all = and_right (not (is_among n names)) false refl

named-item : (item : ℕ) (program : Program) (dues : Dues) (what : What-F What Statement)
    → is_safe program dues what ≡ true → (omits_item item what && is_among item dues.globals) ≡ false
named-item item program dues (What-F.Checkpoint items files) safe =
    named dues.globals items item (is_among item dues.globals) refl (both _ _ safe).0
named-item item program dues _ safe = refl

named-file : (file : ℕ) (program : Program) (dues : Dues) (what : What-F What Statement)
    → is_safe program dues what ≡ true → (omits_file file what && is_among file dues.asked) ≡ false
named-file file program dues (What-F.Checkpoint items files) safe =
    named dues.asked files file (is_among file dues.asked) refl (both _ _ safe).1
named-file file program dues _ safe = refl

unread : (program : Program) (dues : Dues) (what : What-F What Statement) → is_safe program dues what ≡ true
    → (sends what && dues.read) ≡ false
unread program dues (What-F.WriteRead file buffer send room got) safe = isnt dues.read (both _ _ safe).0
unread program dues (What-F.Reply buffer count) safe = isnt dues.read safe
unread program dues _ safe = refl

unreached-by : (program : Program) (dues : Dues) (asked file : ℕ) (is : Bool) → (asked == file) ≡ is
    → is_reached (slice_get program.files asked) (asked_count asked dues) ≡ false
    → ((is || false) && is_reached (slice_get program.files file) (asked_count file dues)) ≡ false
unreached-by program dues asked file true same free =
    subst (λ f. is_reached (slice_get program.files f) (asked_count f dues) ≡ false) (eqb-true asked file same) free
unreached-by program dues asked file false same free = refl

unreached : (program : Program) (file : ℕ) (dues : Dues) (what : What-F What Statement)
    → is_safe program dues what ≡ true → (is_among file (asked_by what)
    && is_reached (slice_get program.files file) (asked_count file dues)) ≡ false
unreached program file dues (What-F.WriteRead asked buffer send room got) safe =
    unreached-by program dues asked file (asked == file) refl (isnt _ (both _ _ safe).1)
unreached program file dues _ safe = refl

safe-by : (program : Program) (reason : Reason) (dues : Dues) (what : What-F What Statement)
    → is_safe program dues what ≡ true → breaks_by program reason dues what ≡ false
safe-by program (Data item) dues what safe = named-item item program dues what safe
safe-by program (SyncBlock file) dues what safe = named-file file program dues what safe
safe-by program Input dues what safe = unread program dues what safe
safe-by program (Depth file) dues what safe = unreached program file dues what safe

-- the same at a stand

abbrev is_safe_entry : Program → Dues → Option Entry → Bool
is_safe_entry program dues (Some (Run statement)) = is_safe program dues (out-What statement.what)
is_safe_entry program dues _ = true

abbrev pub is_safe_at : Program → Stand → Bool
is_safe_at program stand = is_safe_entry program stand.dues (next_entry stand)

safe-entry : (program : Program) (reason : Reason) (dues : Dues) (entry : Option Entry)
    → is_safe_entry program dues entry ≡ true → breaks_entry program reason dues entry ≡ false
safe-entry program reason dues (Some (Run statement)) safe = safe-by program reason dues (out-What statement.what) safe
safe-entry program reason dues (Some (Test statement)) safe = refl
safe-entry program reason dues (Some (Last statement)) safe = refl
safe-entry program reason dues None safe = refl

-- Stands that lead only to each other

-- for each of these stands the places in the list of those to which it leads
abbrev pub AreLed : Program → List Stand → List (List ℕ) → Type 0
AreLed program all places =
    map (λ ks. map (slice_get all) ks) places ≡ map (λ here. map Some (successors program here)) all

found-among : (all : List Stand) (ks : List ℕ) (theres : List Stand) → map (slice_get all) ks ≡ map Some theres
    → (there : Stand)
    → IsAmong there theres → IsAmong there all
found-among all [] [] are there among = absurd among
found-among all [] (one ∷ theres) are there among = absurd (cc)
found-among all (k ∷ ks) [] are there among = absurd (cc)
found-among all (k ∷ ks) (one ∷ theres) are there (inl same) =
    let first : slice_get all k ≡ Some one =
    cc in among-at all k there (subst (λ (s : Stand). slice_get all k ≡ Some s) (sym same) first)
found-among all (k ∷ ks) (one ∷ theres) are there (inr among) =
    let rest : map (slice_get all) ks ≡ map Some theres = cc in found-among all ks theres rest there among

led-among : (program : Program) (all : List Stand) (places : List (List ℕ)) (heres : List Stand)
    → map (λ ks. map (slice_get all) ks) places ≡ map (λ here. map Some (successors program here)) heres
    → (here there : Stand) → IsAmong here heres → IsAmong there (successors program here) → IsAmong there all
led-among program all places [] led here there among next = absurd among
led-among program all [] (one ∷ heres) led here there among next = absurd (cc)
led-among program all (ks ∷ places) (one ∷ heres) led here there (inl same) next =
    let first : map (slice_get all) ks ≡ map Some (successors program one) = cc in
    found-among all ks (successors program one) first there
    (subst (λ (s : Stand). IsAmong there (successors program s)) same next)
led-among program all (ks ∷ places) (one ∷ heres) led here there (inr among) next =
    let rest : map (λ js. map (slice_get all) js) places ≡ map (λ s. map Some (successors program s)) heres = cc in
    led-among program all places heres rest here there among next

walks-among : (program : Program) (all : List Stand) (places : List (List ℕ)) → AreLed program all places
    → (path : List ℕ) (here there : Stand)
    → IsAmong here all → Walks program here path there → IsAmong there all
walks-among program all places led [] here there among same = subst (λ (s : Stand). IsAmong s all) same among
walks-among program all places led (number ∷ path) here there among walk =
    walks-among program all places led path walk.0 there
    (led-among program all places all led here walk.0 among walk.1.leads) walk.2

not-both : (b : Bool) → b ≡ true → b ≡ false → ⊥
not-both b is isnt-it = absurd (cc)

-- a program within bounds is accepted where the list begins with its first stand
pub listed-accepted : (program : Program) (all : List Stand) (places : List (List ℕ)) → IsWithinBounds program
    → slice_get all 0 ≡ Some (first_stand program) → AreLed program all places
    → list_all (is_safe_at program) all ≡ true → IsAccepted program
listed-accepted program all places bounds begins led safe = record { bounds = bounds; unbroken = unbroken }
  where
    unbroken : (path : List ℕ) (reason : Reason) → Breaks program path reason → ⊥
    unbroken path reason broken =
        let among = walks-among program all places led broken.front (first_stand program) broken.stand
        (among-at all 0 (first_stand program) begins) broken.leads in
        not-both (breaks_at program reason broken.stand) broken.breaks
        (safe-entry program reason broken.stand.dues (next_entry broken.stand)
        (all-do (is_safe_at program) all broken.stand safe among))

-- Stands in MAIN alone

-- the stands along entries of MAIN, one after the other
abbrev pub along : Dues → List Entry → List Stand
along dues [] = []
along dues (entry ∷ rest) = record { place = (entry ∷ rest) ∷ []; dues = dues } ∷ along (after_entry dues entry) rest

-- the dues behind them, what stands last among them, and the stand at the end of MAIN
abbrev pub behind : Dues → List Entry → Dues
behind dues [] = dues
behind dues (entry ∷ rest) = behind (after_entry dues entry) rest

abbrev pub last_in : List Entry → List Entry
last_in [] = []
last_in (entry ∷ []) = entry ∷ []
last_in (entry ∷ rest) = last_in rest

abbrev pub ended : Dues → Stand
ended dues = record { place = []; dues = dues }
