-- What the calls of a device leave: one content, and each drive its part of it.
use Rattle.std.proofs.Common.{◌≡◌, ℕ, zero, suc, ◌+◌, ◌<◌, ◌≤◌, ◌==◌, Bool, true, false, ◌||◌, if◌then◌else◌, nat_lt}
use Rattle.std.proofs.Common.{List, [], ◌∷◌, ◌++◌, All, length, map, take, get_or, slice_set, slice_get, Option, Some}
use Rattle.std.proofs.Common.{None}
use Rattle.std.proofs.Common.{refl, ap, ap₂, sym, subst, ◌∙◌, arith}
use Rattle.std.proofs.lemmas.Bool.{ltb-true, ltb-false, eqb-true, eqb-false}
use Rattle.std.proofs.lemmas.List.{length-set, take-set-le, take_all, take_more_set, take_more}
use Rattle.std.proofs.Math.Seq.{take-set-lt}
use Rattle.std.proofs.lemmas.Option.{get_or_from_slice_get, slice_get_within}
use Rattle.std.proofs.lemmas.List.Elements.{All-head, All-tail, All-cons, All-weaker, All-map}
use Rattle.mirror.specs.Mirror.{DriveHeld, HasOf, IsMirror, Mirrors, after_copy, after_write, drives_with_change}
use Rattle.mirror.specs.Mirror.{content}
use Rattle.mirror.specs.Mirror.{is_alive}
use Rattle.mirror.specs.Mirror.{drives_after_copy, copied_by, drives_of, is_working, state_at, state_in, state_of}
use Rattle.mirror.specs.Mirror.{takes_write}
use Rattle.mirror.specs.Sectors.{blank, blanks}
use Rattle.mirror.specs.declared.state.DriveState.{DriveState}
use Rattle.mirror.specs.declared.state.DriveState.TheVariants.{Working, Failed, Reviving}
use Rattle.mirror.specs.declared.stored.Stored.{Stored}

-- Writing

-- a drive has its part of the content after a write too
part-written : (all sectors : List Stored) (state : DriveState) (sector : ℕ) (stored : Stored)
    → sector < length all → length sectors ≡ length all → HasOf all sectors state
    → Mirrors (slice_set all sector stored) (after_write sector stored (record { state = state; sectors = sectors }))
part-written all sectors Working sector stored there same has = record {
  count = length-set sectors sector stored ∙ same ∙ sym (length-set all sector stored);
  has = ap (λ xs. slice_set xs sector stored) has;
}
part-written all sectors Failed sector stored there same has = record {
  count = same ∙ sym (length-set all sector stored);
  has = has ∙ ap blanks (sym (length-set all sector stored));
}
part-written all sectors (Reviving next) sector stored there same has = by (nat_lt sector next) refl
  where
    below : next < length (slice_set all sector stored)
    below = subst (λ (n : ℕ). next < n) (sym (length-set all sector stored)) has.0

    by : (b : Bool) → nat_lt sector next ≡ b
        → Mirrors (slice_set all sector stored)
        (if b then record { state = Reviving next; sectors = slice_set sectors sector stored } else record
        { state = Reviving next; sectors = sectors })
    by true is = record {
      count = length-set sectors sector stored ∙ same ∙ sym (length-set all sector stored);
      has = (
        below,
        take-set-lt next sectors sector stored (ltb-true sector next is) ∙ ap (λ xs. slice_set xs sector stored) has.1
            ∙ sym (take-set-lt next all sector stored (ltb-true sector next is)),
      );
    }
    by false is = record {
      count = same ∙ sym (length-set all sector stored);
      has = (below, has.1 ∙ sym (take-set-le next all sector stored (ltb-false sector next is)));
    }

-- a write leaves the state of a drive
pub state-written : (sector : ℕ) (stored : Stored) (held : DriveHeld)
    → (after_write sector stored held).state ≡ held.state
state-written sector stored held = by (takes_write sector held.state)
  where
    by : (b : Bool) → (if b then record held { sectors = slice_set held.sectors sector stored } else held).state
        ≡ held.state
    by true = refl
    by false = refl

alive-written : (sector : ℕ) (stored : Stored) (drives : List DriveHeld)
    → is_alive (map (after_write sector stored) drives) ≡ is_alive drives
alive-written sector stored [] = refl
alive-written sector stored (held ∷ others) =
    ap₂ (λ a b. a || b) (ap is_working (state-written sector stored held)) (alive-written sector stored others)

first-written : (sector : ℕ) (stored : Stored) (state : DriveState) (sectors : List Stored) (rest after : List Stored)
    → after ≡ slice_set rest sector stored
    → (if is_working state then (after_write sector stored (record { state = state; sectors = sectors })).sectors
    else after)
    ≡ slice_set (if is_working state then sectors else rest) sector stored
first-written sector stored Working sectors rest after is = refl
first-written sector stored Failed sectors rest after is = is
first-written sector stored (Reviving next) sectors rest after is = is

-- the content after a write
pub content-written : (sector : ℕ) (stored : Stored) (drives : List DriveHeld)
    → content (map (after_write sector stored) drives) ≡ slice_set (content drives) sector stored
content-written sector stored [] = refl
content-written sector stored (held ∷ others) =
    ap (λ (s : DriveState). if is_working s then (after_write sector stored held).sectors else
    content (map (after_write sector stored) others)) (state-written sector stored held)
    ∙ first-written sector stored held.state held.sectors (content others)
    (content (map (after_write sector stored) others)) (content-written sector stored others)

pub mirror-written : (sector : ℕ) (stored : Stored) (drives : List DriveHeld) → sector < length (content drives)
    → IsMirror drives → IsMirror (map (after_write sector stored) drives)
mirror-written sector stored drives there mirror =
    let all = content drives in
    let now = content-written sector stored drives in
    let count : length (content (map (after_write sector stored) drives)) ≡ length all =
    ap length now ∙ length-set all sector stored in record {
      alive = alive-written sector stored drives ∙ mirror.alive;
      some = subst (λ (n : ℕ). 1 ≤ n) (sym count) mirror.some;
      few = subst (λ (n : ℕ). n ≤ 64) (sym count) mirror.few;
      parts = subst (λ (xs : List Stored). All (Mirrors xs) (map (after_write sector stored) drives)) (sym now)
          (All-map (Mirrors (slice_set all sector stored)) (after_write sector stored) drives
          (All-weaker (Mirrors all)
          (λ (held : DriveHeld). Mirrors (slice_set all sector stored) (after_write sector stored held))
          (λ held part. part-written all held.sectors held.state sector stored there part.count part.has)
          drives mirror.parts));
    }

-- One drive changes that doesn't work

-- the content stays where a drive that didn't work has all of it if it works then
content-changed : (change : DriveHeld → DriveHeld) (all : List Stored) (drives : List DriveHeld) (drive : ℕ)
    (held : DriveHeld) → slice_get drives drive ≡ Some held → is_working held.state ≡ false
    → Mirrors all (change held) → content drives ≡ all → content (drives_with_change change drive drives) ≡ all
content-changed change all [] drive held at idle part is = is
content-changed change all (one ∷ others) zero held at idle part is =
    let same : one ≡ held = cc in
    let rest : content others ≡ all =
    ap (λ (b : Bool). if b then one.sectors else content others)
    (sym (ap (λ (h : DriveHeld). is_working h.state) same ∙ idle)) ∙ is in
    by (change one).state (change one).sectors (content others)
    (subst (λ (h : DriveHeld). HasOf all (change h).sectors (change h).state) (sym same) part.has) rest
  where
    by : (state : DriveState) (sectors rest : List Stored) → HasOf all sectors state → rest ≡ all
        → (if is_working state then sectors else rest) ≡ all
    by Working sectors rest has same = has
    by Failed sectors rest has same = same
    by (Reviving next) sectors rest has same = same
content-changed change all (one ∷ others) (suc drive) held at idle part is =
    by (is_working one.state) is (content-changed change all others drive held at idle part)
  where
    by : (b : Bool) → (if b then one.sectors else content others) ≡ all
        → (content others ≡ all → content (drives_with_change change drive others) ≡ all)
        → (if b then one.sectors else content (drives_with_change change drive others)) ≡ all
    by true is rest = is
    by false is rest = rest is

alive-changed : (change : DriveHeld → DriveHeld) (drives : List DriveHeld) (drive : ℕ) (held : DriveHeld)
    → slice_get drives drive ≡ Some held → is_working held.state ≡ false → is_alive drives ≡ true
    → is_alive (drives_with_change change drive drives) ≡ true
alive-changed change [] drive held at idle alive = alive
alive-changed change (one ∷ others) zero held at idle alive =
    let same : one ≡ held = cc in
    let rest : is_alive others ≡ true =
    ap (λ (b : Bool). b || is_alive others) (sym (ap (λ (h : DriveHeld). is_working h.state) same ∙ idle)) ∙ alive in
    by (is_working (change one).state) (is_alive others) rest
  where
    by : (a b : Bool) → b ≡ true → (a || b) ≡ true
    by true b is = refl
    by false b is = is
alive-changed change (one ∷ others) (suc drive) held at idle alive =
    by (is_working one.state) alive (alive-changed change others drive held at idle)
  where
    by : (b : Bool) → (b || is_alive others) ≡ true
        → (is_alive others ≡ true → is_alive (drives_with_change change drive others) ≡ true)
        → (b || is_alive (drives_with_change change drive others)) ≡ true
    by true is rest = refl
    by false is rest = rest is

parts-changed : (change : DriveHeld → DriveHeld) (all : List Stored) (drives : List DriveHeld) (drive : ℕ)
    (held : DriveHeld) → slice_get drives drive ≡ Some held → Mirrors all (change held) → All (Mirrors all) drives
    → All (Mirrors all) (drives_with_change change drive drives)
parts-changed change all [] drive held at part parts = parts
parts-changed change all (one ∷ others) zero held at part parts =
    let same : one ≡ held = cc in
    All-cons (Mirrors all) (change one) others (subst (λ (h : DriveHeld). Mirrors all (change h)) (sym same) part)
    (All-tail (Mirrors all) one others parts)
parts-changed change all (one ∷ others) (suc drive) held at part parts =
    All-cons (Mirrors all) one (drives_with_change change drive others) (All-head (Mirrors all) one others parts)
    (parts-changed change all others drive held at part (All-tail (Mirrors all) one others parts))

-- the drives stay a mirror with the same content where one that didn't work changes to what has its part
pub mirror-changed : (change : DriveHeld → DriveHeld) (drives : List DriveHeld) (drive : ℕ) (held : DriveHeld)
    → slice_get drives drive ≡ Some held → is_working held.state ≡ false → Mirrors (content drives) (change held)
    → IsMirror drives
    → (content (drives_with_change change drive drives) ≡ content drives)
    × IsMirror (drives_with_change change drive drives)
mirror-changed change drives drive held at idle part mirror =
    let all = content drives in
    let now : content (drives_with_change change drive drives) ≡ all =
    content-changed change all drives drive held at idle part refl in (
      now,
      record {
        alive = alive-changed change drives drive held at idle mirror.alive;
        some = subst (λ (xs : List Stored). 1 ≤ length xs) (sym now) mirror.some;
        few = subst (λ (xs : List Stored). length xs ≤ 64) (sym now) mirror.few;
        parts = subst (λ (xs : List Stored). All (Mirrors xs) (drives_with_change change drive drives)) (sym now)
            (parts-changed change all drives drive held at part mirror.parts);
      },
    )

-- Copying

-- a drive has its part after one more sector was copied
part-copied : (all sectors : List Stored) (next : ℕ) → length sectors ≡ length all → HasOf all sectors (Reviving next)
    → Mirrors all (after_copy next (get_or all next blank) (record { state = Reviving next; sectors = sectors }))
part-copied all sectors next same has =
    record {
      count = length-set sectors next (get_or all next blank) ∙ same;
      has = by (next + 1 == length sectors) refl;
    }
  where
    more : take (next + 1) (slice_set sectors next (get_or all next blank)) ≡ take (next + 1) all
    more = take_more_set sectors next (get_or all next blank) (omega (arith, has.0, same))
        ∙ ap (λ (xs : List Stored). xs ++ get_or all next blank ∷ []) has.1
        ∙ sym (take_more all next blank has.0)

    by : (b : Bool) → (next + 1 == length sectors) ≡ b
        → HasOf all (slice_set sectors next (get_or all next blank)) (if b then Working else Reviving (next + 1))
    by true is =
        let last : next + 1 ≡ length sectors = eqb-true (next + 1) (length sectors) is in
        sym (take_all (next + 1) (slice_set sectors next (get_or all next blank))
        (omega (arith, last, length-set sectors next (get_or all next blank)))) ∙ more
        ∙ take_all (next + 1) all (omega (arith, last, same))
    by false is =
        let apart : next + 1 ≡ length sectors → ⊥ = eqb-false (next + 1) (length sectors) is in
        (omega (arith, apart, same, has.0), more)

pub part-at : (all : List Stored) (drives : List DriveHeld) (drive : ℕ) (held : DriveHeld)
    → slice_get drives drive ≡ Some held → All (Mirrors all) drives → Mirrors all held
part-at all drives drive held at parts =
    subst (Mirrors all) (get_or_from_slice_get drives drive held held at)
    (parts drive held (slice_get_within drives drive held at))

-- what a copied sector leaves: the drives that the definition says, with the same content, and still a mirror
pub record IsCopied (now : List DriveHeld) (drive : ℕ) (after : List DriveHeld) : Type 0 where
  pub drives : after ≡ drives_after_copy drive now
  pub kept : content after ≡ content now
  pub mirror : IsMirror after

mirror-copied : (now : List DriveHeld) (drive next : ℕ) (stored : Stored) → Reviving next ≡ state_of now drive
    → slice_get (content now) next ≡ Some stored → IsMirror now
    → IsCopied now drive (drives_with_change (after_copy next stored) drive now)
mirror-copied now drive next stored reviving got mirror = by (slice_get now drive) refl reviving
  where
    same : get_or (content now) next blank ≡ stored
    same = get_or_from_slice_get (content now) next stored blank got

    by : (found : Option DriveHeld) → slice_get now drive ≡ found → Reviving next ≡ state_in found
        → IsCopied now drive (drives_with_change (after_copy next stored) drive now)
    by None at is = absurd (cc)
    by (Some held) at is =
        let part : Mirrors (content now) held = part-at (content now) now drive held at mirror.parts in
        let has : HasOf (content now) held.sectors (Reviving next) =
        subst (HasOf (content now) held.sectors) (sym is) part.has in
        let holds : Mirrors (content now) (after_copy next stored held) =
        subst (λ (x : Stored). Mirrors (content now) (after_copy next x held)) same
        (part-copied (content now) held.sectors next part.count has) in
        let left = mirror-changed (after_copy next stored) now drive held at (ap is_working (sym is)) holds mirror in
        record {
          drives = sym (ap (λ (s : DriveState). copied_by s drive now) (sym reviving)
              ∙ ap (λ (x : Stored). drives_with_change (after_copy next x) drive now) same);
          kept = left.0;
          mirror = left.1;
        }

first-changed : (change : DriveHeld → DriveHeld) (first : DriveHeld) (second : Option DriveHeld)
    → drives_of (change first) second ≡ drives_with_change change 0 (drives_of first second)
first-changed change first None = refl
first-changed change first (Some second) = refl

pub first-copied : (now : List DriveHeld) (drive next : ℕ) (stored : Stored) (sectors : List Stored) (first : DriveHeld)
    (second : Option DriveHeld) (after : DriveHeld) → drives_of first second ≡ now → drive ≡ 0
    → Reviving next ≡ state_of now drive
    → sectors ≡ content now → slice_get sectors next ≡ Some stored → after ≡ after_copy next stored first
    → IsMirror now → IsCopied now drive (drives_of after second)
first-copied now drive next stored sectors first second after view place reviving whole got is mirror =
    subst (IsCopied now drive)
    (ap₂ (λ (d : ℕ) (ds : List DriveHeld). drives_with_change (after_copy next stored) d ds) place (sym view)
    ∙ sym (first-changed (after_copy next stored) first second) ∙ ap (λ (h : DriveHeld). drives_of h second) (sym is))
    (mirror-copied now drive next stored reviving (ap (λ (xs : List Stored). slice_get xs next) (sym whole) ∙ got)
    mirror)

pub second-copied : (now : List DriveHeld) (drive next : ℕ) (stored : Stored) (sectors : List Stored)
    (first second after : DriveHeld) → first ∷ second ∷ [] ≡ now → drive ≡ 1
    → Reviving next ≡ state_of now drive
    → sectors ≡ content now → slice_get sectors next ≡ Some stored → after ≡ after_copy next stored second
    → IsMirror now → IsCopied now drive (first ∷ after ∷ [])
second-copied now drive next stored sectors first second after view place reviving whole got is mirror =
    subst (IsCopied now drive)
    (ap₂ (λ (d : ℕ) (ds : List DriveHeld). drives_with_change (after_copy next stored) d ds) place (sym view)
    ∙ ap (λ (h : DriveHeld). first ∷ h ∷ []) (sym is))
    (mirror-copied now drive next stored reviving (ap (λ (xs : List Stored). slice_get xs next) (sym whole) ∙ got)
    mirror)
