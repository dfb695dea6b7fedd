-- What is told of stops and marks is what there is.
use Rattle.std.proofs.Common.{◌≡◌, ◌↔◌, inl, inr, ℕ, zero, suc, ◌+◌, ◌<◌, ◌≤◌, Bool, true, false, List, [], ◌∷◌}
use Rattle.std.proofs.Common.{Some, slice_get, refl, ap, ap₂, subst, ◌∙◌, arith, if◌then◌else◌}
use Rattle.std.proofs.lemmas.Bool.Decides.{eqb_tells}
use Rattle.gd_words.specs.Members.{IsAmong}
use Rattle.gd_words.proofs.Among.{among-left, among-right, among-either}
use Rattle.world_semantics.specs.World as world
use Rattle.machine_views.specs.declared.views.DownView.{DownView}
use Rattle.machine_views.specs.Orders.{IsRising}
use Rattle.machine_views.specs.Views.{each_at, each_number, down_of, downs_by, downs_in}
use Rattle.site_machine.specs.Stopped.{stopped_from}

-- Stops

stopped-told : (first : ℕ) (stopped : List Bool) (k : ℕ) → slice_get stopped k ≡ Some true
    → IsAmong (first + k) (stopped_from first stopped)
stopped-told first [] k there = absurd (cc)
stopped-told first (true ∷ rest) zero there = inl (omega arith)
stopped-told first (false ∷ rest) zero there = absurd (cc)
stopped-told first (true ∷ rest) (suc k) there =
    inr (subst (λ n. IsAmong n (stopped_from (first + 1) rest)) (omega arith)
    (stopped-told (first + 1) rest k there))
stopped-told first (false ∷ rest) (suc k) there =
    subst (λ n. IsAmong n (stopped_from (first + 1) rest)) (omega arith) (stopped-told (first + 1) rest k there)

-- a processor that has stopped, where the first has this number
abbrev StoppedAfter : ℕ → List Bool → ℕ → Type 0
StoppedAfter first stopped processor = (k : ℕ) × (processor ≡ first + k) × (slice_get stopped k ≡ Some true)

stopped-next : (first : ℕ) (one : Bool) (rest : List Bool) (processor : ℕ) → StoppedAfter (first + 1) rest processor
    → StoppedAfter first (one ∷ rest) processor
stopped-next first one rest processor (k, is, there) = (suc k, omega (arith, is), there)

told-stopped : (first : ℕ) (stopped : List Bool) (processor : ℕ) → IsAmong processor (stopped_from first stopped)
    → StoppedAfter first stopped processor
told-stopped first [] processor among = absurd among
told-stopped first (true ∷ rest) processor (inl same) = (zero, omega (arith, same), refl)
told-stopped first (true ∷ rest) processor (inr among) =
    stopped-next first true rest processor (told-stopped (first + 1) rest processor among)
told-stopped first (false ∷ rest) processor among =
    stopped-next first false rest processor (told-stopped (first + 1) rest processor among)

pub stopped-is-told : (stopped : List Bool) (processor : ℕ)
    → (IsAmong processor (stopped_from 0 stopped) ↔ slice_get stopped processor ≡ Some true)
stopped-is-told stopped processor = (λ among. there (told-stopped 0 stopped processor among), told)
  where
    there : StoppedAfter 0 stopped processor → slice_get stopped processor ≡ Some true
    there (k, is, stands) = let same : processor ≡ k = omega (arith, is) in ap (slice_get stopped) same ∙ stands

    told : slice_get stopped processor ≡ Some true → IsAmong processor (stopped_from 0 stopped)
    told stands =
        let first : 0 + processor ≡ processor = omega arith in
        subst (λ n. IsAmong n (stopped_from 0 stopped)) first (stopped-told 0 stopped processor stands)

stopped-rising : (first : ℕ) (stopped : List Bool) → IsRising (stopped_from first stopped)
stopped-rising first [] = tt
stopped-rising first (true ∷ rest) = (above, stopped-rising (first + 1) rest)
  where
    above : (later : ℕ) → IsAmong later (stopped_from (first + 1) rest) → first < later
    above later among = let (k, is, there) = told-stopped (first + 1) rest later among in omega (arith, is)
stopped-rising first (false ∷ rest) = stopped-rising (first + 1) rest

pub stops-rise : (stopped : List Bool) → IsRising (stopped_from 0 stopped)
stops-rise stopped = stopped-rising 0 stopped

-- Numbers

number-among : {A : Type 0} (give : ℕ → List A) (x : A) (first count number : ℕ) → first ≤ number
    → number < first + count → IsAmong x (give number)
    → IsAmong x (each_number give first count)
number-among give x first zero number from below among = absurd (omega (arith, from, below))
number-among give x first (suc count) number from below among =
    elim (eqb_tells number first) [
      | inl same ↦ among-left x (give first) (each_number give (first + 1) count)
          (subst (λ n. IsAmong x (give n)) same.1 among)
      | inr other ↦
          among-right x (give first) (each_number give (first + 1) count)
          (number-among give x (first + 1) count number (omega (arith, from, other.1)) (omega (arith, below)) among)
    ]

among-number : {A : Type 0} (give : ℕ → List A) (x : A) (first count : ℕ) → IsAmong x (each_number give first count)
    → (number : ℕ) × (number < first + count) × IsAmong x (give number)
among-number give x first zero among = absurd among
among-number give x first (suc count) among =
    elim (among-either x (give first) (each_number give (first + 1) count) among) [
      | inl here ↦ (first, omega arith, here)
      | inr later ↦
          let (number, below, there) = among-number give x (first + 1) count later in
          (number, omega (arith, below), there)
    ]

-- Marks

abbrev mark : ℕ → ℕ → DownView
mark node processor = record { node = node; down = processor }

mark-told : (downs : List world.Down) (node processor : ℕ) → world.has_marked downs node processor ≡ true
    → IsAmong (mark node processor) (down_of downs node processor)
mark-told downs node processor is = rw is (inl refl)

told-mark : (downs : List world.Down) (node processor : ℕ) (one : DownView) → IsAmong one (down_of downs node processor)
    → (one ≡ mark node processor) × (world.has_marked downs node processor ≡ true)
told-mark downs node processor one among = found (world.has_marked downs node processor) refl among
  where
    found : (is : Bool) → world.has_marked downs node processor ≡ is
        → IsAmong one (if is then mark node processor ∷ [] else [])
        → (one ≡ mark node processor) × (world.has_marked downs node processor ≡ true)
    found true is (inl same) = (same, is)
    found true is (inr none) = absurd none
    found false is none = absurd none

-- a mark that stands, of a processor below 16 by a node below 17
abbrev Stands : List world.Down → ℕ → ℕ → Type 0
Stands downs node processor = (node ≤ 16) × (processor < 16) × (world.has_marked downs node processor ≡ true)

told-stands : (downs : List world.Down) (node processor : ℕ) → IsAmong (mark node processor) (downs_in downs)
    → Stands downs node processor
told-stands downs node processor among =
    let (by, by_few, there) = among-number (downs_by downs) (mark node processor) 0 17 among in
    let (of, of_few, here) = among-number (down_of downs by) (mark node processor) 0 16 there in
    let (same, is) = told-mark downs by of (mark node processor) here in
    let node_is : node ≡ by = ap (λ (one : DownView). one.node) same in
    let down_is : processor ≡ of = ap (λ (one : DownView). one.down) same in
    (omega (arith, by_few, node_is), omega (arith, of_few, down_is), ap₂ (world.has_marked downs) node_is down_is ∙ is)

stands-told : (downs : List world.Down) (node processor : ℕ) → Stands downs node processor
    → IsAmong (mark node processor) (downs_in downs)
stands-told downs node processor (node_few, down_few, is) =
    number-among (downs_by downs) (mark node processor) 0 17 node (omega arith) (omega (arith, node_few))
    (number-among (down_of downs node) (mark node processor) 0 16 processor (omega arith) (omega (arith, down_few))
    (mark-told downs node processor is))

pub mark-is-told : (downs : List world.Down) (node processor : ℕ)
    → (IsAmong (record { node = node; down = processor }) (downs_in downs) ↔ (node ≤ 16) × (processor < 16)
    × (world.has_marked downs node processor ≡ true))
mark-is-told downs node processor = (told-stands downs node processor, stands-told downs node processor)
