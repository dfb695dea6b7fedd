-- Walks one after the other, and the ways that an entry leads.
use Rattle.std.proofs.Common.{◌≡◌, inl, ℕ, true, false, Bool, List, [], ◌∷◌, ◌++◌, map, Option, Some, None, refl, ap}
use Rattle.std.proofs.Common.{subst, sym}
use Rattle.std.specs.Option.{option_map}
use Rattle.tal_tree.specs.declared.program.Program.{Program}
use Rattle.tal_tree.specs.declared.statement.Statement.{Statement}
use Rattle.tal_tree.specs.declared.statement.What.{What, What-F, out-What}
use Rattle.process_semantics.specs.State.{Entry, Run, Test, Last}
use Rattle.path_semantics.specs.declared.reason.Reason.{Reason}
use Rattle.process_semantics.specs.Rests.{entry_number}
use Rattle.path_semantics.specs.declared.dues.Dues.{Dues}
use Rattle.path_semantics.specs.Dues.{after_entry}
use Rattle.path_semantics.specs.Place.{Place, Stand, next_in, ways_of, rounds_of, ways, settled, stands_after}
use Rattle.path_semantics.specs.Place.{first_stand}
use Rattle.gd_words.specs.Members.{IsAmong}
use Rattle.path_semantics.specs.Path.{number_at, Steps, Walks, Leads, IsPath}
use Rattle.path_semantics.specs.Break.{Breaks, breaks_entry, breaks_at}
use Rattle.path_semantics.specs.Accepted.{IsAccepted}

-- a walk that goes on from where another comes to
pub walks-append : (program : Program) (front path : List ℕ) (here mid there : Stand) → Walks program here front mid
    → Walks program mid path there
    → Walks program here (front ++ path) there
walks-append program [] path here mid there same walk =
    subst (λ (s : Stand). Walks program s path there) (sym same) walk
walks-append program (number ∷ front) path here mid there first walk =
    (first.0, first.1, walks-append program front path first.0 mid there first.2 walk)

-- where the front of a walk comes to
pub walks-split : (program : Program) (front path : List ℕ) (here there : Stand)
    → Walks program here (front ++ path) there
    → (mid : Stand) × Walks program here front mid × Walks program mid path there
walks-split program [] path here there walk = (here, refl, walk)
walks-split program (number ∷ front) path here there walk =
    let found = walks-split program front path walk.0 there walk.2 in (found.0, (walk.0, walk.1, found.1), found.2)

-- one step more
pub leads-more : (program : Program) (path : List ℕ) (here there : Stand) (number : ℕ) → Leads program path here
    → Steps program here number there
    → Leads program (path ++ number ∷ []) there
leads-more program path here there number walk step =
    walks-append program path (number ∷ []) (first_stand program) here there walk (there, step, refl)

pub front-is-path : (program : Program) (front path : List ℕ) → IsPath program (front ++ path) → IsPath program front
front-is-path program front path (there, walk) =
    let found = walks-split program front path (first_stand program) there walk in (found.0, found.1)

-- there is a first of these
record HasFirst {A : Type 0} (xs : List A) : Type 0 where
  one : A
  rest : List A
  split : xs ≡ one ∷ rest

first-way : (program : Program) (statement : Statement) (rest : List Entry) (callers : Place)
    (what : What-F What Statement)
    → HasFirst (ways_of program statement rest callers what)
first-way program statement rest callers (What-F.If test first second) = record { one = _; rest = _; split = refl }
first-way program statement rest callers (What-F.While test body) = record { one = _; rest = _; split = refl }
first-way program statement rest callers (What-F.DoUntil body test) = record { one = _; rest = _; split = refl }
first-way program statement rest callers (What-F.For variable from to down step body last) =
    record { one = _; rest = _; split = refl }
first-way program statement rest callers (What-F.AssignCall to procedure arguments) =
    record { one = _; rest = _; split = refl }
first-way program statement rest callers (What-F.Call procedure arguments) = record { one = _; rest = _; split = refl }
first-way program statement rest callers (What-F.Return value) = record { one = _; rest = _; split = refl }
first-way program statement rest callers What-F.Stop = record { one = _; rest = _; split = refl }
first-way program statement rest callers _ = record { one = rest ∷ callers; rest = []; split = refl }

first-round : (statement : Statement) (rest : List Entry) (callers : Place) (what : What-F What Statement)
    → HasFirst (rounds_of statement rest callers what)
first-round statement rest callers (What-F.For variable from to down step body last) = record {
  one = _;
  rest = _;
  split = refl;
}
first-round statement rest callers _ = record { one = rest ∷ callers; rest = []; split = refl }

first-of-ways : (program : Program) (entry : Entry) (rest : List Entry) (callers : Place)
    → HasFirst (ways program entry rest callers)
first-of-ways program (Run statement) rest callers = first-way program statement rest callers (out-What statement.what)
first-of-ways program (Test statement) rest callers = first-round statement rest callers (out-What statement.what)
first-of-ways program (Last statement) rest callers = record { one = rest ∷ callers; rest = []; split = refl }

-- where there is a next entry it leads somewhere
goes-on : (program : Program) (dues : Dues) (place : Place) (entry : Entry) → next_in place ≡ Some entry
    → (there : Stand) × IsAmong there (stands_after program dues place)
goes-on program dues [] entry next = absurd (cc)
goes-on program dues ([] ∷ callers) entry next = absurd (cc)
goes-on program dues ((first ∷ rest) ∷ callers) entry next =
    let found = first-of-ways program first rest callers in (
      settled (after_entry dues first) found.one,
      subst (λ (places : List Place). IsAmong (settled (after_entry dues first) found.one)
          (map (settled (after_entry dues first)) places)) (sym found.split) (inl refl),
    )

pub numbered : (f : Entry → ℕ) (entry : Option Entry) (number : ℕ) → option_map f entry ≡ Some number
    → (next : Entry) × (entry ≡ Some next)
numbered f None number has = absurd (cc)
numbered f (Some next) number has = (next, refl)

pub step-on : (program : Program) (here : Stand) (number : ℕ) → number_at here ≡ Some number
    → (there : Stand) × Steps program here number there
step-on program here number has =
    let next = numbered _ (next_in here.place) number has in
    let found = goes-on program here.dues here.place next.0 next.1 in
    (found.0, record { next = has; leads = found.1 })

pub break-is-path : (program : Program) (path : List ℕ) (reason : Reason) → Breaks program path reason
    → IsPath program path
break-is-path program path reason broken =
    let step = step-on program broken.stand broken.number broken.next in
    subst (λ (whole : List ℕ). IsPath program whole) (sym broken.split)
    (step.0, leads-more program broken.front broken.stand step.0 broken.number broken.leads step.1)

not-true : (b : Bool) → (b ≡ true → ⊥) → b ≡ false
not-true true never = absurd (never refl)
not-true false never = refl

next-number : (f : Entry → ℕ) (entry : Option Entry) (next : Entry) → entry ≡ Some next
    → option_map f entry ≡ Some (f next)
next-number f entry next is = ap (option_map f) is

breaking-entry : (program : Program) (reason : Reason) (dues : Dues) (entry : Option Entry)
    → breaks_entry program reason dues entry ≡ true → (next : Entry) × (entry ≡ Some next)
breaking-entry program reason dues None is = absurd (cc)
breaking-entry program reason dues (Some next) is = (next, refl)

-- a path that leads where the next entry breaks goes on to a path that breaks
pub breaks-on : (program : Program) (path : List ℕ) (stand : Stand) (reason : Reason) → Leads program path stand
    → breaks_at program reason stand ≡ true
    → (longer : List ℕ) × Breaks program longer reason
breaks-on program path stand reason walk is =
    let found = breaking-entry program reason stand.dues (next_in stand.place) is in (
      path ++ entry_number found.0 ∷ [],
      record {
        front = path;
        number = entry_number found.0;
        stand = stand;
        split = refl;
        leads = walk;
        next = next-number entry_number (next_in stand.place) found.0 found.1;
        breaks = is;
      },
    )

pub accepted-unbroken : (program : Program) (path : List ℕ) (stand : Stand) (reason : Reason) → IsAccepted program
    → Leads program path stand
    → breaks_at program reason stand ≡ false
accepted-unbroken program path stand reason accepted walk =
    not-true (breaks_at program reason stand)
    (λ is. let found = breaks-on program path stand reason walk is in accepted.unbroken found.0 reason found.1)
