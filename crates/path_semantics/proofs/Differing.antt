-- The stands to which an entry leads have different numbers, or are the same stand.
use Rattle.std.proofs.Common.{◌≡◌, ◌⊎◌, inl, inr, ℕ, ◌+◌, ◌≤◌, arith, List, [], ◌∷◌, ◌++◌, drop, Option, Some, flat_map}
use Rattle.std.proofs.Common.{refl, ap, subst, sym, ◌∙◌, append_assoc}
use Rattle.std.specs.Option.{option_map}
use Rattle.tal_tree.specs.declared.program.Program.{Program}
use Rattle.tal_tree.specs.declared.program.Procedure.{Procedure}
use Rattle.tal_tree.specs.declared.statement.Statement.{Statement}
use Rattle.tal_tree.specs.declared.statement.What.{What, What-F, out-What}
use Rattle.process_semantics.specs.State.{Entry, Run, Test, Last, runs_of, first_of}
use Rattle.process_semantics.specs.Rests.{entry_number}
use Rattle.path_semantics.specs.declared.dues.Dues.{Dues}
use Rattle.path_semantics.specs.Dues.{with_changed, changed_by_return, after_entry}
use Rattle.tal_tree.specs.Statements.{last_of, numbers_of}
use Rattle.path_semantics.specs.Place.{Place, Stand, next_in, body_of, ways_of, rounds_of, ways, stand_at, settled}
use Rattle.path_semantics.specs.Place.{stands_after, successors, first_stand}
use Rattle.gd_words.specs.Members.{AreDistinct, IsAmong}
use Rattle.path_semantics.specs.Path.{number_at, Walks, Leads}
use Rattle.tal_tree.specs.Ordered.{IsOrdered}
use Rattle.gd_words.proofs.Distinct.{distinct-apart, given-apart}
use Rattle.path_semantics.proofs.Kept.{one-mapped, kept-led, kept-after}
use Rattle.path_semantics.proofs.Levels.{inside, inside_test, numbers_at, AreLevels, number-own, run-numbers}
use Rattle.path_semantics.proofs.Levels.{numbers_of_procedure}
use Rattle.path_semantics.proofs.LevelsKept.{if-first, if-second, while-body, do-body, for-body}
use Rattle.path_semantics.proofs.LevelsKept.{levels-kept}
use Rattle.gd_words.proofs.Among.{among-left, among-right, among-either}
use Rattle.path_semantics.proofs.Walks.{numbered}

abbrev all_entries : Place → List Entry
all_entries place = flat_map (λ (frame : List Entry). frame) place

drop-one : (entry : Entry) (frame : List Entry) → IsAmong entry (drop 1 frame) → IsAmong entry frame
drop-one entry [] among = among
drop-one entry (first ∷ rest) among = inr among

-- the next entry after some is one of the frame or of a caller's
next-later : (rest : List Entry) (callers : Place) (dues : Dues) (next : Entry)
    → next_in (stand_at rest callers dues).place ≡ Some next
    → IsAmong next rest ⊎ IsAmong next (all_entries callers)
next-later (entry ∷ rest) callers dues next is = inl (inl (let same : next ≡ entry = cc in same))
next-later [] [] dues next is = absurd (cc)
next-later [] (caller ∷ callers) dues next is =
    inr (elim (next-later (drop 1 caller) callers (with_changed (changed_by_return (first_of caller)) dues) next is) [
      | inl in_caller ↦ among-left next caller (all_entries callers) (drop-one next caller in_caller)
      | inr above ↦ among-right next caller (all_entries callers) above
    ])

-- an entry above is of a later procedure
above-number : (program : Program) (low : ℕ) (callers : Place) (entry : Entry) → AreLevels program low callers
    → IsAmong entry (all_entries callers)
    → (k : ℕ) × (low ≤ k) × IsAmong (entry_number entry) (numbers_of_procedure program k)
above-number program low [] entry levels among = absurd among
above-number program low (frame ∷ callers) entry levels among =
    elim (among-either entry frame (all_entries callers) among) [
      | inl in_frame ↦ (
        levels.0,
        levels.1,
        (levels.2.belong entry in_frame).numbers (entry_number entry)
            (number-own entry),
      )
      | inr above ↦ higher (above-number program (levels.0 + 1) callers entry levels.3 above)
    ]
  where
    higher : (k : ℕ) × (levels.0 + 1 ≤ k) × IsAmong (entry_number entry) (numbers_of_procedure program k)
        → (k : ℕ) × (low ≤ k) × IsAmong (entry_number entry) (numbers_of_procedure program k)
    higher (k, above, number) = let least : low ≤ levels.0 = levels.1 in (k, omega arith, number)

-- what comes after an entry has none of its numbers
next-apart : (program : Program) → IsOrdered program
    → (entry : Entry) (rest : List Entry) (callers : Place) (dues : Dues) (next : Entry)
    → AreLevels program 0 ((entry ∷ rest) ∷ callers) → next_in (stand_at rest callers dues).place ≡ Some next
    → IsAmong (entry_number next) (numbers_at entry) → ⊥
next-apart program ordered entry rest callers dues next levels is inner =
    elim (next-later rest callers dues next is) [
      | inl later ↦ levels.2.apart.1 next later inner
      | inr above ↦ apart-above (above-number program (levels.0 + 1) callers next levels.3 above)
    ]
  where
    apart-above : (k : ℕ) × (levels.0 + 1 ≤ k) × IsAmong (entry_number next) (numbers_of_procedure program k) → ⊥
    apart-above (k, above, number) =
        given-apart (λ (procedure : Procedure). numbers_of procedure.body) program.procedures levels.0 k
        (entry_number next) ordered.numbers (omega arith)
        ((levels.2.belong entry (inl refl)).numbers (entry_number next) inner) number

-- what tells the two ways of a test apart
record AreBranches (entry : Entry) (rest : List Entry) (callers : Place) (dues : Dues) (first second : List Entry) :
    Type 0 where
  in_first : (one : Entry) (more : List Entry) → first ≡ one ∷ more → IsAmong (entry_number one) (numbers_at entry)
  in_second : (one : Entry) (more : List Entry) → second ≡ one ∷ more → IsAmong (entry_number one) (numbers_at entry)
  differ : (one other : Entry) (more others : List Entry) → first ≡ one ∷ more → second ≡ other ∷ others
      → entry_number one ≡ entry_number other → ⊥
  after : (next : Entry) → next_in (stand_at rest callers dues).place ≡ Some next
      → IsAmong (entry_number next) (numbers_at entry) → ⊥

number-same : (one next : Entry) (found : Option Entry) → option_map entry_number found ≡ Some (entry_number one)
    → found ≡ Some next → entry_number one ≡ entry_number next
number-same one next found has is = cc (ap (option_map entry_number) is)

branches-differ : (entry : Entry) (rest : List Entry) (callers : Place) (dues : Dues) (first second : List Entry)
    → AreBranches entry rest callers dues first second
    → number_at (stand_at (first ++ rest) callers dues) ≡ number_at (stand_at (second ++ rest) callers dues)
    → stand_at (first ++ rest) callers dues ≡ stand_at (second ++ rest) callers dues
branches-differ entry rest callers dues [] [] are same = refl
branches-differ entry rest callers dues (one ∷ more) (other ∷ others) are same =
    absurd (are.differ one other more others refl refl
    (let equal : entry_number one ≡ entry_number other = cc in equal))
branches-differ entry rest callers dues (one ∷ more) [] are same =
    let found = numbered entry_number (next_in (stand_at rest callers dues).place) (entry_number one) (sym same) in
    let equal : entry_number one ≡ entry_number found.0 =
    number-same one found.0 (next_in (stand_at rest callers dues).place) (sym same) found.1 in
    absurd (are.after found.0 found.1 (subst (λ (n : ℕ). IsAmong n (numbers_at entry)) equal
    (are.in_first one more refl)))
branches-differ entry rest callers dues [] (other ∷ others) are same =
    let found = numbered entry_number (next_in (stand_at rest callers dues).place) (entry_number other) same in
    let equal : entry_number other ≡ entry_number found.0 =
    number-same other found.0 (next_in (stand_at rest callers dues).place) same found.1 in
    absurd (are.after found.0 found.1 (subst (λ (n : ℕ). IsAmong n (numbers_at entry)) equal
    (are.in_second other others refl)))

runs-first : (part : List Statement) (one : Entry) (more : List Entry) → runs_of part ≡ one ∷ more
    → IsAmong (entry_number one) (numbers_of part)
runs-first part one more is =
    run-numbers part one (entry_number one) (subst (IsAmong one) (sym is) (inl refl)) (number-own one)

first-either : (entries : List Entry) (entry : Entry) (others : List Entry) (one : Entry) (more : List Entry)
    → entries ++ entry ∷ others ≡ one ∷ more → IsAmong one entries ⊎ (one ≡ entry)
first-either [] entry others one more is = inr (let same : one ≡ entry = cc in same)
first-either (first ∷ rest) entry others one more is = inl (inl (let same : one ≡ first = cc in same))

-- the first entry of a body that others follow
run-first-of : (part : List Statement) (entry : Entry) (others : List Entry) (one : Entry) (more : List Entry)
    → runs_of part ++ entry ∷ others ≡ one ∷ more
    → IsAmong (entry_number one) (numbers_of part) ⊎ (one ≡ entry)
run-first-of part entry others one more is = elim (first-either (runs_of part) entry others one more is) [
  | inl among ↦ inl (run-numbers part one (entry_number one) among (number-own one))
  | inr same ↦ inr same
]

abbrev Differ : Dues → Place → Place → Type 0
Differ dues one other =
    number_at (settled dues one) ≡ number_at (settled dues other) → settled dues one ≡ settled dues other

only-differ : (dues : Dues) (one other way : Place) → IsAmong one (way ∷ []) → IsAmong other (way ∷ [])
    → Differ dues one other
only-differ dues one other way (inl same) (inl equal) number = ap (settled dues) (same ∙ sym equal)
only-differ dues one other way (inl same) (inr among) number = absurd among
only-differ dues one other way (inr among) (inl equal) number = absurd among
only-differ dues one other way (inr among) (inr also) number = absurd among

both-differ : (dues : Dues) (one other first second : Place) → Differ dues first second
    → IsAmong one (first ∷ second ∷ []) → IsAmong other (first ∷ second ∷ [])
    → Differ dues one other
both-differ dues one other first second differ (inl same) (inl equal) number = ap (settled dues) (same ∙ sym equal)
both-differ dues one other first second differ (inl same) (inr (inl equal)) number =
    ap (settled dues) same ∙ differ (ap (λ (p : Place). number_at (settled dues p)) (sym same) ∙ number
    ∙ ap (λ (p : Place). number_at (settled dues p)) equal)
    ∙ ap (settled dues) (sym equal)
both-differ dues one other first second differ (inl same) (inr (inr among)) number = absurd among
both-differ dues one other first second differ (inr (inl same)) (inl equal) number =
    ap (settled dues) same
    ∙ sym (differ (ap (λ (p : Place). number_at (settled dues p)) (sym equal) ∙ sym number
    ∙ ap (λ (p : Place). number_at (settled dues p)) same))
    ∙ ap (settled dues) (sym equal)
both-differ dues one other first second differ (inr (inl same)) (inr (inl equal)) number =
    ap (settled dues) (same ∙ sym equal)
both-differ dues one other first second differ (inr (inl same)) (inr (inr among)) number = absurd among
both-differ dues one other first second differ (inr (inr among)) also number = absurd among

-- a body that comes again, or what comes after
round-differ : (entry : Entry) (rest : List Entry) (callers : Place) (dues : Dues) (body : List Statement)
    (again : Entry) (more : List Entry)
    → ((n : ℕ) → IsAmong n (numbers_of body) → IsAmong n (numbers_at entry))
    → IsAmong (entry_number again) (numbers_at entry)
    → ((next : Entry) → next_in (stand_at rest callers dues).place ≡ Some next
    → IsAmong (entry_number next) (numbers_at entry) → ⊥)
    → Differ dues ((runs_of body ++ again ∷ (more ++ rest)) ∷ callers) (rest ∷ callers)
round-differ entry rest callers dues body again more part own after same =
    let regroup : (runs_of body ++ again ∷ more) ++ rest ≡ runs_of body ++ again ∷ (more ++ rest) =
    append_assoc (runs_of body) (again ∷ more) rest in
    ap (λ (frame : List Entry). stand_at frame callers dues) (sym regroup)
    ∙ branches-differ entry rest callers dues (runs_of body ++ again ∷ more) [] (record {
      in_first = λ e later begins. from-body e later (run-first-of body again more e later begins);
      in_second = λ e later begins. absurd (cc);
      differ = λ e f later others begins ends equal. absurd (cc);
      after = after;
    }) (ap (λ (frame : List Entry). number_at (stand_at frame callers dues)) regroup ∙ same)
  where
    from-body : (e : Entry) (later : List Entry) → IsAmong (entry_number e) (numbers_of body) ⊎ (e ≡ again)
        → IsAmong (entry_number e) (numbers_at entry)
    from-body e later (inl inner) = part (entry_number e) inner
    from-body e later (inr is) = subst (λ (f : Entry). IsAmong (entry_number f) (numbers_at entry)) (sym is) own

statement-differ : (program : Program) → IsOrdered program
    → (self : Statement) (rest : List Entry) (callers : Place) (dues : Dues) (one other : Place)
    (what : What-F What Statement) → out-What self.what ≡ what → AreLevels program 0 ((Run self ∷ rest) ∷ callers)
    → IsAmong one (ways_of program self rest callers what) → IsAmong other (ways_of program self rest callers what)
    → Differ dues one other
statement-differ program ordered self rest callers dues one other (What-F.If test first second) is levels among also =
    let distinct = levels.2.apart.0 in
    let parts : AreDistinct (numbers_of first ++ numbers_of second) =
    (subst AreDistinct (ap (inside self.number) is) distinct).1 in
    let in_first = if-first self test first second is distinct in
    let in_second = if-second self test first second is distinct in
    both-differ dues one other ((runs_of first ++ rest) ∷ callers) ((runs_of second ++ rest) ∷ callers)
    (branches-differ (Run self) rest callers dues (runs_of first) (runs_of second) (record {
      in_first = λ e more begins. in_first.numbers (entry_number e) (runs-first first e more begins);
      in_second = λ e more begins. in_second.numbers (entry_number e) (runs-first second e more begins);
      differ = λ e f more others begins ends equal.
          distinct-apart (numbers_of first) (numbers_of second) parts (entry_number e) (runs-first first e more begins)
          (subst (λ (n : ℕ). IsAmong n (numbers_of second)) (sym equal) (runs-first second f others ends));
      after = λ next later inner. next-apart program ordered (Run self) rest callers dues next levels later inner;
    })) among also
statement-differ program ordered self rest callers dues one other (What-F.While test body) is levels among also =
    let part = while-body self test body is levels.2.apart.0 in
    both-differ dues one other ((runs_of body ++ Run self ∷ rest) ∷ callers) (rest ∷ callers)
    (round-differ (Run self) rest callers dues body (Run self) [] (λ n inner. part.numbers n inner)
    (number-own (Run self))
    (λ next later inner. next-apart program ordered (Run self) rest callers dues next levels later inner)) among also
statement-differ program ordered self rest callers dues one other (What-F.DoUntil body test) is levels among also =
    let part = do-body self body test is levels.2.apart.0 in
    let again : Differ dues ((runs_of body ++ Run self ∷ rest) ∷ callers) (rest ∷ callers) =
    round-differ (Run self) rest callers dues body (Run self) [] (λ n inner. part.numbers n inner)
    (number-own (Run self))
    (λ next later inner. next-apart program ordered (Run self) rest callers dues next levels later inner) in
    both-differ dues one other (rest ∷ callers) ((runs_of body ++ Run self ∷ rest) ∷ callers)
    (λ same. sym (again (sym same))) among also
statement-differ program ordered self rest callers dues one other (What-F.For variable from to down step body last) is
    levels
    among also =
    only-differ dues one other ((Test self ∷ rest) ∷ callers) among also
statement-differ program ordered self rest callers dues one other (What-F.AssignCall to procedure arguments) is levels
    among also =
    only-differ dues one other (body_of program procedure ∷ (Run self ∷ rest) ∷ callers) among also
statement-differ program ordered self rest callers dues one other (What-F.Call procedure arguments) is levels among
    also =
    only-differ dues one other (body_of program procedure ∷ (Run self ∷ rest) ∷ callers) among also
statement-differ program ordered self rest callers dues one other (What-F.Return value) is levels among also =
    only-differ dues one other ([] ∷ callers) among also
statement-differ program ordered self rest callers dues one other What-F.Stop is levels among also =
    only-differ dues one other [] among also
statement-differ program ordered self rest callers dues one other _ is levels among also =
    only-differ dues one other (rest ∷ callers) among also

test-differ : (program : Program) → IsOrdered program
    → (self : Statement) (rest : List Entry) (callers : Place) (dues : Dues) (one other : Place)
    (what : What-F What Statement) → out-What self.what ≡ what → AreLevels program 0 ((Test self ∷ rest) ∷ callers)
    → IsAmong one (rounds_of self rest callers what) → IsAmong other (rounds_of self rest callers what)
    → Differ dues one other
test-differ program ordered self rest callers dues one other (What-F.For variable from to down step body last) is
    levels among
    also =
    let part = for-body self variable from to down step body last is levels.2.apart.0 in
    both-differ dues one other ((runs_of body ++ Last self ∷ Test self ∷ rest) ∷ callers) (rest ∷ callers)
    (round-differ (Test self) rest callers dues body (Last self) (Test self ∷ []) (λ n inner. part.numbers n inner)
    (subst (IsAmong (last_of (out-What self.what))) (sym (ap (inside_test self.number) is))
    (inr (among-right (last_of (out-What self.what)) (numbers_of body) (last ∷ []) (inl (ap last_of is)))))
    (λ next later inner. next-apart program ordered (Test self) rest callers dues next levels later inner)) among also
test-differ program ordered self rest callers dues one other _ is levels among also =
    only-differ dues one other (rest ∷ callers) among also

ways-differ : (program : Program) → IsOrdered program
    → (entry : Entry) (rest : List Entry) (callers : Place) (dues : Dues) (one other : Place)
    → AreLevels program 0 ((entry ∷ rest) ∷ callers) → IsAmong one (ways program entry rest callers)
    → IsAmong other (ways program entry rest callers) → Differ dues one other
ways-differ program ordered (Run self) rest callers dues one other levels among also =
    statement-differ program ordered self rest callers dues one other (out-What self.what) refl levels among also
ways-differ program ordered (Test self) rest callers dues one other levels among also =
    test-differ program ordered self rest callers dues one other (out-What self.what) refl levels among also
ways-differ program ordered (Last self) rest callers dues one other levels among also =
    only-differ dues one other (rest ∷ callers) among also

stands-differ : (program : Program) → IsOrdered program → (dues : Dues) (place : Place) (one other : Stand)
    → AreLevels program 0 place
    → IsAmong one (stands_after program dues place) → IsAmong other (stands_after program dues place)
    → number_at one ≡ number_at other → one ≡ other
stands-differ program ordered dues [] one other levels among also same = absurd among
stands-differ program ordered dues ([] ∷ callers) one other levels among also same = absurd among
stands-differ program ordered dues ((entry ∷ rest) ∷ callers) one other levels among also same =
    let first = one-mapped (settled (after_entry dues entry)) one (ways program entry rest callers) among in
    let second = one-mapped (settled (after_entry dues entry)) other (ways program entry rest callers) also in
    first.2
    ∙ ways-differ program ordered entry rest callers (after_entry dues entry) first.0 second.0 levels first.1 second.1
    (ap number_at (sym first.2) ∙ same ∙ ap number_at second.2)
    ∙ sym second.2

pub successors-differ : (program : Program) → IsOrdered program → (path : List ℕ) (here one other : Stand)
    → Leads program path here
    → IsAmong one (successors program here) → IsAmong other (successors program here) → number_at one ≡ number_at other
    → one ≡ other
successors-differ program ordered path here one other walk among also same =
    stands-differ program ordered here.dues here.place one other
    (kept-led program (AreLevels program 0) (levels-kept program ordered) path here walk) among also same

first-number : (program : Program) (path : List ℕ) (number : ℕ) (here there : Stand)
    → Walks program here (number ∷ path) there → number_at here ≡ Some number
first-number program path number here there walk = walk.1.next

walks-same : (program : Program) → IsOrdered program → (path : List ℕ) (here one other : Stand)
    → AreLevels program 0 here.place
    → Walks program here path one → Walks program here path other → number_at one ≡ number_at other → one ≡ other
walks-same program ordered [] here one other levels first second same = sym first ∙ second
walks-same program ordered (number ∷ []) here one other levels first second same =
    sym first.2
    ∙ stands-differ program ordered here.dues here.place first.0 second.0 levels first.1.leads second.1.leads
    (ap number_at first.2 ∙ same ∙ ap number_at (sym second.2))
    ∙ second.2
walks-same program ordered (number ∷ next ∷ path) here one other levels first second same =
    let meets : first.0 ≡ second.0 =
    stands-differ program ordered here.dues here.place first.0 second.0 levels first.1.leads second.1.leads
    (first-number program path next first.0 one first.2
    ∙ sym (first-number program path next second.0 other second.2)) in
    walks-same program ordered (next ∷ path) first.0 one other
    (kept-after program (AreLevels program 0) (levels-kept program ordered) here.dues here.place first.0 levels
    first.1.leads) first.2
    (subst (λ (s : Stand). Walks program s (next ∷ path) other) (sym meets) second.2) same

pub path-fixes : (program : Program) → IsOrdered program → (path : List ℕ) (one other : Stand) → Leads program path one
    → Leads program path other
    → number_at one ≡ number_at other → one ≡ other
path-fixes program ordered path one other first second same =
    walks-same program ordered path (first_stand program) one other
    (kept-led program (AreLevels program 0) (levels-kept program ordered) [] (first_stand program) refl) first second
    same
