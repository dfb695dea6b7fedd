-- Entries that are found by their numbers.
use Rattle.std.proofs.Common.{◌≡◌, ◌≤◌, ◌<◌, ℕ, zero, suc, ◌+◌, ◌==◌, Bool, true, false, if◌then◌else◌, List, [], ◌∷◌}
use Rattle.std.proofs.Common.{◌++◌, Option, Some, None, eq-eqb, refl, ap, subst, sym, ◌∙◌, append-nil, append_assoc}
use Rattle.std.proofs.Common.{drop, length, get_or, slice_get, arith}
use Rattle.std.proofs.lemmas.Bool.{eqb-true}
use Rattle.tal_tree.specs.Rows.{if-is, while-is, for-is, do-is}
use Rattle.tal_tree.specs.Statements.{body_before, last_of}
use Rattle.tal_tree.specs.declared.statement.Statement.{Statement}
use Rattle.tal_tree.specs.declared.statement.What.{What, What-F, out-What, roll-What, If, While, For, DoUntil}
use Rattle.tal_tree.specs.declared.statement.What.TheViews.{out-roll-What, rolls-For, rolls-DoUntil}
use Rattle.process_semantics.specs.Rests.{next_number, rests, rests_before, rests_in, rest_among}
use Rattle.process_semantics.specs.SeenEntries.{entry_of}
use Rattle.process_semantics.specs.State.{Entry, Run, Test, Last, runs_of}
use Rattle.process_semantics.proofs.Rests.{behind, behind-more}
use Rattle.discipline.specs.declared.find.Found.{Found}
use Rattle.discipline.specs.Finding.{IsFoundAmong, IsFoundIn, IsFirstNumber}

-- found at the first, found later, found nowhere

first-found : (number : ℕ) (rest : List Entry) (all : List (List Entry)) → next_number rest ≡ number
    → rest_among number (rest ∷ all) ≡ Some rest
first-found number rest all is =
    ap (λ (b : Bool). if b then Some rest else rest_among number all) (eq-eqb (next_number rest) number is)

not-first : (number : ℕ) (rest : List Entry) (all : List (List Entry)) → (next_number rest ≡ number → ⊥)
    → rest_among number (rest ∷ all) ≡ rest_among number all
not-first number rest all other = by_test (next_number rest == number) refl
  where
    by_test : (b : Bool) → (next_number rest == number) ≡ b
        → (if b then Some rest else rest_among number all) ≡ rest_among number all
    by_test true is = absurd (other (eqb-true (next_number rest) number is))
    by_test false is = refl

in-front : (number : ℕ) (front all : List (List Entry)) (rest : List Entry) → rest_among number front ≡ Some rest
    → rest_among number (front ++ all) ≡ Some rest
in-front number [] all rest is = absurd (cc)
in-front number (one ∷ front) all rest is = by_test (next_number one == number) is (in-front number front all rest)
  where
    by_test : (b : Bool) → (if b then Some one else rest_among number front) ≡ Some rest
        → (rest_among number front ≡ Some rest → rest_among number (front ++ all) ≡ Some rest)
        → (if b then Some one else rest_among number (front ++ all)) ≡ Some rest
    by_test true is later = is
    by_test false is later = later is

not-in-front : (number : ℕ) (front all : List (List Entry)) → rest_among number front ≡ None
    → rest_among number (front ++ all) ≡ rest_among number all
not-in-front number [] all is = refl
not-in-front number (one ∷ front) all is = by_test (next_number one == number) is (not-in-front number front all)
  where
    by_test : (b : Bool) → (if b then Some one else rest_among number front) ≡ None
        → (rest_among number front ≡ None → rest_among number (front ++ all) ≡ rest_among number all)
        → (if b then Some one else rest_among number (front ++ all)) ≡ rest_among number all
    by_test true is later = absurd (cc)
    by_test false is later = later is

-- what is found among some is found among others that find the same
same-found : (number : ℕ) (all others : List (List Entry)) (result : Option Found)
    → rest_among number others ≡ rest_among number all → IsFoundAmong number all result
    → IsFoundAmong number others result
same-found number all others None same found = same ∙ found
same-found number all others (Some one) same found = (found.0, same ∙ found.1, found.2)

front-found : (number : ℕ) (front all : List (List Entry)) (one : Found) → IsFoundAmong number front (Some one)
    → IsFoundAmong number (front ++ all) (Some one)
front-found number front all one found =
    (found.0, in-front number front all (entry_of one.entry ∷ found.0) found.1, found.2)

-- what is found in either part
pub found-either : (number : ℕ) (front all : List (List Entry)) (first second : Option Found)
    → IsFoundAmong number front first → (first ≡ None → IsFoundAmong number all second) → (result : Option Found)
    → (first ≡ None → result ≡ second) → ((one : Found) → first ≡ Some one → result ≡ Some one)
    → IsFoundAmong number (front ++ all) result
found-either number front all None second found later result otherwise holds =
    subst (IsFoundAmong number (front ++ all)) (sym (otherwise refl))
    (same-found number all (front ++ all) second (not-in-front number front all found) (later refl))
found-either number front all (Some one) second found later result otherwise holds =
    subst (IsFoundAmong number (front ++ all)) (sym (holds one refl)) (front-found number front all one found)

-- One statement: what comes before its own entry, its own, and what comes inside it

layer-of : (what : What) (layer : What-F What Statement) → roll-What layer ≡ what → out-What what ≡ layer
layer-of what layer rolls = ap out-What (sym rolls) ∙ out-roll-What layer

module _ (statement : Statement) (after number : ℕ) where
  abbrev before : List Entry → List (List Entry)
  before later = rests_before statement.what (Run statement ∷ later)

  abbrev own : List Entry → List (List Entry)
  own later = (Run statement ∷ later) ∷ []

  abbrev inside : List Entry → List (List Entry)
  inside later = rests_in statement.what statement later

  whole : (later : List Entry) (result : Option Found)
      → IsFoundAmong number (before later ++ (own later ++ inside later)) result
      → IsFoundAmong number (rests (statement ∷ []) later) result
  whole later result =
      subst (λ (all : List (List Entry)). IsFoundAmong number (before later ++ (own later ++ all)) result)
      (sym (append-nil (inside later)))

  pub found-before : (found : Found) → IsFoundIn before after number (Some found)
      → IsFoundIn (rests (statement ∷ [])) after number (Some found)
  found-before found is later same =
      whole later (Some found) (front-found number (before later) (own later ++ inside later) found (is later same))

  pub found-own : (found : Found) → IsFoundIn before after number None → IsFoundIn own after number (Some found)
      → IsFoundIn (rests (statement ∷ [])) after number (Some found)
  found-own found not_before is later same =
      whole later (Some found)
      (same-found number (own later ++ inside later) (before later ++ (own later ++ inside later)) (Some found)
      (not-in-front number (before later) (own later ++ inside later) (not_before later same))
      (front-found number (own later) (inside later) found (is later same)))

  pub found-inside : (result : Option Found) → IsFoundIn before after number None → IsFoundIn own after number None
      → IsFoundIn inside after number result
      → IsFoundIn (rests (statement ∷ [])) after number result
  found-inside result not_before not_own is later same =
      whole later result
      (same-found number (inside later) (before later ++ (own later ++ inside later)) result
      (not-in-front number (before later) (own later ++ inside later) (not_before later same)
      ∙ not-in-front number (own later) (inside later) (not_own later same))
      (is later same))

-- where statements begin
first-more : (statement : Statement) (rest : List Statement) (after number : ℕ)
    → ((other : ℕ) → IsFirstNumber (statement ∷ []) other number) → IsFirstNumber (statement ∷ rest) after number
first-more statement rest after number first later is =
    first (next_number (behind rest later)) (behind rest later) refl
    ∙ ap next_number (behind-more statement [] (behind rest later) ∙ sym (behind-more statement rest later))

pub first-none : (statements : List Statement) (after : ℕ) → None ≡ slice_get statements 0
    → IsFirstNumber statements after after
first-none [] after none later is = sym is
first-none (one ∷ rest) after none later is = absurd (cc)

pub first-some : (statements : List Statement) (statement : Statement) (after number : ℕ)
    → Some statement ≡ slice_get statements 0 → ((other : ℕ) → IsFirstNumber (statement ∷ []) other number)
    → IsFirstNumber statements after number
first-some [] statement after number is first = absurd (cc)
first-some (one ∷ rest) statement after number is first =
    let same : one ≡ statement = cc in
    first-more one rest after number
    (subst (λ (s : Statement). (other : ℕ) → IsFirstNumber (s ∷ []) other number) (sym same) first)

pub first-plain : (statement : Statement) (number : ℕ) → body_before (out-What statement.what) ≡ []
    → number ≡ statement.number → (after : ℕ) → IsFirstNumber (statement ∷ []) after number
first-plain statement number first own after later is =
    own ∙ ap next_number (sym (behind-more statement [] later
    ∙ ap (λ (body : List Statement). runs_of body ++ (Run statement ∷ later)) first))

pub first-do : (statement : Statement) (body inner : List Statement) (test : _) (number : ℕ)
    → statement.what ≡ DoUntil body test → inner ≡ body → IsFirstNumber inner statement.number number
    → (after : ℕ) → IsFirstNumber (statement ∷ []) after number
first-do statement body inner test number is inner_is first after later _ =
    first (Run statement ∷ later) refl
    ∙ ap next_number (ap (λ (ss : List Statement). runs_of ss ++ (Run statement ∷ later)) inner_is
    ∙ ap (λ (layer : What-F What Statement). runs_of (body_before layer) ++ (Run statement ∷ later))
    (sym (ap out-What is ∙ layer-of _ (What-F.DoUntil body test) (rolls-DoUntil body test)))
    ∙ sym (behind-more statement [] later))

-- from one statement on to those behind it
pub found-more : (statement : Statement) (rest : List Statement) (later : List Entry)
    → rests (statement ∷ rest) later ≡ rests (statement ∷ []) (behind rest later) ++ rests rest later
found-more statement rest later =
    let before : List (List Entry) = rests_before statement.what (Run statement ∷ behind rest later) in
    let inner : List (List Entry) = rests_in statement.what statement (behind rest later) in
    let own : List (List Entry) = (Run statement ∷ behind rest later) ∷ [] in
    ap (λ (all : List (List Entry)). before ++ (own ++ (all ++ rests rest later))) (sym (append-nil inner))
    ∙ sym (append_assoc before (own ++ (inner ++ [])) (rests rest later))

-- Lists of statements

pub list-found : (statement : Statement) (others : List Statement) (after next number : ℕ)
    (first second result : Option Found) → IsFirstNumber others after next
    → IsFoundIn (rests (statement ∷ [])) next number first
    → (first ≡ None → IsFoundIn (rests others) after number second) → (first ≡ None → result ≡ second)
    → ((one : Found) → first ≡ Some one → result ≡ Some one)
    → IsFoundIn (rests (statement ∷ others)) after number result
list-found statement others after next number first second result begins found later_found otherwise holds later is =
    subst (λ (all : List (List Entry)). IsFoundAmong number all result) (sym (found-more statement others later))
    (found-either number (rests (statement ∷ []) (behind others later)) (rests others later) first second
    (found (behind others later) (sym (begins later is)))
    (λ none. later_found none later is) result otherwise holds)

pub none-left : (after number : ℕ) (left : List Statement) → left ≡ [] → IsFoundIn (rests left) after number None
none-left after number left empty later is = ap (λ (ss : List Statement). rest_among number (rests ss later)) empty

-- as the loop of `find` goes: from the statement at a place on to those behind it
module _ (statements : List Statement) (k : ℕ) (statement : Statement) (others : List Statement)
    (after next number : ℕ) (inside : k < length statements)
    (read : statement ≡ get_or statements k statement) (behind_is : others ≡ drop (k + 1) statements)
    (begins : IsFirstNumber others after next) where
  split : drop k statements ≡ statement ∷ others
  split = drop-at statements k statement inside read ∙ ap (λ (rest : List Statement). statement ∷ rest) (sym behind_is)
    where
      drop-at : (all : List Statement) (k : ℕ) (one : Statement) → k < length all → one ≡ get_or all k one
          → drop k all ≡ one ∷ drop (k + 1) all
      drop-at [] k one inside read = absurd (omega arith)
      drop-at (first ∷ all) zero one inside read = ap (λ (s : Statement). s ∷ all) (sym read)
      drop-at (first ∷ all) (suc k) one inside read =
          drop-at all k one (omega arith) read ∙ ap (λ (n : ℕ). one ∷ drop n (first ∷ all))
          (let same : suc (k + 1) ≡ suc k + 1 = omega arith in same)

  pub found-at : (one : Found) → IsFoundIn (rests (statement ∷ [])) next number (Some one)
      → IsFoundIn (rests (drop k statements)) after number (Some one)
  found-at one found later is =
      subst (λ (ss : List Statement). IsFoundAmong number (rests ss later) (Some one)) (sym split)
      (list-found statement others after next number (Some one) None (Some one) begins found (λ none. absurd (cc))
      (λ none. absurd (cc)) (λ other same. same) later is)

  pub found-behind : (result : Option Found) → IsFoundIn (rests (statement ∷ [])) next number None
      → IsFoundIn (rests (drop (k + 1) statements)) after number result
      → IsFoundIn (rests (drop k statements)) after number result
  found-behind result none found later is =
      subst (λ (ss : List Statement). IsFoundAmong number (rests ss later) result) (sym split)
      (list-found statement others after next number None result result begins none
      (λ _. subst (λ (ss : List Statement). IsFoundIn (rests ss) after number result) (sym behind_is) found)
      (λ _. refl) (λ other same. absurd (cc)) later is)

pub past-end : (statements : List Statement) (k after number : ℕ) → length statements ≤ k
    → IsFoundIn (rests (drop k statements)) after number None
past-end [] zero after number past later is = refl
past-end [] (suc k) after number past later is = refl
past-end (statement ∷ statements) zero after number past later is = absurd (omega arith)
past-end (statement ∷ statements) (suc k) after number past later is =
    past-end statements k after number (omega arith) later is

-- Inside a statement, as `find_within` meets it, and before its own entry

module _ (statement : Statement) (after number : ℕ) where
  in-layer : (what : What) (result : Option Found) → statement.what ≡ what
      → IsFoundIn (rests_in what statement) after number result
      → IsFoundIn (rests_in statement.what statement) after number result
  in-layer what result is =
      subst (λ (w : What). IsFoundIn (rests_in w statement) after number result) (sym is)

  pub found-if : (test : _) (one_body other_body first second : List Statement)
      → statement.what ≡ If test one_body other_body → first ≡ one_body → second ≡ other_body
      → (one two result : Option Found) → IsFoundIn (rests first) after number one
      → (one ≡ None → IsFoundIn (rests second) after number two) → (one ≡ None → result ≡ two)
      → ((found : Found) → one ≡ Some found → result ≡ Some found)
      → IsFoundIn (rests_in statement.what statement) after number result
  found-if test one_body other_body first second is first_is second_is one two result found later_found otherwise
      holds =
      in-layer _ result (is ∙ if-is test one_body other_body)
      (λ later same. found-either number (rests one_body later) (rests other_body later) one two
      (subst (λ (ss : List Statement). IsFoundAmong number (rests ss later) one) first_is (found later same))
      (λ none. subst (λ (ss : List Statement). IsFoundAmong number (rests ss later) two) second_is
      (later_found none later same)) result otherwise holds)

  pub found-while : (test : _) (body inner : List Statement) → statement.what ≡ While test body → inner ≡ body
      → (own : ℕ) → own ≡ statement.number
      → (result : Option Found) → IsFoundIn (rests inner) own number result
      → IsFoundIn (rests_in statement.what statement) after number result
  found-while test body inner is inner_is own own_is result found =
      in-layer _ result (is ∙ while-is test body)
      (λ later same. subst (λ (ss : List Statement). IsFoundAmong number (rests ss (Run statement ∷ later)) result)
      inner_is (found (Run statement ∷ later) (sym own_is)))

  pub found-for : (variable : _) (from to : _) (down : Bool) (step : _) (body inner : List Statement)
      (last last_number : ℕ)
      → statement.what ≡ For variable from to down step body last → inner ≡ body → last_number ≡ last
      → (one two three result : Option Found) → IsFoundIn (λ later. (Test statement ∷ later) ∷ []) after number one
      → (one ≡ None → IsFoundIn (rests inner) last_number number two)
      → (one ≡ None → two ≡ None → IsFoundIn (λ later. (Last statement ∷ Test statement ∷ later) ∷ []) after number
      three)
      → ((found : Found) → one ≡ Some found → result ≡ Some found)
      → ((found : Found) → one ≡ None → two ≡ Some found → result ≡ Some found)
      → (one ≡ None → two ≡ None → result ≡ three)
      → IsFoundIn (rests_in statement.what statement) after number result
  found-for variable from to down step body inner last last_number is inner_is last_is one two three result found_test
      found_body found_last at_test at_body at_last =
      in-layer _ result (is ∙ for-is variable from to down step body last) in_round
    where
      last-of : last_of (out-What statement.what) ≡ last
      last-of = ap last_of (ap out-What is ∙ layer-of _ (What-F.For variable from to down step body last)
          (rolls-For variable from to down step body last))

      in_round : (later : List Entry) → next_number later ≡ after
          → IsFoundAmong number ((Test statement ∷ later) ∷ rests body (Last statement ∷ Test statement ∷ later)
          ++ (Last statement ∷ Test statement ∷ later) ∷ []) result
      in_round later same = by_test one refl (found_test later same)
        where
          again : List Entry
          again = Last statement ∷ Test statement ∷ later

          by_test : (first : Option Found) → one ≡ first → IsFoundAmong number ((Test statement ∷ later) ∷ []) one
              → IsFoundAmong number ((Test statement ∷ later) ∷ rests body again ++ again ∷ []) result
          by_test first first_is found =
              found-either number ((Test statement ∷ later) ∷ []) (rests body again ++ again ∷ []) one result found
              (λ none. by_body none) result (λ none. refl) (λ here same. at_test here same)
            where
              by_body : one ≡ None → IsFoundAmong number (rests body again ++ again ∷ []) result
              by_body none =
                  found-either number (rests body again) (again ∷ []) two three
                  (subst (λ (ss : List Statement). IsFoundAmong number (rests ss again) two) inner_is
                  (found_body none again (last-of ∙ sym last_is)))
                  (λ no_body. found_last none no_body later same) result (λ no_body. at_last none no_body)
                  (λ here in_body. at_body here none in_body)

  pub found-do : (body inner : List Statement) (test : _) → statement.what ≡ DoUntil body test → inner ≡ body
      → (own : ℕ) → own ≡ statement.number
      → (result : Option Found) → IsFoundIn (rests inner) own number result
      → IsFoundIn (λ later. rests_before statement.what (Run statement ∷ later)) after number result
  found-do body inner test is inner_is own own_is result found =
      subst (λ (w : What). IsFoundIn (λ later. rests_before w (Run statement ∷ later)) after number result)
      (sym (is ∙ do-is body test))
      (λ later same. subst (λ (ss : List Statement). IsFoundAmong number (rests ss (Run statement ∷ later)) result)
      inner_is (found (Run statement ∷ later) (sym own_is)))

pub found-last : (statement : Statement) (last number next : ℕ) → last ≡ last_of (out-What statement.what)
    → last ≡ number → next ≡ statement.number + 1
    → (after : ℕ) (later : List Entry) → next_number later ≡ after
    → (rest : List Entry) × (rest_among number ((Last statement ∷ Test statement ∷ later) ∷ [])
    ≡ Some (Last statement ∷ rest)) × (next ≡ next_number rest)
found-last statement last number next is same next_is after later _ =
    (Test statement ∷ later, first-found number (Last statement ∷ Test statement ∷ later) [] (sym is ∙ same), next_is)
