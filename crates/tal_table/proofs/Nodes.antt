-- Nodes that are put for the parts of a procedure.
use Rattle.std.proofs.Common.{◌≡◌, inl, inr, ℕ, ℤ, Bool, zero, suc, ◌+◌, ◌≤◌, ◌<◌, List, [], ◌∷◌, ◌++◌, length, get_or}
use Rattle.std.proofs.Common.{drop, drop-cons, add-one, refl, ap, ap₂, sym, subst, ◌∙◌, append_assoc, append-nil, arith}
use Rattle.std.specs.Prelude.{Result, Ok, Err, OnOk, Some, slice_get}
use Rattle.gd_words.specs.Members.{IsAmong}
use Rattle.gd_words.proofs.Among.{among-left, among-right}
use Rattle.tal_tree.specs.Statements.{body_before, last_of}
use Rattle.tal_tree.specs.declared.expression.Cond.{Cond}
use Rattle.tal_tree.specs.declared.expression.Cond.TheVariants as cond
use Rattle.tal_tree.specs.declared.expression.Expr.{Expr}
use Rattle.tal_tree.specs.declared.expression.Expr.TheVariants as expr
use Rattle.tal_tree.specs.declared.expression.Variable.{Variable}
use Rattle.tal_tree.specs.declared.statement.Statement.{Statement}
use Rattle.tal_tree.specs.declared.statement.What.{What, What-F, If, While, For, DoUntil, out-What, roll-What}
use Rattle.tal_tree.specs.declared.statement.What.{out-roll-What}
use Rattle.tal_tree.specs.declared.statement.What.TheViews.{rolls-If, rolls-While, rolls-For, rolls-DoUntil}
use Rattle.process_semantics.specs.Rests.{next_number, rests_before, rests_in, rests}
use Rattle.process_semantics.specs.State.{Entry, Run, Test, Last, runs_of}
use Rattle.process_semantics.specs.Steps.{bound_by}
use Rattle.process_semantics.proofs.Leading.{all-stay}
use Rattle.process_semantics.proofs.Rests.{ahead-is, rests-is, rests_by, runs-more}
use Rattle.program_deeds.specs.Deed.{Assigns, Tests, counts_by, deed_run, deed_test, deed_last}
use Rattle.process_semantics.specs.tal_values.specs.Spots.{spot_of}
use Rattle.tal_table.specs.Loads.{Finds, FindsAll, IsNode, Each, Puts, rests_at, number_or, begins}
use Rattle.tal_table.specs.Loads.{first_number, IsLeaf}
use Rattle.tal_table.specs.Places.{rest_at}
use Rattle.tal_table.specs.Seen.{seen}
use Rattle.tal_table.specs.declared.node.Node.{Node}
use Rattle.tal_table.specs.declared.node.Work.{Work}
use Rattle.tal_table.specs.declared.node.Work.TheVariants as work

-- One for each

pub each-append : (is : List Entry → Node → Type 0) (xs ys : List (List Entry)) (front back : List Node)
    → Each is xs front → Each is ys back → Each is (xs ++ ys) (front ++ back)
each-append is [] ys [] back first second = second
each-append is [] ys (node ∷ front) back first second = absurd first
each-append is (rest ∷ xs) ys [] back first second = absurd first
each-append is (rest ∷ xs) ys (node ∷ front) back first second =
    (first.0, each-append is xs ys front back first.1 second)

pub each-weaker : (is also : List Entry → Node → Type 0) (xs : List (List Entry)) (nodes : List Node)
    → ((rest : List Entry) (node : Node) → IsAmong rest xs → is rest node → also rest node) → Each is xs nodes
    → Each also xs nodes
each-weaker is also [] [] weaker each = tt
each-weaker is also [] (node ∷ nodes) weaker each = absurd each
each-weaker is also (rest ∷ xs) [] weaker each = absurd each
each-weaker is also (rest ∷ xs) (node ∷ nodes) weaker each = (
  weaker rest node (inl refl) each.0,
  each-weaker is also xs nodes (λ one other among. weaker one other (inr among))
      each.1,
)

pub each-length : (is : List Entry → Node → Type 0) (xs : List (List Entry)) (nodes : List Node) → Each is xs nodes
    → length nodes ≡ length xs
each-length is [] [] each = refl
each-length is [] (node ∷ nodes) each = absurd each
each-length is (rest ∷ xs) [] each = absurd each
each-length is (rest ∷ xs) (node ∷ nodes) each =
    let same : length nodes ≡ length xs = each-length is xs nodes each.1 in omega arith

-- what the node at a place is one for
pub each-at : (is : List Entry → Node → Type 0) (xs : List (List Entry)) (nodes : List Node) (k : ℕ) (node : Node)
    → Each is xs nodes → slice_get nodes k ≡ Some node
    → (rest : List Entry) × (slice_get xs k ≡ Some rest) × is rest node
each-at is [] [] k node each there = absurd (cc)
each-at is [] (one ∷ nodes) k node each there = absurd each
each-at is (rest ∷ xs) [] k node each there = absurd each
each-at is (rest ∷ xs) (one ∷ nodes) zero node each there =
    (rest, refl, subst (is rest) (let same : one ≡ node = cc in same) each.0)
each-at is (rest ∷ xs) (one ∷ nodes) (suc k) node each there = each-at is xs nodes k node each.1 there

-- Beginnings

-- from each entry of the first statement on, and from each of the others on
first-rests : (statement : Statement) (more : List Statement) (rest : List Entry)
    → rests (statement ∷ more) rest ≡ rests_at statement (runs_of more ++ rest) ++ rests more rest
first-rests statement more rest =
    sym (append_assoc (rests_before statement.what (Run statement ∷ (runs_of more ++ rest)))
    ((Run statement ∷ (runs_of more ++ rest)) ∷ rests_in statement.what statement (runs_of more ++ rest))
    (rests more rest))

-- what remains from each entry of a statement on, by its layer
at-by : (statement : Statement) (rest : List Entry) (layer : What-F What Statement) → out-What statement.what ≡ layer
    → rests_at statement rest
    ≡ rests (body_before layer) (Run statement ∷ rest) ++ ((Run statement ∷ rest) ∷ rests_by layer statement rest)
at-by statement rest layer is =
    ap₂ (λ (before inner : List (List Entry)). before ++ ((Run statement ∷ rest) ∷ inner))
    (ahead-is (Run statement ∷ rest) statement.what ∙ ap (λ (l : What-F What Statement). rests (body_before l)
    (Run statement ∷ rest)) is)
    (rests-is statement rest statement.what ∙ ap (λ (l : What-F What Statement). rests_by l statement rest) is)

number-before : (entries : List Entry) (statement : Statement) (later : List Entry) (after : ℕ)
    → number_or (entries ++ (Run statement ∷ later)) after ≡ number_or entries statement.number
number-before [] statement later after = refl
number-before (entry ∷ entries) statement later after = refl

-- statements begin where the first of them does
begins-more : (statement : Statement) (more : List Statement) (after : ℕ)
    → begins (statement ∷ more) after ≡ first_number statement
begins-more statement more after =
    ap (λ (entries : List Entry). number_or entries after) (runs-more statement more)
    ∙ number-before (runs_of (body_before (out-What statement.what))) statement (runs_of more) after

-- where there are none the entry after them comes next
pub begins-none : (statements : List Statement) (after : ℕ) → length statements < 1 → begins statements after ≡ after
begins-none [] after none = refl
begins-none (statement ∷ more) after none = absurd (omega arith)

pub begins-first : (statements : List Statement) (first : Statement) (after : ℕ) → first ≡ get_or statements 0 first
    → 1 ≤ length statements → begins statements after ≡ first_number first
begins-first [] first after is some = absurd (omega arith)
begins-first (statement ∷ more) first after is some =
    begins-more statement more after ∙ sym (ap first_number is)

next-or : (entries : List Entry) (after : ℕ) (rest : List Entry) → after ≡ next_number rest
    → number_or entries after ≡ next_number (entries ++ rest)
next-or [] after rest is = is
next-or (entry ∷ entries) after rest is = refl

begins-next : (statements : List Statement) (after : ℕ) (rest : List Entry) → after ≡ next_number rest
    → begins statements after ≡ next_number (runs_of statements ++ rest)
begins-next statements after rest is = next-or (runs_of statements) after rest is

begins-found : (places : List (List Entry)) (statements : List Statement) (rest : List Entry) → Finds places rest
    → FindsAll places (rests statements rest)
    → Finds places (runs_of statements ++ rest)
begins-found places statements rest here found = elim (all-stay statements rest) [
  | inl same ↦ subst (Finds places) (sym same) here
  | inr among ↦ found (runs_of statements ++ rest) among
]

found-at : (places : List (List Entry)) (rest : List Entry) (number : ℕ) → number ≡ next_number rest
    → Finds places rest → rest_at places number ≡ rest
found-at places rest number is here = ap (rest_at places) is ∙ here

pub begins-at : (places : List (List Entry)) (statements : List Statement) (after : ℕ) (rest : List Entry)
    → after ≡ next_number rest → Finds places rest
    → FindsAll places (rests statements rest) → rest_at places (begins statements after) ≡ runs_of statements ++ rest
begins-at places statements after rest is here found =
    found-at places (runs_of statements ++ rest) (begins statements after) (begins-next statements after rest is)
    (begins-found places statements rest here found)

-- Lists as loops go through them

pub left-is : {A : Type 0} (xs : List A) (k : ℕ) (x : A) → x ≡ get_or xs k x → k < length xs
    → drop k xs ≡ x ∷ drop (k + 1) xs
left-is {A} xs k x is there = rw add-one (drop-cons xs k x there) ∙ ap (λ (y : A). y ∷ drop (k + 1) xs) (sym is)

pub drop-past : {A : Type 0} (xs : List A) (k : ℕ) → length xs ≤ k → drop k xs ≡ []
drop-past [] zero past = refl
drop-past [] (suc k) past = refl
drop-past (x ∷ xs) zero past = absurd (omega arith)
drop-past (x ∷ xs) (suc k) past = drop-past xs k (omega arith)

pub on-ok : {A E : Type 0} {P Q : Type 0} (result : Result A E) → (P → Q) → OnOk result P → OnOk result Q
on-ok (Ok x) f holds = f holds
on-ok (Err e) f holds = tt

-- Statements, one after the other

-- nodes were put behind others for some of these statements, and these are left
pub record Listing (old now : List Node) (procedure : ℕ) (all left : List Statement) (after : ℕ) : Type 0 where
  pub made : List Node
  pub behind : now ≡ old ++ made
  pub are : (places : List (List Entry)) (rest : List Entry) → after ≡ next_number rest → Finds places rest
      → FindsAll places (rests all rest)
      → (front : List (List Entry)) × (rests all rest ≡ front ++ rests left rest)
      × Each (IsNode places procedure) front made

pub listing-start : (old : List Node) (procedure : ℕ) (all : List Statement) (after : ℕ)
    → Listing old old procedure all all after
listing-start old procedure all after =
    record { made = []; behind = sym (append-nil old); are = λ places rest is here found. ([], refl, tt) }

pub listing-end : (old now : List Node) (procedure : ℕ) (all left : List Statement) (after : ℕ) → left ≡ []
    → Listing old now procedure all left after
    → Puts old now procedure (rests all) after
listing-end old now procedure all left after none so_far = record {
  made = so_far.made;
  behind = so_far.behind;
  are = λ places rest is here found.
      let before = so_far.are places rest is here found in
      let whole : before.0 ≡ rests all rest =
      sym (before.1 ∙ ap (λ (ss : List Statement). before.0 ++ rests ss rest) none ∙ append-nil before.0) in
      subst (λ (xs : List (List Entry)). Each (IsNode places procedure) xs so_far.made) whole before.2;
}

pub listing-next : (old now new : List Node) (procedure : ℕ) (all left : List Statement) (statement : Statement)
    (others : List Statement) (after next : ℕ)
    → left ≡ statement ∷ others → next ≡ begins others after → Puts now new procedure (rests_at statement) next
    → Listing old now procedure all left after
    → Listing old new procedure all others after
listing-next old now new procedure all left statement others after next is comes put so_far = record {
  made = so_far.made ++ put.made;
  behind = put.behind ∙ ap (λ (nodes : List Node). nodes ++ put.made) so_far.behind
      ∙ append_assoc old so_far.made put.made;
  are = λ places rest at here found.
      let before = so_far.are places rest at here found in
      let front : List (List Entry) = before.0 in
      let onward : List Entry = runs_of others ++ rest in
      let own : List (List Entry) = rests_at statement onward in
      let whole : rests all rest ≡ front ++ (own ++ rests others rest) =
      before.1 ∙ ap (λ (ss : List Statement). front ++ rests ss rest) is
      ∙ ap (λ (xs : List (List Entry)). front ++ xs) (first-rests statement others rest) in
      let in_own : FindsAll places own = λ one among. found one
      (subst (IsAmong one) (sym whole) (among-right one front (own ++ rests others rest)
      (among-left one own (rests others rest) among))) in
      let in_others : FindsAll places (rests others rest) = λ one among. found one
      (subst (IsAmong one) (sym whole) (among-right one front (own ++ rests others rest)
      (among-right one own (rests others rest) among))) in (
        front ++ own,
        whole ∙ sym (append_assoc front own (rests others rest)),
        each-append (IsNode places procedure) front own so_far.made put.made before.2
            (put.are places onward (comes ∙ begins-next others after rest at)
            (begins-found places others rest here in_others) in_own),
      );
}

-- Statements by their kinds

pub layer-is : (what : What) (layer : What-F What Statement) → roll-What layer ≡ what → out-What what ≡ layer
layer-is what layer is = ap out-What (sym is) ∙ out-roll-What layer

-- nodes behind one that stands behind others
behind-one : (old mid new more : List Node) (node : Node) → mid ≡ old ++ node ∷ [] → new ≡ mid ++ more
    → new ≡ old ++ node ∷ more
behind-one old mid new more node one is =
    is ∙ ap (λ (nodes : List Node). nodes ++ more) one ∙ append_assoc old (node ∷ []) more

pub leaf-puts : (old new : List Node) (procedure : ℕ) (statement : Statement) (after : ℕ) (made : Work)
    → IsLeaf statement after made
    → new ≡ old ++ record { procedure = procedure; work = made; after = after } ∷ []
    → Puts old new procedure (rests_at statement) after
leaf-puts old new procedure statement after made leaf is = record {
  made = record { procedure = procedure; work = made; after = after } ∷ [];
  behind = is;
  are = λ places rest at here found.
      let there : rest_at places after ≡ rest = found-at places rest after at here in
      subst (λ (all : List (List Entry)). Each (IsNode places procedure) all
      (record { procedure = procedure; work = made; after = after } ∷ []))
      (sym (leaf.alone rest)) (record { deed = leaf.deed places rest there; after = there; own = refl }, tt);
}

pub while-puts : (old mid new : List Node) (procedure : ℕ) (statement : Statement) (test : Cond)
    (body : List Statement) (first after : ℕ) (made : Work)
    → statement.what ≡ While test body → first ≡ begins body statement.number → made ≡ work.Test test first after
    → mid ≡ old ++ record { procedure = procedure; work = made; after = after } ∷ []
    → Puts mid new procedure (rests body) statement.number
    → Puts old new procedure (rests_at statement) after
while-puts old mid new procedure statement test body first after made is first_is made_is pushed put =
    let node : Node = record { procedure = procedure; work = made; after = after } in
    record {
      made = node ∷ put.made;
      behind = behind-one old mid new put.made node pushed put.behind;
      are = λ places rest at here found.
          let self : List Entry = Run statement ∷ rest in
          let layer : out-What statement.what ≡ What-F.While test body =
          layer-is statement.what (What-F.While test body) (rolls-While test body ∙ sym is) in
          let inside : rests_at statement rest ≡ self ∷ rests body self =
          at-by statement rest (What-F.While test body) layer in
          let found_at : FindsAll places (self ∷ rests body self) =
          λ one among. found one (subst (IsAmong one) (sym inside) among) in
          let found_in : FindsAll places (rests body self) = λ one among. found_at one (inr among) in
          let self_there : Finds places self = found_at self (inl refl) in
          let yes : rest_at places first ≡ runs_of body ++ self =
          ap (rest_at places) first_is ∙ begins-at places body statement.number self refl self_there found_in in
          let no : rest_at places after ≡ rest = found-at places rest after at here in
          subst (λ (all : List (List Entry)). Each (IsNode places procedure) all (node ∷ put.made)) (sym inside) (
            record {
              deed = ap (seen places) made_is ∙ ap₂ (λ (xs ys : List Entry). Tests test xs ys) yes no
                  ∙ sym (ap (deed_run rest statement) layer);
              after = no;
              own = refl;
            },
            put.are places self refl self_there found_in,
          );
    }

pub if-puts : (old mid third new : List Node) (procedure : ℕ) (statement : Statement) (test : Cond)
    (ones others : List Statement) (first second after : ℕ) (made : Work)
    → statement.what ≡ If test ones others → first ≡ begins ones after → second ≡ begins others after
    → made ≡ work.Test test first second
    → mid ≡ old ++ record { procedure = procedure; work = made; after = after } ∷ []
    → Puts mid third procedure (rests ones) after → Puts third new procedure (rests others) after
    → Puts old new procedure (rests_at statement) after
if-puts old mid third new procedure statement test ones others first second after made is first_is second_is made_is
    pushed put_ones put_others =
    let node : Node = record { procedure = procedure; work = made; after = after } in
    record {
      made = node ∷ put_ones.made ++ put_others.made;
      behind = put_others.behind ∙ ap (λ (nodes : List Node). nodes ++ put_others.made)
          (behind-one old mid third put_ones.made node pushed put_ones.behind)
          ∙ append_assoc old (node ∷ put_ones.made) put_others.made;
      are = λ places rest at here found.
          let self : List Entry = Run statement ∷ rest in
          let layer : out-What statement.what ≡ What-F.If test ones others =
          layer-is statement.what (What-F.If test ones others) (rolls-If test ones others ∙ sym is) in
          let inside : rests_at statement rest ≡ self ∷ rests ones rest ++ rests others rest =
          at-by statement rest (What-F.If test ones others) layer in
          let in_ones : FindsAll places (rests ones rest) = λ one among. found one
          (subst (IsAmong one) (sym inside) (inr (among-left one (rests ones rest) (rests others rest) among))) in
          let in_others : FindsAll places (rests others rest) = λ one among. found one
          (subst (IsAmong one) (sym inside) (inr (among-right one (rests ones rest) (rests others rest) among))) in
          let yes : rest_at places first ≡ runs_of ones ++ rest =
          ap (rest_at places) first_is ∙ begins-at places ones after rest at here in_ones in
          let no : rest_at places second ≡ runs_of others ++ rest =
          ap (rest_at places) second_is ∙ begins-at places others after rest at here in_others in
          subst (λ (all : List (List Entry)). Each (IsNode places procedure) all
          (node ∷ put_ones.made ++ put_others.made)) (sym inside) (
            record {
              deed = ap (seen places) made_is ∙ ap₂ (λ (xs ys : List Entry). Tests test xs ys) yes no
                  ∙ sym (ap (deed_run rest statement) layer);
              after = found-at places rest after at here;
              own = refl;
            },
            each-append (IsNode places procedure) (rests ones rest) (rests others rest) put_ones.made put_others.made
                (put_ones.are places rest at here in_ones)
                (put_others.are places rest at here in_others),
          );
    }

pub for-puts : (old one two three new : List Node) (procedure : ℕ) (statement : Statement) (variable : Variable)
    (from to : Expr) (down : Bool) (step : ℤ) (body : List Statement) (last first test after : ℕ)
    (from_work test_work last_work : Work) → statement.what ≡ For variable from to down step body last
    → test ≡ statement.number + 1 → first ≡ begins body last
    → from_work ≡ work.Assign (spot_of variable) from test
    → test_work ≡ work.Test (cond.Compare (bound_by down) (expr.Read (spot_of variable)) to) first after
    → last_work
    ≡ work.Assign (spot_of variable) (expr.Two (counts_by down) (expr.Read (spot_of variable)) (expr.Number step)) test
    → one ≡ old ++ record { procedure = procedure; work = from_work; after = after } ∷ []
    → two ≡ one ++ record { procedure = procedure; work = test_work; after = after } ∷ []
    → Puts two three procedure (rests body) last
    → new ≡ three ++ record { procedure = procedure; work = last_work; after = test } ∷ []
    → Puts old new procedure (rests_at statement) after
for-puts old one two three new procedure statement variable from to down step body last first test after from_work
    test_work
    last_work is test_is first_is from_is limit_is last_is pushed1 pushed2 put pushed3 =
    let node1 : Node = record { procedure = procedure; work = from_work; after = after } in
    let node2 : Node = record { procedure = procedure; work = test_work; after = after } in
    let node3 : Node = record { procedure = procedure; work = last_work; after = test } in
    record {
      made = node1 ∷ node2 ∷ put.made ++ node3 ∷ [];
      behind = behind-one old one new (node2 ∷ put.made ++ node3 ∷ []) node1 pushed1
          (pushed3 ∙ ap (λ (nodes : List Node). nodes ++ node3 ∷ [])
          (behind-one one two three put.made node2 pushed2 put.behind)
          ∙ append_assoc one (node2 ∷ put.made) (node3 ∷ []));
      are = λ places rest at here found.
          let self : List Entry = Run statement ∷ rest in
          let tested : List Entry = Test statement ∷ rest in
          let again : List Entry = Last statement ∷ tested in
          let bodies : List (List Entry) = rests body again in
          let layer : out-What statement.what ≡ What-F.For variable from to down step body last =
          layer-is statement.what (What-F.For variable from to down step body last)
          (rolls-For variable from to down step body last ∙ sym is) in
          let inside : rests_at statement rest ≡ self ∷ tested ∷ bodies ++ again ∷ [] =
          at-by statement rest (What-F.For variable from to down step body last) layer in
          let found_in : FindsAll places (tested ∷ bodies ++ again ∷ []) =
          λ part among. found part (subst (IsAmong part) (sym inside) (inr among)) in
          let in_body : FindsAll places bodies =
          λ part among. found_in part (inr (among-left part bodies (again ∷ []) among)) in
          let test_there : Finds places tested = found_in tested (inl refl) in
          let last_there : Finds places again =
          found_in again (inr (among-right again bodies (again ∷ []) (inl refl))) in
          let last_next : last ≡ next_number again = sym (ap last_of layer) in
          let at_test : rest_at places test ≡ tested = found-at places tested test test_is test_there in
          let at_after : rest_at places after ≡ rest = found-at places rest after at here in
          let at_first : rest_at places first ≡ runs_of body ++ again =
          ap (rest_at places) first_is ∙ begins-at places body last again last_next last_there in_body in
          subst (λ (all : List (List Entry)). Each (IsNode places procedure) all
          (node1 ∷ node2 ∷ put.made ++ node3 ∷ [])) (sym inside) (
            record {
              deed = ap (seen places) from_is ∙ ap (Assigns (spot_of variable) from) at_test
                  ∙ sym (ap (deed_run rest statement) layer);
              after = at_after;
              own = refl;
            },
            (
              record {
                deed = ap (seen places) limit_is ∙ ap₂ (λ (xs ys : List Entry). Tests
                    (cond.Compare (bound_by down) (expr.Read (spot_of variable)) to) xs ys) at_first at_after
                    ∙ sym (ap (deed_test rest statement) layer);
                after = at_after;
                own = refl;
              },
              each-append (IsNode places procedure) bodies (again ∷ []) put.made (node3 ∷ [])
                  (put.are places again last_next last_there in_body) (
                    record {
                      deed = ap (seen places) last_is ∙ ap (Assigns (spot_of variable)
                          (expr.Two (counts_by down) (expr.Read (spot_of variable)) (expr.Number step))) at_test
                          ∙ sym (ap (deed_last tested) layer);
                      after = at_test;
                      own = refl;
                    },
                    tt,
                  ),
            ),
          );
    }

-- the body of a DO, and its test behind it
pub do-puts : (old mid new : List Node) (procedure : ℕ) (statement : Statement) (body : List Statement) (test : Cond)
    (first after : ℕ) (made : Work)
    → statement.what ≡ DoUntil body test → first ≡ begins body statement.number → made ≡ work.Test test after first
    → Puts old mid procedure (rests body) statement.number
    → new ≡ mid ++ record { procedure = procedure; work = made; after = after } ∷ []
    → Puts old new procedure (rests_at statement) after
do-puts old mid new procedure statement body test first after made is first_is made_is put pushed =
    let node : Node = record { procedure = procedure; work = made; after = after } in
    record {
      made = put.made ++ node ∷ [];
      behind = pushed ∙ ap (λ (nodes : List Node). nodes ++ node ∷ []) put.behind
          ∙ append_assoc old put.made (node ∷ []);
      are = λ places rest at here found.
          let self : List Entry = Run statement ∷ rest in
          let layer : out-What statement.what ≡ What-F.DoUntil body test =
          layer-is statement.what (What-F.DoUntil body test) (rolls-DoUntil body test ∙ sym is) in
          let inside : rests_at statement rest ≡ rests body self ++ self ∷ [] =
          at-by statement rest (What-F.DoUntil body test) layer in
          let found_at : FindsAll places (rests body self ++ self ∷ []) =
          λ one among. found one (subst (IsAmong one) (sym inside) among) in
          let in_body : FindsAll places (rests body self) =
          λ one among. found_at one (among-left one (rests body self) (self ∷ []) among) in
          let self_there : Finds places self =
          found_at self (among-right self (rests body self) (self ∷ []) (inl refl)) in
          let yes : rest_at places after ≡ rest = found-at places rest after at here in
          let no : rest_at places first ≡ runs_of body ++ self =
          ap (rest_at places) first_is ∙ begins-at places body statement.number self refl self_there in_body in
          subst (λ (all : List (List Entry)). Each (IsNode places procedure) all (put.made ++ node ∷ [])) (sym inside)
          (each-append (IsNode places procedure) (rests body self) (self ∷ []) put.made (node ∷ [])
          (put.are places self refl self_there in_body) (
            record {
              deed = ap (seen places) made_is ∙ ap₂ (λ (xs ys : List Entry). Tests test xs ys) yes no
                  ∙ sym (ap (deed_run rest statement) layer);
              after = yes;
              own = refl;
            },
            tt,
          ));
    }
