-- How code lays out statements: one by one, and by the parts of each.
use Rattle.std.proofs.Common.{◌≡◌, ℕ, ℤ, Bool, zero, suc, ◌+◌, ◌-◌, ◌<◌, ◌≤◌, arith, List, [], ◌∷◌, ◌++◌, length, drop}
use Rattle.std.proofs.Common.{get_or}
use Rattle.std.proofs.Common.{refl, ap, ap₂, sym, ◌∙◌}
use Rattle.std.proofs.lemmas.List.{append-nil, append_assoc, at_drop_more, drop_all}
use Rattle.tal_tree.specs.Rows.{rows, if-is, while-is, for-is, do-is}
use Rattle.tal_tree.specs.declared.expression.Cond.{Cond}
use Rattle.tal_tree.specs.declared.expression.Expr.{Expr}
use Rattle.tal_tree.specs.declared.expression.Variable.{Variable}
use Rattle.tal_tree.specs.declared.statement.Statement.{Statement}
use Rattle.tal_tree.specs.declared.statement.What.{What, If, While, For, DoUntil}
use Rattle.path_semantics.specs.process_semantics.specs.State.{Run, Test, Last}
use Rattle.flow_paths.specs.declared.graph.Edge.{Edge}
use Rattle.flow_paths.specs.Graph.{Node}
use Rattle.flow_paths.specs.Layout.{size_in, size_row, to_node, start_row, start_at, one_way, two_ways, lay_in, lay_row}

pub start-counted : (statements : List Statement) (base : ℕ) (next : Edge)
    → start_at (length statements) base next ≡ start_row (rows statements) base next
start-counted [] base next = refl
start-counted (statement ∷ rest) base next = refl

joined : (old : List Node) (node : Node) (first second : List Node)
    → ((old ++ node ∷ []) ++ first) ++ second ≡ old ++ node ∷ (first ++ second)
joined old node first second =
    append_assoc (old ++ node ∷ []) first second ∙ append_assoc old (node ∷ []) (first ++ second)

module _ (called : ℕ → List Node) (self : Statement) (at : ℕ) (after : Edge) (old : List Node) where
  abbrev size : List Statement → ℕ
  size statements = size_row (λ (k : ℕ). length (called k)) (rows statements)

  abbrev all : List Statement → ℕ → Edge → List Node
  all statements base next = lay_row called (rows statements) base next

  pub lays-if : (test : Cond) (first second : List Statement) (middle : ℕ) (x y : Edge)
      (pushed begun final : List Node) → middle ≡ at + 1 + size first
      → x ≡ start_at (length first) (at + 1) after → y ≡ start_at (length second) middle after
      → pushed ≡ old ++ two_ways (Run self) x y ∷ []
      → begun ≡ pushed ++ all first (at + 1) after → final ≡ begun ++ all second middle after
      → final ≡ old ++ lay_in called (If test first second) self at after
  lays-if test first second middle x y pushed begun final middle-is x-is y-is pushed-is begun-is final-is =
      final-is
      ∙ ap (λ (nodes : List Node). nodes ++ all second middle after)
      (begun-is ∙ ap (λ (nodes : List Node). nodes ++ all first (at + 1) after) pushed-is)
      ∙ joined old (two_ways (Run self) x y) (all first (at + 1) after) (all second middle after)
      ∙ ap₂ (λ (a b : Edge). old ++ two_ways (Run self) a b ∷ (all first (at + 1) after ++ all second middle after))
      (x-is ∙ start-counted first (at + 1) after) (y-is ∙ start-counted second middle after)
      ∙ ap (λ (m : ℕ). old ++ two_ways (Run self) (start_row (rows first) (at + 1) after)
      (start_row (rows second) m after) ∷ (all first (at + 1) after ++ all second m after)) middle-is
      ∙ ap (λ (w : What). old ++ lay_in called w self at after) (sym (if-is test first second))

  pub lays-while : (test : Cond) (body : List Statement) (again x y : Edge) (pushed final : List Node)
      → again ≡ to_node at → x ≡ start_at (length body) (at + 1) again → y ≡ after
      → pushed ≡ old ++ two_ways (Run self) x y ∷ [] → final ≡ pushed ++ all body (at + 1) again
      → final ≡ old ++ lay_in called (While test body) self at after
  lays-while test body again x y pushed final again-is x-is y-is pushed-is final-is =
      final-is
      ∙ ap (λ (nodes : List Node). nodes ++ all body (at + 1) again) pushed-is
      ∙ append_assoc old (two_ways (Run self) x y ∷ []) (all body (at + 1) again)
      ∙ ap₂ (λ (a b : Edge). old ++ two_ways (Run self) a b ∷ all body (at + 1) again)
      (x-is ∙ start-counted body (at + 1) again) y-is
      ∙ ap (λ (e : Edge). old ++ two_ways (Run self) (start_row (rows body) (at + 1) e) after ∷ all body (at + 1) e)
      again-is
      ∙ ap (λ (w : What). old ++ lay_in called w self at after) (sym (while-is test body))

  pub lays-for : (variable : Variable) (from to : Expr) (down : Bool) (step : ℤ) (last : ℕ) (body : List Statement)
      (count : ℕ)
      (x y counts start tests : Edge) (first second begun final : List Node)
      → count ≡ at + 2 + size body → counts ≡ to_node count → x ≡ start_at (length body) (at + 2) counts → y ≡ after
      → start ≡ to_node (at + 1) → tests ≡ to_node (at + 1)
      → first ≡ old ++ one_way (Run self) start ∷ [] → second ≡ first ++ two_ways (Test self) x y ∷ []
      → begun ≡ second ++ all body (at + 2) counts
      → final ≡ begun ++ one_way (Last self) tests ∷ []
      → final ≡ old ++ lay_in called (For variable from to down step body last) self at after
  lays-for variable from to down step last body count x y counts start tests first second begun final count-is
      counts-is x-is
      y-is start-is tests-is first-is second-is begun-is final-is =
      final-is
      ∙ ap (λ (nodes : List Node). nodes ++ one_way (Last self) tests ∷ [])
      (begun-is ∙ ap (λ (nodes : List Node). nodes ++ all body (at + 2) counts)
      (second-is ∙ ap (λ (nodes : List Node). nodes ++ two_ways (Test self) x y ∷ []) first-is))
      ∙ joined (old ++ one_way (Run self) start ∷ []) (two_ways (Test self) x y) (all body (at + 2) counts)
      (one_way (Last self) tests ∷ [])
      ∙ append_assoc old (one_way (Run self) start ∷ [])
      (two_ways (Test self) x y ∷ (all body (at + 2) counts ++ one_way (Last self) tests ∷ []))
      ∙ ap₂ (λ (a b : Edge). old ++ one_way (Run self) a ∷ two_ways (Test self) x y
      ∷ (all body (at + 2) counts ++ one_way (Last self) b ∷ [])) start-is tests-is
      ∙ ap₂ (λ (a b : Edge). old ++ one_way (Run self) (to_node (at + 1)) ∷ two_ways (Test self) a b
      ∷ (all body (at + 2) counts ++ one_way (Last self) (to_node (at + 1)) ∷ []))
      (x-is ∙ start-counted body (at + 2) counts) y-is
      ∙ ap (λ (e : Edge). old ++ one_way (Run self) (to_node (at + 1))
      ∷ two_ways (Test self) (start_row (rows body) (at + 2) e) after
      ∷ (all body (at + 2) e ++ one_way (Last self) (to_node (at + 1)) ∷ []))
      (counts-is ∙ ap to_node count-is)
      ∙ ap (λ (w : What). old ++ lay_in called w self at after) (sym (for-is variable from to down step body last))

  pub lays-do : (test : Cond) (body : List Statement) (tests : ℕ) (again x y : Edge) (begun final : List Node)
      → tests ≡ at + size body → again ≡ to_node tests → x ≡ after → y ≡ start_at (length body) at again
      → begun ≡ old ++ all body at again → final ≡ begun ++ two_ways (Run self) x y ∷ []
      → final ≡ old ++ lay_in called (DoUntil body test) self at after
  lays-do test body tests again x y begun final tests-is again-is x-is y-is begun-is final-is =
      final-is
      ∙ ap (λ (nodes : List Node). nodes ++ two_ways (Run self) x y ∷ []) begun-is
      ∙ append_assoc old (all body at again) (two_ways (Run self) x y ∷ [])
      ∙ ap₂ (λ (a b : Edge). old ++ (all body at again ++ two_ways (Run self) a b ∷ [])) x-is
      (y-is ∙ start-counted body at again)
      ∙ ap (λ (e : Edge). old ++ (all body at e ++ two_ways (Run self) after (start_row (rows body) at e) ∷ []))
      (again-is ∙ ap to_node tests-is)
      ∙ ap (λ (w : What). old ++ lay_in called w self at after) (sym (do-is body test))

-- so many statements are laid out: with those that are left there will be all
module _ (called : ℕ → List Node) where
  abbrev size_left : List Statement → ℕ
  size_left statements = size_row (λ (k : ℕ). length (called k)) (rows statements)

  pub record IsLaying (statements : List Statement) (at : ℕ) (after : Edge) (old : List Node) (k next left : ℕ)
      (nodes : List Node) : Type 0 where
    pub laid : nodes ++ lay_row called (rows (drop k statements)) next after
        ≡ old ++ lay_row called (rows statements) at after
    pub left_is : left + k ≡ length statements
    pub room : next + size_left (drop k statements) ≡ at + size_left statements

  pub laying-starts : (statements : List Statement) (at : ℕ) (after : Edge) (old : List Node)
      → IsLaying statements at after old 0 at (length statements) old
  laying-starts statements at after old = record { laid = refl; left_is = omega arith; room = refl }

  split : (statements : List Statement) (k : ℕ) (statement : Statement) → statement ≡ get_or statements k statement
      → k < length statements
      → drop k statements ≡ statement ∷ drop (k + 1) statements
  split statements k statement is inside =
      at_drop_more (λ (xs : List Statement). xs) statements k statement inside
      ∙ ap (λ (s : Statement). s ∷ drop (k + 1) statements) (sym is)

  counted : (statements : List Statement) (k left : ℕ) → left + k ≡ length statements
      → length (drop k statements) ≡ left
  counted statements zero left is = omega arith
  counted [] (suc k) left is = absurd (omega arith)
  counted (statement ∷ statements) (suc k) left is = counted statements k left (omega arith)

  -- the size of the next statement, and that there is room for it
  pub next-fits : (statements : List Statement) (at : ℕ) (after : Edge) (old : List Node) (k next left : ℕ)
      (nodes : List Node) (statement : Statement)
      → IsLaying statements at after old k next left nodes → statement ≡ get_or statements k statement
      → k < length statements
      → next + size_in (λ (p : ℕ). length (called p)) statement.what + size_left (drop (k + 1) statements)
      ≡ at + size_left statements
  next-fits statements at after old k next left nodes statement so_far is inside =
      let more : size_left (drop k statements) ≡ size_left (statement ∷ drop (k + 1) statements) =
      ap size_left (split statements k statement is inside) in
      omega (arith, so_far.room)

  pub one-more-laid : (statements : List Statement) (at : ℕ) (after : Edge) (old : List Node) (k next left : ℕ)
      (nodes : List Node) (statement : Statement) (end : ℕ) (on : Edge) (more : List Node)
      → IsLaying statements at after old k next left nodes → statement ≡ get_or statements k statement
      → k < length statements
      → end ≡ next + size_in (λ (p : ℕ). length (called p)) statement.what → on ≡ start_at (left - 1) end after
      → more ≡ nodes ++ lay_in called statement.what statement next on
      → IsLaying statements at after old (k + 1) end (left - 1) more
  one-more-laid statements at after old k next left nodes statement end on more so_far is inside end-is on-is more-is =
      let later : List Statement = drop (k + 1) statements in
      let count : length later ≡ left - 1 = counted statements (k + 1) (left - 1) (omega (arith, so_far.left_is)) in
      let onward : on ≡ start_row (rows later) end after =
      on-is ∙ ap (λ (n : ℕ). start_at n end after) (sym count) ∙ start-counted later end after in
      record {
        laid =
            ap (λ (xs : List Node). xs ++ lay_row called (rows later) end after)
            (more-is ∙ ap (λ (e : Edge). nodes ++ lay_in called statement.what statement next e) onward)
            ∙ append_assoc nodes (lay_in called statement.what statement next (start_row (rows later) end after))
            (lay_row called (rows later) end after)
            ∙ ap (λ (n : ℕ). nodes ++ (lay_in called statement.what statement next (start_row (rows later) n after)
            ++ lay_row called (rows later) n after)) end-is
            ∙ ap (λ (xs : List Statement). nodes ++ lay_row called (rows xs) next after)
            (sym (split statements k statement is inside))
            ∙ so_far.laid;
        left_is = omega (arith, so_far.left_is);
        room = let fits = next-fits statements at after old k next left nodes statement so_far is inside in omega arith;
      }

  pub laying-ends : (statements : List Statement) (at : ℕ) (after : Edge) (old : List Node) (k next left : ℕ)
      (nodes : List Node)
      → IsLaying statements at after old k next left nodes → length statements ≤ k
      → nodes ≡ old ++ lay_row called (rows statements) at after
  laying-ends statements at after old k next left nodes so_far past =
      sym (append-nil nodes) ∙ ap (λ (xs : List Statement). nodes ++ lay_row called (rows xs) next after)
      (sym (drop_all k statements past)) ∙ so_far.laid
