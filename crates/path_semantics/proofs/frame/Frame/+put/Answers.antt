use Rattle.std.proofs.Common.{rules, arith, ◌≡◌, ◌+◌, ◌<◌, ℕ, List, [], ◌∷◌, ◌++◌, length, refl, ap, ap₂, sym, ◌∙◌}
use Rattle.std.proofs.lemmas.List.{length-append}
use Rattle.std.proofs.lemmas.Grind.{common_steps}
use Rattle.std.proofs.lemmas.Result.{on_ok_weaker}
use Rattle.tal_tree.specs.Statements.{body_before, numbers_of}
use Rattle.tal_tree.specs.declared.statement.Statement.{Statement}
use Rattle.tal_tree.specs.declared.statement.What.{out-What}
use Rattle.tal_tree.proofs.Numbers.{numbers_inside, numbers-one}
use Rattle.process_semantics.specs.SeenEntries.{stack}
use Rattle.process_semantics.specs.State.{Entry, Run, runs_of}
use Rattle.process_semantics.proofs.Stacks.{numbers-last, runs-last}
use Rattle.path_semantics.proofs.frame.Frame.+put.Goals as goal

none-left : (statements : List Statement) → length statements ≡ 0 → statements ≡ []
none-left [] none = refl
none-left (statement ∷ rest) none = absurd (omega arith)

-- the body that is done before a statement has fewer numbers
numbers-before : (statement : Statement) (body : List Statement) → body ≡ body_before (out-What statement.what)
    → length (numbers_of body) < length (numbers_of (statement ∷ []))
numbers-before statement body is =
    let before : List ℕ = numbers_of (body_before (out-What statement.what)) in
    let own : List ℕ = statement.number ∷ numbers_inside statement.number (out-What statement.what) in
    let same : length (numbers_of body) ≡ length before = ap (λ (ss : List Statement). length (numbers_of ss)) is in
    let all : length (numbers_of (statement ∷ [])) ≡ length (before ++ own) =
    ap length (numbers-one statement.number statement.line statement.what (out-What statement.what) refl) in
    omega (arith, length-append before own)

pub put_all-put_statement-requires : goal.put_all-put_statement-requires
put_all-put_statement-requires t c =
    let split : c.loop-last.left.now ≡ c.in-Some.front.now ++ c.in-Some.last.now ∷ [] = c.in-Some.ensures.cases.0 in
    let few : length (numbers_of c.loop-last.left.now)
    ≡ length (numbers_of c.in-Some.front.now) + length (numbers_of (c.in-Some.last.now ∷ [])) =
    ap (λ (ss : List Statement). length (numbers_of ss)) split ∙ numbers-last c.in-Some.front.now c.in-Some.last.now in
    (omega (arith, c.decreases, c.loop-last.invariant.1), tt)

pub put_all-loop-last-preserved : goal.put_all-loop-last-preserved
put_all-loop-last-preserved t c =
    let split : c.loop-last.left.now ≡ c.in-Some.front.now ++ c.in-Some.last.now ∷ [] = c.in-Some.ensures.cases.0 in
    let few : length (numbers_of c.loop-last.left.now)
    ≡ length (numbers_of c.in-Some.front.now) + length (numbers_of (c.in-Some.last.now ∷ [])) =
    ap (λ (ss : List Statement). length (numbers_of ss)) split
    ∙ numbers-last c.in-Some.front.now c.in-Some.last.now in (
      ap (λ (entries : List Entry). runs_of c.in-Some.front.now ++ entries) c.in_ok-put_statement.ensures
          ∙ sym (runs-last c.in-Some.front.now c.in-Some.last.now c.loop-last.self)
          ∙ ap (λ (ss : List Statement). runs_of ss ++ c.loop-last.self) (sym split)
          ∙ c.loop-last.invariant.0,
      omega (arith, c.loop-last.invariant.1),
    )

pub put_all-returns : goal.put_all-returns
put_all-returns t c =
    sym (ap (λ (ss : List Statement). runs_of ss ++ c.loop-last.self)
    (none-left c.loop-last.left.now c.in_default.ensures.cases))
    ∙ c.loop-last.invariant.0

pub put_statement-put_all-requires : goal.put_statement-put_all-requires
put_statement-put_all-requires t c =
    let fewer : length (numbers_of c.body_before.result.now) < length (numbers_of (c.args.statement.now ∷ [])) =
    numbers-before c.args.statement.now c.body_before.result.now c.body_before.ensures in
    (omega (arith, c.decreases), tt)

pub put_statement-returns : goal.put_statement-returns
put_statement-returns t c =
    let pushed : stack c.push.new.self.items ≡ Run c.args.statement.now ∷ c.args.self.now =
    first_of (search rules, grind (arith, common_steps)) in
    on_ok_weaker c.put_all.result
    (λ put. put ∙ ap₂ (λ (ss : List Statement) (entries : List Entry). runs_of ss ++ entries) c.body_before.ensures
    pushed)
    c.put_all.ensures
