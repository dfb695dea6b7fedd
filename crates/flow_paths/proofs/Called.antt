-- What statements call, by layers, and how large they are: by rows, and as the sizes of programs count it.
use Rattle.std.proofs.Common.{◌≡◌, inl, ℕ, ◌+◌, arith, List, [], ◌∷◌, ◌++◌, map, length, flat_map, refl, ap}
use Rattle.std.proofs.Common.{subst, sym, ◌∙◌}
use Rattle.std.specs.Prelude.{sum}
use Rattle.std.proofs.lemmas.Grind.{flat_map-append}
use Rattle.std.proofs.lemmas.List.{length-append}
use Rattle.std.proofs.lemmas.List.Sums.{sum-map, sum_by-cons}
use Rattle.gd_words.specs.Members.{IsAmong}
use Rattle.gd_words.proofs.Among.{among-left, among-right}
use Rattle.tal_tree.specs.ByStatements.{HoldsInside, by-statements}
use Rattle.tal_tree.specs.Statements.{within, all_of, numbers_of, call_in, own_calls, calls_of}
use Rattle.tal_tree.specs.declared.statement.Statement.{Statement}
use Rattle.tal_tree.specs.declared.statement.What.{What, What-F, out-What}
use Rattle.tal_tree.proofs.Numbers.{numbers_by, numbers-by}
use Rattle.tal_tree.proofs.Within.{within_of, within-is}
use Rattle.path_semantics.specs.Bounds.{size_from}
use Rattle.flow_paths.specs.Layout.{size_in, size_at}
use Rattle.flow_paths.proofs.Layers.{size_of, size_by, size-is}

-- What is called

abbrev pub Calls : (ℕ → Type 0) → List Statement → Type 0
Calls Good statements = (procedure : ℕ) → IsAmong procedure (calls_of statements) → Good procedure

abbrev pub CallsBy : (ℕ → Type 0) → What-F What Statement → Type 0
CallsBy Good (What-F.If test first second) = Calls Good first × Calls Good second
CallsBy Good (What-F.While test body) = Calls Good body
CallsBy Good (What-F.DoUntil body test) = Calls Good body
CallsBy Good (What-F.For variable from to down step body last) = Calls Good body
CallsBy Good (What-F.AssignCall to procedure arguments) = Good procedure
CallsBy Good (What-F.Call procedure arguments) = Good procedure
CallsBy Good _ = Unit {0}

calls-more : (statement : Statement) (rest : List Statement)
    → calls_of (statement ∷ rest) ≡ (own_calls statement ++ flat_map own_calls (within statement.what)) ++ calls_of rest
calls-more statement rest = flat_map-append own_calls (statement ∷ within statement.what) (all_of rest)

calls-layer : (Good : ℕ → Type 0) (layer : What-F What Statement)
    → ((procedure : ℕ) → IsAmong procedure (call_in layer ++ flat_map own_calls (within_of layer)) → Good procedure)
    → CallsBy Good layer
calls-layer Good (What-F.If test first second) good = (
  (λ procedure among. good procedure (subst (IsAmong procedure)
      (sym (flat_map-append own_calls (all_of first) (all_of second)))
      (among-left procedure (calls_of first) (calls_of second) among))),
  (λ procedure among. good procedure (subst (IsAmong procedure)
      (sym (flat_map-append own_calls (all_of first) (all_of second)))
      (among-right procedure (calls_of first) (calls_of second) among))),
)
calls-layer Good (What-F.While test body) good = good
calls-layer Good (What-F.DoUntil body test) good = good
calls-layer Good (What-F.For variable from to down step body last) good = good
calls-layer Good (What-F.AssignCall to procedure arguments) good = good procedure (inl refl)
calls-layer Good (What-F.Call procedure arguments) good = good procedure (inl refl)
calls-layer Good _ good = tt

pub calls-first : (Good : ℕ → Type 0) (statement : Statement) (rest : List Statement) → Calls Good (statement ∷ rest)
    → CallsBy Good (out-What statement.what)
calls-first Good statement rest good =
    calls-layer Good (out-What statement.what)
    (λ procedure among. good procedure (subst (IsAmong procedure) (sym (calls-more statement rest))
    (among-left procedure (own_calls statement ++ flat_map own_calls (within statement.what)) (calls_of rest)
    (subst (λ (parts : List Statement). IsAmong procedure (own_calls statement ++ flat_map own_calls parts))
    (sym (within-is statement.what)) among))))

pub calls-rest : (Good : ℕ → Type 0) (statement : Statement) (rest : List Statement) → Calls Good (statement ∷ rest)
    → Calls Good rest
calls-rest Good statement rest good =
    λ procedure among. good procedure (subst (IsAmong procedure) (sym (calls-more statement rest))
    (among-right procedure (own_calls statement ++ flat_map own_calls (within statement.what)) (calls_of rest) among))

-- Sizes

abbrev pub total : (ℕ → ℕ) → List ℕ → ℕ
total f [] = 0
total f (x ∷ xs) = f x + total f xs

pub total-is : (f : ℕ → ℕ) (xs : List ℕ) → total f xs ≡ sum (map f xs)
total-is f [] = refl
total-is f (x ∷ xs) =
    ap (λ (n : ℕ). f x + n) (total-is f xs ∙ sum-map f xs) ∙ sym (sum_by-cons f x xs) ∙ sym (sum-map f (x ∷ xs))

total-append : (f : ℕ → ℕ) (xs ys : List ℕ) → total f (xs ++ ys) ≡ total f xs + total f ys
total-append f [] ys = omega arith
total-append f (x ∷ xs) ys =
    let rest : total f (xs ++ ys) ≡ total f xs + total f ys = total-append f xs ys in omega arith

module _ (before : List ℕ) where
  abbrev called_sizes : List ℕ → ℕ
  called_sizes procedures = total (size_at before) procedures

  abbrev Sized : List Statement → Type 0
  Sized statements =
      size_of (size_at before) statements ≡ length (numbers_of statements) + called_sizes (calls_of statements)

  sized-by : (number : ℕ) (layer : What-F What Statement) → HoldsInside Sized layer
      → size_by (size_at before) layer ≡ length (numbers_by number layer)
      + called_sizes (call_in layer ++ flat_map own_calls (within_of layer))
  sized-by number (What-F.If test first second) parts =
      let calls : called_sizes (flat_map own_calls (all_of first ++ all_of second))
      ≡ called_sizes (calls_of first) + called_sizes (calls_of second) =
      ap called_sizes (flat_map-append own_calls (all_of first) (all_of second))
      ∙ total-append (size_at before) (calls_of first) (calls_of second) in
      let numbers : length (numbers_of first ++ numbers_of second)
      ≡ length (numbers_of first) + length (numbers_of second) =
      length-append (numbers_of first) (numbers_of second) in
      let one : Sized first = parts.0 in
      let two : Sized second = parts.1 in
      omega arith
  sized-by number (What-F.While test body) parts = let one : Sized body = parts in omega arith
  sized-by number (What-F.For variable from to down step body last) parts =
      let one : Sized body = parts in
      let numbers : length (numbers_of body ++ last ∷ []) ≡ length (numbers_of body) + 1 =
      length-append (numbers_of body) (last ∷ []) in
      omega arith
  sized-by number (What-F.DoUntil body test) parts =
      let one : Sized body = parts in
      let numbers : length (numbers_of body ++ number ∷ []) ≡ length (numbers_of body) + 1 =
      length-append (numbers_of body) (number ∷ []) in
      omega arith
  sized-by number (What-F.AssignCall to procedure arguments) parts = omega arith
  sized-by number (What-F.Call procedure arguments) parts = omega arith
  sized-by number (What-F.Assign to value) parts = refl
  sized-by number (What-F.Return value) parts = refl
  sized-by number (What-F.ReadUpdate buffer most got) parts = refl
  sized-by number (What-F.Reply buffer count) parts = refl
  sized-by number (What-F.WriteRead file buffer send room got) parts = refl
  sized-by number (What-F.Checkpoint items files) parts = refl
  sized-by number What-F.CheckMonitor parts = refl
  sized-by number (What-F.Open file) parts = refl
  sized-by number What-F.Stop parts = refl

  sized-more : (statement : Statement) (rest : List Statement) → HoldsInside Sized (out-What statement.what)
      → Sized rest → Sized (statement ∷ rest)
  sized-more statement rest parts later =
      let own : List ℕ = own_calls statement ++ flat_map own_calls (within statement.what) in
      let first : size_in (size_at before) statement.what
      ≡ length (numbers_by statement.number (out-What statement.what)) + called_sizes own =
      size-is (size_at before) statement.what ∙ sized-by statement.number (out-What statement.what) parts
      ∙ ap (λ (inside : List Statement). length (numbers_by statement.number (out-What statement.what))
      + called_sizes (own_calls statement ++ flat_map own_calls inside)) (sym (within-is statement.what)) in
      let calls : called_sizes (calls_of (statement ∷ rest)) ≡ called_sizes own + called_sizes (calls_of rest) =
      ap called_sizes (calls-more statement rest) ∙ total-append (size_at before) own (calls_of rest) in
      let numbers : length (numbers_of (statement ∷ rest))
      ≡ length (numbers_by statement.number (out-What statement.what)) + length (numbers_of rest) =
      ap length (numbers-by statement rest)
      ∙ length-append (numbers_by statement.number (out-What statement.what)) (numbers_of rest) in
      omega arith

  -- the size by rows is the one that programs count
  pub sized : (statements : List Statement) → size_of (size_at before) statements ≡ size_from before statements
  sized statements =
      by-statements Sized (record { none = refl; more = sized-more }) statements
      ∙ ap (λ (n : ℕ). length (numbers_of statements) + n) (total-is (size_at before) (calls_of statements))
