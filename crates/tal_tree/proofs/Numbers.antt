-- The numbers of statements by their layers, and of lists of statements one behind the other.
use Rattle.std.proofs.Common.{◌≡◌, inl, ℕ, ◌+◌, List, [], ◌∷◌, ◌++◌, refl, ap, ap₂, sym, ◌∙◌, append_assoc, append-nil}
use Rattle.gd_words.specs.Members.{IsAmong}
use Rattle.gd_words.proofs.Among.{among-right}
use Rattle.tal_tree.specs.Rows.{if-is, while-is, for-is, do-is}
use Rattle.tal_tree.specs.Statements.{body_before, numbers_before, numbers_within, numbers_of}
use Rattle.tal_tree.specs.declared.statement.Statement.{Statement}
use Rattle.tal_tree.specs.declared.statement.What.{What, What-F, out-What, roll-What, roll-out-What}
use Rattle.tal_tree.specs.declared.statement.What.TheViews.{rolls-Assign, rolls-AssignCall, rolls-If, rolls-While}
use Rattle.tal_tree.specs.declared.statement.What.TheViews.{rolls-For, rolls-DoUntil, rolls-Call, rolls-Return}
use Rattle.tal_tree.specs.declared.statement.What.TheViews.{rolls-ReadUpdate, rolls-Reply, rolls-WriteRead}
use Rattle.tal_tree.specs.declared.statement.What.TheViews.{rolls-Checkpoint, rolls-CheckMonitor, rolls-Open}
use Rattle.tal_tree.specs.declared.statement.What.TheViews.{rolls-Stop}

-- those within a statement of this number, behind its own
abbrev pub numbers_inside : ℕ → What-F What Statement → List ℕ
numbers_inside number (What-F.If test first second) = numbers_of first ++ numbers_of second
numbers_inside number (What-F.While test body) = numbers_of body
numbers_inside number (What-F.For variable from to down step body last) = (number + 1) ∷ numbers_of body ++ last ∷ []
numbers_inside number (What-F.DoUntil _ _) = []
numbers_inside number (What-F.Assign _ _) = []
numbers_inside number (What-F.AssignCall _ _ _) = []
numbers_inside number (What-F.Call _ _) = []
numbers_inside number (What-F.Return _) = []
numbers_inside number (What-F.ReadUpdate _ _ _) = []
numbers_inside number (What-F.Reply _ _) = []
numbers_inside number (What-F.WriteRead _ _ _ _ _) = []
numbers_inside number (What-F.Checkpoint _ _) = []
numbers_inside number What-F.CheckMonitor = []
numbers_inside number (What-F.Open _) = []
numbers_inside number What-F.Stop = []

-- those of a statement of this number, by its layer
abbrev pub numbers_by : ℕ → What-F What Statement → List ℕ
numbers_by number layer = numbers_of (body_before layer) ++ (number ∷ numbers_inside number layer)

-- what a statement's layers tell is told by its layer
by-layers : {A : Type 0} (f : What → A) (g : What-F What Statement → A)
    → ((layer : What-F What Statement) → f (roll-What layer) ≡ g layer)
    → (what : What) → f what ≡ g (out-What what)
by-layers f g rolled what = ap f (sym (roll-out-What what)) ∙ rolled (out-What what)

module _ (number : ℕ) where
  inside-roll : (layer : What-F What Statement) → numbers_within number (roll-What layer) ≡ numbers_inside number layer
  inside-roll (What-F.Assign to value) = ap (numbers_within number) (rolls-Assign to value)
  inside-roll (What-F.AssignCall to procedure arguments) =
      ap (numbers_within number) (rolls-AssignCall to procedure arguments)
  inside-roll (What-F.If test first second) =
      ap (numbers_within number) (rolls-If test first second ∙ if-is test first second)
  inside-roll (What-F.While test body) = ap (numbers_within number) (rolls-While test body ∙ while-is test body)
  inside-roll (What-F.For variable from to down step body last) =
      ap (numbers_within number) (rolls-For variable from to down step body last
      ∙ for-is variable from to down step body last)
  inside-roll (What-F.DoUntil body test) = ap (numbers_within number) (rolls-DoUntil body test ∙ do-is body test)
  inside-roll (What-F.Call procedure arguments) = ap (numbers_within number) (rolls-Call procedure arguments)
  inside-roll (What-F.Return value) = ap (numbers_within number) (rolls-Return value)
  inside-roll (What-F.ReadUpdate buffer most got) = ap (numbers_within number) (rolls-ReadUpdate buffer most got)
  inside-roll (What-F.Reply buffer count) = ap (numbers_within number) (rolls-Reply buffer count)
  inside-roll (What-F.WriteRead file buffer send room got) =
      ap (numbers_within number) (rolls-WriteRead file buffer send room got)
  inside-roll (What-F.Checkpoint items files) = ap (numbers_within number) (rolls-Checkpoint items files)
  inside-roll What-F.CheckMonitor = ap (numbers_within number) rolls-CheckMonitor
  inside-roll (What-F.Open file) = ap (numbers_within number) (rolls-Open file)
  inside-roll What-F.Stop = ap (numbers_within number) rolls-Stop

  pub inside-is : (what : What) → numbers_within number what ≡ numbers_inside number (out-What what)
  inside-is = by-layers (numbers_within number) (numbers_inside number) inside-roll

before-roll : (layer : What-F What Statement) → numbers_before (roll-What layer) ≡ numbers_of (body_before layer)
before-roll (What-F.Assign to value) = ap numbers_before (rolls-Assign to value)
before-roll (What-F.AssignCall to procedure arguments) = ap numbers_before (rolls-AssignCall to procedure arguments)
before-roll (What-F.If test first second) = ap numbers_before (rolls-If test first second ∙ if-is test first second)
before-roll (What-F.While test body) = ap numbers_before (rolls-While test body ∙ while-is test body)
before-roll (What-F.For variable from to down step body last) =
    ap numbers_before (rolls-For variable from to down step body last ∙ for-is variable from to down step body last)
before-roll (What-F.DoUntil body test) = ap numbers_before (rolls-DoUntil body test ∙ do-is body test)
before-roll (What-F.Call procedure arguments) = ap numbers_before (rolls-Call procedure arguments)
before-roll (What-F.Return value) = ap numbers_before (rolls-Return value)
before-roll (What-F.ReadUpdate buffer most got) = ap numbers_before (rolls-ReadUpdate buffer most got)
before-roll (What-F.Reply buffer count) = ap numbers_before (rolls-Reply buffer count)
before-roll (What-F.WriteRead file buffer send room got) =
    ap numbers_before (rolls-WriteRead file buffer send room got)
before-roll (What-F.Checkpoint items files) = ap numbers_before (rolls-Checkpoint items files)
before-roll What-F.CheckMonitor = ap numbers_before rolls-CheckMonitor
before-roll (What-F.Open file) = ap numbers_before (rolls-Open file)
before-roll What-F.Stop = ap numbers_before rolls-Stop

pub before-is : (what : What) → numbers_before what ≡ numbers_of (body_before (out-What what))
before-is = by-layers numbers_before (λ layer. numbers_of (body_before layer)) before-roll

-- of a statement and those behind it
pub numbers-more : (statement : Statement) (rest : List Statement) → numbers_of (statement ∷ rest)
    ≡ numbers_of (body_before (out-What statement.what))
    ++ (statement.number ∷ numbers_inside statement.number (out-What statement.what) ++ numbers_of rest)
numbers-more statement rest =
    ap₂ (λ (before inside : List ℕ). before ++ (statement.number ∷ inside ++ numbers_of rest))
    (before-is statement.what) (inside-is statement.number statement.what)

-- the same, with the statement's numbers together
pub numbers-by : (statement : Statement) (rest : List Statement) → numbers_of (statement ∷ rest)
    ≡ numbers_by statement.number (out-What statement.what) ++ numbers_of rest
numbers-by statement rest =
    numbers-more statement rest
    ∙ sym (append_assoc (numbers_of (body_before (out-What statement.what)))
    (statement.number ∷ numbers_inside statement.number (out-What statement.what)) (numbers_of rest))

-- of one statement by its layer
pub numbers-one : (number line : ℕ) (what : What) (layer : What-F What Statement) → out-What what ≡ layer
    → numbers_of (record { number = number; line = line; what = what } ∷ []) ≡ numbers_by number layer
numbers-one number line what layer is =
    numbers-by (record { number = number; line = line; what = what }) []
    ∙ append-nil (numbers_by number (out-What what))
    ∙ ap (numbers_by number) is

pub numbers-append : (first second : List Statement)
    → numbers_of (first ++ second) ≡ numbers_of first ++ numbers_of second
numbers-append [] second = refl
numbers-append (statement ∷ first) second =
    let before : List ℕ = numbers_before statement.what in
    let own : List ℕ = statement.number ∷ numbers_within statement.number statement.what in
    ap (λ (later : List ℕ). before ++ (own ++ later)) (numbers-append first second)
    ∙ ap (λ (later : List ℕ). before ++ later) (sym (append_assoc own (numbers_of first) (numbers_of second)))
    ∙ sym (append_assoc before (own ++ numbers_of first) (numbers_of second))

-- a statement's own number is one of its numbers
pub own-among : (statement : Statement) (rest : List Statement)
    → IsAmong statement.number (numbers_of (statement ∷ rest))
own-among statement rest =
    among-right statement.number (numbers_before statement.what)
    (statement.number ∷ numbers_within statement.number statement.what ++ numbers_of rest) (inl refl)
