-- The lines of statements stand where their numbers stand.
use Rattle.std.proofs.Common.{◌≡◌, inl, inr, ℕ, zero, suc, ◌+◌, arith, List, [], ◌∷◌, ◌++◌, length, Option, Some}
use Rattle.std.proofs.Common.{slice_get, flat_map, refl, ap, subst, sym, ◌∙◌}
use Rattle.std.specs.Option.{unwrap_or}
use Rattle.std.proofs.lemmas.List.{length-append}
use Rattle.tal_tree.specs.gd_words.specs.Members.{IsAmong}
use Rattle.tal_tree.specs.gd_words.proofs.Among.{among-either, among-given}
use Rattle.tal_tree.specs.ByStatements.{HoldsInside, by-statements}
use Rattle.tal_tree.specs.Ordered.{IsNumbered, numbers_in_all}
use Rattle.tal_tree.specs.Statements.{all_of, numbers_of}
use Rattle.tal_tree.specs.declared.program.Procedure.{Procedure}
use Rattle.tal_tree.specs.declared.program.Program.{Program}
use Rattle.tal_tree.specs.declared.statement.Statement.{Statement}
use Rattle.tal_tree.specs.declared.statement.What.{What, What-F, out-What}
use Rattle.tal_tree.proofs.Numbers.{numbers_inside, numbers_by, numbers-by}
use Rattle.tal_tree.proofs.Within.{within_of, within-is}
use Rattle.statement_lines.specs.Lines.{lines_in, lines_of, line_among, line_of}
use Rattle.statement_lines.proofs.Layers.{lines_inside, lines_by, lines-by}

-- a number stands where a line stands
record IsAt (number line : ℕ) (numbers lines : List ℕ) : Type 0 where
  place : ℕ
  counted : slice_get numbers place ≡ Some number
  lined : slice_get lines place ≡ Some line

at-first : (number line : ℕ) (numbers lines : List ℕ) → IsAt number line (number ∷ numbers) (line ∷ lines)
at-first number line numbers lines = record { place = zero; counted = refl; lined = refl }

at-next : (number line n l : ℕ) (numbers lines : List ℕ) → IsAt number line numbers lines
    → IsAt number line (n ∷ numbers) (l ∷ lines)
at-next number line n l numbers lines at = record { place = suc at.place; counted = at.counted; lined = at.lined }

still-there : (xs ys : List ℕ) (k x : ℕ) → slice_get xs k ≡ Some x → slice_get (xs ++ ys) k ≡ Some x
still-there [] ys k x there = absurd (cc)
still-there (y ∷ xs) ys zero x there = there
still-there (y ∷ xs) ys (suc k) x there = still-there xs ys k x there

at-left : (number line : ℕ) (numbers lines ns ls : List ℕ) → IsAt number line numbers lines
    → IsAt number line (numbers ++ ns) (lines ++ ls)
at-left number line numbers lines ns ls at = record {
  place = at.place;
  counted = still-there numbers ns at.place number at.counted;
  lined = still-there lines ls at.place line at.lined;
}

at-right : (number line : ℕ) (numbers lines ns ls : List ℕ) → length lines ≡ length numbers → IsAt number line ns ls
    → IsAt number line (numbers ++ ns) (lines ++ ls)
at-right number line [] [] ns ls same at = at
at-right number line [] (l ∷ lines) ns ls same at = absurd (omega arith)
at-right number line (n ∷ numbers) [] ns ls same at = absurd (omega arith)
at-right number line (n ∷ numbers) (l ∷ lines) ns ls same at =
    at-next number line n l (numbers ++ ns) (lines ++ ls) (at-right number line numbers lines ns ls (omega arith) at)

-- the numbers of a statement itself: a FOR has three
abbrev own_numbers : ℕ → What-F What Statement → List ℕ
own_numbers number (What-F.For variable from to down step body last) = number ∷ (number + 1) ∷ last ∷ []
own_numbers number _ = number ∷ []

-- there are as many lines as numbers, and each statement's line stands where its numbers stand
record AreAligned (statements : List Statement) (numbers lines : List ℕ) : Type 0 where
  same : length lines ≡ length numbers
  there : (statement : Statement) (number : ℕ) → IsAmong statement statements
      → IsAmong number (own_numbers statement.number (out-What statement.what))
      → IsAt number statement.line numbers lines

aligned-append : (xs ys : List Statement) (numbers lines ns ls : List ℕ) → AreAligned xs numbers lines
    → AreAligned ys ns ls
    → AreAligned (xs ++ ys) (numbers ++ ns) (lines ++ ls)
aligned-append xs ys numbers lines ns ls first second = record {
  same = let one =
      first.same in let two = second.same in omega (arith, length-append lines ls, length-append numbers ns);
  there = λ statement number among own. elim (among-either statement xs ys among) [
    | inl left ↦ at-left number statement.line numbers lines ns ls (first.there statement number left own)
    | inr right ↦ at-right number statement.line numbers lines ns ls first.same
        (second.there statement number right own)
  ];
}

-- a statement's own line, and those within it
abbrev OwnAligned : ℕ → ℕ → What-F What Statement → Type 0
OwnAligned number line layer = (n : ℕ) → IsAmong n (own_numbers number layer)
    → IsAt n line (number ∷ numbers_inside number layer) (line ∷ lines_inside line layer)

abbrev InsideAligned : ℕ → ℕ → What-F What Statement → Type 0
InsideAligned number line layer = AreAligned (within_of layer) (numbers_inside number layer) (lines_inside line layer)

one-own : (number line n : ℕ) (numbers lines : List ℕ) → IsAmong n (number ∷ [])
    → IsAt n line (number ∷ numbers) (line ∷ lines)
one-own number line n numbers lines (inl is) =
    subst (λ (m : ℕ). IsAt m line (number ∷ numbers) (line ∷ lines)) (sym is) (at-first number line numbers lines)
one-own number line n numbers lines (inr none) = absurd none

none-aligned : AreAligned [] [] []
none-aligned = record { same = refl; there = λ statement number among own. absurd among }

abbrev Aligned : List Statement → Type 0
Aligned statements = AreAligned (all_of statements) (numbers_of statements) (lines_in statements)

for-own : (number line last n : ℕ) (body : List Statement) → Aligned body
    → IsAmong n (number ∷ (number + 1) ∷ last ∷ [])
    → IsAt n line (number ∷ (number + 1) ∷ numbers_of body ++ last ∷ []) (line ∷ line ∷ lines_in body ++ line ∷ [])
for-own number line last n body inside (inl is) =
    subst (λ (m : ℕ). IsAt m line (number ∷ (number + 1) ∷ numbers_of body ++ last ∷ [])
    (line ∷ line ∷ lines_in body ++ line ∷ [])) (sym is)
    (at-first number line ((number + 1) ∷ numbers_of body ++ last ∷ []) (line ∷ lines_in body ++ line ∷ []))
for-own number line last n body inside (inr (inl is)) =
    subst (λ (m : ℕ). IsAt m line (number ∷ (number + 1) ∷ numbers_of body ++ last ∷ [])
    (line ∷ line ∷ lines_in body ++ line ∷ [])) (sym is)
    (at-next (number + 1) line number line ((number + 1) ∷ numbers_of body ++ last ∷ [])
    (line ∷ lines_in body ++ line ∷ [])
    (at-first (number + 1) line (numbers_of body ++ last ∷ []) (lines_in body ++ line ∷ [])))
for-own number line last n body inside (inr (inr (inl is))) =
    subst (λ (m : ℕ). IsAt m line (number ∷ (number + 1) ∷ numbers_of body ++ last ∷ [])
    (line ∷ line ∷ lines_in body ++ line ∷ [])) (sym is)
    (at-right last line (number ∷ (number + 1) ∷ numbers_of body) (line ∷ line ∷ lines_in body) (last ∷ []) (line ∷ [])
    (ap (λ (m : ℕ). suc (suc m)) inside.same) (at-first last line [] []))
for-own number line last n body inside (inr (inr (inr none))) = absurd none

for-inside : (number line last : ℕ) (body : List Statement) → Aligned body
    → AreAligned (all_of body) ((number + 1) ∷ numbers_of body ++ last ∷ []) (line ∷ lines_in body ++ line ∷ [])
for-inside number line last body inside = record {
  same = let same : length (lines_in body) ≡ length (numbers_of body) = inside.same in
      omega (arith, length-append (lines_in body) (line ∷ []), length-append (numbers_of body) (last ∷ []));
  there = λ statement n among own. at-next n statement.line (number + 1) line (numbers_of body ++ last ∷ [])
      (lines_in body ++ line ∷ [])
      (at-left n statement.line (numbers_of body) (lines_in body) (last ∷ []) (line ∷ [])
      (inside.there statement n among own));
}

layer-own : (number line : ℕ) (layer : What-F What Statement) → HoldsInside Aligned layer → OwnAligned number line layer
layer-own number line (What-F.For variable from to down step body last) holds n own = for-own number line last n body
    holds own
layer-own number line (What-F.If test first second) holds n own =
    one-own number line n (numbers_of first ++ numbers_of second) (lines_in first ++ lines_in second) own
layer-own number line (What-F.While test body) holds n own = one-own number line n (numbers_of body) (lines_in body) own
layer-own number line _ holds n own = one-own number line n [] [] own

-- a statement with those that stand in it, where none stands before its number
plain-aligned : (statement : Statement) (layer : What-F What Statement) → out-What statement.what ≡ layer
    → HoldsInside Aligned layer → InsideAligned statement.number statement.line layer
    → AreAligned (statement ∷ within_of layer) (statement.number ∷ numbers_inside statement.number layer)
    (statement.line ∷ lines_inside statement.line layer)
plain-aligned statement layer is holds inner = record {
  same = ap suc inner.same;
  there = λ one n among own. which one n among own;
}
  where
    which : (one : Statement) (n : ℕ) → IsAmong one (statement ∷ within_of layer)
        → IsAmong n (own_numbers one.number (out-What one.what))
        → IsAt n one.line (statement.number ∷ numbers_inside statement.number layer)
        (statement.line ∷ lines_inside statement.line layer)
    which one n (inl same) own =
        subst (λ (s : Statement). IsAt n s.line (statement.number ∷ numbers_inside statement.number layer)
        (statement.line ∷ lines_inside statement.line layer)) (sym same)
        (layer-own statement.number statement.line layer holds n
        (subst (λ (l : What-F What Statement). IsAmong n (own_numbers statement.number l)) is
        (subst (λ (s : Statement). IsAmong n (own_numbers s.number (out-What s.what))) same own)))
    which one n (inr among) own =
        at-next n one.line statement.number statement.line (numbers_inside statement.number layer)
        (lines_inside statement.line layer) (inner.there one n among own)

-- a DO with those of its body, which stand before its number
do-aligned : (statement : Statement) (body : List Statement) (test : _)
    → out-What statement.what ≡ What-F.DoUntil body test → Aligned body
    → AreAligned (statement ∷ all_of body) (numbers_of body ++ statement.number ∷ [])
    (lines_in body ++ statement.line ∷ [])
do-aligned statement body test is holds = record {
  same = let same : length (lines_in body) ≡ length (numbers_of body) = holds.same in
      omega (
        arith,
        length-append (lines_in body) (statement.line ∷ []),
        length-append (numbers_of body) (statement.number ∷ []),
      );
  there = λ one n among own. which one n among own;
}
  where
    which : (one : Statement) (n : ℕ) → IsAmong one (statement ∷ all_of body)
        → IsAmong n (own_numbers one.number (out-What one.what))
        → IsAt n one.line (numbers_of body ++ statement.number ∷ []) (lines_in body ++ statement.line ∷ [])
    which one n (inl same) own =
        subst (λ (s : Statement). IsAt n s.line (numbers_of body ++ statement.number ∷ [])
        (lines_in body ++ statement.line ∷ [])) (sym same)
        (at-right n statement.line (numbers_of body) (lines_in body) (statement.number ∷ []) (statement.line ∷ [])
        holds.same (one-own statement.number statement.line n [] []
        (subst (λ (l : What-F What Statement). IsAmong n (own_numbers statement.number l)) is
        (subst (λ (s : Statement). IsAmong n (own_numbers s.number (out-What s.what))) same own))))
    which one n (inr among) own =
        at-left n one.line (numbers_of body) (lines_in body) (statement.number ∷ []) (statement.line ∷ [])
        (holds.there one n among own)

one-aligned : (statement : Statement) (layer : What-F What Statement) → out-What statement.what ≡ layer
    → HoldsInside Aligned layer
    → AreAligned (statement ∷ within_of layer) (numbers_by statement.number layer) (lines_by statement.line layer)
one-aligned statement (What-F.DoUntil body test) is holds = do-aligned statement body test is holds
one-aligned statement (What-F.If test first second) is holds =
    plain-aligned statement (What-F.If test first second) is holds
    (aligned-append (all_of first) (all_of second) (numbers_of first) (lines_in first) (numbers_of second)
    (lines_in second) holds.0 holds.1)
one-aligned statement (What-F.While test body) is holds =
    plain-aligned statement (What-F.While test body) is holds holds
one-aligned statement (What-F.For variable from to down step body last) is holds =
    plain-aligned statement (What-F.For variable from to down step body last) is holds
    (for-inside statement.number statement.line last body holds)
one-aligned statement layer is holds = plain-aligned statement layer is holds none-aligned

more-aligned : (statement : Statement) (rest : List Statement) → HoldsInside Aligned (out-What statement.what)
    → Aligned rest → Aligned (statement ∷ rest)
more-aligned statement rest holds later =
    subst (λ (parts : List Statement). AreAligned ((statement ∷ parts) ++ all_of rest) (numbers_of (statement ∷ rest))
    (lines_in (statement ∷ rest)))
    (sym (within-is statement.what))
    (subst (λ (ns : List ℕ). AreAligned ((statement ∷ within_of (out-What statement.what)) ++ all_of rest) ns
    (lines_in (statement ∷ rest)))
    (sym (numbers-by statement rest))
    (subst (λ (ls : List ℕ). AreAligned ((statement ∷ within_of (out-What statement.what)) ++ all_of rest)
    (numbers_by statement.number (out-What statement.what) ++ numbers_of rest) ls)
    (sym (lines-by statement rest))
    (aligned-append (statement ∷ within_of (out-What statement.what)) (all_of rest)
    (numbers_by statement.number (out-What statement.what)) (lines_by statement.line (out-What statement.what))
    (numbers_of rest) (lines_in rest)
    (one-aligned statement (out-What statement.what) refl holds) later)))

aligned : (statements : List Statement) → Aligned statements
aligned = by-statements Aligned (record { none = none-aligned; more = more-aligned })

abbrev all_in_all : List Procedure → List Statement
all_in_all procedures = flat_map (λ procedure. all_of procedure.body) procedures

abbrev lines_in_all : List Procedure → List ℕ
lines_in_all procedures = flat_map (λ procedure. lines_in procedure.body) procedures

all-aligned : (procedures : List Procedure)
    → AreAligned (all_in_all procedures) (numbers_in_all procedures) (lines_in_all procedures)
all-aligned [] = none-aligned
all-aligned (procedure ∷ rest) =
    aligned-append (all_of procedure.body) (all_in_all rest) (numbers_of procedure.body) (lines_in procedure.body)
    (numbers_in_all rest) (lines_in_all rest)
    (aligned procedure.body) (all-aligned rest)

-- there is one line for each number
pub length-lines_of : (program : Program) → length (lines_of program) ≡ length (numbers_in_all program.procedures)
length-lines_of program = (all-aligned program.procedures).same

own-line : (program : Program) (procedure : Procedure) (statement : Statement) (number : ℕ) → IsNumbered program
    → IsAmong procedure program.procedures
    → IsAmong statement (all_of procedure.body)
    → IsAmong number (own_numbers statement.number (out-What statement.what)) → line_of program number ≡ statement.line
own-line program procedure statement number numbered among inside own =
    ap (line_among (lines_of program)) is ∙ ap (λ (found : Option ℕ). unwrap_or found 0) at.lined
  where
    at : IsAt number statement.line (numbers_in_all program.procedures) (lines_of program)
    at = (all-aligned program.procedures).there statement number
        (among-given (λ (p : Procedure). all_of p.body) procedure statement program.procedures among inside) own

    is : number ≡ suc at.place
    is = let counted : number ≡ at.place + 1 = numbered at.place number at.counted in omega arith

first-own : (number : ℕ) (layer : What-F What Statement) → IsAmong number (own_numbers number layer)
first-own number (What-F.For variable from to down step body last) = inl refl
first-own number _ = inl refl

module _ (program : Program) (procedure : Procedure) (statement : Statement) (numbered : IsNumbered program)
    (among : IsAmong procedure program.procedures)
    (inside : IsAmong statement (all_of procedure.body)) where
  -- a statement's number has its line
  pub line-own : line_of program statement.number ≡ statement.line
  line-own = own-line program procedure statement statement.number numbered among inside
      (first-own statement.number (out-What statement.what))

  -- and so have the other numbers of a FOR
  pub line-other : (layer : What-F What Statement) (number : ℕ) → out-What statement.what ≡ layer
      → IsAmong number (own_numbers statement.number layer)
      → line_of program number ≡ statement.line
  line-other layer number is own =
      own-line program procedure statement number numbered among inside
      (subst (λ (l : What-F What Statement). IsAmong number (own_numbers statement.number l)) (sym is) own)
