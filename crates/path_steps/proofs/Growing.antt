-- Dues that grow, and words of globals that stay.
use Rattle.std.proofs.Common.{◌≡◌, ◌≤◌, ℕ, zero, suc, ◌+◌, ◌==◌, ℤ, Bool, true, false, ◌||◌, List, [], ◌∷◌, ◌++◌}
use Rattle.std.proofs.Common.{count_by, Option, Some, None, option_map, slice_get, slice_set, unwrap_or, refl, ap, sym}
use Rattle.std.proofs.Common.{◌∙◌, arith, eq-eqb}
use Rattle.std.specs.Prelude.{cond}
use Rattle.std.proofs.lemmas.Bool.{or_parts}
use Rattle.std.proofs.lemmas.List.Folds.{list_any-append}
use Rattle.std.proofs.lemmas.List.Sums.{sum_by-append}
use Rattle.tal_tree.specs.declared.expression.Spot.{Spot, Local, Simple, Element}
use Rattle.tal_tree.specs.declared.expression.Variable.{Variable}
use Rattle.tal_tree.specs.declared.expression.Variable.TheVariants as variable
use Rattle.tal_tree.specs.declared.statement.Statement.{Statement}
use Rattle.tal_tree.specs.declared.statement.What.{What, What-F}
use Rattle.process_semantics.specs.tal_values.specs.declared.memory.Cell.{Cell}
use Rattle.process_semantics.specs.tal_values.specs.declared.memory.Cell.TheVariants as cell
use Rattle.process_semantics.specs.tal_values.specs.Value.{Memory, cell_of}
use Rattle.process_semantics.specs.State.{ProgramState, words_of}
use Rattle.process_semantics.specs.Changes.{with_word, variable_cell}
use Rattle.path_semantics.specs.declared.dues.Dues.{Dues}
use Rattle.path_semantics.specs.Dues.{with_changed, global_of_spot, global_of, changed_by, after_statement}
use Rattle.gd_words.specs.Members.{is_among}
use Rattle.path_semantics.specs.Break.{asked_count}

or-true : (a b : Bool) → a ≡ true → (a || b) ≡ true
or-true true b e = refl
or-true false b e = absurd (cc)

among-append : (n : ℕ) (ns ms : List ℕ) → is_among n (ns ++ ms) ≡ false
    → (is_among n ns ≡ false) × (is_among n ms ≡ false)
among-append n ns ms e = or_parts (is_among n ns) (is_among n ms) (sym (list_any-append (λ m. m == n) ns ms) ∙ e)

pub count-append : (p : ℕ → Bool) (ns ms : List ℕ) → count_by p (ns ++ ms) ≡ count_by p ns + count_by p ms
count-append p ns ms = sum_by-append (λ n. cond (p n) 1 0) ns ms

-- Dues

-- dues that have all that was due, and these globals
pub record HasGrown (dues later : Dues) (changed : List ℕ) : Type 0 where
  pub due : (item : ℕ) → is_among item later.globals ≡ false → is_among item dues.globals ≡ false
  pub new : (item : ℕ) → is_among item later.globals ≡ false → is_among item changed ≡ false
  pub asked : (file : ℕ) → asked_count file dues ≤ asked_count file later
  pub read : dues.read ≡ true → later.read ≡ true

pub grown-parts : (dues : Dues) (changed asked : List ℕ) (read : Bool)
    → HasGrown dues (record {
      globals = dues.globals ++ changed;
      asked = dues.asked ++ asked;
      read = dues.read || read;
    }) changed
grown-parts dues changed asked read = record {
  due = λ item e. (among-append item dues.globals changed e).0;
  new = λ item e. (among-append item dues.globals changed e).1;
  asked = λ file. let c = count-append (λ one. one == file) dues.asked asked in omega (arith, c);
  read = λ e. or-true dues.read read e;
}

pub grown-changed : (dues later : Dues) (before changed : List ℕ) → HasGrown dues later before
    → HasGrown dues (with_changed changed later) changed
grown-changed dues later before changed grown = record {
  due = λ item e. grown.due item (among-append item later.globals changed e).0;
  new = λ item e. (among-append item later.globals changed e).1;
  asked = grown.asked;
  read = grown.read;
}

pub grown-same : (dues : Dues) → HasGrown dues dues []
grown-same dues = record { due = λ item e. e; new = λ item e. refl; asked = λ file. omega arith; read = λ e. e }

abbrev pub IsCheckpoint : What-F What Statement → Type 0
IsCheckpoint (What-F.Checkpoint items files) = Unit {0}
IsCheckpoint _ = ⊥

-- all but a CHECKPOINT leave what was due
pub statement-grown : (dues : Dues) (what : What-F What Statement) → (IsCheckpoint what → ⊥)
    → HasGrown dues (after_statement dues what) (changed_by what)
statement-grown dues (What-F.Checkpoint items files) other = absurd (other tt)
statement-grown dues _ other = grown-parts dues _ _ _

-- Words

pub set-other : {A : Type 0} (xs : List A) (i j : ℕ) (y : A) → (i ≡ j → ⊥)
    → slice_get (slice_set xs i y) j ≡ slice_get xs j
set-other [] i j y n = refl
set-other (x ∷ xs) zero zero y n = absurd (n refl)
set-other (x ∷ xs) zero (suc j) y n = refl
set-other (x ∷ xs) (suc i) zero y n = refl
set-other (x ∷ xs) (suc i) (suc j) y n = set-other xs i j y (λ s. n (ap suc s))

pub not-both : (b : Bool) → b ≡ true → b ≡ false → ⊥
not-both b t f = cc

pub words-other : (globals : List (List ℤ)) (at item : ℕ) (words : List ℤ) → (at == item) ≡ false
    → words_of (slice_set globals at words) item ≡ words_of globals item
words-other globals at item words e =
    ap (λ o. unwrap_or o []) (set-other globals at item words (λ s. not-both (at == item) (eq-eqb at item s) e))

-- the global in which a cell is
abbrev pub cell_global : Cell → List ℕ
cell_global (cell.Local local) = []
cell_global (cell.Global item offset) = item ∷ []

pub word-stays : (to : Cell) (word : ℤ) (s : ProgramState) (item : ℕ) → is_among item (cell_global to) ≡ false
    → words_of (with_word to word s).globals item ≡ words_of s.globals item
word-stays (cell.Local local) word s item e = refl
word-stays (cell.Global at offset) word s item e = words-other s.globals at item _ (or_parts (at == item) false e).0

pub variable-global : (v : Variable) → cell_global (variable_cell v) ≡ global_of v
variable-global (variable.Local local) = refl
variable-global (variable.Simple item) = refl

some-global : (to at : Cell) → Some to ≡ Some at → cell_global at ≡ cell_global to
some-global to at e = let same : to ≡ at = cc in ap cell_global (sym same)

offset-global : (item : ℕ) (offset : Option ℕ) (at : Cell) → option_map (cell.Global item) offset ≡ Some at
    → cell_global at ≡ item ∷ []
offset-global item None at e = absurd (cc)
offset-global item (Some offset) at e = some-global (cell.Global item offset) at e

pub spot-global : (m : Memory) (spot : Spot) (at : Cell) → cell_of m spot ≡ Some at
    → cell_global at ≡ global_of_spot spot
spot-global m (Local local) at e = some-global (cell.Local local) at e
spot-global m (Simple item) at e = some-global (cell.Global item 0) at e
spot-global m (Element item index) at e = offset-global item _ at e
