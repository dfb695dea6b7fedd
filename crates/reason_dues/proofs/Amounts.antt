-- How much is due follows the dues.
use Rattle.std.proofs.Common.{◌≡◌, ℕ, ◌+◌, ◌==◌, ◌||◌, Bool, true, false, arith, List, [], ◌∷◌, ◌++◌, refl, ap, ◌∙◌}
use Rattle.std.specs.Prelude.{count_by, if◌then◌else◌}
use Rattle.std.proofs.lemmas.List.Sums.{sum_by-append}
use Rattle.gd_words.specs.Members.{is_among}
use Rattle.tal_tree.specs.declared.statement.Statement.{Statement}
use Rattle.tal_tree.specs.declared.statement.What.{What, What-F, out-What}
use Rattle.path_semantics.specs.process_semantics.specs.State.{Entry, Run, Test, Last}
use Rattle.path_semantics.specs.declared.dues.Dues.{Dues}
use Rattle.path_semantics.specs.declared.reason.Reason.{Reason}
use Rattle.path_semantics.specs.declared.reason.Reason.TheVariants.{Data, SyncBlock, Input, Depth}
use Rattle.path_semantics.specs.Dues.{no_dues, with_changed, with_effects, after_statement, after_entry as dues_after}
use Rattle.path_semantics.specs.Dues.{changed_by, asked_by, reads}
use Rattle.reason_dues.specs.Amounts.{one_if, amount, adds, one_more, after_what, after_changed, after_entry}

or-assoc : (a b c : Bool) → (a || (b || c)) ≡ ((a || b) || c)
or-assoc true b c = refl
or-assoc false b c = refl

among-append : (n : ℕ) (xs ys : List ℕ) → is_among n (xs ++ ys) ≡ (is_among n xs || is_among n ys)
among-append n [] ys = refl
among-append n (x ∷ xs) ys =
    ap (λ (b : Bool). (x == n) || b) (among-append n xs ys) ∙ or-assoc (x == n) (is_among n xs) (is_among n ys)

count-append : (p : ℕ → Bool) (xs ys : List ℕ) → count_by p (xs ++ ys) ≡ count_by p xs + count_by p ys
count-append p xs ys = sum_by-append (λ x. one_if (p x)) xs ys

either : (a b : Bool) → one_if (a || b) ≡ (if b then 1 else one_if a)
either true true = refl
either true false = refl
either false true = refl
either false false = refl

-- what changes adds to it
pub amount-changed : (reason : Reason) (globals : List ℕ) (dues : Dues)
    → amount reason (with_changed globals dues) ≡ after_changed reason globals (amount reason dues)
amount-changed (Data item) globals dues =
    ap one_if (among-append item dues.globals globals) ∙ either (is_among item dues.globals) (is_among item globals)
amount-changed (SyncBlock file) globals dues = refl
amount-changed Input globals dues = refl
amount-changed (Depth file) globals dues = refl

pub amount-none : (reason : Reason) → amount reason no_dues ≡ 0
amount-none (Data item) = refl
amount-none (SyncBlock file) = refl
amount-none Input = refl
amount-none (Depth file) = refl

-- a statement asks at most one file
abbrev one_asked : ℕ → ℕ → List ℕ → ℕ
one_asked file n asked = if is_among file asked then n + 1 else n

one-counted : (b : Bool) (n : ℕ) → n + (0 + one_if b) ≡ (if (b || false) then n + 1 else n)
one-counted true n = refl
one-counted false n = omega arith

counted : (file n : ℕ) (what : What-F What Statement)
    → n + count_by (λ asked. asked == file) (asked_by what) ≡ one_asked file n (asked_by what)
counted file n (What-F.Assign to value) = omega arith
counted file n (What-F.AssignCall to procedure arguments) = omega arith
counted file n (What-F.If test first second) = omega arith
counted file n (What-F.While test body) = omega arith
counted file n (What-F.DoUntil body test) = omega arith
counted file n (What-F.For variable from to down step body last) = omega arith
counted file n (What-F.Call procedure arguments) = omega arith
counted file n (What-F.Return value) = omega arith
counted file n (What-F.ReadUpdate buffer most got) = omega arith
counted file n (What-F.Reply buffer count) = omega arith
counted asked n (What-F.WriteRead file buffer send room got) = one-counted (file == asked) n
counted asked n (What-F.Checkpoint items files) = omega arith
counted file n What-F.CheckMonitor = omega arith
counted asked n (What-F.Open file) = omega arith
counted file n What-F.Stop = omega arith

amount-effects : (reason : Reason) (dues : Dues) (what : What-F What Statement)
    → amount reason (with_effects dues what)
    ≡ (if adds reason what then one_more reason (amount reason dues) else amount reason dues)
amount-effects (Data item) dues what = ap one_if (among-append item dues.globals (changed_by what))
    ∙ either (is_among item dues.globals) (is_among item (changed_by what))
amount-effects (SyncBlock file) dues what = ap one_if (among-append file dues.asked (asked_by what))
    ∙ either (is_among file dues.asked) (is_among file (asked_by what))
amount-effects Input dues what = either dues.read (reads what)
amount-effects (Depth file) dues what =
    count-append (λ asked. asked == file) dues.asked (asked_by what)
    ∙ counted file (count_by (λ asked. asked == file) dues.asked) what

amount-after : (reason : Reason) (dues : Dues) (what : What-F What Statement)
    → amount reason (after_statement dues what) ≡ after_what reason what (amount reason dues)
amount-after reason dues (What-F.Assign to value) = amount-effects reason dues _
amount-after reason dues (What-F.AssignCall to procedure arguments) = amount-effects reason dues _
amount-after reason dues (What-F.If test first second) = amount-effects reason dues _
amount-after reason dues (What-F.While test body) = amount-effects reason dues _
amount-after reason dues (What-F.DoUntil body test) = amount-effects reason dues _
amount-after reason dues (What-F.For variable from to down step body last) = amount-effects reason dues _
amount-after reason dues (What-F.Call procedure arguments) = amount-effects reason dues _
amount-after reason dues (What-F.Return value) = amount-effects reason dues _
amount-after reason dues (What-F.ReadUpdate buffer most got) = amount-effects reason dues _
amount-after reason dues (What-F.Reply buffer count) = amount-effects reason dues _
amount-after reason dues (What-F.WriteRead file buffer send room got) = amount-effects reason dues _
amount-after reason dues (What-F.Checkpoint items files) = amount-none reason
amount-after reason dues What-F.CheckMonitor = amount-effects reason dues _
amount-after reason dues (What-F.Open file) = amount-effects reason dues _
amount-after reason dues What-F.Stop = amount-effects reason dues _

-- an entry makes of it what it makes of the dues
pub amount-entry : (reason : Reason) (dues : Dues) (entry : Entry)
    → amount reason (dues_after dues entry) ≡ after_entry reason entry (amount reason dues)
amount-entry reason dues (Run statement) = amount-after reason dues (out-What statement.what)
amount-entry reason dues (Test statement) = refl
amount-entry reason dues (Last statement) = amount-changed reason (changed_by (out-What statement.what)) dues
