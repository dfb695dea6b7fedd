-- The locals of a procedure without faults are at most 12, its parameters among them.
use Rattle.std.proofs.Common.{◌≡◌, ℕ, suc, ◌+◌, ◌<◌, ◌≤◌, arith, min, nat_le, Bool, true, false, List, [], ◌∷◌, ◌++◌}
use Rattle.std.proofs.Common.{length, length-append, refl, ap, ◌∙◌}
use Rattle.std.specs.Prelude.{if◌then◌else◌}
use Rattle.std.proofs.lemmas.Bool.{leb-false}
use Rattle.tal_tokens.specs.declared.token.At.{At}
use Rattle.tal_syntax.specs.Grammar as g
use Rattle.tal_tree.specs.declared.statement.Statement.{Statement}
use Rattle.tal_names.specs.declared.fault.Rule.TheVariants.{Limit}
use Rattle.tal_names.specs.declared.meaning.Meaning.TheVariants as m
use Rattle.tal_names.specs.declared.scope.Named.{Named}
use Rattle.tal_declarations.specs.Headings.{parameters_of, locals_of, with_local, with_locals, count_faults}
use Rattle.tal_declarations.specs.Headings.{parameters_faults, inner_faults}
use Rattle.tal_names.specs.Names.{Declarations, is_declared}
use Rattle.tal_faultless.specs.tal_rules.specs.Texts.{locals_by, heading_locals_faults}
use Rattle.tal_faultless.specs.tal_meaning.specs.Programs.{texts_of, parameters_by, procedure_with}
use Rattle.tal_faultless.proofs.Common.Faultless.{split, refuted}
use Rattle.tal_faultless.proofs.Common.Names.{texts_append}
use Rattle.tal_faultless.proofs.Scopes.LocalNames.{local_names}
use Rattle.tal_tree.specs.Limits.{IsProcedureWithinLimits}
use Rattle.tal_tree.specs.declared.limit.ProgramLimit.TheVariants as program_limit

-- one more local, where there is room
local_room : (ds : Declarations) (name : List ℕ) → length ds < 12 → length (with_local ds name) ≤ 12
local_room ds name low = by (is_declared name ds)
  where
    last : Declarations
    last = (name, m.Local (min 12 (length ds))) ∷ []

    by : (b : Bool) → length (if b then ds else ds ++ last) ≤ 12
    by true = omega (arith, low)
    by false = omega (arith, low, length-append ds last)

room_of : (before : Declarations) (at : At) → count_faults before at ≡ [] → length before < 12
room_of before at fine = leb-false 12 (length before) (refuted (nat_le 12 (length before)) at
    (Limit program_limit.Locals) fine)

parameters_few : (outer before : Declarations) (ns : List Named) → parameters_faults outer before ns ≡ []
    → length before ≤ 12 → length (with_locals before ns) ≤ 12
parameters_few outer before [] fine few = few
parameters_few outer before (n ∷ ns) fine few =
    let parts = split fine in
    let own = split parts.0 in
    parameters_few outer (with_local before n.name) ns parts.1 (local_room before n.name (room_of before n.at own.1))

inner_few : (outer before : Declarations) (ns : List Named) → inner_faults outer before ns ≡ [] → length before ≤ 12
    → length (with_locals before ns) ≤ 12
inner_few outer before [] fine few = few
inner_few outer before (n ∷ ns) fine few =
    let parts = split fine in
    let own = split parts.0 in
    inner_few outer (with_local before n.name) ns parts.1 (local_room before n.name (room_of before n.at own.1))

locals_few : (h : g.Heading) (outer inner : g.Locals) → heading_locals_faults h outer inner ≡ []
    → length (locals_by h inner) ≤ 12
locals_few (g.heading gives proc at name listed main end) outer inner fine =
    let parts = split fine in
    let front = split parts.0 in
    inner_few (with_locals [] (locals_of outer)) (with_locals [] (parameters_of listed)) (locals_of inner) parts.1
    (parameters_few (with_locals [] (locals_of outer)) [] (parameters_of listed) front.0 (omega arith))

pub texts_length : (ns : List Named) → length (texts_of ns) ≡ length ns
texts_length [] = refl
texts_length (n ∷ ns) = ap suc (texts_length ns)

-- a procedure with these locals
pub locals_within : (h : g.Heading) (outer inner : g.Locals) (body : List Statement)
    → heading_locals_faults h outer inner ≡ []
    → IsProcedureWithinLimits (procedure_with h inner body)
locals_within h outer inner body fine =
    let parameters : List (List ℕ) = texts_of (parameters_by h) in
    let others : List (List ℕ) = texts_of (locals_of inner) in
    let all : length (texts_of (parameters_by h ++ locals_of inner)) ≡ length parameters + length others =
    ap length (texts_append (parameters_by h) (locals_of inner)) ∙ length-append parameters others in
    record {
      locals = omega (arith, (local_names h outer inner fine).count, locals_few h outer inner fine);
      parameters = omega (arith, all, texts_length (parameters_by h));
    }
