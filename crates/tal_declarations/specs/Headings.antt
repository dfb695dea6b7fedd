-- The headings of procedures, their parameters and their locals.
use Rattle.std.specs.Prelude.{ℕ, ◌+◌, ◌||◌, ◌&&◌, ◌==◌, not, min, nat_le, Bool, true, false, List, [], ◌∷◌, ◌++◌}
use Rattle.std.specs.Prelude.{length, Option, Some, None, is_some, if◌then◌else◌}
use Rattle.tal_syntax.specs.tal_tokens.specs.declared.token.At.{At}
use Rattle.tal_syntax.specs.Grammar as g
use Rattle.tal_names.specs.declared.fault.Rule.TheVariants.{Unknown, Twice, Prologue, Limit}
use Rattle.tal_names.specs.declared.fault.RuleFault.{RuleFault}
use Rattle.tal_names.specs.declared.meaning.Meaning.{Meaning}
use Rattle.tal_names.specs.declared.meaning.Meaning.TheVariants as m
use Rattle.tal_declarations.specs.declared.table.Headed.{Headed}
use Rattle.tal_names.specs.declared.scope.Named.{Named}
use Rattle.tal_names.specs.Faults.{fault_at, if_so}
use Rattle.tal_declarations.specs.Globals.{is_taken, taken_faults}
use Rattle.tal_names.specs.Names.{Declarations, is_declared, with_name}
use Rattle.tal_names.specs.Systems.{system_of}
use Rattle.gd_words.specs.declared.limits.TheConstants.{MOST_LOCALS, MOST_PROCEDURES}
use Rattle.tal_tree.specs.declared.limit.ProgramLimit.TheVariants as program_limit

-- the names of a list, in order
abbrev pub names_of : g.Names → List Named
names_of g.no_names = []
names_of (g.more_names comma at name rest) = record { at = at; name = name } ∷ names_of rest

abbrev pub parameters_of : g.Parameters → List Named
parameters_of g.no_parameters = []
parameters_of (g.parameters start at name more close) = record { at = at; name = name } ∷ names_of more

abbrev pub local_names : g.Local → List Named
local_names (g.local int at name more end) = record { at = at; name = name } ∷ names_of more

abbrev pub locals_of : g.Locals → List Named
locals_of g.no_locals = []
locals_of (g.more_locals l rest) = local_names l ++ locals_of rest

-- the names declared as the next locals. Those past the limit all have the number 12, which plays no part
abbrev pub with_local : Declarations → List ℕ → Declarations
with_local ds name = with_name ds name (m.Local (min MOST_LOCALS (length ds)))

abbrev pub with_locals : Declarations → List Named → Declarations
with_locals ds [] = ds
with_locals ds (n ∷ ns) = with_locals (with_local ds n.name) ns

-- at most 12 parameters and locals
abbrev pub count_faults : Declarations → At → List RuleFault
count_faults before at = if_so (nat_le MOST_LOCALS (length before)) (fault_at at (Limit program_limit.Locals))

-- a parameter stands among the locals before BEGIN, and once in its list
abbrev pub parameter_faults : Declarations → Declarations → Named → List RuleFault
parameter_faults outer before n =
    taken_faults before n.at n.name ++ if_so (not (is_declared n.name outer)) (fault_at n.at Unknown)
    ++ count_faults before n.at

abbrev pub parameters_faults : Declarations → Declarations → List Named → List RuleFault
parameters_faults outer before [] = []
parameters_faults outer before (n ∷ ns) =
    parameter_faults outer before n ++ parameters_faults outer (with_local before n.name) ns

-- a local before BEGIN is a parameter, and stands there once
abbrev pub one_outer_faults : Declarations → Declarations → Named → List RuleFault
one_outer_faults parameters before n =
    taken_faults before n.at n.name ++ if_so (not (is_declared n.name parameters)) (fault_at n.at Unknown)

abbrev pub outer_faults : Declarations → Declarations → List Named → List RuleFault
outer_faults parameters before [] = []
outer_faults parameters before (n ∷ ns) =
    one_outer_faults parameters before n ++ outer_faults parameters (with_local before n.name) ns

-- a local after BEGIN is no parameter and no other local
abbrev pub one_inner_faults : Declarations → Declarations → Named → List RuleFault
one_inner_faults outer before n =
    if_so (is_taken before n.name || is_declared n.name outer) (fault_at n.at Twice) ++ count_faults before n.at

abbrev pub inner_faults : Declarations → Declarations → List Named → List RuleFault
inner_faults outer before [] = []
inner_faults outer before (n ∷ ns) = one_inner_faults outer before n ++ inner_faults outer (with_local before n.name) ns

-- the faults of a procedure's parameters and locals
abbrev pub locals_faults : List Named → List Named → List Named → List RuleFault
locals_faults parameters outer inner =
    parameters_faults (with_locals [] outer) [] parameters
    ++ outer_faults (with_locals [] parameters) [] outer
    ++ inner_faults (with_locals [] outer) (with_locals [] parameters) inner

abbrev pub does_give : g.Gives → Bool
does_give g.gives_nothing = false
does_give (g.gives_int at) = true

-- only the first MAIN makes its procedure the main one, which has no parameters and gives no value
abbrev pub main_faults : Bool → At → Bool → g.Main → List RuleFault
main_faults has_main at bare g.not_main = []
main_faults true at bare (g.is_main word) = fault_at word Twice
main_faults false at bare (g.is_main word) = if_so (not bare) (fault_at at Prologue)

-- at most 64 procedures, of different names, one of them MAIN
abbrev pub heading_faults : Headed → g.Heading → List RuleFault
heading_faults h (g.heading gives proc at name listed main end) =
    taken_faults h.names at name ++ if_so (nat_le MOST_PROCEDURES h.count)
    (fault_at at (Limit program_limit.Procedures))
    ++ main_faults (is_some h.main) at (not (does_give gives) && (length (parameters_of listed) == 0)) main

abbrev pub main_number : Option ℕ → ℕ → g.Main → Option ℕ
main_number (Some k) number main = Some k
main_number None number g.not_main = None
main_number None number (g.is_main word) = Some number

-- with the name of a procedure, unless it is the system's: such a name stands for nothing but the system's call
abbrev pub with_procedure : Declarations → List ℕ → Meaning → Declarations
with_procedure names name m = if is_some (system_of name) then names else with_name names name m

-- with one more heading. Procedures past the limit all have the number 64, which plays no part
abbrev pub with_heading : Headed → g.Heading → Headed
with_heading h (g.heading gives proc at name listed main end) = record {
  names = with_procedure h.names name (m.Procedure h.count (does_give gives) (length (parameters_of listed)));
  count = min MOST_PROCEDURES (h.count + 1);
  main = main_number h.main h.count main;
}

abbrev pub heading_of : g.Procedure → g.Heading
heading_of (g.procedure h outer begin inner first more end last) = h

abbrev pub headings_faults : Headed → g.Procedures → List RuleFault
headings_faults h g.no_procedures = []
headings_faults h (g.more_procedures p rest) =
    heading_faults h (heading_of p) ++ headings_faults (with_heading h (heading_of p)) rest

abbrev pub with_headings : Headed → g.Procedures → Headed
with_headings h g.no_procedures = h
with_headings h (g.more_procedures p rest) = with_headings (with_heading h (heading_of p)) rest
