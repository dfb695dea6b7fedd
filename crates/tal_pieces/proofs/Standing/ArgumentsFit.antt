-- The arguments of a call in a text without faults: values within the levels, and names that suit their places.
use Rattle.std.proofs.Common.{◌≡◌, ◌≤◌, ℕ, ◌+◌, suc, List, [], ◌∷◌, refl, arith}
use Rattle.std.specs.Prelude.{Option, Some, None}
use Rattle.tal_tree.specs.declared.program.Program.{Program}
use Rattle.tal_tokens.specs.declared.token.At.{At}
use Rattle.tal_syntax.specs.Grammar as g
use Rattle.tal_syntax.specs.Expected.{AllAtMost}
use Rattle.tal_syntax.specs.Nesting.{nest_argument, nest_further, nest_arguments, nest_values}
use Rattle.tal_names.specs.declared.meaning.Meaning.{Meaning}
use Rattle.tal_names.specs.declared.meaning.Meaning.TheVariants as m
use Rattle.tal_names.specs.declared.meaning.Need.TheVariants as need
use Rattle.tal_names.specs.declared.scope.Named.{Named}
use Rattle.tal_names.specs.declared.scope.Scope.{Scope}
use Rattle.tal_rules.specs.Calls.{named_faults}
use Rattle.tal_names.specs.Places.{further_arguments, arguments_of}
use Rattle.tal_names.specs.Scopes.{meaning_of, kind_faults}
use Rattle.tal_meaning.specs.Calls.{value_of_argument, values_of_arguments, values_of, meaning_by, item_by, variable_by}
use Rattle.tal_meaning.specs.Calls.{file_by}
use Rattle.tal_pieces.specs.declared.rank.ValueRank.TheVariants as value
use Rattle.tal_pieces.proofs.Values.Depths.{value_depth}
use Rattle.tal_pieces.specs.Printed.Names.{file_name, receive_name}
use Rattle.tal_pieces.proofs.Values.ReadsBack.{IsNamed, StandsFor}
use Rattle.tal_pieces.proofs.Values.ValueLists.{AllNamed, values_depth}
use Rattle.tal_pieces.proofs.Scopes.Agreement.{Agreement, printed_scope}
use Rattle.tal_pieces.proofs.Values.Deepest.{low_expr}
use Rattle.tal_pieces.proofs.Standing.Fitting.{named_value, named_variable, named_array}
use Rattle.tal_pieces.proofs.Standing.LevelsAfter.{after_argument}
use Rattle.tal_pieces.proofs.Standing.Stands.{FitsValue, FitsArguments, IsNamedVariable, IsNamedArray}
use Rattle.tal_faultless.proofs.Common.Faultless.{no_fault, split}

-- the values of arguments stand within the levels
abbrev pub AreLow : Scope → ℕ → List g.Argument → Type 0
AreLow s n [] = Unit {0}
AreLow s n (a ∷ rest) = (n + value_depth value.Sum (value_of_argument s a) ≤ 33) × AreLow s n rest

module _ (s : Scope) where
  low_argument : (a : g.Argument) (n : ℕ) (ls : List ℕ) → AllAtMost 33 (nest_argument n a ls)
      → n + value_depth value.Sum (value_of_argument s a) ≤ 33
  low_argument (g.value e) n ls low = (low_expr s 33 e n ls low).0
  low_argument (g.receive at) n ls low = omega (arith, low.0)
  low_argument (g.process at name) n ls low = omega (arith, low.0)
  low_argument (g.quoted at) n ls low = omega (arith, low.0)

  low_further : (a : g.Further) (n : ℕ) (ls : List ℕ) → AllAtMost 33 (nest_further n a ls)
      → AreLow s n (further_arguments a)
  low_further g.no_further n ls low = tt
  low_further (g.more_further comma a rest) n ls low = (
    low_argument a n (nest_further n rest ls) low.1,
    low_further rest n ls (after_argument s 33 a n (nest_further n rest ls) low.1),
  )

  pub low_arguments : (a : g.Arguments) (n : ℕ) (ls : List ℕ) → AllAtMost 33 (nest_arguments n a ls)
      → AreLow s (suc n) (arguments_of a)
  low_arguments g.unlisted n ls low = tt
  low_arguments (g.listed start first more close) n ls low = (
    low_argument first (suc n) (nest_further (suc n) more (suc n ∷ ls)) low.1,
    low_further more (suc n) (suc n ∷ ls) (after_argument s 33 first (suc n) (nest_further (suc n) more (suc n ∷ ls))
        low.1),
  )

  low_all : (arguments : List g.Argument) (n : ℕ) → n ≤ 33 → AreLow s n arguments
      → n + values_depth (values_of_arguments s arguments) ≤ 33
  low_all [] n room low = omega (arith, room)
  low_all (a ∷ rest) n room low = omega (arith, low.0, low_all rest n room low.1)

  pub low_values : (vs : g.Values) (n : ℕ) (ls : List ℕ) → n ≤ 33 → AllAtMost 33 (nest_values n vs ls)
      → n + values_depth (values_of s vs) ≤ 33
  low_values g.no_values n ls room low = omega (arith, room)
  low_values (g.more_values comma e rest) n ls room low =
      let r = low_expr s 33 e n (nest_values n rest ls) low.1 in
      omega (arith, r.0, low_values rest n ls room r.1)

module _ (p : Program) (locals : List (List ℕ)) (s : Scope) (agreed : Agreement p locals s) where
  named_argument : (a : g.Argument) → IsNamed p locals (printed_scope s) (value_of_argument s a)
  named_argument (g.value e) = named_value p locals s agreed e
  named_argument (g.receive at) = tt
  named_argument (g.process at name) = tt
  named_argument (g.quoted at) = tt

  all_named : (arguments : List g.Argument) → AllNamed p locals (printed_scope s) (values_of_arguments s arguments)
  all_named [] = tt
  all_named (a ∷ rest) = (named_argument a, all_named rest)

  pub values_named : (vs : g.Values) → AllNamed p locals (printed_scope s) (values_of s vs)
  values_named g.no_values = tt
  values_named (g.more_values comma e rest) = (named_value p locals s agreed e, values_named rest)

  pub fits_argument : (a : g.Argument) (n : ℕ) → n + value_depth value.Sum (value_of_argument s a) ≤ 33
      → FitsValue p locals (printed_scope s) n (value_of_argument s a)
  fits_argument a n low = record { named = named_argument a; low = low }

  pub fits_arguments : (arguments : List g.Argument) (n : ℕ) → n ≤ 33 → AreLow s (suc n) arguments
      → FitsArguments p locals (printed_scope s) n (values_of_arguments s arguments)
  fits_arguments [] n room low = room
  fits_arguments (a ∷ rest) n room low = (all_named (a ∷ rest), low_all s (a ∷ rest) (suc n) (omega (arith, low.0)) low)

  -- arguments that are names of a kind
  pub variable_at : (a : g.Argument) (found : Option Named) → named_faults s need.Variable a found ≡ []
      → IsNamedVariable p locals (printed_scope s) (variable_by (meaning_by s found))
  variable_at a None faultless = no_fault (split faultless).1
  variable_at a (Some x) faultless = named_variable p locals s agreed x.at x.name (meaning_of s x.name) refl faultless

  pub array_at : (a : g.Argument) (found : Option Named) → named_faults s need.Array a found ≡ []
      → IsNamedArray p locals (printed_scope s) (item_by (meaning_by s found))
  array_at a None faultless = no_fault (split faultless).1
  array_at a (Some x) faultless = named_array p locals s agreed x.at x.name (meaning_of s x.name) refl faultless

  -- the file opened to `$RECEIVE`, and one opened to a process
  pub record ReceiveStands : Type 0 where
    pub item : ℕ
    pub number : ℕ
    pub stands : StandsFor (printed_scope s) (receive_name p) (m.ReceiveFile item number)

  pub record ProcessStands (file : ℕ) : Type 0 where
    pub item : ℕ
    pub stands : StandsFor (printed_scope s) (file_name p file) (m.ProcessFile item file)

  receive_by : (at : At) (name : List ℕ) (found : Option Meaning) → meaning_of s name ≡ found
      → kind_faults need.Receive at found ≡ [] → ReceiveStands
  receive_by at name None e faultless = no_fault faultless
  receive_by at name (Some (m.ReceiveFile item number)) e faultless = record {
    item = item;
    number = number;
    stands = (name, agreed.receive item number name e, agreed.lasting name (m.ReceiveFile item number) refl e);
  }
  receive_by at name (Some other) e faultless = no_fault faultless

  process_by : (at : At) (name : List ℕ) (found : Option Meaning) → meaning_of s name ≡ found
      → kind_faults need.Process at found ≡ [] → ProcessStands (file_by found)
  process_by at name None e faultless = no_fault faultless
  process_by at name (Some (m.ProcessFile item number)) e faultless = record {
    item = item;
    stands = (name, agreed.process item number name e, agreed.lasting name (m.ProcessFile item number) refl e);
  }
  process_by at name (Some other) e faultless = no_fault faultless

  pub receive_at : (a : g.Argument) (found : Option Named) → named_faults s need.Receive a found ≡ [] → ReceiveStands
  receive_at a None faultless = no_fault (split faultless).1
  receive_at a (Some x) faultless = receive_by x.at x.name (meaning_of s x.name) refl faultless

  pub process_at : (a : g.Argument) (found : Option Named) → named_faults s need.Process a found ≡ []
      → ProcessStands (file_by (meaning_by s found))
  process_at a None faultless = no_fault (split faultless).1
  process_at a (Some x) faultless = process_by x.at x.name (meaning_of s x.name) refl faultless
