-- The depth of an OPEN in a text without faults.
use Rattle.std.proofs.Common.{◌≡◌, ℕ, zero, suc, Bool, true, false, not, nat_le, List, [], refl, sym, ap, ◌∙◌, arith}
use Rattle.std.proofs.Common.{if◌then◌else◌}
use Rattle.std.specs.Prelude.{ℤ, pos, negsuc, Option, Some, None}
use Rattle.std.specs.Option.{option_and_then}
use Rattle.std.proofs.lemmas.Bool.{and_right, false≢true, lt-leb, not-false}
use Rattle.tal_tokens.specs.declared.token.At.{At}
use Rattle.tal_syntax.specs.Grammar as g
use Rattle.tal_names.specs.declared.fault.Rule.TheVariants.{Limit}
use Rattle.tal_names.specs.declared.meaning.Meaning.{Meaning}
use Rattle.tal_names.specs.declared.meaning.Meaning.TheVariants as m
use Rattle.tal_names.specs.declared.scope.Scope.{Scope}
use Rattle.tal_meaning.specs.tal_rules.specs.Calls.{is_depth, depth_limit, depth_form, depth_faults}
use Rattle.tal_declarations.specs.Files.{named_in, declared_before, depth_value, depth_of}
use Rattle.tal_declarations.specs.Globals.{atom_of, constant_value, atom_faults, literal_faults}
use Rattle.tal_names.specs.Names.{meaning_in}
use Rattle.tal_names.specs.Places.{first_of_argument, constant_of}
use Rattle.tal_names.specs.Scopes.{or_else, meaning_of, is_file}
use Rattle.tal_faultless.proofs.Scopes.SourceNames.{SourceNames}
use Rattle.tal_faultless.proofs.Scopes.SourceScopes.{without_files}
use Rattle.tal_faultless.proofs.Common.Faultless.{no_fault, split, refuted}
use Rattle.tal_tree.specs.declared.limit.ProgramLimit.TheVariants as program_limit

-- a depth from 1 to 4 is the number itself
pub depth_is : (receive : Bool) (d : ℕ) → is_depth receive (pos d) ≡ true → depth_of (Some (pos d)) ≡ d
depth_is true zero h = cc
depth_is true (suc zero) h = refl
depth_is true (suc (suc d)) h = absurd (false≢true
    (sym (and_right (nat_le 1 (suc (suc d))) (nat_le (suc (suc d)) 1) (lt-leb (suc (suc d)) 1 (omega arith))) ∙ h))
depth_is false zero h = cc
depth_is false (suc zero) h = refl
depth_is false (suc (suc zero)) h = refl
depth_is false (suc (suc (suc zero))) h = refl
depth_is false (suc (suc (suc (suc zero)))) h = refl
depth_is false (suc (suc (suc (suc (suc d))))) h =
    let more = suc (suc (suc (suc (suc d)))) in
    absurd (false≢true (sym (and_right (nat_le 1 more) (nat_le more 4) (lt-leb more 4 (omega arith))) ∙ h))

-- a depth that is allowed is what the tree has
kept_depth : (receive : Bool) (value : Option ℤ) (a : g.Argument) → depth_limit receive a value ≡ []
    → is_depth receive (pos (depth_of value)) ≡ true
kept_depth true None a faultless = refl
kept_depth false None a faultless = refl
kept_depth receive (Some (pos n)) a faultless =
    let fine = not-false (is_depth receive (pos n))
    (refuted (not (is_depth receive (pos n))) (first_of_argument a) (Limit program_limit.KeptReplies) faultless) in
    ap (λ k. is_depth receive (pos k)) (depth_is receive n fine) ∙ fine
kept_depth true (Some (negsuc n)) a faultless = no_fault faultless
kept_depth false (Some (negsuc n)) a faultless = no_fault faultless

module _ (s : Scope) (names : SourceNames s) where
  -- a LITERAL is the same before the files are known
  literal_stays : (name : List ℕ) (value : ℤ) → meaning_of s name ≡ Some (m.Literal value)
      → meaning_of (without_files s) name ≡ Some (m.Literal value)
  literal_stays name value e = by (meaning_in name s.locals) (meaning_in name s.files) refl e
    where
      by : (local listed : Option Meaning) → meaning_in name s.files ≡ listed
          → or_else local (or_else listed (meaning_in name s.globals)) ≡ Some (m.Literal value)
          → or_else local (meaning_in name s.globals) ≡ Some (m.Literal value)
      by (Some x) listed d h = h
      by None None d h = h
      by None (Some x) d h = absurd (file_meant (names.listed name x d) h)
        where
          file_meant : {x : Meaning} → is_file x ≡ true → Some x ≡ Some (m.Literal value) → ⊥
          file_meant {x} file is = cc

  known_stays : (at : At) (name : List ℕ) (found : Option Meaning) → meaning_of s name ≡ found
      → literal_faults at (declared_before s.number found) ≡ []
      → declared_before s.number (meaning_of (without_files s) name) ≡ declared_before s.number (meaning_of s name)
  known_stays at name None e faultless = no_fault faultless
  known_stays at name (Some (m.Literal value)) e faultless =
      ap (declared_before s.number) (literal_stays name value e ∙ sym e)
  known_stays at name (Some (m.Procedure number gives parameters)) e faultless =
      not_literal (nat_le number s.number) faultless
    where
      not_literal : {A : Type 0} (b : Bool) → literal_faults at
          (if b then Some (m.Procedure number gives parameters) else None) ≡ [] → A
      not_literal true h = no_fault h
      not_literal false h = no_fault h
  known_stays at name (Some other) e faultless = no_fault faultless

  atom_stays : (a : g.Atom) → atom_faults a (named_in s a) ≡ [] → named_in (without_files s) a ≡ named_in s a
  atom_stays (g.digits at value) faultless = refl
  atom_stays (g.known at name) faultless = known_stays at name (meaning_of s name) refl faultless

  form_stays : (a : g.Argument) (c : Option g.Constant) → depth_form s a c ≡ []
      → option_and_then (λ x. constant_value x (named_in (without_files s) (atom_of x))) c
      ≡ option_and_then (λ x. constant_value x (named_in s (atom_of x))) c
  form_stays a None faultless = refl
  form_stays a (Some c) faultless = ap (constant_value c) (atom_stays (atom_of c) faultless)

  pub open_depth : (receive : Bool) (a : g.Argument) → depth_faults s receive (Some a) ≡ []
      → is_depth receive (pos (depth_of (depth_value (without_files s) a))) ≡ true
  open_depth receive a faultless =
      let parts = split faultless in
      ap (λ v. is_depth receive (pos (depth_of v))) (form_stays a (constant_of a) parts.0)
      ∙ kept_depth receive (depth_value s a) a parts.1
