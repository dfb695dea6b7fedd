-- Statements only add to the files that are opened before them.
use Rattle.std.proofs.Common.{◌≡◌, ℕ, Bool, true, false, List, [], ◌∷◌, ◌++◌, refl, sym, ap, ◌∙◌, append_assoc}
use Rattle.std.specs.Prelude.{min, length, Option, Some, None}
use Rattle.std.proofs.lemmas.List.{append-nil}
use Rattle.tal_syntax.specs.Grammar as g
use Rattle.tal_declarations.specs.declared.table.Files.{Files}
use Rattle.tal_names.specs.declared.scope.Named.{Named}
use Rattle.tal_names.specs.declared.scope.Scope.{Scope}
use Rattle.tal_names.specs.declared.system.System.{System}
use Rattle.tal_names.specs.declared.system.System.TheVariants as system
use Rattle.tal_declarations.specs.Files.{file_by, target_of, depth_of, depth_value, with_file, opened_as, opened_named}
use Rattle.tal_declarations.specs.Files.{opened, call_files, statement_files, else_files, row_files, simple_global}
use Rattle.tal_names.specs.Systems.{system_of}
use Rattle.tal_names.specs.Names.{is_declared}
use Rattle.tal_names.specs.Places.{name_of_argument, arguments_of}
use Rattle.tal_pieces.proofs.Scopes.Agreement.{Extends}
use Rattle.tal_faultless.proofs.Files.FileMeanings.{new_file, old_file}

pub extends_itself : (f : Files) → Extends f f
extends_itself f =
    record { names = []; uses = []; names_are = sym (append-nil f.names); uses_are = sym (append-nil f.uses) }

pub extends_on : {a b c : Files} → Extends a b → Extends b c → Extends a c
extends_on {c} x y = record {
  names = y.names ++ x.names;
  uses = y.uses ++ x.uses;
  names_are = x.names_are ∙ ap (λ front. front ++ x.names) y.names_are ∙ append_assoc c.names y.names x.names;
  uses_are = x.uses_are ∙ ap (λ front. front ++ x.uses) y.uses_are ∙ append_assoc c.uses y.uses x.uses;
}

extended_by : {a b f : Files} → a ≡ b → Extends b f → Extends a f
extended_by e x = record {
  names = x.names;
  uses = x.uses;
  names_are = ap (λ y. y.names) e ∙ x.names_are;
  uses_are = ap (λ y. y.uses) e ∙ x.uses_are;
}

file_grows : (f : Files) (name : List ℕ) (item : ℕ) (string : g.Argument) (depth : ℕ) (b : Bool)
    → is_declared name f.names ≡ b
    → Extends (with_file f name item string depth) f
file_grows f name item string depth true e = extended_by (old_file f name item string depth e) (extends_itself f)
file_grows f name item string depth false e = extended_by (new_file f name item string depth e) (record {
  names = (name, file_by string item (min 8 (length f.uses))) ∷ [];
  uses = record { item = item; target = target_of string; depth = depth } ∷ [];
  names_are = refl;
  uses_are = refl;
})

module _ (s : Scope) where
  as_grows : (f : Files) (string depth : g.Argument) (name : List ℕ) (found : Option ℕ)
      → Extends (opened_as s f string depth name found) f
  as_grows f string depth name None = extends_itself f
  as_grows f string depth name (Some item) =
      file_grows f name item string (depth_of (depth_value s depth)) (is_declared name f.names) refl

  named_grows : (f : Files) (string depth : g.Argument) (found : Option Named)
      → Extends (opened_named s f string depth found) f
  named_grows f string depth None = extends_itself f
  named_grows f string depth (Some n) = as_grows f string depth n.name (simple_global s n.name)

  pub opened_grows : (f : Files) (arguments : List g.Argument) → Extends (opened s f arguments) f
  opened_grows f (string ∷ variable ∷ depth ∷ []) = named_grows f string depth (name_of_argument variable)
  opened_grows f _ = extends_itself f

  call_grows : (f : Files) (arguments : List g.Argument) (found : Option System)
      → Extends (call_files s f arguments found) f
  call_grows f arguments (Some system.Open) = opened_grows f arguments
  call_grows f arguments _ = extends_itself f

  mutual
    pub statement_grows : (x : g.Statement) (f : Files) → Extends (statement_files s f x) f
    statement_grows g.nothing f = extends_itself f
    statement_grows (g.block begin first more end) f =
        extends_on (row_grows more (statement_files s f first)) (statement_grows first f)
    statement_grows (g.if_then head test then_at t o) f =
        extends_on (else_grows o (statement_files s f t)) (statement_grows t f)
    statement_grows (g.while_do head test do_at t) f = statement_grows t f
    statement_grows (g.for_do head at name set_at from direction to step do_at t) f = statement_grows t f
    statement_grows (g.do_until head t at test) f = statement_grows t f
    statement_grows (g.call head at name a) f = call_grows f (arguments_of a) (system_of name)
    statement_grows (g.return head a) f = extends_itself f
    statement_grows (g.assign target at e) f = extends_itself f
    statement_grows (g.assign_call target at name_at name start first more close) f = extends_itself f

    pub else_grows : (x : g.Otherwise) (f : Files) → Extends (else_files s f x) f
    else_grows g.no_else f = extends_itself f
    else_grows (g.otherwise at t) f = statement_grows t f

    pub row_grows : (x : g.Row) (f : Files) → Extends (row_files s f x) f
    row_grows g.no_row f = extends_itself f
    row_grows (g.more_row semicolon t rest) f =
        extends_on (row_grows rest (statement_files s f t)) (statement_grows t f)
