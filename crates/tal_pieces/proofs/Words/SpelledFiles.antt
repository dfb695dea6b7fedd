-- What the files of a text are opened to can be spelled, and their depths.
use Rattle.std.proofs.Common.{◌≡◌, ◌≤◌, ℕ, Bool, true, false, ◌&&◌, List, [], ◌∷◌, length, min, refl, sym, arith}
use Rattle.std.proofs.Common.{if◌then◌else◌}
use Rattle.std.specs.Prelude.{ℤ, pos, negsuc, int_le, Option, Some, None, FitsSigned}
use Rattle.std.specs.Int.{cast_unsigned, w16}
use Rattle.std.proofs.lemmas.Bool.{and_parts, leb-true, true≢false}
use Rattle.std.proofs.lemmas.Int.{ints}
use Rattle.tal_tree.specs.declared.program.Program.{Program}
use Rattle.tal_tokens.specs.declared.token.Token.{Token}
use Rattle.tal_tokens.specs.declared.token.Token.TheVariants as tok
use Rattle.tal_syntax.specs.Grammar as g
use Rattle.tal_declarations.specs.declared.table.Files.{Files}
use Rattle.tal_names.specs.declared.scope.Named.{Named}
use Rattle.tal_names.specs.declared.scope.Scope.{Scope}
use Rattle.tal_names.specs.declared.system.System.{System}
use Rattle.tal_names.specs.declared.system.System.TheVariants as system
use Rattle.tal_declarations.specs.Files.{target_of, file_by, depth_of, with_file, simple_global, depth_value, opened_as}
use Rattle.tal_declarations.specs.Files.{opened_named, opened, call_files, statement_files, else_files, row_files}
use Rattle.tal_names.specs.Systems.{system_of}
use Rattle.tal_names.specs.Names.{is_declared}
use Rattle.tal_names.specs.Places.{name_of_argument, further_arguments, arguments_of}
use Rattle.tal_rules.specs.Texts.{first_progress}
use Rattle.tal_pieces.specs.Cuts.{IsSpellable}
use Rattle.tal_pieces.specs.Printed.Names.{target_piece}
use Rattle.tal_pieces.proofs.Words.LiteralWords.{MeaningFits, AreFitting, ScopeFits, scope_fits, with_fits}
use Rattle.tal_pieces.proofs.Spelling.SpelledTokens.{either}
use Rattle.tal_pieces.proofs.Words.SpelledSyntax.{AllSpelled, words_expr}
use Rattle.tal_pieces.proofs.Words.SpelledStatements.{words_step, words_statement}
use Rattle.tal_pieces.proofs.Words.WordTrees.{NamesSpell, UseSpells}
use Rattle.tal_pieces.proofs.Common.Entries.{each_append, Each}

-- a program and a scope with nothing in them: what comes after a part of a text doesn't depend on what its names stand
-- for
nothing : Program
nothing = record { items = []; files = []; procedures = []; main = 0 }

nothing_named : NamesSpell nothing
unfolding nothing
nothing_named = record { items = λ k. tt; procedures = λ k. tt; files = λ k. tt }

bare : Scope
bare = record { globals = []; files = []; locals = []; number = 0; gives = false }

bare_fits : ScopeFits bare
unfolding bare
bare_fits = scope_fits bare tt tt tt

pub rest_of_expr : (e : g.Expr) (ks : List Token) → AllSpelled (g.of_expr e ks) → AllSpelled ks
rest_of_expr e ks h = (words_expr nothing [] nothing_named (λ k. tt) bare bare_fits e ks h).later

rest_of_step : (x : g.Step) (ks : List Token) → AllSpelled (g.of_step x ks) → AllSpelled ks
rest_of_step x ks h = (words_step bare bare_fits x ks h).1

pub rest_of_statement : (t : g.Statement) (ks : List Token) → AllSpelled (g.of_statement t ks) → AllSpelled ks
rest_of_statement t ks h =
    (words_statement nothing [] nothing_named (λ k. tt) bare bare_fits t first_progress.walk ks h).1

-- what an OPEN's string opens a file to
abbrev TargetSpells : g.Argument → Type 0
TargetSpells a = IsSpellable (target_piece (target_of a))

target_argument : (a : g.Argument) (ks : List Token) → AllSpelled (g.of_argument a ks) → TargetSpells a × AllSpelled ks
target_argument (g.value e) ks h = (tt, rest_of_expr e ks h)
target_argument (g.receive at) ks h = (tt, h.1)
target_argument (g.process at name) ks h = h
target_argument (g.quoted at) ks h = (tt, h.1)

target_further : (more : g.Further) (ks : List Token) → AllSpelled (g.of_further more ks)
    → Each TargetSpells (further_arguments more)
target_further g.no_further ks h = tt
target_further (g.more_further comma a rest) ks h =
    let first = target_argument a (g.of_further rest ks) h.1 in
    (first.0, target_further rest ks first.1)

target_arguments : (a : g.Arguments) (ks : List Token) → AllSpelled (g.of_arguments a ks)
    → Each TargetSpells (arguments_of a)
target_arguments g.unlisted ks h = tt
target_arguments (g.listed start a rest close) ks h =
    let first = target_argument a (g.of_further rest (tok.Close close ∷ ks)) h.1 in
    (first.0, target_further rest (tok.Close close ∷ ks) first.1)

-- depths go from 1 to 4
small : (value : ℤ) (b : Bool) → (int_le (pos 1) value && int_le value (pos 4)) ≡ b
    → FitsSigned w16 (pos (if b then cast_unsigned w16 value else 1))
small value false e = omega arith
small (pos n) true e =
    let low : n ≤ 4 = leb-true n 4 (and_parts (int_le (pos 1) (pos n)) (int_le (pos n) (pos 4)) e).1 in
    omega (arith, ints, low)
small (negsuc n) true e = absurd (true≢false (sym e))

depth_fits : (found : Option ℤ) → FitsSigned w16 (pos (depth_of found))
depth_fits None = omega arith
depth_fits (Some value) = small value (int_le (pos 1) value && int_le value (pos 4)) refl

-- files whose targets and depths can be spelled; their variables are no LITERALs
abbrev pub FilesSpell : Files → Type 0
FilesSpell f = Each UseSpells f.uses × AreFitting f.names

is_no_literal : (string : g.Argument) (item number : ℕ) → MeaningFits (file_by string item number)
is_no_literal (g.value e) item number = tt
is_no_literal (g.receive at) item number = tt
is_no_literal (g.process at name) item number = tt
is_no_literal (g.quoted at) item number = tt

module _ (s : Scope) where
  files_with : (f : Files) (name : List ℕ) (item : ℕ) (string : g.Argument) (found : Option ℤ) → FilesSpell f
      → TargetSpells string
      → FilesSpell (with_file f name item string (depth_of found))
  files_with f name item string found h t =
      either FilesSpell (is_declared name f.names) f _ h (
        each_append UseSpells f.uses (record { item = item; target = target_of string; depth = depth_of found } ∷ [])
            h.0 ((t, depth_fits found), tt),
        with_fits f.names name (file_by string item (min 8 (length f.uses))) h.1
            (is_no_literal string item (min 8 (length f.uses))),
      )

  files_as : (f : Files) (string depth : g.Argument) (name : List ℕ) (found : Option ℕ) → FilesSpell f
      → TargetSpells string
      → FilesSpell (opened_as s f string depth name found)
  files_as f string depth name None h t = h
  files_as f string depth name (Some item) h t = files_with f name item string (depth_value s depth) h t

  files_named : (f : Files) (string depth : g.Argument) (found : Option Named) → FilesSpell f → TargetSpells string
      → FilesSpell (opened_named s f string depth found)
  files_named f string depth None h t = h
  files_named f string depth (Some n) h t = files_as f string depth n.name (simple_global s n.name) h t

  files_opened : (f : Files) (arguments : List g.Argument) → FilesSpell f → Each TargetSpells arguments
      → FilesSpell (opened s f arguments)
  files_opened f [] h t = h
  files_opened f (a ∷ []) h t = h
  files_opened f (a ∷ b ∷ []) h t = h
  files_opened f (a ∷ b ∷ c ∷ []) h t = files_named f a c (name_of_argument b) h t.0
  files_opened f (a ∷ b ∷ c ∷ d ∷ rest) h t = h

  files_called : (f : Files) (arguments : List g.Argument) (found : Option System) → FilesSpell f
      → Each TargetSpells arguments
      → FilesSpell (call_files s f arguments found)
  files_called f arguments None h t = h
  files_called f arguments (Some system.CheckMonitor) h t = h
  files_called f arguments (Some system.Checkpoint) h t = h
  files_called f arguments (Some system.Open) h t = files_opened f arguments h t
  files_called f arguments (Some system.ReadUpdate) h t = h
  files_called f arguments (Some system.Reply) h t = h
  files_called f arguments (Some system.Stop) h t = h
  files_called f arguments (Some system.WriteRead) h t = h

  -- the files of statements
  mutual
    pub files_statement : (t : g.Statement) (f : Files) (ks : List Token) → FilesSpell f
        → AllSpelled (g.of_statement t ks) → FilesSpell (statement_files s f t)
    files_statement g.nothing f ks h a = h
    files_statement (g.block begin t more end) f ks h a =
        let ls : List Token = tok.End end ∷ ks in
        files_row more (statement_files s f t) ls (files_statement t f (g.of_row more ls) h a.1)
        (rest_of_statement t (g.of_row more ls) a.1)
    files_statement (g.if_then head test then_at t o) f ks h a =
        let b = rest_of_expr test (tok.Then then_at ∷ g.of_statement t (g.of_otherwise o ks)) a.1 in
        files_else o (statement_files s f t) ks (files_statement t f (g.of_otherwise o ks) h b.1)
        (rest_of_statement t (g.of_otherwise o ks) b.1)
    files_statement (g.while_do head test do_at t) f ks h a =
        files_statement t f ks h (rest_of_expr test (tok.Do do_at ∷ g.of_statement t ks) a.1).1
    files_statement (g.for_do head at name set_at from direction to step do_at t) f ks h a =
        let body : List Token = tok.Do do_at ∷ g.of_statement t ks in
        let low = rest_of_expr from (g.of_direction direction ∷ g.of_expr to (g.of_step step body)) a.1.1.1 in
        files_statement t f ks h (rest_of_step step body (rest_of_expr to (g.of_step step body) low.1)).1
    files_statement (g.do_until head t at test) f ks h a =
        files_statement t f (tok.Until at ∷ g.of_expr test ks) h a.1
    files_statement (g.call head at name arguments) f ks h a =
        files_called f (arguments_of arguments) (system_of name) h (target_arguments arguments ks a.1.1)
    files_statement (g.return head given) f ks h a = h
    files_statement (g.assign target at e) f ks h a = h
    files_statement (g.assign_call target at name_at name start first more close) f ks h a = h

    files_else : (o : g.Otherwise) (f : Files) (ks : List Token) → FilesSpell f → AllSpelled (g.of_otherwise o ks)
        → FilesSpell (else_files s f o)
    files_else g.no_else f ks h a = h
    files_else (g.otherwise at t) f ks h a = files_statement t f ks h a.1

    pub files_row : (more : g.Row) (f : Files) (ks : List Token) → FilesSpell f → AllSpelled (g.of_row more ks)
        → FilesSpell (row_files s f more)
    files_row g.no_row f ks h a = h
    files_row (g.more_row semicolon t rest) f ks h a =
        files_row rest (statement_files s f t) ks (files_statement t f (g.of_row rest ks) h a.1)
        (rest_of_statement t (g.of_row rest ks) a.1)
