-- Every piece of a printed program can be spelled.
use Rattle.std.proofs.Common.{ℕ, zero, suc, List, [], ◌∷◌, ◌++◌, length, min, subst}
use Rattle.std.specs.Prelude.{slice_get, option_map, Bool, true, false, Option, Some, None, is_some, if◌then◌else◌}
use Rattle.tal_tokens.specs.declared.token.Token.{Token}
use Rattle.tal_tokens.specs.declared.token.Token.TheVariants as tok
use Rattle.tal_syntax.specs.Grammar as g
use Rattle.tal_tree.specs.declared.program.FileUse.{FileUse}
use Rattle.tal_tree.specs.declared.program.Item.{Item}
use Rattle.tal_tree.specs.declared.program.Procedure.{Procedure}
use Rattle.tal_tree.specs.declared.program.Program.{Program}
use Rattle.tal_tree.specs.declared.program.Shape.{Shape}
use Rattle.tal_names.specs.declared.meaning.Meaning.{Meaning}
use Rattle.tal_names.specs.declared.meaning.Meaning.TheVariants as m
use Rattle.tal_declarations.specs.declared.table.Files.{Files}
use Rattle.tal_declarations.specs.declared.table.Headed.{Headed}
use Rattle.tal_names.specs.declared.scope.Named.{Named}
use Rattle.tal_rules.specs.declared.walk.Progress.{Progress}
use Rattle.tal_names.specs.declared.scope.Scope.{Scope}
use Rattle.tal_rules.specs.declared.walk.Walk.{Walk}
use Rattle.tal_rules.specs.Calls.{file_number}
use Rattle.tal_declarations.specs.Globals.{with_lines, nothing_declared}
use Rattle.tal_declarations.specs.Headings.{parameters_of, locals_of, with_local, with_locals, does_give, with_heading}
use Rattle.tal_declarations.specs.Headings.{heading_of, with_headings}
use Rattle.tal_names.specs.Names.{Declarations, meaning_in, with_name}
use Rattle.tal_names.specs.Systems.{system_of}
use Rattle.tal_rules.specs.Statements.{after}
use Rattle.tal_rules.specs.Texts.{scope_of, locals_by, walk_at_entry, next_procedure, after_procedure, first_progress}
use Rattle.tal_rules.specs.Texts.{headed_after, headed_text, procedure_files, files_from, files_by, no_files}
use Rattle.tal_meaning.specs.Programs.{shape_by, items_with, texts_of, name_by, parameters_by, trees_of, tree_of}
use Rattle.tal_meaning.specs.Statements.{statements_of, row_statements}
use Rattle.tal_pieces.proofs.Words.LiteralWords.{AreFitting, ScopeFits, scope_fits, with_fits}
use Rattle.tal_pieces.proofs.Words.SpelledDeclarations.{NamedSpells, words_lines, words_locals, words_heading}
use Rattle.tal_pieces.proofs.Words.SpelledFiles.{FilesSpell, rest_of_statement, files_statement, files_row}
use Rattle.tal_pieces.proofs.Words.SpelledStatements.{words_statement, words_row}
use Rattle.tal_pieces.proofs.Words.SpelledSyntax.{AllSpelled}
use Rattle.tal_pieces.proofs.Spelling.SpelledTokens.{tokens_spelled}
use Rattle.tal_pieces.proofs.Words.WordPieces.{PrintedCanBeSpelled}
use Rattle.tal_pieces.proofs.Words.WordPrograms.{IsName, ShapeSpells, ItemSpells, ProcedureSpells, spells_each}
use Rattle.tal_pieces.proofs.Words.WordPrograms.{spells_program}
use Rattle.tal_pieces.proofs.Words.WordTrees.{NameSpells, UseSpells, FileSpells, NamesSpell, SpellsStatement}
use Rattle.tal_pieces.proofs.Common.Entries.{each_append, Each}

-- the items of a program
shape_stays : (x : Shape) (found : Option ℕ) → ShapeSpells x → ShapeSpells (shape_by x found)
shape_stays x None h = h
shape_stays x (Some number) h = tt

items_stay : (files : Declarations) (items : List Item) → Each ItemSpells items
    → Each ItemSpells (items_with files items)
items_stay files [] h = tt
items_stay files (i ∷ rest) h =
    ((h.0.0, shape_stays i.shape (file_number (meaning_in i.name files)) h.0.1), items_stay files rest h.1)

-- what a program's numbers name
by_item : (items : List Item) (k : ℕ) → Each ItemSpells items
    → NameSpells (option_map (λ i. i.name) (slice_get items k))
by_item [] k h = tt
by_item (i ∷ rest) zero h = h.0.0
by_item (i ∷ rest) (suc k) h = by_item rest k h.1

abbrev HasName : Procedure → Type 0
HasName q = IsName q.name

by_procedure : (qs : List Procedure) (k : ℕ) → Each HasName qs → NameSpells (option_map (λ q. q.name) (slice_get qs k))
by_procedure [] k h = tt
by_procedure (q ∷ rest) zero h = h.0
by_procedure (q ∷ rest) (suc k) h = by_procedure rest k h.1

by_use : (uses : List FileUse) (k : ℕ) → Each UseSpells uses → FileSpells (slice_get uses k)
by_use [] k h = tt
by_use (f ∷ rest) zero h = h.0
by_use (f ∷ rest) (suc k) h = by_use rest k h.1

-- the locals of a procedure
texts_spell : (names : List Named) → Each NamedSpells names → Each IsName (texts_of names)
texts_spell [] h = tt
texts_spell (n ∷ rest) h = (h.0, texts_spell rest h.1)

locals_fit : (names : List Named) (ds : Declarations) → AreFitting ds → AreFitting (with_locals ds names)
locals_fit [] ds h = h
locals_fit (n ∷ rest) ds h =
    locals_fit rest (with_local ds n.name) (with_fits ds n.name (m.Local (min 12 (length ds))) h tt)

own_fit : (h : g.Heading) (inner : g.Locals) → AreFitting (locals_by h inner)
own_fit (g.heading gives proc at name listed main end) inner =
    locals_fit (locals_of inner) (with_locals [] (parameters_of listed)) (locals_fit (parameters_of listed) [] tt)

-- headings declare no LITERALs
heading_fits : (h : g.Heading) (x : Headed) → AreFitting x.names → AreFitting (with_heading x h).names
heading_fits (g.heading gives proc at name listed main end) x f =
    by (is_some (system_of name))
  where
    own : Meaning
    own = m.Procedure x.count (does_give gives) (length (parameters_of listed))

    by : (taken : Bool) → AreFitting (if taken then x.names else with_name x.names name own)
    by true = f
    by false = with_fits x.names name own f tt

headings_fit : (ps : g.Procedures) (x : Headed) → AreFitting x.names → AreFitting (with_headings x ps).names
headings_fit g.no_procedures x f = f
headings_fit (g.more_procedures q rest) x f =
    headings_fit rest (with_heading x (heading_of q)) (heading_fits (heading_of q) x f)

-- the parts of a procedure
record ProcedureWords (h : g.Heading) (inner : g.Locals) (first : g.Statement) (more : g.Row) (ks : List Token) :
    Type 0 where
  name : IsName (name_by h)
  locals : Each IsName (texts_of (parameters_by h ++ locals_of inner))
  last : List Token
  body : AllSpelled (g.of_statement first (g.of_row more last))
  rest : AllSpelled (g.of_row more last)
  later : AllSpelled ks

words_procedure : (h : g.Heading) (outer : g.Locals) (begin : _) (inner : g.Locals) (first : g.Statement)
    (more : g.Row) (end last : _) (ks : List Token)
    → AllSpelled (g.of_procedure (g.procedure h outer begin inner first more end last) ks)
    → ProcedureWords h inner first more ks
words_procedure h outer begin inner first more end last ks a =
    let closing : List Token = tok.End end ∷ tok.Semicolon last ∷ ks in
    let body : List Token = g.of_statement first (g.of_row more closing) in
    let heading = words_heading h (g.of_locals outer (tok.Begin begin ∷ g.of_locals inner body)) a in
    let before = words_locals outer (tok.Begin begin ∷ g.of_locals inner body) heading.later in
    let own = words_locals inner body before.1.1 in
    let rest = rest_of_statement first (g.of_row more closing) own.1 in
    record {
      name = heading.name;
      locals = texts_spell (parameters_by h ++ locals_of inner)
          (each_append NamedSpells (parameters_by h) (locals_of inner) heading.parameters own.0);
      last = closing;
      body = own.1;
      rest = rest;
      later = (rest_of_row more closing rest).1.1;
    }
  where
    rest_of_row : (more : g.Row) (ks : List Token) → AllSpelled (g.of_row more ks) → AllSpelled ks
    rest_of_row g.no_row ks h = h
    rest_of_row (g.more_row semicolon t rest) ks h = rest_of_row rest ks (rest_of_statement t (g.of_row rest ks) h.1)

-- the files and the names of procedures
files_spell : (globals : Declarations) (ps : g.Procedures) (number : ℕ) (f : Files) (ks : List Token) → FilesSpell f
    → AllSpelled (g.of_procedures ps ks)
    → FilesSpell (files_from globals number f ps)
files_spell globals g.no_procedures number f ks h a = h
files_spell globals (g.more_procedures (g.procedure head outer begin inner first more end last) rest) number f ks h a =
    let w = words_procedure head outer begin inner first more end last (g.of_procedures rest ks) a in
    let s : Scope = scope_of globals [] number head inner in
    files_spell globals rest (next_procedure number)
    (procedure_files globals number f (g.procedure head outer begin inner first more end last)) ks
    (files_row s more _ w.last (files_statement s first f (g.of_row more w.last) h w.body) w.rest) w.later

have_names : (globals files : Declarations) (ps : g.Procedures) (x : Progress) (ks : List Token)
    → AllSpelled (g.of_procedures ps ks)
    → Each HasName (trees_of globals files x ps)
have_names globals files g.no_procedures x ks a = tt
have_names globals files (g.more_procedures (g.procedure head outer begin inner first more end last) rest) x ks a =
    let w = words_procedure head outer begin inner first more end last (g.of_procedures rest ks) a in (
      w.name,
      have_names globals files rest (after_procedure globals files x
          (g.procedure head outer begin inner first more end last)) ks w.later,
    )

-- the bodies
module _ (p : Program) (names : NamesSpell p) (globals files : Declarations) (globals_fit : AreFitting globals)
    (files_fit : AreFitting files) where
  bodies_spell : (ps : g.Procedures) (x : Progress) (ks : List Token) → AllSpelled (g.of_procedures ps ks)
      → Each (ProcedureSpells p) (trees_of globals files x ps)
  bodies_spell g.no_procedures x ks a = tt
  bodies_spell (g.more_procedures (g.procedure head outer begin inner first more end last) rest) x ks a =
      let w = words_procedure head outer begin inner first more end last (g.of_procedures rest ks) a in
      let s : Scope = scope_of globals files x.count head inner in
      let locals : List (List ℕ) = texts_of (parameters_by head ++ locals_of inner) in
      let fits : ScopeFits s = scope_fits s (own_fit head inner) files_fit globals_fit in
      let begins : Walk = walk_at_entry x head in
      let front = words_statement p locals names (spells_each locals w.locals) s fits first begins
      (g.of_row more w.last) w.body in
      let back = words_row p locals names (spells_each locals w.locals) s fits more (after s begins first) w.last
      w.rest in (
        record {
          name = w.name;
          locals = w.locals;
          body = each_append (SpellsStatement p locals) (statements_of s begins first)
              (row_statements s (after s begins first) more) front.0 back.0;
        },
        bodies_spell rest (after_procedure globals files x (g.procedure head outer begin inner first more end last)) ks
            w.later,
      )

pub printed_can_be_spelled : PrintedCanBeSpelled
printed_can_be_spelled source (g.text lines ps finish) cut faultless =
    let end : List Token = tok.Finish finish ∷ [] in
    let all : AllSpelled (g.of_text (g.text lines ps finish)) =
    subst (λ x. AllSpelled x.list) cut (tokens_spelled source) in
    let declared = words_lines lines nothing_declared (g.of_procedures ps end) (tt, tt) all in
    let headed : Headed = headed_text lines ps in
    let globals_fit : AreFitting headed.names =
    headings_fit ps (headed_after (with_lines nothing_declared lines)) declared.0.1 in
    let files = files_spell headed.names ps 0 no_files end (tt, tt) declared.1 in
    let p : Program = tree_of (g.text lines ps finish) in
    let items : Each ItemSpells p.items =
    items_stay (files_by headed ps).names (with_lines nothing_declared lines).items declared.0.0 in
    let named : Each HasName p.procedures =
    have_names headed.names (files_by headed ps).names ps first_progress end declared.1 in
    let names : NamesSpell p =
    record {
      items = λ k. by_item p.items k items;
      procedures = λ k. by_procedure p.procedures k named;
      files = λ k. by_use p.files k files.0;
    } in
    spells_program p names items (bodies_spell p names headed.names (files_by headed ps).names globals_fit files.1 ps
    first_progress end declared.1)
