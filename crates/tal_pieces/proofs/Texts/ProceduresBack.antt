-- The printed procedures of a text without faults read back.
use Rattle.std.proofs.Common.{◌≡◌, ℕ, List, [], ◌∷◌, refl, ap, ap₂, ◌∙◌}
use Rattle.std.specs.Prelude.{map}
use Rattle.tal_tree.specs.declared.program.Program.{Program}
use Rattle.tal_tokens.specs.declared.token.At.{At}
use Rattle.tal_tokens.specs.declared.token.Token.{Token}
use Rattle.tal_syntax.specs.Grammar as g
use Rattle.tal_syntax.specs.Expected.{AllAtMost}
use Rattle.tal_syntax.specs.Nesting.{nest_procedures, nest_procedure, nest_locals, nest_statement, nest_row}
use Rattle.tal_declarations.specs.declared.table.Files.{Files}
use Rattle.tal_declarations.specs.declared.table.Headed.{Headed}
use Rattle.tal_rules.specs.declared.walk.Progress.{Progress}
use Rattle.tal_names.specs.declared.scope.Scope.{Scope}
use Rattle.tal_declarations.specs.Files.{statement_files, row_files}
use Rattle.tal_declarations.specs.Headings.{heading_faults, headings_faults, with_heading, with_headings}
use Rattle.tal_names.specs.Names.{Declarations}
use Rattle.tal_rules.specs.Texts.{faults, next_procedure, procedure_faults, procedures_faults, after_procedure}
use Rattle.tal_rules.specs.Texts.{procedure_files, files_from, scope_of}
use Rattle.tal_meaning.specs.Programs.{trees_of}
use Rattle.tal_pieces.specs.declared.piece.Piece.{Piece}
use Rattle.tal_pieces.specs.Cuts.{AreTokens}
use Rattle.tal_pieces.specs.Unlined.{unlined_procedure}
use Rattle.tal_pieces.proofs.Scopes.Agreement.{Extends, OpenedSoFar, printed_headed}
use Rattle.tal_pieces.proofs.Declarations.DeclarationsBack.{HeadingsReadBack}
use Rattle.tal_pieces.proofs.Standing.FilesGrow.{extends_itself, extends_on, statement_grows, row_grows}
use Rattle.tal_pieces.proofs.Texts.Flagged.{flagged, marked}
use Rattle.tal_pieces.proofs.Texts.LaterLevels.{after_heading, after_locals}
use Rattle.tal_pieces.proofs.Standing.LevelsAfter.{after_statement, after_row}
use Rattle.tal_pieces.proofs.Texts.OneProcedureBack.{program, names, printed_names, files, procedure_back}
use Rattle.tal_faultless.proofs.Scopes.SourceNames.{SourceNames}
use Rattle.tal_pieces.proofs.Scopes.SourceScopes.{ScopesAgree}
use Rattle.tal_pieces.proofs.Standing.SourceStands.{BodiesStand}
use Rattle.tal_pieces.proofs.Standing.Stands.{first_files}
use Rattle.tal_pieces.proofs.Bodies.StatementsBack.{BodiesReadBack}
use Rattle.tal_faultless.proofs.Common.Faultless.{nils, first_nil, second_nil}

-- what stands after all procedures
abbrev pub last_progress : Declarations → Declarations → Progress → g.Procedures → Progress
last_progress globals opened pr g.no_procedures = pr
last_progress globals opened pr (g.more_procedures q rest) =
    last_progress globals opened (after_procedure globals opened pr q) rest

-- the files of a text's procedures follow those that were opened before them
files_grow : (globals : Declarations) (number : ℕ) (f : Files) (ps : g.Procedures)
    → Extends (files_from globals number f ps) f
files_grow globals number f g.no_procedures = extends_itself f
files_grow globals number f (g.more_procedures (g.procedure h outer begin inner first more end last) rest) =
    let s = scope_of globals [] number h inner in
    let one = statement_files s f first in
    extends_on (files_grow globals (next_procedure number) (row_files s one more) rest)
    (extends_on (row_grows s more one) (statement_grows s first f))

-- the levels of the procedures after one
after_procedures : (q : g.Procedure) (ls : List ℕ) → AllAtMost 33 (nest_procedure 0 q ls) → AllAtMost 33 ls
after_procedures (g.procedure h outer begin inner first more end last) ls held =
    let s = scope_of [] [] 0 h inner in
    let body = nest_statement 0 first (nest_row 0 more (0 ∷ 0 ∷ ls)) in
    (after_row s 33 more 0 (0 ∷ 0 ∷ ls) (after_statement s 33 first 0 (nest_row 0 more (0 ∷ 0 ∷ ls))
    (after_locals 33 0 inner body (after_locals 33 0 outer (0 ∷ nest_locals 0 inner body)
    (after_heading 33 0 h (nest_locals 0 outer (0 ∷ nest_locals 0 inner body)) held)).1))).1.1

module _ (lines : g.Lines) (all : g.Procedures) (finish : At) (fine : faults (g.text lines all finish) ≡ [])
    (bodies : (p : Program) (locals : List (List ℕ)) (s : Scope) (f : Files) → BodiesReadBack p locals s f)
    (stand : (p : Program) (locals : List (List ℕ)) (s : Scope) (f : Files) → SourceNames s → BodiesStand p locals s f)
    (agree : ScopesAgree) (headings : HeadingsReadBack) where
  abbrev globals : Declarations
  globals = names lines all finish fine bodies stand agree headings

  abbrev printed_globals : Declarations
  printed_globals = printed_names lines all finish fine bodies stand agree headings

  abbrev opened_files : Files
  opened_files = files lines all finish fine bodies stand agree headings

  -- the tokens begin with procedures that have no fault and are the same but for lines
  pub record ProceduresBack (hd : Headed) (pr : Progress) (f : Files) (ps : g.Procedures) (ks : List Piece)
      (tokens : List Token) : Type 0 where
    pub syntax : g.Procedures
    pub rest : List Token
    pub front : tokens ≡ g.of_procedures syntax rest
    pub later : AreTokens ks rest
    pub headings_fine : headings_faults (printed_headed hd) syntax ≡ []
    pub headed : with_headings (printed_headed hd) syntax ≡ printed_headed (with_headings hd ps)
    pub faultless : procedures_faults printed_globals opened_files.names pr syntax ≡ []
    pub same : map unlined_procedure (trees_of printed_globals opened_files.names pr syntax)
        ≡ map unlined_procedure (trees_of globals opened_files.names pr ps)
    pub opened : files_from printed_globals pr.count (first_files opened_files pr.walk.files) syntax
        ≡ first_files opened_files (last_progress globals opened_files.names pr ps).walk.files
    pub counted : OpenedSoFar (last_progress globals opened_files.names pr ps).walk.files
        (files_from globals pr.count f ps)
    pub nearest : g.IsNearestIn syntax
    pub shallow : (ls : List ℕ) → AllAtMost 33 ls → AllAtMost 33 (nest_procedures 0 syntax ls)

  pub procedures_back : (hd : Headed) (pr : Progress) (f : Files) (ps : g.Procedures) (levels : List ℕ)
      (ks : List Piece) (tokens : List Token)
      → headings_faults hd ps ≡ [] → procedures_faults globals opened_files.names pr ps ≡ []
      → OpenedSoFar pr.walk.files f → Extends opened_files (files_from globals pr.count f ps)
      → AllAtMost 33 (nest_procedures 0 ps levels)
      → AreTokens (flagged (program lines all finish fine bodies stand agree headings)
      (marked globals opened_files.names pr ps) ks) tokens
      → ProceduresBack hd pr f ps ks tokens
  procedures_back hd pr f g.no_procedures levels ks tokens eh ep counted extends deep a = record {
    syntax = g.no_procedures;
    rest = tokens;
    front = refl;
    later = a;
    headings_fine = refl;
    headed = refl;
    faultless = refl;
    same = refl;
    opened = refl;
    counted = counted;
    nearest = tt;
    shallow = λ ls held. held;
  }
  procedures_back hd pr f (g.more_procedures (g.procedure h outer begin inner start others end last) rest) levels ks
      tokens eh ep counted extends deep a =
      let q = g.procedure h outer begin inner start others end last in
      let next = after_procedure globals opened_files.names pr q in
      let one = procedure_back lines all finish fine bodies stand agree headings hd pr f q
      (nest_procedures 0 rest levels)
      (flagged (program lines all finish fine bodies stand agree headings)
      (marked globals opened_files.names next rest) ks) tokens
      (first_nil (heading_faults hd h) (headings_faults (with_heading hd h) rest) eh)
      (first_nil (procedure_faults globals opened_files.names pr q)
      (procedures_faults globals opened_files.names next rest) ep)
      counted (extends_on extends (files_grow globals next.count (procedure_files globals pr.count f q) rest)) deep a in
      let more = procedures_back (with_heading hd h) next (procedure_files globals pr.count f q) rest levels ks one.rest
      (second_nil (heading_faults hd h) (headings_faults (with_heading hd h) rest) eh)
      (second_nil (procedure_faults globals opened_files.names pr q)
      (procedures_faults globals opened_files.names next rest) ep)
      one.counted extends (after_procedures q (nest_procedures 0 rest levels) deep) one.later in
      record {
        syntax = g.more_procedures one.syntax more.syntax;
        rest = more.rest;
        front = one.front ∙ ap (g.of_procedure one.syntax) more.front;
        later = more.later;
        headings_fine = nils one.heading (ap (λ x. headings_faults x more.syntax) one.headed ∙ more.headings_fine);
        headed = ap (λ x. with_headings x more.syntax) one.headed ∙ more.headed;
        faultless = nils one.faultless (ap (λ x. procedures_faults printed_globals opened_files.names x more.syntax)
            one.next ∙ more.faultless);
        same = ap₂ (λ x xs. x ∷ xs) one.same (ap
            (λ x. map unlined_procedure (trees_of printed_globals opened_files.names x more.syntax)) one.next
            ∙ more.same);
        opened = ap (λ x. files_from printed_globals next.count x more.syntax) one.opened ∙ more.opened;
        counted = more.counted;
        nearest = (one.nearest, more.nearest);
        shallow = λ ls held. one.shallow (nest_procedures 0 more.syntax ls) (more.shallow ls held);
      }
