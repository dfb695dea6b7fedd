-- A printed procedure of a text without faults reads back.
use Rattle.std.proofs.Common.{◌≡◌, ℕ, List, [], ◌∷◌, ◌++◌, refl, ap, ap₂, ◌∙◌, arith}
use Rattle.std.specs.Prelude.{false, not, ◌&&◌, ◌||◌, min}
use Rattle.tal_tree.specs.declared.program.Program.{Program}
use Rattle.tal_tokens.specs.declared.token.At.{At}
use Rattle.tal_tokens.specs.declared.token.Token.{Token}
use Rattle.tal_tokens.specs.declared.token.Token.TheVariants as tok
use Rattle.tal_syntax.specs.Grammar as g
use Rattle.tal_syntax.specs.Expected.{AllAtMost}
use Rattle.tal_syntax.specs.Nesting.{nest_procedure, nest_locals, nest_statement, nest_row}
use Rattle.tal_names.specs.declared.fault.Rule.TheVariants.{Prologue}
use Rattle.tal_declarations.specs.declared.table.Files.{Files}
use Rattle.tal_declarations.specs.declared.table.Headed.{Headed}
use Rattle.tal_rules.specs.declared.walk.Progress.{Progress}
use Rattle.tal_names.specs.declared.scope.Scope.{Scope}
use Rattle.tal_names.specs.Faults.{fault_at, if_so}
use Rattle.tal_declarations.specs.Files.{statement_files, row_files}
use Rattle.tal_declarations.specs.Headings.{heading_of, heading_faults, with_heading, locals_of}
use Rattle.tal_names.specs.Names.{Declarations}
use Rattle.tal_rules.specs.Texts.{faults, headed_text, files_by, scope_of, walk_at_entry, stage_at, next_procedure}
use Rattle.tal_rules.specs.Texts.{has_word_main, name_place, lacks_monitor, heading_locals_faults, body_after}
use Rattle.tal_rules.specs.Texts.{body_faults, procedure_faults, after_procedure, procedure_files}
use Rattle.tal_meaning.specs.Programs.{tree_of, tree_of_procedure, parameters_by, texts_of, body_statements}
use Rattle.tal_pieces.specs.declared.piece.Keyword.TheVariants as word
use Rattle.tal_pieces.specs.declared.piece.Symbol.TheVariants as sign
use Rattle.tal_pieces.specs.declared.piece.Piece.{Piece}
use Rattle.tal_pieces.specs.declared.piece.Piece.TheVariants as piece
use Rattle.tal_pieces.specs.Cuts.{AreTokens}
use Rattle.tal_pieces.specs.Printed.Procedures.{procedure_pieces}
use Rattle.tal_pieces.specs.Printed.Statements.{body_pieces}
use Rattle.tal_pieces.specs.Unlined.{unlined_statements, unlined_procedure}
use Rattle.tal_pieces.proofs.Scopes.Agreement.{Extends, OpenedSoFar, printed_scope, printed_headed, without_literals}
use Rattle.tal_pieces.proofs.Values.Back.{first}
use Rattle.tal_pieces.proofs.Declarations.DeclarationsBack.{HeadingsReadBack}
use Rattle.tal_pieces.proofs.Texts.LaterLevels.{after_heading, after_locals}
use Rattle.tal_faultless.proofs.Scopes.SourceNames.{SourceNames}
use Rattle.tal_pieces.proofs.Scopes.SourceScopes.{ScopesAgree}
use Rattle.tal_faultless.proofs.Scopes.SourceScopes.{scope_in, without_files}
use Rattle.tal_pieces.proofs.Standing.SourceStands.{BodiesStand}
use Rattle.tal_pieces.proofs.Standing.Stands.{first_files}
use Rattle.tal_faultless.proofs.Scopes.TextNames.{source_names}
use Rattle.tal_pieces.proofs.Bodies.StatementsBack.{BodiesReadBack}
use Rattle.tal_faultless.proofs.Common.Faultless.{nils, first_nil, second_nil, refuted}

module _ (lines : g.Lines) (all : g.Procedures) (finish : At) (fine : faults (g.text lines all finish) ≡ [])
    (bodies : (p : Program) (locals : List (List ℕ)) (s : Scope) (f : Files) → BodiesReadBack p locals s f)
    (stand : (p : Program) (locals : List (List ℕ)) (s : Scope) (f : Files) → SourceNames s → BodiesStand p locals s f)
    (agree : ScopesAgree) (headings : HeadingsReadBack) where
  abbrev pub program : Program
  program = tree_of (g.text lines all finish)

  abbrev pub names : Declarations
  names = (headed_text lines all).names

  abbrev pub printed_names : Declarations
  printed_names = without_literals names

  abbrev pub files : Files
  files = files_by (headed_text lines all) all

  -- the tokens begin with a procedure that has no fault and is the same but for lines, and leaves as much behind it
  pub record ProcedureBack (hd : Headed) (pr : Progress) (f : Files) (q : g.Procedure) (ks : List Piece)
      (tokens : List Token) : Type 0 where
    pub syntax : g.Procedure
    pub rest : List Token
    pub front : tokens ≡ g.of_procedure syntax rest
    pub later : AreTokens ks rest
    pub heading : heading_faults (printed_headed hd) (heading_of syntax) ≡ []
    pub headed : with_heading (printed_headed hd) (heading_of syntax) ≡ printed_headed (with_heading hd (heading_of q))
    pub faultless : procedure_faults printed_names files.names pr syntax ≡ []
    pub same : unlined_procedure (tree_of_procedure printed_names files.names pr syntax)
        ≡ unlined_procedure (tree_of_procedure names files.names pr q)
    pub next : after_procedure printed_names files.names pr syntax ≡ after_procedure names files.names pr q
    pub opened : procedure_files printed_names pr.count (first_files files pr.walk.files) syntax
        ≡ first_files files (after_procedure names files.names pr q).walk.files
    pub counted : OpenedSoFar (after_procedure names files.names pr q).walk.files (procedure_files names pr.count f q)
    pub nearest : g.IsNearestProcedure syntax
    pub shallow : (ls : List ℕ) → AllAtMost 33 ls → AllAtMost 33 (nest_procedure 0 syntax ls)

  pub procedure_back : (hd : Headed) (pr : Progress) (f : Files) (q : g.Procedure) (levels : List ℕ) (ks : List Piece)
      (tokens : List Token)
      → heading_faults hd (heading_of q) ≡ [] → procedure_faults names files.names pr q ≡ []
      → OpenedSoFar pr.walk.files f → Extends files (procedure_files names pr.count f q)
      → AllAtMost 33 (nest_procedure 0 q levels)
      → AreTokens (procedure_pieces program (has_word_main (heading_of q)) (tree_of_procedure names files.names pr q)
      ks) tokens
      → ProcedureBack hd pr f q ks tokens
  procedure_back hd pr f (g.procedure h outer begin inner start more end last) levels ks tokens eh ep counted extends
      deep a =
      let s = scope_in lines all pr.count h inner in
      let w = walk_at_entry pr h in
      let v = body_after s w start more in
      let locals = texts_of (parameters_by h ++ locals_of inner) in
      let body = body_statements s w start more in
      let heads = heading_locals_faults h outer inner in
      let inside = body_faults s w start more in
      let monitor = if_so (lacks_monitor v.stage) (fault_at (name_place h) Prologue) in
      let local_fine : heads ≡ [] = first_nil heads inside (first_nil (heads ++ inside) monitor ep) in
      let body_fine : inside ≡ [] = second_nil heads inside (first_nil (heads ++ inside) monitor ep) in
      let begun : lacks_monitor v.stage ≡ false =
      refuted (lacks_monitor v.stage) (name_place h) Prologue (second_nil (heads ++ inside) monitor ep) in
      let ends = piece.Keyword word.End ∷ piece.Symbol sign.Semicolon ∷ ks in
      let hb = headings hd h outer inner body (body_pieces program locals body ends) tokens eh local_fine a in
      let stands = stand program locals s files (source_names lines all finish fine pr.count h outer inner local_fine)
      (agree lines all finish fine pr.count h outer inner local_fine) refl refl 0 w f start more (0 ∷ 0 ∷ levels)
      counted extends body_fine
      (after_locals 33 0 inner (nest_statement 0 start (nest_row 0 more (0 ∷ 0 ∷ levels)))
      (after_locals 33 0 outer (0 ∷ nest_locals 0 inner (nest_statement 0 start (nest_row 0 more (0 ∷ 0 ∷ levels))))
      (after_heading 33 0 h (nest_locals 0 outer
      (0 ∷ nest_locals 0 inner (nest_statement 0 start (nest_row 0 more (0 ∷ 0 ∷ levels))))) deep)).1) in
      let bb = bodies program locals (printed_scope s) files 0 w body v ends hb.rest (omega arith) stands.row
      hb.later in
      let fe = first bb.later in
      let fs = first fe.later in
      let scope = scope_of printed_names files.names pr.count hb.heading hb.locals in
      let walk = walk_at_entry pr hb.heading in
      let scope_same : scope ≡ printed_scope s =
      λ i. record {
        globals = printed_names;
        files = files.names;
        locals = hb.declared i;
        number = pr.count;
        gives = hb.gives i;
      } in
      let bare_same : without_files scope ≡ without_files (printed_scope s) = ap without_files scope_same in
      let walk_same : walk ≡ w = ap (λ b. record (pr.walk) { stage = stage_at (b && not pr.has_main) }) hb.main in
      let after_same : body_after scope walk bb.first bb.more ≡ v =
      ap₂ (λ x y. body_after x y bb.first bb.more) scope_same walk_same ∙ bb.next in
      record {
        syntax = g.procedure hb.heading hb.outer hb.begin hb.locals bb.first bb.more fe.at fs.at;
        rest = fs.rest;
        front = hb.front ∙ ap (λ ts. g.of_heading hb.heading
            (g.of_locals hb.outer (tok.Begin hb.begin ∷ g.of_locals hb.locals ts)))
            (bb.front ∙ ap (λ ts. g.of_statement bb.first (g.of_row bb.more ts))
            (fe.is ∙ ap (λ ts. tok.End fe.at ∷ ts) fs.is));
        later = fs.later;
        heading = hb.faultless;
        headed = hb.next;
        faultless = nils (nils hb.fine (ap₂ (λ x y. body_faults x y bb.first bb.more) scope_same walk_same
            ∙ bb.faultless))
            (ap (λ u. if_so (lacks_monitor u.stage) (fault_at (name_place hb.heading) Prologue)) after_same
            ∙ ap (λ b. if_so b (fault_at (name_place hb.heading) Prologue)) begun);
        same = λ i. record {
          name = hb.name i;
          gives = hb.gives i;
          parameters = min 12 (hb.count i);
          locals = hb.texts i;
          body = (ap₂ (λ x y. unlined_statements (body_statements x y bb.first bb.more)) scope_same walk_same
              ∙ bb.same) i;
        };
        next = λ i. record {
          count = next_procedure pr.count;
          has_main = pr.has_main || hb.main i;
          walk = after_same i;
        };
        opened = ap (λ x. row_files x (statement_files x (first_files files pr.walk.files) bb.first) bb.more) bare_same
            ∙ bb.opened;
        counted = stands.opened;
        nearest = bb.nearest;
        shallow = λ ls held. hb.shallow (nest_statement 0 bb.first (nest_row 0 bb.more (0 ∷ 0 ∷ ls)))
            (bb.shallow (0 ∷ 0 ∷ ls) (omega arith, (omega arith, held)));
      }
