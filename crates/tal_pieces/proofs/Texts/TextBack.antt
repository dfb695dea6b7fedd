-- The printed text of a program that a text reads as is a text without faults again, of a program that is the same but
-- for lines.
use Rattle.std.proofs.Common.{◌≡◌, ℕ, List, [], ◌∷◌, ◌++◌, take, drop, refl, ap, ◌∙◌, arith, subst}
use Rattle.std.proofs.lemmas.List.{take_all}
use Rattle.std.specs.Prelude.{Option, Some, None, unwrap_or, map}
use Rattle.tal_tree.specs.declared.program.Item.{Item}
use Rattle.tal_tree.specs.declared.program.Procedure.{Procedure}
use Rattle.tal_tree.specs.declared.program.Program.{Program}
use Rattle.tal_tokens.specs.declared.token.At.{At}
use Rattle.tal_tokens.specs.declared.token.Token.{Token}
use Rattle.tal_tokens.specs.declared.token.Token.TheVariants as tok
use Rattle.tal_syntax.specs.Grammar as g
use Rattle.tal_syntax.specs.Expected.{AllAtMost}
use Rattle.tal_syntax.specs.Nesting.{nest_text, nest_procedures}
use Rattle.tal_declarations.specs.declared.table.Files.{Files}
use Rattle.tal_declarations.specs.declared.table.Headed.{Headed}
use Rattle.tal_names.specs.declared.scope.Scope.{Scope}
use Rattle.tal_declarations.specs.Globals.{lines_faults, with_lines, nothing_declared}
use Rattle.tal_declarations.specs.Headings.{headings_faults, with_headings}
use Rattle.tal_rules.specs.Texts.{faults, headed_after, headed_text, files_by, files_from, no_files, bodies_faults}
use Rattle.tal_rules.specs.Texts.{main_missing, procedures_faults, first_progress}
use Rattle.tal_meaning.specs.Programs.{tree_of, items_with, program_by, trees_of}
use Rattle.tal_pieces.specs.Cuts.{AreTokens, finished}
use Rattle.tal_pieces.specs.Printed.Procedures.{program_pieces, items_pieces, procedures_pieces, main_pieces}
use Rattle.tal_pieces.specs.Unlined.{unlined, unlined_procedure, IsSameButForLines}
use Rattle.tal_pieces.proofs.Scopes.Agreement.{OpenedSoFar, printed_headed}
use Rattle.tal_pieces.proofs.Declarations.DeclarationsBack.{LinesReadBack, HeadingsReadBack}
use Rattle.tal_pieces.proofs.Standing.FilesGrow.{extends_itself}
use Rattle.tal_pieces.proofs.Texts.Flagged.{flagged, marked, main_at}
use Rattle.tal_pieces.proofs.Declarations.ItemsBack.{low_level}
use Rattle.tal_pieces.proofs.Texts.LaterLevels.{after_lines}
use Rattle.tal_pieces.proofs.Texts.ProceduresBack.{last_progress, procedures_back}
use Rattle.tal_faultless.proofs.Scopes.SourceNames.{SourceNames}
use Rattle.tal_pieces.proofs.Scopes.SourceScopes.{ScopesAgree, FileItemsAreSimple}
use Rattle.tal_pieces.proofs.Standing.SourceStands.{BodiesStand}
use Rattle.tal_pieces.proofs.Standing.Stands.{first_files}
use Rattle.tal_pieces.proofs.Bodies.StatementsBack.{BodiesReadBack}
use Rattle.tal_faultless.proofs.Common.Faultless.{no_fault, nils, first_nil, second_nil}
use Rattle.std.proofs.lemmas.Option.{none-some}

-- the syntax of a printed text: it has no fault, and stands for the same program but for lines
pub record TextBack (t : g.Text) (tokens : List Token) : Type 0 where
  pub syntax : g.Text
  pub is : g.IsText syntax
  pub front : tokens ≡ g.of_text syntax
  pub shallow : AllAtMost 33 (nest_text syntax)
  pub faultless : faults syntax ≡ []
  pub same : IsSameButForLines (tree_of syntax) (tree_of t)

-- which procedure is MAIN, where one is
record Main (main : Option ℕ) : Type 0 where
  number : ℕ
  is : main ≡ Some number

main_there : (main : Option ℕ) (finish : At) → main_missing main finish ≡ [] → Main main
main_there None finish e = no_fault e
main_there (Some k) finish e = record { number = k; is = refl }

main_still : (main : Option ℕ) (k : ℕ) → main ≡ Some k → (finish : At) → main_missing main finish ≡ []
main_still main k e finish = ap (λ m. main_missing m finish) e

-- the end of the pieces is the end of the text
record Ended (tokens : List Token) : Type 0 where
  at : At
  is : tokens ≡ tok.Finish at ∷ []

ended : {tokens : List Token} → AreTokens [] tokens → Ended tokens
ended (finished at) = record { at = at; is = refl }

-- so many files as there are, are all files
all_files : (f : Files) (k : ℕ) → OpenedSoFar k f → first_files f k ≡ f
all_files f k o = λ i. record {
  names = take_all k f.names (omega (arith, o.names_count)) i;
  uses = take_all k f.uses (omega (arith, o.uses_count)) i;
}

-- no file is opened at first
none_opened : OpenedSoFar 0 no_files
none_opened = record { names_count = refl; uses_count = refl; numbers = λ i d e. absurd (none-some d e) }

-- a text has no fault where its parts have none
module _ (lines : g.Lines) (ps : g.Procedures) (finish : At) (items : List Item) (before headed : Headed) (f : Files)
    (items_are : (with_lines nothing_declared lines).items ≡ items)
    (before_is : headed_after (with_lines nothing_declared lines) ≡ before)
    (headed_is : with_headings before ps ≡ headed) (files_are : files_from headed.names 0 no_files ps ≡ f) where
  whole : headed_text lines ps ≡ headed
  whole = ap (λ x. with_headings x ps) before_is ∙ headed_is

  no_faults : lines_faults nothing_declared lines ≡ [] → headings_faults before ps ≡ []
      → procedures_faults headed.names f.names first_progress ps ≡ []
      → main_missing headed.main finish ≡ [] → faults (g.text lines ps finish) ≡ []
  no_faults lf hf pf mf =
      nils (nils (nils lf (ap (λ x. headings_faults x ps) before_is ∙ hf))
      (ap (λ x. bodies_faults x ps) whole ∙ (ap (λ x. procedures_faults headed.names x.names first_progress ps)
      files_are ∙ pf)))
      (ap (λ x. main_missing x.main finish) whole ∙ mf)

  -- and its tree has the trees of these
  abbrev built : Headed → Files → List Item → Program
  built x y is = unlined (program_by is x.main x.names y ps)

  tree_by : (procedures : List Procedure)
      → map unlined_procedure (trees_of headed.names f.names first_progress ps) ≡ procedures
      → unlined (tree_of (g.text lines ps finish))
      ≡ record {
        items = items_with f.names items;
        files = f.uses;
        procedures = procedures;
        main = unwrap_or headed.main 0;
      }
  tree_by procedures same =
      ap (λ is. built (headed_text lines ps) (files_by (headed_text lines ps) ps) is) items_are
      ∙ (ap (λ x. built x (files_by x ps) items) whole
      ∙ (ap (λ y. built headed y items) files_are
      ∙ ap (λ xs. record {
        items = items_with f.names items;
        files = f.uses;
        procedures = xs;
        main = unwrap_or headed.main 0;
      }) same))

module _ (bodies : (p : Program) (locals : List (List ℕ)) (s : Scope) (f : Files) → BodiesReadBack p locals s f)
    (stand : (p : Program) (locals : List (List ℕ)) (s : Scope) (f : Files) → SourceNames s → BodiesStand p locals s f)
    (agree : ScopesAgree) (simple : FileItemsAreSimple) (headings : HeadingsReadBack) (read_lines : LinesReadBack) where
  pub text_back : (t : g.Text) (tokens : List Token) → faults t ≡ [] → AllAtMost 33 (nest_text t)
      → AreTokens (program_pieces (tree_of t)) tokens → TextBack t tokens
  text_back (g.text lines ps finish) tokens fine deep a =
      let d = with_lines nothing_declared lines in
      let hd = headed_after d in
      let headed = headed_text lines ps in
      let opened = files_by headed ps in
      let globals = headed.names in
      let lf = lines_faults nothing_declared lines in
      let hf = headings_faults hd ps in
      let bf = bodies_faults headed ps in
      let mf = main_missing headed.main finish in
      let e3 : lf ++ hf ++ bf ≡ [] = first_nil (lf ++ hf ++ bf) mf fine in
      let e2 : lf ++ hf ≡ [] = first_nil (lf ++ hf) bf e3 in
      let lines_fine : lf ≡ [] = first_nil lf hf e2 in
      let headings_fine : hf ≡ [] = second_nil lf hf e2 in
      let bodies_fine : bf ≡ [] = second_nil (lf ++ hf) bf e3 in
      let main = main_there headed.main finish (second_nil (lf ++ hf ++ bf) mf fine) in
      let p = tree_of (g.text lines ps finish) in
      let at = main_at p globals opened.names first_progress hd ps main.number headings_fine refl main.is in
      let number : p.main ≡ at.place = ap (λ m. unwrap_or m 0) main.is ∙ omega (arith, at.is) in
      let trees = trees_of globals opened.names first_progress ps in
      let main_pieces_are : (n : ℕ) → n ≡ at.place
      → procedures_pieces p (take n trees) (main_pieces p (drop n trees) [])
      ≡ flagged p (marked globals opened.names first_progress ps) []
      = λ n e. ap (λ k. procedures_pieces p (take k trees) (main_pieces p (drop k trees) [])) e ∙ at.pieces [] in
      let a' : AreTokens (items_pieces (items_with opened.names d.items)
      (flagged p (marked globals opened.names first_progress ps) [])) tokens
      = subst (λ ks. AreTokens (items_pieces (items_with opened.names d.items) ks) tokens)
      (main_pieces_are p.main number) a in
      let lb = read_lines lines opened.names (flagged p (marked globals opened.names first_progress ps) []) tokens
      lines_fine (simple lines ps finish fine) a' in
      let pb = procedures_back lines ps finish fine bodies stand agree headings hd first_progress no_files ps (0 ∷ [])
      [] lb.rest
      headings_fine bodies_fine none_opened (extends_itself opened)
      (after_lines 33 0 lines (nest_procedures 0 ps (0 ∷ [])) deep) lb.later in
      let done = ended pb.later in
      let syntax = g.text lb.syntax pb.syntax done.at in
      let files_same : files_from (printed_headed headed).names 0 no_files pb.syntax ≡ opened
      = pb.opened ∙ all_files opened (last_progress globals opened.names first_progress ps).walk.files pb.counted in
      let before : headed_after (with_lines nothing_declared lb.syntax) ≡ printed_headed hd = ap headed_after lb.same in
      let items : (with_lines nothing_declared lb.syntax).items ≡ d.items = ap (λ x. x.items) lb.same in
      record {
        syntax = syntax;
        is = pb.nearest;
        front = lb.front ∙ ap (g.of_lines lb.syntax) (pb.front ∙ ap (g.of_procedures pb.syntax) done.is);
        shallow = lb.shallow (nest_procedures 0 pb.syntax (0 ∷ [])) (pb.shallow (0 ∷ []) (low_level, tt));
        faultless = no_faults lb.syntax pb.syntax done.at d.items (printed_headed hd) (printed_headed headed) opened
            items before pb.headed files_same
            lb.faultless pb.headings_fine pb.faultless (main_still headed.main main.number main.is done.at);
        same = tree_by lb.syntax pb.syntax done.at d.items (printed_headed hd) (printed_headed headed) opened items
            before pb.headed files_same
            (map unlined_procedure trees) pb.same;
      }
