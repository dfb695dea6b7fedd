-- While a program that a text reads as is run, fewer than 80 wait.
use Rattle.std.proofs.Common.{◌≡◌, ℕ, zero, suc, List, [], ◌∷◌, arith, slice_get, Some, sym, subst}
use Rattle.tal_syntax.specs.Grammar as g
use Rattle.tal_syntax.specs.Expected.{AllAtMost}
use Rattle.tal_syntax.specs.Nesting.{nest_locals, nest_statement, nest_row, nest_procedure, nest_procedures, nest_text}
use Rattle.tal_tree.specs.declared.program.Procedure.{Procedure}
use Rattle.tal_tree.specs.declared.program.Program.{Program}
use Rattle.tal_names.specs.Names.{Declarations}
use Rattle.tal_pieces.specs.tal_rules.specs.declared.walk.Progress.{Progress}
use Rattle.tal_pieces.specs.tal_rules.specs.Texts.{headed_text, files_by, walk_at_entry, after_procedure}
use Rattle.tal_pieces.specs.tal_rules.specs.Texts.{first_progress}
use Rattle.tal_pieces.specs.tal_rules.specs.Texts.{scope_of}
use Rattle.tal_pieces.specs.tal_meaning.specs.Programs.{tree_of, trees_of, tree_of_procedure}
use Rattle.tal_laws.specs.tal_reader.specs.Reads.{Reads}
use Rattle.tal_pieces.proofs.Texts.LaterLevels.{after_heading, after_locals, after_lines}
use Rattle.tal_code.specs.Waiting.{WaitsBelow}
use Rattle.code_room.proofs.Statements.{WaitFew, body_few}

module _ (globals files : Declarations) (most : ℕ) where
  procedure_few : (p : Progress) (q : g.Procedure) (n : ℕ) (ls : List ℕ) → AllAtMost most (nest_procedure n q ls)
      → WaitFew most (tree_of_procedure globals files p q).body × AllAtMost most ls
  procedure_few p (g.procedure h outer begin inner first more end last) n ls levels =
      let body = nest_statement n first (nest_row n more (n ∷ n ∷ ls)) in
      let headed = after_heading most n h (nest_locals n outer (n ∷ nest_locals n inner body)) levels in
      let begun = after_locals most n outer (n ∷ nest_locals n inner body) headed in
      let own = after_locals most n inner body begun.1 in
      let r = body_few (scope_of globals files p.count h inner) most (walk_at_entry p h) first more n
      (n ∷ n ∷ ls) own in
      (r.0, r.1.1.1)

  procedures_few : (p : Progress) (ps : g.Procedures) (n : ℕ) (ls : List ℕ) → AllAtMost most (nest_procedures n ps ls)
      → (k : ℕ) (procedure : Procedure) → slice_get (trees_of globals files p ps) k ≡ Some procedure
      → WaitFew most procedure.body
  procedures_few p g.no_procedures n ls levels k procedure there = absurd (cc there)
  procedures_few p (g.more_procedures q rest) n ls levels zero procedure there =
      let is : tree_of_procedure globals files p q ≡ procedure = cc there in
      subst (λ (x : Procedure). WaitFew most x.body) is (procedure_few p q n (nest_procedures n rest ls) levels).0
  procedures_few p (g.more_procedures q rest) n ls levels (suc k) procedure there =
      procedures_few (after_procedure globals files p q) rest n ls
      (procedure_few p q n (nest_procedures n rest ls) levels).1 k procedure there

text_few : (t : g.Text) → AllAtMost 33 (nest_text t) → WaitsBelow 80 (tree_of t)
text_few (g.text lines ps finish) levels k procedure there statement among =
    let later : AllAtMost 33 (nest_procedures 0 ps (0 ∷ [])) =
    after_lines 33 0 lines (nest_procedures 0 ps (0 ∷ [])) levels in
    let few : WaitFew 33 procedure.body =
    procedures_few (headed_text lines ps).names (files_by (headed_text lines ps) ps).names 33 first_progress ps 0
    (0 ∷ []) later k procedure there in
    omega (arith, few statement among)

pub read_waits_below : (text : List ℕ) (program : Program) → Reads text program → WaitsBelow 80 program
read_waits_below text program r = subst (WaitsBelow 80) (sym r.3) (text_few r.0 r.1.2)
