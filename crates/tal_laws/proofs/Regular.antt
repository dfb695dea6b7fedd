-- What a text reads as is regular.
use Rattle.std.proofs.Common.{◌≡◌, ℕ, zero, suc, List, [], ◌++◌, length, slice_get, Option, Some, sym, subst}
use Rattle.tal_tokens.specs.declared.token.At.{At}
use Rattle.tal_syntax.specs.Grammar as g
use Rattle.tal_tree.specs.declared.program.Procedure.{Procedure}
use Rattle.tal_tree.specs.declared.program.Program.{Program}
use Rattle.tal_faultless.specs.tal_rules.specs.declared.walk.Progress.{Progress}
use Rattle.tal_declarations.specs.Headings.{locals_of}
use Rattle.tal_names.specs.Names.{Declarations}
use Rattle.tal_faultless.specs.tal_rules.specs.Texts.{faults, headed_text, files_by, walk_at_entry, after_procedure}
use Rattle.tal_faultless.specs.tal_rules.specs.Texts.{procedure_faults}
use Rattle.tal_faultless.specs.tal_rules.specs.Texts.{procedures_faults, first_progress}
use Rattle.tal_faultless.specs.tal_meaning.specs.Programs.{tree_of, trees_of, tree_of_procedure, texts_of}
use Rattle.tal_faultless.specs.tal_meaning.specs.Programs.{parameters_by}
use Rattle.tal_reader.specs.Reads.{Reads}
use Rattle.tal_faultless.proofs.Common.Faultless.{split}
use Rattle.tal_faultless.proofs.Scopes.SourceScopes.{scope_in}
use Rattle.tal_tree.specs.Limits.{IsWithinLimits}
use Rattle.tal_tree.specs.Ordered.{IsOrdered}
use Rattle.gd_words.specs.Members.{AreDistinct, IsAmong}
use Rattle.tal_tree.specs.Regular.{IsRegularStatement, IsRegular}
use Rattle.tal_tree.specs.Statements.{numbers_of}
use Rattle.tal_laws.proofs.Called.{body_right}
use Rattle.gd_words.proofs.Distinct.{given_at, given-all, given-distinct}
use Rattle.tal_laws.proofs.Everywhere.{Everywhere}
use Rattle.tal_laws.proofs.Meant.{are_there}
use Rattle.tal_faultless.proofs.Common.TextParts.{AreFaultless, faultless}
use Rattle.tal_laws.proofs.Ordered.{is_ordered}
use Rattle.tal_laws.proofs.Uses.{at_place}
use Rattle.tal_laws.proofs.WithinLimits.{is_within}

abbrev numbers_at : Procedure → List ℕ
numbers_at procedure = numbers_of procedure.body

module _ (lines : g.Lines) (all : g.Procedures) (finish : At) (fine : faults (g.text lines all finish) ≡ []) where
  abbrev read : Program
  read = tree_of (g.text lines all finish)

  abbrev globals : Declarations
  globals = (headed_text lines all).names

  abbrev files : Declarations
  files = (files_by (headed_text lines all) all).names

  abbrev AreRegular : Procedure → Type 0
  AreRegular procedure = Everywhere (IsRegularStatement read (length procedure.locals) procedure.gives) procedure.body

  one_right : (p : Progress) (q : g.Procedure) → procedure_faults globals files p q ≡ []
      → AreRegular (tree_of_procedure globals files p q)
  one_right p (g.procedure h outer begin inner first more end last) none =
      let parts = split none in
      let front = split parts.0 in
      body_right read (length (texts_of (parameters_by h ++ locals_of inner))) (scope_in lines all p.count h inner)
      (are_there lines all finish fine p.count h outer inner front.0) (walk_at_entry p h) first more front.1

  all_right : (p : Progress) (ps : g.Procedures) → procedures_faults globals files p ps ≡ []
      → (k : ℕ) (procedure : Procedure)
      → slice_get (trees_of globals files p ps) k ≡ Some procedure → AreRegular procedure
  all_right p g.no_procedures none k procedure there = absurd (cc there)
  all_right p (g.more_procedures q rest) none zero procedure there =
      let is : tree_of_procedure globals files p q ≡ procedure = cc there in
      let parts = split none in
      subst AreRegular is (one_right p q parts.0)
  all_right p (g.more_procedures q rest) none (suc k) procedure there =
      let parts = split none in all_right (after_procedure globals files p q) rest parts.1 k procedure there

  text_regular : IsOrdered read → IsWithinLimits read → IsRegular read
  text_regular ordered within = record {
    main = at_place read.procedures read.main within.main;
    procedures = λ k procedure there. record {
      distinct = subst (λ (found : Option Procedure). AreDistinct (given_at numbers_at found)) there
          (given-distinct numbers_at read.procedures k ordered.numbers);
      positive = λ n among.
          (within.numbers n (given-all numbers_at read.procedures k n
          (subst (λ (found : Option Procedure). IsAmong n (given_at numbers_at found)) (sym there) among))).0;
      statements =
          let parts : AreFaultless lines all finish = faultless lines all finish fine in
          all_right first_progress all parts.bodies k procedure there;
    };
  }

is_regular : (t : g.Text) → faults t ≡ [] → IsRegular (tree_of t)
is_regular (g.text lines ps finish) fine =
    text_regular lines ps finish fine (is_ordered (g.text lines ps finish) fine)
    (is_within (g.text lines ps finish) fine)

pub read_is_regular : (text : List ℕ) (program : Program) → Reads text program → IsRegular program
read_is_regular text program r = subst IsRegular (sym r.3) (is_regular r.0 r.2)
