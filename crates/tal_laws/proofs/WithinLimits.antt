-- What a text reads as keeps the limits.
use Rattle.std.proofs.Common.{◌≡◌, inl, inr, ℕ, ◌+◌, ◌<◌, ◌≤◌, arith, List, [], length, Option, Some, None, refl, ap}
use Rattle.std.proofs.Common.{sym, subst}
use Rattle.std.specs.Prelude.{unwrap_or}
use Rattle.tal_tokens.specs.declared.token.At.{At}
use Rattle.tal_syntax.specs.Grammar as g
use Rattle.tal_tree.specs.declared.program.Procedure.{Procedure}
use Rattle.tal_tree.specs.declared.program.Program.{Program}
use Rattle.tal_declarations.specs.declared.table.Files.{Files}
use Rattle.tal_declarations.specs.declared.table.Headed.{Headed}
use Rattle.tal_faultless.specs.tal_rules.specs.declared.walk.Progress.{Progress}
use Rattle.tal_declarations.specs.Globals.{with_lines, nothing_declared}
use Rattle.tal_declarations.specs.Headings.{heading_of, headings_faults, main_number, with_heading, with_headings}
use Rattle.tal_names.specs.Names.{Declarations}
use Rattle.tal_faultless.specs.tal_rules.specs.Texts.{faults, headed_after, headed_text, files_by, main_missing}
use Rattle.tal_faultless.specs.tal_rules.specs.Texts.{procedure_faults}
use Rattle.tal_faultless.specs.tal_rules.specs.Texts.{after_procedure, procedures_faults, first_progress, scope_of}
use Rattle.tal_faultless.specs.tal_rules.specs.Texts.{walk_at_entry}
use Rattle.tal_faultless.specs.tal_meaning.specs.Programs.{items_with, tree_of, trees_of, tree_of_procedure}
use Rattle.tal_faultless.specs.tal_meaning.specs.Programs.{body_statements}
use Rattle.tal_reader.specs.Reads.{Reads}
use Rattle.gd_words.specs.Members.{IsAmong}
use Rattle.tal_faultless.proofs.Common.Faultless.{split, no_fault}
use Rattle.tal_tree.specs.Limits.{IsProcedureWithinLimits, IsWithinLimits}
use Rattle.tal_tree.specs.Ordered.{numbers_in_all}
use Rattle.tal_laws.proofs.Counting.{counted-within}
use Rattle.tal_laws.proofs.Following.{few}
use Rattle.tal_laws.proofs.Ordered.{text_goes_on, is_numbered}
use Rattle.tal_laws.proofs.Items.{declared_within, filed_within, same_length}
use Rattle.tal_laws.proofs.Locals.{locals_within}
use Rattle.tal_faultless.proofs.Common.TextParts.{AreFaultless, faultless}
use Rattle.tal_laws.proofs.Procedures.{heading_few, heading_counted, headings_count}
use Rattle.tal_laws.proofs.Uses.{few_files, each_file}

-- the main procedure is one of those that are headed
abbrev IsHeaded : Headed → Type 0
IsHeaded hd = (k : ℕ) → hd.main ≡ Some k → k < hd.count

main_headed : (hd : Headed) (h : g.Heading) → hd.count < 64 → IsHeaded hd → IsHeaded (with_heading hd h)
main_headed hd (g.heading gives proc at name listed main end) low headed k found =
    let more : (with_heading hd (g.heading gives proc at name listed main end)).count ≡ hd.count + 1 =
    heading_counted hd (g.heading gives proc at name listed main end) low in
    omega (arith, more, by hd.main main (headed k) found)
  where
    by : (before : Option ℕ) (word : g.Main) → (before ≡ Some k → k < hd.count)
        → main_number before hd.count word ≡ Some k → k ≤ hd.count
    by (Some j) word old e = omega (arith, old e)
    by None g.not_main old e = absurd (cc e)
    by None (g.is_main at) old e = let same : hd.count ≡ k = cc e in omega (arith, same)

all_headed : (hd : Headed) (ps : g.Procedures) → headings_faults hd ps ≡ [] → IsHeaded hd
    → IsHeaded (with_headings hd ps)
all_headed hd g.no_procedures fine headed = headed
all_headed hd (g.more_procedures q rest) fine headed =
    let parts = split fine in
    all_headed (with_heading hd (heading_of q)) rest parts.1
    (main_headed hd (heading_of q) (heading_few hd (heading_of q) parts.0) headed)

-- there is a main procedure
main_there : (main : Option ℕ) (finish : At) → main_missing main finish ≡ [] → (k : ℕ) × (main ≡ Some k)
main_there None finish fine = no_fault fine
main_there (Some k) finish fine = (k, refl)

module _ (globals files : Declarations) where
  procedure_within : (p : Progress) (q : g.Procedure) → procedure_faults globals files p q ≡ []
      → IsProcedureWithinLimits (tree_of_procedure globals files p q)
  procedure_within p (g.procedure h outer begin inner first more end last) fine =
      let parts = split fine in
      let front = split parts.0 in
      locals_within h outer inner (body_statements (scope_of globals files p.count h inner)
      (walk_at_entry p h) first more)
      front.0

  pub procedures_within : (p : Progress) (ps : g.Procedures) → procedures_faults globals files p ps ≡ []
      → (procedure : Procedure) → IsAmong procedure (trees_of globals files p ps) → IsProcedureWithinLimits procedure
  procedures_within p g.no_procedures fine procedure among = absurd among
  procedures_within p (g.more_procedures q rest) fine procedure (inl same) =
      let parts = split fine in subst IsProcedureWithinLimits (sym same) (procedure_within p q parts.0)
  procedures_within p (g.more_procedures q rest) fine procedure (inr among) =
      let parts = split fine in procedures_within (after_procedure globals files p q) rest parts.1 procedure among

pub is_within : (t : g.Text) → faults t ≡ [] → IsWithinLimits (tree_of t)
is_within (g.text lines ps finish) fine =
    let parts : AreFaultless lines ps finish = faultless lines ps finish fine in
    let globals : Declarations = (headed_text lines ps).names in
    let files : Files = files_by (headed_text lines ps) ps in
    let hd : Headed = headed_after (with_lines nothing_declared lines) in
    let items = filed_within files.names (with_lines nothing_declared lines).items
    (declared_within lines parts.lines_fine) in
    let all : List Procedure = trees_of globals files.names first_progress ps in
    let count : ((headed_text lines ps).count ≡ 0 + length all) × (0 + length all ≤ 64) =
    headings_count globals files.names hd first_progress ps parts.headings (omega arith) in
    let main = main_there (headed_text lines ps).main finish parts.main in
    let placed : main.0 < (headed_text lines ps).count =
    all_headed hd ps parts.headings (λ k e. absurd (cc e)) main.0 main.1 in
    let main_is : unwrap_or (headed_text lines ps).main 0 ≡ main.0 = ap (λ o. unwrap_or o 0) main.1 in
    let program : Program = tree_of (g.text lines ps finish) in
    let goes_on = text_goes_on lines ps finish fine in
    let short : 1 + length (numbers_in_all program.procedures) ≤ 2001 =
    few 1 goes_on.0 (numbers_in_all program.procedures) goes_on.1 (omega arith) in
    record {
      items = items.few;
      words = items.words;
      each_item = items.each;
      files = few_files lines ps finish fine;
      each_file = each_file lines ps finish fine (items_with files.names (with_lines nothing_declared lines).items)
          (same_length files.names (with_lines nothing_declared lines).items) parts.bodies;
      procedures = (omega (arith, placed, count.0), omega (arith, count.1));
      main = omega (arith, placed, count.0, main_is);
      each_procedure = procedures_within globals files.names first_progress ps parts.bodies;
      numbers = λ n among.
          let own = counted-within 1 (numbers_in_all program.procedures) (is_numbered (g.text lines ps finish) fine) n
          among in (own.0, omega (arith, own.1, short));
    }

pub read_is_within : (text : List ℕ) (program : Program) → Reads text program → IsWithinLimits program
read_is_within text program r = subst IsWithinLimits (sym r.3) (is_within r.0 r.2)
