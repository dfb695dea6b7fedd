-- The procedures that names stand for in a text without faults: each has no more parameters than locals.
use Rattle.std.proofs.Common.{◌≡◌, ◌⊎◌, inl, inr, ℕ, suc, ◌+◌, ◌<◌, ◌≤◌, arith, min, Bool, true, false, if◌then◌else◌}
use Rattle.std.proofs.Common.{is_some, List, [], length, length-append, slice_get, Some, refl, ap, sym, ◌∙◌}
use Rattle.tal_syntax.specs.Grammar as g
use Rattle.tal_tree.specs.declared.program.Procedure.{Procedure}
use Rattle.tal_names.specs.declared.meaning.Meaning.{Meaning}
use Rattle.tal_names.specs.declared.meaning.Meaning.TheVariants as m
use Rattle.tal_declarations.specs.declared.table.Headed.{Headed}
use Rattle.tal_faultless.specs.tal_rules.specs.declared.walk.Progress.{Progress}
use Rattle.tal_declarations.specs.Globals.{lines_faults, with_lines, nothing_declared}
use Rattle.tal_declarations.specs.Headings.{parameters_of, locals_of, does_give, heading_of, headings_faults}
use Rattle.tal_declarations.specs.Headings.{with_heading, with_headings}
use Rattle.tal_names.specs.Names.{Declarations, meaning_in, with_name}
use Rattle.tal_names.specs.Systems.{system_of}
use Rattle.tal_faultless.specs.tal_rules.specs.Texts.{headed_after, after_procedure, first_progress}
use Rattle.tal_faultless.specs.tal_meaning.specs.Programs.{texts_of, tree_of_procedure, trees_of}
use Rattle.tal_faultless.proofs.Common.Faultless.{split}
use Rattle.tal_faultless.proofs.Common.Names.{texts_append}
use Rattle.tal_faultless.proofs.Scopes.Declared.{meaning_with}
use Rattle.tal_faultless.proofs.Scopes.GlobalNames.{global_names}
use Rattle.tal_laws.proofs.Locals.{texts_length}
use Rattle.tal_laws.proofs.Procedures.{heading_few, heading_counted}

-- the procedure at a place has so many parameters, and gives a value or not
pub record HasRoom (all : List Procedure) (k count : ℕ) (gives : Bool) : Type 0 where
  pub procedure : Procedure
  pub there : slice_get all k ≡ Some procedure
  pub room : count ≤ length procedure.locals
  pub exact : procedure.parameters ≡ count
  pub given : procedure.gives ≡ gives

module _ (globals files : Declarations) (all : List Procedure)
    (short : (k : ℕ) (procedure : Procedure) → slice_get all k ≡ Some procedure → length procedure.locals ≤ 12) where
  abbrev pub IsKnown : Declarations → Type 0
  IsKnown names = (name : List ℕ) (k : ℕ) (gives : Bool) (count : ℕ)
      → meaning_in name names ≡ Some (m.Procedure k gives count) → HasRoom all k count gives

  one_known : (hd : Headed) (p : Progress) (q : g.Procedure)
      → slice_get all hd.count ≡ Some (tree_of_procedure globals files p q) → IsKnown hd.names
      → IsKnown (with_heading hd (heading_of q)).names
  one_known hd p (g.procedure (g.heading gives proc at name listed main end) outer begin inner first more stop last)
      there old other k given count e =
      by (declared (is_some (system_of name)) e)
    where
      own : Meaning
      own = m.Procedure hd.count (does_give gives) (length (parameters_of listed))

      -- a heading declares its name where that isn't the system's
      declared : (of_system : Bool) → meaning_in other (if of_system then hd.names else with_name hd.names name own)
          ≡ Some (m.Procedure k given count)
          → (meaning_in other hd.names ≡ Some (m.Procedure k given count))
          ⊎ ((other ≡ name) × (own ≡ m.Procedure k given count))
      declared true before = inl before
      declared false after = meaning_with other hd.names name own (m.Procedure k given count) after

      tree : Procedure
      tree = tree_of_procedure globals files p
          (g.procedure (g.heading gives proc at name listed main end) outer begin inner first more stop last)

      long : length tree.locals ≡ length (texts_of (parameters_of listed)) + length (texts_of (locals_of inner))
      long = ap length (texts_append (parameters_of listed) (locals_of inner))
          ∙ length-append (texts_of (parameters_of listed)) (texts_of (locals_of inner))

      by : (meaning_in other hd.names ≡ Some (m.Procedure k given count))
          ⊎ ((other ≡ name) × (own ≡ m.Procedure k given count)) → HasRoom all k count given
      by (inl before) = old other k given count before
      by (inr now) =
          let same : hd.count ≡ k = cc now.1 in
          let counted : length (parameters_of listed) ≡ count = cc now.1 in
          let more : count ≤ length tree.locals = omega (arith, counted, long, texts_length (parameters_of listed)) in
          let few : length tree.locals ≤ 12 = short hd.count tree there in
          let is : tree.parameters ≡ min 12 (length (parameters_of listed)) = refl in
          record {
            procedure = tree;
            there = ap (slice_get all) (sym same) ∙ there;
            room = more;
            exact = omega (arith, is, counted, more, few);
            given = cc now.1;
          }

  all_known : (hd : Headed) (p : Progress) (ps : g.Procedures) → headings_faults hd ps ≡ []
      → ((j : ℕ) → slice_get all (hd.count + j) ≡ slice_get (trees_of globals files p ps) j) → IsKnown hd.names
      → IsKnown (with_headings hd ps).names
  all_known hd p g.no_procedures fine rest old = old
  all_known hd p (g.more_procedures q more) fine rest old =
      let parts = split fine in
      let low : hd.count < 64 = heading_few hd (heading_of q) parts.0 in
      let one : (with_heading hd (heading_of q)).count ≡ hd.count + 1 = heading_counted hd (heading_of q) low in
      all_known (with_heading hd (heading_of q)) (after_procedure globals files p q) more parts.1
      (λ j. let next : (with_heading hd (heading_of q)).count + j ≡ hd.count + suc j = omega (arith, one) in
      ap (slice_get all) next ∙ rest (suc j))
      (one_known hd p q (let here : hd.count ≡ hd.count + 0 = omega arith in ap (slice_get all) here ∙ rest 0) old)

-- the procedures of a text
pub procedures_known : (globals files : Declarations) (lines : g.Lines) (ps : g.Procedures)
    → lines_faults nothing_declared lines ≡ []
    → headings_faults (headed_after (with_lines nothing_declared lines)) ps ≡ []
    → (short : (k : ℕ) (procedure : Procedure)
    → slice_get (trees_of globals files first_progress ps) k ≡ Some procedure → length procedure.locals ≤ 12)
    → IsKnown globals files (trees_of globals files first_progress ps) short
    (with_headings (headed_after (with_lines nothing_declared lines)) ps).names
procedures_known globals files lines ps fine headings short =
    all_known globals files (trees_of globals files first_progress ps) short
    (headed_after (with_lines nothing_declared lines)) first_progress ps headings
    (λ j. let same : 0 + j ≡ j = omega arith in ap (slice_get (trees_of globals files first_progress ps)) same)
    (λ name k gives count e. absurd (cc ((global_names lines g.no_procedures fine refl).means name
    (m.Procedure k gives count) e)))
