-- The pieces of a program's procedures, where MAIN stands behind those whose heading has it.
use Rattle.std.proofs.Common.{◌≡◌, ℕ, ◌+◌, suc, List, [], ◌∷◌, ◌++◌, take, drop, length, refl, sym, ap, ◌∙◌, arith}
use Rattle.std.specs.Prelude.{Bool, true, false, not, ◌&&◌, ◌==◌, nat_le, Option, Some, None, is_some, unwrap_or}
use Rattle.tal_tree.specs.declared.program.Procedure.{Procedure}
use Rattle.tal_tree.specs.declared.program.Program.{Program}
use Rattle.tal_tokens.specs.declared.token.At.{At}
use Rattle.tal_syntax.specs.Grammar as g
use Rattle.tal_names.specs.declared.fault.Rule.TheVariants.{Limit}
use Rattle.tal_declarations.specs.declared.table.Headed.{Headed}
use Rattle.tal_rules.specs.declared.walk.Progress.{Progress}
use Rattle.tal_names.specs.Faults.{fault_at, if_so}
use Rattle.tal_declarations.specs.Globals.{taken_faults}
use Rattle.tal_declarations.specs.Headings.{heading_of, heading_faults, headings_faults, main_faults, main_number}
use Rattle.tal_declarations.specs.Headings.{with_heading, with_headings, does_give, parameters_of}
use Rattle.tal_names.specs.Names.{Declarations}
use Rattle.tal_rules.specs.Texts.{after_procedure, has_word_main}
use Rattle.tal_meaning.specs.Programs.{trees_of, tree_of_procedure}
use Rattle.tal_pieces.specs.declared.piece.Piece.{Piece}
use Rattle.tal_pieces.specs.Printed.Procedures.{procedure_pieces, procedures_pieces, main_pieces}
use Rattle.tal_faultless.proofs.Common.Faultless.{no_fault, refuted, first_nil, second_nil}
use Rattle.std.proofs.lemmas.Bool.{leb-false, false≢true}
use Rattle.std.proofs.lemmas.Option.{none-some}
use Rattle.tal_tree.specs.declared.limit.ProgramLimit.TheVariants as program_limit

-- the pieces of procedures, each with whether MAIN stands in its heading
abbrev pub flagged : Program → List (Bool × Procedure) → List Piece → List Piece
flagged p [] ks = ks
flagged p (x ∷ rest) ks = procedure_pieces p x.0 x.1 (flagged p rest ks)

-- the procedures of a text with whether MAIN stands in their headings
abbrev pub marked : Declarations → Declarations → Progress → g.Procedures → List (Bool × Procedure)
marked globals files pr g.no_procedures = []
marked globals files pr (g.more_procedures q rest) =
    (has_word_main (heading_of q), tree_of_procedure globals files pr q)
    ∷ marked globals files (after_procedure globals files pr q) rest

-- what the faults of a heading leave: few headings before, and MAIN only once
record Heads (hd : Headed) (h : g.Heading) : Type 0 where
  few : nat_le 64 hd.count ≡ false
  once : is_some hd.main ≡ true → has_word_main h ≡ false

main_once : (at : At) (bare : Bool) (gives : g.Gives) (proc : At) (name : List ℕ) (listed : g.Parameters) (m : g.Main)
    (end : At)
    → main_faults true at bare m ≡ [] → has_word_main (g.heading gives proc at name listed m end) ≡ false
main_once at bare gives proc name listed g.not_main end d = refl
main_once at bare gives proc name listed (g.is_main word) end d = no_fault d

heads : (hd : Headed) (h : g.Heading) → heading_faults hd h ≡ [] → Heads hd h
heads hd (g.heading gives proc at name listed main end) e =
    let limits = if_so (nat_le 64 hd.count) (fault_at at (Limit program_limit.Procedures)) in
    let bare = not (does_give gives) && (length (parameters_of listed) == 0) in
    let taken = taken_faults hd.names at name in
    let mains = main_faults (is_some hd.main) at bare main in
    record {
      few = refuted (nat_le 64 hd.count) at (Limit program_limit.Procedures)
          (second_nil taken limits (first_nil (taken ++ limits) mains e));
      once = λ some. main_once at bare gives proc name listed main end
          (sym (ap (λ b. main_faults b at bare main) some) ∙ second_nil (taken ++ limits) mains e);
    }

-- the count of headings, and which one is MAIN, after one more
counted : (hd : Headed) (h : g.Heading) → nat_le 64 hd.count ≡ false → (with_heading hd h).count ≡ hd.count + 1
counted hd (g.heading gives proc at name listed main end) few = omega (arith, leb-false 64 hd.count few)

still : (hd : Headed) (h : g.Heading) → is_some hd.main ≡ true → (with_heading hd h).main ≡ hd.main
still hd (g.heading gives proc at name listed main end) some = by_main hd.main some
  where
    by_main : (found : Option ℕ) → is_some found ≡ true → main_number found hd.count main ≡ found
    by_main None none = absurd (false≢true none)
    by_main (Some k) some = refl

all_still : (hd : Headed) (ps : g.Procedures) → is_some hd.main ≡ true → (with_headings hd ps).main ≡ hd.main
all_still hd g.no_procedures some = refl
all_still hd (g.more_procedures q rest) some =
    let first = still hd (heading_of q) some in
    all_still (with_heading hd (heading_of q)) rest (ap is_some first ∙ some) ∙ first

module _ (p : Program) (globals files : Declarations) where
  -- MAIN stands in no later heading than the first with it
  none_later : (pr : Progress) (hd : Headed) (ps : g.Procedures) (ks : List Piece) → headings_faults hd ps ≡ []
      → is_some hd.main ≡ true
      → procedures_pieces p (trees_of globals files pr ps) ks ≡ flagged p (marked globals files pr ps) ks
  none_later pr hd g.no_procedures ks e some = refl
  none_later pr hd (g.more_procedures q rest) ks e some =
      let h = heads hd (heading_of q) (first_nil (heading_faults hd (heading_of q))
      (headings_faults (with_heading hd (heading_of q)) rest) e) in
      let later = none_later (after_procedure globals files pr q) (with_heading hd (heading_of q)) rest ks
      (second_nil (heading_faults hd (heading_of q)) (headings_faults (with_heading hd (heading_of q)) rest) e)
      (ap is_some (still hd (heading_of q) some) ∙ some) in
      ap (procedure_pieces p false (tree_of_procedure globals files pr q)) later
      ∙ ap (λ b. procedure_pieces p b (tree_of_procedure globals files pr q)
      (flagged p (marked globals files (after_procedure globals files pr q) rest) ks)) (sym (h.once some))

  -- where MAIN stands among the procedures
  pub record MainAt (pr : Progress) (hd : Headed) (ps : g.Procedures) (k : ℕ) : Type 0 where
    pub place : ℕ
    pub is : k ≡ hd.count + place
    pub pieces : (ks : List Piece)
        → procedures_pieces p (take place (trees_of globals files pr ps))
        (main_pieces p (drop place (trees_of globals files pr ps)) ks)
        ≡ flagged p (marked globals files pr ps) ks

  pub main_at : (pr : Progress) (hd : Headed) (ps : g.Procedures) (k : ℕ) → headings_faults hd ps ≡ [] → hd.main ≡ None
      → (with_headings hd ps).main ≡ Some k → MainAt pr hd ps k
  main_at pr hd g.no_procedures k e none found = absurd (none-some k (sym none ∙ found))
  main_at pr hd (g.more_procedures (g.procedure (g.heading gives proc at name listed (g.is_main word) stop) outer begin
      inner first more end last) rest) k e none found =
      let h = g.heading gives proc at name listed (g.is_main word) stop in
      let q = g.procedure h outer begin inner first more end last in
      let chosen : (with_heading hd h).main ≡ Some hd.count = ap (λ f. main_number f hd.count (g.is_main word)) none in
      record {
        place = 0;
        is = omega (
          arith,
          ap (λ f. unwrap_or f 0)
              (sym found ∙ all_still (with_heading hd h) rest (ap is_some chosen) ∙ chosen),
        );
        pieces = λ ks. ap (procedure_pieces p true (tree_of_procedure globals files pr q))
            (none_later (after_procedure globals files pr q) (with_heading hd h) rest ks
            (second_nil (heading_faults hd h) (headings_faults (with_heading hd h) rest) e) (ap is_some chosen));
      }
  main_at pr hd (g.more_procedures (g.procedure (g.heading gives proc at name listed g.not_main stop) outer begin inner
      first more end last) rest) k e none found =
      let h = g.heading gives proc at name listed g.not_main stop in
      let q = g.procedure h outer begin inner first more end last in
      let later = main_at (after_procedure globals files pr q) (with_heading hd h) rest k
      (second_nil (heading_faults hd h) (headings_faults (with_heading hd h) rest) e)
      (ap (λ f. main_number f hd.count g.not_main) none) found in
      record {
        place = suc later.place;
        is = omega (
          arith,
          later.is,
          counted hd h
              (heads hd h (first_nil (heading_faults hd h) (headings_faults (with_heading hd h) rest) e)).few,
        );
        pieces = λ ks. ap (procedure_pieces p false (tree_of_procedure globals files pr q)) (later.pieces ks);
      }
