-- The printed headings and locals of procedures read back.
use Rattle.std.proofs.Common.{◌≡◌, ℕ, ◌+◌, ◌≤◌, ◌==◌, ◌&&◌, not, min, nat_le, Bool, true, false, List, [], ◌∷◌, ◌++◌}
use Rattle.std.proofs.Common.{length, take, drop, refl, sym, ap, ◌∙◌, arith, subst}
use Rattle.std.specs.Prelude.{Option, Some, None, is_some}
use Rattle.std.proofs.lemmas.Bool.{true≢false}
use Rattle.std.proofs.Math.Seq.{take-append_seam, drop-append_seam}
use Rattle.tal_tokens.specs.declared.token.At.{At}
use Rattle.tal_tokens.specs.declared.token.Token.{Token}
use Rattle.tal_tokens.specs.declared.token.Token.TheVariants as tok
use Rattle.tal_syntax.specs.Grammar as g
use Rattle.tal_syntax.specs.Expected.{AllAtMost}
use Rattle.tal_syntax.specs.Nesting.{nest_heading, nest_locals}
use Rattle.tal_names.specs.declared.fault.Rule.TheVariants.{Twice, Prologue, Limit}
use Rattle.tal_names.specs.declared.meaning.Meaning.TheVariants as m
use Rattle.tal_declarations.specs.declared.table.Headed.{Headed}
use Rattle.tal_names.specs.declared.scope.Named.{Named}
use Rattle.tal_names.specs.Faults.{fault_at, if_so}
use Rattle.tal_declarations.specs.Globals.{is_taken, taken_faults}
use Rattle.tal_declarations.specs.Headings.{parameters_of, locals_of, with_locals, does_give, main_faults, main_number}
use Rattle.tal_declarations.specs.Headings.{heading_faults}
use Rattle.tal_names.specs.Names.{with_name}
use Rattle.tal_rules.specs.Texts.{is_main_by}
use Rattle.tal_meaning.specs.Programs.{texts_of, procedure_with}
use Rattle.tal_pieces.specs.declared.piece.Keyword.TheVariants as word
use Rattle.tal_pieces.specs.declared.piece.Symbol.TheVariants as sign
use Rattle.tal_pieces.specs.declared.piece.Piece.{Piece}
use Rattle.tal_pieces.specs.declared.piece.Piece.TheVariants as piece
use Rattle.tal_pieces.specs.Cuts.{AreTokens}
use Rattle.tal_pieces.specs.Printed.Procedures.{word_if, parameters_pieces, locals_pieces, heading_pieces}
use Rattle.tal_pieces.proofs.Scopes.Agreement.{without_literals}
use Rattle.tal_pieces.proofs.Values.Back.{first}
use Rattle.tal_pieces.proofs.Declarations.DeclarationsBack.{HeadingBack, HeadingsReadBack}
use Rattle.tal_pieces.proofs.Scopes.DeclaredNames.{still_free, fresh_of_free, with_other_name}
use Rattle.tal_faultless.proofs.Scopes.Declared.{with_free_procedure}
use Rattle.tal_pieces.proofs.Declarations.ItemsBack.{low_level}
use Rattle.tal_pieces.proofs.Declarations.LocalsBack.{parameters_back, locals_back, gives_back, main_back}
use Rattle.tal_pieces.proofs.Declarations.LocalsFaults.{NamesFine, with_texts, by_texts, names_fine, locals_fine}
use Rattle.tal_faultless.proofs.Common.Names.{texts_append}
use Rattle.tal_faultless.proofs.Common.Faultless.{nils, refuted, silent, three}
use Rattle.tal_tree.specs.declared.limit.ProgramLimit.TheVariants as program_limit

-- the names of a list by their spelling alone
texts_length : (ns : List Named) → length (texts_of ns) ≡ length ns
texts_length [] = refl
texts_length (n ∷ ns) = omega (arith, texts_length ns)

-- the same spellings declare the same locals
locals_same : (ps qs is js : List Named) → texts_of ps ≡ texts_of qs → texts_of is ≡ texts_of js
    → with_locals (with_locals [] ps) is ≡ with_locals (with_locals [] qs) js
locals_same ps qs is js e d =
    let p : with_locals [] ps ≡ with_locals [] qs = by_texts [] ps ∙ ap (with_texts []) e ∙ sym (by_texts [] qs) in
    by_texts (with_locals [] ps) is ∙ (λ i. with_texts (p i) (d i)) ∙ sym (by_texts (with_locals [] qs) js)

-- MAIN has a fault or not by whether there is one before, and by whether the heading is bare
same_main : (x y : g.Main) → is_main_by x ≡ is_main_by y → (has_main : Bool) (at other : At) (bare naked : Bool)
    → bare ≡ naked
    → main_faults has_main at bare x ≡ [] → main_faults has_main other naked y ≡ []
same_main g.not_main g.not_main e has_main at other bare naked same fine = refl
same_main g.not_main (g.is_main v) e has_main at other bare naked same fine = absurd (true≢false (sym e))
same_main (g.is_main w) g.not_main e has_main at other bare naked same fine = refl
same_main (g.is_main w) (g.is_main v) e true at other bare naked same fine =
    absurd (true≢false (refuted true w Twice fine))
same_main (g.is_main w) (g.is_main v) e false at other bare naked same fine =
    silent (not naked) other Prologue (ap not (sym same) ∙ refuted (not bare) at Prologue fine)

same_number : (x y : g.Main) → is_main_by x ≡ is_main_by y → (main : Option ℕ) (number : ℕ)
    → main_number main number x ≡ main_number main number y
same_number x y e (Some k) number = refl
same_number g.not_main g.not_main e None number = refl
same_number g.not_main (g.is_main v) e None number = absurd (true≢false (sym e))
same_number (g.is_main w) g.not_main e None number = absurd (true≢false e)
same_number (g.is_main w) (g.is_main v) e None number = refl

-- a heading, the lines of its parameters, BEGIN and the lines of the other locals
abbrev heading_of : Bool → Bool → List ℕ → List (List ℕ) → List (List ℕ) → List Piece → List Piece
heading_of gives is_main name ps is ks =
    word_if gives word.Int (piece.Keyword word.Proc ∷ piece.Name name ∷ parameters_pieces ps
    (word_if is_main word.Main (piece.Symbol sign.Semicolon
    ∷ locals_pieces ps (piece.Keyword word.Begin ∷ locals_pieces is ks))))

-- the tokens begin with these
record PartsBack (gives is_main : Bool) (name : List ℕ) (ps is : List (List ℕ)) (ks : List Piece)
    (tokens : List Token) : Type 0 where
  given : g.Gives
  proc : At
  at : At
  listed : g.Parameters
  main : g.Main
  end : At
  outer : g.Locals
  begin : At
  locals : g.Locals
  rest : List Token
  front : tokens ≡ g.of_heading (g.heading given proc at name listed main end)
      (g.of_locals outer (tok.Begin begin ∷ g.of_locals locals rest))
  later : AreTokens ks rest
  gives_same : does_give given ≡ gives
  main_same : is_main_by main ≡ is_main
  listed_texts : texts_of (parameters_of listed) ≡ ps
  outer_texts : texts_of (locals_of outer) ≡ ps
  locals_texts : texts_of (locals_of locals) ≡ is
  shallow : (ls : List ℕ) → AllAtMost 33 ls
      → AllAtMost 33 (nest_heading 0 (g.heading given proc at name listed main end)
      (nest_locals 0 outer (0 ∷ nest_locals 0 locals ls)))

parts_back : (gives is_main : Bool) (name : List ℕ) (ps is : List (List ℕ)) (ks : List Piece) (tokens : List Token)
    → AreTokens (heading_of gives is_main name ps is ks) tokens
    → PartsBack gives is_main name ps is ks tokens
parts_back gives is_main name ps is ks tokens a =
    let after_begin : List Piece = piece.Keyword word.Begin ∷ locals_pieces is ks in
    let after_main : List Piece = piece.Symbol sign.Semicolon ∷ locals_pieces ps after_begin in
    let after_list : List Piece = word_if is_main word.Main after_main in
    let v = gives_back gives (piece.Keyword word.Proc ∷ piece.Name name ∷ parameters_pieces ps after_list) tokens a in
    let proc = first v.later in
    let f = first proc.later in
    let l = parameters_back ps after_list f.rest f.later in
    let x = main_back is_main after_main l.rest l.later in
    let end = first x.later in
    let o = locals_back ps after_begin end.rest end.later in
    let begin = first o.later in
    let i = locals_back is ks begin.rest begin.later in
    record {
      given = v.syntax;
      proc = proc.at;
      at = f.at;
      listed = l.syntax;
      main = x.syntax;
      end = end.at;
      outer = o.syntax;
      begin = begin.at;
      locals = i.syntax;
      rest = i.rest;
      front =
          v.front ∙ ap (g.of_gives v.syntax) (proc.is
          ∙ ap (λ ts. tok.Proc proc.at ∷ ts) (f.is ∙ ap (λ ts. tok.Name f.at name ∷ ts)
          (l.front ∙ ap (g.of_parameters l.syntax)
          (x.front ∙ ap (g.of_main x.syntax) (end.is ∙ ap (λ ts. tok.Semicolon end.at ∷ ts)
          (o.front ∙ ap (g.of_locals o.syntax) (begin.is ∙ ap (λ ts. tok.Begin begin.at ∷ ts) i.front)))))));
      later = i.later;
      gives_same = v.same;
      main_same = x.same;
      listed_texts = l.texts;
      outer_texts = o.texts;
      locals_texts = i.texts;
      shallow = λ ls held.
          let inside = i.shallow ls held in
          let before = o.shallow (0 ∷ nest_locals 0 i.syntax ls) (low_level, inside) in
          let marked = x.shallow (0 ∷ nest_locals 0 o.syntax (0 ∷ nest_locals 0 i.syntax ls)) (low_level, before) in
          let named = l.shallow _ marked in
          v.shallow _ (low_level, (low_level, named));
    }

-- the parameters are the first locals of a procedure
module _ (ps is : List Named) (few : length (texts_of ps) ≤ 12) where
  count_is : min 12 (length ps) ≡ length (texts_of ps)
  count_is = omega (arith, few, texts_length ps)

  taken_is : take (min 12 (length ps)) (texts_of (ps ++ is)) ≡ texts_of ps
  taken_is = (λ i. take (count_is i) (texts_append ps is i)) ∙ take-append_seam (texts_of ps) (texts_of is)

  left_is : drop (min 12 (length ps)) (texts_of (ps ++ is)) ≡ texts_of is
  left_is = (λ i. drop (count_is i) (texts_append ps is i)) ∙ drop-append_seam (texts_of ps) (texts_of is)

-- as many names as there are spellings
count_from : (ns ms : List Named) → texts_of ns ≡ texts_of ms → length ns ≡ length ms
count_from ns ms e = sym (texts_length ns) ∙ ap length e ∙ texts_length ms

-- a heading and locals without faults, and the printed ones
module _ (hd : Headed) (gives : g.Gives) (proc at : At) (name : List ℕ) (listed : g.Parameters) (main : g.Main)
    (end : At) (inner : g.Locals) where
  by_parts : {ks : List Piece} {tokens : List Token}
      → heading_faults hd (g.heading gives proc at name listed main end) ≡ []
      → NamesFine (texts_of (parameters_of listed)) (texts_of (locals_of inner))
      → PartsBack (does_give gives) (is_main_by main) name (texts_of (parameters_of listed))
      (texts_of (locals_of inner)) ks tokens
      → HeadingBack hd (g.heading gives proc at name listed main end) inner (is_main_by main) ks tokens
  by_parts fine n b =
      let ps : List Named = parameters_of listed in
      let bare : Bool = not (does_give gives) && (length ps == 0) in
      let heads =
      three (taken_faults hd.names at name) (if_so (nat_le 64 hd.count) (fault_at at (Limit program_limit.Procedures)))
      (main_faults (is_some hd.main) at bare main) fine in
      let free : is_taken hd.names name ≡ false = refuted (is_taken hd.names name) at Twice heads.0 in
      let count : length (parameters_of b.listed) ≡ length ps = count_from (parameters_of b.listed) ps b.listed_texts in
      let named =
      with_free_procedure (without_literals hd.names) name _ (still_free hd.names name free)
      ∙ (λ i. with_name (without_literals hd.names) name (m.Procedure hd.count (b.gives_same i) (count i)))
      ∙ sym (with_other_name hd.names name (m.Procedure hd.count (does_give gives) (length ps)) refl
      (fresh_of_free hd.names name free))
      ∙ ap without_literals (sym (with_free_procedure hd.names name
      (m.Procedure hd.count (does_give gives) (length ps)) free)) in
      record {
        heading = g.heading b.given b.proc b.at name b.listed b.main b.end;
        outer = b.outer;
        begin = b.begin;
        locals = b.locals;
        rest = b.rest;
        front = b.front;
        later = b.later;
        name = refl;
        gives = b.gives_same;
        main = b.main_same;
        count = count;
        texts =
            texts_append (parameters_of b.listed) (locals_of b.locals) ∙ (λ i. b.listed_texts i ++ b.locals_texts i)
            ∙ sym (texts_append ps (locals_of inner));
        declared = locals_same (parameters_of b.listed) ps (locals_of b.locals) (locals_of inner) b.listed_texts
            b.locals_texts;
        next = λ i. record {
          names = named i;
          count = min 64 (hd.count + 1);
          main = same_number b.main main b.main_same hd.main hd.count i;
        };
        faultless =
            nils (nils (silent (is_taken (without_literals hd.names) name) b.at Twice (still_free hd.names name free))
            (silent (nat_le 64 hd.count) b.at (Limit program_limit.Procedures)
            (refuted (nat_le 64 hd.count) at (Limit program_limit.Procedures) heads.1)))
            (same_main main b.main (sym b.main_same) (is_some hd.main) at b.at bare
            (not (does_give b.given) && (length (parameters_of b.listed) == 0))
            (λ i. not (sym b.gives_same i) && (sym count i == 0)) heads.2);
        fine = locals_fine (parameters_of b.listed) (locals_of b.outer) (locals_of b.locals) (texts_of ps)
            (texts_of (locals_of inner)) b.listed_texts b.outer_texts b.locals_texts n;
        shallow = b.shallow;
      }

pub headings_read_back : HeadingsReadBack
headings_read_back hd (g.heading gives proc at name listed main end) outer inner body ks tokens fine locals a =
    let ps : List Named = parameters_of listed in
    let n = names_fine ps (locals_of outer) (locals_of inner) locals in
    let pieces : heading_pieces (is_main_by main)
    (procedure_with (g.heading gives proc at name listed main end) inner body)
    (piece.Keyword word.Begin ∷ locals_pieces (drop (min 12 (length ps)) (texts_of (ps ++ locals_of inner))) ks)
    ≡ heading_of (does_give gives) (is_main_by main) name (texts_of ps) (texts_of (locals_of inner)) ks =
    λ i. heading_of (does_give gives) (is_main_by main) name (taken_is ps (locals_of inner) n.few i)
    (left_is ps (locals_of inner) n.few i) ks in
    by_parts hd gives proc at name listed main end inner fine n
    (parts_back (does_give gives) (is_main_by main) name (texts_of ps) (texts_of (locals_of inner)) ks tokens
    (subst (λ x. AreTokens x tokens) pieces a))
