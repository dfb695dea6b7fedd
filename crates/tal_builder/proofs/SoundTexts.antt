-- Declarations and texts have the tokens in which they are found.
use Rattle.std.proofs.Common.{◌≡◌, ℕ, List, [], ◌∷◌, length, Some, None, refl, arith}
use Rattle.tal_tokens.specs.declared.token.At.{At}
use Rattle.tal_tokens.specs.declared.token.Token.{Token}
use Rattle.tal_tokens.specs.declared.token.Token.TheVariants as tok
use Rattle.tal_syntax.specs.Grammar as g
use Rattle.tal_syntax.specs.Expected.{AllAtMost}
use Rattle.tal_syntax.specs.Nesting.{nest_locals, nest_statement, nest_row, nest_procedure, nest_procedures, nest_text}
use Rattle.tal_builder.specs.declared.plain_token.PlainToken.TheVariants as plain
use Rattle.tal_builder.specs.First.{name_of, is_line, is_local, is_heading}
use Rattle.tal_builder.specs.PlainTokens.{plain_of}
use Rattle.tal_builder.specs.Parse.{Found, constant_at, bounds_after, bounds_at, item_at}
use Rattle.tal_builder.specs.Parse.{items_at, literal_at, literals_at, int_line_at, literal_line_at, line_after}
use Rattle.tal_builder.specs.Parse.{line_at, lines_at, link_name, names_at, parameters_after, parameters_at, local_at}
use Rattle.tal_builder.specs.Parse.{locals_at, gives_after, gives_at, main_after, main_at, heading_at, procedure_at}
use Rattle.tal_builder.specs.Parse.{procedures_at, ended, text_at, statement_at, row_at}
use Rattle.tal_builder.proofs.Constants.{Is, constant_is}
use Rattle.tal_builder.proofs.Told.{Told, Reads, and_then, mapped, weaker, chain, row}
use Rattle.tal_builder.proofs.Flat.{flat_lines, flat_heading, flat_locals}
use Rattle.tal_builder.proofs.SoundTokens.{plain_is, name_is}
use Rattle.tal_builder.proofs.SoundStatements.{statement_is, row_is}

-- globals
bounds_after_is : (ks : List Token) (o : Found At) → Told o (λ r. tok.OpenIndex r.0 ∷ r.1 ≡ ks)
    → Told (bounds_after ks o) (λ r. g.of_bounds r.0 r.1 ≡ ks)
bounds_after_is ks None h = record { told = refl }
bounds_after_is ks (Some (start, us)) h =
    and_then (constant_at us) _ (constant_is us)
    (λ l p. and_then (plain_of plain.Colon l.1) _ (plain_is plain.Colon l.1) (λ c q.
    and_then (constant_at c.1) _ (constant_is c.1)
    (λ i r. mapped (plain_of plain.CloseIndex i.1) _ (plain_is plain.CloseIndex i.1) (λ e s. rw (s, r, q, p) h.told))))

bounds_is : Is g.of_bounds bounds_at
bounds_is ks = bounds_after_is ks (plain_of plain.OpenIndex ks) (plain_is plain.OpenIndex ks)

item_is : Reads g.of_item (λ _. Unit {0}) item_at
item_is ks =
    and_then (name_of ks) _ (name_is ks) (λ w p. mapped (bounds_at w.1) _ (bounds_is w.1) (λ b q. (rw q p, tt)))

items_is : Reads g.of_items (λ _. Unit {0}) items_at
items_is ks =
    chain g.no_items g.more_items (plain_of plain.Comma) item_at (λ s us. tok.Comma s ∷ us) g.of_item g.of_items
    (λ _. Unit {0}) (λ _. Unit {0})
    (record {
      starts = λ us. refl;
      fits = tt;
      goes_on = λ s x r us. refl;
      fits_on = λ s x r a b. tt;
      signs = plain_is plain.Comma;
      parts = item_is;
    }) (length ks) ks

literal_is : Reads g.of_literal (λ _. Unit {0}) literal_at
literal_is ks =
    and_then (name_of ks) _ (name_is ks) (λ w p. and_then (plain_of plain.Equal w.1) _ (plain_is plain.Equal w.1)
    (λ e q.
    mapped (constant_at e.1) _ (constant_is e.1) (λ c r. (rw (r, q) p, tt))))

literals_is : Reads g.of_literals (λ _. Unit {0}) literals_at
literals_is ks =
    chain g.no_literals g.more_literals (plain_of plain.Comma) literal_at (λ s us. tok.Comma s ∷ us) g.of_literal
    g.of_literals (λ _. Unit {0}) (λ _. Unit {0})
    (record {
      starts = λ us. refl;
      fits = tt;
      goes_on = λ s x r us. refl;
      fits_on = λ s x r a b. tt;
      signs = plain_is plain.Comma;
      parts = literal_is;
    }) (length ks) ks

int_line_is : (int : At) (us ks : List Token) → tok.Int int ∷ us ≡ ks
    → Told (int_line_at int us) (λ r. (g.of_globals r.0 r.1 ≡ ks) × Unit {0})
int_line_is int us ks h =
    and_then (item_at us) _ (item_is us) (λ f q. and_then (items_at f.1) _ (items_is f.1) (λ m r.
    mapped (plain_of plain.Semicolon m.1) _ (plain_is plain.Semicolon m.1) (λ e s. (rw (s, r.0, q.0) h, tt))))

literal_line_is : (word : At) (us ks : List Token) → tok.Literal word ∷ us ≡ ks
    → Told (literal_line_at word us) (λ r. (g.of_globals r.0 r.1 ≡ ks) × Unit {0})
literal_line_is word us ks h =
    and_then (literal_at us) _ (literal_is us) (λ f q. and_then (literals_at f.1) _ (literals_is f.1) (λ m r.
    mapped (plain_of plain.Semicolon m.1) _ (plain_is plain.Semicolon m.1) (λ e s. (rw (s, r.0, q.0) h, tt))))

line_after_is : (ks : List Token) (o : Found At) → Told o (λ r. tok.Int r.0 ∷ r.1 ≡ ks)
    → Told (line_after ks o) (λ r. (g.of_globals r.0 r.1 ≡ ks) × Unit {0})
line_after_is ks None h =
    and_then (plain_of plain.Literal ks) _ (plain_is plain.Literal ks) (λ w p. literal_line_is w.0 w.1 ks p)
line_after_is ks (Some (int, us)) h = int_line_is int us ks h.told

line_is : Reads g.of_globals (λ _. Unit {0}) line_at
line_is ks = line_after_is ks (plain_of plain.Int ks) (plain_is plain.Int ks)

lines_is : Reads g.of_lines (λ _. Unit {0}) lines_at
lines_is ks =
    row g.no_lines g.more_lines is_line line_at g.of_globals g.of_lines (λ _. Unit {0}) (λ _. Unit {0})
    (record { starts = λ us. refl; fits = tt; goes_on = λ x r us. refl; fits_on = λ x r a b. tt; parts = line_is })
    (length ks) ks

-- headings and locals
abbrev of_named : At × List ℕ → List Token → List Token
of_named w ks = tok.Name w.0 w.1 ∷ ks

names_is : Reads g.of_names (λ _. Unit {0}) names_at
names_is ks =
    chain g.no_names link_name (plain_of plain.Comma) name_of (λ s us. tok.Comma s ∷ us) of_named g.of_names
    (λ _. Unit {0}) (λ _. Unit {0})
    (record {
      starts = λ us. refl;
      fits = tt;
      goes_on = λ s x r us. refl;
      fits_on = λ s x r a b. tt;
      signs = plain_is plain.Comma;
      parts = λ us. weaker (name_of us) (name_is us) (λ w p. (p, tt));
    }) (length ks) ks

parameters_after_is : (ks : List Token) (o : Found At) → Told o (λ r. tok.Open r.0 ∷ r.1 ≡ ks)
    → Told (parameters_after ks o) (λ r. g.of_parameters r.0 r.1 ≡ ks)
parameters_after_is ks None h = record { told = refl }
parameters_after_is ks (Some (start, us)) h =
    and_then (name_of us) _ (name_is us) (λ w p. and_then (names_at w.1) _ (names_is w.1) (λ m q.
    mapped (plain_of plain.Close m.1) _ (plain_is plain.Close m.1) (λ c r. rw (r, q.0, p) h.told)))

local_is : Reads g.of_local (λ _. Unit {0}) local_at
local_is ks =
    and_then (plain_of plain.Int ks) _ (plain_is plain.Int ks)
    (λ i h. and_then (name_of i.1) _ (name_is i.1) (λ w p. and_then (names_at w.1) _ (names_is w.1) (λ m q.
    mapped (plain_of plain.Semicolon m.1) _ (plain_is plain.Semicolon m.1) (λ c r. (rw (r, q.0, p) h, tt)))))

locals_is : Reads g.of_locals (λ _. Unit {0}) locals_at
locals_is ks =
    row g.no_locals g.more_locals is_local local_at g.of_local g.of_locals (λ _. Unit {0}) (λ _. Unit {0})
    (record { starts = λ us. refl; fits = tt; goes_on = λ x r us. refl; fits_on = λ x r a b. tt; parts = local_is })
    (length ks) ks

gives_after_is : (ks : List Token) (o : Found At) → Told o (λ r. tok.Int r.0 ∷ r.1 ≡ ks)
    → Told (gives_after ks o) (λ r. g.of_gives r.0 r.1 ≡ ks)
gives_after_is ks None h = record { told = refl }
gives_after_is ks (Some (at, us)) h = record { told = h.told }

main_after_is : (ks : List Token) (o : Found At) → Told o (λ r. tok.Main r.0 ∷ r.1 ≡ ks)
    → Told (main_after ks o) (λ r. g.of_main r.0 r.1 ≡ ks)
main_after_is ks None h = record { told = refl }
main_after_is ks (Some (at, us)) h = record { told = h.told }

heading_is : Is g.of_heading heading_at
heading_is ks =
    and_then (gives_at ks) _ (gives_after_is ks (plain_of plain.Int ks) (plain_is plain.Int ks))
    (λ i a. and_then (plain_of plain.Proc i.1) _ (plain_is plain.Proc i.1) (λ p b.
    and_then (name_of p.1) _ (name_is p.1) (λ w c.
    and_then (parameters_at w.1) _ (parameters_after_is w.1 (plain_of plain.Open w.1) (plain_is plain.Open w.1))
    (λ l d.
    and_then (main_at l.1) _ (main_after_is l.1 (plain_of plain.Main l.1) (plain_is plain.Main l.1))
    (λ m e. mapped (plain_of plain.Semicolon m.1) _ (plain_is plain.Semicolon m.1) (λ s f.
    rw (f, e, d, c, b) a))))))

-- procedures and texts
abbrev Fits : g.Procedure → Type 0
Fits p = ((ls : List ℕ) → AllAtMost 33 ls → AllAtMost 33 (nest_procedure 0 p ls)) × g.IsNearestProcedure p

abbrev Fit : g.Procedures → Type 0
Fit p = ((ls : List ℕ) → AllAtMost 33 ls → AllAtMost 33 (nest_procedures 0 p ls)) × g.IsNearestIn p

procedure_is : Reads g.of_procedure Fits procedure_at
procedure_is ks =
    and_then (heading_at ks) _ (heading_is ks)
    (λ h a. and_then (locals_at h.1) _ (locals_is h.1)
    (λ o b. and_then (plain_of plain.Begin o.1) _ (plain_is plain.Begin o.1) (λ s c.
    and_then (locals_at s.1) _ (locals_is s.1)
    (λ i d. and_then (statement_at 33 i.1) _ (statement_is 33 i.1)
    (λ f e. and_then (row_at 33 f.1) _ (row_is 33 f.1) (λ m x.
    and_then (plain_of plain.End m.1) _ (plain_is plain.End m.1)
    (λ n y. mapped (plain_of plain.Semicolon n.1) _ (plain_is plain.Semicolon n.1) (λ l z. (
      rw (z, y, x.0, e.0, d.0, c, b.0) a,
      (
        (λ ls w. flat_heading h.0 0 33 (nest_locals 0 o.0
            (0 ∷ nest_locals 0 i.0 (nest_statement 0 f.0 (nest_row 0 m.0 (0 ∷ 0 ∷ ls))))) (omega arith)
            (flat_locals o.0 0 33 (0 ∷ nest_locals 0 i.0 (nest_statement 0 f.0 (nest_row 0 m.0 (0 ∷ 0 ∷ ls))))
            (omega arith) (
              omega arith,
              flat_locals i.0 0 33 (nest_statement 0 f.0 (nest_row 0 m.0 (0 ∷ 0 ∷ ls))) (omega arith)
                  (e.1 0 33 (nest_row 0 m.0 (0 ∷ 0 ∷ ls)) (omega arith)
                  (x.1.0 0 33 (0 ∷ 0 ∷ ls) (omega arith) (omega arith, (omega arith, w)))),
            ))),
        (e.2, x.1.1),
      ),
    )))))))))

procedures_is : Reads g.of_procedures Fit procedures_at
procedures_is ks =
    row g.no_procedures g.more_procedures is_heading procedure_at g.of_procedure g.of_procedures Fits Fit
    (record {
      starts = λ us. refl;
      fits = ((λ ls w. w), tt);
      goes_on = λ x r us. refl;
      fits_on = λ x r a b. ((λ ls w. a.0 (nest_procedures 0 r ls) (b.0 ls w)), (a.1, b.1));
      parts =
          procedure_is;
    }) (length ks) ks

ended_is : (t : g.Text) (us ks : List Token) {P : g.Text → Type 0} → (us ≡ [] → P t) → Told (ended t us) P
ended_is t [] ks h = record { told = h refl }
ended_is t (k ∷ us) ks h = record { told = tt }

-- a whole text has the tokens in which it is found, each ELSE belongs to the nearest IF, and no token stands deeper
-- than 33 levels
pub text_is : (ks : List Token) → Told (text_at ks) (λ t. g.IsText t × (g.of_text t ≡ ks) × AllAtMost 33 (nest_text t))
text_is ks =
    and_then (lines_at ks) _ (lines_is ks) (λ l a.
    and_then (procedures_at l.1) _ (procedures_is l.1)
    (λ p b. and_then (plain_of plain.Finish p.1) _ (plain_is plain.Finish p.1) (λ f c.
    ended_is (g.text l.0 p.0 f.0) f.1 ks (λ e. (
      b.1.1,
      rw (← e, c, b.0) a.0,
      flat_lines l.0 0 33 (nest_procedures 0 p.0 (0 ∷ [])) (omega arith)
          (b.1.0 (0 ∷ []) (omega arith, tt)),
    )))))
