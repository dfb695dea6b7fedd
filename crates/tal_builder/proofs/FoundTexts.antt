-- A text within 33 levels is found in its tokens.
use Rattle.std.proofs.Common.{◌≡◌, ℕ, ◌≤◌, Bool, true, false, cond, zero, suc, List, [], ◌∷◌, length, Some, None, refl}
use Rattle.std.proofs.Common.{ap, arith}
use Rattle.std.specs.Prelude.{option_map}
use Rattle.std.specs.Option.{option_and_then}
use Rattle.tal_tokens.specs.declared.token.At.{At}
use Rattle.tal_tokens.specs.declared.token.Token.{Token}
use Rattle.tal_tokens.specs.declared.token.Token.TheVariants as tok
use Rattle.tal_syntax.specs.Grammar as g
use Rattle.tal_syntax.specs.Expected.{AllAtMost}
use Rattle.tal_syntax.specs.Nesting.{nest_locals, nest_statement, nest_row, nest_procedure, nest_procedures, nest_text}
use Rattle.tal_builder.specs.declared.plain_token.PlainToken.TheVariants as plain
use Rattle.tal_builder.specs.First.{name_of, is_line, is_local, is_heading}
use Rattle.tal_builder.specs.PlainTokens.{plain_of}
use Rattle.tal_builder.specs.Parse.{Found, rest_by, rest_after, row_by, bounds_after, bounds_at, item_at}
use Rattle.tal_builder.specs.Parse.{literal_at, line_at, link_name, parameters_after, parameters_at, gives_at, main_at}
use Rattle.tal_builder.specs.Parse.{local_at, heading_at, procedure_at, text_at}
use Rattle.tal_builder.proofs.AfterLevels.{after_statement, after_row}
use Rattle.tal_builder.proofs.Constants.{found_constant}
use Rattle.tal_builder.proofs.Flat.{after_lines, after_heading, after_locals}
use Rattle.tal_builder.proofs.Sizes.{grows_item, grows_literal, grows_globals, grows_local, grows_procedure}
use Rattle.tal_builder.proofs.Steps.{bounded-found, parameters-found, local-found, int_line-found, literal_line-found}
use Rattle.tal_builder.proofs.Steps.{heading-found, procedure-found, text-found, linked, rowed}
use Rattle.tal_builder.proofs.FoundStatements.{quits_row, else_row, found_statement, found_row}

-- globals
found_bounds : (b : g.Bounds) (ks : List Token) → plain_of plain.OpenIndex ks ≡ None
    → bounds_at (g.of_bounds b ks) ≡ Some (b, ks)
found_bounds g.unbounded ks q = ap (bounds_after ks) q
found_bounds (g.bounded start low colon high close) ks q =
    bounded-found start low colon high close
    (g.of_constant low (tok.Colon colon ∷ g.of_constant high (tok.CloseIndex close ∷ ks)))
    (g.of_constant high (tok.CloseIndex close ∷ ks)) ks
    (found_constant low (tok.Colon colon ∷ g.of_constant high (tok.CloseIndex close ∷ ks)))
    (found_constant high (tok.CloseIndex close ∷ ks))

found_item : (i : g.Item) (ks : List Token) → plain_of plain.OpenIndex ks ≡ None
    → item_at (g.of_item i ks) ≡ Some (i, ks)
found_item (g.item at name b) ks q = ap (option_map (λ b. (g.item at name b.0, b.1))) (found_bounds b ks q)

quits_items : (r : g.Items) (ks : List Token) → plain_of plain.OpenIndex ks ≡ None
    → plain_of plain.OpenIndex (g.of_items r ks) ≡ None
quits_items g.no_items ks q = q
quits_items (g.more_items comma i r) ks q = refl

found_items : (r : g.Items) (ks : List Token) (k : ℕ) → length (g.of_items r ks) ≤ k → plain_of plain.Comma ks ≡ None
    → plain_of plain.OpenIndex ks ≡ None
    → rest_by g.no_items g.more_items (plain_of plain.Comma) item_at k (g.of_items r ks) ≡ Some (r, ks)
found_items g.no_items ks zero l c q = refl
found_items g.no_items ks (suc k) l c q =
    ap (rest_after g.no_items g.more_items item_at (rest_by g.no_items g.more_items (plain_of plain.Comma) item_at k)
    ks) c
found_items (g.more_items comma i r) ks zero l c q = absurd (omega arith)
found_items (g.more_items comma i r) ks (suc k) l c q =
    linked g.no_items g.more_items item_at (rest_by g.no_items g.more_items (plain_of plain.Comma) item_at k)
    (g.of_items (g.more_items comma i r) ks) (g.of_item i (g.of_items r ks)) (g.of_items r ks) ks comma i r
    (found_item i (g.of_items r ks) (quits_items r ks q))
    (found_items r ks k (omega (arith, grows_item i (g.of_items r ks))) c q)

found_literal : (i : g.Literal) (ks : List Token) → literal_at (g.of_literal i ks) ≡ Some (i, ks)
found_literal (g.literal at name equal c) ks =
    ap (option_map (λ c. (g.literal at name equal c.0, c.1))) (found_constant c ks)

found_literals : (r : g.Literals) (ks : List Token) (k : ℕ) → length (g.of_literals r ks) ≤ k
    → plain_of plain.Comma ks ≡ None
    → rest_by g.no_literals g.more_literals (plain_of plain.Comma) literal_at k (g.of_literals r ks) ≡ Some (r, ks)
found_literals g.no_literals ks zero l c = refl
found_literals g.no_literals ks (suc k) l c =
    ap (rest_after g.no_literals g.more_literals literal_at
    (rest_by g.no_literals g.more_literals (plain_of plain.Comma) literal_at k) ks) c
found_literals (g.more_literals comma i r) ks zero l c = absurd (omega arith)
found_literals (g.more_literals comma i r) ks (suc k) l c =
    linked g.no_literals g.more_literals literal_at
    (rest_by g.no_literals g.more_literals (plain_of plain.Comma) literal_at k)
    (g.of_literals (g.more_literals comma i r) ks) (g.of_literal i (g.of_literals r ks)) (g.of_literals r ks) ks
    comma i r
    (found_literal i (g.of_literals r ks)) (found_literals r ks k (omega (arith, grows_literal i (g.of_literals r ks)))
    c)

found_line : (l : g.Globals) (ks : List Token) → line_at (g.of_globals l ks) ≡ Some (l, ks)
found_line (g.int_line int first more end) ks =
    int_line-found int end (g.of_item first (g.of_items more (tok.Semicolon end ∷ ks)))
    (g.of_items more (tok.Semicolon end ∷ ks)) (tok.Semicolon end ∷ ks) ks first more
    (found_item first (g.of_items more (tok.Semicolon end ∷ ks)) (quits_items more (tok.Semicolon end ∷ ks) refl))
    (found_items more (tok.Semicolon end ∷ ks) (length (g.of_items more (tok.Semicolon end ∷ ks))) (omega arith) refl
    refl) refl
found_line (g.literal_line word first more end) ks =
    literal_line-found word end (g.of_literal first (g.of_literals more (tok.Semicolon end ∷ ks)))
    (g.of_literals more (tok.Semicolon end ∷ ks)) (tok.Semicolon end ∷ ks) ks first more
    (found_literal first (g.of_literals more (tok.Semicolon end ∷ ks)))
    (found_literals more (tok.Semicolon end ∷ ks) (length (g.of_literals more (tok.Semicolon end ∷ ks))) (omega arith)
    refl) refl

line_begins : (l : g.Globals) (ks : List Token) → is_line (g.of_globals l ks) ≡ true
line_begins (g.int_line int (g.item at name b) more end) ks = refl
line_begins (g.literal_line word first more end) ks = refl

row_quits : {X R : Type 0} (none : R) (more : X → R → R) (begins : List Token → Bool) (part : List Token → Found X)
    (k : ℕ) (ks : List Token) → begins ks ≡ false
    → row_by none more begins part k ks ≡ Some (none, ks)
row_quits none more begins part zero ks q = refl
row_quits none more begins part (suc k) ks q =
    ap (λ b. cond b (option_and_then (λ p. option_map (λ r. (more p.0 r.0, r.1)) (row_by none more begins part k p.1))
    (part ks)) (Some (none, ks))) q

found_lines : (r : g.Lines) (ks : List Token) (k : ℕ) → length (g.of_lines r ks) ≤ k → is_line ks ≡ false
    → row_by g.no_lines g.more_lines is_line line_at k (g.of_lines r ks) ≡ Some (r, ks)
found_lines g.no_lines ks k l q = row_quits g.no_lines g.more_lines is_line line_at k ks q
found_lines (g.more_lines x r) ks zero l q = absurd (omega (arith, grows_globals x (g.of_lines r ks)))
found_lines (g.more_lines x r) ks (suc k) l q =
    rowed g.no_lines g.more_lines is_line line_at k (g.of_globals x (g.of_lines r ks)) (g.of_lines r ks) ks x r
    (line_begins x (g.of_lines r ks)) (found_line x (g.of_lines r ks))
    (found_lines r ks k (omega (arith, grows_globals x (g.of_lines r ks))) q)

-- headings and locals
found_names : (r : g.Names) (ks : List Token) (k : ℕ) → length (g.of_names r ks) ≤ k → plain_of plain.Comma ks ≡ None
    → rest_by g.no_names link_name (plain_of plain.Comma) name_of k (g.of_names r ks) ≡ Some (r, ks)
found_names g.no_names ks zero l c = refl
found_names g.no_names ks (suc k) l c =
    ap (rest_after g.no_names link_name name_of (rest_by g.no_names link_name (plain_of plain.Comma) name_of k) ks) c
found_names (g.more_names comma at name r) ks zero l c = absurd (omega arith)
found_names (g.more_names comma at name r) ks (suc k) l c =
    linked g.no_names link_name name_of (rest_by g.no_names link_name (plain_of plain.Comma) name_of k)
    (g.of_names (g.more_names comma at name r) ks) (tok.Name at name ∷ g.of_names r ks) (g.of_names r ks) ks comma
    (at, name) r
    refl (found_names r ks k (omega arith) c)

found_parameters : (p : g.Parameters) (ks : List Token) → plain_of plain.Open ks ≡ None
    → parameters_at (g.of_parameters p ks) ≡ Some (p, ks)
found_parameters g.no_parameters ks q = ap (parameters_after ks) q
found_parameters (g.parameters start at name more close) ks q =
    parameters-found start at name more close (g.of_names more (tok.Close close ∷ ks)) ks
    (found_names more (tok.Close close ∷ ks) (length (g.of_names more (tok.Close close ∷ ks))) (omega arith) refl)

found_local : (x : g.Local) (ks : List Token) → local_at (g.of_local x ks) ≡ Some (x, ks)
found_local (g.local int at name more end) ks =
    local-found int at name more end (g.of_names more (tok.Semicolon end ∷ ks)) ks
    (found_names more (tok.Semicolon end ∷ ks) (length (g.of_names more (tok.Semicolon end ∷ ks))) (omega arith) refl)

local_begins : (l : g.Local) (ks : List Token) → is_local (g.of_local l ks) ≡ true
local_begins (g.local int at name more end) ks = refl

found_locals : (r : g.Locals) (ks : List Token) (k : ℕ) → length (g.of_locals r ks) ≤ k → is_local ks ≡ false
    → row_by g.no_locals g.more_locals is_local local_at k (g.of_locals r ks) ≡ Some (r, ks)
found_locals g.no_locals ks k l q = row_quits g.no_locals g.more_locals is_local local_at k ks q
found_locals (g.more_locals x r) ks zero l q = absurd (omega (arith, grows_local x (g.of_locals r ks)))
found_locals (g.more_locals x r) ks (suc k) l q =
    rowed g.no_locals g.more_locals is_local local_at k (g.of_local x (g.of_locals r ks)) (g.of_locals r ks) ks x r
    (local_begins x (g.of_locals r ks)) (found_local x (g.of_locals r ks))
    (found_locals r ks k (omega (arith, grows_local x (g.of_locals r ks))) q)

found_gives : (i : g.Gives) (proc : At) (us : List Token)
    → gives_at (g.of_gives i (tok.Proc proc ∷ us)) ≡ Some (i, tok.Proc proc ∷ us)
found_gives g.gives_nothing proc us = refl
found_gives (g.gives_int at) proc us = refl

found_main : (m : g.Main) (end : At) (us : List Token)
    → main_at (g.of_main m (tok.Semicolon end ∷ us)) ≡ Some (m, tok.Semicolon end ∷ us)
found_main g.not_main end us = refl
found_main (g.is_main at) end us = refl

quits_main : (m : g.Main) (end : At) (us : List Token)
    → plain_of plain.Open (g.of_main m (tok.Semicolon end ∷ us)) ≡ None
quits_main g.not_main end us = refl
quits_main (g.is_main at) end us = refl

found_heading : (h : g.Heading) (ks : List Token) → heading_at (g.of_heading h ks) ≡ Some (h, ks)
found_heading (g.heading i proc at name p m end) ks =
    let us : List Token = g.of_main m (tok.Semicolon end ∷ ks) in
    heading-found i proc at name p m end (g.of_gives i (tok.Proc proc ∷ tok.Name at name ∷ g.of_parameters p us))
    (tok.Proc proc ∷ tok.Name at name ∷ g.of_parameters p us)
    (tok.Name at name ∷ g.of_parameters p us) (g.of_parameters p us) us (tok.Semicolon end ∷ ks) ks
    (found_gives i proc (tok.Name at name ∷ g.of_parameters p us)) refl refl
    (found_parameters p us (quits_main m end ks)) (found_main m end ks) refl

heading_begins : (h : g.Heading) (ks : List Token) → is_heading (g.of_heading h ks) ≡ true
heading_begins (g.heading g.gives_nothing proc at name p m end) ks = refl
heading_begins (g.heading (g.gives_int int) proc at name p m end) ks = refl

-- procedures and texts
row_no_local : (r : g.Row) (end : At) (ks : List Token) → is_local (g.of_row r (tok.End end ∷ ks)) ≡ false
row_no_local g.no_row end ks = refl
row_no_local (g.more_row semicolon s r) end ks = refl

no_local : (s : g.Statement) (ks : List Token) → is_local ks ≡ false → is_local (g.of_statement s ks) ≡ false
no_local g.nothing ks q = q
no_local (g.block begin first more end) ks q = refl
no_local (g.if_then head test then_at s o) ks q = refl
no_local (g.while_do head test do_at s) ks q = refl
no_local (g.for_do head at name set_at from direction to step do_at s) ks q = refl
no_local (g.do_until head s at test) ks q = refl
no_local (g.call head at name x) ks q = refl
no_local (g.return head x) ks q = refl
no_local (g.assign (g.spot place name i) at e) ks q = refl
no_local (g.assign_call (g.spot place name i) at name_at callee start first more close) ks q = refl

found_procedure : (p : g.Procedure) (ks : List Token) (ls : List ℕ) → AllAtMost 33 (nest_procedure 0 p ls)
    → g.IsNearestProcedure p → procedure_at (g.of_procedure p ks) ≡ Some (p, ks)
found_procedure (g.procedure h outer begin inner first more end last) ks ls a near =
    let us : List Token = tok.End end ∷ tok.Semicolon last ∷ ks in
    let vs : List Token = g.of_statement first (g.of_row more us) in
    let ms : List ℕ = nest_row 0 more (0 ∷ 0 ∷ ls) in
    let b : AllAtMost 33 (nest_locals 0 outer (0 ∷ nest_locals 0 inner (nest_statement 0 first ms))) =
    after_heading h 0 33 (nest_locals 0 outer (0 ∷ nest_locals 0 inner (nest_statement 0 first ms))) a in
    let c : AllAtMost 33 (0 ∷ nest_locals 0 inner (nest_statement 0 first ms)) =
    after_locals outer 0 33 (0 ∷ nest_locals 0 inner (nest_statement 0 first ms)) b in
    let d : AllAtMost 33 (nest_statement 0 first ms) = after_locals inner 0 33 (nest_statement 0 first ms) c.1 in
    procedure-found h outer begin inner first more end last
    (g.of_heading h (g.of_locals outer (tok.Begin begin ∷ g.of_locals inner vs)))
    (g.of_locals outer (tok.Begin begin ∷ g.of_locals inner vs)) (tok.Begin begin ∷ g.of_locals inner vs)
    (g.of_locals inner vs)
    vs (g.of_row more us) us (tok.Semicolon last ∷ ks) ks
    (found_heading h (g.of_locals outer (tok.Begin begin ∷ g.of_locals inner vs)))
    (found_locals outer (tok.Begin begin ∷ g.of_locals inner vs)
    (length (g.of_locals outer (tok.Begin begin ∷ g.of_locals inner vs))) (omega arith) refl) refl
    (found_locals inner vs (length (g.of_locals inner vs)) (omega arith)
    (no_local first (g.of_row more us) (row_no_local more end (tok.Semicolon last ∷ ks))))
    (found_statement first 33 0 33 (g.of_row more us) ms (omega arith) d near.0 (λ _. else_row more us refl)
    (quits_row more us (((((((refl, refl), refl), refl), refl), refl), refl), refl, refl)))
    (found_row more 33 0 33 us (0 ∷ 0 ∷ ls) (length (g.of_row more us)) (omega arith) (omega arith)
    (after_statement first 0 33 ms d) near.1 refl refl
    (((((((refl, refl), refl), refl), refl), refl), refl), refl, refl))
    refl refl

after_procedure : (p : g.Procedure) (ls : List ℕ) → AllAtMost 33 (nest_procedure 0 p ls) → AllAtMost 33 ls
after_procedure (g.procedure h outer begin inner first more end last) ls a =
    let ms : List ℕ = nest_row 0 more (0 ∷ 0 ∷ ls) in
    let b : AllAtMost 33 (nest_locals 0 outer (0 ∷ nest_locals 0 inner (nest_statement 0 first ms))) =
    after_heading h 0 33 (nest_locals 0 outer (0 ∷ nest_locals 0 inner (nest_statement 0 first ms))) a in
    let c : AllAtMost 33 (0 ∷ nest_locals 0 inner (nest_statement 0 first ms)) =
    after_locals outer 0 33 (0 ∷ nest_locals 0 inner (nest_statement 0 first ms)) b in
    (after_row more 0 33 (0 ∷ 0 ∷ ls) (after_statement first 0 33 ms
    (after_locals inner 0 33 (nest_statement 0 first ms) c.1))).1.1

procedure_begins : (p : g.Procedure) (ks : List Token) → is_heading (g.of_procedure p ks) ≡ true
procedure_begins (g.procedure h outer begin inner first more end last) ks =
    heading_begins h (g.of_locals outer (tok.Begin begin
    ∷ g.of_locals inner (g.of_statement first (g.of_row more (tok.End end ∷ tok.Semicolon last ∷ ks)))))

found_procedures : (r : g.Procedures) (ks : List Token) (ls : List ℕ) (k : ℕ) → length (g.of_procedures r ks) ≤ k
    → AllAtMost 33 (nest_procedures 0 r ls) → g.IsNearestIn r → is_heading ks ≡ false
    → row_by g.no_procedures g.more_procedures is_heading procedure_at k (g.of_procedures r ks) ≡ Some (r, ks)
found_procedures g.no_procedures ks ls k l a near q =
    row_quits g.no_procedures g.more_procedures is_heading procedure_at k ks q
found_procedures (g.more_procedures p r) ks ls zero l a near q =
    absurd (omega (arith, grows_procedure p (g.of_procedures r ks)))
found_procedures (g.more_procedures p r) ks ls (suc k) l a near q =
    rowed g.no_procedures g.more_procedures is_heading procedure_at k (g.of_procedure p (g.of_procedures r ks))
    (g.of_procedures r ks) ks p r (procedure_begins p (g.of_procedures r ks))
    (found_procedure p (g.of_procedures r ks) (nest_procedures 0 r ls) a near.0)
    (found_procedures r ks ls k (omega (arith, grows_procedure p (g.of_procedures r ks)))
    (after_procedure p (nest_procedures 0 r ls) a) near.1 q)

no_line : (r : g.Procedures) (finish : At) → is_line (g.of_procedures r (tok.Finish finish ∷ [])) ≡ false
no_line g.no_procedures finish = refl
no_line (g.more_procedures (g.procedure (g.heading g.gives_nothing proc at name p m end) outer begin inner first more
    stop last) r) finish = refl
no_line (g.more_procedures (g.procedure (g.heading (g.gives_int int) proc at name p m end) outer begin inner first more
    stop last) r) finish = refl

pub found_text : (t : g.Text) → g.IsText t → AllAtMost 33 (nest_text t) → text_at (g.of_text t) ≡ Some t
found_text (g.text lines ps finish) near a =
    let us : List Token = g.of_procedures ps (tok.Finish finish ∷ []) in
    text-found (g.of_lines lines us) us (tok.Finish finish ∷ []) lines ps finish
    (found_lines lines us (length (g.of_lines lines us)) (omega arith) (no_line ps finish))
    (found_procedures ps (tok.Finish finish ∷ []) (0 ∷ []) (length us) (omega arith)
    (after_lines lines 0 33 (nest_procedures 0 ps (0 ∷ [])) a) near refl) refl
