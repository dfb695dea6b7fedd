-- The machine takes the tokens of each text, and its open levels are theirs.
use Rattle.std.proofs.Common.{◌≡◌, ℕ, List, [], ◌∷◌, ◌++◌, Some, refl, sym, ap, ◌∙◌}
use Rattle.tal_tokens.specs.declared.token.At.{At}
use Rattle.tal_tokens.specs.declared.token.Token.{Token}
use Rattle.tal_tokens.specs.declared.token.Token.TheVariants as tok
use Rattle.tal_syntax.specs.Grammar as g
use Rattle.tal_syntax.specs.Nesting.{nest_bounds, nest_items, nest_constant, nest_literals, nest_lines, nest_parameters}
use Rattle.tal_syntax.specs.Nesting.{nest_locals, nest_main, nest_statement, nest_row, nest_procedure, nest_procedures}
use Rattle.tal_syntax.specs.Nesting.{nest_text}
use Rattle.tal_recogniser.specs.declared.symbol.Symbol.TheVariants as sym
use Rattle.tal_recogniser.specs.ExpressionTable.{Stack}
use Rattle.tal_recogniser.specs.DeclarationTable.{procedure_on, lines_step, procedures_step, parameters_step}
use Rattle.tal_recogniser.specs.DeclarationTable.{locals_step}
use Rattle.tal_recogniser.specs.Machine.{open_levels, over, trace, start}
use Rattle.tal_recogniser.proofs.Steps.{Leaves, gives_way}
use Rattle.tal_recogniser.proofs.CompleteDeclarations.{complete-bounds, leaves-bounds, complete-items, complete-literal}
use Rattle.tal_recogniser.proofs.CompleteDeclarations.{complete-literals, complete-parameters, complete-main}
use Rattle.tal_recogniser.proofs.CompleteDeclarations.{complete-locals}
use Rattle.tal_recogniser.proofs.CompleteStatements.{complete-statement, complete-row, quits-end, quits-row, opened-row}

leaves-parameters : (w : g.Main) (end : At) (ks : List Token)
    → Leaves parameters_step (g.of_main w (tok.Semicolon end ∷ ks))
leaves-parameters g.not_main end ks = refl
leaves-parameters (g.is_main at) end ks = refl

leaves-row : (r : g.Row) (end : At) (ks : List Token) → Leaves locals_step (g.of_row r (tok.End end ∷ ks))
leaves-row g.no_row end ks = refl
leaves-row (g.more_row semicolon s rest) end ks = refl

-- no statement begins with INT
leaves-locals : (s : g.Statement) (r : g.Row) (end : At) (ks : List Token)
    → Leaves locals_step (g.of_statement s (g.of_row r (tok.End end ∷ ks)))
leaves-locals g.nothing r end ks = leaves-row r end ks
leaves-locals (g.block begin first more e) r end ks = refl
leaves-locals (g.if_then head test then_at s o) r end ks = refl
leaves-locals (g.while_do head test do_at s) r end ks = refl
leaves-locals (g.for_do head at name set_at from direction to step do_at s) r end ks = refl
leaves-locals (g.do_until head s at test) r end ks = refl
leaves-locals (g.call head at name a) r end ks = refl
leaves-locals (g.return head a) r end ks = refl
leaves-locals (g.assign (g.spot at name i) set_at e) r end ks = refl
leaves-locals (g.assign_call (g.spot at name i) set_at name_at callee open_at first more close) r end ks = refl

-- a procedure after its PROC
complete-procedure : (at : At) (name : List ℕ) (p : g.Parameters) (w : g.Main) (end : At) (outer : g.Locals)
    (begin : At) (inner : g.Locals)
    (first : g.Statement) (more : g.Row) (stop last : At) (ss : Stack) (ks : List Token) → g.IsNearest first
    → g.IsNearestRow more
    → trace (procedure_on ++ ss) (tok.Name at name
    ∷ g.of_parameters p (g.of_main w (tok.Semicolon end ∷ g.of_locals outer (tok.Begin begin
    ∷ g.of_locals inner (g.of_statement first (g.of_row more (tok.End stop ∷ tok.Semicolon last ∷ ks)))))))
    ≡ over (λ ls. open_levels ss ∷ nest_parameters (open_levels ss) p
    (nest_main (open_levels ss) w (open_levels ss ∷ nest_locals (open_levels ss) outer (open_levels ss
    ∷ nest_locals (open_levels ss) inner (nest_statement (open_levels ss) first
    (nest_row (open_levels ss) more (open_levels ss ∷ open_levels ss ∷ ls)))))))
    (trace (sym.Procedures ∷ ss) ks)
complete-procedure at name p w end outer begin inner first more stop last ss ks n r =
    let m : ℕ = open_levels ss in
    let ks1 : List Token = tok.End stop ∷ tok.Semicolon last ∷ ks in
    let ss1 : Stack = sym.WantEnd ∷ sym.WantSemicolon ∷ sym.Procedures ∷ ss in
    let ks2 : List Token = g.of_statement first (g.of_row more ks1) in
    let ks3 : List Token = tok.Begin begin ∷ g.of_locals inner ks2 in
    let ss3 : Stack = sym.WantBegin ∷ sym.Locals ∷ sym.Statement ∷ sym.RowTail ∷ ss1 in
    let ks4 : List Token = tok.Semicolon end ∷ g.of_locals outer ks3 in
    let ss4 : Stack = sym.WantSemicolon ∷ sym.Locals ∷ ss3 in
    ap (over (λ ls. m ∷ ls))
    (complete-parameters p (sym.MainTail ∷ ss4) (g.of_main w ks4) (leaves-parameters w end (g.of_locals outer ks3))
    ∙ ap (over (nest_parameters m p))
    (complete-main w ss4 ks4 refl
    ∙ ap (over (λ ls. nest_main m w (m ∷ ls)))
    (complete-locals outer ss3 ks3 refl
    ∙ ap (over (λ ls. nest_locals m outer (m ∷ ls)))
    (complete-locals inner (sym.Statement ∷ sym.RowTail ∷ ss1) ks2
    (leaves-locals first more stop (tok.Semicolon last ∷ ks))
    ∙ ap (over (nest_locals m inner))
    (complete-statement first (sym.RowTail ∷ ss1) (g.of_row more ks1) n
    (quits-row more ks1 (quits-end stop (tok.Semicolon last ∷ ks)))
    (opened-row (g.is_open first) more ks1 (quits-end stop (tok.Semicolon last ∷ ks)))
    ∙ ap (over (nest_statement m first)) (complete-row more ss1 ks1 r (quits-end stop (tok.Semicolon last ∷ ks))))))))

complete-procedures : (ps : g.Procedures) (ss : Stack) (ks : List Token) → g.IsNearestIn ps → Leaves procedures_step ks
    → trace (sym.Procedures ∷ ss) (g.of_procedures ps ks) ≡ over (nest_procedures (open_levels ss) ps) (trace ss ks)
complete-procedures g.no_procedures ss ks n q = gives_way sym.Procedures ss ks q refl
complete-procedures (g.more_procedures (g.procedure (g.heading g.gives_nothing proc at name p w end) outer begin inner
    first more stop last) rest) ss ks n q =
    ap (over (λ ls. open_levels ss ∷ ls)) (complete-procedure at name p w end outer begin inner first more stop last ss
    (g.of_procedures rest ks) n.0.0 n.0.1)
    ∙ ap (over (nest_procedure (open_levels ss) (g.procedure (g.heading g.gives_nothing proc at name p w end) outer
    begin
    inner first more stop last))) (complete-procedures rest ss ks n.1 q)
complete-procedures (g.more_procedures (g.procedure (g.heading (g.gives_int int) proc at name p w end) outer begin
    inner first more stop last) rest) ss ks n q =
    ap (over (λ ls. open_levels ss ∷ open_levels ss ∷ ls))
    (complete-procedure at name p w end outer begin inner first more stop last ss (g.of_procedures rest ks) n.0.0
    n.0.1)
    ∙ ap (over (nest_procedure (open_levels ss) (g.procedure (g.heading (g.gives_int int) proc at name p w end) outer
    begin
    inner first more stop last))) (complete-procedures rest ss ks n.1 q)

-- the first procedure may stand where a line of globals may
procedures-begin : (ps : g.Procedures) (ss : Stack) (ks : List Token) → Leaves lines_step ks → Leaves procedures_step ks
    → trace (sym.Lines ∷ ss) (g.of_procedures ps ks) ≡ trace (sym.Procedures ∷ ss) (g.of_procedures ps ks)
procedures-begin g.no_procedures ss ks q r =
    gives_way sym.Lines ss ks q refl ∙ sym (gives_way sym.Procedures ss ks r refl)
procedures-begin (g.more_procedures (g.procedure (g.heading g.gives_nothing proc at name p w end) outer begin inner
    first more stop last) rest) ss ks q r = refl
procedures-begin (g.more_procedures (g.procedure (g.heading (g.gives_int int) proc at name p w end) outer begin inner
    first more stop last) rest) ss ks q r = refl

complete-lines : (ls : g.Lines) (ps : g.Procedures) (ss : Stack) (ks : List Token) → g.IsNearestIn ps
    → Leaves lines_step ks → Leaves procedures_step ks
    → trace (sym.Lines ∷ ss) (g.of_lines ls (g.of_procedures ps ks))
    ≡ over (λ l. nest_lines (open_levels ss) ls (nest_procedures (open_levels ss) ps l)) (trace ss ks)
complete-lines g.no_lines ps ss ks n q r = procedures-begin ps ss ks q r ∙ complete-procedures ps ss ks n r
complete-lines (g.more_lines (g.int_line int (g.item at name b) more end) rest) ps ss ks n q r =
    let m : ℕ = open_levels ss in
    let rests : List Token = tok.Semicolon end ∷ g.of_lines rest (g.of_procedures ps ks) in
    ap (over (λ ls. m ∷ m ∷ ls))
    (complete-bounds b (sym.ItemsTail ∷ sym.WantSemicolon ∷ sym.Lines ∷ ss) (g.of_items more rests)
    (leaves-bounds more rests refl)
    ∙ ap (over (nest_bounds m b))
    (complete-items more (sym.WantSemicolon ∷ sym.Lines ∷ ss) rests refl refl
    ∙ ap (over (λ ls. nest_items m more (m ∷ ls))) (complete-lines rest ps ss ks n q r)))
complete-lines (g.more_lines (g.literal_line word (g.literal at name equal c) more end) rest) ps ss ks n q r =
    let m : ℕ = open_levels ss in
    let rests : List Token = tok.Semicolon end ∷ g.of_lines rest (g.of_procedures ps ks) in
    ap (over (λ ls. m ∷ m ∷ ls))
    (complete-literal c (sym.LiteralsTail ∷ sym.WantSemicolon ∷ sym.Lines ∷ ss) (g.of_literals more rests) equal
    ∙ ap (over (λ ls. m ∷ nest_constant m c ls))
    (complete-literals more (sym.WantSemicolon ∷ sym.Lines ∷ ss) rests refl
    ∙ ap (over (λ ls. nest_literals m more (m ∷ ls))) (complete-lines rest ps ss ks n q r)))

-- the machine takes a text whole, and notes its levels
pub complete-text : (t : g.Text) → g.IsText t → trace start (g.of_text t) ≡ (Some [], nest_text t)
complete-text (g.text ls ps finish) n = complete-lines ls ps (sym.WantFinish ∷ []) (tok.Finish finish ∷ []) n refl refl
