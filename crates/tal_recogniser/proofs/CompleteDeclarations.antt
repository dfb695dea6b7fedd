-- The machine takes the tokens of each declaration, and they open no level.
use Rattle.std.proofs.Common.{◌≡◌, ℕ, List, ◌∷◌, refl, ap, ◌∙◌}
use Rattle.tal_tokens.specs.declared.token.Token.{Token}
use Rattle.tal_tokens.specs.declared.token.Token.TheVariants as tok
use Rattle.tal_syntax.specs.Grammar as g
use Rattle.tal_syntax.specs.Nesting.{nest_constant, nest_bounds, nest_items, nest_literals, nest_names, nest_parameters}
use Rattle.tal_syntax.specs.Nesting.{nest_locals, nest_main}
use Rattle.tal_recogniser.specs.declared.symbol.Symbol.TheVariants as sym
use Rattle.tal_recogniser.specs.ExpressionTable.{Stack}
use Rattle.tal_recogniser.specs.DeclarationTable.{bounds_step, items_step, literals_step, parameters_step, names_step}
use Rattle.tal_recogniser.specs.DeclarationTable.{main_step, locals_step}
use Rattle.tal_recogniser.specs.Machine.{open_levels, over, trace}
use Rattle.tal_recogniser.proofs.Steps.{Leaves, gives_way}

pub complete-constant : (c : g.Constant) (ss : Stack) (ks : List Token)
    → trace (sym.Constant ∷ ss) (g.of_constant c ks) ≡ over (nest_constant (open_levels ss) c) (trace ss ks)
complete-constant (g.positive (g.digits at n)) ss ks = refl
complete-constant (g.positive (g.known at name)) ss ks = refl
complete-constant (g.negative sign (g.digits at n)) ss ks = refl
complete-constant (g.negative sign (g.known at name)) ss ks = refl

pub complete-bounds : (b : g.Bounds) (ss : Stack) (ks : List Token) → Leaves bounds_step ks
    → trace (sym.BoundsTail ∷ ss) (g.of_bounds b ks) ≡ over (nest_bounds (open_levels ss) b) (trace ss ks)
complete-bounds g.unbounded ss ks q = gives_way sym.BoundsTail ss ks q refl
complete-bounds (g.bounded start low colon high close) ss ks q =
    let m : ℕ = open_levels ss in
    ap (over (λ ls. m ∷ ls))
    (complete-constant low (sym.WantColon ∷ sym.Constant ∷ sym.WantCloseIndex ∷ ss)
    (tok.Colon colon ∷ g.of_constant high (tok.CloseIndex close ∷ ks))
    ∙ ap (over (λ ls. nest_constant m low (m ∷ ls)))
    (complete-constant high (sym.WantCloseIndex ∷ ss) (tok.CloseIndex close ∷ ks)))

pub leaves-bounds : (i : g.Items) (ks : List Token) → Leaves bounds_step ks → Leaves bounds_step (g.of_items i ks)
leaves-bounds g.no_items ks q = q
leaves-bounds (g.more_items comma i rest) ks q = refl

pub complete-items : (i : g.Items) (ss : Stack) (ks : List Token) → Leaves items_step ks → Leaves bounds_step ks
    → trace (sym.ItemsTail ∷ ss) (g.of_items i ks) ≡ over (nest_items (open_levels ss) i) (trace ss ks)
complete-items g.no_items ss ks q r = gives_way sym.ItemsTail ss ks q refl
complete-items (g.more_items comma (g.item at name b) rest) ss ks q r =
    let m : ℕ = open_levels ss in
    ap (over (λ ls. m ∷ m ∷ ls))
    (complete-bounds b (sym.ItemsTail ∷ ss) (g.of_items rest ks) (leaves-bounds rest ks r)
    ∙ ap (over (nest_bounds m b)) (complete-items rest ss ks q r))

-- a literal after its name
pub complete-literal : (c : g.Constant) (ss : Stack) (ks : List Token) (equal : _)
    → trace (sym.WantEqual ∷ sym.Constant ∷ ss) (tok.Equal equal ∷ g.of_constant c ks)
    ≡ over (λ ls. open_levels ss ∷ nest_constant (open_levels ss) c ls) (trace ss ks)
complete-literal c ss ks equal = ap (over (λ ls. open_levels ss ∷ ls)) (complete-constant c ss ks)

pub complete-literals : (l : g.Literals) (ss : Stack) (ks : List Token) → Leaves literals_step ks
    → trace (sym.LiteralsTail ∷ ss) (g.of_literals l ks) ≡ over (nest_literals (open_levels ss) l) (trace ss ks)
complete-literals g.no_literals ss ks q = gives_way sym.LiteralsTail ss ks q refl
complete-literals (g.more_literals comma (g.literal at name equal c) rest) ss ks q =
    let m : ℕ = open_levels ss in
    ap (over (λ ls. m ∷ m ∷ ls))
    (complete-literal c (sym.LiteralsTail ∷ ss) (g.of_literals rest ks) equal
    ∙ ap (over (λ ls. m ∷ nest_constant m c ls)) (complete-literals rest ss ks q))

pub complete-names : (ns : g.Names) (ss : Stack) (ks : List Token) → Leaves names_step ks
    → trace (sym.NamesTail ∷ ss) (g.of_names ns ks) ≡ over (nest_names (open_levels ss) ns) (trace ss ks)
complete-names g.no_names ss ks q = gives_way sym.NamesTail ss ks q refl
complete-names (g.more_names comma at name rest) ss ks q =
    ap (over (λ ls. open_levels ss ∷ open_levels ss ∷ ls)) (complete-names rest ss ks q)

pub complete-parameters : (p : g.Parameters) (ss : Stack) (ks : List Token) → Leaves parameters_step ks
    → trace (sym.ParametersTail ∷ ss) (g.of_parameters p ks) ≡ over (nest_parameters (open_levels ss) p) (trace ss ks)
complete-parameters g.no_parameters ss ks q = gives_way sym.ParametersTail ss ks q refl
complete-parameters (g.parameters start at name more close) ss ks q =
    ap (over (λ ls. open_levels ss ∷ open_levels ss ∷ ls))
    (complete-names more (sym.WantClose ∷ ss) (tok.Close close ∷ ks) refl)

pub complete-main : (w : g.Main) (ss : Stack) (ks : List Token) → Leaves main_step ks
    → trace (sym.MainTail ∷ ss) (g.of_main w ks) ≡ over (nest_main (open_levels ss) w) (trace ss ks)
complete-main g.not_main ss ks q = gives_way sym.MainTail ss ks q refl
complete-main (g.is_main at) ss ks q = refl

pub complete-locals : (ls : g.Locals) (ss : Stack) (ks : List Token) → Leaves locals_step ks
    → trace (sym.Locals ∷ ss) (g.of_locals ls ks) ≡ over (nest_locals (open_levels ss) ls) (trace ss ks)
complete-locals g.no_locals ss ks q = gives_way sym.Locals ss ks q refl
complete-locals (g.more_locals (g.local int at name more end) rest) ss ks q =
    let m : ℕ = open_levels ss in
    ap (over (λ ls. m ∷ m ∷ ls))
    (complete-names more (sym.WantSemicolon ∷ sym.Locals ∷ ss) (tok.Semicolon end ∷ g.of_locals rest ks) refl
    ∙ ap (over (λ ls. nest_names m more (m ∷ ls))) (complete-locals rest ss ks q))
