-- One more operator before the others of a chain.
use Rattle.std.proofs.Common.{◌≡◌, List, [], ◌∷◌, ◌++◌, refl, ap, sym, ◌∙◌}
use Rattle.tal_tree.specs.declared.expression.Expr.{Expr, Two}
use Rattle.tal_tree.specs.declared.expression.Cond.{Cond}
use Rattle.tal_values.specs.declared.chain.Tail.{Tail}
use Rattle.tal_values.specs.declared.chain.Link.{Link}
use Rattle.tal_values.specs.Chain.{with_tails, joined, with_links}

pub chained-push : (first : Expr) (tails : List Tail) (tail : Tail)
    → with_tails first (tails ++ tail ∷ []) ≡ with_tails (Two tail.op first tail.right.now) tails
chained-push first [] tail = refl
chained-push first (outer ∷ tails) tail =
    ap (λ inner. Two outer.op inner outer.right.now) (chained-push first tails tail)

-- from an expression to its left operand, whose operator joins the others
pub chained_down : {inner left right expr whole : Expr} {items : List Tail} (tails : List Tail) (tail : Tail)
    → items ≡ tails ++ tail ∷ [] → inner ≡ left → tail.right.now ≡ right → expr ≡ Two tail.op left right
    → with_tails expr tails ≡ whole → with_tails inner items ≡ whole
chained_down {inner} {left} {right} {expr} {whole} {items} tails tail pushed at_left at_right is so_far =
    (λ i. with_tails (at_left i) (pushed i)) ∙ chained-push left tails tail
    ∙ (λ i. with_tails (Two tail.op left (at_right i)) tails) ∙ (λ i. with_tails (sym is i) tails) ∙ so_far

pub linked-push : (first : Cond) (links : List Link) (link : Link)
    → with_links first (links ++ link ∷ []) ≡ with_links (joined link.junction first link.right.now) links
linked-push first [] link = refl
linked-push first (outer ∷ links) link =
    ap (λ inner. joined outer.junction inner outer.right.now) (linked-push first links link)

-- from a condition to its left side, whose AND or OR joins the others
pub linked_down : {inner left right cond whole : Cond} {items : List Link} (links : List Link) (link : Link)
    → items ≡ links ++ link ∷ [] → inner ≡ left → link.right.now ≡ right → cond ≡ joined link.junction left right
    → with_links cond links ≡ whole → with_links inner items ≡ whole
linked_down {inner} {left} {right} {cond} {whole} {items} links link pushed at_left at_right is so_far =
    (λ i. with_links (at_left i) (pushed i)) ∙ linked-push left links link
    ∙ (λ i. with_links (joined link.junction left (at_right i)) links) ∙ (λ i. with_links (sym is i) links) ∙ so_far
