use Rattle.std.proofs.Common.{rules, ◌≡◌, ◌≤◌, ◌++◌, ℕ, List, [], take, drop, map, length, ◌∙◌, arith, sym, ap}
use Rattle.std.proofs.lemmas.List.Edits.{map_over_more}
use Rattle.std.proofs.lemmas.List.{take_all, drop_all, append-nil}
use Rattle.node_links.specs.Routing.{route_after_down}
use Rattle.node_links.proofs.routes.Routes.down.Goals as goal

-- when the loop has gone over all items
all_over : {A : Type 0} (f : A → A) (xs ys : List A) (k size : ℕ) → length xs ≤ k → length ys ≡ length xs
    → size ≡ length xs → ys ≡ map f (take k xs) ++ drop k xs
    → take size (ys ++ drop (length ys) xs) ≡ map f xs
all_over f xs ys k size past same sized is =
    let none : drop (length ys) xs ≡ [] = drop_all (length ys) xs (omega (arith, same)) in
    let over : map f (take k xs) ++ drop k xs ≡ map f xs =
    rw (take_all k xs past, drop_all k xs past) (append-nil (map f xs)) in
    rw (none, append-nil ys, take_all size ys (omega (arith, same, sized))) (is ∙ over)

pub loop-route-preserved : goal.loop-route-preserved
loop-route-preserved c = search (rules, map_over_more (route_after_down c.args.processor))

pub returns : goal.returns
returns c =
    let given = c.deref_mut-route-items.ensures in
    ap (λ items. take c.self.inside.routes.len
    (c.loop-route.route-items ++ drop (length c.loop-route.route-items) items)) (sym given.value)
    ∙ all_over (route_after_down c.args.processor) c.deref_mut-route-items.result.now c.loop-route.route-items
    c.loop-route.route-index c.self.inside.routes.len c.loop-route-test.false c.loop-route.auto.route-items
    (sym given.len) c.loop-route.invariant
    ∙ ap (map (route_after_down c.args.processor)) (given.value ∙ c.self.view_is)
