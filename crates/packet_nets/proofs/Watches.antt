-- Watches keep their places.
use Rattle.std.proofs.Common.{◌≡◌, ◌≤◌, ℕ, zero, suc, Bool, true, false, if◌then◌else◌, List, [], ◌∷◌, length, map}
use Rattle.std.proofs.Common.{Option, Some, None, slice_get, slice_set, refl, ap, sym, subst, ◌∙◌}
use Rattle.std.specs.Option.{option_map, unwrap_or}
use Rattle.world_semantics.proofs.Lists.{Changed, is_new, is_same, changed, mapped}
use Rattle.link_control.specs.Ends.{End}
use Rattle.alive_regroup.specs.declared.neighbour.Neighbour.{Neighbour}
use Rattle.alive_regroup.specs.declared.neighbour.Neighbour.TheVariants.{Absent}
use Rattle.alive_regroup.specs.Watching as watching
use Rattle.alive_regroup.specs.Watching.{Watching, changed_at, after_tick, after_check, does_check}
use Rattle.packet_wires.specs.Nodes.{Node, with_end}
use Rattle.packet_wires.specs.Wires.{Midst, learns, watch_changed, at_node}
use Rattle.packet_nets.specs.Tied.{IsWatch, AreWatches}

pub size-set : {A : Type 0} (xs : List A) (k : ℕ) (x : A) → length (slice_set xs k x) ≡ length xs
size-set [] zero x = refl
size-set [] (suc k) x = refl
size-set (y ∷ xs) zero x = refl
size-set (y ∷ xs) (suc k) x = ap suc (size-set xs k x)

pub size-map : {A B : Type 0} (f : A → B) (xs : List A) → length (map f xs) ≡ length xs
size-map f [] = refl
size-map f (x ∷ xs) = ap suc (size-map f xs)

-- a watch changes at one place, and what is absent stays absent
pub changed-watch : {processors x : ℕ} {watch : Watching} (k : ℕ) (change : Neighbour → Neighbour)
    → change Absent ≡ Absent → IsWatch processors x watch
    → IsWatch processors x (changed_at k change watch)
changed-watch {processors = processors} {x = x} {watch = watch} k change keeps is =
    by (slice_get watch.neighbours k) refl
  where
    by : (one : Option Neighbour) → slice_get watch.neighbours k ≡ one
        → IsWatch processors x (record watch {
          neighbours =
              unwrap_or (option_map (λ one. slice_set watch.neighbours k (change one)) one) watch.neighbours;
        })
    by None e = record { me = is.me; size = is.size; past = is.past }
    by (Some was) e = record {
      me = is.me;
      size = size-set watch.neighbours k (change was) ∙ is.size;
      past = λ j one there far. of j one far (changed watch.neighbours k (change was) j one there);
    }
      where
        of : (j : ℕ) (one : Neighbour) → processors ≤ j → Changed watch.neighbours k (change was) j one → one ≡ Absent
        of j one far (is_new same new) =
            new ∙ ap change (is.past k was e (subst (λ c. processors ≤ c) (sym same) far)) ∙ keeps
        of j one far (is_same other there) = is.past j one there far

pub ticked-watch : {processors x : ℕ} {watch : Watching} → IsWatch processors x watch
    → IsWatch processors x (after_tick watch)
ticked-watch {processors = processors} {x = x} {watch = watch} is = by (does_check watch)
  where
    by : (test : Bool) → IsWatch processors x (if test then after_check watch else record watch { checks = true })
    by false = record { me = is.me; size = is.size; past = is.past }
    by true = record {
      me = is.me;
      size = size-map watching.neighbour_after_check watch.neighbours ∙ is.size;
      past = λ k one there far. let was = mapped watching.neighbour_after_check watch.neighbours k one there in was.2
          ∙ ap watching.neighbour_after_check (is.past k was.0 was.1 far);
    }

-- watches don't change with an end
pub ends-watches : {processors : ℕ} (nodes : List Node) (x y : ℕ) (node : Node) (e : End)
    → slice_get nodes x ≡ Some node → AreWatches processors nodes
    → AreWatches processors (with_end x y node e nodes)
ends-watches {processors = processors} nodes x y node e at all =
    λ a one there. of a one (changed nodes x (record node { ends = slice_set node.ends y e }) a one there)
  where
    of : (a : ℕ) (one : Node) → Changed nodes x (record node { ends = slice_set node.ends y e }) a one
        → IsWatch processors a one.watch
    of a one (is_new same new) =
        subst (λ (w : Watching). IsWatch processors a w) (sym (ap (λ (m : Node). m.watch) new))
        (subst (λ c. IsWatch processors c node.watch) same (all x node at))
    of a one (is_same other there) = all a one there

pub watched-watches : {processors : ℕ} (midst : Midst) (x : ℕ) (change : Watching → Watching)
    → ((watch : Watching) → IsWatch processors x watch → IsWatch processors x (change watch))
    → AreWatches processors midst.nodes
    → AreWatches processors (learns x change midst).nodes
watched-watches {processors = processors} midst x change keeps all = by (slice_get midst.nodes x) refl
  where
    by : (one : Option Node) → slice_get midst.nodes x ≡ one
        → AreWatches processors (at_node (watch_changed x change) one midst).nodes
    by None e = all
    by (Some node) e =
        λ a one there. of a one (changed midst.nodes x (record node { watch = change node.watch }) a one there)
      where
        of : (a : ℕ) (one : Node) → Changed midst.nodes x (record node { watch = change node.watch }) a one
            → IsWatch processors a one.watch
        of a one (is_new same new) =
            subst (λ (w : Watching). IsWatch processors a w) (sym (ap (λ (m : Node). m.watch) new))
            (subst (λ c. IsWatch processors c (change node.watch)) same (keeps node.watch (all x node e)))
        of a one (is_same other there) = all a one there
