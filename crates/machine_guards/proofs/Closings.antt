-- The kept acts after all copies closed, one behind the other.
use Rattle.std.proofs.Common.{◌≡◌, ◌∙◌, List, [], ◌∷◌, ◌++◌, reverse, sym, ap, append_assoc, arith}
use Rattle.std.specs.List.{flat_map}
use Rattle.std.proofs.lemmas.List.{append-nil, reverse-append}
use Rattle.tal_tree.specs.declared.act.Act.{Act}
use Rattle.world_semantics.specs.World.{Pair}
use Rattle.machine_guards.specs.Held.{held_by}
use Rattle.world_semantics.specs.Shares.{closed_by, closed_by_all}

closes-one : (kept : List Act) (pair : Pair) → reverse (closed_by kept pair) ≡ reverse kept ++ held_by pair
closes-one kept pair =
    reverse-append pair.second.held (pair.first.held ++ kept)
    ∙ ap (λ (acts : List Act). acts ++ reverse pair.second.held) (reverse-append pair.first.held kept)
    ∙ grind (arith, append_assoc)

pub closes-all : (kept : List Act) (pairs : List Pair)
    → reverse (closed_by_all kept pairs) ≡ reverse kept ++ flat_map held_by pairs
closes-all kept [] = sym (append-nil (reverse kept))
closes-all kept (pair ∷ pairs) =
    closes-all (closed_by kept pair) pairs
    ∙ ap (λ (acts : List Act). acts ++ flat_map held_by pairs) (closes-one kept pair)
    ∙ grind (arith, append_assoc)
