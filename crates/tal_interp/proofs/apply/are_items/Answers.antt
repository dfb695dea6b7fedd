use Rattle.std.proofs.Common.{◌≡◌, ◌<◌, ◌-◌, ◌+◌, suc, false, [], ◌∷◌, Some, ap, sym, subst, ◌∙◌, arith, slice_set}
use Rattle.std.proofs.Common.{slice_index_or, true, length}
use Rattle.gd_words.specs.Members.{is_among}
use Rattle.process_semantics.specs.Image.{items_in}
use Rattle.tal_interp.specs.Images.{listed_item}
use Rattle.tal_interp.proofs.ListedItems.{Flags, flags-none, flags-more, item-turn}
use Rattle.tal_interp.proofs.apply.are_items.Goals as goal

pub loop-turn-init : goal.loop-turn-init
loop-turn-init c =
    let all : c.args.count - 0 ≡ c.args.count = omega arith in
    record { names = []; flags = flags-none; read = ap (λ k. items_in c.args.table.now k [] [] c.args.words.now) all }

pub loop-turn-preserved : goal.loop-turn-preserved
loop-turn-preserved c =
    let size : c.args.count - c.loop-turn._turn ≡ suc (c.args.count - (c.loop-turn._turn + 1)) =
    omega (arith, c.loop-turn-test.true) in
    let is : listed_item c.args.table.now.items c.loop-turn.left.now
    ≡ Some ((c.in-Some.number, c.in-Some._found.now), c.in-Some.rest.now) =
    ap (λ items. listed_item items c.loop-turn.left.now) (sym c.items.ensures) ∙ c.in-Some.ensures.read in
    let few : c.in-Some.number < 64 = omega (arith, c.in-Some.ensures.there, c.requires, ap length c.items.ensures) in
    let new : is_among c.in-Some.number c.loop-turn.invariant.names ≡ false =
    sym (c.loop-turn.invariant.flags.each c.in-Some.number few)
    ∙ subst (λ place. slice_index_or c.loop-turn.named place false ≡ false) c.from-number.ensures
    c.if-named-number.false in
    record {
      names = c.in-Some.number ∷ c.loop-turn.invariant.names;
      flags = subst (λ place. Flags (slice_set c.loop-turn.named place true)
          (c.in-Some.number ∷ c.loop-turn.invariant.names)) (sym c.from-number.ensures)
          (flags-more c.loop-turn.named c.loop-turn.invariant.names c.in-Some.number few c.loop-turn.invariant.flags);
      read = sym (item-turn c.args.table.now c.loop-turn.invariant.names [] _ _ c.loop-turn.left.now c.in-Some.number
          c.in-Some._found.now
          c.in-Some.rest.now size is new) ∙ c.loop-turn.invariant.read;
    }
