use Rattle.std.proofs.Common.{◌≡◌, ◌∙◌, ◌++◌, List, Option, Some, None, OnOk, append-nil, ap, length, slice_get, subst}
use Rattle.std.proofs.Common.{refl, sym}
use Rattle.std.proofs.lemmas.Option.{slice_get_past, slice_get_read}
use Rattle.gd_words.specs.declared.message.Request.{Request}
use Rattle.world_copies.specs.world_semantics.specs.World.{Terminal}
use Rattle.open_links.specs.Parts.{awaited_by_terminal}
use Rattle.open_links.proofs.telling.add_awaited_by.Goals as goal

pub returns-in-None : goal.returns-in-None
returns-in-None c =
    let none : slice_get c.args.world.now.world.terminals c.args.number ≡ None =
    ap (λ (terminals : List Terminal). slice_get terminals c.args.number) (sym c.terminals.ensures)
    ∙ slice_get_past c.terminals.result.now c.args.number c.in-None.ensures.lookup.3 in
    sym (append-nil c.args.requests.now)
    ∙ ap (λ (found : Option Terminal).
    c.args.requests.now ++ awaited_by_terminal c.args.world.now.site c.args.number found)
    (sym none)

pub returns-in-Some : goal.returns-in-Some
returns-in-Some c =
    let there : slice_get c.args.world.now.world.terminals c.args.number ≡ Some c.in-Some.terminal.now =
    ap (λ (terminals : List Terminal). slice_get terminals c.args.number) (sym c.terminals.ensures)
    ∙ slice_get_read c.terminals.result.now (length c.terminals.result.now) c.args.number c.in-Some.terminal.now refl
    c.in-Some.ensures.lookup.3.0 c.in-Some.ensures.lookup.1 in
    subst (λ (those : List Request). OnOk c.add_request.result
    (c.add_request.new.requests ≡ c.args.requests.now ++ those))
    (c.awaited_from.ensures ∙ ap (awaited_by_terminal c.args.world.now.site c.args.number) (sym there))
    c.add_request.ensures
