-- A copy that acts goes on from the newest checkpoint, deed by deed.
use Rattle.std.proofs.Common.{◌≡◌, inl, inr, ℕ, false, List, [], ◌∷◌, map, is_some, Option, Some, None, refl, sym, ap}
use Rattle.std.proofs.Common.{◌∙◌, option_map}
use Rattle.std.proofs.lemmas.Option.{slice_get-map}
use Rattle.tal_tree.specs.declared.site.OpenerSpec.{OpenerSpec}
use Rattle.checkpoint_image.specs.declared.message.ImageMessage.{ImageMessage}
use Rattle.checkpoint_image.specs.declared.receive.ReceiveBlock.{ReceiveBlock}
use Rattle.receive_changes.specs.Later.{ComesTo, Taken, Answered}
use Rattle.world_semantics.specs.Core.{Advances, Core, Deed, acts, answers, asks, gets, goes, checkpoints, takes}
use Rattle.world_semantics.proofs.Hands.{Stands, take-hand}
use Rattle.checkpoint_chains.specs.Chains.{GoesOnFrom}

none-is : (hand : Option ℕ) → is_some hand ≡ false → hand ≡ None
none-is None is = refl
none-is (Some place) is = absurd (cc)

-- what comes of a table goes on to come of it
pub deed-comes : (openers : List OpenerSpec) (core next : Core) (deed : Deed) → Advances openers core deed next
    → Stands core.state (is_some core.receive.in_hand) → (base : ReceiveBlock)
    → ComesTo (map (λ (opener : OpenerSpec). opener.depth) openers) base core.receive
    → ComesTo (map (λ (opener : OpenerSpec). opener.depth) openers) base next.receive
deed-comes openers core next deed (goes at) stands base came = came
deed-comes openers core next deed (checkpoints at) stands base came = came
deed-comes openers core next deed (takes {place = place} block at there) stands base came =
    Taken core.receive place block came
    (none-is core.receive.in_hand (sym stands.hand ∙ take-hand core.state stands.free at)) there
deed-comes openers core next deed (asks at file words) stands base came = came
deed-comes openers core next deed (gets at file) stands base came = came
deed-comes openers core next deed (answers {place = place} {words = words} opener block at held of there is) stands base
    came =
    Answered core.receive place block opener.depth words came held there
    (slice_get-map (λ (one : OpenerSpec). one.depth) openers place
    ∙ ap (option_map (λ (one : OpenerSpec). one.depth)) of)
deed-comes openers core next deed (acts at call) stands base came = came

pub goes-on : (depths : List ℕ) (sent : List ImageMessage) (era number : ℕ) (table next : ReceiveBlock)
    → ((base : ReceiveBlock) → ComesTo depths base table → ComesTo depths base next)
    → GoesOnFrom depths sent era number table → GoesOnFrom depths sent era number next
goes-on depths [] era number table next more is = is
goes-on depths (message ∷ older) era number table next more (inl on) =
    inl (on.0, on.1, more message.image.receive on.2)
goes-on depths (message ∷ older) era number table next more (inr on) = inr on
