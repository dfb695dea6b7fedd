-- What a site has, found by its place.
use Rattle.std.specs.Option.{option_map}
use Rattle.std.proofs.Common.{◌≡◌, ◌<◌, ◌≤◌, ◌⊎◌, inl, inr, ℕ, ℤ, Bool, true, false, ◌&&◌, nat_lt, List, Option}
use Rattle.std.proofs.Common.{Some, None, get_or, is_some, length, slice_get, refl, ap, sym, ◌∙◌, arith}
use Rattle.std.proofs.lemmas.Bool.{ltb-true, lt-ltb}
use Rattle.std.proofs.lemmas.Option.{slice_get_cases}
use Rattle.tal_tree.specs.declared.site.OpenerSpec.{OpenerSpec}
use Rattle.tal_tree.specs.declared.site.Site.{Site}
use Rattle.node.specs.plain_semantics.specs.Openers.{openers_of}
use Rattle.node.specs.world_semantics.specs.Messages.{Message, Asking}
use Rattle.node.specs.packet_wires.specs.message_layout.specs.Messages.{NodeMessage, Carrying, has_process, is_known}
use Rattle.node.specs.packet_wires.specs.message_layout.specs.Reading.{node_message_in}
use Rattle.node.specs.packet_wires.specs.message_layout.proofs.Exact.{read-written}
use Rattle.open_links.specs.world_copies.specs.Room.{NamesItsOpener}
use Rattle.site_machine.specs.Needs.{IsReadWithin}

pub found_there : (openers : List OpenerSpec) (place : ℕ)
    → is_some (option_map (λ (one : OpenerSpec). one.who) (slice_get openers place)) ≡ nat_lt place (length openers)
found_there openers place = by (slice_get_cases openers place).1
  where
    past : (b : Bool) → length openers ≤ place → nat_lt place (length openers) ≡ b → b ≡ false
    past false far is = refl
    past true far is = absurd (omega (arith, far, ltb-true place (length openers) is))

    by : ((one : OpenerSpec) × (place < length openers) × (slice_get openers place ≡ Some one)
        × (get_or openers place one ≡ one)) ⊎ ((length openers ≤ place) × (slice_get openers place ≡ None))
        → is_some (option_map (λ (one : OpenerSpec). one.who) (slice_get openers place))
        ≡ nat_lt place (length openers)
    by (inl there) =
        ap (λ (found : Option OpenerSpec). is_some (option_map (λ (one : OpenerSpec). one.who) found)) there.2
        ∙ sym (lt-ltb place (length openers) there.1)
    by (inr none) =
        ap (λ (found : Option OpenerSpec). is_some (option_map (λ (one : OpenerSpec). one.who) found)) none.1
        ∙ sym (past (nat_lt place (length openers)) none.0 refl)

right : (a b : Bool) → (a && b) ≡ true → b ≡ true
right true b is = is
right false b is = absurd cc

-- a request that fits a site names an opener that is there
pub names-opener : (site : Site) (message : Message) → is_known site (Carrying message) ≡ true
    → NamesItsOpener site message
names-opener site message known request is =
    let asked : is_known site (Carrying (Asking request)) ≡ true =
    ap (λ (m : Message). is_known site (Carrying m)) (sym is) ∙ known in
    ltb-true request.opener (length (openers_of site request.process))
    (right (has_process site request.process) (nat_lt request.opener (length (openers_of site request.process))) asked)

-- what is read of words keeps to the layout
pub read-within : (words : List ℤ) (found : Option NodeMessage) → found ≡ node_message_in words → IsReadWithin found
read-within words None is = tt
read-within words (Some message) is = (read-written words message (sym is)).1
