use Rattle.std.proofs.Common.{[], ◌∷◌, inl, refl}
use Rattle.world_semantics.specs.declared.role.Role.TheVariants.{Acting}
use Rattle.world_semantics.specs.declared.which.Which.TheVariants.{First, Second}
use Rattle.world_semantics.specs.Rules.{blank_copy}
use Rattle.world_semantics.specs.World.{Pair}
use Rattle.awaited_requests.specs.Examples.{disc_pair, first_request, letter_to}
use Rattle.letter_laws.proofs.guards.early_requests_are_told_apart.Goals as goal

pub returns-clause-second : goal.returns-clause-second
returns-clause-second c = λ early.
    let down = (early.sent (letter_to 1) first_request disc_pair Second (inl refl) refl refl refl refl).stopped
    disc_pair refl in cc

pub returns-clause-blank : goal.returns-clause-blank
returns-clause-blank c = λ early.
    let pair : Pair = record disc_pair {
      first = blank_copy 0 1 disc_pair.first.core;
      second = record disc_pair.second { role = Acting };
      led = Second;
    } in
    let down = (early.sent (letter_to 0) first_request pair First (inl refl) refl refl refl refl).stopped pair refl in
    cc

pub returns-clause-waits : goal.returns-clause-waits
returns-clause-waits c = λ early.
    let down = (early.waiting 0 (record disc_pair
    { second = record disc_pair.second { waiting = first_request ∷ [] } }) Second first_request refl refl
    (inl refl)).stopped
    (record disc_pair { second = record disc_pair.second { waiting = first_request ∷ [] } }) refl in cc
