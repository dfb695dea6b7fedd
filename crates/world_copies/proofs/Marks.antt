-- What a mark sends, step by step: what takes over tells again, and then what the node sends again.
use Rattle.std.proofs.Common.{◌≡◌, ℕ, List, [], ◌++◌, ap, ◌∙◌}
use Rattle.std.specs.List.{flat_map}
use Rattle.world_semantics.specs.Rules.{told_at_down}
use Rattle.world_semantics.specs.Messages.{Sending}
use Rattle.process_copies.specs.computed_changes.specs.Stopped.{world_at_down}
use Rattle.process_copies.specs.letters.specs.Again.{sent_again}
use Rattle.world_copies.specs.SiteWorld.{SiteWorld}
use Rattle.world_copies.proofs.Reroutes.{again-same, with_takers}

-- it is sent again by the routes after copies took over, which are those before
pub marked-sends : (s took : SiteWorld) (node processor : ℕ) (none told all : List Sending) → none ≡ []
    → took ≡ record s { world = with_takers node processor s.world }
    → told ≡ none ++ flat_map (told_at_down node processor) s.world.processes
    → all ≡ told ++ sent_again took.site took.world took.world node processor
    → all ≡ (world_at_down node processor s.world).sendings
    ++ sent_again s.site s.world (world_at_down node processor s.world).world node processor
marked-sends s took node processor none told all nothing takes tells sends =
    let first = flat_map (told_at_down node processor) s.world.processes in
    sends
    ∙ ap (λ told. told ++ sent_again took.site took.world took.world node processor)
    (tells ∙ ap (λ none. none ++ first) nothing)
    ∙ ap (λ (s : SiteWorld). first ++ sent_again s.site s.world s.world node processor) takes
    ∙ ap (λ again. first ++ again) (again-same s.site s.world node processor)
