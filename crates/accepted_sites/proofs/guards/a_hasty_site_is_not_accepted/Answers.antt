use Rattle.std.proofs.Common.{◌≡◌, List, [], ◌∷◌, Option, Some, None, option_map, refl, subst, arith}
use Rattle.std.specs.Int.{int_wrap}
use denote.Hole.Carrier.{shown, out}
use Rattle.tal_tree.specs.declared.statement.What.{out-What}
use Rattle.tal_tree.specs.declared.statement.What.TheBlock.{shown-the_row-Statement-0}
use Rattle.tal_tree.specs.declared.act.Act.{Act}
use Rattle.tal_tree.specs.declared.site.Site.{Site}
use Rattle.schedule.specs.declared.event.Event.{Event}
use Rattle.plain_semantics.specs.Machine.{IsPossible}
use Rattle.world_semantics.specs.Examples.{echo_site, ahead_events, ahead_acts}
use Rattle.world_semantics.specs.Follows.{IsRun}
use Rattle.world_semantics.specs.Kept.{acts_of}
use Rattle.world_semantics.specs.declared.which.Which.TheVariants.{First, Second}
use Rattle.world_semantics.specs.World.{World, boot}
use Rattle.world_semantics.proofs.Lists.{some-same}
use Rattle.world_semantics.proofs.Moves.{Move, Runs, Enters, Brings, Prints, Fails, Ticks, Played, played}
use Rattle.world_semantics.proofs.Played.{ahead-impossible}
use Rattle.takeover_laws.proofs.Kept.{kept-possible}
use Rattle.accepted_sites.specs.Premises.{IsAcceptedSite}
use Rattle.accepted_sites.proofs.Accepted.{accepted-fit}
use Rattle.accepted_sites.proofs.Placed.{echo-placed}
use Rattle.accepted_sites.proofs.guards.a_hasty_site_is_not_accepted.Goals as goal

kept-by : {site : Site} {events : List Event} (acts : List Act) (p : Option (Played site (boot site) events))
    → option_map (λ (run : Played site (boot site) events). acts_of run.world) p ≡ Some acts
    → (w : World) × IsRun site events w × (acts_of w ≡ acts)
kept-by acts None e = absurd (cc)
kept-by acts (Some run) e = (run.world, run.leads, some-same e)

abbrev moves : List Move
moves =
    Enters 0 ∷ Runs 0 ∷ Runs 0 ∷ Runs 0 ∷ Brings 0 First ∷ Runs 0 ∷ Runs 0 ∷ Prints 0 0 ∷ Enters 0 ∷ Fails 0
    ∷ Ticks 1 0 ∷ Brings 0 Second ∷ []

-- the acts of the request that waits ahead are kept, with none held
run : (w : World) × IsRun echo_site ahead_events w × (acts_of w ≡ ahead_acts)
unfolding out-What shown-the_row-Statement-0 shown out int_wrap
run = kept-by ahead_acts (played echo_site moves (boot echo_site)) refl

refused : IsAcceptedSite echo_site → ⊥
refused accepted = ahead-impossible (subst (IsPossible echo_site) run.2
    (kept-possible echo_site (accepted-fit echo_site accepted echo-placed) ahead_events run.0 (omega arith) run.1))

pub returns : goal.returns
returns c = record { run = run; impossible = ahead-impossible; refused = refused }
