-- The worked examples, played.
use Rattle.std.proofs.Common.{◌≡◌, pos, List, [], ◌∷◌, map, Option, Some, None, reverse, refl, ap}
use Rattle.std.specs.Int.{int_wrap}
use denote.Hole.Carrier.{shown, out}
use Rattle.checkpoint_image.specs.tal_tree.specs.declared.statement.What.{out-What}
use Rattle.checkpoint_image.specs.tal_tree.specs.declared.statement.What.TheBlock.{shown-the_row-Statement-0}
use Rattle.checkpoint_image.specs.tal_tree.specs.declared.act.Act.{Act}
use Rattle.checkpoint_image.specs.tal_tree.specs.declared.act.Shown.{Shown}
use Rattle.checkpoint_image.specs.tal_tree.specs.declared.site.Site.{Site}
use Rattle.schedule.specs.declared.event.Event.{Event}
use Rattle.plain_semantics.specs.Machine.{IsPossible, shown_by}
use Rattle.checkpoint_image.specs.declared.receive.RequestStanding.{RequestStanding}
use Rattle.checkpoint_image.specs.declared.receive.RequestStanding.TheVariants.{Ahead}
use Rattle.world_semantics.specs.declared.role.Role.{Role}
use Rattle.world_semantics.specs.declared.role.Role.TheVariants.{Acting}
use Rattle.world_semantics.specs.World.{Pair, World, First, Second, boot}
use Rattle.world_semantics.specs.Shares.{closed}
use Rattle.world_semantics.specs.Examples.{adder_for, disc_site, takeover_events, takeover_acts, takeover_shown}
use Rattle.world_semantics.specs.Examples.{lost_take_events, lost_take_acts, lost_take_shown, disc_events, disc_acts}
use Rattle.world_semantics.specs.Examples.{disc_shown, bank_site, repeat_events, repeat_acts, repeat_shown, echo_site}
use Rattle.world_semantics.specs.Examples.{ahead_events, ahead_acts, standings, CanKeep, CanLeave, reload_events}
use Rattle.world_semantics.specs.Examples.{renewal_events}
use Rattle.world_semantics.proofs.Lists.{some-same}
use Rattle.world_semantics.proofs.Moves.{Move, Runs, Enters, Brings, Prints, Gets, Applies, Tells, Fails, Ticks, Played}
use Rattle.world_semantics.proofs.Moves.{played, Reloads}

-- what a run keeps and shows
record Seen : Type 0 where
  pub acts : List Act
  pub said : List Shown

abbrev seen : {site : Site} {w : World} {events : List Event} → Option (Played site w events) → Option Seen
seen None = None
seen (Some p) = Some (record { acts = closed p.world; said = p.world.shown })

can-keep : {site : Site} {events : List Event} (acts : List Act) (said : List Shown)
    (p : Option (Played site (boot site) events))
    → seen p ≡ Some (record { acts = acts; said = said }) → CanKeep site events acts said
can-keep acts said None e = absurd (cc)
can-keep acts said (Some p) e =
    let s = some-same e in (p.world, p.leads, ap (λ (x : Seen). x.acts) s, ap (λ (x : Seen). x.said) s)

abbrev takeover_moves : List Move
takeover_moves =
    Enters 0 ∷ Runs 0 ∷ Runs 0 ∷ Runs 0 ∷ Brings 0 Second ∷ Brings 0 First ∷ Runs 0 ∷ Runs 0 ∷ Runs 0 ∷ Runs 0
    ∷ Applies 0 0 Second ∷ Tells 0 0 First
    ∷ Runs 0 ∷ Runs 0 ∷ Fails 0 ∷ Ticks 1 0 ∷ Ticks 16 0 ∷ Runs 0 ∷ Brings 0 Second ∷ Prints 0 0 ∷ Runs 0 ∷ []

pub takeover : CanKeep (adder_for (pos 5 ∷ [])) takeover_events takeover_acts takeover_shown
unfolding out-What shown-the_row-Statement-0 shown out int_wrap
takeover = can-keep takeover_acts takeover_shown
    (played (adder_for (pos 5 ∷ [])) takeover_moves (boot (adder_for (pos 5 ∷ [])))) refl

abbrev reload_moves : List Move
reload_moves =
    Enters 0 ∷ Runs 0 ∷ Runs 0 ∷ Runs 0 ∷ Brings 0 Second ∷ Brings 0 First ∷ Runs 0 ∷ Runs 0 ∷ Runs 0 ∷ Runs 0
    ∷ Applies 0 0 Second ∷ Tells 0 0 First
    ∷ Runs 0 ∷ Runs 0 ∷ Fails 0 ∷ Ticks 1 0 ∷ Ticks 16 0 ∷ Reloads 0 ∷ Runs 0 ∷ Applies 0 0 First ∷ Tells 0 0 Second
    ∷ Runs 0 ∷ Fails 1 ∷ Ticks 0 1 ∷ Ticks 16 1
    ∷ Runs 0 ∷ Prints 0 0 ∷ Runs 0 ∷ []

pub reload : CanKeep (adder_for (pos 5 ∷ [])) reload_events takeover_acts takeover_shown
unfolding out-What shown-the_row-Statement-0 shown out int_wrap
reload = can-keep takeover_acts takeover_shown
    (played (adder_for (pos 5 ∷ [])) reload_moves (boot (adder_for (pos 5 ∷ [])))) refl

abbrev renewal_moves : List Move
renewal_moves =
    Enters 0 ∷ Runs 0 ∷ Runs 0 ∷ Runs 0 ∷ Brings 0 First ∷ Runs 0 ∷ Fails 1 ∷ Ticks 0 1 ∷ Ticks 16 1 ∷ Reloads 1
    ∷ Runs 0 ∷ Applies 0 0 Second ∷ Tells 0 0 First ∷ Runs 0
    ∷ Runs 0 ∷ Runs 0 ∷ Runs 0 ∷ Applies 0 0 Second ∷ Tells 0 0 First ∷ Runs 0 ∷ Fails 0 ∷ Ticks 1 0 ∷ Ticks 16 0
    ∷ Runs 0 ∷ Prints 0 0 ∷ Runs 0 ∷ []

pub renewal : CanKeep (adder_for (pos 5 ∷ [])) renewal_events takeover_acts takeover_shown
unfolding out-What shown-the_row-Statement-0 shown out int_wrap
renewal = can-keep takeover_acts takeover_shown
    (played (adder_for (pos 5 ∷ [])) renewal_moves (boot (adder_for (pos 5 ∷ [])))) refl

abbrev lost_take_moves : List Move
lost_take_moves =
    Enters 0 ∷ Enters 1 ∷ Runs 0 ∷ Runs 0 ∷ Runs 0 ∷ Brings 1 First ∷ Runs 0 ∷ Runs 0 ∷ Fails 0 ∷ Ticks 1 0
    ∷ Brings 0 Second ∷ Runs 0 ∷ Runs 0 ∷ Runs 0
    ∷ Runs 0 ∷ Runs 0 ∷ Runs 0 ∷ Runs 0 ∷ Runs 0 ∷ Prints 0 1 ∷ []

pub lost_take : CanKeep (adder_for (pos 5 ∷ pos 7 ∷ [])) lost_take_events lost_take_acts lost_take_shown
unfolding out-What shown-the_row-Statement-0 shown out int_wrap
lost_take =
    can-keep lost_take_acts lost_take_shown
    (played (adder_for (pos 5 ∷ pos 7 ∷ [])) lost_take_moves (boot (adder_for (pos 5 ∷ pos 7 ∷ [])))) refl

abbrev disc_moves : List Move
disc_moves =
    Enters 0 ∷ Brings 0 First ∷ Runs 0 ∷ Runs 0 ∷ Applies 0 0 Second ∷ Tells 0 0 First ∷ Runs 0 ∷ Runs 0 ∷ Fails 0
    ∷ Ticks 1 0 ∷ Runs 0 ∷ Runs 0
    ∷ Prints 0 0 ∷ []

pub disc_finds : CanKeep disc_site disc_events disc_acts disc_shown
unfolding int_wrap
disc_finds = can-keep disc_acts disc_shown (played disc_site disc_moves (boot disc_site)) refl

abbrev repeat_moves : List Move
repeat_moves =
    Enters 0 ∷ Runs 1 ∷ Runs 1 ∷ Runs 1 ∷ Runs 1 ∷ Brings 0 First ∷ Runs 1 ∷ Runs 1 ∷ Runs 1 ∷ Applies 1 0 Second
    ∷ Tells 1 0 First ∷ Runs 1 ∷ Runs 1 ∷ Runs 1
    ∷ Runs 1 ∷ Runs 1 ∷ Brings 0 First ∷ Runs 0 ∷ Runs 0 ∷ Applies 0 0 Second ∷ Tells 0 0 First ∷ Runs 0 ∷ Runs 0
    ∷ Runs 0 ∷ Fails 0 ∷ Ticks 1 0 ∷ Runs 1
    ∷ Runs 1 ∷ Runs 1 ∷ Runs 1 ∷ Brings 0 First ∷ Gets 1 0 Second ∷ Runs 1 ∷ Runs 1 ∷ Prints 0 0 ∷ Runs 1 ∷ []

pub repeated : CanKeep bank_site repeat_events repeat_acts repeat_shown
unfolding out-What shown-the_row-Statement-0 shown out int_wrap
repeated = can-keep repeat_acts repeat_shown (played bank_site repeat_moves (boot bank_site)) refl

-- The request ahead

record Left : Type 0 where
  pub acts : List Act
  pub roles : List Role
  pub waits : List (List RequestStanding)

abbrev left_by : World → Left
left_by w = record {
  acts = closed w;
  roles = map (λ (pair : Pair). pair.second.role) w.processes;
  waits = map (λ (pair : Pair). standings pair.second) w.processes;
}

abbrev left : {site : Site} {w : World} {events : List Event} → Option (Played site w events) → Option Left
left None = None
left (Some p) = Some (left_by p.world)

can-leave : {site : Site} {events : List Event} (acts : List Act) (roles : List Role)
    (waits : List (List RequestStanding)) (p : Option (Played site (boot site) events))
    → left p ≡ Some (record { acts = acts; roles = roles; waits = waits }) → CanLeave site events acts roles waits
can-leave acts roles waits None e = absurd (cc)
can-leave acts roles waits (Some p) e =
    let s = some-same e in
    (p.world, p.leads, ap (λ (x : Left). x.acts) s, ap (λ (x : Left). x.roles) s, ap (λ (x : Left). x.waits) s)

abbrev ahead_moves : List Move
ahead_moves =
    Enters 0 ∷ Runs 0 ∷ Runs 0 ∷ Runs 0 ∷ Brings 0 First ∷ Runs 0 ∷ Runs 0 ∷ Prints 0 0 ∷ Enters 0 ∷ Fails 0
    ∷ Ticks 1 0 ∷ Brings 0 Second ∷ []

pub ahead : CanLeave echo_site ahead_events ahead_acts (Acting ∷ []) ((Ahead ∷ []) ∷ [])
unfolding out-What shown-the_row-Statement-0 shown out int_wrap
ahead = can-leave ahead_acts (Acting ∷ []) ((Ahead ∷ []) ∷ []) (played echo_site ahead_moves (boot echo_site)) refl

-- The same on the machine of single unfailing processes

pub takeover-possible : IsPossible (adder_for (pos 5 ∷ [])) takeover_acts
unfolding out-What shown-the_row-Statement-0 shown out int_wrap
takeover-possible = refl

pub takeover-shows : shown_by (adder_for (pos 5 ∷ [])) takeover_acts ≡ reverse takeover_shown
unfolding out-What shown-the_row-Statement-0 shown out int_wrap
takeover-shows = refl

pub lost_take-possible : IsPossible (adder_for (pos 5 ∷ pos 7 ∷ [])) lost_take_acts
unfolding out-What shown-the_row-Statement-0 shown out int_wrap
lost_take-possible = refl

pub lost_take-shows : shown_by (adder_for (pos 5 ∷ pos 7 ∷ [])) lost_take_acts ≡ reverse lost_take_shown
unfolding out-What shown-the_row-Statement-0 shown out int_wrap
lost_take-shows = refl

pub disc-possible : IsPossible disc_site disc_acts
unfolding int_wrap
disc-possible = refl

pub disc-shows : shown_by disc_site disc_acts ≡ reverse disc_shown
unfolding int_wrap
disc-shows = refl

pub repeated-possible : IsPossible bank_site repeat_acts
unfolding out-What shown-the_row-Statement-0 shown out int_wrap
repeated-possible = refl

pub repeated-shows : shown_by bank_site repeat_acts ≡ reverse repeat_shown
unfolding out-What shown-the_row-Statement-0 shown out int_wrap
repeated-shows = refl

pub ahead-impossible : IsPossible echo_site ahead_acts → ⊥
unfolding out-What shown-the_row-Statement-0 shown out int_wrap
ahead-impossible e = cc
