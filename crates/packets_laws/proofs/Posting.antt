-- A state is carried on where its world changes and what the change sent is posted.
use Rattle.std.proofs.Common.{◌≡◌, ◌≢◌, ℕ, Bool, true, false, List, [], ◌++◌, Option, Some}
use Rattle.std.proofs.Common.{None, slice_get, slice_set, inl, inr, refl, sym, ap, subst, ◌∙◌, ◌&&◌, nat_lt}
use Rattle.gd_words.specs.Members.{IsAmong}
use Rattle.gd_words.proofs.Among.{among-either, among-left, among-right}
use Rattle.tal_tree.specs.declared.site.Site.{Site}
use Rattle.schedule.specs.declared.event.Event.{Event}
use Rattle.schedule.specs.declared.bus_name.BusName.{BusName}
use Rattle.packet_words.specs.declared.packet.Packet.{Packet}
use Rattle.channel_laws.specs.Net.{stopped_net}
use Rattle.world_semantics.specs.World.{World, is_marked_by_all, is_running, runs_by}
use Rattle.world_semantics.proofs.Lists.{set-there, set-other, some-same}
use Rattle.world_semantics.proofs.Members.{among-map}
use Rattle.world_semantics.specs.Messages.{Cause, Message, MarkingDown}
use Rattle.world_semantics.specs.Messages.{Reloading, Sending}
use Rattle.world_semantics.specs.Rules.{Change, by_own, by_checkpoint, by_request, by_early_request, by_enter, by_print}
use Rattle.world_semantics.specs.Rules.{by_stop, by_mark, by_reload, most_reloads}
use Rattle.world_semantics.specs.Running.{Done}
use Rattle.computed_changes.specs.Stopped.{down_done, mark_where, reload_counted}
use Rattle.computed_changes.specs.Stopped.{reload_done, reload_if, reload_where, reloaded_world}
use Rattle.computed_changes.proofs.Stopped.{mark-may}
use Rattle.letters.specs.Routes.{Letter, letters_of}
use Rattle.letters.specs.Again.{sent_again}
use Rattle.letters.specs.Posts.{Post, with_letters, post_after_down, without_those_between, HasPlayed}
use Rattle.message_wires_laws.proofs.Stopping.{StopsNone, mark-none}
use Rattle.packet_nets.specs.packet_wires.specs.Wires.{Midst, goes_over, all_posted, cut_off}
use Rattle.packet_nets.specs.packet_wires.specs.Play.{Underway, after_marked}
use Rattle.letters_layout.specs.message_layout.specs.Layout.{Fits}
use Rattle.checkpoint_chains.proofs.Newest.{IsNewestIfOne, change-new}
use Rattle.message_wires_laws.specs.letter_laws.proofs.Again.{again-is}
use Rattle.packet_nets.specs.packet_wires.specs.Parcels.{Parcel, form_of, parcel_of, parcels_of}
use Rattle.packet_nets.specs.Owing as net
use Rattle.packet_nets.specs.Owing.{IsContent, Ties}
use Rattle.packets_laws.specs.Carried.{AllStandFor, IsCarried, IsFormOf, WereSent}
use Rattle.packets_laws.proofs.Forms.{Stays, again-new, all-stand-still, change-stays, form-own}
use Rattle.packets_laws.proofs.Forms.{letters-new, new-stand, new-were, stand-append, stand-without}
use Rattle.packets_laws.proofs.Forms.{were-still}
use Rattle.packet_nets.proofs.Owing.{stop-owes}
use Rattle.packet_nets.proofs.Sending.{all-posted-ties, cut-ties, more-ties}
use Rattle.packet_nets.proofs.Tied.{stop-tied, repeated-tied}
use Rattle.packet_nets.proofs.Watches.{size-set}

-- some letters are owed, and some were sent, by which these events carry the state, while these packets are on the
-- buses
abbrev pub Carries : List Event → List Packet → Underway → Type 0
Carries events on s = (owed : List Letter) × (sent : List Letter) × IsCarried events on s owed sent

-- the form in which a message goes that was sent last fits the site, and is one of it
abbrev pub GoesFit : Site → World → Message → Type 0
GoesFit site w message =
    IsNewestIfOne w message → Fits site (form_of w message) × IsFormOf w message (form_of w message)

-- after these events all that was ever sent goes so, where it was sent last
abbrev pub FitAll : Site → List Event → Type 0
FitAll site events = (post : Post) → HasPlayed site events post → (letter : Letter) → IsAmong letter post.sent
    → GoesFit site post.world letter.message

-- what parcels hold of letters in a world: those that are owed and those that were posted
pub record HoldsLetters (w : World) (parcels posted : List Parcel) (owed sent : List Letter) : Type 0 where
  pub stand : AllStandFor w parcels owed
  pub were : WereSent w posted sent

pub holds-still : (w next : World) (parcels posted : List Parcel) (owed sent : List Letter) → Stays w next
    → HoldsLetters w parcels posted owed sent → HoldsLetters next parcels posted owed sent
holds-still w next parcels posted owed sent stays held = record {
  stand = all-stand-still w next stays parcels owed held.stand;
  were = were-still w next stays posted sent held.were;
}

-- a change for any other cause loads no processor again
pub change-counts : {site : Site} (w next : World) (cause : Cause) (sendings : List Sending)
    → Change site w cause sendings next → ((processor : ℕ) → cause ≡ Reloading processor → ⊥)
    → next.reloads ≡ w.reloads
change-counts w next cause sendings (by_own number k pair there acts causes advances enters free) other = refl
change-counts w next cause sendings (by_checkpoint number pair there passes) other = refl
change-counts w next cause sendings (by_request request k pair among there role) other = refl
change-counts w next cause sendings (by_early_request request k pair among there role) other = refl
change-counts w next cause sendings (by_enter number terminal opener there even asked opens) other = refl
change-counts w next cause sendings (by_print number terminal reply there odd among opens same) other = refl
change-counts w next cause sendings (by_stop processor runs whole) other = refl
change-counts w next cause sendings (by_mark node processor gone runs new) other = refl
change-counts w next cause sendings (by_reload processor gone is_marked there few) other = absurd (other processor refl)

-- a change that stops nobody and loads no processor again, and then its letters
pub posted-on : {on : List Packet} (s : Underway) (events : List Event) (world : World) (midst : Midst)
    (owed sent letters : List Letter) (parcels posted : List Parcel) → FitAll s.site events → Stays s.world world
    → world.stopped ≡ s.world.stopped → world.reloads ≡ s.world.reloads
    → ((letter : Letter) → IsAmong letter letters → IsNewestIfOne world letter.message)
    → HoldsLetters s.world parcels posted owed sent
    → Ties s.site s.world.stopped s.world.reloads on midst parcels posted
    → HasPlayed s.site events (with_letters letters (record { world = world; owed = owed; sent = sent }))
    → Carries events on (record s { world = world; wires = all_posted world.stopped (parcels_of world letters) midst })
posted-on {on = on} s events world midst owed sent letters parcels posted fit stays same counts new held T played = (
  owed ++ letters,
  (letters ++ sent),
  record {
    played = played;
    parcels = parcels ++ parcels_of world letters;
    posted = parcels_of world letters ++ posted;
    stand = stand-append world parcels (parcels_of world letters) owed letters still.stand
        (new-stand world letters forms);
    were = new-were world letters posted sent forms still.were;
    ties = all-posted-ties (parcels_of world letters) midst all_fit
        (more-ties midst (parcels_of world letters ++ posted)
        (λ parcel among. among-right parcel (parcels_of world letters) posted among)
        (subst (λ stopped. Ties s.site stopped world.reloads on midst parcels posted) (sym same)
        (subst (λ reloads. Ties s.site s.world.stopped reloads on midst parcels posted) (sym counts) T)));
  },
)
  where
    still : HoldsLetters world parcels posted owed sent
    still = holds-still s.world world parcels posted owed sent stays held

    goes : (letter : Letter) → IsAmong letter letters
        → Fits s.site (form_of world letter.message) × IsFormOf world letter.message (form_of world letter.message)
    goes letter among = fit _ played letter (among-left letter letters sent among) (new letter among)

    forms : (letter : Letter) → IsAmong letter letters → IsFormOf world letter.message (form_of world letter.message)
    forms letter among = (goes letter among).1

    all_fit : (parcel : Parcel) → IsAmong parcel (parcels_of world letters)
        → IsContent parcel.content × Fits s.site parcel.content × IsAmong parcel (parcels_of world letters ++ posted)
    all_fit parcel among =
        let from = among-map (parcel_of world) letters parcel among in (
          subst (λ (p : Parcel). IsContent p.content) (sym from.same) (form-own world from.item.message),
          subst (λ (p : Parcel). Fits s.site p.content) (sym from.same) (goes from.item from.among).0,
          among-left parcel (parcels_of world letters) posted among,
        )

-- a stop of a processor that runs
pub stopped-ties : {on : List Packet} {reloads : List ℕ} (site : Site) (stopped : List Bool) (midst : Midst)
    (owed sent : List Parcel) (processor : ℕ) → slice_get stopped processor ≡ Some false
    → Ties site stopped reloads on midst owed sent
    → Ties site (slice_set stopped processor true) reloads on midst owed sent
stopped-ties site stopped midst owed sent processor runs T = record {
  net = stopped_net processor T.net;
  tied = stop-tied stopped processor runs T.tied;
  owes = stop-owes T.owes processor runs;
  watches = T.watches;
  places = size-set stopped processor true ∙ T.places;
}

pub repeated-ties : {site : Site} {stopped : List Bool} {reloads : List ℕ} {on : List Packet} {owed sent : List Parcel}
    (midst : Midst) (name : BusName) (packet : Packet) → IsAmong packet on
    → Ties site stopped reloads on midst owed sent
    → Ties site stopped reloads on (goes_over name packet midst) owed sent
repeated-ties midst name packet among T =
    record {
      net = T.net;
      tied = repeated-tied name packet among T.tied;
      owes = T.owes;
      watches = T.watches;
      places = T.places;
    }

-- a stop leaves other nodes running
pub still-running : (stopped : List Bool) (processor node : ℕ) → processor ≢ node → is_running stopped node ≡ true
    → is_running (slice_set stopped processor true) node ≡ true
still-running stopped processor node n runs = ap (runs_by node) (set-other stopped processor node true n) ∙ runs

pub now-stopped : (stopped : List Bool) (processor : ℕ) → slice_get stopped processor ≡ Some false
    → slice_get (slice_set stopped processor true) processor ≡ Some true
now-stopped stopped processor e = set-there stopped processor false true e

-- the change is a reload of a processor that had stopped, which is counted once more
abbrev pub IsReload : Site → ℕ → World → Done → Type 0
IsReload site processor w done =
    (times : ℕ) × (slice_get w.stopped processor ≡ Some true) × (slice_get w.reloads processor ≡ Some times)
    × (done ≡ record { world = reloaded_world site processor times w; sendings = [] })

pub reload-is : (site : Site) (processor : ℕ) (w : World) (done : Done) → reload_done site processor w ≡ Some done
    → IsReload site processor w done
reload-is site processor w done e = by (slice_get w.stopped processor) refl e
  where
    can : (times : ℕ) → slice_get w.stopped processor ≡ Some true → slice_get w.reloads processor ≡ Some times
        → (test : Bool) → reload_if site processor times w test ≡ Some done → IsReload site processor w done
    can times gone at true e = (times, gone, at, sym (some-same e))
    can times gone at false e = absurd cc

    counted : slice_get w.stopped processor ≡ Some true → (one : Option ℕ) → slice_get w.reloads processor ≡ one
        → reload_counted site processor w one ≡ Some done → IsReload site processor w done
    counted gone None at e = absurd cc
    counted gone (Some times) at e =
        can times gone at (is_marked_by_all w processor && nat_lt times most_reloads) e

    by : (one : Option Bool) → slice_get w.stopped processor ≡ one → reload_where site processor w one ≡ Some done
        → IsReload site processor w done
    by None at e = absurd cc
    by (Some false) at e = absurd cc
    by (Some true) at e = counted at (slice_get w.reloads processor) refl e

-- a mark is made of a stopped processor alone
pub mark-gone : (node processor : ℕ) (w : World) (done : Done) → down_done node processor w ≡ Some done
    → slice_get w.stopped processor ≡ Some true
mark-gone node processor w done e = by (slice_get w.stopped processor) refl e
  where
    by : (one : Option Bool) → slice_get w.stopped processor ≡ one → mark_where node processor w one ≡ Some done
        → slice_get w.stopped processor ≡ Some true
    by None at e = absurd cc
    by (Some false) at e = absurd cc
    by (Some true) at e = at

-- what a mark sends, and sends again, is no checkpoint but the newest
mark-new : (site : Site) (w : World) (node processor : ℕ) (done : Done)
    → Change site w (MarkingDown node processor) done.sendings done.world
    → (sending : Sending) → IsAmong sending (done.sendings ++ sent_again site w done.world node processor)
    → IsNewestIfOne done.world sending.message
mark-new site w node processor done change sending among =
    elim (among-either sending done.sendings (sent_again site w done.world node processor) among) [
      | inl new ↦ change-new w done.world (MarkingDown node processor) done.sendings change sending new
      | inr again ↦ again-new site done.world sending.message
          (again-is site w done.world node processor sending again)
    ]

-- a mark at a node that runs
pub marked-on : {on : List Packet} (s : Underway) (events : List Event) (owed sent : List Letter)
    (parcels posted : List Parcel) (node processor : ℕ)
    (done : Done) → FitAll s.site events → is_running s.world.stopped node ≡ true
    → down_done node processor s.world ≡ Some done → HoldsLetters s.world parcels posted owed sent
    → Ties s.site s.world.stopped s.world.reloads on s.wires parcels posted
    → HasPlayed s.site events (post_after_down s.site node processor done.sendings done.world
    (record { world = s.world; owed = owed; sent = sent }))
    → Carries events on (after_marked node processor s done)
marked-on {on = on} s events owed sent parcels posted node processor done fit runs e held T played =
    let change = mark-may s.site node processor s.world done e in
    posted-on s events done.world (cut_off node processor s.wires) (without_those_between node processor owed) sent
    (letters_of s.site done.world (done.sendings ++ sent_again s.site s.world done.world node processor))
    (net.without_those_between node processor parcels) posted fit
    (change-stays s.world done.world (MarkingDown node processor) done.sendings change)
    (subst (StopsNone s.world) e (mark-none s.site s.world node processor))
    (change-counts s.world done.world (MarkingDown node processor) done.sendings change (λ x same. cc))
    (letters-new s.site done.world (done.sendings ++ sent_again s.site s.world done.world node processor)
    (mark-new s.site s.world node processor done change))
    (record { stand = stand-without s.world node processor parcels owed held.stand; were = held.were })
    (cut-ties s.wires node processor runs (mark-gone node processor s.world done e) T) played
