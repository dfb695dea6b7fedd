-- Runs over packets are runs of the world with its letters.
use Rattle.std.proofs.Common.{◌≡◌, ◌≤◌, ◌<◌, inl, inr, ℕ, ℤ, true, List, [], ◌∷◌, ◌++◌, length, Some, None, sym, subst}
use Rattle.std.proofs.Common.{arith, length-append}
use Rattle.gd_words.specs.Members.{IsAmong}
use Rattle.tal_tree.specs.declared.site.Site.{Site}
use Rattle.schedule.specs.declared.event.Event.{Event}
use Rattle.schedule.specs.declared.bus_name.BusName.{BusName}
use Rattle.packet_words.specs.declared.packet.Packet.{Packet}
use Rattle.world_semantics.specs.Follows.{IsIdleFor, IsRun}
use Rattle.world_semantics.specs.Messages.{Checkpointing, Handing}
use Rattle.change_layout.specs.Changing.{change_of}
use Rattle.checkpoint_image.specs.declared.message.ImageMessage.{ImageMessage}
use Rattle.computed_changes.specs.Changed.{change_done}
use Rattle.computed_changes.specs.Handed.{handed_done}
use Rattle.checkpoint_chains.specs.Chains.{IsNextTo}
use Rattle.checkpoint_chains.proofs.Whole.{comes-whole}
use Rattle.computed_changes.specs.Laws.{HasCopiesApart, IsSent}
use Rattle.computed_changes.proofs.Outcomes.{idle-where, run-only}
use Rattle.message_wires_laws.specs.takeover_laws.specs.Fit.{IsFit}
use Rattle.message_wires_laws.specs.awaited_requests.specs.Seats.{IsLaidOut}
use Rattle.letters_layout.specs.Fitting.{IsSmall}
use Rattle.letters_layout.proofs.Checkpoints.{change-fits}
use Rattle.letters_layout.proofs.Letters.{all-fit}
use Rattle.letters.specs.Posts.{Post}
use Rattle.letters.specs.Posts as posts
use Rattle.letters.specs.Routes.{Letter}
use Rattle.letters.proofs.Worlds.{played-run}
use Rattle.message_wires_laws.specs.letter_laws.proofs.Fitting.{letter-fits}
use Rattle.message_wires_laws.specs.letter_laws.proofs.Honest.{played-honest}
use Rattle.letters_layout.specs.message_layout.specs.Layout.{Fits}
use Rattle.letters_layout.specs.message_layout.specs.Messages.{NodeMessage}
use Rattle.packet_nets.specs.packet_wires.specs.Parcels.{form_of}
use Rattle.packet_nets.specs.packet_wires.specs.Play.{Packeted, underway, comes_in, message_at_end, packet_at, play}
use Rattle.packet_nets.specs.packet_wires.specs.Nodes.{end_at}
use Rattle.packets_laws.proofs.Coming.{comes-right}
use Rattle.packet_nets.specs.packet_wires.specs.Runs.{IsPlayed, played_none, played_more, skipped}
use Rattle.packets_laws.specs.Carried.{IsCarriedAtRest, IsFormOf, WasSentInWords}
use Rattle.letters.specs.Idle.{IsIdle}
use Rattle.packet_nets.specs.packet_wires.specs.Idle.{is_idle}
use Rattle.packets_laws.proofs.Going.{played-site}
use Rattle.packets_laws.proofs.Idle.{idle-post}
use Rattle.packets_laws.proofs.Newest.{form-newest}
use Rattle.packets_laws.proofs.Playing.{CarriesAtRest, GoesOnAtRest, plays-on}
use Rattle.packets_laws.proofs.Posting.{FitAll}
use Rattle.packet_nets.proofs.Ticking.{begins}

module _ (events : List Event) (few : length events < 4294967296) (s : Packeted) (owed sent : List Letter)
    (fit : IsFit s.site) (carried : IsCarriedAtRest events s owed sent) where
  abbrev post : Post
  post = record { world = s.world; owed = owed; sent = sent }

  -- a sent letter carries a message that was sent
  pub carried-sent : (letter : Letter) → IsAmong letter sent → IsSent s.world letter.message
  carried-sent letter among = (played-honest s.site fit events post few carried.played).letters letter among

  -- and if such a letter comes in and nothing is computed, the world may not change
  pub carried-only : HasCopiesApart s.site → (letter : Letter) → IsAmong letter sent
      → handed_done s.site letter.receiver letter.message s.world ≡ None
      → IsIdleFor s.site s.world (Handing letter.receiver letter.message)
  carried-only apart letter among e =
      let fitting = letter-fits s.site fit events post few carried.played letter among letter.receiver in
      idle-where s.site s.world (Handing letter.receiver letter.message)
      (handed_done s.site letter.receiver letter.message s.world)
      (λ next sendings change. run-only s.world next letter.receiver letter.message sendings
      (played-run carried.played) apart fitting change) e

  -- a checkpoint does the same if it comes as what changed
  pub carried-whole : (node : ℕ) (before one : ImageMessage) → IsSent s.world (Checkpointing before)
      → IsSent s.world (Checkpointing one) → IsNextTo before one
      → change_done s.site node (change_of before one) s.world ≡ handed_done s.site node (Checkpointing one) s.world
  carried-whole node before one = comes-whole s.site fit events post few carried.played before one node

-- copies that are laid out are apart
laid-apart : (site : Site) → IsLaidOut site → HasCopiesApart site
laid-apart site out number spec there = (out.places number spec there).2

module _ (site : Site) (fit : IsFit site) (small : IsSmall site) (out : IsLaidOut site) where
  -- in whatever form a letter's message goes, it fits
  form-fits : (events : List Event) (post : Post) (few : length events < 4294967296)
      → posts.HasPlayed site events post → (letter : Letter) → IsAmong letter post.sent → (content : NodeMessage)
      → IsFormOf post.world letter.message content → Fits site content
  form-fits events post few played letter among content (inl same) =
      subst (Fits site) (sym same) (all-fit site fit small out events post few played letter among)
  form-fits events post few played letter among content (inr (before, one, is, goes_as, known, next_to)) =
      subst (Fits site) (sym goes_as)
      (change-fits site fit small events post.world few (played-run played) before one
      (subst (IsSent post.world) is ((played-honest site fit events post few played).letters letter among)))

  all-go : (events : List Event) → length events < 4294967296 → FitAll site events
  all-go events few post played letter among new =
      let form = form-newest post.world fit.seats (played-run played) letter.message new in
      (form-fits events post few played letter among (form_of post.world letter.message) form, form)

  goes-on : (events : List Event) (s : Packeted) (event : Event) → length (events ++ event ∷ []) < 4294967296
      → s.site ≡ site → CarriesAtRest events s
      → GoesOnAtRest (events ++ event ∷ []) s (play s event)
  goes-on events s event few same (owed, sent, carried) =
      let fits = subst IsFit (sym same) fit in
      let less : length events < 4294967296 = omega (arith, few, length-append events (event ∷ [])) in
      plays-on events s owed sent carried (carried-sent events less s owed sent fits carried)
      (carried-only events less s owed sent fits carried (subst HasCopiesApart (sym same) (laid-apart site out)))
      (carried-whole events less s owed sent fits carried) (λ other. all other) event
    where
      all : (other : Event) → FitAll s.site (events ++ other ∷ [])
      all other = subst (λ one. FitAll one (events ++ other ∷ [])) (sym same)
          (all-go (events ++ other ∷ [])
          (omega (arith, few, length-append events (event ∷ []), length-append events (other ∷ []))))

  pub played-carried : {events : List Event} {s : Packeted} → length events < 4294967296 → IsPlayed site events s
      → CarriesAtRest events s
  played-carried few played_none = (
    [],
    [],
    record {
      played = posts.played_none;
      parcels = [];
      posted = [];
      stand = tt;
      were = λ parcel among. absurd among;
      ties = begins site;
    },
  )
  played-carried few (played_more {events = events} {s = s} event before e) =
      let less : length events < 4294967296 = omega (arith, few, length-append events (event ∷ [])) in
      subst (GoesOnAtRest (events ++ event ∷ []) s) e
      (goes-on events s event few (played-site before) (played-carried less before))
  played-carried few (skipped {events = events} {s = s} event before e) =
      let less : length events < 4294967296 = omega (arith, few, length-append events (event ∷ [])) in
      subst (GoesOnAtRest (events ++ event ∷ []) s) e
      (goes-on events s event few (played-site before) (played-carried less before))

  module _ (events : List Event) (s : Packeted) (few : length events < 4294967296)
      (played : IsPlayed site events s) where
    -- there is a post for the state, which is idle if the state is
    pub played-post : (owed : List Letter) × (sent : List Letter)
        × posts.HasPlayed site events (record { world = s.world; owed = owed; sent = sent })
        × (is_idle s ≡ true → IsIdle site (record { world = s.world; owed = owed; sent = sent }))
    played-post =
        let all = played-carried few played in
        let same = played-site played in (
          all.0,
          all.1,
          subst (λ one. posts.HasPlayed one events (record { world = s.world; owed = all.0; sent = all.1 })) same
              all.2.played,
          λ idle. subst (λ one. IsIdle one (record { world = s.world; owed = all.0; sent = all.1 })) same
              (idle-post s all.0 all.1 all.2.parcels all.2.posted
              (subst (λ (one : Site). one.processors ≤ 16) (sym same) out.few) all.2.stand all.2.ties idle),
        )

    pub played-world : IsRun site events s.world
    played-world = played-run played-post.2

    -- a message that is whole where its packet comes was pushed by that packet's sender
    pub played-comes : (owed : List Letter) × (sent : List Letter)
        × posts.HasPlayed site events (record { world = s.world; owed = owed; sent = sent })
        × ((name : BusName) (k : ℕ) (p : Packet) (words : List ℤ) → packet_at s name k ≡ Some p
        → comes_in p (underway s) ≡ true
        → message_at_end p (end_at s.wires.nodes p.receiver p.sender) ≡ Some words
        → WasSentInWords site s.world sent p.sender p.receiver words)
    played-comes =
        let all = played-carried few played in (
          all.0,
          all.1,
          subst (λ one. posts.HasPlayed one events (record { world = s.world; owed = all.0; sent = all.1 }))
              (played-site played) all.2.played,
          λ name k p words at comes is. subst (λ one. WasSentInWords one s.world all.1 p.sender p.receiver words)
              (played-site played)
              (comes-right events s all.0 all.1 all.2 p name k words at comes is),
        )
