-- Each change that is neither a mark nor a reload leaves awaited requests served.
use Rattle.std.proofs.Common.{◌≡◌, ◌⊎◌, inl, inr, ℕ, ℤ, List, ◌++◌, Some, slice_get, refl, ap, sym, ◌∙◌, subst}
use Rattle.gd_words.specs.Members.{IsAmong}
use Rattle.gd_words.specs.declared.message.Request.{Request}
use Rattle.gd_words.proofs.Among.{among-left, among-right}
use Rattle.tal_tree.specs.declared.site.Site.{Site}
use Rattle.tal_tree.specs.declared.site.Who.{Who}
use Rattle.plain_semantics.specs.declared.slot.Opener.{Opener}
use Rattle.plain_semantics.specs.Openers.{opener_of}
use Rattle.world_semantics.specs.declared.which.Which.{Which}
use Rattle.world_semantics.specs.Messages.{Asking, Replying, Sending, Cause, Handing}
use Rattle.world_semantics.specs.Rules.{Change}
use Rattle.world_semantics.specs.World.{Copy, Pair, World, copy_of}
use Rattle.world_semantics.proofs.Lists.{some-same}
use Rattle.letter_laws.specs.takeover_laws.specs.Fit.{IsFit}
use Rattle.letter_laws.specs.takeover_laws.specs.Invariant.{IsAsked}
use Rattle.letter_laws.specs.takeover_laws.proofs.Kept.{IsGood}
use Rattle.letter_laws.specs.computed_changes.specs.Laws.{IsSent}
use Rattle.letters.specs.Posts.{Post, after_change}
use Rattle.letters.specs.Routes.{Letter, route_of, home_of, letters_of}
use Rattle.letter_laws.specs.awaited_requests.specs.Awaited.{IsAwaited}
use Rattle.letter_laws.specs.awaited_requests.specs.Seats.{AreSeated}
use Rattle.letter_laws.specs.awaited_requests.specs.Served.{reply_of, request_of, IsServed, route_stopped, is_owed}
use Rattle.letter_laws.specs.awaited_requests.specs.Served.{is_seen, AreServed}
use Rattle.letter_laws.specs.Known.{IsKnown}
use Rattle.letter_laws.proofs.Known.{WasSentTo}
use Rattle.served_requests.proofs.Awaiting.{WasAwaited, was_awaited, is_asked, awaited-before, come-none}
use Rattle.served_requests.proofs.Coming.{come-seen}
use Rattle.served_requests.proofs.Numbers.{asked-low, awaited-low, early-low}
use Rattle.served_requests.proofs.Routes.{KeepsRoutes, routes-no-reload, route-same, route-where}
use Rattle.served_requests.proofs.Routes.{seat-within, stopped-is, rests-stopped, downs-stay, stopped-stays}
use Rattle.served_requests.proofs.Routes.{home-before}
use Rattle.served_requests.proofs.Seeing.{LeavesTold, turn-seen}
use Rattle.served_requests.proofs.Sending.{letter-in, IsTold, told-now}
use Rattle.served_requests.proofs.Turned.{Turned, change-turned}

-- of the letters that were owed these are, but for what is handed over
abbrev pub AreLeft : Post → Cause → List Letter → Type 0
AreLeft post cause rest = (letter : Letter) → IsAmong letter post.owed
    → IsAmong letter rest ⊎ (cause ≡ Handing letter.receiver letter.message)

module _ (site : Site) (fit : IsFit site) (events : ℕ) (post : Post) (good : IsGood site events post.world)
    (seated : AreSeated site post.world)
    (known : IsKnown site post) (served : AreServed site post) where
  module _ (next : World) (cause : Cause) (sendings : List Sending) (rest : List Letter)
      (change : Change site post.world cause sendings next)
      (keeps : KeepsRoutes cause) (sent : WasSentTo post cause)
      (left : AreLeft post cause rest) where
    abbrev After : Post
    After = after_change site sendings next (record post { owed = rest })

    turned : (number : ℕ) (now : Pair) → slice_get next.processes number ≡ Some now
        → Turned site post.world cause sendings number now
    turned =
        change-turned site fit events post.world good known.honest.calm change (routes-no-reload cause keeps)

    route : (node number : ℕ) (now : Pair) (there : slice_get next.processes number ≡ Some now)
        → route_of next.downs node now ≡ route_of post.world.downs node (turned number now there).before
    route node number now there =
        let was = turned number now there in
        ap (λ downs. route_of downs node now) (downs-stay change keeps)
        ∙ route-same post.world.downs node was.before now (λ k. (was.goes k).0) was.led

    home-was : (node asker : ℕ) (one : Who) → home_of next node one ≡ Some asker
        → home_of post.world node one ≡ Some asker
    home-was node asker one =
        home-before post.world next node asker one
        (λ number file is now there. let was = turned number now there in
        (was.before, was.there, route node number now there))

    asked : (node : ℕ) (request : Request) → cause ≡ Handing node (Asking request)
        → IsAsked site good.invariant.ledger request
    asked node request is =
        let letter = sent node request is in
        good.invariant.requests request (subst (IsSent post.world) letter.3 (known.honest.letters letter.0 letter.1))

    module _ (asker : ℕ) (one : Who) (n : ℕ) (opener : Opener) (opens : opener_of site one ≡ Some opener)
        (awaited : IsAwaited site next asker one n) where
      told : (node : ℕ) (words : List ℤ) → IsAmong
          (record { node = node; message = Replying (reply_of opener n words) }) sendings
          → IsTold After asker one opener n node words
      told node words among = elim (told-now site next node asker one opener n words sendings opens among) [
        | inl letter ↦ inl (among-right _ rest (letters_of site next sendings) letter)
        | inr away ↦ inr away
      ]

      leaves : IsAwaited site post.world asker one n → (pair : Pair) (k : Which) (after : Copy)
          → slice_get post.world.processes opener.server ≡ Some pair
          → LeavesTold post After asker one opener n cause sendings (copy_of k pair) after
      leaves old pair k after there = record {
        carried = λ words role acts kept was. elim was [
          | inl letter ↦ elim (left _ letter) [
            | inl among ↦ inl (among-left _ rest (letters_of site next sendings) among)
            | inr handed ↦ absurd (come-none site fit events post.world good known.honest.calm change asker
                (reply_of opener n words) handed asker one n opens awaited)
          ]
          | inr away ↦ inr (λ home. away (home-was (copy_of k pair).processor asker one home))
        ];
        told = λ words among. told (copy_of k pair).processor words among;
        low = λ block role at. awaited-low site fit events post.world good asker one n opener pair k opens there old
            role block at;
        heard =
            λ request block role is process at. asked-low site fit events post.world good opener.server pair k there
            role request process
            (asked (copy_of k pair).processor request is) block at;
        early = λ request role is process place.
            let letter = sent (copy_of k pair).processor request is in
            let early = known.early.sent letter.0 request pair k letter.1 letter.3 (rw process there) letter.2 role in
            early-low site fit events post.world good k request asker one n opener early
            (asked (copy_of k pair).processor request is) opens old process place;
      }

      still-served : (now : Pair) (there : slice_get next.processes opener.server ≡ Some now)
          → IsAwaited site post.world asker one n
          → IsServed site post asker one n opener (turned opener.server now there).before
          → IsServed site After asker one n opener now
      still-served now there old (route_stopped rests) =
          let was = turned opener.server now there in
          let to = route-where post.world.downs asker was.before in
          let within = seat-within to.0 (seated.pairs opener.server was.before was.there) in
          let stopped = stopped-is post.world.stopped (copy_of to.0 was.before).processor within (rw to.1 rests) in
          let still = stopped-stays change (routes-no-reload cause keeps) (copy_of to.0 was.before).processor
          stopped in
          route_stopped (rw (route asker opener.server now there, ← to.1)
          (rests-stopped next.stopped (copy_of to.0 was.before).processor still))
      still-served now there old (is_owed words letter) = elim (left _ letter) [
        | inl among ↦ is_owed words (rw (route asker opener.server now there)
            (among-left _ rest (letters_of site next sendings) among))
        | inr handed ↦
            let was = turned opener.server now there in
            let seen = come-seen site fit events post.world good asker one opener n opens change
            (rest ++ letters_of site next sendings) (letters_of site next sendings ++ post.sent)
            (route_of post.world.downs asker was.before) words handed old told known.early.waiting in
            let same : seen.now ≡ now = some-same (sym seen.there ∙ there) in
            subst (λ p. IsServed site After asker one n opener p) same
            (is_seen seen.k (seen.seat ∙ sym (ap (λ p. route_of next.downs asker p) same
            ∙ route asker opener.server now there)) seen.seen)
      ]
      still-served now there old (is_seen k at has) =
          let was = turned opener.server now there in
          is_seen k ((was.goes k).0 ∙ at ∙ sym (route asker opener.server now there))
          (turn-seen site post After asker one opener n cause sendings (copy_of k was.before) (copy_of k now)
          (was.goes k).0
          (leaves old was.before k (copy_of k now) was.there) (was.goes k).1 has)

  -- a change that is neither a mark nor a reload leaves what is awaited served
  pub change-served : (next : World) (cause : Cause) (sendings : List Sending) (rest : List Letter)
      → Change site post.world cause sendings next
      → KeepsRoutes cause → WasSentTo post cause → AreLeft post cause rest
      → AreServed site (after_change site sendings next (record post { owed = rest }))
  change-served next cause sendings rest change keeps sent left asker one n opener now opens there awaited =
      by (awaited-before site fit events post.world good known.honest.calm change (routes-no-reload cause keeps)
      awaited)
    where
      by : WasAwaited site post.world sendings asker one n
          → IsServed site (after_change site sendings next (record post { owed = rest })) asker one n opener now
      by (was_awaited old) =
          let was = turned next cause sendings rest change keeps sent left opener.server now there in
          still-served next cause sendings rest change keeps sent left asker one n opener opens awaited now there old
          (served asker one n opener was.before opens was.there old)
      by (is_asked words asks) =
          is_owed words (among-right _ rest (letters_of site next sendings)
          (letter-in site next asker (route_of next.downs asker now) (Asking (request_of opener n words)) sendings
          (asks opener opens) (rw there refl)))
