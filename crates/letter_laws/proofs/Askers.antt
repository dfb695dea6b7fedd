-- A request that is sent, or sent again, has its asker.
use Rattle.std.proofs.Common.{◌≡◌, inl, inr, ℕ, ◌+◌, ◌-◌, ◌<◌, ℤ, List, map, Option, Some, None, slice_get, refl, ap}
use Rattle.std.proofs.Common.{sym, subst, ◌∙◌, arith}
use Rattle.gd_words.specs.Members.{IsAmong}
use Rattle.gd_words.specs.declared.message.Reply.{Reply}
use Rattle.gd_words.specs.declared.message.Request.{Request}
use Rattle.tal_tree.specs.declared.act.Act.{Act}
use Rattle.tal_tree.specs.declared.site.Site.{Site}
use Rattle.tal_tree.specs.declared.site.Who.TheVariants as who
use Rattle.process_semantics.specs.Process as process
use Rattle.plain_semantics.specs.Machine.{next_request}
use Rattle.plain_semantics.specs.declared.slot.Opener.{Opener}
use Rattle.plain_semantics.specs.Openers.{openers_of, opener_of}
use Rattle.world_semantics.specs.checkpoint_image.specs.Receive.{reply_sent_again, all_repeated}
use Rattle.world_semantics.specs.disc_device.specs.Sectors.{Stored}
use Rattle.world_semantics.specs.declared.role.Role.TheVariants.{Acting}
use Rattle.world_semantics.specs.declared.which.Which.{Which}
use Rattle.world_semantics.specs.declared.which.Which.TheVariants.{First, Second}
use Rattle.world_semantics.specs.Core.{Core, Deed, Advances, next_on}
use Rattle.world_semantics.specs.Messages.{Message, Asking, Replying, Sending, Cause}
use Rattle.world_semantics.specs.Own.{Around, around, Causes, by_inner, by_take, by_ask, by_answer, by_device, by_write}
use Rattle.world_semantics.specs.Own.{by_reply, request_to, asked_on}
use Rattle.world_semantics.specs.Passes.{Passes, by_send, by_pass_again, by_pass, by_end, by_apply_behind}
use Rattle.world_semantics.specs.Passes.{by_apply, by_acknowledge}
use Rattle.world_semantics.specs.Rules.{Change, by_own, by_checkpoint, by_request, by_early_request, by_enter, by_print}
use Rattle.world_semantics.specs.Rules.{by_stop, by_mark, by_reload, told_at_down, takeover_sendings, taker}
use Rattle.world_semantics.specs.Rules.{entered_request}
use Rattle.world_semantics.specs.World.{Copy, Pair, World, copy_of, with_copy}
use Rattle.world_semantics.proofs.Becoming.{entered-same}
use Rattle.world_semantics.proofs.Lists.{set-there}
use Rattle.world_semantics.proofs.Members.{among-map, among-flat_map}
use Rattle.awaited_requests.specs.plain_histories.specs.Agreeing.{AreRegular}
use Rattle.awaited_requests.specs.plain_histories.proofs.Openers.{opener-one}
use Rattle.awaited_requests.specs.takeover_laws.proofs.Kept.{IsGood}
use Rattle.awaited_requests.specs.letters.specs.Again.{entered_last}
use Rattle.letter_laws.specs.Known.{HasAsker}
use Rattle.letter_laws.proofs.Again.{IsAgain, by_copy, by_terminal, by_keeping}
use Rattle.letter_laws.proofs.Asked.{awaited-odd}
use Rattle.letter_laws.proofs.Awaited.{acting-done, awaited-last, last-less, asked-next}
use Rattle.letter_laws.proofs.Given.{message-of, only}

asking-same : {one other : Request} → Asking one ≡ Asking other → one ≡ other
asking-same same = cc

reply-asks-none : (replies : List Reply) (message : Message) (request : Request)
    → IsAmong message (map Replying replies) → message ≡ Asking request → ⊥
reply-asks-none replies message request among is =
    let from = among-map Replying replies message among in let same = sym from.same ∙ is in cc

file-same : {number file other on : ℕ} → who.File number file ≡ who.File other on → (number ≡ other) × (file ≡ on)
file-same same = (cc, cc)

module _ (site : Site) where
  -- the request of a file that a copy which acts has asked has its asker
  file-asker : (w : World) (number file : ℕ) (opener : Opener) (request : Request) (pair : Pair) (k : Which)
      → opener_of site (who.File number file) ≡ Some opener
      → request.process ≡ opener.server → request.opener ≡ opener.place → slice_get w.processes number ≡ Some pair
      → (copy_of k pair).role ≡ Acting
      → request.number < next_on (copy_of k pair).core file → HasAsker site w request
  file-asker w number file opener request pair k opens server place there role less other on is =
      let named : record { server = request.process; place = request.opener } ≡ opener = rw (server, place) refl in
      let same = file-same (opener-one site (who.File other on) (who.File number file) opener (is ∙ ap Some named)
      opens) in (
        pair,
        k,
        ap (slice_get w.processes) same.0
            ∙ there,
        role,
        subst (λ f. request.number < next_on (copy_of k pair).core f) (sym same.1) less,
      )

  -- a terminal's request needs none
  terminal-asker : (w : World) (number : ℕ) (opener : Opener) (request : Request)
      → opener_of site (who.Terminal number) ≡ Some opener
      → request.process ≡ opener.server → request.opener ≡ opener.place → HasAsker site w request
  terminal-asker w number opener request opens server place other on is =
      let named : record { server = request.process; place = request.opener } ≡ opener = rw (server, place) refl in
      absurd (let same = opener-one site (who.File other on) (who.Terminal number) opener (is ∙ ap Some named) opens in
      cc)

module _ (site : Site) (regular : AreRegular site) (events : ℕ) (w : World) (good : IsGood site events w) where
  own-asker : (number : ℕ) (pair : Pair) (k : Which) → slice_get w.processes number ≡ Some pair
      → (copy_of k pair).role ≡ Acting
      → {cause : Cause} {deed : Deed} {done : Act} {messages : List Message} {after : Around}
      → Causes site number (copy_of k pair).processor (copy_of k pair).core (around (copy_of k pair) pair w) cause deed
      done messages after
      → {core : Core} → Advances (openers_of site number) (copy_of k pair).core deed core → (next : World) (now : Pair)
      → slice_get next.processes number ≡ Some now
      → (copy_of k now).role ≡ Acting → (copy_of k now).core ≡ core → (request : Request)
      → IsAmong (Asking request) messages → HasAsker site next request
  own-asker number pair k there role by_inner advances next now at acts is request none = absurd none
  own-asker number pair k there role (by_take chosen) advances next now at acts is request none = absurd none
  own-asker number pair k there role (by_answer known) advances next now at acts is request (inl same) = absurd (cc)
  own-asker number pair k there role (by_answer known) advances next now at acts is request (inr none) = absurd none
  own-asker number pair k there role (by_device stood) advances next now at acts is request none = absurd none
  own-asker number pair k there role (by_write new) advances next now at acts is request none = absurd none
  own-asker number pair k there role (by_reply among opens last said) advances next now at acts is request none =
      absurd none
  own-asker number pair k there role (by_ask {file = file} {words = words}) {core = core} advances next now at acts is
      request among =
      let from = among-map Asking (asked_on site number (copy_of k pair).core file words) (Asking request) among in
      by (opener_of site (who.File number file)) refl from.item from.among (asking-same from.same)
    where
      by : (o : Option Opener) → opener_of site (who.File number file) ≡ o → (one : Request)
          → IsAmong one (request_to (next_on (copy_of k pair).core file) words o)
          → request ≡ one → HasAsker site next request
      by None opens one none same = absurd none
      by (Some opener) opens one among same =
          let one_is = only one _ among in
          let number_is : request.number ≡ next_on (copy_of k pair).core file =
          ap (λ (r : Request). r.number) (same ∙ one_is) in
          let more = asked-next site regular number (copy_of k pair).core core
          (acting-done site events w good number pair k there role) file words opener advances opens in
          let now_is : next_on (copy_of k now).core file ≡ next_on (copy_of k pair).core file + 1 =
          ap (λ (c : Core). next_on c file) is ∙ more in
          file-asker site next number file opener request now k opens (ap (λ (r : Request). r.process) (same ∙ one_is))
          (ap (λ (r : Request). r.opener) (same ∙ one_is)) at acts
          (omega (arith, number_is, now_is))

  passes-ask-none : {number : ℕ} {downs : List _} {kept after : List Act} {pair next : Pair} {cause : Cause}
      {sendings : List Sending} (sending : Sending) (request : Request)
      → Passes number downs kept pair cause sendings next after → IsAmong sending sendings
      → sending.message ≡ Asking request → ⊥
  passes-ask-none sending request (by_send k role at unsent unmarked) among asks =
      let same = sym (ap (λ (s : Sending). s.message) (only sending _ among)) ∙ asks in cc
  passes-ask-none sending request (by_pass_again k role at may less) among asks = among
  passes-ask-none sending request (by_pass k role at may most) among asks = among
  passes-ask-none sending request (by_end k role sent at may) among asks = among
  passes-ask-none sending request (by_apply_behind k message applied role sent era next put less) among asks =
      let same = sym (ap (λ (s : Sending). s.message) (only sending _ among)) ∙ asks in cc
  passes-ask-none sending request (by_apply k message applied role sent era next put most) among asks =
      let same = sym (ap (λ (s : Sending). s.message) (only sending _ among)) ∙ asks in cc
  passes-ask-none sending request (by_acknowledge k taken role sent was era is) among asks = among

  told-ask-none : (sending : Sending) (request : Request) (pair : Pair) (k : Option Which)
      → IsAmong sending (takeover_sendings k pair) → sending.message ≡ Asking request → ⊥
  told-ask-none sending request pair None none asks = none
  told-ask-none sending request pair (Some k) among asks =
      reply-asks-none (all_repeated (copy_of k pair).core.receive (copy_of k pair).waiting) sending.message request
      (message-of _ _ sending among) asks

  entered-acts : (k : Which) (pair : Pair) (core : Core) (entered : Copy) (waiting : List Request)
      (sectors : List Stored) → entered.role ≡ Acting
      → ((copy_of k (with_copy k (record entered { core = core; waiting = waiting })
      (record pair { sectors = sectors }))).role ≡ Acting)
      × ((copy_of k (with_copy k (record entered { core = core; waiting = waiting })
      (record pair { sectors = sectors }))).core ≡ core)
  entered-acts First pair core entered waiting sectors role = (role, refl)
  entered-acts Second pair core entered waiting sectors role = (role, refl)

  -- what a change sends
  pub change-asker : (next : World) (cause : Cause) (sendings : List Sending) → Change site w cause sendings next
      → (sending : Sending) (request : Request)
      → IsAmong sending sendings → sending.message ≡ Asking request → HasAsker site next request
  change-asker next cause sendings (by_own {messages = messages} {after = after} {core = core} {entered = entered}
      number k pair there role causes advances enters free) sending request among asks =
      let acts = entered-acts k pair core entered after.waiting after.sectors ((entered-same enters).role ∙ role) in
      own-asker number pair k there role causes advances next _ (set-there w.processes number pair _ there) acts.0
      acts.1 request
      (subst (λ m. IsAmong m messages) asks (message-of _ messages sending among))
  change-asker next cause sendings (by_checkpoint number pair there passes) sending request among asks =
      absurd (passes-ask-none sending request passes among asks)
  change-asker next cause sendings (by_request one k pair sent there role) sending request among asks =
      absurd (reply-asks-none (reply_sent_again (copy_of k pair).core.receive one) sending.message request
      (message-of _ _ sending among) asks)
  change-asker next cause sendings (by_early_request one k pair sent there role) sending request among asks =
      absurd among
  change-asker next cause sendings (by_enter {words = words} number terminal opener there even is opens) sending
      request among asks =
      let same : entered_request opener terminal words ≡ request =
      asking-same (sym (ap (λ (s : Sending). s.message) (only sending _ among)) ∙ asks) in
      terminal-asker site next number opener request opens (ap (λ (r : Request). r.process) (sym same))
      (ap (λ (r : Request). r.opener) (sym same))
  change-asker next cause sendings (by_print number terminal reply there odd sent opens is) sending request among
      asks = absurd among
  change-asker next cause sendings (by_stop processor alive whole) sending request among asks =
      absurd among
  change-asker next cause sendings (by_mark node processor down alive unmarked) sending request among asks =
      let of = among-flat_map (told_at_down node processor) w.processes sending among in
      absurd (told-ask-none sending request of.item (taker node processor of.item) of.within asks)
  change-asker next cause sendings (by_reload processor down marked counted less) sending request among asks =
      absurd among

  -- what is sent again
  pub again-asker : (message : Message) (request : Request) → IsAgain site w message → message ≡ Asking request
      → HasAsker site w request
  again-asker message request (by_copy number pair k one there role among is) asks =
      let core : Core = (copy_of k pair).core in
      let last = awaited-last site number core one among in
      let same : request ≡ one = asking-same (sym asks ∙ is) in
      let less = last-less site regular number core (acting-done site events w good number pair k there role)
      (process.asked_file core.state) last.opener last.opens in
      let number_is : request.number ≡ next_on core (process.asked_file core.state) - 1 =
      ap (λ (r : Request). r.number) (same ∙ last.same) in
      file-asker site w number (process.asked_file core.state) last.opener request pair k last.opens
      (ap (λ (r : Request). r.process) (same ∙ last.same))
      (ap (λ (r : Request). r.opener) (same ∙ last.same)) there role (omega (arith, number_is, less))
  again-asker message request (by_terminal number terminal one there among is) asks =
      by (opener_of site (who.Terminal number)) refl (next_request site number (terminal.entered - 1))
      (awaited-odd site number terminal one among).1 (asking-same (sym asks ∙ is))
    where
      by : (o : Option Opener) → opener_of site (who.Terminal number) ≡ o → (words : Option (List ℤ))
          → IsAmong one (entered_last terminal.entered o words) → request ≡ one
          → HasAsker site w request
      by None opens words none same = absurd none
      by (Some opener) opens None none same = absurd none
      by (Some opener) opens (Some words) among same =
          let one_is = only one _ among in
          terminal-asker site w number opener request opens (ap (λ (r : Request). r.process) (same ∙ one_is))
          (ap (λ (r : Request). r.opener) (same ∙ one_is))
  again-asker message request (by_keeping number pair k place opener reply there role known among is) asks =
      absurd (let same = sym is ∙ asks in cc)
