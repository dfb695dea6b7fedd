-- A request that is sent is linked.
use Rattle.std.proofs.Common.{◌≡◌, inl, inr, ℕ, ◌+◌, ◌-◌, ◌==◌, ◌<◌, ℤ, Bool, true, false, if◌then◌else◌, List, []}
use Rattle.std.proofs.Common.{◌∷◌, ◌++◌, length, map, Option, Some, None, slice_get, slice_set, refl, ap, subst, sym}
use Rattle.std.proofs.Common.{◌∙◌, arith}
use Rattle.std.proofs.lemmas.Bool.{eq-eqb, ne_eqb}
use Rattle.gd_words.specs.Members.{IsAmong}
use Rattle.gd_words.specs.declared.message.Request.{Request}
use Rattle.gd_words.proofs.Among.{among-either, among-left, among-right}
use Rattle.tal_tree.specs.declared.act.Act.{Act}
use Rattle.tal_tree.specs.declared.site.Site.{Site}
use Rattle.tal_tree.specs.declared.site.Who.TheVariants as who
use Rattle.schedule.specs.declared.event.Event.{Event}
use Rattle.process_semantics.specs.declared.point.Point.TheVariants as point
use Rattle.process_semantics.specs.Process as process
use Rattle.process_histories.proofs.Steady.{asked-awaits, asked-same, done-steady}
use Rattle.plain_semantics.specs.declared.slot.Opener.{Opener}
use Rattle.plain_semantics.specs.Machine.{next_request}
use Rattle.plain_semantics.specs.Openers.{openers_of, opener_of}
use Rattle.world_semantics.specs.declared.role.Role.{Role}
use Rattle.world_semantics.specs.declared.role.Role.TheVariants.{Acting, Watching, Blank, Gone}
use Rattle.world_semantics.specs.declared.which.Which.{Which}
use Rattle.world_semantics.specs.Core.{Core, Deed, Advances, goes, takes, asks, gets, answers, acts, core_asked}
use Rattle.world_semantics.specs.Core.{next_on}
use Rattle.world_semantics.specs.Follows.{IsRun}
use Rattle.world_semantics.specs.Kept.{Enters}
use Rattle.world_semantics.specs.Messages.{Message, Asking, Replying, Checkpointing, Taking, Sending, sent_at, Cause}
use Rattle.world_semantics.specs.Own.{Around, around, Causes, by_inner, by_take, by_ask, by_answer, by_device, by_write}
use Rattle.world_semantics.specs.Own.{by_reply, request_to, asked_on}
use Rattle.world_semantics.specs.Passes.{Passes, by_send, by_pass_again, by_pass, by_end, by_apply, by_apply_behind}
use Rattle.world_semantics.specs.Passes.{by_acknowledge}
use Rattle.world_semantics.specs.Passes.{checkpoint_of, taken_of}
use Rattle.world_semantics.specs.Rules.{Change, by_own, by_checkpoint, by_request, by_early_request, by_enter, by_print}
use Rattle.world_semantics.specs.Rules.{by_stop, by_mark, by_reload, after_own, entered_request, taker}
use Rattle.world_semantics.specs.Rules.{takeover_sendings}
use Rattle.world_semantics.specs.Rules.{told_at_down}
use Rattle.world_semantics.specs.World.{Copy, Down, Pair, Terminal, World, copy_of, terminal_node}
use Rattle.world_semantics.proofs.Members.{among-filter, among-flat_map, among-map}
use Rattle.checkpoint_image.specs.Receive.{all_repeated, reply_sent_again}
use Rattle.letters.specs.Again as again
use Rattle.letters.specs.Again.{asks_again, awaited_by, awaited_from, entered_last, if_acts_on, rerouted, sent_again}
use Rattle.letters.specs.Again.{kept_from, tells_again, terminals_ask}
use Rattle.served_requests.specs.letter_laws.specs.takeover_laws.specs.Fit.{IsFit}
use Rattle.served_requests.specs.letter_laws.proofs.Awaited.{acting-done, asked-next}
use Rattle.served_requests.specs.letter_laws.proofs.Given.{only}
use Rattle.node_needs.specs.NodeNeeds.{awaited_at, needs_at, of_copies, of_terminals}
use Rattle.link_laws.specs.Effects.{HasAskedMore}
use Rattle.link_laws.proofs.Copies.{IsSeatedAs, acts-none, acts-there, at-none, entered-seat, held-stays, own-awaited}
use Rattle.link_laws.proofs.Copies.{run-good, terminal-awaited, terminal-held, terminal-waiting, waiting-stays}
use Rattle.link_laws.proofs.Lists.{one-put}
use Rattle.link_laws.proofs.Messages.{asked_in, no-request, not-asked, sent-one}

asked-words : (s : process.ProcessState) → process.asked_words (process.after_asked s) ≡ process.asked_words s
asked-words (process.Runs program s) = refl
asked-words (process.Serves sectors s) = refl

-- Changes

module _ (site : Site) (fit : IsFit site) (events : List Event) (w : World) (few : length events < 4294967296)
    (run : IsRun site events w) (node : ℕ) (request : Request) where
  abbrev Asks : List Sending → Type 0
  Asks sendings = IsAmong (record { node = node; message = Asking request }) sendings

  abbrev IsLinked : World → Type 0
  IsLinked next = HasAskedMore request (needs_at site w node) (needs_at site next node)

  -- a copy asks on a file
  module _ (number : ℕ) (k : Which) (pair : Pair) (there : slice_get w.processes number ≡ Some pair)
      (role : (copy_of k pair).role ≡ Acting) (file : ℕ) (words : List ℤ)
      (at : process.point (copy_of k pair).core.state ≡ point.Ask)
      (named : file ≡ process.asked_file (copy_of k pair).core.state)
      (said : words ≡ process.asked_words (copy_of k pair).core.state) where
    abbrev before : Core
    before = (copy_of k pair).core

    abbrev now : Core
    now = core_asked file before

    -- it awaits what it asked
    asked-last : (opener : Opener) → opener_of site (who.File number file) ≡ Some opener
        → awaited_by site number now ≡ record {
          process = opener.server;
          opener = opener.place;
          number = next_on before file;
          words = words;
        } ∷ []
    asked-last opener opens =
        let is = acting-done site (length events) w (run-good site fit events w few run) number pair k there role in
        let steady = done-steady (fit.regular number is.spec is.there) is.done in
        let more = asked-next site fit.regular number before now is file words opener (asks at named said) opens in
        let file_is : process.asked_file now.state ≡ file = asked-same before.state ∙ sym named in
        let number_is : next_on now file - 1 ≡ next_on before file = omega (arith, more) in
        let words_is : process.asked_words now.state ≡ words = asked-words before.state ∙ sym said in
        ap (again.awaited_at site number now) (asked-awaits before.state steady at)
        ∙ ap (λ (f : ℕ). request_to (next_on now f - 1) (process.asked_words now.state)
        (opener_of site (who.File number f))) file_is
        ∙ ap (λ (n : ℕ). request_to n (process.asked_words now.state) (opener_of site (who.File number file))) number_is
        ∙ ap (λ (ws : List ℤ). request_to (next_on before file) ws (opener_of site (who.File number file))) words_is
        ∙ ap (request_to (next_on before file) words) opens

    asked-linked : (entered : Copy) (kept : List Act) (after : Around) → IsSeatedAs (copy_of k pair) entered
        → after.waiting ≡ (copy_of k pair).waiting
        → Asks (sent_at (copy_of k pair).processor (map Asking (asked_on site number before file words)))
        → IsLinked (after_own number k pair now entered after kept w)
    asked-linked entered kept after seat waits among = by (opener_of site (who.File number file)) refl among
      where
        by : (found : Option Opener) → opener_of site (who.File number file) ≡ found
            → Asks (sent_at (copy_of k pair).processor (map Asking (request_to (next_on before file) words found)))
            → IsLinked (after_own number k pair now entered after kept w)
        by None opens among = absurd among
        by (Some opener) opens among =
            let sent = sent-one (copy_of k pair).processor node (Asking request) (Asking (record {
              process = opener.server;
              opener = opener.place;
              number = next_on before file;
              words = words;
            }) ∷ []) among in
            let carried = ap asked_in (only (Asking request) _ sent.among) in
            record {
              awaited =
                  one-put request (own-awaited site w number k pair there now entered after kept node)
                  (acts-there node entered.role entered.processor (awaited_by site number now) (request ∷ [])
                  (seat.role ∙ role) (seat.processor ∙ sym sent.here) (asked-last opener opens ∙ sym carried))
                  (acts-none node (copy_of k pair).role (copy_of k pair).processor (awaited_by site number before)
                  (at-none site number before point.Ask at (λ same. cc)));
              waiting = waiting-stays site w number k pair there now entered after kept node seat waits;
              in_hand = held-stays site w number k pair there now entered after kept node seat refl;
            }

  own-linked : (number : ℕ) (k : Which) (pair : Pair) → slice_get w.processes number ≡ Some pair
      → (copy_of k pair).role ≡ Acting → {cause : Cause} {deed : Deed} {done : Act} {messages : List Message}
      {after : Around}
      → Causes site number (copy_of k pair).processor (copy_of k pair).core (around (copy_of k pair) pair w) cause deed
      done messages after
      → {core : Core} {entered : Copy} {kept : List Act}
      → Advances (openers_of site number) (copy_of k pair).core deed core
      → Enters number done w.kept (copy_of k pair) entered kept → Asks (sent_at (copy_of k pair).processor messages)
      → IsLinked (after_own number k pair core entered after kept w)
  own-linked number k pair there role by_inner (goes at) enters among = absurd among
  own-linked number k pair there role (by_take chosen) (takes block at known) enters among = absurd among
  own-linked number k pair there role (by_answer {place = place} {words = words} {block = block} known)
      (answers opener stood at hand opens said_of said) enters among =
      let reply : Message =
      Replying (record { process = number; opener = place; number = block.taken; words = words }) in
      absurd (not-asked request reply refl
      (sent-one (copy_of k pair).processor node (Asking request) (reply ∷ []) among).among)
  own-linked number k pair there role (by_device stood) (acts at call) enters among = absurd among
  own-linked number k pair there role (by_write new) (acts at call) enters among = absurd among
  own-linked number k pair there role (by_reply sent opens same said) (gets at named) enters among = absurd among
  own-linked number k pair there role {after = after} (by_ask {file = file} {words = words}) {entered = entered}
      {kept = kept} (asks at named said) enters among =
      asked-linked number k pair there role file words at named said entered kept after (entered-seat enters) refl among

  -- what goes from copy to copy is no request
  passes-none : {number : ℕ} {downs : List Down} {kept after : List Act} {pair next : Pair} {cause : Cause}
      {sendings : List Sending} → Passes number downs kept pair cause sendings next after → Asks sendings → ⊥
  passes-none {number = number} {pair = pair} (by_send k role at unsent unmarked) among =
      not-asked request (Checkpointing (checkpoint_of number (copy_of k pair))) refl
      (sent-one (copy_of k pair).processor node (Asking request)
      (Checkpointing (checkpoint_of number (copy_of k pair)) ∷ []) among).among
  passes-none (by_pass_again k role at may less) among = absurd among
  passes-none (by_pass k role at may most) among = absurd among
  passes-none (by_end k role sent away may) among = absurd among
  passes-none {pair = pair} (by_apply_behind k message applied role known era number put at) among =
      not-asked request (Taking (taken_of message)) refl
      (sent-one (copy_of k pair).processor node (Asking request) (Taking (taken_of message) ∷ []) among).among
  passes-none {pair = pair} (by_apply k message applied role known era number put at) among =
      not-asked request (Taking (taken_of message)) refl
      (sent-one (copy_of k pair).processor node (Asking request) (Taking (taken_of message) ∷ []) among).among
  passes-none (by_acknowledge k taken role sent known era same) among = absurd among

  -- nor is what is told at a takeover
  told-none : (marking processor : ℕ) (pair : Pair) → Asks (told_at_down marking processor pair) → ⊥
  told-none marking processor pair = by (taker marking processor pair)
    where
      by : (found : Option Which) → Asks (takeover_sendings found pair) → ⊥
      by None among = absurd among
      by (Some k) among =
          no-request request (all_repeated (copy_of k pair).core.receive (copy_of k pair).waiting)
          (sent-one (copy_of k pair).processor node (Asking request)
          (map Replying (all_repeated (copy_of k pair).core.receive (copy_of k pair).waiting)) among).among

  -- a terminal enters a request
  enter-linked : (next : World) (words : List ℤ) (number : ℕ) (terminal : Terminal) (opener : Opener)
      → slice_get w.terminals number ≡ Some terminal → terminal.entered ≡ terminal.printed
      → next_request site number terminal.entered ≡ Some words → opener_of site (who.Terminal number) ≡ Some opener
      → next.processes ≡ w.processes
      → next.terminals ≡ slice_set w.terminals number (record terminal { entered = terminal.entered + 1 })
      → Asks (sent_at terminal_node (Asking (entered_request opener terminal words) ∷ [])) → IsLinked next
  enter-linked next words number terminal opener there even asked opens processes terminals among =
      let following : Terminal = record terminal { entered = terminal.entered + 1 } in
      let sent = sent-one terminal_node node (Asking request) (Asking (entered_request opener terminal words) ∷ [])
      among in
      let carried = ap asked_in (only (Asking request) _ sent.among) in
      let odd : (terminal.entered + 1 == terminal.printed + 1) ≡ true =
      eq-eqb (terminal.entered + 1) (terminal.printed + 1) (ap (λ (n : ℕ). n + 1) even) in
      let back : terminal.entered + 1 - 1 ≡ terminal.entered = omega arith in
      let now : awaited_from site number following ≡ request ∷ [] =
      ap (λ (b : Bool). if b then entered_last (terminal.entered + 1) (opener_of site (who.Terminal number))
      (next_request site number (terminal.entered + 1 - 1)) else []) odd
      ∙ ap (λ (n : ℕ). entered_last (terminal.entered + 1) (opener_of site (who.Terminal number))
      (next_request site number n)) back
      ∙ ap (entered_last (terminal.entered + 1) (opener_of site (who.Terminal number))) asked
      ∙ ap (λ (o : Option Opener). entered_last (terminal.entered + 1) o (Some words)) opens
      ∙ sym carried in
      let none : awaited_from site number terminal ≡ [] =
      ap (λ (b : Bool). if b then entered_last terminal.entered (opener_of site (who.Terminal number))
      (next_request site number (terminal.entered - 1)) else [])
      (ne_eqb terminal.entered (terminal.printed + 1) (λ same. absurd (omega (arith, same, even)))) in
      record {
        awaited =
            one-put request
            (terminal-awaited site w next node number terminal following there sent.here processes terminals) now none;
        waiting = terminal-waiting site w next node number terminal following there sent.here processes terminals;
        in_hand = terminal-held site w next node number terminal following there sent.here processes terminals;
      }

  pub sent-linked : (next : World) (cause : Cause) (sendings : List Sending) → Change site w cause sendings next
      → Asks sendings → IsLinked next
  sent-linked next cause sendings (by_own number k pair there role causes advances enters free) among =
      own-linked number k pair there role causes advances enters among
  sent-linked next cause sendings (by_checkpoint number pair there passes) among = absurd (passes-none passes among)
  sent-linked next cause sendings (by_request asked k pair known there role) among =
      absurd (no-request request (reply_sent_again (copy_of k pair).core.receive asked)
      (sent-one (copy_of k pair).processor node (Asking request)
      (map Replying (reply_sent_again (copy_of k pair).core.receive asked)) among).among)
  sent-linked next cause sendings (by_early_request asked k pair known there role) among = absurd among
  sent-linked next cause sendings (by_enter {words = words} number terminal opener there even asked opens) among =
      enter-linked next words number terminal opener there even asked opens refl refl among
  sent-linked next cause sendings (by_print number terminal reply there odd known opens same) among = absurd among
  sent-linked next cause sendings (by_stop processor runs whole) among = absurd among
  sent-linked next cause sendings (by_reload processor gone is_marked there less) among = absurd among
  sent-linked next cause sendings (by_mark marking processor down runs unmarked) among =
      let of = among-flat_map (told_at_down marking processor) w.processes _ among in
      absurd (told-none marking processor of.item of.within)

-- What a node sends again

-- requests that are sent again are awaited
again-among : (before : World) (node processor : ℕ) (request : Request) (requests : List Request)
    → IsAmong (Asking request) (rerouted before node processor requests) → IsAmong request requests
again-among before node processor request requests among =
    let from = among-map Asking _ (Asking request) among in
    let same : request ≡ from.item =
    only request from.item (subst (IsAmong request) (ap asked_in from.same) (inl refl)) in
    subst (λ (r : Request). IsAmong r requests) (sym same)
    (among-filter from.item (λ (r : Request). again.is_rerouted before node processor r.process) requests
    from.among).0

module _ (request : Request) (f : ℕ → Copy → List Message) (g : ℕ → Copy → List Request)
    (gives : (m : ℕ) (copy : Copy) → IsAmong (Asking request) (f m copy) → IsAmong request (g m copy)) where
  copies-among : (n : ℕ) (pairs : List Pair) → IsAmong (Asking request) (again.of_copies f n pairs)
      → IsAmong request (of_copies g n pairs)
  copies-among n [] among = absurd among
  copies-among n (pair ∷ pairs) among =
      elim (among-either (Asking request) (f n pair.first ++ f n pair.second) (again.of_copies f (n + 1) pairs) among) [
        | inl here ↦ among-left request (g n pair.first ++ g n pair.second) (of_copies g (n + 1) pairs) (both here)
        | inr later ↦ among-right request (g n pair.first ++ g n pair.second) (of_copies g (n + 1) pairs)
            (copies-among (n + 1) pairs later)
      ]
    where
      both : IsAmong (Asking request) (f n pair.first ++ f n pair.second)
          → IsAmong request (g n pair.first ++ g n pair.second)
      both here =
          elim (among-either (Asking request) (f n pair.first) (f n pair.second) here) [
            | inl one ↦ among-left request (g n pair.first) (g n pair.second) (gives n pair.first one)
            | inr two ↦ among-right request (g n pair.first) (g n pair.second) (gives n pair.second two)
          ]

module _ (request : Request) (f : ℕ → Terminal → List Message) (g : ℕ → Terminal → List Request)
    (gives : (m : ℕ) (terminal : Terminal) → IsAmong (Asking request) (f m terminal) → IsAmong request (g m terminal))
  where
    terminals-among : (n : ℕ) (terminals : List Terminal) → IsAmong (Asking request) (again.of_terminals f n terminals)
        → IsAmong request (of_terminals g n terminals)
    terminals-among n [] among = absurd among
    terminals-among n (terminal ∷ terminals) among =
        elim (among-either (Asking request) (f n terminal) (again.of_terminals f (n + 1) terminals) among) [
          | inl here ↦ among-left request (g n terminal) (of_terminals g (n + 1) terminals) (gives n terminal here)
          | inr later ↦ among-right request (g n terminal) (of_terminals g (n + 1) terminals)
              (terminals-among (n + 1) terminals later)
        ]

module _ (site : Site) (before next : World) (node processor : ℕ) (request : Request) where
  acting-among : (role : Role) (at : ℕ) (requests : List Request)
      → IsAmong (Asking request) (if_acts_on node role at (rerouted before node processor requests))
      → IsAmong request (if_acts_on node role at requests)
  acting-among Acting at requests among = by (at == node) among
    where
      by : (b : Bool) → IsAmong (Asking request) (if b then rerouted before node processor requests else [])
          → IsAmong request (if b then requests else [])
      by true among = again-among before node processor request requests among
      by false among = absurd among
  acting-among Watching at requests among = absurd among
  acting-among Blank at requests among = absurd among
  acting-among Gone at requests among = absurd among

  -- a reply that is told again is no request
  telling-none : (role : Role) (at : ℕ) (number : ℕ) (copy : Copy)
      → IsAmong (Asking request) (if_acts_on node role at (map Replying
      (kept_from before node processor number copy.core.receive 0 (openers_of site number))))
      → IsAmong request []
  telling-none Acting at number copy among = by (at == node) among
    where
      by : (b : Bool) → IsAmong (Asking request) (if b then map Replying
          (kept_from before node processor number copy.core.receive 0 (openers_of site number)) else [])
          → IsAmong request []
      by true among =
          no-request request (kept_from before node processor number copy.core.receive 0 (openers_of site number)) among
      by false among = among
  telling-none Watching at number copy among = among
  telling-none Blank at number copy among = among
  telling-none Gone at number copy among = among

  none-told : (n : ℕ) (pairs : List Pair) → IsAmong request (of_copies (λ number copy. []) n pairs) → ⊥
  none-told n [] among = among
  none-told n (pair ∷ pairs) among = none-told (n + 1) pairs among

  asked-there : IsAmong (Asking request) (again.of_copies (asks_again site before node processor) 0 next.processes)
      → IsAmong request (of_copies (awaited_at site node) 0 next.processes)
  asked-there =
      copies-among request (asks_again site before node processor) (awaited_at site node)
      (λ m copy among. acting-among copy.role copy.processor (awaited_by site m copy.core) among) 0 next.processes

  entered-there : (b : Bool)
      → IsAmong (Asking request) (if b then again.of_terminals
      (λ number terminal. rerouted before node processor (awaited_from site number terminal)) 0 next.terminals else [])
      → IsAmong request (if b then of_terminals (awaited_from site) 0 next.terminals else [])
  entered-there true among =
      terminals-among request (λ number terminal. rerouted before node processor (awaited_from site number terminal))
      (awaited_from site)
      (λ m terminal there. again-among before node processor request (awaited_from site m terminal) there) 0
      next.terminals among
  entered-there false among = absurd among

  told-there : IsAmong (Asking request) (again.of_copies (tells_again site before node processor) 0 next.processes) → ⊥
  told-there among =
      none-told 0 next.processes
      (copies-among request (tells_again site before node processor) (λ number copy. [])
      (λ m copy told. telling-none copy.role copy.processor m copy told) 0 next.processes among)

  pub again-linked : (at : ℕ)
      → IsAmong (record { node = at; message = Asking request }) (sent_again site before next node processor)
      → IsAmong request (needs_at site next at).awaited
  again-linked at among =
      let sent = sent-one node at (Asking request) (asking ++ entering ++ telling) among in
      subst (λ (n : ℕ). IsAmong request (needs_at site next n).awaited) (sym sent.here)
      (elim (among-either (Asking request) (asking ++ entering) telling sent.among) [
        | inl early ↦ elim (among-either (Asking request) asking entering early) [
          | inl copies ↦ among-left request (of_copies (awaited_at site node) 0 next.processes) entered
              (asked-there copies)
          | inr terminals ↦ among-right request (of_copies (awaited_at site node) 0 next.processes) entered
              (entered-there (node == terminal_node) terminals)
        ]
        | inr told ↦ absurd (told-there told)
      ])
    where
      asking : List Message
      asking = again.of_copies (asks_again site before node processor) 0 next.processes

      entering : List Message
      entering = terminals_ask site before node processor next.terminals

      telling : List Message
      telling = again.of_copies (tells_again site before node processor) 0 next.processes

      entered : List Request
      entered = if node == terminal_node then of_terminals (awaited_from site) 0 next.terminals else []
