-- What is awaited after a change was awaited before it, or is asked by it; and a reply that comes isn't awaited
-- afterwards.
use Rattle.std.proofs.Common.{◌≡◌, ◌≢◌, inl, ℕ, ◌+◌, ℤ, List, [], ◌∷◌, Some, slice_get, slice_set, refl, ap, sym, ◌∙◌}
use Rattle.std.proofs.Common.{subst, arith}
use Rattle.gd_words.specs.Members.{IsAmong}
use Rattle.gd_words.specs.declared.message.Reply.{Reply}
use Rattle.tal_tree.specs.declared.act.Act.{Act}
use Rattle.tal_tree.specs.declared.site.Site.{Site}
use Rattle.tal_tree.specs.declared.site.Who.{Who}
use Rattle.tal_tree.specs.declared.site.Who.TheVariants as who
use Rattle.process_semantics.specs.declared.point.Point.TheVariants as point
use Rattle.process_semantics.specs.Process as process
use Rattle.plain_semantics.specs.declared.slot.Opener.{Opener}
use Rattle.plain_semantics.specs.Openers.{openers_of, opener_of}
use Rattle.world_semantics.specs.declared.role.Role.TheVariants.{Acting}
use Rattle.world_semantics.specs.declared.which.Which.{Which}
use Rattle.world_semantics.specs.declared.which.Which.TheVariants.{First, Second}
use Rattle.world_semantics.specs.Core.{Core, Deed, Advances, gets, next_on}
use Rattle.world_semantics.specs.World.{Copy, Pair, Terminal, Down, World, terminal_node, copy_of, with_copy}
use Rattle.world_semantics.specs.Messages.{Message, Asking, Replying, Sending, sent_at, Cause, Handing}
use Rattle.world_semantics.specs.Own.{Around, around, Causes, by_inner, by_take, by_ask, by_answer, by_device, by_write}
use Rattle.world_semantics.specs.Own.{by_reply}
use Rattle.world_semantics.specs.Passes.{Passes, by_send, by_pass_again, by_pass, by_end, by_apply_behind, by_apply}
use Rattle.world_semantics.specs.Passes.{by_acknowledge}
use Rattle.world_semantics.specs.Rules.{Change, by_own, by_checkpoint, by_request, by_early_request, by_enter, by_print}
use Rattle.world_semantics.specs.Rules.{by_stop, by_mark, by_reload, entered_request}
use Rattle.world_semantics.proofs.Becoming.{acting-gets-none}
use Rattle.world_semantics.proofs.Lists.{some-same, Changed, is_new, is_same, changed}
use Rattle.world_semantics.proofs.Reached.{one-acts}
use Rattle.letter_laws.specs.process_histories.proofs.Steady.{calm-away, got-calm}
use Rattle.letter_laws.specs.plain_histories.proofs.Openers.{opener-one}
use Rattle.letter_laws.specs.takeover_laws.specs.Fit.{IsFit}
use Rattle.letter_laws.specs.takeover_laws.proofs.Kept.{IsGood}
use Rattle.letter_laws.specs.awaited_requests.specs.Awaited.{IsAwaited, by_copy, by_terminal}
use Rattle.letter_laws.specs.awaited_requests.specs.Served.{request_of}
use Rattle.letter_laws.specs.Known.{WatchersAreCalm}
use Rattle.served_requests.proofs.Routes.{IsNoReload}
use Rattle.served_requests.proofs.Turned.{change-turned}
use Rattle.served_requests.proofs.Turns.{steady, Turns, is_quiet, has_asked, has_taken, has_answered, has_heard}
use Rattle.served_requests.proofs.Turns.{has_heard_early, has_taken_over}

-- what is awaited after a change was before, or is asked now
pub data WasAwaited (site : Site) (w : World) (sendings : List Sending) (asker : ℕ) (one : Who) (n : ℕ) : Type 0 where
  was_awaited : IsAwaited site w asker one n → WasAwaited site w sendings asker one n
  is_asked : (words : List ℤ)
      → ((opener : Opener) → opener_of site one ≡ Some opener
      → IsAmong (record { node = asker; message = Asking (request_of opener n words) }) sendings)
      → WasAwaited site w sendings asker one n

same-reply : {node at : ℕ} {one other : Reply} → Handing node (Replying one) ≡ Handing at (Replying other) → one ≡ other
same-reply same = cc

passes-no-reply : {number at : ℕ} {downs : List Down} {kept after : List Act} {pair next : Pair} {cause : Cause}
    {sendings : List Sending} {reply : Reply}
    → Passes number downs kept pair cause sendings next after → cause ≡ Handing at (Replying reply) → ⊥
passes-no-reply (by_send k role at unsent unmarked) same = cc
passes-no-reply (by_pass_again k role at may less) same = cc
passes-no-reply (by_pass k role at may most) same = cc
passes-no-reply (by_end k role sent at may) same = cc
passes-no-reply (by_apply_behind k message applied role among era is put less) same = cc
passes-no-reply (by_apply k message applied role among era is put most) same = cc
passes-no-reply (by_acknowledge k taken role sent among era is) same = cc

module _ (site : Site) (fit : IsFit site) (events : ℕ) (w : World) (good : IsGood site events w)
    (calm : WatchersAreCalm w) where
  terminal-before : {next : World} {cause : Cause} {sendings : List Sending} → Change site w cause sendings next
      → (number : ℕ) (terminal : Terminal)
      → slice_get next.terminals number ≡ Some terminal → terminal.entered ≡ terminal.printed + 1
      → WasAwaited site w sendings terminal_node (who.Terminal number) terminal.entered
  terminal-before (by_own at k pair there role causes advances enters fr) number terminal is odd =
      was_awaited (by_terminal terminal is odd)
  terminal-before (by_checkpoint at pair there passes) number terminal is odd =
      was_awaited (by_terminal terminal is odd)
  terminal-before (by_request request k pair among there role) number terminal is odd =
      was_awaited (by_terminal terminal is odd)
  terminal-before (by_early_request request k pair among there role) number terminal is odd =
      was_awaited (by_terminal terminal is odd)
  terminal-before (by_stop processor runs whole) number terminal is odd = was_awaited (by_terminal terminal is odd)
  terminal-before (by_reload processor stopped all counted less) number terminal is odd =
      was_awaited (by_terminal terminal is odd)
  terminal-before (by_mark node processor stopped runs unmarked) number terminal is odd =
      was_awaited (by_terminal terminal is odd)
  terminal-before (by_enter {words = words} at before to there even next opens) number terminal is odd =
      of (changed w.terminals at (record before { entered = before.entered + 1 }) number terminal is)
    where
      of : Changed w.terminals at (record before { entered = before.entered + 1 }) number terminal
          → WasAwaited site w (sent_at terminal_node (Asking (entered_request to before words) ∷ [])) terminal_node
          (who.Terminal number) terminal.entered
      of (is_new here new) = is_asked words (λ opener opened.
          let same : to ≡ opener = some-same (sym opens ∙ ap (λ t. opener_of site (who.Terminal t)) here ∙ opened) in
          let entered : terminal.entered ≡ before.entered + 1 = ap (λ t. t.entered) new in
          inl (rw (← same, entered) refl))
      of (is_same apart old) = was_awaited (by_terminal terminal old odd)
  terminal-before (by_print at before reply there was_odd among opens last) number terminal is odd =
      of (changed w.terminals at (record before { printed = before.printed + 1 }) number terminal is)
    where
      of : Changed w.terminals at (record before { printed = before.printed + 1 }) number terminal
          → WasAwaited site w [] terminal_node (who.Terminal number) terminal.entered
      of (is_new here new) =
          let entered : terminal.entered ≡ before.entered = ap (λ t. t.entered) new in
          let printed : terminal.printed ≡ before.printed + 1 = ap (λ t. t.printed) new in
          absurd (omega (arith, odd, was_odd, entered, printed))
      of (is_same apart old) = was_awaited (by_terminal terminal old odd)

  copy-before : {cause : Cause} {sendings : List Sending} (number file n : ℕ) (before : Pair) (k : Which) (after : Copy)
      → slice_get w.processes number ≡ Some before
      → after.processor ≡ (copy_of k before).processor → Turns site number cause sendings (copy_of k before) after
      → after.role ≡ Acting
      → process.point after.core.state ≡ point.Await → process.asked_file after.core.state ≡ file
      → next_on after.core file ≡ n + 1
      → WasAwaited site w sendings after.processor (who.File number file) n
  copy-before {sendings = sendings} number file n before k after there seat turns role at on last =
      subst (λ p. WasAwaited site w sendings p (who.File number file) n) (sym seat) (of turns)
    where
      same : (copy_of k before).role ≡ Acting → after.core ≡ (copy_of k before).core
          → WasAwaited site w sendings (copy_of k before).processor (who.File number file) n
      same acted core =
          was_awaited (by_copy before k there acted (subst (λ c. process.point c.state ≡ point.Await) core at)
          (subst (λ c. process.asked_file c.state ≡ file) core on) (subst (λ c. next_on c file ≡ n + 1) core last))

      of : {cause : Cause} → Turns site number cause sendings (copy_of k before) after
          → WasAwaited site w sendings (copy_of k before).processor (who.File number file) n
      of (is_quiet quiet) = same (quiet.acts role) (quiet.awaits role at)
      of (has_asked words acted acts table waits sent) =
          is_asked words (λ opener opens. sent file n opener on last opens)
      of (has_taken found block acted acts away free is known table rest) = absurd (away at)
      of (has_answered place depth said block acted acts away hand known table waits sent) = absurd (away at)
      of (has_heard request acted acts core process waits told is) = same acted core
      of (has_heard_early request watched watches process waits is) =
          absurd (acting-gets-none after.role role watches)
      of (has_taken_over watched acts away table waits told) = absurd (away at)

  pub awaited-before : {next : World} {cause : Cause} {sendings : List Sending} → Change site w cause sendings next
      → IsNoReload cause → {asker : ℕ} {one : Who} {n : ℕ}
      → IsAwaited site next asker one n → WasAwaited site w sendings asker one n
  awaited-before change no_reload (by_copy {number = number} {file = file} {n = n} pair k there role at on last) =
      let turned = change-turned site fit events w good calm change no_reload number pair there in
      copy-before number file n turned.before k (copy_of k pair) turned.there (turned.goes k).0 (turned.goes k).1 role
      at on last
  awaited-before change no_reload (by_terminal {number = number} terminal there odd) =
      terminal-before change number terminal there odd

  -- Replies

  -- a copy that got a reply doesn't await one
  got-away : (number : ℕ) (pair : Pair) (k : Which) → slice_get w.processes number ≡ Some pair
      → (copy_of k pair).role ≡ Acting
      → {cause : Cause} {deed : Deed} {done : Act} {messages : List Message} {after : Around} {core : Core}
      → Causes site number (copy_of k pair).processor (copy_of k pair).core (around (copy_of k pair) pair w) cause deed
      done messages after
      → Advances (openers_of site number) (copy_of k pair).core deed core → (at : ℕ) (reply : Reply)
      → cause ≡ Handing at (Replying reply)
      → (file : ℕ) × (opener_of site (who.File number file)
      ≡ Some (record { server = reply.process; place = reply.opener })) × (process.point core.state ≢ point.Await)
  got-away number pair k there role by_inner advances at reply same = absurd (cc)
  got-away number pair k there role (by_take is) advances at reply same = absurd (cc)
  got-away number pair k there role by_ask advances at reply same = absurd (cc)
  got-away number pair k there role (by_answer known) advances at reply same = absurd (cc)
  got-away number pair k there role (by_device old) advances at reply same = absurd (cc)
  got-away number pair k there role (by_write new) advances at reply same = absurd (cc)
  got-away number pair k there role (by_reply {file = file} {words = words} {reply = one} among opens last said)
      (gets stands on) at reply same =
      let is : one ≡ reply = same-reply same in (
        file,
        subst (λ r. opener_of site (who.File number file) ≡ Some (record { server = r.process; place = r.opener })) is
            opens,
        calm-away _ (got-calm (copy_of k pair).core.state words
            (steady site fit events w good calm number pair k there role) stands),
      )

  got-none : (number : ℕ) (pair : Pair) (k : Which) (new : Copy) (sectors : _) (next : World)
      → slice_get w.processes number ≡ Some pair
      → (copy_of k pair).role ≡ Acting
      → next.processes ≡ slice_set w.processes number (with_copy k new (record pair { sectors = sectors }))
      → process.point new.core.state ≢ point.Await
      → {asker : ℕ} {one : Who} {n file : ℕ} → one ≡ who.File number file → IsAwaited site next asker one n → ⊥
  got-none number pair k new sectors next there role changes away is (by_terminal terminal at odd) = cc
  got-none number pair k new sectors next there role changes away is
      (by_copy {number = other} now j at acts awaits on last) =
      of (changed w.processes number (with_copy k new (record pair { sectors = sectors })) other now
      (subst (λ ps. slice_get ps other ≡ Some now) changes at))
    where
      same-file : {one other file at : ℕ} → who.File one file ≡ who.File other at → one ≡ other
      same-file same = cc

      by : (k j : Which) → (copy_of k pair).role ≡ Acting
          → (copy_of j (with_copy k new (record pair { sectors = sectors }))).role ≡ Acting
          → process.point (copy_of j (with_copy k new (record pair { sectors = sectors }))).core.state ≡ point.Await → ⊥
      by First First role acts awaits = away awaits
      by Second Second role acts awaits = away awaits
      by First Second role acts awaits = one-acts w.stopped pair (good.roles number pair there) role acts
      by Second First role acts awaits = one-acts w.stopped pair (good.roles number pair there) acts role

      of : Changed w.processes number (with_copy k new (record pair { sectors = sectors })) other now → ⊥
      of (is_new here new_is) =
          by k j role (subst (λ p. (copy_of j p).role ≡ Acting) new_is acts)
          (subst (λ p. process.point (copy_of j p).core.state ≡ point.Await) new_is awaits)
      of (is_same apart old) = apart (sym (same-file is))

  print-none : (number : ℕ) (terminal : Terminal) (next : World) → terminal.entered ≡ terminal.printed + 1
      → next.terminals ≡ slice_set w.terminals number (record terminal { printed = terminal.printed + 1 })
      → {asker : ℕ} {one : Who} {n : ℕ} → one ≡ who.Terminal number → IsAwaited site next asker one n → ⊥
  print-none number terminal next odd changes is (by_copy now j at acts awaits on last) = cc
  print-none number terminal next odd changes is (by_terminal {number = other} now at more) =
      of (changed w.terminals number (record terminal { printed = terminal.printed + 1 }) other now
      (subst (λ ts. slice_get ts other ≡ Some now) changes at))
    where
      same-terminal : {one other : ℕ} → who.Terminal one ≡ who.Terminal other → one ≡ other
      same-terminal same = cc

      of : Changed w.terminals number (record terminal { printed = terminal.printed + 1 }) other now → ⊥
      of (is_new here new) =
          let entered : now.entered ≡ terminal.entered = ap (λ t. t.entered) new in
          let printed : now.printed ≡ terminal.printed + 1 = ap (λ t. t.printed) new in
          omega (arith, odd, more, entered, printed)
      of (is_same apart old) = apart (sym (same-terminal is))

  -- a reply that comes isn't awaited afterwards
  pub come-none : {next : World} {cause : Cause} {sendings : List Sending} → Change site w cause sendings next
      → (at : ℕ) (reply : Reply)
      → cause ≡ Handing at (Replying reply)
      → (asker : ℕ) (one : Who) (n : ℕ) → opener_of site one
      ≡ Some (record { server = reply.process; place = reply.opener })
      → IsAwaited site next asker one n → ⊥
  come-none (by_own {after = after} {core = core} {entered = entered} number k pair there role causes advances enters
      fr) at reply same asker one n opens awaited =
      let got = got-away number pair k there role causes advances at reply same in
      got-none number pair k (record entered { core = core; waiting = after.waiting }) after.sectors _ there role refl
      got.2
      (opener-one site one (who.File number got.0) (record { server = reply.process; place = reply.opener }) opens
      got.1) awaited
  come-none (by_print number terminal printed there odd among prints last) at reply same asker one n opens awaited =
      let is : printed ≡ reply = same-reply same in
      print-none number terminal _ odd refl
      (opener-one site one (who.Terminal number) (record { server = reply.process; place = reply.opener }) opens
      (subst (λ r. opener_of site (who.Terminal number) ≡ Some (record { server = r.process; place = r.opener })) is
      prints)) awaited
  come-none (by_checkpoint number pair there passes) at reply same asker one n opens awaited =
      passes-no-reply passes same
  come-none (by_request request k pair among there role) at reply same asker one n opens awaited = cc
  come-none (by_early_request request k pair among there role) at reply same asker one n opens awaited = cc
  come-none (by_enter number terminal opener there even next opened) at reply same asker one n opens awaited = cc
  come-none (by_stop processor runs whole) at reply same asker one n opens awaited = cc
  come-none (by_mark node processor stopped runs unmarked) at reply same asker one n opens awaited = cc
  come-none (by_reload processor stopped all counted less) at reply same asker one n opens awaited = cc
