-- A terminal awaits at most one reply, and enters its requests one after the other.
use Rattle.std.proofs.Common.{◌≡◌, ◌≤◌, inl, inr, ℕ, ◌+◌, ℤ, List, [], ◌∷◌, Some, slice_get, refl, sym, ap, subst, ◌∙◌}
use Rattle.std.proofs.Common.{arith}
use Rattle.checkpoint_image.specs.gd_words.specs.Members.{IsAmong}
use Rattle.checkpoint_image.specs.gd_words.specs.declared.message.Request.{Request}
use Rattle.checkpoint_image.specs.tal_tree.specs.declared.act.Act.{Act}
use Rattle.checkpoint_image.specs.tal_tree.specs.declared.site.Site.{Site}
use Rattle.checkpoint_image.specs.tal_tree.specs.declared.site.Who.TheVariants as who
use Rattle.schedule.specs.declared.event.Event.{Event}
use Rattle.plain_semantics.specs.declared.slot.Opener.{Opener}
use Rattle.plain_semantics.specs.Openers.{opener_of}
use Rattle.plain_semantics.specs.Machine.{next_request}
use Rattle.world_semantics.specs.Core.{Core, Deed}
use Rattle.world_semantics.specs.World.{Pair, Down, Terminal, World, terminal_node, boot}
use Rattle.world_semantics.specs.Messages.{Message, Asking, Sending, sent_at, Cause, Entering}
use Rattle.world_semantics.specs.Own.{Around, Causes, by_inner, by_take, by_ask, by_answer, by_device, by_write}
use Rattle.world_semantics.specs.Own.{by_reply}
use Rattle.world_semantics.specs.Passes.{Passes, by_send, by_pass_again, by_pass, by_end, by_apply_behind}
use Rattle.world_semantics.specs.Passes.{by_apply, by_acknowledge}
use Rattle.world_semantics.specs.Rules.{Change, by_own, by_checkpoint, by_request, by_early_request, by_enter, by_print}
use Rattle.world_semantics.specs.Rules.{by_stop, by_mark, by_reload, entered_request}
use Rattle.world_semantics.specs.Follows.{IsRun}
use Rattle.world_semantics.specs.Laws.{IsNextOf}
use Rattle.world_semantics.proofs.Lists.{some-same, set-all, mapped}
use Rattle.world_semantics.proofs.Runs.{holds-on}

-- a terminal has printed as many replies as it entered requests, or one less
pub record AwaitsOne (terminal : Terminal) : Type 0 where
  pub printed : terminal.printed ≤ terminal.entered
  pub entered : terminal.entered ≤ terminal.printed + 1

abbrev pub AllAwaitOne : World → Type 0
AllAwaitOne w = (number : ℕ) (terminal : Terminal) → slice_get w.terminals number ≡ Some terminal → AwaitsOne terminal

change-awaits : {site : Site} (w next : World) (cause : Cause) (sendings : List Sending)
    → Change site w cause sendings next → AllAwaitOne w → AllAwaitOne next
change-awaits w next cause sendings (by_own number k pair there r c a e fr) ok = ok
change-awaits w next cause sendings (by_checkpoint number pair there p) ok = ok
change-awaits w next cause sendings (by_request request k pair i there r) ok = ok
change-awaits w next cause sendings (by_early_request request k pair i there r) ok = ok
change-awaits w next cause sendings (by_enter number terminal opener t e r o) ok =
    set-all (λ n. AwaitsOne) w.terminals number _ ok (record { printed = omega (arith, e); entered = omega (arith, e) })
change-awaits w next cause sendings (by_print number terminal reply t e i o n) ok =
    set-all (λ n. AwaitsOne) w.terminals number _ ok (record { printed = omega (arith, e); entered = omega (arith, e) })
change-awaits w next cause sendings (by_stop x r h) ok = ok
change-awaits w next cause sendings (by_mark node x s r n) ok = ok
change-awaits w next cause sendings (by_reload x s m t l) ok = ok

awaits-begin : (site : Site) → AllAwaitOne (boot site)
awaits-begin site number terminal there =
    let was = mapped _ site.terminals number terminal there in
    subst AwaitsOne (sym was.2) (record { printed = omega arith; entered = omega arith })

pub run-awaits : {site : Site} {events : List Event} {w : World} → IsRun site events w → AllAwaitOne w
run-awaits {site = site} run = holds-on AllAwaitOne change-awaits run (awaits-begin site)

-- What a terminal enters

-- a request that a terminal sends is its next one
abbrev pub SendsNext : Site → ℕ → Terminal → Sending → Type 0
SendsNext site number terminal sending =
    (request : Request) × (sending ≡ record { node = terminal_node; message = Asking request })
    × IsNextOf site number terminal request

same-entering : {one other : ℕ} → Entering one ≡ Entering other → one ≡ other
same-entering e = cc

own-enters-none : {site : Site} {number node terminal : ℕ} {core : Core} {before after : Around} {cause : Cause}
    {deed : Deed} {done : Act} {messages : List Message}
    → Causes site number node core before cause deed done messages after → cause ≡ Entering terminal → ⊥
own-enters-none by_inner e = cc
own-enters-none (by_take c) e = cc
own-enters-none by_ask e = cc
own-enters-none (by_answer s) e = cc
own-enters-none (by_device n) e = cc
own-enters-none (by_write n) e = cc
own-enters-none (by_reply i o n u) e = cc

passes-enter-none : {number terminal : ℕ} {downs : List Down} {kept after : List Act} {pair next : Pair}
    {cause : Cause} {sendings : List Sending}
    → Passes number downs kept pair cause sendings next after → cause ≡ Entering terminal → ⊥
passes-enter-none (by_send k r p s m) e = cc
passes-enter-none (by_pass_again k r p m l) e = cc
passes-enter-none (by_pass k r p m l) e = cc
passes-enter-none (by_end k r s p m) e = cc
passes-enter-none (by_apply_behind k message applied r i era n a l) e = cc
passes-enter-none (by_apply k message applied r i era n a l) e = cc
passes-enter-none (by_acknowledge k taken r s i era n) e = cc

entered-one : {site : Site} (w : World) (number one : ℕ) (terminal found : Terminal) (opener : Opener) (words : List ℤ)
    (sending : Sending) → one ≡ number
    → slice_get w.terminals number ≡ Some terminal → slice_get w.terminals one ≡ Some found
    → next_request site one found.entered ≡ Some words
    → opener_of site (who.Terminal one) ≡ Some opener
    → IsAmong sending (sent_at terminal_node (Asking (entered_request opener found words) ∷ []))
    → SendsNext site number terminal sending
entered-one {site = site} w number one terminal found opener words sending same there here q o (inl is) =
    let t : found ≡ terminal = some-same (sym here ∙ ap (slice_get w.terminals) same ∙ there) in
    subst (λ n. SendsNext site n terminal sending) same
    (subst (λ f. SendsNext site one f sending) t
    (entered_request opener found words, is, record { opens = o; next = refl; words = q }))
entered-one w number one terminal found opener words sending same there here q o (inr none) = absurd none

pub only-entered : {site : Site} (w next : World) (number : ℕ) (terminal : Terminal) (cause : Cause)
    (sendings : List Sending) (sending : Sending)
    → cause ≡ Entering number → Change site w cause sendings next → slice_get w.terminals number ≡ Some terminal
    → IsAmong sending sendings
    → SendsNext site number terminal sending
only-entered w next number terminal cause sendings sending e (by_own n k pair p r c a enters fr) there i =
    absurd (own-enters-none c e)
only-entered w next number terminal cause sendings sending e (by_checkpoint n pair t p) there i =
    absurd (passes-enter-none p e)
only-entered w next number terminal cause sendings sending e (by_request request k pair j t r) there i = absurd (cc)
only-entered w next number terminal cause sendings sending e (by_early_request request k pair j t r) there i =
    absurd (cc)
only-entered w next number terminal cause sendings sending e (by_enter {words = words} one found opener t f q o) there
    i =
    entered-one w number one terminal found opener words sending (same-entering e) there t q o i
only-entered w next number terminal cause sendings sending e (by_print n found reply t f j o m) there i = absurd (cc)
only-entered w next number terminal cause sendings sending e (by_stop x s h) there i = absurd (cc)
only-entered w next number terminal cause sendings sending e (by_mark m x s q n) there i = absurd (cc)
only-entered w next number terminal cause sendings sending e (by_reload x s m t l) there i = absurd (cc)
