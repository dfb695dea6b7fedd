-- A disc that stands at its beginning and has nothing to take is idle.
use Rattle.std.proofs.Common.{◌≡◌, ◌≢◌, ℕ, zero, suc, ℤ, Bool, true, false, List, [], ◌∷◌, Some, None, slice_get, refl}
use Rattle.std.proofs.Common.{subst}
use Rattle.gd_words.specs.Members.{IsAmong}
use Rattle.tal_tree.specs.declared.act.Act.{Act}
use Rattle.tal_tree.specs.declared.site.Site.{Site}
use Rattle.plain_semantics.specs.Machine.{next_request}
use Rattle.world_semantics.specs.declared.which.Which.{Which}
use Rattle.world_semantics.specs.declared.which.Which.TheVariants.{First, Second}
use Rattle.world_semantics.specs.Core.{Core, Deed}
use Rattle.world_semantics.specs.Messages.{Message, Sending, Cause, Entering}
use Rattle.world_semantics.specs.Own.{Around, Causes, by_inner, by_take, by_ask, by_answer, by_device, by_write}
use Rattle.world_semantics.specs.Own.{by_reply}
use Rattle.world_semantics.specs.Passes.{Passes, by_send, by_pass_again, by_pass, by_end, by_apply_behind, by_apply}
use Rattle.world_semantics.specs.Passes.{by_acknowledge}
use Rattle.world_semantics.specs.Rules.{Change, by_own, by_checkpoint, by_request, by_early_request, by_enter, by_print}
use Rattle.world_semantics.specs.Rules.{by_stop, by_mark, by_reload}
use Rattle.world_semantics.specs.Running.{run_done}
use Rattle.world_semantics.specs.World.{Pair, Terminal, Down, World, pair_at_boot, copy_of}
use Rattle.world_semantics.proofs.Lists.{some-same}
use Rattle.world_semantics.proofs.Ran.{run-idle}
use Rattle.letters.specs.Idle.{IsIdle}
use Rattle.letters.specs.Posts.{Post}
use Rattle.letters.specs.Routes.{Letter}
use Rattle.process_histories.specs.Served.{disc}

-- Only a terminal that lacks no reply and has a request left enters

not-own : {site : Site} {number node terminal : ℕ} {core : Core} {before after : Around} {cause : Cause} {deed : Deed}
    {act : Act} {messages : List Message}
    → Causes site number node core before cause deed act messages after → cause ≢ Entering terminal
not-own by_inner same = cc
not-own (by_take found) same = cc
not-own by_ask same = cc
not-own (by_answer placed) same = cc
not-own (by_device old) same = cc
not-own (by_write new) same = cc
not-own (by_reply among opens last said) same = cc

not-passes : {number terminal : ℕ} {downs : List Down} {kept after : List Act} {pair next : Pair} {cause : Cause}
    {sendings : List Sending}
    → Passes number downs kept pair cause sendings next after → cause ≢ Entering terminal
not-passes (by_send k role at unsent unmarked) same = cc
not-passes (by_pass_again k role at may less) same = cc
not-passes (by_pass k role at may most) same = cc
not-passes (by_end k role sent at may) same = cc
not-passes (by_apply_behind k message applied role among era number put less) same = cc
not-passes (by_apply k message applied role among era number put most) same = cc
not-passes (by_acknowledge k taken role sent among era number) same = cc

entering-same : {one other : ℕ} → Entering one ≡ Entering other → one ≡ other
entering-same same = cc

-- a terminal that enters awaits no reply, and has a request left
pub record Enters (site : Site) (w : World) (number : ℕ) : Type 0 where
  pub terminal : Terminal
  pub there : slice_get w.terminals number ≡ Some terminal
  pub even : terminal.entered ≡ terminal.printed
  pub words : List ℤ
  pub next : next_request site number terminal.entered ≡ Some words

pub entering-even : {site : Site} {w next : World} {cause : Cause} {sendings : List Sending} (number : ℕ)
    → Change site w cause sendings next → cause ≡ Entering number → Enters site w number
entering-even number (by_own one k pair there role causes advances enters fr) same = absurd (not-own causes same)
entering-even number (by_checkpoint one pair there passes) same = absurd (not-passes passes same)
entering-even number (by_request request k pair among there role) same = absurd (cc)
entering-even number (by_early_request request k pair among there role) same = absurd (cc)
entering-even {site = site} {w = w} number (by_enter {words = words} one terminal opener there even next opens) same =
    subst (Enters site w) (entering-same same)
    (record { terminal = terminal; there = there; even = even; words = words; next = next })
entering-even number (by_print one terminal reply there waits among opens last) same = absurd (cc)
entering-even number (by_stop processor running whole) same = absurd (cc)
entering-even number (by_mark node processor stopped runs unmarked) same = absurd (cc)
entering-even number (by_reload processor stopped all counted less) same = absurd (cc)

-- The disc

pub none-stopped : (processor : ℕ) → slice_get (false ∷ false ∷ []) processor ≡ Some true → ⊥
none-stopped zero stopped = cc
none-stopped (suc zero) stopped = cc
none-stopped (suc (suc processor)) stopped = cc

unsent : (site : Site) (number : ℕ) (pair : Pair) (k : Which)
    → slice_get (pair_at_boot site 0 disc ∷ []) number ≡ Some pair → (copy_of k pair).sent ≡ false
unsent site zero pair k there = subst (λ (p : Pair). (copy_of k p).sent ≡ false) (some-same there) (by k)
  where
    by : (k : Which) → (copy_of k (pair_at_boot site 0 disc)).sent ≡ false
    by First = refl
    by Second = refl
unsent site (suc number) pair k there = absurd (cc)

pub disc-idle : (site : Site) (post : Post) → post.world.processes ≡ pair_at_boot site 0 disc ∷ []
    → post.world.stopped ≡ false ∷ false ∷ [] → post.owed ≡ []
    → ((number : ℕ) (terminal : Terminal) → slice_get post.world.terminals number ≡ Some terminal
    → terminal.entered ≢ terminal.printed)
    → ((number : ℕ) → run_done site number post.world ≡ None) → IsIdle site post
disc-idle site post processes stopped owed lacks none = record {
  enters = λ number sendings next change.
      (let has = entering-even number change refl in lacks number has.terminal has.there has.even);
  runs = λ number. run-idle site number post.world (none number);
  waits = λ number pair k there role. unsent site number pair k
      (subst (λ (all : List Pair). slice_get all number ≡ Some pair) processes there);
  owed = λ letter among sender receiver. subst (λ (all : List Letter). IsAmong letter all) owed among;
  marked = λ node processor runs down. absurd
      (none-stopped processor (subst (λ (all : List Bool). slice_get all processor ≡ Some true) stopped down));
}
