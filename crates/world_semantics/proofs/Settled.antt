-- No checkpoint is acknowledged that wasn't sent.
use Rattle.std.proofs.Common.{◌≡◌, ℕ, List, Option, Some, None, slice_get, refl, Bool, false, true, ◌==◌}
use Rattle.checkpoint_image.specs.gd_words.specs.declared.message.Request.{Request}
use Rattle.checkpoint_image.specs.tal_tree.specs.declared.act.Act.{Act}
use Rattle.checkpoint_image.specs.tal_tree.specs.declared.site.Site.{Site}
use Rattle.disc_device.specs.Sectors.{Stored}
use Rattle.world_semantics.specs.Core.{Core}
use Rattle.world_semantics.specs.World.{Copy, Pair, Down, World, Which, First, Second, copy_of, with_copy, boot}
use Rattle.world_semantics.specs.Kept.{Enters, holds_on, repeats, begins, keeps}
use Rattle.world_semantics.specs.Messages.{Sending, Cause}
use Rattle.world_semantics.specs.Passes.{Passes, by_send, by_pass_again, by_pass, by_apply, by_acknowledge}
use Rattle.world_semantics.specs.Passes.{by_apply_behind, by_end}
use Rattle.world_semantics.specs.Rules.{Change, by_own, by_checkpoint, by_request, by_early_request, by_enter, by_print}
use Rattle.world_semantics.specs.Rules.{by_stop, by_mark, stopped_pair, taker, pair_after_down, pair_at_down, new_core}
use Rattle.world_semantics.specs.Rules.{by_reload, reloaded_by, renewals_ended}
use Rattle.world_semantics.proofs.Beginning.{all-begin}
use Rattle.world_semantics.proofs.Lists.{set-all, map-all}
use Rattle.world_semantics.proofs.Ran.{IsSettled}
use Rattle.world_semantics.proofs.Roles.{reload-all}

-- of both copies of a process
pub record AreSettled (pair : Pair) : Type 0 where
  pub first : IsSettled pair.first
  pub second : IsSettled pair.second

abbrev pub AllSettled : World → Type 0
AllSettled w = (number : ℕ) (pair : Pair) → slice_get w.processes number ≡ Some pair → AreSettled pair

enters-settled : {number : ℕ} {act : Act} {kept after : List Act} {copy entered : Copy} (core : Core)
    (waiting : List Request)
    → Enters number act kept copy entered after → IsSettled copy
    → IsSettled (record entered { core = core; waiting = waiting })
enters-settled core waiting (holds_on e) ok = ok
enters-settled core waiting (repeats e l) ok = ok
enters-settled core waiting (begins e l t) ok = ok
enters-settled core waiting (keeps e l t) ok = ok

own-settled : (k : Which) (pair : Pair) (core : Core) (waiting : List Request) (sectors : List Stored) {number : ℕ}
    {act : Act} {kept after : List Act}
    {entered : Copy} → Enters number act kept (copy_of k pair) entered after → AreSettled pair
    → AreSettled (with_copy k (record entered { core = core; waiting = waiting }) (record pair { sectors = sectors }))
own-settled First pair core waiting sectors e ok =
    record { first = enters-settled core waiting e ok.first; second = ok.second }
own-settled Second pair core waiting sectors e ok =
    record { first = ok.first; second = enters-settled core waiting e ok.second }

passes-settled : {number : ℕ} {downs : List Down} {kept after : List Act} {pair next : Pair} {cause : Cause}
    {sendings : List Sending}
    → Passes number downs kept pair cause sendings next after → AreSettled pair → AreSettled next
passes-settled (by_send First r p s m) ok = record { first = λ _. refl; second = ok.second }
passes-settled (by_send Second r p s m) ok = record { first = ok.first; second = λ _. refl }
passes-settled (by_pass_again First r p m l) ok = record { first = λ _. refl; second = ok.second }
passes-settled (by_pass_again Second r p m l) ok = record { first = ok.first; second = λ _. refl }
passes-settled (by_pass First r p m l) ok = record { first = λ _. refl; second = ok.second }
passes-settled (by_pass Second r p m l) ok = record { first = ok.first; second = λ _. refl }
passes-settled (by_end First r s p m) ok = record { first = λ _. refl; second = ok.second }
passes-settled (by_end Second r s p m) ok = record { first = ok.first; second = λ _. refl }
passes-settled (by_apply_behind First message applied r i e n a l) ok = record { first = ok.first; second = ok.second }
passes-settled (by_apply_behind Second message applied r i e n a l) ok = record { first = ok.first; second = ok.second }
passes-settled (by_apply First message applied r i e n a l) ok = record { first = ok.first; second = ok.second }
passes-settled (by_apply Second message applied r i e n a l) ok = record { first = ok.first; second = ok.second }
passes-settled (by_acknowledge First taken r s i e n) ok = record { first = λ not. absurd (cc); second = ok.second }
passes-settled (by_acknowledge Second taken r s i e n) ok = record { first = ok.first; second = λ not. absurd (cc) }

waiting-settled : (k : Which) (pair : Pair) (waiting : List Request) → AreSettled pair
    → AreSettled (with_copy k (record (copy_of k pair) { waiting = waiting }) pair)
waiting-settled First pair waiting ok = record { first = ok.first; second = ok.second }
waiting-settled Second pair waiting ok = record { first = ok.first; second = ok.second }

marking-settled : (k : Option Which) (pair : Pair) → AreSettled pair → AreSettled (pair_after_down k pair)
marking-settled None pair ok = ok
marking-settled (Some First) pair ok = record { first = ok.first; second = ok.second }
marking-settled (Some Second) pair ok = record { first = ok.first; second = ok.second }

ended-settled : (node x : ℕ) (pair : Pair) → AreSettled pair → AreSettled (renewals_ended node x pair)
ended-settled node x pair ok = record { first = ok.first; second = ok.second }

reloaded-settled : (core : Core) (pair : Pair) (a b : Bool) → AreSettled pair → AreSettled (reloaded_by core pair a b)
reloaded-settled core pair false false ok = ok
reloaded-settled core pair true false ok = record { first = λ _. refl; second = λ _. refl }
reloaded-settled core pair false true ok = record { first = λ _. refl; second = λ _. refl }
reloaded-settled core pair true true ok = record { first = λ _. refl; second = λ _. refl }

pub change-settled : {site : Site} (w next : World) (cause : Cause) (sendings : List Sending)
    → Change site w cause sendings next → AllSettled w → AllSettled next
change-settled w next cause sendings (by_own number k pair there acts c a e f) ok =
    set-all (λ n p. AreSettled p) w.processes number _ ok (own-settled k pair _ _ _ e (ok number pair there))
change-settled w next cause sendings (by_checkpoint number pair there p) ok =
    set-all (λ n p. AreSettled p) w.processes number _ ok (passes-settled p (ok number pair there))
change-settled w next cause sendings (by_request request k pair i there r) ok =
    set-all (λ n p. AreSettled p) w.processes request.process _ ok
    (waiting-settled k pair _ (ok request.process pair there))
change-settled w next cause sendings (by_early_request request k pair i there r) ok =
    set-all (λ n p. AreSettled p) w.processes request.process _ ok
    (waiting-settled k pair _ (ok request.process pair there))
change-settled w next cause sendings (by_enter number terminal opener t e r o) ok = ok
change-settled w next cause sendings (by_print number terminal reply t e i o n) ok = ok
change-settled w next cause sendings (by_stop x r h) ok =
    map-all (λ n p. AreSettled p) (stopped_pair x) w.processes
    (λ n p there. record { first = (ok n p there).first; second = (ok n p there).second })
change-settled w next cause sendings (by_mark node x s r n) ok =
    map-all (λ n p. AreSettled p) (pair_at_down node x) w.processes
    (λ n p there. ended-settled node x (pair_after_down (taker node x p) p)
    (marking-settled (taker node x p) p (ok n p there)))
change-settled {site = site} w next cause sendings (by_reload x s m t l) ok =
    reload-all (λ n p. AreSettled p) site x w.processes
    (λ n p there.
    reloaded-settled (new_core site n (slice_get site.processes n) p.first.core) p (p.first.processor == x)
    (p.second.processor == x) (ok n p there))

pub settled-begin : (site : Site) → AllSettled (boot site)
settled-begin site =
    all-begin (λ n p. AreSettled p) site (λ number from spec. record { first = λ _. refl; second = λ _. refl })

pub settled-of : (pair : Pair) → AreSettled pair → (k : Which) → IsSettled (copy_of k pair)
settled-of pair ok First = ok.first
settled-of pair ok Second = ok.second
