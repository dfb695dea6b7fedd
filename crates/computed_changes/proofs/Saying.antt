-- What the copies of a process ever sent each other, before a change and after it.
use Rattle.std.proofs.Common.{◌≡◌, ℕ, List, ◌∷◌, Option, Some, None, map, slice_get, slice_set, refl, sym, subst}
use Rattle.std.proofs.Common.{◌==◌, Bool, true, false}
use Rattle.tal_tree.specs.gd_words.specs.Members.{IsAmong}
use Rattle.tal_tree.specs.declared.act.Act.{Act}
use Rattle.tal_tree.specs.declared.site.Site.{Site}
use Rattle.world_semantics.specs.checkpoint_image.specs.declared.message.ImageMessage.{ImageMessage}
use Rattle.world_semantics.specs.declared.which.Which.{Which}
use Rattle.world_semantics.specs.declared.which.Which.TheVariants.{First, Second}
use Rattle.world_semantics.specs.World.{Copy, Pair, Down, World, copy_of, with_copy}
use Rattle.world_semantics.specs.Messages.{Sending, Cause}
use Rattle.world_semantics.specs.Core.{Core}
use Rattle.world_semantics.specs.Passes.{Passes, by_send, by_pass_again, by_pass, by_end, by_apply_behind}
use Rattle.world_semantics.specs.Passes.{by_apply, by_acknowledge}
use Rattle.world_semantics.specs.Passes.{checkpoint_of, taken_of}
use Rattle.world_semantics.specs.Rules.{Change, by_own, by_checkpoint, by_request, by_early_request, by_enter, by_print}
use Rattle.world_semantics.specs.Rules.{by_stop, by_mark, by_reload, stopped_pair, taker, pair_after_down}
use Rattle.world_semantics.specs.Rules.{pair_at_down, renewals_ended, reloaded_by, new_core}
use Rattle.world_semantics.proofs.Lists.{Changed, is_new, is_same, changed, mapped}
use Rattle.world_semantics.proofs.Roles.{reload-all}

-- nothing more was sent, or the checkpoint of a copy, or that a checkpoint was taken that was sent before
pub data Says (number : ℕ) (before after : Pair) : Type 0 where
  nothing : after.checkpoints ≡ before.checkpoints → after.takens ≡ before.takens → Says number before after
  a_checkpoint : (k : Which) → after.checkpoints ≡ checkpoint_of number (copy_of k before) ∷ before.checkpoints
      → after.takens ≡ before.takens
      → Says number before after
  was_taken : (message : ImageMessage) → IsAmong message before.checkpoints → after.checkpoints ≡ before.checkpoints
      → after.takens ≡ taken_of message ∷ before.takens → Says number before after

with-same : (k : Which) (copy : Copy) (pair : Pair)
    → ((with_copy k copy pair).checkpoints ≡ pair.checkpoints) × ((with_copy k copy pair).takens ≡ pair.takens)
with-same First copy pair = (refl, refl)
with-same Second copy pair = (refl, refl)

with-nothing : (number : ℕ) (k : Which) (copy : Copy) (pair before : Pair) → pair.checkpoints ≡ before.checkpoints
    → pair.takens ≡ before.takens
    → Says number before (with_copy k copy pair)
with-nothing number First copy pair before c t = nothing c t
with-nothing number Second copy pair before c t = nothing c t

passes-says : {number : ℕ} {downs : List Down} {kept after : List Act} {pair next : Pair} {cause : Cause}
    {sendings : List Sending}
    → Passes number downs kept pair cause sendings next after → Says number pair next
passes-says (by_send k r p s m) = let same = with-same k _ _ in a_checkpoint k same.0 same.1
passes-says {number = n} {pair = pair} (by_pass_again k r p m l) = with-nothing n k _ pair pair refl refl
passes-says {number = n} {pair = pair} (by_pass k r p m l) = with-nothing n k _ pair pair refl refl
passes-says {number = n} {pair = pair} (by_end k r s p m) = with-nothing n k _ pair pair refl refl
passes-says (by_apply_behind First message applied r i e m a l) = was_taken message i refl refl
passes-says (by_apply_behind Second message applied r i e m a l) = was_taken message i refl refl
passes-says (by_apply First message applied r i e m a l) = was_taken message i refl refl
passes-says (by_apply Second message applied r i e m a l) = was_taken message i refl refl
passes-says {number = n} {pair = pair} (by_acknowledge k taken r s i e m) = with-nothing n k _ pair pair refl refl

marking-says : (number node processor : ℕ) (k : Option Which) (pair : Pair)
    → Says number pair (renewals_ended node processor (pair_after_down k pair))
marking-says number node processor None pair = nothing refl refl
marking-says number node processor (Some First) pair = nothing refl refl
marking-says number node processor (Some Second) pair = nothing refl refl

reload-says : (number : ℕ) (core : Core) (pair : Pair) (one two : Bool)
    → Says number pair (reloaded_by core pair one two)
reload-says number core pair false false = nothing refl refl
reload-says number core pair true false = nothing refl refl
reload-says number core pair false true = nothing refl refl
reload-says number core pair true true = nothing refl refl

-- what a process was before a change, and what was sent by it
pub record Said (w : World) (number : ℕ) (after : Pair) : Type 0 where
  pub before : Pair
  pub there : slice_get w.processes number ≡ Some before
  pub says : Says number before after

same-said : (w : World) (number : ℕ) (after : Pair) → slice_get w.processes number ≡ Some after → Said w number after
same-said w number after there = record { before = after; there = there; says = nothing refl refl }

set-said : (w : World) (n : ℕ) (pair next : Pair) → slice_get w.processes n ≡ Some pair → Says n pair next
    → (number : ℕ) (after : Pair)
    → slice_get (slice_set w.processes n next) number ≡ Some after → Said w number after
set-said w n pair next there says number after now = of (changed w.processes n next number after now)
  where
    of : Changed w.processes n next number after → Said w number after
    of (is_new here is) =
        subst (λ m. Said w m after) here (record
        { before = pair; there = there; says = subst (Says n pair) (sym is) says })
    of (is_same other was) = same-said w number after was

map-said : (w : World) (f : Pair → Pair) → ((number : ℕ) (pair : Pair) → Says number pair (f pair))
    → (number : ℕ) (after : Pair)
    → slice_get (map f w.processes) number ≡ Some after → Said w number after
map-said w f says number after now =
    let was = mapped f w.processes number after now in
    record { before = was.0; there = was.1; says = subst (Says number was.0) (sym was.2) (says number was.0) }

pub change-said : {site : Site} (w next : World) (cause : Cause) (sendings : List Sending)
    → Change site w cause sendings next → (number : ℕ) (after : Pair)
    → slice_get next.processes number ≡ Some after → Said w number after
change-said w next cause sendings (by_own n k pair there acts c a e fr) =
    set-said w n pair _ there (with-nothing n k _ _ pair refl refl)
change-said w next cause sendings (by_checkpoint n pair there p) = set-said w n pair _ there (passes-says p)
change-said w next cause sendings (by_request request k pair i there r) =
    set-said w request.process pair _ there (with-nothing request.process k _ pair pair refl refl)
change-said w next cause sendings (by_early_request request k pair i there r) =
    set-said w request.process pair _ there (with-nothing request.process k _ pair pair refl refl)
change-said w next cause sendings (by_enter n terminal opener t e r o) = same-said w
change-said w next cause sendings (by_print n terminal reply t e i o m) = same-said w
change-said w next cause sendings (by_stop x r h) = map-said w (stopped_pair x) (λ number pair. nothing refl refl)
change-said w next cause sendings (by_mark node x s r n) =
    map-said w (pair_at_down node x) (λ number pair. marking-says number node x (taker node x pair) pair)
change-said {site = site} w next cause sendings (by_reload x s m t l) =
    reload-all (Said w) site x w.processes (λ number pair there. record {
      before = pair;
      there = there;
      says = reload-says number (new_core site number (slice_get site.processes number) pair.first.core) pair
          (pair.first.processor == x) (pair.second.processor == x);
    })
