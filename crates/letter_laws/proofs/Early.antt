-- Requests that come to copies that watch or are blank came early, and stay so.
use Rattle.std.proofs.Common.{◌≡◌, ◌⊎◌, inl, inr, ℕ, zero, suc, ◌+◌, ◌≤◌, true, List, [], ◌∷◌, slice_get, slice_set}
use Rattle.std.proofs.Common.{refl, ◌∙◌, arith}
use Rattle.std.specs.Option.{unwrap_or}
use Rattle.gd_words.specs.Members.{IsAmong}
use Rattle.gd_words.specs.declared.message.Request.{Request}
use Rattle.tal_tree.specs.declared.act.Act.{Act}
use Rattle.tal_tree.specs.declared.site.OpenerSpec.{OpenerSpec}
use Rattle.tal_tree.specs.declared.site.Site.{Site}
use Rattle.world_semantics.specs.checkpoint_image.specs.declared.message.ImageMessage.{ImageMessage}
use Rattle.world_semantics.specs.declared.role.Role.TheVariants.{Acting}
use Rattle.world_semantics.specs.declared.which.Which.{Which}
use Rattle.world_semantics.specs.Core.{Core, Deed, Advances, goes, checkpoints, takes, asks, gets, answers, acts}
use Rattle.world_semantics.specs.Core.{next_on}
use Rattle.world_semantics.specs.Kept.{Enters, holds_on, repeats, begins, keeps}
use Rattle.world_semantics.specs.Messages.{Asking, Sending, Cause, Handing, Stopping, Reloading}
use Rattle.world_semantics.specs.Rules.{Change}
use Rattle.world_semantics.specs.World.{Copy, Pair, World, copy_of, receives}
use Rattle.world_semantics.proofs.Becoming as becoming
use Rattle.world_semantics.proofs.Becoming.{Becomes, acting-gets-none, entered-same, change-copy}
use Rattle.world_semantics.proofs.Later.{change-later}
use Rattle.world_semantics.proofs.Waiting.{waits-all}
use Rattle.letter_laws.specs.Known.{HasAsker}
use Rattle.letter_laws.proofs.Calm.{not-both}

-- What becomes of a copy

reloading-same : {one other : ℕ} → Reloading one ≡ Reloading other → one ≡ other
reloading-same is = cc

entered-there : {number : ℕ} {act : Act} {kept after : List Act} {copy entered : Copy}
    → Enters number act kept copy entered after → entered.processor ≡ copy.processor
entered-there (holds_on held) = refl
entered-there (repeats held less) = refl
entered-there (begins held most take) = refl
entered-there (keeps held most take) = refl

module _ {site : Site} {w : World} {number : ℕ} {pair : Pair} {sent : List ImageMessage} {k : Which} where
  -- it stays in its processor
  pub becomes-there : {cause : Cause} {after : Copy} → Becomes site w number pair sent k cause after
      → after.processor ≡ (copy_of k pair).processor
  becomes-there becoming.stays = refl
  becomes-there (becoming.acts role causes advances enters free) = entered-there enters
  becomes-there (becoming.sends role at among) = refl
  becomes-there (becoming.passes role) = refl
  becomes-there (becoming.ends role) = refl
  becomes-there (becoming.applies message role among era next put) = refl
  becomes-there (becoming.is_told taken role was among era same) = refl
  becomes-there becoming.is_freed = refl
  becomes-there becoming.needs_less = refl
  becomes-there (becoming.hears request role) = refl
  becomes-there (becoming.hears_early request role) = refl
  becomes-there (becoming.stops processor) = refl
  becomes-there (becoming.takes_over node processor taking) = refl
  becomes-there (becoming.is_blank processor here era) = refl
  becomes-there (becoming.renews processor there) = refl

  -- what waits at one that watches or is blank waited or comes now
  pub becomes-waiting : {cause : Cause} {after : Copy} → Becomes site w number pair sent k cause after
      → receives after.role ≡ true → (request : Request) → IsAmong request after.waiting
      → IsAmong request (copy_of k pair).waiting ⊎ (cause ≡ Handing (copy_of k pair).processor (Asking request))
  becomes-waiting becoming.stays receiving request among = inl among
  becomes-waiting (becoming.acts acting causes advances enters free) receiving request among =
      absurd (acting-gets-none _ ((entered-same enters).role ∙ acting) receiving)
  becomes-waiting (becoming.sends acting at there) receiving request among = inl among
  becomes-waiting (becoming.passes acting) receiving request among = inl among
  becomes-waiting (becoming.ends acting) receiving request among = inl among
  becomes-waiting (becoming.applies message got there era next put) receiving request among = inl among
  becomes-waiting (becoming.is_told taken acting was there era same) receiving request among = inl among
  becomes-waiting becoming.is_freed receiving request among = inl among
  becomes-waiting becoming.needs_less receiving request among = inl among
  becomes-waiting (becoming.hears one acting) receiving request among = absurd (acting-gets-none _ acting receiving)
  becomes-waiting (becoming.hears_early one got) receiving request among =
      waits-all (λ other. IsAmong other (copy_of k pair).waiting
      ⊎ (Handing (copy_of k pair).processor (Asking one) ≡ Handing (copy_of k pair).processor (Asking other)))
      (copy_of k pair).waiting one (inr refl) (λ other there. inl there) request among
  becomes-waiting (becoming.stops processor) receiving request among = inl among
  becomes-waiting (becoming.takes_over node processor taking) receiving request among = absurd (cc)
  becomes-waiting (becoming.is_blank processor here era) receiving request among = absurd among
  becomes-waiting (becoming.renews processor there) receiving request among = inl among

  -- at the reload of a processor one that watches or is blank afterwards is in it, and nothing waits there, or it did
  -- or was so before
  pub becomes-reloaded : {cause : Cause} {after : Copy} (x : ℕ) → Becomes site w number pair sent k cause after
      → cause ≡ Reloading x → receives after.role ≡ true
      → ((after.processor ≡ x) × (after.waiting ≡ []))
      ⊎ ((receives (copy_of k pair).role ≡ true) × (after.waiting ≡ (copy_of k pair).waiting))
  becomes-reloaded x becoming.stays is receiving = inr (receiving, refl)
  becomes-reloaded x (becoming.acts acting causes advances enters free) is receiving =
      absurd (acting-gets-none _ ((entered-same enters).role ∙ acting) receiving)
  becomes-reloaded x (becoming.sends acting at there) is receiving = inr (receiving, refl)
  becomes-reloaded x (becoming.passes acting) is receiving = inr (receiving, refl)
  becomes-reloaded x (becoming.ends acting) is receiving = inr (receiving, refl)
  becomes-reloaded x (becoming.applies message got there era next put) is receiving = inr (got, refl)
  becomes-reloaded x (becoming.is_told taken acting was there era same) is receiving = inr (receiving, refl)
  becomes-reloaded x becoming.is_freed is receiving = inr (receiving, refl)
  becomes-reloaded x becoming.needs_less is receiving = inr (receiving, refl)
  becomes-reloaded x (becoming.hears one acting) is receiving = absurd (acting-gets-none _ acting receiving)
  becomes-reloaded x (becoming.hears_early one got) is receiving = absurd (cc)
  becomes-reloaded x (becoming.stops processor) is receiving = absurd (cc)
  becomes-reloaded x (becoming.takes_over node processor taking) is receiving = absurd (cc)
  becomes-reloaded x (becoming.is_blank processor here era) is receiving = inl (here ∙ reloading-same is, refl)
  becomes-reloaded x (becoming.renews processor there) is receiving = inr (receiving, refl)

-- Next numbers

-- what a raised number leaves at each place is no less
raised-least : (next : List ℕ) (file at : ℕ)
    → unwrap_or (slice_get next at) 1 ≤ unwrap_or
    (slice_get (slice_set next file (unwrap_or (slice_get next file) 1 + 1)) at) 1
raised-least [] file at = omega arith
raised-least (n ∷ next) zero zero = omega arith
raised-least (n ∷ next) zero (suc at) = omega arith
raised-least (n ∷ next) (suc file) zero = omega arith
raised-least (n ∷ next) (suc file) (suc at) = raised-least next file at

advances-least : {openers : List OpenerSpec} {core after : Core} {deed : Deed} → Advances openers core deed after
    → (file : ℕ) → next_on core file ≤ next_on after file
advances-least (goes at) file = omega arith
advances-least (checkpoints at) file = omega arith
advances-least (takes block at there) file = omega arith
advances-least {core = core} (asks {file = one} at named said) file = raised-least core.next one file
advances-least (gets at named) file = omega arith
advances-least (answers opener block at hand known there said) file = omega arith
advances-least (acts at call) file = omega arith

-- a copy that acts goes on acting unless its processor stops, and no next number of it falls
abbrev GoesOn : Copy → Copy → Type 0
GoesOn before after = (after.role ≡ Acting) × ((file : ℕ) → next_on before.core file ≤ next_on after.core file)

becomes-acting : {site : Site} {w : World} {number : ℕ} {pair : Pair} {sent : List ImageMessage} {k : Which}
    {cause : Cause} {after : Copy}
    → Becomes site w number pair sent k cause after → (copy_of k pair).role ≡ Acting
    → ((processor : ℕ) → cause ≡ Stopping processor → ⊥) → ((processor : ℕ) → cause ≡ Reloading processor → ⊥)
    → GoesOn (copy_of k pair) after
becomes-acting becoming.stays role no_stop no_reload = (role, λ file. omega arith)
becomes-acting (becoming.acts acting causes advances enters free) role no_stop no_reload =
    ((entered-same enters).role ∙ acting, λ file. advances-least advances file)
becomes-acting (becoming.sends acting at among) role no_stop no_reload = (role, λ file. omega arith)
becomes-acting (becoming.passes acting) role no_stop no_reload = (role, λ file. omega arith)
becomes-acting (becoming.ends acting) role no_stop no_reload = (role, λ file. omega arith)
becomes-acting (becoming.applies message receiving among era next put) role no_stop no_reload =
    absurd (acting-gets-none _ role receiving)
becomes-acting (becoming.is_told taken acting was among era same) role no_stop no_reload = (role, λ file. omega arith)
becomes-acting becoming.is_freed role no_stop no_reload = (role, λ file. omega arith)
becomes-acting becoming.needs_less role no_stop no_reload = (role, λ file. omega arith)
becomes-acting (becoming.hears request acting) role no_stop no_reload = (role, λ file. omega arith)
becomes-acting (becoming.hears_early request receiving) role no_stop no_reload =
    absurd (acting-gets-none _ role receiving)
becomes-acting (becoming.stops processor) role no_stop no_reload = absurd (no_stop processor refl)
becomes-acting (becoming.takes_over node processor taking) role no_stop no_reload =
    absurd (not-both role taking.watching)
becomes-acting (becoming.is_blank processor here era) role no_stop no_reload = absurd (no_reload processor refl)
becomes-acting (becoming.renews processor there) role no_stop no_reload = (role, λ file. omega arith)

-- a request keeps its asker where no processor stops and none is loaded again
pub asker-stays : {site : Site} (w next : World) (cause : Cause) (sendings : List Sending)
    → Change site w cause sendings next → ((processor : ℕ) → cause ≡ Stopping processor → ⊥)
    → ((processor : ℕ) → cause ≡ Reloading processor → ⊥)
    → (request : Request) → HasAsker site w request → HasAsker site next request
asker-stays w next cause sendings change no_stop no_reload request asker number file opens =
    let was = asker number file opens in
    let later = change-later w next cause sendings change number was.0 was.2 in
    let on = becomes-acting (change-copy w next cause sendings number was.0 later.0 was.1 change was.2 later.1) was.3
    no_stop no_reload in
    let least = on.1 file in
    let less = was.4 in
    (later.0, was.1, later.1, on.0, omega (arith, less, least))
