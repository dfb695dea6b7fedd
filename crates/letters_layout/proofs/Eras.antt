-- How far eras go in a run: a copy's era rises where the other one's processor is loaded again, and once more where it
-- takes over.
use Rattle.std.proofs.Common.{◌≡◌, ◌≤◌, ◌<◌, inl, inr, ℕ, zero, suc, ◌+◌, ◌*◌, ◌==◌, Bool, true, false}
use Rattle.std.proofs.Common.{if◌then◌else◌, List, [], ◌∷◌, Option, Some, None, slice_get, slice_set, replicate, refl}
use Rattle.std.proofs.Common.{ap, arith}
use Rattle.std.specs.Option.{unwrap_or}
use Rattle.std.proofs.lemmas.Bool.{eqb-true}
use Rattle.gd_words.specs.Members.{IsAmong}
use Rattle.tal_tree.specs.declared.act.Act.{Act}
use Rattle.tal_tree.specs.declared.site.Site.{Site}
use Rattle.schedule.specs.declared.event.Event.{Event}
use Rattle.disc_device.specs.Sectors.{Stored}
use Rattle.gd_words.specs.declared.message.Request.{Request}
use Rattle.checkpoint_image.specs.declared.message.ImageMessage.{ImageMessage}
use Rattle.checkpoint_image.specs.declared.message.TakenMessage.{TakenMessage}
use Rattle.world_semantics.specs.declared.role.Role.{Role}
use Rattle.world_semantics.specs.declared.role.Role.TheVariants.{Acting, Watching, Blank, Gone}
use Rattle.world_semantics.specs.declared.which.Which.{Which}
use Rattle.world_semantics.specs.declared.which.Which.TheVariants.{First, Second}
use Rattle.world_semantics.specs.Core.{Core}
use Rattle.world_semantics.specs.Follows.{IsRun}
use Rattle.world_semantics.specs.Kept.{Enters, begins, holds_on, keeps, repeats}
use Rattle.world_semantics.specs.Messages.{Cause, Sending}
use Rattle.world_semantics.specs.Passes.{Passes, by_acknowledge, by_apply, by_apply_behind, by_end, by_pass}
use Rattle.world_semantics.specs.Passes.{by_pass_again, by_send}
use Rattle.world_semantics.specs.Rules.{Change, new_core, by_checkpoint, by_early_request, by_enter, by_mark, by_own}
use Rattle.world_semantics.specs.Rules.{by_print, by_reload, by_request, by_stop, most_reloads, pair_after_down}
use Rattle.world_semantics.specs.Rules.{pair_at_down, reloaded_by, renewals_ended, stopped_pair, taker}
use Rattle.world_semantics.specs.World.{Copy, Down, Pair, World, boot, copy_of, receives, with_copy}
use Rattle.world_semantics.proofs.Beginning.{all-begin}
use Rattle.world_semantics.proofs.Lists.{map-all, repeated, set-all, some-same}
use Rattle.world_semantics.proofs.Roles.{reload-all, taker-is}
use Rattle.world_semantics.proofs.Runs.{holds-on}

-- how often a processor was loaded again
abbrev loads : List ℕ → ℕ → ℕ
loads reloads processor = unwrap_or (slice_get reloads processor) 0

-- the room that reloads made for the eras of a process in these two processors
abbrev room_of : List ℕ → ℕ → ℕ → ℕ
room_of reloads one two = 2 * (loads reloads one + loads reloads two)

-- a copy of this role and era has room for one takeover more, if it gets checkpoints
record IsOfEra (room : ℕ) (role : Role) (era : ℕ) : Type 0 where
  any : era ≤ room + 1
  getting : receives role ≡ true → era ≤ room

-- of a process: both copies, and the messages that they ever sent
record AreOfEras (room : ℕ) (role : Role) (era : ℕ) (other : Role) (other_era : ℕ) (checkpoints : List ImageMessage)
    (takens : List TakenMessage) : Type 0 where
  first : IsOfEra room role era
  second : IsOfEra room other other_era
  sent : (message : ImageMessage) → IsAmong message checkpoints → message.era ≤ room + 1
  told : (taken : TakenMessage) → IsAmong taken takens → taken.era ≤ room + 1

abbrev ErasOf : List ℕ → Pair → Type 0
ErasOf reloads pair =
    AreOfEras (room_of reloads pair.first.processor pair.second.processor) pair.first.role pair.first.era
    pair.second.role pair.second.era pair.checkpoints pair.takens

-- no processor was loaded again too often
abbrev AreFewLoads : List ℕ → Type 0
AreFewLoads reloads = (processor times : ℕ) → slice_get reloads processor ≡ Some times → times ≤ most_reloads

record HasEras (w : World) : Type 0 where
  few : AreFewLoads w.reloads
  eras : (number : ℕ) (pair : Pair) → slice_get w.processes number ≡ Some pair → ErasOf w.reloads pair

-- One copy

more-era : (room more : ℕ) (role : Role) (era : ℕ) → room ≤ more → IsOfEra room role era → IsOfEra more role era
more-era room more role era less is = record {
  any = let low = is.any in omega (arith, low, less);
  getting = λ gets. let low = is.getting gets in omega (arith, low, less);
}

-- it acts in a later era
risen : (room era : ℕ) → era ≤ room → IsOfEra room Acting (era + 1)
risen room era low = record { any = omega (arith, low); getting = λ gets. absurd (cc) }

stopped-era : (room : ℕ) (gone : Bool) (role : Role) (era : ℕ) → IsOfEra room role era
    → IsOfEra room (if gone then Gone else role) era
stopped-era room true role era is = record { any = is.any; getting = λ gets. absurd (cc) }
stopped-era room false role era is = is

applied-era : (room : ℕ) (role : Role) (era : ℕ) → receives role ≡ true → IsOfEra room role era
    → IsOfEra room Watching era
applied-era room role era gets is = record { any = is.any; getting = λ watches. is.getting gets }

-- One process

entered-first : {number : ℕ} {act : Act} {kept after : List Act} (reloads : List ℕ) (pair : Pair) (entered : Copy)
    (core : Core) (waiting : List Request) (sectors : List Stored) → Enters number act kept pair.first entered after
    → ErasOf reloads pair
    → ErasOf reloads (record pair { first = record entered { core = core; waiting = waiting }; sectors = sectors })
entered-first reloads pair _ core waiting sectors (holds_on e) ok = ok
entered-first reloads pair _ core waiting sectors (repeats e l) ok = ok
entered-first reloads pair _ core waiting sectors (begins e l t) ok = ok
entered-first reloads pair _ core waiting sectors (keeps e l t) ok = ok

entered-second : {number : ℕ} {act : Act} {kept after : List Act} (reloads : List ℕ) (pair : Pair) (entered : Copy)
    (core : Core) (waiting : List Request) (sectors : List Stored) → Enters number act kept pair.second entered after
    → ErasOf reloads pair
    → ErasOf reloads (record pair { second = record entered { core = core; waiting = waiting }; sectors = sectors })
entered-second reloads pair _ core waiting sectors (holds_on e) ok = ok
entered-second reloads pair _ core waiting sectors (repeats e l) ok = ok
entered-second reloads pair _ core waiting sectors (begins e l t) ok = ok
entered-second reloads pair _ core waiting sectors (keeps e l t) ok = ok

entered-eras : {number : ℕ} {act : Act} {kept after : List Act} (reloads : List ℕ) (k : Which) (pair : Pair)
    (entered : Copy) (core : Core) (waiting : List Request) (sectors : List Stored)
    → Enters number act kept (copy_of k pair) entered after → ErasOf reloads pair
    → ErasOf reloads (with_copy k (record entered { core = core; waiting = waiting })
    (record pair { sectors = sectors }))
entered-eras reloads First pair entered core waiting sectors enters ok =
    entered-first reloads pair entered core waiting sectors enters ok
entered-eras reloads Second pair entered core waiting sectors enters ok =
    entered-second reloads pair entered core waiting sectors enters ok

waiting-eras : (reloads : List ℕ) (k : Which) (pair : Pair) (waiting : List Request) → ErasOf reloads pair
    → ErasOf reloads (with_copy k (record (copy_of k pair) { waiting = waiting }) pair)
waiting-eras reloads First pair waiting ok = ok
waiting-eras reloads Second pair waiting ok = ok

-- one message more
one-sent : (room era : ℕ) (old : List ImageMessage) (new : ImageMessage) → new.era ≡ era → era ≤ room + 1
    → ((message : ImageMessage) → IsAmong message old → message.era ≤ room + 1) → (message : ImageMessage)
    → IsAmong message (new ∷ old) → message.era ≤ room + 1
one-sent room era old new of low all message (inl same) =
    let is = ap (λ (m : ImageMessage). m.era) same in omega (arith, is, of, low)
one-sent room era old new of low all message (inr among) = all message among

one-told : (room era : ℕ) (old : List TakenMessage) (new : TakenMessage) → new.era ≡ era → era ≤ room + 1
    → ((taken : TakenMessage) → IsAmong taken old → taken.era ≤ room + 1) → (taken : TakenMessage)
    → IsAmong taken (new ∷ old) → taken.era ≤ room + 1
one-told room era old new of low all taken (inl same) =
    let is = ap (λ (t : TakenMessage). t.era) same in omega (arith, is, of, low)
one-told room era old new of low all taken (inr among) = all taken among

module _ (reloads : List ℕ) (pair : Pair) (ok : ErasOf reloads pair) where
  abbrev room : ℕ
  room = room_of reloads pair.first.processor pair.second.processor

  applied-first : (message : ImageMessage) (new : TakenMessage) → new.era ≡ message.era
      → IsAmong message pair.checkpoints → receives pair.first.role ≡ true
      → AreOfEras room Watching pair.first.era pair.second.role pair.second.era pair.checkpoints (new ∷ pair.takens)
  applied-first message new of among gets = record {
    first = applied-era room pair.first.role pair.first.era gets ok.first;
    second = ok.second;
    sent = ok.sent;
    told = one-told room message.era pair.takens new of (ok.sent message among) ok.told;
  }

  applied-second : (message : ImageMessage) (new : TakenMessage) → new.era ≡ message.era
      → IsAmong message pair.checkpoints → receives pair.second.role ≡ true
      → AreOfEras room pair.first.role pair.first.era Watching pair.second.era pair.checkpoints (new ∷ pair.takens)
  applied-second message new of among gets = record {
    first = ok.first;
    second = applied-era room pair.second.role pair.second.era gets ok.second;
    sent = ok.sent;
    told = one-told room message.era pair.takens new of (ok.sent message among) ok.told;
  }

  passes-eras : {number : ℕ} {downs : List Down} {kept after : List Act} {next : Pair} {cause : Cause}
      {sendings : List Sending} → Passes number downs kept pair cause sendings next after → ErasOf reloads next
  passes-eras (by_send First role may unsent unmarked) = record {
    first = ok.first;
    second = ok.second;
    sent = one-sent room pair.first.era pair.checkpoints _ refl ok.first.any ok.sent;
    told = ok.told;
  }
  passes-eras (by_send Second role may unsent unmarked) = record {
    first = ok.first;
    second = ok.second;
    sent = one-sent room pair.second.era pair.checkpoints _ refl ok.second.any ok.sent;
    told = ok.told;
  }
  passes-eras (by_pass_again First role at may less) = ok
  passes-eras (by_pass_again Second role at may less) = ok
  passes-eras (by_pass First role at may most) = ok
  passes-eras (by_pass Second role at may most) = ok
  passes-eras (by_end First role sent away may) = ok
  passes-eras (by_end Second role sent away may) = ok
  passes-eras (by_apply_behind First message applied gets among era next put at) =
      applied-first message _ refl among gets
  passes-eras (by_apply_behind Second message applied gets among era next put at) =
      applied-second message _ refl among gets
  passes-eras (by_apply First message applied gets among era next put at) = applied-first message _ refl among gets
  passes-eras (by_apply Second message applied gets among era next put at) = applied-second message _ refl among gets
  passes-eras (by_acknowledge First taken role sent among era same) = ok
  passes-eras (by_acknowledge Second taken role sent among era same) = ok

  stopped-eras : (processor : ℕ) → ErasOf reloads (stopped_pair processor pair)
  stopped-eras processor = record {
    first = stopped-era room (pair.first.processor == processor) pair.first.role pair.first.era ok.first;
    second = stopped-era room (pair.second.processor == processor) pair.second.role pair.second.era ok.second;
    sent = ok.sent;
    told = ok.told;
  }

  marked-eras : (node processor : ℕ) (k : Option Which) → taker node processor pair ≡ k
      → ErasOf reloads (renewals_ended node processor (pair_after_down k pair))
  marked-eras node processor None takes = ok
  marked-eras node processor (Some First) takes = record {
    first = risen room pair.first.era
        (ok.first.getting (ap receives (taker-is node processor pair First takes).watching));
    second = ok.second;
    sent = ok.sent;
    told = ok.told;
  }
  marked-eras node processor (Some Second) takes = record {
    first = ok.first;
    second = risen room pair.second.era
        (ok.second.getting (ap receives (taker-is node processor pair Second takes).watching));
    sent = ok.sent;
    told = ok.told;
  }

-- Reloads

loads-same : (reloads : List ℕ) (processor times : ℕ) → slice_get reloads processor ≡ Some times
    → loads (slice_set reloads processor (times + 1)) processor ≡ loads reloads processor + 1
loads-same [] processor times there = absurd (cc)
loads-same (one ∷ reloads) zero times there = let same = some-same there in omega (arith, same)
loads-same (one ∷ reloads) (suc processor) times there = loads-same reloads processor times there

loads-grow : (reloads : List ℕ) (processor times other : ℕ) → slice_get reloads processor ≡ Some times
    → loads reloads other ≤ loads (slice_set reloads processor (times + 1)) other
loads-grow [] processor times other there = omega arith
loads-grow (one ∷ reloads) zero times zero there = let same = some-same there in omega (arith, same)
loads-grow (one ∷ reloads) zero times (suc other) there = omega arith
loads-grow (one ∷ reloads) (suc processor) times zero there = omega arith
loads-grow (one ∷ reloads) (suc processor) times (suc other) there = loads-grow reloads processor times other there

few-loads : (reloads : List ℕ) (processor times : ℕ) → times < most_reloads → AreFewLoads reloads
    → AreFewLoads (slice_set reloads processor (times + 1))
few-loads [] processor times low few other found there = absurd (cc)
few-loads (one ∷ reloads) zero times low few zero found there = let same = some-same there in omega (arith, same, low)
few-loads (one ∷ reloads) zero times low few (suc other) found there = few (suc other) found there
few-loads (one ∷ reloads) (suc processor) times low few zero found there = few zero found there
few-loads (one ∷ reloads) (suc processor) times low few (suc other) found there =
    few-loads reloads processor times low (λ k n at. few (suc k) n at) other found there

module _ (reloads : List ℕ) (x times : ℕ) (there : slice_get reloads x ≡ Some times) (pair : Pair)
    (ok : ErasOf reloads pair) where
  abbrev more : List ℕ
  more = slice_set reloads x (times + 1)

  abbrev before : ℕ
  before = room_of reloads pair.first.processor pair.second.processor

  abbrev room_then : ℕ
  room_then = room_of more pair.first.processor pair.second.processor

  less : before ≤ room_then
  less =
      let one = loads-grow reloads x times pair.first.processor there in
      let two = loads-grow reloads x times pair.second.processor there in
      omega (arith, one, two)

  first-more : (pair.first.processor == x) ≡ true → before + 2 ≤ room_then
  first-more is =
      let here = eqb-true pair.first.processor x is in
      let one : loads more pair.first.processor ≡ loads reloads pair.first.processor + 1 =
      rw here (loads-same reloads x times there) in
      let two = loads-grow reloads x times pair.second.processor there in
      omega (arith, one, two)

  second-more : (pair.second.processor == x) ≡ true → before + 2 ≤ room_then
  second-more is =
      let here = eqb-true pair.second.processor x is in
      let one = loads-grow reloads x times pair.first.processor there in
      let two : loads more pair.second.processor ≡ loads reloads pair.second.processor + 1 =
      rw here (loads-same reloads x times there) in
      omega (arith, one, two)

  -- one era later
  later-era : (role : Role) (era : ℕ) → era ≤ before + 1 → before + 2 ≤ room_then → IsOfEra room_then role (era + 1)
  later-era role era low up = record { any = omega (arith, low, up); getting = λ gets. omega (arith, low, up) }

  still-sent : (message : ImageMessage) → IsAmong message pair.checkpoints → message.era ≤ room_then + 1
  still-sent message among = let low = ok.sent message among in let up = less in omega (arith, low, up)

  still-told : (taken : TakenMessage) → IsAmong taken pair.takens → taken.era ≤ room_then + 1
  still-told taken among = let low = ok.told taken among in let up = less in omega (arith, low, up)

  reloaded-eras : (core : Core) (one two : Bool) → (pair.first.processor == x) ≡ one
      → (pair.second.processor == x) ≡ two → ErasOf more (reloaded_by core pair one two)
  reloaded-eras core false false one two = record {
    first = more-era before room_then pair.first.role pair.first.era less ok.first;
    second = more-era before room_then pair.second.role pair.second.era less ok.second;
    sent = still-sent;
    told = still-told;
  }
  reloaded-eras core true false one two = record {
    first = later-era Blank pair.second.era ok.second.any (first-more one);
    second = later-era pair.second.role pair.second.era ok.second.any (first-more one);
    sent = still-sent;
    told = still-told;
  }
  reloaded-eras core false true one two = record {
    first = later-era pair.first.role pair.first.era ok.first.any (second-more two);
    second = later-era Blank pair.first.era ok.first.any (second-more two);
    sent = still-sent;
    told = still-told;
  }
  reloaded-eras core true true one two = record {
    first = later-era Blank pair.first.era ok.first.any (first-more one);
    second = later-era Blank pair.second.era ok.second.any (second-more two);
    sent = still-sent;
    told = still-told;
  }

-- All processes

change-eras : {site : Site} (w next : World) (cause : Cause) (sendings : List Sending)
    → Change site w cause sendings next → HasEras w → HasEras next
change-eras w next cause sendings (by_own {core = core} {entered = entered} number k pair there acting causes advances
    enters free) has =
    record {
      few = has.few;
      eras = set-all (λ j p. ErasOf w.reloads p) w.processes number _ has.eras
          (entered-eras w.reloads k pair entered core _ _ enters (has.eras number pair there));
    }
change-eras w next cause sendings (by_checkpoint number pair there passes) has =
    record {
      few = has.few;
      eras = set-all (λ j p. ErasOf w.reloads p) w.processes number _ has.eras
          (passes-eras w.reloads pair (has.eras number pair there) passes);
    }
change-eras w next cause sendings (by_request request k pair sent there acting) has =
    record {
      few = has.few;
      eras = set-all (λ j p. ErasOf w.reloads p) w.processes request.process _ has.eras
          (waiting-eras w.reloads k pair _ (has.eras request.process pair there));
    }
change-eras w next cause sendings (by_early_request request k pair sent there gets) has =
    record {
      few = has.few;
      eras = set-all (λ j p. ErasOf w.reloads p) w.processes request.process _ has.eras
          (waiting-eras w.reloads k pair _ (has.eras request.process pair there));
    }
change-eras w next cause sendings (by_enter number terminal opener there even is opens) has =
    record { few = has.few; eras = has.eras }
change-eras w next cause sendings (by_print number terminal reply there odd sent opens is) has =
    record { few = has.few; eras = has.eras }
change-eras w next cause sendings (by_stop processor alive whole) has =
    record {
      few = has.few;
      eras = map-all (λ j p. ErasOf w.reloads p) (stopped_pair processor) w.processes
          (λ number pair there. stopped-eras w.reloads pair (has.eras number pair there) processor);
    }
change-eras w next cause sendings (by_mark node processor down alive unmarked) has =
    record {
      few = has.few;
      eras = map-all (λ j p. ErasOf w.reloads p) (pair_at_down node processor) w.processes
          (λ number pair there. marked-eras w.reloads pair (has.eras number pair there) node processor
          (taker node processor pair) refl);
    }
change-eras {site = site} w next cause sendings (by_reload {times = times} x down is_marked there low) has =
    record {
      few = few-loads w.reloads x times low has.few;
      eras = reload-all (λ j p. ErasOf (slice_set w.reloads x (times + 1)) p) site x w.processes
          (λ number pair at. reloaded-eras w.reloads x times there pair (has.eras number pair at)
          (new_core site number (slice_get site.processes number) pair.first.core) (pair.first.processor == x)
          (pair.second.processor == x) refl refl);
    }

none-loaded : (processors processor times : ℕ) → slice_get (replicate processors 0) processor ≡ Some times
    → times ≤ most_reloads
none-loaded processors processor times there =
    let none = repeated processors 0 processor times there in omega (arith, none)

eras-begin : (site : Site) → HasEras (boot site)
eras-begin site = record {
  few = none-loaded site.processors;
  eras = all-begin (λ j p. ErasOf (replicate site.processors 0) p) site (λ number from spec. record {
    first = record { any = omega arith; getting = λ gets. omega arith };
    second = record { any = omega arith; getting = λ gets. omega arith };
    sent = λ message none. absurd none;
    told = λ taken none. absurd none;
  });
}

run-eras : {site : Site} {events : List Event} {w : World} → IsRun site events w → HasEras w
run-eras {site = site} run = holds-on HasEras change-eras run (eras-begin site)

loads-few : (reloads : List ℕ) → AreFewLoads reloads → (processor : ℕ) → loads reloads processor ≤ most_reloads
loads-few reloads few processor = by (slice_get reloads processor) refl
  where
    by : (found : Option ℕ) → slice_get reloads processor ≡ found → unwrap_or found 0 ≤ most_reloads
    by None there = omega arith
    by (Some times) there = few processor times there

module _ {site : Site} {events : List Event} {w : World} (run : IsRun site events w) (number : ℕ) (pair : Pair)
    (there : slice_get w.processes number ≡ Some pair) where
  room-few : room_of w.reloads pair.first.processor pair.second.processor ≤ 508
  room-few =
      let one = loads-few w.reloads (run-eras run).few pair.first.processor in
      let two = loads-few w.reloads (run-eras run).few pair.second.processor in
      omega (arith, one, two)

  -- each era of a message is low
  pub checkpoint-era : (message : ImageMessage) → IsAmong message pair.checkpoints → message.era ≤ 509
  checkpoint-era message among =
      let low = ((run-eras run).eras number pair there).sent message among in
      let few = room-few in
      omega (arith, low, few)

  pub taken-era : (taken : TakenMessage) → IsAmong taken pair.takens → taken.era ≤ 509
  taken-era taken among =
      let low = ((run-eras run).eras number pair there).told taken among in
      let few = room-few in
      omega (arith, low, few)
