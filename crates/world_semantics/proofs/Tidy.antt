-- What waits: of one opener at most one request, and at a copy that acts none that was taken.
use Rattle.std.proofs.Common.{◌≡◌, ◌<◌, ◌⊎◌, inl, inr, ℕ, ◌+◌, ◌==◌, ◌&&◌, nat_lt, ℤ, Bool, true, false, if◌then◌else◌}
use Rattle.std.proofs.Common.{List, [], ◌∷◌, ◌++◌, Option, Some, None, slice_get, slice_set, refl, subst, sym, ◌∙◌}
use Rattle.std.proofs.Common.{arith}
use Rattle.std.proofs.lemmas.Bool.{eq-eqb, eqb-true, lt-ltb, ltb-true}
use Rattle.checkpoint_image.specs.gd_words.specs.Members.{IsAmong}
use Rattle.checkpoint_image.specs.gd_words.specs.declared.message.Request.{Request}
use Rattle.checkpoint_image.specs.tal_tree.specs.declared.act.Act.{Act}
use Rattle.checkpoint_image.specs.tal_tree.specs.declared.site.Site.{Site}
use Rattle.checkpoint_image.specs.tal_tree.specs.declared.site.ProcessSpec.{ProcessSpec}
use Rattle.checkpoint_image.specs.tal_tree.specs.declared.site.OpenerSpec.{OpenerSpec}
use Rattle.schedule.specs.declared.event.Event.{Event}
use Rattle.plain_semantics.specs.Openers.{openers_of}
use Rattle.checkpoint_image.specs.declared.message.ImageMessage.{ImageMessage}
use Rattle.checkpoint_image.specs.declared.receive.OpenerBlock.{OpenerBlock}
use Rattle.checkpoint_image.specs.declared.receive.ReceiveBlock.{ReceiveBlock}
use Rattle.checkpoint_image.specs.declared.receive.RequestStanding.TheVariants.{Next, InHand, Ahead}
use Rattle.world_semantics.specs.declared.role.Role.{Role}
use Rattle.world_semantics.specs.declared.role.Role.TheVariants.{Acting, Watching, Blank}
use Rattle.checkpoint_image.specs.Receive.{holds, answered, reply_kept, kept_or_old, standing_in, standing_by}
use Rattle.checkpoint_image.specs.Receive.{request_standing}
use Rattle.checkpoint_image.specs.Receive.{after_taking, after_answering, last_ones, Chosen, choice_among, is_waiting}
use Rattle.checkpoint_image.specs.Receive.{waits}
use Rattle.checkpoint_image.specs.Receive.{came, still_waiting}
use Rattle.world_semantics.specs.Core.{Core, Deed, Took, Answered, Advances, goes, takes, asks, gets, answers, acts}
use Rattle.world_semantics.specs.World.{Copy, Pair, World, Which, First, Second, copy_of, pair_at_boot, boot}
use Rattle.world_semantics.specs.Messages.{Message, Sending, Cause}
use Rattle.world_semantics.specs.Own.{Around, Causes, by_inner, by_take, by_ask, by_answer, by_device, by_write}
use Rattle.world_semantics.specs.Own.{by_reply}
use Rattle.world_semantics.specs.Rules.{Change}
use Rattle.world_semantics.specs.Follows.{IsRun}
use Rattle.world_semantics.proofs.Beginning.{all-begin}
use Rattle.world_semantics.proofs.Lists.{some-same, set-there, set-other}
use Rattle.world_semantics.proofs.Members.{among-filter}
use Rattle.world_semantics.proofs.Runs.{holds-on}
use Rattle.world_semantics.proofs.Waiting.{AreSingle, waits-all, waits-single, came-single, still-single, chosen-rest}
use Rattle.world_semantics.proofs.Waiting.{taken-single, taken-alone}
use Rattle.world_semantics.proofs.Becoming as becoming
use Rattle.world_semantics.proofs.Becoming.{Becomes, acting-gets-none, entered-same, was-role, change-was}

-- Standing

-- a request is later than the last one taken of its opener
pub record IsUntaken (table : ReceiveBlock) (request : Request) : Type 0 where
  pub block : OpenerBlock
  pub there : slice_get table.openers request.opener ≡ Some block
  pub later : block.taken < request.number

-- what waits where a process acts is untaken
waiting-untaken : (table : ReceiveBlock) (request : Request) → is_waiting (request_standing table request) ≡ true
    → IsUntaken table request
waiting-untaken table request w = of (slice_get table.openers request.opener) refl w
  where
    by-kept : (kept : Option (List ℤ)) → is_waiting (kept_or_old kept) ≡ true → ⊥
    by-kept None w = cc
    by-kept (Some words) w = cc

    by-test : (block : OpenerBlock) (next ahead hand : Bool) → (request.number == block.taken + 1) ≡ next
        → nat_lt (block.taken + 1) request.number ≡ ahead
        → is_waiting (if next then Next else if ahead then Ahead else if hand then InHand
        else kept_or_old (reply_kept (answered (holds table request.opener) block) block.kept request.number)) ≡ true
        → block.taken < request.number
    by-test block true ahead hand n a w = let e = eqb-true _ _ n in omega (arith, e)
    by-test block false true hand n a w = let l = ltb-true _ _ a in omega (arith, l)
    by-test block false false true n a w = absurd (cc)
    by-test block false false false n a w =
        absurd (by-kept (reply_kept (answered (holds table request.opener) block) block.kept request.number) w)

    of : (block : Option OpenerBlock) → slice_get table.openers request.opener ≡ block
        → is_waiting (standing_by (holds table request.opener) block request.number) ≡ true
        → IsUntaken table request
    of None there w = absurd (cc)
    of (Some block) there w = record {
      block = block;
      there = there;
      later = by-test block (request.number == block.taken + 1) (nat_lt (block.taken + 1) request.number)
          (holds table request.opener && request.number == block.taken) refl refl w;
    }

-- an untaken request is the next one, or ahead of it
pub untaken-stands : (table : ReceiveBlock) (request : Request) → IsUntaken table request
    → (request_standing table request ≡ Next) ⊎ (request_standing table request ≡ Ahead)
untaken-stands table request u = rw u.there (by-test (request.number == u.block.taken + 1) refl)
  where
    by-test : (next : Bool) → (request.number == u.block.taken + 1) ≡ next
        → (standing_in (holds table request.opener) u.block request.number ≡ Next)
        ⊎ (standing_in (holds table request.opener) u.block request.number ≡ Ahead)
    by-test true n = inl (rw n refl)
    by-test false n =
        let other : request.number ≡ u.block.taken + 1 → ⊥ =
        λ same. let t = eq-eqb request.number (u.block.taken + 1) same in cc in
        let past : u.block.taken + 1 < request.number = omega (arith, u.later, other) in
        let ahead = lt-ltb _ _ past in inr (rw (n, ahead) refl)

-- all these requests are untaken
abbrev pub AreUntaken : ReceiveBlock → List Request → Type 0
AreUntaken table waiting = (request : Request) → IsAmong request waiting → IsUntaken table request

came-untaken : (table : ReceiveBlock) (waiting : List Request) (request : Request) → AreUntaken table waiting
    → AreUntaken table (came table waiting request)
came-untaken table waiting request ok = by-test (is_waiting (request_standing table request)) refl
  where
    by-test : (wait : Bool) → is_waiting (request_standing table request) ≡ wait
        → AreUntaken table (if wait then waits waiting request else waiting)
    by-test true e = waits-all (IsUntaken table) waiting request (waiting-untaken table request e) ok
    by-test false e = ok

still-untaken : (table : ReceiveBlock) (waiting : List Request) → AreUntaken table (still_waiting table waiting)
still-untaken table waiting request i =
    waiting-untaken table request (among-filter request (λ r. is_waiting (request_standing table r)) waiting i).1

-- Acts

-- what waits at a copy that has a role
pub record Tidy (role : Role) (table : ReceiveBlock) (waiting : List Request) : Type 0 where
  pub single : AreSingle waiting
  pub untaken : role ≡ Acting → AreUntaken table waiting

take-untaken : (table : ReceiveBlock) (waiting : List Request) (found : Chosen) (block : OpenerBlock)
    → choice_among table waiting ≡ Some found → AreSingle waiting
    → AreUntaken table waiting → AreUntaken (after_taking found.request.opener block table) found.rest
take-untaken table waiting found block c single ok request i =
    let u = ok request (chosen-rest table waiting found request c i) in
    record {
      block = u.block;
      there = set-other table.openers found.request.opener request.opener _
          (taken-alone table waiting found request c single i) ∙ u.there;
      later = u.later;
    }

answer-untaken : (place depth : ℕ) (block : OpenerBlock) (words : List ℤ) (table : ReceiveBlock)
    (waiting : List Request) → slice_get table.openers place ≡ Some block
    → AreUntaken table waiting → AreUntaken (after_answering depth place block words table) waiting
answer-untaken place depth block words table waiting s ok request i = by-place (place == request.opener) refl
  where
    here : place ≡ request.opener → IsUntaken (after_answering depth place block words table) request
    here same =
        let u = ok request i in
        let new : OpenerBlock = record block { kept = last_ones depth (block.kept ++ words ∷ []) } in
        let is : u.block ≡ block =
        some-same (sym u.there ∙ subst (λ p. slice_get table.openers p ≡ Some block) same s) in
        record {
          block = new;
          there = subst (λ p. slice_get (slice_set table.openers place new) p ≡ Some new) same
              (set-there table.openers place block new s);
          later = subst (λ (b : OpenerBlock). b.taken < request.number) is u.later;
        }

    by-place : (b : Bool) → (place == request.opener) ≡ b
        → IsUntaken (after_answering depth place block words table) request
    by-place true e = here (eqb-true _ _ e)
    by-place false e =
        let u = ok request i in
        let other : place ≡ request.opener → ⊥ = λ same. let t = eq-eqb place request.opener same in cc in
        record {
          block = u.block;
          there = set-other table.openers place request.opener _ other ∙ u.there;
          later = u.later;
        }

took-tidy : {role : Role} {openers : List OpenerSpec} {core : Core} {words : List ℤ} {next : Core}
    (waiting : List Request) (found : Chosen)
    → choice_among core.receive waiting ≡ Some found → Advances openers core (Took found.request.opener words) next
    → Tidy role core.receive waiting
    → Tidy role next.receive found.rest
took-tidy {core = core} waiting found c (takes block p s) ok = record {
  single = taken-single core.receive waiting found c ok.single;
  untaken = λ acting. take-untaken core.receive waiting found block c ok.single (ok.untaken acting);
}

answered-tidy : {role : Role} {openers : List OpenerSpec} {core : Core} {place : ℕ} {words : List ℤ} {next : Core}
    (waiting : List Request)
    → Advances openers core (Answered place words) next → Tidy role core.receive waiting
    → Tidy role next.receive waiting
answered-tidy {core = core} {place = place} {words = words} waiting (answers opener block p h o s w) ok = record {
  single = ok.single;
  untaken = λ acting. answer-untaken place opener.depth block words core.receive waiting s (ok.untaken acting);
}

own-tidy : {role : Role} {site : Site} {number node : ℕ} {core next : Core} {before after : Around} {cause : Cause}
    {deed : Deed} {done : Act} {messages : List Message}
    → Causes site number node core before cause deed done messages after
    → Advances (openers_of site number) core deed next → Tidy role core.receive before.waiting
    → Tidy role next.receive after.waiting
own-tidy by_inner (goes p) ok = ok
own-tidy {before = before} (by_take {found = found} c) a ok = took-tidy before.waiting found c a ok
own-tidy by_ask (asks p f w) ok = ok
own-tidy {before = before} (by_answer s) a ok = answered-tidy before.waiting a ok
own-tidy (by_device n) (acts p c) ok = ok
own-tidy (by_write n) (acts p c) ok = ok
own-tidy (by_reply i o n u) (gets p f) ok = ok

-- Changes

abbrev pub IsTidy : Copy → Type 0
IsTidy copy = Tidy copy.role copy.core.receive copy.waiting

-- nothing waits
begin-tidy : (role : Role) (table : ReceiveBlock) → Tidy role table []
begin-tidy role table =
    record { single = record { single = λ opener. omega arith }; untaken = λ acting request i. absurd i }

becomes-tidy : {site : Site} {w : World} {number : ℕ} {pair : Pair} {sent : List ImageMessage} {k : Which}
    {cause : Cause} {after : Copy} → Becomes site w number pair sent k cause after
    → IsTidy (copy_of k pair) → IsTidy after
becomes-tidy becoming.stays ok = ok
becomes-tidy (becoming.acts {after = after} {core = core} r c a e fr) ok =
    subst (λ role. Tidy role core.receive after.waiting) (sym (entered-same e).role) (own-tidy c a ok)
becomes-tidy (becoming.sends r p i) ok = ok
becomes-tidy (becoming.passes r) ok = ok
becomes-tidy (becoming.ends r) ok = ok
becomes-tidy (becoming.applies message r i e n a) ok = record { single = ok.single; untaken = λ acting. absurd (cc) }
becomes-tidy (becoming.is_told taken r s i e n) ok = ok
becomes-tidy becoming.is_freed ok = ok
becomes-tidy becoming.needs_less ok = ok
becomes-tidy {pair = pair} {k = k} (becoming.hears request r) ok = record {
  single = came-single (copy_of k pair).core.receive (copy_of k pair).waiting request ok.single;
  untaken = λ acting. came-untaken (copy_of k pair).core.receive (copy_of k pair).waiting request (ok.untaken acting);
}
becomes-tidy {pair = pair} {k = k} (becoming.hears_early request r) ok = record {
  single = waits-single (copy_of k pair).waiting request ok.single;
  untaken = λ acting. absurd (acting-gets-none _ acting r);
}
becomes-tidy {pair = pair} {k = k} (becoming.stops processor) ok = record {
  single = ok.single;
  untaken = λ acting. ok.untaken (was-role ((copy_of k pair).processor == processor) (copy_of k pair).role Acting
      (λ e. cc) acting);
}
becomes-tidy {pair = pair} {k = k} (becoming.takes_over node processor t) ok = record {
  single = still-single (copy_of k pair).core.receive (copy_of k pair).waiting ok.single;
  untaken = λ acting. still-untaken (copy_of k pair).core.receive (copy_of k pair).waiting;
}
becomes-tidy (becoming.is_blank processor here was) ok = begin-tidy Blank _
becomes-tidy (becoming.renews processor there) ok = ok

abbrev pub AllTidy : World → Type 0
AllTidy w = (number : ℕ) (pair : Pair) → slice_get w.processes number ≡ Some pair → (k : Which)
    → IsTidy (copy_of k pair)

change-tidy : {site : Site} (w next : World) (cause : Cause) (sendings : List Sending)
    → Change site w cause sendings next → AllTidy w → AllTidy next
change-tidy w next cause sendings c ok number after now k =
    let was = change-was w next cause sendings c number after now in
    becomes-tidy (was.copies k) (ok number was.before was.there k)

tidy-begin : (site : Site) → AllTidy (boot site)
tidy-begin site = all-begin (λ number pair. (k : Which) → IsTidy (copy_of k pair)) site by-which
  where
    by-which : (number from : ℕ) (spec : ProcessSpec) (k : Which) → IsTidy (copy_of k (pair_at_boot site from spec))
    by-which number from spec First = begin-tidy Acting _
    by-which number from spec Second = begin-tidy Watching _

pub run-tidy : {site : Site} {events : List Event} {w : World} → IsRun site events w → AllTidy w
run-tidy {site = site} run = holds-on AllTidy change-tidy run (tidy-begin site)
