-- What a copy keeps and what waits at it: its kept replies were sent, its table and its state agree on the request in
-- hand, and its waiting requests are to its process.
use Rattle.std.proofs.Common.{◌≡◌, inl, inr, ℕ, ℤ, Bool, true, false, if◌then◌else◌, List, [], ◌∷◌, Option, Some, None}
use Rattle.std.proofs.Common.{is_some, slice_get, refl, subst, sym, ◌∙◌, ◌==◌}
use Rattle.checkpoint_image.specs.gd_words.specs.Members.{IsAmong}
use Rattle.checkpoint_image.specs.gd_words.specs.declared.message.Request.{Request}
use Rattle.checkpoint_image.specs.gd_words.specs.declared.message.Reply.{Reply}
use Rattle.checkpoint_image.specs.tal_tree.specs.declared.act.Act.{Act}
use Rattle.checkpoint_image.specs.tal_tree.specs.declared.site.Site.{Site}
use Rattle.checkpoint_image.specs.tal_tree.specs.declared.site.ProcessSpec.{ProcessSpec}
use Rattle.checkpoint_image.specs.tal_tree.specs.declared.site.OpenerSpec.{OpenerSpec}
use Rattle.plain_semantics.specs.process_semantics.specs.Image.{state_from_words}
use Rattle.plain_semantics.specs.Openers.{openers_of}
use Rattle.disc_device.specs.Sectors.{Stored}
use Rattle.checkpoint_image.specs.declared.message.ImageMessage.{ImageMessage}
use Rattle.checkpoint_image.specs.declared.message.Image.{Image}
use Rattle.checkpoint_image.specs.declared.receive.OpenerBlock.{OpenerBlock}
use Rattle.checkpoint_image.specs.declared.receive.ReceiveBlock.{ReceiveBlock}
use Rattle.checkpoint_image.specs.Receive.{after_answering, request_standing, is_waiting, waits, came, still_waiting}
use Rattle.world_semantics.specs.Core.{Core, Deed, Took, Answered, Advances, goes, takes, asks, gets, answers, acts}
use Rattle.world_semantics.specs.Core.{put_in, with_files, after_passing, core_at_boot}
use Rattle.world_semantics.specs.World.{Copy, Pair, Down, World, Which, First, Second, copy_of, with_copy}
use Rattle.world_semantics.specs.Messages.{Message, Sending, Cause}
use Rattle.world_semantics.specs.Own.{Around, Causes, by_inner, by_take, by_ask, by_answer, by_device, by_write}
use Rattle.world_semantics.specs.Own.{by_reply}
use Rattle.world_semantics.specs.Passes.{Passes, by_send, by_pass_again, by_pass, by_end, by_apply_behind}
use Rattle.world_semantics.specs.Passes.{by_apply, by_acknowledge}
use Rattle.world_semantics.specs.Rules.{Change, by_own, by_checkpoint, by_request, by_early_request, by_enter, by_print}
use Rattle.world_semantics.specs.Rules.{by_stop, by_mark, by_reload, stopped_pair, taker, pair_after_down}
use Rattle.world_semantics.specs.Rules.{pair_at_down, renewals_ended, new_core, reloaded_by}
use Rattle.world_semantics.specs.Follows.{IsRun}
use Rattle.world_semantics.specs.Laws.{HasGrown}
use Rattle.world_semantics.proofs.Beginning.{all-begin}
use Rattle.world_semantics.proofs.Lists.{some-same, set-all, map-all}
use Rattle.world_semantics.proofs.Members.{among-filter}
use Rattle.world_semantics.proofs.Runs.{holds-on}
use Rattle.world_semantics.proofs.Waiting.{chosen-rest, waits-all}
use Rattle.world_semantics.proofs.Growing.{causes-grow}
use Rattle.world_semantics.proofs.Hands.{Stands, start-free, start-hand, take-hand, took-stands, inner-stands}
use Rattle.world_semantics.proofs.Hands.{asked-stands, got-stands, answered-stands, checkpoint-stands, device-stands}
use Rattle.world_semantics.proofs.Hands.{restored-stands, map-some}
use Rattle.world_semantics.proofs.KeptReplies.{KeptSent, kept-more, kept-begin, kept-nothing, kept-taking}
use Rattle.world_semantics.proofs.KeptReplies.{kept-answering}
use Rattle.world_semantics.proofs.Roles.{reload-all}

-- a core whose table and state agree, and whose kept replies were sent
pub record Fair (number : ℕ) (replies : List Reply) (core : Core) : Type 0 where
  pub stands : Stands core.state (is_some core.receive.in_hand)
  pub kept : KeptSent number replies core.receive

-- waiting requests are to a process
abbrev pub AreTo : ℕ → List Request → Type 0
AreTo number waiting = (request : Request) → IsAmong request waiting → request.process ≡ number

pub record FairCopy (number : ℕ) (replies : List Reply) (has : Core) (those : List Request) : Type 0 where
  pub core : Fair number replies has
  pub waiting : AreTo number those

abbrev pub CopyIsFair : ℕ → List Reply → Copy → Type 0
CopyIsFair number replies copy = FairCopy number replies copy.core copy.waiting

pub record FairPair (number : ℕ) (replies : List Reply) (pair : Pair) : Type 0 where
  pub first : CopyIsFair number replies pair.first
  pub second : CopyIsFair number replies pair.second
  pub checkpoints : (message : ImageMessage) → IsAmong message pair.checkpoints
      → KeptSent number replies message.image.receive

abbrev pub AllFair : World → Type 0
AllFair w = (number : ℕ) (pair : Pair) → slice_get w.processes number ≡ Some pair → FairPair number w.replies pair

-- More replies

copy-more : {number : ℕ} {replies more : List Reply} {core : Core} {waiting : List Request} → HasGrown replies more
    → FairCopy number replies core waiting
    → FairCopy number more core waiting
copy-more {number = n} {replies = r} {more = m} {core = c} g ok =
    record {
      core = record { stands = ok.core.stands; kept = kept-more n r m c.receive g ok.core.kept };
      waiting = ok.waiting;
    }

pair-more : {number : ℕ} {replies more : List Reply} {pair : Pair} → HasGrown replies more
    → FairPair number replies pair → FairPair number more pair
pair-more {number = n} {replies = r} {more = m} g ok = record {
  first = copy-more g ok.first;
  second = copy-more g ok.second;
  checkpoints = λ message i. kept-more n r m message.image.receive g (ok.checkpoints message i);
}

-- Waiting

waits-to : (number : ℕ) (waiting : List Request) (request : Request) → request.process ≡ number → AreTo number waiting
    → AreTo number (waits waiting request)
waits-to number waiting request to ok = waits-all (λ one. one.process ≡ number) waiting request to ok

came-to : (number : ℕ) (table : ReceiveBlock) (waiting : List Request) (request : Request) → request.process ≡ number
    → AreTo number waiting
    → AreTo number (came table waiting request)
came-to number table waiting request to ok other i = by-test (is_waiting (request_standing table request)) i
  where
    by-test : (wait : Bool) → IsAmong other (if wait then waits waiting request else waiting) → other.process ≡ number
    by-test true j = waits-to number waiting request to ok other j
    by-test false j = ok other j

-- Acts

none-held : (hand : Option ℕ) → is_some hand ≡ false → hand ≡ None
none-held None e = refl
none-held (Some place) e = absurd (cc)

took-fair : {number : ℕ} {openers : List OpenerSpec} {core : Core} {place : ℕ} {words : List ℤ} {next : Core}
    (replies : List Reply) → Advances openers core (Took place words) next
    → Fair number replies core → Fair number replies next
took-fair {number = n} {core = core} {place = place} replies (takes block p s) ok =
    let free = none-held core.receive.in_hand (sym ok.stands.hand ∙ take-hand core.state ok.stands.free p) in
    record { stands = took-stands core.state _ p; kept = kept-taking n replies place block core.receive free s ok.kept }

answered-fair : {number : ℕ} {openers : List OpenerSpec} {core : Core} {place : ℕ} {words : List ℤ} {next : Core}
    (replies : List Reply) (block : OpenerBlock)
    → slice_get core.receive.openers place ≡ Some block → Advances openers core (Answered place words) next
    → Fair number replies core
    → Fair number (record { process = number; opener = place; number = block.taken; words = words } ∷ replies) next
answered-fair {number = n} {core = core} {place = place} {words = words} replies block s
    (answers opener other p h o t w) ok =
    let same = some-same (sym t ∙ s) in
    record {
      stands = answered-stands core.state;
      kept = subst (λ (b : OpenerBlock). KeptSent n
          (record { process = n; opener = place; number = b.taken; words = words } ∷ replies)
          (after_answering opener.depth place other words core.receive)) same
          (kept-answering n replies place opener.depth other words core.receive h t ok.kept);
    }

own-fair : {site : Site} {number node : ℕ} {core : Core} {before after : Around} {cause : Cause} {deed : Deed}
    {done : Act} {messages : List Message} {next : Core}
    → Causes site number node core before cause deed done messages after
    → Advances (openers_of site number) core deed next → Fair number before.replies core
    → Fair number after.replies next
own-fair {core = core} by_inner (goes p) ok = record { stands = inner-stands core.state _ ok.stands; kept = ok.kept }
own-fair {before = before} (by_take c) a ok = took-fair before.replies a ok
own-fair {core = core} by_ask (asks p f w) ok = record { stands = asked-stands core.state _ ok.stands; kept = ok.kept }
own-fair {before = before} (by_answer {block = block} s) a ok = answered-fair before.replies block s a ok
own-fair {core = core} (by_device n) (acts p c) ok =
    record { stands = device-stands core.state _ _ ok.stands; kept = ok.kept }
own-fair {core = core} (by_write n) (acts p c) ok =
    record { stands = device-stands core.state _ _ ok.stands; kept = ok.kept }
own-fair {core = core} (by_reply i o n u) (gets p f) ok =
    record { stands = got-stands core.state _ _ ok.stands; kept = ok.kept }

own-to : {site : Site} {number node : ℕ} {core : Core} {before after : Around} {cause : Cause} {deed : Deed}
    {done : Act} {messages : List Message}
    → Causes site number node core before cause deed done messages after → AreTo number before.waiting
    → AreTo number after.waiting
own-to by_inner ok = ok
own-to {core = core} {before = before} (by_take {found = found} c) ok =
    λ request i. ok request (chosen-rest core.receive before.waiting found request c i)
own-to by_ask ok = ok
own-to (by_answer s) ok = ok
own-to (by_device n) ok = ok
own-to (by_write n) ok = ok
own-to (by_reply i o n u) ok = ok

own-pair : (number : ℕ) (replies : List Reply) (k : Which) (pair : Pair) (entered : Copy) (core : Core)
    (waiting : List Request) (sectors : List Stored)
    → FairCopy number replies core waiting → FairPair number replies pair
    → FairPair number replies (with_copy k (record entered { core = core; waiting = waiting })
    (record pair { sectors = sectors }))
own-pair number replies First pair entered core waiting sectors new ok =
    record { first = new; second = ok.second; checkpoints = ok.checkpoints }
own-pair number replies Second pair entered core waiting sectors new ok =
    record { first = ok.first; second = new; checkpoints = ok.checkpoints }

pub fair-of : (number : ℕ) (replies : List Reply) (k : Which) (pair : Pair) → FairPair number replies pair
    → CopyIsFair number replies (copy_of k pair)
fair-of number replies First pair ok = ok.first
fair-of number replies Second pair ok = ok.second

-- Checkpoints

put-fair : (number : ℕ) (replies : List Reply) (core : Core) (image : Image) (applied : Core)
    → KeptSent number replies image.receive → put_in core image ≡ Some applied
    → Fair number replies applied
put-fair number replies core image applied kept e =
    map-some (λ state. record { state = state; next = with_files image.files core.next; receive = image.receive })
    (Fair number replies)
    (state_from_words core.state (is_some image.receive.in_hand) image.body) applied
    (λ state there. record {
      stands = restored-stands core.state state (is_some image.receive.in_hand) image.body
          there;
      kept = kept;
    }) e

passed-fair : (number : ℕ) (replies : List Reply) (core : Core) (waiting : List Request)
    → FairCopy number replies core waiting
    → FairCopy number replies (after_passing core) waiting
passed-fair number replies core waiting ok =
    record {
      core = record { stands = checkpoint-stands core.state _ ok.core.stands; kept = ok.core.kept };
      waiting = ok.waiting;
    }

sent-kept : (number : ℕ) (replies : List Reply) (new : ImageMessage) (sent : List ImageMessage)
    → KeptSent number replies new.image.receive
    → ((message : ImageMessage) → IsAmong message sent → KeptSent number replies message.image.receive)
    → (message : ImageMessage) → IsAmong message (new ∷ sent)
    → KeptSent number replies message.image.receive
sent-kept number replies new sent k ok message (inl same) =
    subst (λ (m : ImageMessage). KeptSent number replies m.image.receive) (sym same) k
sent-kept number replies new sent k ok message (inr j) = ok message j

passes-fair : {number : ℕ} {downs : List Down} {kept after : List Act} {pair next : Pair} {cause : Cause}
    {sendings : List Sending} (replies : List Reply)
    → Passes number downs kept pair cause sendings next after → FairPair number replies pair
    → FairPair number replies next
passes-fair {number = n} {pair = p} replies (by_send First r t s m) ok =
    record {
      first = ok.first;
      second = ok.second;
      checkpoints = sent-kept n replies _ p.checkpoints ok.first.core.kept ok.checkpoints;
    }
passes-fair {number = n} {pair = p} replies (by_send Second r t s m) ok =
    record {
      first = ok.first;
      second = ok.second;
      checkpoints = sent-kept n replies _ p.checkpoints ok.second.core.kept ok.checkpoints;
    }
passes-fair {number = n} {pair = p} replies (by_pass_again First r t m l) ok =
    record {
      first = passed-fair n replies p.first.core p.first.waiting ok.first;
      second = ok.second;
      checkpoints = ok.checkpoints;
    }
passes-fair {number = n} {pair = p} replies (by_pass_again Second r t m l) ok =
    record {
      first = ok.first;
      second = passed-fair n replies p.second.core p.second.waiting ok.second;
      checkpoints = ok.checkpoints;
    }
passes-fair {number = n} {pair = p} replies (by_pass First r t m l) ok =
    record {
      first = passed-fair n replies p.first.core p.first.waiting ok.first;
      second = ok.second;
      checkpoints = ok.checkpoints;
    }
passes-fair {number = n} {pair = p} replies (by_pass Second r t m l) ok =
    record {
      first = ok.first;
      second = passed-fair n replies p.second.core p.second.waiting ok.second;
      checkpoints = ok.checkpoints;
    }
passes-fair replies (by_end First r s t m) ok =
    record { first = ok.first; second = ok.second; checkpoints = ok.checkpoints }
passes-fair replies (by_end Second r s t m) ok =
    record { first = ok.first; second = ok.second; checkpoints = ok.checkpoints }
passes-fair {number = n} {pair = p} replies (by_apply_behind First message applied r i e m a l) ok = record {
  first = record {
    core = put-fair n replies p.first.core message.image applied (ok.checkpoints message i) a;
    waiting = ok.first.waiting;
  };
  second = ok.second;
  checkpoints = ok.checkpoints;
}
passes-fair {number = n} {pair = p} replies (by_apply_behind Second message applied r i e m a l) ok = record {
  first = ok.first;
  second = record {
    core = put-fair n replies p.second.core message.image applied (ok.checkpoints message i) a;
    waiting = ok.second.waiting;
  };
  checkpoints = ok.checkpoints;
}
passes-fair {number = n} {pair = p} replies (by_apply First message applied r i e m a l) ok = record {
  first = record {
    core = put-fair n replies p.first.core message.image applied (ok.checkpoints message i) a;
    waiting = ok.first.waiting;
  };
  second = ok.second;
  checkpoints = ok.checkpoints;
}
passes-fair {number = n} {pair = p} replies (by_apply Second message applied r i e m a l) ok = record {
  first = ok.first;
  second = record {
    core = put-fair n replies p.second.core message.image applied (ok.checkpoints message i) a;
    waiting = ok.second.waiting;
  };
  checkpoints = ok.checkpoints;
}
passes-fair replies (by_acknowledge First taken r s i e n) ok =
    record { first = ok.first; second = ok.second; checkpoints = ok.checkpoints }
passes-fair replies (by_acknowledge Second taken r s i e n) ok =
    record { first = ok.first; second = ok.second; checkpoints = ok.checkpoints }

-- Requests, stops and takeovers

waiting-fair : (number : ℕ) (replies : List Reply) (k : Which) (pair : Pair) (waiting : List Request)
    → AreTo number waiting → FairPair number replies pair
    → FairPair number replies (with_copy k (record (copy_of k pair) { waiting = waiting }) pair)
waiting-fair number replies First pair waiting to ok =
    record { first = record { core = ok.first.core; waiting = to }; second = ok.second; checkpoints = ok.checkpoints }
waiting-fair number replies Second pair waiting to ok =
    record { first = ok.first; second = record { core = ok.second.core; waiting = to }; checkpoints = ok.checkpoints }

still-to : (number : ℕ) (table : ReceiveBlock) (waiting : List Request) → AreTo number waiting
    → AreTo number (still_waiting table waiting)
still-to number table waiting ok request i =
    ok request (among-filter request (λ r. is_waiting (request_standing table r)) waiting i).0

marking-fair : (number : ℕ) (replies : List Reply) (k : Option Which) (pair : Pair) → FairPair number replies pair
    → FairPair number replies (pair_after_down k pair)
marking-fair number replies None pair ok = ok
marking-fair number replies (Some First) pair ok = record {
  first = record {
    core = ok.first.core;
    waiting =
        still-to number pair.first.core.receive pair.first.waiting ok.first.waiting;
  };
  second = ok.second;
  checkpoints = ok.checkpoints;
}
marking-fair number replies (Some Second) pair ok = record {
  first = ok.first;
  second = record {
    core = ok.second.core;
    waiting = still-to number pair.second.core.receive pair.second.waiting ok.second.waiting;
  };
  checkpoints = ok.checkpoints;
}

ended-fair : (number : ℕ) (replies : List Reply) (node processor : ℕ) (pair : Pair) → FairPair number replies pair
    → FairPair number replies (renewals_ended node processor pair)
ended-fair number replies node processor pair ok =
    record { first = ok.first; second = ok.second; checkpoints = ok.checkpoints }

-- Reloads

blank-fair : (site : Site) (number : ℕ) (replies : List Reply) (spec : Option ProcessSpec) (core : Core)
    → Fair number replies core → Fair number replies (new_core site number spec core)
blank-fair site number replies None core ok = ok
blank-fair site number replies (Some spec) core ok = record {
  stands = record { hand = start-hand spec.what; free = start-free spec.what };
  kept = kept-nothing number (openers_of site number) replies;
}

reload-fair : (number : ℕ) (replies : List Reply) (core : Core) (pair : Pair) (one two : Bool)
    → Fair number replies core → FairPair number replies pair
    → FairPair number replies (reloaded_by core pair one two)
reload-fair number replies core pair false false new ok = ok
reload-fair number replies core pair true false new ok = record {
  first = record { core = new; waiting = λ request i. absurd i };
  second = ok.second;
  checkpoints = ok.checkpoints;
}
reload-fair number replies core pair false true new ok = record {
  first = ok.first;
  second = record { core = new; waiting = λ request i. absurd i };
  checkpoints = ok.checkpoints;
}
reload-fair number replies core pair true true new ok = record {
  first = record { core = new; waiting = λ request i. absurd i };
  second = record { core = new; waiting = λ request i. absurd i };
  checkpoints = ok.checkpoints;
}

-- All changes

pub change-fair : {site : Site} (w next : World) (cause : Cause) (sendings : List Sending)
    → Change site w cause sendings next → AllFair w → AllFair next
change-fair w next cause sendings (by_own {after = after} {core = core} {entered = entered} number k pair there role c
    a e fr) ok =
    let grown = (causes-grow c).replies in
    let old = fair-of number w.replies k pair (ok number pair there) in
    set-all (λ n p. FairPair n after.replies p) w.processes number _ (λ n p there. pair-more grown (ok n p there))
    (own-pair number after.replies k pair entered core after.waiting after.sectors
    (record { core = own-fair c a old.core; waiting = own-to c old.waiting })
    (pair-more grown (ok number pair there)))
change-fair w next cause sendings (by_checkpoint number pair there p) ok =
    set-all (λ n p. FairPair n w.replies p) w.processes number _ ok (passes-fair w.replies p (ok number pair there))
change-fair w next cause sendings (by_request request k pair i there r) ok =
    let old = fair-of request.process w.replies k pair (ok request.process pair there) in
    set-all (λ n p. FairPair n w.replies p) w.processes request.process _ ok
    (waiting-fair request.process w.replies k pair _
    (came-to request.process (copy_of k pair).core.receive (copy_of k pair).waiting request refl old.waiting)
    (ok request.process pair there))
change-fair w next cause sendings (by_early_request request k pair i there r) ok =
    let old = fair-of request.process w.replies k pair (ok request.process pair there) in
    set-all (λ n p. FairPair n w.replies p) w.processes request.process _ ok
    (waiting-fair request.process w.replies k pair _
    (waits-to request.process (copy_of k pair).waiting request refl old.waiting) (ok request.process pair there))
change-fair w next cause sendings (by_enter number terminal opener t f r o) ok = ok
change-fair w next cause sendings (by_print number terminal reply t f i o n) ok = ok
change-fair w next cause sendings (by_stop x r h) ok =
    map-all (λ n p. FairPair n w.replies p) (stopped_pair x) w.processes
    (λ n p there. record {
      first = (ok n p there).first;
      second = (ok n p there).second;
      checkpoints = (ok n p there).checkpoints;
    })
change-fair w next cause sendings (by_mark m x s r n) ok =
    map-all (λ n p. FairPair n w.replies p) (pair_at_down m x) w.processes
    (λ n p there. ended-fair n w.replies m x (pair_after_down (taker m x p) p)
    (marking-fair n w.replies (taker m x p) p (ok n p there)))
change-fair {site = site} w next cause sendings (by_reload x s m t l) ok =
    reload-all (λ n p. FairPair n w.replies p) site x w.processes
    (λ n p there. let old = ok n p there in
    reload-fair n w.replies (new_core site n (slice_get site.processes n) p.first.core) p (p.first.processor == x)
    (p.second.processor == x) (blank-fair site n w.replies (slice_get site.processes n) p.first.core old.first.core)
    old)

-- Beginning

begin-fair : (site : Site) (from number : ℕ) (spec : ProcessSpec) → FairCopy number [] (core_at_boot site from spec) []
begin-fair site from number spec = record {
  core = record {
    stands = record { hand = start-hand spec.what; free = start-free spec.what };
    kept = kept-begin number (openers_of site from);
  };
  waiting = λ request i. absurd i;
}

pub run-fair : {site : Site} {events : _} {w : World} → IsRun site events w → AllFair w
run-fair {site = site} run = holds-on AllFair change-fair run
    (all-begin (λ number pair. FairPair number [] pair) site (λ number from spec. record {
      first = begin-fair site from number spec;
      second = begin-fair site from number spec;
      checkpoints = λ message i. absurd i;
    }))
