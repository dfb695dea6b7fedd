-- Where a message is handed over or a terminal enters, each number is raised by one at most.
use Rattle.std.specs.List.{filter}
use Rattle.std.proofs.Common.{◌≡◌, ◌≤◌, ◌<◌, ℕ, ◌+◌, ◌==◌, ◌&&◌, Bool, true, false, List, [], ◌∷◌, ◌++◌, length, Option}
use Rattle.std.proofs.Common.{Some, None, is_some, slice_get, slice_set, map, option_map, option_and_then, refl, sym}
use Rattle.std.proofs.Common.{subst, arith, length-append, nat_lt, not, if◌then◌else◌}
use Rattle.std.proofs.lemmas.Bool.{eqb-true}
use Rattle.gd_words.specs.declared.message.Request.{Request}
use Rattle.gd_words.specs.declared.message.Reply.{Reply}
use Rattle.tal_tree.specs.declared.act.Act.TheVariants as act
use Rattle.tal_tree.specs.declared.site.Site.{Site}
use Rattle.tal_tree.specs.declared.site.Who.{Who}
use Rattle.tal_tree.specs.declared.site.Who.TheVariants as who
use Rattle.process_semantics.specs.declared.disc.DiscState.{DiscState}
use Rattle.process_semantics.specs.declared.point.Point.{Point}
use Rattle.process_semantics.specs.declared.point.Point.TheVariants as point
use Rattle.process_semantics.specs.Process as process
use Rattle.process_semantics.specs.Process.{ProcessState, Runs, Serves}
use Rattle.process_semantics.specs.Image.{state_from_words, restored_disc, restored_program}
use Rattle.plain_semantics.specs.declared.slot.Opener.{Opener}
use Rattle.plain_semantics.specs.Openers.{opener_of}
use Rattle.plain_semantics.specs.Machine.{next_request}
use Rattle.checkpoint_image.specs.declared.message.FileNumber.{FileNumber}
use Rattle.checkpoint_image.specs.declared.message.Image.{Image}
use Rattle.checkpoint_image.specs.declared.message.ImageMessage.{ImageMessage}
use Rattle.checkpoint_image.specs.declared.message.TakenMessage.{TakenMessage}
use Rattle.checkpoint_image.specs.declared.receive.ReceiveBlock.{ReceiveBlock}
use Rattle.checkpoint_image.specs.Receive.{is_outdone, is_same_opener, is_waiting, request_standing, waits, came}
use Rattle.checkpoint_image.specs.Receive.{reply_sent_again}
use Rattle.world_semantics.specs.declared.role.Role.{Role}
use Rattle.world_semantics.specs.declared.role.Role.TheVariants.{Acting, Watching, Blank, Gone}
use Rattle.world_semantics.specs.declared.which.Which.{Which}
use Rattle.world_semantics.specs.declared.which.Which.TheVariants.{First, Second}
use Rattle.world_semantics.specs.Core.{Core, core_getting, with_files, put_in}
use Rattle.world_semantics.specs.Messages.{Message, Asking, Replying, Checkpointing, Taking, sent_at}
use Rattle.world_semantics.specs.Own.{around}
use Rattle.world_semantics.specs.Kept.{own_acts}
use Rattle.world_semantics.specs.Passes.{after_applying, after_applying_behind, after_told, kept_at, point_at}
use Rattle.world_semantics.specs.Records.{records_of}
use Rattle.world_semantics.specs.Running.{in_world}
use Rattle.world_semantics.specs.Shares.{acts_at}
use Rattle.world_semantics.specs.World.{Copy, Pair, Terminal, World, copy_of, other_of, with_copy}
use Rattle.world_semantics.proofs.Lifted.{lifted}
use Rattle.world_semantics.proofs.Lists.{some-same}
use Rattle.computed_changes.specs.Entered.{enter_at, enter_to, enter_where, enter_done, entered_done}
use Rattle.computed_changes.specs.Fitting.{depths_of, fits, put_where, put_fitting}
use Rattle.computed_changes.specs.Checkpoints.{is_next_for, is_of_last}
use Rattle.computed_changes.specs.Handed.{brought_to, copy_in, handed_done, replied_done, step_by}
use Rattle.computed_changes.specs.Replies.{awaits, awaits_at, printed_at, printed_done, printed_where}
use Rattle.computed_changes.specs.Requests.{early_step}
use Rattle.computed_changes.proofs.Lifted.{acknowledged_where, applied_as, applied_done, applied_made, applied_where}
use Rattle.computed_changes.proofs.Lifted.{asked_done, checkpoint_done, got_done, got_where, taken_done}
use Rattle.number_laws.proofs.Each.{Each, each-get, each-set}
use Rattle.number_laws.proofs.Within.{StateWithin, AreNext, CoreWithin, CopyWithin, PairWithin, ImageWithin}
use Rattle.number_laws.proofs.Within.{MessageWithin, AreSendings, WorldWithin, DoneWithin, AnyWithin, TerminalWithin}
use Rattle.number_laws.proofs.Within.{core-more, terminals-more, held_in, held-set, held-there, filter-few}
use Rattle.number_laws.proofs.Acts.{own-few, state-got}
use Rattle.number_laws.proofs.Runs.{copy-there, pair-with, pairs-set, pair-there, acts-set, own-done}

-- What is sent beside checkpoints

pub replies-within : (n : ℕ) (kinds : ℕ → Bool) (node : ℕ) (replies : List Reply)
    → AreSendings n kinds (sent_at node (map Replying replies))
replies-within n kinds node [] = tt
replies-within n kinds node (reply ∷ replies) = (tt, replies-within n kinds node replies)

-- Requests that wait

-- one more request waits at most
waits-few : (waiting : List Request) (request : Request) → length (waits waiting request) ≤ length waiting + 1
waits-few waiting request = by (is_outdone request waiting)
  where
    by : (outdone : Bool)
        → length (if outdone then waiting else filter (λ other. not (is_same_opener request other)) waiting
        ++ request ∷ []) ≤ length waiting + 1
    by true = omega arith
    by false =
        let less = filter-few (λ other. not (is_same_opener request other)) waiting in
        let sum = length-append (filter (λ other. not (is_same_opener request other)) waiting) (request ∷ []) in
        omega (arith, less, sum)

came-few : (table : ReceiveBlock) (waiting : List Request) (request : Request)
    → length (came table waiting request) ≤ length waiting + 1
came-few table waiting request = by (is_waiting (request_standing table request))
  where
    by : (test : Bool) → length (if test then waits waiting request else waiting) ≤ length waiting + 1
    by true = waits-few waiting request
    by false = omega arith

-- What a checkpoint restores

files-within : (n : ℕ) (files : List FileNumber) (next : List ℕ)
    → Each (λ (named : FileNumber). named.next ≤ n + 1) files → AreNext n next
    → AreNext n (with_files files next)
files-within n [] next few is = is
files-within n (named ∷ files) next few is =
    files-within n files (slice_set next named.file named.next) few.1 (each-set _ next named.file named.next is few.0)

state-restored : (n : ℕ) (d hand : Bool) (s t : ProcessState) (image : Image) → StateWithin n d s
    → ImageWithin n d image → state_from_words s hand image.body ≡ Some t
    → StateWithin n d t
state-restored n d hand (Runs code s) t image is few restores = by (restored_program code s hand image.body) restores
  where
    by : (there : Option _) → option_map (Runs code) there ≡ Some t → StateWithin n d t
    by None given = absurd (cc)
    by (Some found) given = subst (StateWithin n d) (some-same given) (is.0, omega arith)
state-restored n d hand (Serves sectors s) t image is few restores = by (restored_disc hand image.body) refl restores
  where
    by : (there : Option DiscState) → restored_disc hand image.body ≡ there
        → option_map (Serves sectors) there ≡ Some t → StateWithin n d t
    by None same given = absurd (cc)
    by (Some found) same given = subst (StateWithin n d) (some-same given) (is.0, few.write (sym is.0) hand found same)

put-within : (n : ℕ) (d : Bool) (core applied : Core) (image : Image) → CoreWithin n d core → ImageWithin n d image
    → put_in core image ≡ Some applied
    → CoreWithin n d applied
put-within n d core applied image is few puts =
    by (state_from_words core.state (is_some image.receive.in_hand) image.body) refl puts
  where
    by : (there : Option ProcessState) → state_from_words core.state (is_some image.receive.in_hand) image.body ≡ there
        → option_map (λ state. record {
          state = state;
          next = with_files image.files core.next;
          receive = image.receive;
        }) there ≡ Some applied
        → CoreWithin n d applied
    by None same given = absurd (cc)
    by (Some state) same given = subst (CoreWithin n d) (some-same given) (record {
      state = state-restored n d (is_some image.receive.in_hand) core.state state image is.state few same;
      next = files-within n image.files core.next few.files is.next;
      taken = few.taken;
      kept = few.kept;
    })

module _ (n : ℕ) (kinds : ℕ → Bool) (w : World) (within : WorldWithin n kinds w) (low : n < 4294967295)
    (site : Site) where
  shown-later : length w.shown ≤ n + 1
  shown-later = let few = within.shown in omega (arith, few)

  terminals-later : Each (TerminalWithin (n + 1)) w.terminals
  terminals-later = terminals-more (n + 1) n w.terminals (omega arith) within.terminals

  at-copy-within : (number node : ℕ) (message : Message)
      → ((k : Which) (pair : Pair) → slice_get w.processes number ≡ Some pair
      → AnyWithin (n + 1) kinds (lifted number w (step_by site number pair (records_of w) message k)))
      → AnyWithin (n + 1) kinds (brought_to site number node message w (slice_get w.processes number))
  at-copy-within number node message all = by (slice_get w.processes number) refl
    where
      by : (there : Option Pair) → slice_get w.processes number ≡ there
          → AnyWithin (n + 1) kinds (brought_to site number node message w there)
      by None there = tt
      by (Some pair) there = here (copy_in node pair)
        where
          here : (k : Option Which) → AnyWithin (n + 1) kinds
              (lifted number w (option_and_then (step_by site number pair (records_of w) message) k))
          here None = tt
          here (Some k) = all k pair there

  module _ (number : ℕ) (k : Which) (pair : Pair) (there : slice_get w.processes number ≡ Some pair) where
    whole : PairWithin (n + 1) (kinds number) pair
    whole = pair-there n kinds w within number pair there

    own : CopyWithin (n + 1) (kinds number) (copy_of k pair)
    own = copy-there (n + 1) (kinds number) k pair whole

    -- a copy is changed, but no number
    changed : (copy : Copy) → CopyWithin (n + 1) (kinds number) copy → length copy.held ≤ length (copy_of k pair).held
        → WorldWithin (n + 1) kinds (record w { processes = slice_set w.processes number (with_copy k copy pair) })
    changed copy copy-is held = record {
      pairs = pairs-set n kinds w within number _ (pair-with (n + 1) (kinds number) k copy pair whole copy-is);
      acts = acts-set n kinds w within number k pair pair copy w.kept there refl refl (omega (arith, held));
      shown = shown-later;
      terminals = terminals-later;
    }

    -- the copy before, with other requests waiting
    with-wait : (waiting : List Request) → length waiting ≤ length (copy_of k pair).waiting + 1
        → CopyWithin (n + 1) (kinds number) (record (copy_of k pair) { waiting = waiting })
    with-wait waiting one-more =
        let before = (copy-there n (kinds number) k pair (within.pairs number pair there)).4 in
        (own.0, own.1, own.2, own.3, omega (arith, before, one-more))

    same-held : length (copy_of k pair).held ≤ length (copy_of k pair).held
    same-held = omega arith

    got-within : (reply : Reply) (role : Role) → AnyWithin (n + 1) kinds (got_done site number reply k pair w role)
    got-within reply Acting =
        by (awaits site number (copy_of k pair).core reply (process.point (copy_of k pair).core.state))
      where
        by : (test : Bool) → AnyWithin (n + 1) kinds (got_where number reply k pair w test)
        by true =
            own-done n kinds w within low number k pair there
            (record {
              done = act.Step number;
              messages = [];
              after = around (copy_of k pair) pair w;
              core = core_getting reply.words (copy_of k pair).core;
            })
            (record {
              core = record {
                state = state-got (n + 1) (kinds number) (copy_of k pair).core.state reply.words
                    own.0.state;
                next = own.0.next;
                taken = own.0.taken;
                kept = own.0.kept;
              };
              messages = tt;
              shown = shown-later;
              waiting = own.4;
            })
        by false = tt
    got-within reply Watching = tt
    got-within reply Blank = tt
    got-within reply Gone = tt

  early-within : (request : Request) (k : Which) (pair : Pair) → slice_get w.processes request.process ≡ Some pair
      → DoneWithin (n + 1) kinds (in_world request.process w (early_step k pair (records_of w) request))
  early-within request k pair there = record {
    world = changed request.process k pair there
        (record (copy_of k pair) { waiting = waits (copy_of k pair).waiting request })
        (with-wait request.process k pair there _ (waits-few (copy_of k pair).waiting request))
        (same-held request.process k pair there);
    sendings = tt;
  }

  asked-within : (request : Request) (k : Which) (pair : Pair) → slice_get w.processes request.process ≡ Some pair
      → (role : Role)
      → AnyWithin (n + 1) kinds (asked_done request k pair w role)
  asked-within request k pair there Acting = record {
    world = changed request.process k pair there
        (record (copy_of k pair) { waiting = came (copy_of k pair).core.receive (copy_of k pair).waiting request })
        (with-wait request.process k pair there _
        (came-few (copy_of k pair).core.receive (copy_of k pair).waiting request))
        (same-held request.process k pair there);
    sendings = replies-within (n + 1) kinds (copy_of k pair).processor
        (reply_sent_again (copy_of k pair).core.receive request);
  }
  asked-within request k pair there Watching = early-within request k pair there
  asked-within request k pair there Blank = early-within request k pair there
  asked-within request k pair there Gone = tt

  -- a terminal is changed
  terminal-set : (number : ℕ) (terminal : Terminal) → TerminalWithin (n + 1) terminal
      → Each (TerminalWithin (n + 1)) (slice_set w.terminals number terminal)
  terminal-set number terminal is = each-set _ w.terminals number terminal terminals-later is

  printed-within : (number : ℕ) (reply : Reply) (test : Bool)
      → AnyWithin (n + 1) kinds (printed_at site number reply w test)
  printed-within number reply false = tt
  printed-within number reply true = by (slice_get w.terminals number) refl
    where
      by : (terminal : Option Terminal) → slice_get w.terminals number ≡ terminal
          → AnyWithin (n + 1) kinds (printed_done site number reply w terminal)
      by None there = tt
      by (Some terminal) there = printed (awaits_at site number terminal reply)
        where
          printed : (test : Bool) → AnyWithin (n + 1) kinds (printed_where number reply terminal w test)
          printed false = tt
          printed true =
              let terminal-is = each-get _ w.terminals number terminal within.terminals there in
              record {
                world = record {
                  pairs = λ j pair at. pair-there n kinds w within j pair at;
                  acts = let acts = within.acts in omega (arith, acts);
                  shown = let few = within.shown in omega (arith, few);
                  terminals =
                      terminal-set number (record terminal { printed = terminal.printed + 1 }) (
                        (let entered = terminal-is.0 in omega (arith, entered)),
                        (let printed = terminal-is.1 in omega (arith, printed)),
                      );
                };
                sendings = tt;
              }

  replied-within : (node : ℕ) (reply : Reply) (opener : Option Who)
      → AnyWithin (n + 1) kinds (replied_done site node reply w opener)
  replied-within node reply None = tt
  replied-within node reply (Some (who.File number file)) =
      at-copy-within number node (Replying reply)
      (λ k pair there. got-within number k pair there reply (copy_of k pair).role)
  replied-within node reply (Some (who.Terminal number)) = printed-within number reply _

  -- a checkpoint is applied: what the other copy held is kept with its checkpoint
  module _ (message : ImageMessage) (pair : Pair) (there : slice_get w.processes message.process ≡ Some pair)
      (fits_in : ImageWithin (n + 1) (kinds message.process) message.image) where
    abbrev number : ℕ
    number = message.process

    held-two : length pair.first.held + length pair.second.held ≤ held_in w.processes
    held-two = held-there w.processes number pair there

    sum-of : (copy : Copy) → length (copy.held ++ w.kept) ≡ length copy.held + length w.kept
    sum-of copy = length-append copy.held w.kept

    -- with its step at its checkpoint, if it stands at one
    point-few : (stands : Point) → length (acts_at number stands) ≤ 1
    point-few point.AtCheckpoint = omega arith
    point-few point.Inner = omega arith
    point-few point.Take = omega arith
    point-few point.Ask = omega arith
    point-few point.Await = omega arith
    point-few point.Answer = omega arith
    point-few point.Device = omega arith
    point-few point.Ended = omega arith

    at-of : (copy : Copy) → length (kept_at number copy w.kept) ≤ length copy.held + length w.kept + 1
    at-of copy =
        let one = point-few (point_at copy) in
        let sum = sum-of copy in
        let all = length-append (acts_at number (point_at copy)) (copy.held ++ w.kept) in
        omega (arith, one, sum, all)

    applied-pair : (k : Which) (applied : Core) → CoreWithin (n + 1) (kinds number) applied → message.number ≤ n + 1
        → PairWithin (n + 1) (kinds number) (after_applying number k message applied w.kept pair)
    applied-pair First applied core-is few =
        let is = pair-there n kinds w within number pair there in
        let other = own-few number (pair.second.held ++ w.kept) in
        let all = own-few number (kept_at number pair.second w.kept) in
        let most = at-of pair.second in
        let sum = sum-of pair.second in
        let acts = within.acts in (
          (core-is, few, is.0.2, is.0.3, is.0.4),
          (is.1.0, is.1.1, is.1.2, omega (arith, other, sum, acts, held-two), is.1.4),
          omega (arith, all, most, acts, held-two),
        )
    applied-pair Second applied core-is few =
        let is = pair-there n kinds w within number pair there in
        let other = own-few number (pair.first.held ++ w.kept) in
        let all = own-few number (kept_at number pair.first w.kept) in
        let most = at-of pair.first in
        let sum = sum-of pair.first in
        let acts = within.acts in (
          (is.0.0, is.0.1, is.0.2, omega (arith, other, sum, acts, held-two), is.0.4),
          (core-is, few, is.1.2, is.1.3, is.1.4),
          omega (arith, all, most, acts, held-two),
        )

    -- where the other copy is behind the kept acts, the base is where it stands
    behind-pair : (k : Which) (applied : Core) → CoreWithin (n + 1) (kinds number) applied → message.number ≤ n + 1
        → PairWithin (n + 1) (kinds number) (after_applying_behind number k message applied w.kept pair)
    behind-pair First applied core-is few =
        let is = pair-there n kinds w within number pair there in
        let low = (within.pairs number pair there).1.3 in
        let own = own-few number (acts_at number (point_at pair.second)) in
        let one = point-few (point_at pair.second) in
        ((core-is, few, is.0.2, is.0.3, is.0.4), is.1, omega (arith, low, own, one))
    behind-pair Second applied core-is few =
        let is = pair-there n kinds w within number pair there in
        let low = (within.pairs number pair there).0.3 in
        let own = own-few number (acts_at number (point_at pair.first)) in
        let one = point-few (point_at pair.first) in
        (is.0, (core-is, few, is.1.2, is.1.3, is.1.4), omega (arith, low, own, one))

    behind-acts : (k : Which) (applied : Core)
        → length w.kept
        + held_in (slice_set w.processes number (after_applying_behind number k message applied w.kept pair))
        ≤ n + 1
    behind-acts First applied =
        let all =
        held-set w.processes number pair (after_applying_behind number First message applied w.kept pair) there in
        let acts = within.acts in
        omega (arith, all, acts)
    behind-acts Second applied =
        let all =
        held-set w.processes number pair (after_applying_behind number Second message applied w.kept pair) there in
        let acts = within.acts in
        omega (arith, all, acts)

    applied-acts : (k : Which) (applied : Core)
        → length (kept_at number (copy_of (other_of k) pair) w.kept)
        + held_in (slice_set w.processes number (after_applying number k message applied w.kept pair))
        ≤ n + 1
    applied-acts First applied =
        let all = held-set w.processes number pair (after_applying number First message applied w.kept pair) there in
        let most = at-of pair.second in
        let acts = within.acts in
        omega (arith, all, most, acts)
    applied-acts Second applied =
        let all = held-set w.processes number pair (after_applying number Second message applied w.kept pair) there in
        let most = at-of pair.first in
        let acts = within.acts in
        omega (arith, all, most, acts)

    as-within : (k : Which) (applied : Core) → CoreWithin (n + 1) (kinds number) applied → message.number ≤ n + 1
        → (behind : Bool) → DoneWithin (n + 1) kinds (applied_as message k pair w applied behind)
    as-within k applied core-is few true = record {
      world = record {
        pairs = pairs-set n kinds w within number _ (behind-pair k applied core-is few);
        acts = behind-acts k applied;
        shown = shown-later;
        terminals = terminals-later;
      };
      sendings = (tt, tt);
    }
    as-within k applied core-is few false = record {
      world = record {
        pairs = pairs-set n kinds w within number _ (applied-pair k applied core-is few);
        acts = applied-acts k applied;
        shown = shown-later;
        terminals = terminals-later;
      };
      sendings = (tt, tt);
    }

    applied-within : (k : Which) (applied : Core) → CoreWithin (n + 1) (kinds number) applied → message.number ≤ n + 1
        → DoneWithin (n + 1) kinds (applied_done message k pair w applied)
    applied-within k applied core-is few =
        as-within k applied core-is few (nat_lt (copy_of (other_of k) pair).position (own_acts number w.kept))

    next-number : (copy : Copy) → is_next_for copy.era copy.number message ≡ true → copy.number ≤ n
        → message.number ≤ n + 1
    next-number copy next few = by (message.era == copy.era) (message.number == copy.number + 1) refl next
      where
        by : (era number : Bool) → (message.number == copy.number + 1) ≡ number → (era && number) ≡ true
            → message.number ≤ n + 1
        by true true same given = let is = eqb-true message.number (copy.number + 1) same in omega (arith, is, few)
        by true false same given = absurd (cc)
        by false number same given = absurd (cc)

    next-within : (k : Which) → AnyWithin (n + 1) kinds
        (applied_where site message k pair w (is_next_for (copy_of k pair).era (copy_of k pair).number message))
    next-within k = by (is_next_for (copy_of k pair).era (copy_of k pair).number message) refl
      where
        before : CopyWithin n (kinds number) (copy_of k pair)
        before = copy-there n (kinds number) k pair (within.pairs number pair there)

        puts : (fitting : Bool) (next : is_next_for (copy_of k pair).era (copy_of k pair).number message ≡ true)
            (there : Option Core)
            → put_where (copy_of k pair).core message.image fitting ≡ there
            → AnyWithin (n + 1) kinds (applied_made message k pair w there)
        puts fitting next None same = tt
        puts false next (Some applied) same = absurd (cc)
        puts true next (Some applied) same =
            applied-within k applied
            (put-within (n + 1) (kinds number) (copy_of k pair).core applied message.image
            (core-more (n + 1) n (kinds number) (copy_of k pair).core (omega arith) before.0) fits_in same)
            (next-number (copy_of k pair) next before.1)

        by : (test : Bool) → is_next_for (copy_of k pair).era (copy_of k pair).number message ≡ test
            → AnyWithin (n + 1) kinds (applied_where site message k pair w test)
        by true next =
            puts (fits (depths_of site message.process) (copy_of k pair).core message.image) next
            (put_fitting (depths_of site message.process) (copy_of k pair).core message.image) refl
        by false next = tt

    checkpoint-within : (k : Which) (role : Role) → AnyWithin (n + 1) kinds (checkpoint_done site message k pair w role)
    checkpoint-within k Acting = tt
    checkpoint-within k Gone = tt
    checkpoint-within k Watching = next-within k
    checkpoint-within k Blank = next-within k

  taken-within : (taken : TakenMessage) (k : Which) (pair : Pair) → slice_get w.processes taken.process ≡ Some pair
      → (role : Role)
      → AnyWithin (n + 1) kinds (taken_done taken k pair w role)
  taken-within taken k pair there Acting =
      by (is_of_last (copy_of k pair).sent (copy_of k pair).era (copy_of k pair).number taken)
    where
      by : (test : Bool) → AnyWithin (n + 1) kinds (acknowledged_where taken k pair w test)
      by true = record {
        world = changed taken.process k pair there (after_told (copy_of k pair))
            (own taken.process k pair there)
            (same-held taken.process k pair there);
        sendings = tt;
      }
      by false = tt
  taken-within taken k pair there Watching = tt
  taken-within taken k pair there Blank = tt
  taken-within taken k pair there Gone = tt

  pub handed-within : (node : ℕ) (message : Message) → MessageWithin (n + 1) kinds message
      → AnyWithin (n + 1) kinds (handed_done site node message w)
  handed-within node (Asking request) is =
      at-copy-within request.process node (Asking request)
      (λ k pair there. asked-within request k pair there (copy_of k pair).role)
  handed-within node (Replying reply) is = replied-within node reply _
  handed-within node (Checkpointing message) is =
      at-copy-within message.process node (Checkpointing message)
      (λ k pair there. checkpoint-within message pair there is k (copy_of k pair).role)
  handed-within node (Taking taken) is = at-copy-within taken.process node (Taking taken)
      (λ k pair there. taken-within taken k pair there (copy_of k pair).role)

  -- a terminal enters
  entered-within : (number : ℕ) (terminal : Terminal) → slice_get w.terminals number ≡ Some terminal
      → (opener : Opener) (words : Option (List _))
      → AnyWithin (n + 1) kinds (option_map (entered_done number terminal w opener) words)
  entered-within number terminal there opener None = tt
  entered-within number terminal there opener (Some words) =
      let terminal-is = each-get _ w.terminals number terminal within.terminals there in
      record {
        world = record {
          pairs = λ j pair at. pair-there n kinds w within j pair at;
          acts = let acts = within.acts in omega (arith, acts);
          shown = shown-later;
          terminals =
              terminal-set number (record terminal { entered = terminal.entered + 1 }) (
                (let entered = terminal-is.0 in omega (arith, entered)),
                (let printed = terminal-is.1 in omega (arith, printed)),
              );
        };
        sendings = (tt, tt);
      }

  pub enter-within : (number : ℕ) → AnyWithin (n + 1) kinds (enter_done site number w)
  enter-within number = by (slice_get w.terminals number) refl
    where
      to : (terminal : Terminal) → slice_get w.terminals number ≡ Some terminal → (test : Bool)
          → AnyWithin (n + 1) kinds (enter_where site number terminal w test)
      to terminal there false = tt
      to terminal there true = opened (opener_of site (who.Terminal number))
        where
          opened : (opener : Option Opener) → AnyWithin (n + 1) kinds
              (enter_to number terminal w (next_request site number terminal.entered) opener)
          opened None = tt
          opened (Some opener) = entered-within number terminal there opener (next_request site number terminal.entered)

      by : (terminal : Option Terminal) → slice_get w.terminals number ≡ terminal
          → AnyWithin (n + 1) kinds (enter_at site number w terminal)
      by None there = tt
      by (Some terminal) there = to terminal there _
