-- Where a process runs, each number is raised by one at most.
use Rattle.std.proofs.Common.{◌≡◌, ◌≤◌, ◌<◌, ℕ, ◌+◌, Bool, true, false, List, [], ◌∷◌, length, Option, Some, None}
use Rattle.std.proofs.Common.{nat_lt, not, slice_get, slice_set, refl, arith, length-append}
use Rattle.tal_tree.specs.declared.act.Act.{Act}
use Rattle.tal_tree.specs.declared.site.Site.{Site}
use Rattle.process_semantics.specs.declared.disc.DiscState.{DiscState}
use Rattle.process_semantics.specs.declared.point.Point.{Point}
use Rattle.process_semantics.specs.declared.point.Point.TheVariants as point
use Rattle.process_semantics.specs.Image.{disc_words, image_of, imaged_at, restored_disc, state_words}
use Rattle.process_semantics.specs.Process as process
use Rattle.process_semantics.specs.Process.{ProcessState, Runs, Serves}
use Rattle.checkpoint_image.specs.declared.message.FileNumber.{FileNumber}
use Rattle.checkpoint_image.specs.declared.message.Image.{Image}
use Rattle.world_semantics.specs.declared.role.Role.{Role}
use Rattle.world_semantics.specs.declared.role.Role.TheVariants.{Acting, Watching, Blank, Gone}
use Rattle.world_semantics.specs.declared.which.Which.{Which}
use Rattle.world_semantics.specs.declared.which.Which.TheVariants.{First, Second}
use Rattle.world_semantics.specs.Core.{Core, carried_by, carried_with, files_for, items_for, next_on}
use Rattle.world_semantics.specs.Kept.{own_acts}
use Rattle.world_semantics.specs.Messages.{Message, sent_at}
use Rattle.world_semantics.specs.Own.{around}
use Rattle.world_semantics.specs.Passes.{after_sending, after_sent, copy_at_checkpoint, checkpoint_of}
use Rattle.world_semantics.specs.Passes.{kept_at_checkpoint}
use Rattle.world_semantics.specs.Records.{records_of}
use Rattle.world_semantics.specs.Running.{Own, Stepped, copy_acted, ending_step, first_step, own_at, run_done}
use Rattle.world_semantics.specs.Running.{run_pair, sending_step, step_of_copy}
use Rattle.world_semantics.specs.Shares.{share_after_act, share_of}
use Rattle.world_semantics.specs.World.{Copy, Pair, World, copy_of, has_marked, may_pass, other_of, with_copy}
use Rattle.world_semantics.proofs.Lifted.{ended_done, free_at, lifted, made_if, done_at_checkpoint, own_done, own_made}
use Rattle.world_semantics.proofs.Lifted.{passed_done, renewing_at, run_as, run_at, sent_done}
use Rattle.world_semantics.proofs.Lists.{set-all}
use Rattle.number_laws.proofs.Each.{Each, each-more, each-always, each-map}
use Rattle.number_laws.proofs.Within.{StateWithin, CoreWithin, CopyWithin, PairWithin, PairsWithin, ImageWithin}
use Rattle.number_laws.proofs.Within.{MessageWithin, AreSendings, WorldWithin, DoneWithin, AnyWithin, core-more}
use Rattle.number_laws.proofs.Within.{pair-more, terminals-more, held_in, held-with, held-set, held-there, held-one}
use Rattle.number_laws.proofs.Images.{restored-number}
use Rattle.number_laws.proofs.Acts.{entered-within, own-few, OwnWithin, AnyOwnWithin, own-within, next-low}
use Rattle.number_laws.proofs.Acts.{state-marked}

-- Images

image-number : (n : ℕ) (items : List ℕ) (s : ProcessState) (d : Bool) → n < 4294967295 → StateWithin n d s → d ≡ true
    → (hand : Bool) (t : DiscState)
    → restored_disc hand (image_of items s) ≡ Some t → t.last_write ≤ n
image-number n items (Runs code s) d low is disc hand t restores = absurd (cc)
image-number n items (Serves sectors s) d low is disc hand t restores = by s.label restores
  where
    known : restored_disc hand (disc_words s) ≡ Some t → t.last_write ≤ n
    known given = let number = restored-number hand s t (let few = is.1 in omega (arith, few, low)) given in let few =
        is.1 in omega (arith, number, few)

    by : (label : Point) → restored_disc hand (state_words items (imaged_at (Serves sectors s) label)) ≡ Some t
        → t.last_write ≤ n
    by point.AtCheckpoint given = known given
    by point.Inner given = known given
    by point.Take given = known given
    by point.Ask given = known given
    by point.Answer given = known given
    by point.Device given = known given
    by point.Await given = known given
    by point.Ended given = known given

-- what a core's checkpoint carries that names these items and files
pub carried-within : (n : ℕ) (d : Bool) (items files : List ℕ) (core : Core) → n < 4294967295 → CoreWithin n d core
    → ImageWithin n d (carried_with items files core)
carried-within n d items files core low is = record {
  files = each-map _ (λ file. record { file = file; next = next_on core file }) files
      (each-always _ (λ file. next-low n core.next file is.next) files);
  taken = is.taken;
  kept = is.kept;
  write = λ disc hand t restores. image-number n items core.state d low is.state disc hand t restores;
}

-- Copies of pairs

pub copy-there : (n : ℕ) (d : Bool) (k : Which) (pair : Pair) → PairWithin n d pair → CopyWithin n d (copy_of k pair)
copy-there n d First pair is = is.0
copy-there n d Second pair is = is.1

pub pair-with : (n : ℕ) (d : Bool) (k : Which) (copy : Copy) (pair : Pair) → PairWithin n d pair → CopyWithin n d copy
    → PairWithin n d (with_copy k copy pair)
pair-with n d First copy pair is one = (one, is.1, is.2)
pair-with n d Second copy pair is one = (is.0, one, is.2)

module _ (n : ℕ) (kinds : ℕ → Bool) (w : World) (within : WorldWithin n kinds w) where
  -- a process is changed
  pub pairs-set : (number : ℕ) (next : Pair) → PairWithin (n + 1) (kinds number) next
      → PairsWithin (n + 1) kinds (slice_set w.processes number next)
  pairs-set number next is =
      set-all (λ j. PairWithin (n + 1) (kinds j)) w.processes number next
      (λ j pair there. pair-more (n + 1) n (kinds j) pair (omega arith) (within.pairs j pair there)) is

  pub pair-there : (number : ℕ) (pair : Pair) → slice_get w.processes number ≡ Some pair
      → PairWithin (n + 1) (kinds number) pair
  pair-there number pair there = pair-more (n + 1) n (kinds number) pair (omega arith) (within.pairs number pair there)

  -- one copy of it is, and the kept acts with it
  pub acts-set : (number : ℕ) (k : Which) (pair other : Pair) (copy : Copy) (kept : List Act)
      → slice_get w.processes number ≡ Some pair → other.first ≡ pair.first
      → other.second ≡ pair.second → length kept + length copy.held ≤ length w.kept + length (copy_of k pair).held + 1
      → length kept + held_in (slice_set w.processes number (with_copy k copy other)) ≤ n + 1
  acts-set number k pair other copy kept there first second few =
      let one = held-with k copy pair other first second in
      let all = held-set w.processes number pair (with_copy k copy other) there in
      let acts = within.acts in
      omega (arith, one, all, acts, few)

  module _ (low : n < 4294967295) (number : ℕ) (k : Which) (pair : Pair)
      (there : slice_get w.processes number ≡ Some pair) where
    whole : PairWithin (n + 1) (kinds number) pair
    whole = pair-there number pair there

    own : CopyWithin n (kinds number) (copy_of k pair)
    own = copy-there n (kinds number) k pair (within.pairs number pair there)

    era-low : (copy_of k pair).era ≤ n + 1
    era-low = let few = own.2 in omega (arith, few)

    -- an act of its own
    sent-messages : (node : ℕ) (messages : List Message) → Each (MessageWithin (n + 1) kinds) messages
        → AreSendings (n + 1) kinds (sent_at node messages)
    sent-messages node messages each = each-map _ (λ message. record { node = node; message = message }) messages each

    pub own-done : (o : Own) → OwnWithin (n + 1) kinds (kinds number) o
        → DoneWithin (n + 1) kinds (own_done number k pair w o)
    own-done o o-is =
        let e = entered-within number o.done w.kept (copy_of k pair) in
        record {
          world = record {
            pairs =
                pairs-set number _
                (pair-with (n + 1) (kinds number) k _ (record pair { sectors = o.after.sectors }) whole (
                  o-is.core,
                  (let few = own.1 in omega (arith, few)),
                  era-low,
                  (let up = e.position in let few = own.3 in omega (arith, up, few)),
                  o-is.waiting,
                ));
            acts =
                acts-set number k pair (record pair { sectors = o.after.sectors })
                (copy_acted number w.kept o (copy_of k pair))
                (share_after_act number o.done w.kept (share_of (copy_of k pair))).kept there refl refl e.acts;
            shown = o-is.shown;
            terminals = terminals-more (n + 1) n w.terminals (omega arith) within.terminals;
          };
          sendings = sent-messages (copy_of k pair).processor o.messages o-is.messages;
        }

    any-own : (o : Option Own) → AnyOwnWithin (n + 1) kinds (kinds number) o
        → AnyWithin (n + 1) kinds (own_made number k pair w o)
    any-own None o-is = tt
    any-own (Some o) o-is = own-done o o-is

    -- its checkpoint
    marked-core : CoreWithin (n + 1) (kinds number) (copy_at_checkpoint (copy_of k pair)).core
    marked-core =
        let core = core-more (n + 1) n (kinds number) (copy_of k pair).core (omega arith) own.0 in
        record {
          state = state-marked (n + 1) (kinds number) (copy_of k pair).core.state core.state;
          next = core.next;
          taken = core.taken;
          kept = core.kept;
        }

    waiting-low : length (copy_of k pair).waiting ≤ n + 1
    waiting-low = let few = own.4 in omega (arith, few)

    number-low : (copy_of k pair).number ≤ n + 1
    number-low = let few = own.1 in omega (arith, few)

    mark-few : length (kept_at_checkpoint number (copy_of k pair) w.kept)
        ≤ length w.kept + length (copy_of k pair).held + 1
    mark-few = let sum = length-append (copy_of k pair).held w.kept in omega (arith, sum)

    held-low : length (copy_of k pair).held ≤ held_in w.processes
    held-low = let one =
        held-one k pair in let all = held-there w.processes number pair there in omega (arith, one, all)

    passed : (again : Bool) → DoneWithin (n + 1) kinds (passed_done number k pair w again)
    passed true = record {
      world = record {
        pairs = pairs-set number _ (pair-with (n + 1) (kinds number) k _ pair whole
            (marked-core, number-low, era-low, (let few = own.3 in omega (arith, few)), waiting-low));
        acts =
            acts-set number k pair pair (record (copy_at_checkpoint (copy_of k pair))
            { position = (copy_of k pair).position + 1 }) w.kept there refl refl (omega arith);
        shown = let few = within.shown in omega (arith, few);
        terminals = terminals-more (n + 1) n w.terminals (omega arith) within.terminals;
      };
      sendings = tt;
    }
    passed false = record {
      world = record {
        pairs =
            pairs-set number _
            (pair-with (n + 1) (kinds number) k _ pair whole (
              marked-core,
              number-low,
              era-low,
              (let own_few = own-few number (kept_at_checkpoint number (copy_of k pair) w.kept) in
                  let acts = within.acts in
                  omega (arith, own_few, mark-few, held-low, acts)),
              waiting-low,
            ));
        acts =
            acts-set number k pair pair
            (record (copy_at_checkpoint (copy_of k pair))
            { position = own_acts number (kept_at_checkpoint number (copy_of k pair) w.kept); held = [] })
            (kept_at_checkpoint number (copy_of k pair) w.kept) there refl refl (omega (arith, mark-few));
        shown = let few = within.shown in omega (arith, few);
        terminals = terminals-more (n + 1) n w.terminals (omega arith) within.terminals;
      };
      sendings = tt;
    }

    core-later : CoreWithin (n + 1) (kinds number) (copy_of k pair).core
    core-later = core-more (n + 1) n (kinds number) (copy_of k pair).core (omega arith) own.0

    position-low : (copy_of k pair).position ≤ n + 1
    position-low = let few = own.3 in omega (arith, few)

    abbrev image : Image
    image = carried_by (copy_of k pair).renewal (copy_of k pair).core

    sent : DoneWithin (n + 1) kinds (sent_done number k pair w)
    sent = record {
      world = record {
        pairs =
            pairs-set number _
            (pair-with (n + 1) (kinds number) k (after_sending (copy_of k pair))
            (record pair { checkpoints = checkpoint_of number (copy_of k pair) ∷ pair.checkpoints }) whole (
              core-later,
              (let few = own.1 in omega (arith, few)),
              era-low,
              position-low,
              waiting-low,
            ));
        acts =
            acts-set number k pair (record pair {
              checkpoints = checkpoint_of number (copy_of k pair)
                  ∷ pair.checkpoints;
            }) (after_sending (copy_of k pair)) w.kept
            there refl refl (omega arith);
        shown = let few = within.shown in omega (arith, few);
        terminals = terminals-more (n + 1) n w.terminals (omega arith) within.terminals;
      };
      sendings = (image-later, tt);
    }
      where
        image-now : ImageWithin n (kinds number) image
        image-now =
            carried-within n (kinds number) (items_for (copy_of k pair).renewal (copy_of k pair).core.state)
            (files_for (copy_of k pair).renewal (copy_of k pair).core.state) (copy_of k pair).core low own.0

        image-later : ImageWithin (n + 1) (kinds number) image
        image-later =
            record {
              files = each-more _ _ (λ (named : FileNumber) few. omega (arith, few)) image.files image-now.files;
              taken =
                  each-more _ _ (λ block few. omega (arith, few)) (copy_of k pair).core.receive.openers
                  image-now.taken;
              kept = let few = image-now.kept in omega (arith, few);
              write = λ disc hand t restores. let few = image-now.write disc hand t restores in omega (arith, few);
            }

    -- what it has sent comes to its end
    ended : DoneWithin (n + 1) kinds (ended_done number k pair w)
    ended = record {
      world = record {
        pairs = pairs-set number _ (pair-with (n + 1) (kinds number) k (after_sent (copy_of k pair)) pair whole
            (core-later, number-low, era-low, position-low, waiting-low));
        acts =
            acts-set number k pair pair (after_sent (copy_of k pair)) w.kept there refl refl (omega arith);
        shown = let few = within.shown in omega (arith, few);
        terminals = terminals-more (n + 1) n w.terminals (omega arith) within.terminals;
      };
      sendings = tt;
    }

    checkpoints : (passes was_sent : Bool) → AnyWithin (n + 1) kinds
        (done_at_checkpoint number k pair w passes was_sent)
    checkpoints true was_sent = passed (nat_lt (copy_of k pair).position (own_acts number w.kept))
    checkpoints false true = tt
    checkpoints false false = sent

    -- where it runs
    acts-at : (site : Site) (stands : Point)
        → AnyWithin (n + 1) kinds (own_made number k pair w
        (own_at site number (copy_of k pair).core (around (copy_of k pair) pair w) stands))
    acts-at site stands =
        any-own (own_at site number (copy_of k pair).core (around (copy_of k pair) pair w) stands)
        (own-within n kinds (kinds number) number (copy_of k pair).core (around (copy_of k pair) pair w) own.0
        within.shown own.4 site stands)

    ends : (may : Bool) → AnyWithin (n + 1) kinds (made_if number w may (ending_step number k pair (records_of w)))
    ends true = ended
    ends false = tt

    sends : (may : Bool) → AnyWithin (n + 1) kinds (made_if number w may (sending_step number k pair (records_of w)))
    sends true = sent
    sends false = tt

    abbrev is_alone : Bool
    is_alone = has_marked w.downs (copy_of k pair).processor (copy_of (other_of k) pair).processor

    renews : (stands : Point) → AnyWithin (n + 1) kinds (renewing_at number k pair w stands)
    renews point.Inner = sends (not is_alone)
    renews point.Take = sends (not is_alone)
    renews point.Ask = sends (not is_alone)
    renews point.Answer = sends (not is_alone)
    renews point.Device = sends (not is_alone)
    renews point.AtCheckpoint = sends (not is_alone)
    renews point.Ended = sends (not is_alone)
    renews point.Await = tt

    free : (site : Site) (stands : Point) (was_sent renewal : Bool)
        → AnyWithin (n + 1) kinds (free_at site number k pair w stands was_sent renewal)
    free site stands true renewal = ends (may_pass w.downs k pair)
    free site stands false true = renews stands
    free site stands false false = acts-at site stands

    run-point : (site : Site) (stands : Point) → AnyWithin (n + 1) kinds (run_at site number k pair w stands)
    run-point site point.AtCheckpoint = checkpoints (may_pass w.downs k pair) (copy_of k pair).sent
    run-point site point.Inner = free site point.Inner (copy_of k pair).sent (copy_of k pair).renewal
    run-point site point.Take = free site point.Take (copy_of k pair).sent (copy_of k pair).renewal
    run-point site point.Ask = free site point.Ask (copy_of k pair).sent (copy_of k pair).renewal
    run-point site point.Answer = free site point.Answer (copy_of k pair).sent (copy_of k pair).renewal
    run-point site point.Device = free site point.Device (copy_of k pair).sent (copy_of k pair).renewal
    run-point site point.Await = free site point.Await (copy_of k pair).sent (copy_of k pair).renewal
    run-point site point.Ended = free site point.Ended (copy_of k pair).sent (copy_of k pair).renewal

    pub run-role : (site : Site) (role : Role) → AnyWithin (n + 1) kinds (run_as site number k pair w role)
    run-role site Acting = run-point site (process.point (copy_of k pair).core.state)
    run-role site Watching = tt
    run-role site Blank = tt
    run-role site Gone = tt

  either-within : (number : ℕ) (one other : Option Stepped) → AnyWithin (n + 1) kinds (lifted number w one)
      → AnyWithin (n + 1) kinds (lifted number w other)
      → AnyWithin (n + 1) kinds (lifted number w (first_step one other))
  either-within number None other first second = second
  either-within number (Some step) other first second = first

  pub run-within : n < 4294967295 → (site : Site) (number : ℕ) → AnyWithin (n + 1) kinds (run_done site number w)
  run-within low site number = by (slice_get w.processes number) refl
    where
      by : (there : Option Pair) → slice_get w.processes number ≡ there
          → AnyWithin (n + 1) kinds (run_pair site number w there)
      by None there = tt
      by (Some pair) there =
          either-within number (step_of_copy site number pair w.downs (records_of w) First)
          (step_of_copy site number pair w.downs (records_of w) Second)
          (run-role low number First pair there site pair.first.role)
          (run-role low number Second pair there site pair.second.role)
