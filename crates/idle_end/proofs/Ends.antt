-- An idle end: each process has a copy that acts, and each node that runs sends what is for the process to it.
use Rattle.std.proofs.Common.{◌≡◌, ◌≢◌, ◌<◌, ◌≤◌, ℕ, Bool, true, false, List, length, get_or, Some}
use Rattle.std.proofs.Common.{slice_get, refl, ap, sym, ◌∙◌, subst, arith}
use Rattle.std.proofs.lemmas.Option.{slice_get_past, slice_get-get_or}
use Rattle.tal_tree.specs.declared.site.Site.{Site}
use Rattle.tal_tree.specs.declared.site.Who.{Who}
use Rattle.world_semantics.specs.declared.role.Role.{Role}
use Rattle.world_semantics.specs.declared.role.Role.TheVariants.{Acting, Watching, Blank, Gone}
use Rattle.world_semantics.specs.declared.which.Which.{Which}
use Rattle.world_semantics.specs.declared.which.Which.TheVariants.{First, Second}
use Rattle.world_semantics.specs.World.{Pair, terminal_node, is_running, has_marked, copy_of, other_of, receives}
use Rattle.world_semantics.proofs.Reached.{gone-is, one-acts}
use Rattle.letters.specs.Idle.{IsIdle}
use Rattle.letters.specs.Posts.{Post}
use Rattle.letters.specs.Routes.{route_of, home_of}
use Rattle.awaited_requests.specs.Awaited.{IsAwaited, by_copy, by_terminal}
use Rattle.awaited_requests.specs.Seats.{IsLaidOut, AreSeated, IsSeated}
use Rattle.awaited_requests.specs.Served.{AreServed}
use Rattle.awaited_requests.specs.takeover_laws.specs.Fit.{IsFit}
use Rattle.awaited_requests.specs.takeover_laws.proofs.Checkpoints.{marked-down}
use Rattle.awaited_requests.specs.takeover_laws.proofs.Kept.{IsGood}
use Rattle.idle_end.proofs.Renewing.{RenewingIsUnmarked}

-- all that is known of an idle end
pub record IsEnd (site : Site) (events : ℕ) (post : Post) : Type 0 where
  pub fit : IsFit site
  pub laid_out : IsLaidOut site
  pub few : events < 4294967296
  pub good : IsGood site events post.world
  pub seated : AreSeated site post.world
  pub renewing : RenewingIsUnmarked post.world
  pub served : AreServed site post
  pub idle : IsIdle site post

-- Nodes

runs-there : (stopped : List Bool) (node : ℕ) → node < length stopped → (slice_get stopped node ≡ Some true → ⊥)
    → is_running stopped node ≡ true
runs-there stopped node within running = by (get_or stopped node true) (slice_get-get_or stopped node true within)
  where
    by : (down : Bool) → slice_get stopped node ≡ Some down → is_running stopped node ≡ true
    by true found = absurd (running found)
    by false found = rw found refl

-- the node of the terminals is none of the processors
terminals-run : (stopped : List Bool) → length stopped ≤ 16 → is_running stopped terminal_node ≡ true
terminals-run stopped few = rw (slice_get_past stopped 16 few) refl

-- Copies that act

-- which copy of a process acts, where one does
abbrev acting_by : Role → Which
acting_by Acting = First
acting_by Watching = Second
acting_by Blank = Second
acting_by Gone = Second

abbrev pub who_acts : Pair → Which
who_acts pair = acting_by pair.first.role

module _ {site : Site} {events : ℕ} {post : Post} (end : IsEnd site events post) where
  pub copy-runs : (number : ℕ) (pair : Pair) (k : Which) → slice_get post.world.processes number ≡ Some pair
      → (copy_of k pair).role ≢ Gone
      → is_running post.world.stopped (copy_of k pair).processor ≡ true
  copy-runs number pair k there stays =
      runs-there post.world.stopped (copy_of k pair).processor (by k)
      (λ down. stays ((gone-is post.world.stopped pair (end.good.roles number pair there) k).1 down))
    where
      by : (k : Which) → (copy_of k pair).processor < length post.world.stopped
      by First = (end.seated.pairs number pair there).first
      by Second = (end.seated.pairs number pair there).second

  pub acts-runs : (number : ℕ) (pair : Pair) (k : Which) → slice_get post.world.processes number ≡ Some pair
      → (copy_of k pair).role ≡ Acting
      → is_running post.world.stopped (copy_of k pair).processor ≡ true
  acts-runs number pair k there acting = copy-runs number pair k there (λ gone. absurd (cc))

  -- a copy isn't left to receive checkpoints where the other one is gone: its node would have marked that one's
  -- processor, and the copy taken over
  none-left-behind : (number : ℕ) (pair : Pair) (k : Which) → slice_get post.world.processes number ≡ Some pair
      → receives (copy_of k pair).role ≡ true → (copy_of (other_of k) pair).role ≡ Gone → ⊥
  none-left-behind number pair k there waits gone =
      let here = copy-runs number pair k there
      (λ lost. let none : receives (copy_of k pair).role ≡ false = ap receives lost in cc) in
      let marked = end.idle.marked (copy_of k pair).processor (copy_of (other_of k) pair).processor here
      ((gone-is post.world.stopped pair (end.good.roles number pair there) (other_of k)).0 gone) in
      let unmarked = (end.seated.pairs number pair there).unmarked k waits in cc

  -- each process has a copy that acts
  pub acting : (number : ℕ) (pair : Pair) → slice_get post.world.processes number ≡ Some pair
      → (copy_of (who_acts pair) pair).role ≡ Acting
  acting number pair there = by pair.first.role refl pair.second.role refl
    where
      seat : IsSeated post.world.stopped post.world.downs pair
      seat = end.seated.pairs number pair there

      -- one leads, so they don't both receive checkpoints
      neither : (led : Which) → receives (copy_of led pair).role ≡ false → receives pair.first.role ≡ true
          → receives pair.second.role ≡ true → ⊥
      neither First leads one two = cc
      neither Second leads one two = cc

      both : (one two : Role) → pair.first.role ≡ one → pair.second.role ≡ two → receives one ≡ true
          → receives two ≡ true → ⊥
      both one two is other first second =
          neither pair.led seat.leads (ap receives is ∙ first) (ap receives other ∙ second)

      by : (one : Role) → pair.first.role ≡ one → (two : Role) → pair.second.role ≡ two
          → (copy_of (acting_by one) pair).role ≡ Acting
      by Acting is two other = is
      by Watching is Acting other = other
      by Blank is Acting other = other
      by Gone is Acting other = other
      by Watching is Watching other = absurd (both Watching Watching is other refl refl)
      by Watching is Blank other = absurd (both Watching Blank is other refl refl)
      by Blank is Watching other = absurd (both Blank Watching is other refl refl)
      by Blank is Blank other = absurd (both Blank Blank is other refl refl)
      by Watching is Gone other = absurd (none-left-behind number pair First there (ap receives is) other)
      by Blank is Gone other = absurd (none-left-behind number pair First there (ap receives is) other)
      by Gone is Watching other = absurd (none-left-behind number pair Second there (ap receives other) is)
      by Gone is Blank other = absurd (none-left-behind number pair Second there (ap receives other) is)
      by Gone is Gone other =
          let roles = end.good.roles number pair there in
          absurd (seat.apart (end.good.steady.one pair.first.processor pair.second.processor (roles.first_lost is)
          (roles.second_lost other)))

  -- and no other one
  pub only-acts : (number : ℕ) (pair : Pair) (k : Which) → slice_get post.world.processes number ≡ Some pair
      → (copy_of k pair).role ≡ Acting → k ≡ who_acts pair
  only-acts number pair First there acts = sym (ap acting_by acts)
  only-acts number pair Second there acts = by pair.first.role refl
    where
      by : (one : Role) → pair.first.role ≡ one → Second ≡ acting_by one
      by Acting is = absurd (one-acts post.world.stopped pair (end.good.roles number pair there) is acts)
      by Watching is = refl
      by Blank is = refl
      by Gone is = refl

  -- Routes

  -- the route of a node that runs leads to the copy that acts
  pub route-acts : (node number : ℕ) (pair : Pair) (k : Which) → is_running post.world.stopped node ≡ true
      → slice_get post.world.processes number ≡ Some pair
      → (copy_of k pair).role ≡ Acting → route_of post.world.downs node pair ≡ (copy_of k pair).processor
  route-acts node number pair k runs there acts = by k pair.led refl acts
    where
      -- the processor of a copy that acts isn't marked
      acts-on : (k : Which) → (copy_of k pair).role ≡ Acting
          → has_marked post.world.downs node (copy_of k pair).processor ≡ false
      acts-on k acts = of (has_marked post.world.downs node (copy_of k pair).processor) refl
        where
          of : (marked : Bool) → has_marked post.world.downs node (copy_of k pair).processor ≡ marked → marked ≡ false
          of false is = refl
          of true is =
              let gone = (gone-is post.world.stopped pair (end.good.roles number pair there) k).1
              (marked-down post.world.stopped post.world.downs node (copy_of k pair).processor end.good.stopped is) in
              absurd (cc)

      single : (k : Which) → (copy_of k pair).role ≡ Acting → (copy_of (other_of k) pair).role ≡ Acting → ⊥
      single First one two = one-acts post.world.stopped pair (end.good.roles number pair there) one two
      single Second two one = one-acts post.world.stopped pair (end.good.roles number pair there) one two

      -- where the other one leads that is gone, and its processor is marked
      acts-for : (k : Which) → pair.led ≡ other_of k → (copy_of k pair).role ≡ Acting
          → has_marked post.world.downs node (copy_of (other_of k) pair).processor ≡ true
      acts-for k led acts =
          end.idle.marked node (copy_of (other_of k) pair).processor runs
          ((gone-is post.world.stopped pair (end.good.roles number pair there) (other_of k)).0
          (of (copy_of (other_of k) pair).role refl))
        where
          leads : receives (copy_of (other_of k) pair).role ≡ false
          leads = subst (λ j. receives (copy_of j pair).role ≡ false) led (end.seated.pairs number pair there).leads

          of : (role : Role) → (copy_of (other_of k) pair).role ≡ role → (copy_of (other_of k) pair).role ≡ Gone
          of Gone is = is
          of Acting is = absurd (single k acts is)
          of Watching is = absurd (let both : true ≡ false = sym (ap receives is) ∙ leads in cc)
          of Blank is = absurd (let both : true ≡ false = sym (ap receives is) ∙ leads in cc)

      by : (k led : Which) → pair.led ≡ led → (copy_of k pair).role ≡ Acting
          → route_of post.world.downs node pair ≡ (copy_of k pair).processor
      by First First led acts = rw (led, acts-on First acts) refl
      by Second Second led acts = rw (led, acts-on Second acts) refl
      by First Second led acts = rw (led, acts-for First led acts) refl
      by Second First led acts = rw (led, acts-for Second led acts) refl

  -- Who awaits a reply

  pub asker-runs : {asker : ℕ} {one : Who} {n : ℕ} → IsAwaited site post.world asker one n
      → is_running post.world.stopped asker ≡ true
  asker-runs (by_copy {number = number} pair k there acts at file next) = acts-runs number pair k there acts
  asker-runs (by_terminal terminal there waits) =
      let count = end.seated.processors in let few =
      end.laid_out.few in terminals-run post.world.stopped (omega (arith, count, few))

  -- a node that runs finds it where it is
  pub asker-found : {asker : ℕ} {one : Who} {n : ℕ} (node : ℕ) → is_running post.world.stopped node ≡ true
      → IsAwaited site post.world asker one n
      → home_of post.world node one ≡ Some asker
  asker-found node runs (by_copy {number = number} pair k there acts at file next) =
      rw there (ap Some (route-acts node number pair k runs there acts))
  asker-found node runs (by_terminal terminal there waits) = refl
