-- No copy that watches or is blank awaits a reply: what a checkpoint restores awaits none.
use Rattle.std.proofs.Common.{◌≡◌, ◌≢◌, ◌==◌, ℕ, ℤ, Bool, true, false, if◌then◌else◌, List, [], ◌∷◌, Option, Some, None}
use Rattle.std.proofs.Common.{option_map, slice_get, refl, sym, subst, ◌∙◌}
use Rattle.std.proofs.lemmas.Option.{option_and_then_some}
use Rattle.tal_tree.specs.declared.program.Program.{Program}
use Rattle.tal_tree.specs.declared.site.Kind.{Kind}
use Rattle.tal_tree.specs.declared.site.Kind.TheVariants as kind
use Rattle.tal_tree.specs.declared.site.ProcessSpec.{ProcessSpec}
use Rattle.tal_tree.specs.declared.site.Site.{Site}
use Rattle.process_semantics.specs.declared.disc.DiscState.{DiscState}
use Rattle.process_semantics.specs.declared.point.Point.TheVariants as point
use Rattle.process_semantics.specs.Image as image
use Rattle.process_semantics.specs.Process as process
use Rattle.process_semantics.specs.Process.{ProcessState, Runs, Serves}
use Rattle.process_semantics.specs.State.{Frame, ProgramState, start}
use Rattle.process_semantics.specs.Words as reading
use Rattle.process_semantics.proofs.Points.{stands-at, awaits-at}
use Rattle.world_semantics.specs.checkpoint_image.specs.declared.message.Image.{Image}
use Rattle.world_semantics.specs.checkpoint_image.specs.declared.message.ImageMessage.{ImageMessage}
use Rattle.world_semantics.specs.declared.role.Role.{Role}
use Rattle.world_semantics.specs.declared.role.Role.TheVariants.{Acting, Watching}
use Rattle.world_semantics.specs.declared.which.Which.{Which}
use Rattle.world_semantics.specs.declared.which.Which.TheVariants.{First, Second}
use Rattle.world_semantics.specs.Core.{Core, put_in}
use Rattle.world_semantics.specs.Messages.{Sending, Cause}
use Rattle.world_semantics.specs.Rules.{Change, new_core}
use Rattle.world_semantics.specs.World.{Copy, Pair, World, boot, copy_of, pair_at_boot, receives}
use Rattle.world_semantics.proofs.Becoming as becoming
use Rattle.world_semantics.proofs.Becoming.{Becomes, acting-gets-none, entered-same, change-was}
use Rattle.world_semantics.proofs.Beginning.{all-begin}
use Rattle.world_semantics.proofs.Hands.{map-some}
use Rattle.world_semantics.proofs.Lists.{some-same}
use Rattle.world_semantics.proofs.Steady.{IsSeated}
use Rattle.awaited_requests.proofs.Seats.{was-getting}
use Rattle.letter_laws.specs.Known.{WatchersAreCalm}

-- What is restored

-- a process awaits no reply
abbrev pub Rests : ProcessState → Type 0
Rests s = process.point s ≢ point.Await

free-rests : (program : Program) (s : ProgramState) → s.awaits ≡ false → Rests (Runs program s)
free-rests program s free at =
    let waits = awaits-at (stands-at program s point.Await (λ same. cc) (λ same. cc) at).call in cc

pub start-rests : (what : Kind) → Rests (process.start_of what)
start-rests (kind.Disc sectors mirrored) = λ same. cc
start-rests (kind.Pair program) = free-rests program (start program) refl

-- a process that the site has awaits none at its beginning
begun-rests : (site : Site) (number : ℕ) (o : Option ProcessSpec) (spec : ProcessSpec) → o ≡ Some spec → (core : Core)
    → Rests (new_core site number o core).state
begun-rests site number None spec is core = absurd (cc)
begun-rests site number (Some one) spec is core = start-rests one.what

items-free : (program : Program) (s t : ProgramState) (hand : Bool) (frames : List Frame) (words : List ℤ)
    → image.restored_items program s hand frames words ≡ Some t → t.awaits ≡ false
items-free program s t hand frames words is = by (image.are_called (Some program.main) frames) _ is
  where
    by : (called : Bool) (globals : Option (List (List ℤ)))
        → (if called then option_map (image.with_globals hand frames) globals else None) ≡ Some t
        → t.awaits ≡ false
    by false globals is = absurd (cc)
    by true globals is = map-some (image.with_globals hand frames) (λ u. u.awaits ≡ false) globals t (λ _ _. refl) is

disc-rests : (sectors : ℕ) (hand : Bool) (request : List ℤ) (number : ℕ) (reply : List ℤ) (t : DiscState)
    → image.disc_with hand request number reply ≡ Some t
    → Rests (Serves sectors t)
disc-rests sectors false [] number [] t is = subst (λ u. Rests (Serves sectors u)) (some-same is) (λ same. cc)
disc-rests sectors false [] number (word ∷ words) t is = absurd (cc)
disc-rests sectors false (word ∷ request) number reply t is = absurd (cc)
disc-rests sectors true request number [] t is = subst (λ u. Rests (Serves sectors u)) (some-same is) (λ same. cc)
disc-rests sectors true request number (word ∷ words) t is =
    subst (λ u. Rests (Serves sectors u)) (some-same is) (λ same. cc)

restored-rests : (s t : ProcessState) (hand : Bool) (words : List ℤ)
    → image.state_from_words s hand words ≡ Some t → Rests t
restored-rests (Runs program s) t hand words is =
    map-some (Runs program) Rests (image.restored_program program s hand words) t
    (λ u there. free-rests program u (option_and_then_some _ _ u there
    (λ (frames : List Frame × List ℤ) _ next. items-free program s u hand frames.0 frames.1 next))) is
restored-rests (Serves sectors s) t hand words is =
    map-some (Serves sectors) Rests (image.restored_disc hand words) t
    (λ u there.
    option_and_then_some _ (reading.with_count_in words) u there (λ (request : List ℤ × List ℤ) _ next.
    option_and_then_some _ (reading.long_in request.1) u next (λ (number : ℕ × List ℤ) _ last.
    option_and_then_some _ _ u last (λ (reply : List ℤ) _ disc.
    disc-rests sectors hand request.0 number.0 reply u disc)))) is

put-rests : (core applied : Core) (carries : Image) → put_in core carries ≡ Some applied → Rests applied.state
put-rests core applied carries is =
    map-some _ (λ (c : Core). Rests c.state) _ applied (λ s there. restored-rests core.state s _ carries.body there) is

-- Changes

-- a copy that watches or is blank awaits no reply
abbrev IsCalm : Copy → Type 0
IsCalm copy = receives copy.role ≡ true → Rests copy.core.state

-- a copy that acts doesn't watch
pub not-both : {role : Role} → role ≡ Acting → role ≡ Watching → ⊥
not-both acts watches = let same : Acting ≡ Watching = sym acts ∙ watches in cc

becomes-calm : {site : Site} {w : World} {number : ℕ} {pair : Pair} {sent : List ImageMessage} {k : Which}
    {cause : Cause} {after : Copy}
    → Becomes site w number pair sent k cause after
    → (spec : ProcessSpec) × (slice_get site.processes number ≡ Some spec) → IsCalm (copy_of k pair) → IsCalm after
becomes-calm becoming.stays known calm = calm
becomes-calm (becoming.acts role causes advances enters free) known calm =
    λ gets. absurd (acting-gets-none _ ((entered-same enters).role ∙ role) gets)
becomes-calm (becoming.sends role at among) known calm = calm
becomes-calm (becoming.passes role) known calm = λ gets. absurd (acting-gets-none _ role gets)
becomes-calm (becoming.ends role) known calm = calm
becomes-calm {pair = pair} {k = k} (becoming.applies {applied = applied} message role among era next put) known calm =
    λ _. put-rests (copy_of k pair).core applied message.image put
becomes-calm (becoming.is_told taken role sent among era same) known calm = calm
becomes-calm becoming.is_freed known calm = calm
becomes-calm becoming.needs_less known calm = calm
becomes-calm (becoming.hears request role) known calm = calm
becomes-calm (becoming.hears_early request role) known calm = calm
becomes-calm {pair = pair} {k = k} (becoming.stops processor) known calm = λ gets.
    calm (was-getting ((copy_of k pair).processor == processor) (copy_of k pair).role gets)
becomes-calm (becoming.takes_over node processor takes) known calm = λ gets. absurd (cc)
becomes-calm {site = site} {number = number} {pair = pair} (becoming.is_blank processor here era) known calm =
    λ gets. begun-rests site number (slice_get site.processes number) known.0 known.1 pair.first.core
becomes-calm (becoming.renews processor there) known calm = calm

pub change-calm : {site : Site} (w next : World) (cause : Cause) (sendings : List Sending)
    → Change site w cause sendings next → IsSeated site w → WatchersAreCalm w → WatchersAreCalm next
change-calm w next cause sendings change seated all number after k now =
    let was = change-was w next cause sendings change number after now in
    let seat = seated.pairs number was.before was.there in
    becomes-calm (was.copies k) (seat.0, seat.1) (all number was.before k was.there)

both-start : (site : Site) (number : ℕ) (spec : ProcessSpec) (k : Which)
    → Rests (copy_of k (pair_at_boot site number spec)).core.state
both-start site number spec First = start-rests spec.what
both-start site number spec Second = start-rests spec.what

-- at the beginning no copy awaits a reply
pub begins-resting : (site : Site) (number : ℕ) (pair : Pair) (k : Which)
    → slice_get (boot site).processes number ≡ Some pair → Rests (copy_of k pair).core.state
begins-resting site number pair k there =
    all-begin (λ n p. (k : Which) → Rests (copy_of k p).core.state) site (λ n from spec. both-start site from spec)
    number pair there k

pub calm-begins : (site : Site) → WatchersAreCalm (boot site)
calm-begins site number pair k there gets = begins-resting site number pair k there
