-- An accepted program where it stands at a call.
use Rattle.std.proofs.Common.{◌≡◌, ◌≢◌, ◌<◌, ℕ, ◌&&◌, ◌||◌, Bool, true, false, List, [], ◌∷◌, Option, Some, slice_get}
use Rattle.std.proofs.Common.{refl, ap, subst, sym, ◌∙◌, eq-eqb}
use Rattle.std.proofs.lemmas.Bool.{leb-false}
use Rattle.gd_words.specs.Members.{is_among}
use Rattle.tal_tree.specs.Regular.{IsRegular}
use Rattle.tal_tree.specs.declared.program.FileUse.{FileUse}
use Rattle.tal_tree.specs.declared.program.Program.{Program}
use Rattle.tal_tree.specs.declared.site.Kind.TheVariants as kind
use Rattle.tal_tree.specs.declared.site.ProcessSpec.{ProcessSpec}
use Rattle.tal_tree.specs.declared.site.Site.{Site}
use Rattle.tal_tree.specs.declared.statement.Statement.{Statement}
use Rattle.tal_tree.specs.declared.statement.What.{What, What-F, out-What}
use Rattle.process_semantics.specs.declared.point.Point.{Point}
use Rattle.process_semantics.specs.declared.point.Point.TheVariants as point
use Rattle.process_semantics.specs.Calls.{file_in}
use Rattle.process_semantics.specs.Process as process
use Rattle.process_semantics.specs.Process.{Runs}
use Rattle.process_semantics.specs.State.{ProgramState}
use Rattle.process_semantics.proofs.Points.{AtCall, inside, at_read, at_ask, at_await, at_reply, at_checkpoint}
use Rattle.process_semantics.proofs.Points.{StandsAt, stands-at}
use Rattle.checkpoint_laws.specs.world_semantics.specs.Core.{Core, Deed}
use Rattle.path_steps.specs.path_semantics.specs.Accepted.{IsAccepted}
use Rattle.path_steps.specs.path_semantics.specs.Break.{asked_count, is_reached, sends, breaks_by, breaks_at}
use Rattle.path_steps.specs.path_semantics.specs.Dues.{asked_by}
use Rattle.path_steps.specs.path_semantics.specs.Place.{Place, settled}
use Rattle.path_steps.specs.path_semantics.specs.declared.dues.Dues.{Dues}
use Rattle.path_steps.specs.path_semantics.specs.declared.reason.Reason.{Reason}
use Rattle.path_steps.specs.path_semantics.proofs.Walks.{accepted-unbroken}
use Rattle.path_steps.specs.Step.{stand_of}
use Rattle.path_steps.proofs.Points.{place-at}
use Rattle.process_histories.specs.Histories.{HasDone, kind_without_mirror}
use Rattle.process_histories.proofs.OneKind.{done-kind}
use Rattle.discipline_laws.specs.Covered.{IsCovered}
use Rattle.discipline_laws.proofs.Covering.{cover, alive-at, never-device}
use Rattle.discipline_laws.proofs.Programs.{IsRunning, running}

-- a REPLY and a WRITEREAD break where a request was read
pub breaks-read : {program : Program} {s : ProgramState} {what : What-F What Statement} {p : Point}
    → AtCall program s what p → p ≢ point.Inner → p ≢ point.Take
    → p ≢ point.AtCheckpoint → (dues : Dues) → (sends what && dues.read) ≡ dues.read
breaks-read inside inner take checkpoint dues = absurd (inner refl)
breaks-read (at_read buffer most got free good) inner take checkpoint dues = absurd (take refl)
breaks-read (at_ask file buffer send room got calm good) inner take checkpoint dues = refl
breaks-read (at_await file buffer send room got awaits) inner take checkpoint dues = refl
breaks-read (at_reply buffer count held) inner take checkpoint dues = refl
breaks-read (at_checkpoint items files) inner take checkpoint dues = absurd (checkpoint refl)

and-second : (a b : Bool) → a ≡ true → (a && b) ≡ false → b ≡ false
and-second true b t e = e
and-second false b t e = absurd (cc)

-- a WRITEREAD that doesn't break may ask once more
pub depth-room : {program : Program} {s : ProgramState} {what : What-F What Statement}
    → AtCall program s what point.Ask → (dues : Dues) (file : ℕ) (use_of : FileUse)
    → file ≡ file_in what → slice_get program.files file ≡ Some use_of
    → (is_among file (asked_by what) && is_reached (slice_get program.files file) (asked_count file dues)) ≡ false
    → asked_count file dues < use_of.depth
depth-room {program = program} (at_ask at buffer send room got calm good) dues file use_of same there unbroken =
    let reached : is_reached (slice_get program.files file) (asked_count file dues) ≡ false =
    and-second (is_among file (at ∷ [])) _ (ap (λ (b : Bool). b || false) (eq-eqb at file (sym same))) unbroken in
    leb-false use_of.depth (asked_count file dues)
    (ap (λ (o : Option FileUse). is_reached o (asked_count file dues)) (sym there) ∙ reached)

-- what a CHECKPOINT names
pub record IsCheckpointOf (what : What-F What Statement) : Type 0 where
  pub items : List ℕ
  pub files : List ℕ
  pub names : what ≡ What-F.Checkpoint items files

pub checkpoint-of : {program : Program} {s : ProgramState} {what : What-F What Statement}
    → AtCall program s what point.AtCheckpoint → IsCheckpointOf what
checkpoint-of (at_checkpoint items files) = record { items = items; files = files; names = refl }

module _ (site : Site) (number : ℕ) (spec : ProcessSpec) (program : Program) (is : spec.what ≡ kind.Pair program) where
  pub runs : {deeds : List Deed} {core : Core} → HasDone site number spec deeds core → IsRunning core.state program
  runs {core = core} done = running core.state program (done-kind done ∙ ap kind_without_mirror is)

  pub no-device : {deeds : List Deed} {core : Core} → HasDone site number spec deeds core
      → process.point core.state ≢ point.Device
  no-device done at = let u = runs done in never-device program u.s (ap process.point (sym u.same) ∙ at)

  -- an accepted program at a call, which breaks for no reason
  pub record IsSafe {deeds : List Deed} {core : Core} (p : Point) (done : HasDone site number spec deeds core) :
      Type 0 where
    pub s : ProgramState
    pub same : core.state ≡ Runs program s
    pub covered : IsCovered site number spec program deeds s
    pub stands : StandsAt program s p
    pub unbroken : (reason : Reason) → breaks_by program reason covered.dues (out-What stands.statement.what) ≡ false

  pub safe : IsRegular program → IsAccepted program
      → {deeds : List Deed} {core : Core} (p : Point) (done : HasDone site number spec deeds core) → p ≢ point.Inner
      → p ≢ point.Ended
      → process.point core.state ≡ p → IsSafe p done
  safe regular accepted p done inner ended at =
      let u = runs done in
      let standing : process.point (Runs program u.s) ≡ p = ap process.point (sym u.same) ∙ at in
      let stands = stands-at program u.s p inner ended standing in
      let covered = cover u.s is regular done u.same (alive-at program u.s p ended standing) in
      record {
        s = u.s;
        same = u.same;
        covered = covered;
        stands = stands;
        unbroken = λ reason. subst (λ (q : Place). breaks_at program reason (settled covered.dues q) ≡ false)
            (place-at stands)
            (accepted-unbroken program covered.path (stand_of covered.dues u.s) reason accepted covered.leads);
      }
