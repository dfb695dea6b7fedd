-- The files that a sent checkpoint names are those of its process.
use Rattle.std.proofs.Common.{◌≡◌, ◌<◌, ◌==◌, inl, inr, ℕ, Bool, true, false, List, ◌∷◌, length, Option, Some, None}
use Rattle.std.proofs.Common.{slice_get, ap, sym, subst, ◌∙◌}
use Rattle.gd_words.specs.Members.{IsAmong}
use Rattle.tal_tree.specs.declared.act.Act.{Act}
use Rattle.tal_tree.specs.declared.site.ProcessSpec.{ProcessSpec}
use Rattle.tal_tree.specs.declared.site.Site.{Site}
use Rattle.process_semantics.specs.Image.{listed_files}
use Rattle.process_semantics.specs.Process.{ProcessState, Runs, Serves}
use Rattle.plain_semantics.specs.Openers.{files_of}
use Rattle.world_semantics.specs.whole_states.proofs.Named.{frames-listed, file-there}
use Rattle.world_semantics.specs.checkpoint_image.specs.declared.message.FileNumber.{FileNumber}
use Rattle.world_semantics.specs.checkpoint_image.specs.declared.message.ImageMessage.{ImageMessage}
use Rattle.world_semantics.specs.disc_device.specs.Sectors.{Stored}
use Rattle.world_semantics.specs.declared.role.Role.TheVariants.{Acting}
use Rattle.world_semantics.specs.declared.which.Which.{Which}
use Rattle.world_semantics.specs.declared.which.Which.TheVariants.{First, Second}
use Rattle.world_semantics.specs.Core.{Core, next_on, carried_by, files_for}
use Rattle.world_semantics.specs.Messages.{Sending, Cause}
use Rattle.world_semantics.specs.Passes.{Passes, by_send, by_pass_again, by_pass, by_end, by_apply_behind}
use Rattle.world_semantics.specs.Passes.{by_apply, by_acknowledge}
use Rattle.world_semantics.specs.Passes.{checkpoint_of}
use Rattle.world_semantics.specs.Rules.{Change, by_own, by_checkpoint, by_request, by_early_request, by_enter, by_print}
use Rattle.world_semantics.specs.Rules.{by_stop, by_mark, by_reload, stopped_pair, taker, pair_after_down}
use Rattle.world_semantics.specs.Rules.{pair_at_down, renewals_ended, new_core, reloaded_by}
use Rattle.world_semantics.specs.World.{Copy, Pair, Down, World, boot, copy_of, with_copy}
use Rattle.world_semantics.proofs.Beginning.{all-begin}
use Rattle.world_semantics.proofs.Lists.{some-same, set-all, map-all}
use Rattle.world_semantics.proofs.Members.{among-map}
use Rattle.world_semantics.proofs.Roles.{reload-all}
use Rattle.world_semantics.specs.process_images.specs.Images.{all_files_of}
use Rattle.world_semantics.specs.process_images.proofs.Everything.{whole-listed}
use Rattle.awaited_requests.specs.process_histories.specs.Histories.{kind_of, kind_without_mirror}
use Rattle.awaited_requests.specs.process_histories.proofs.OneKind.{done-kind, same-files}
use Rattle.awaited_requests.specs.process_histories.proofs.Steady.{IsSteady, done-steady}
use Rattle.awaited_requests.specs.plain_histories.specs.Agreeing.{AreRegular}
use Rattle.awaited_requests.specs.takeover_laws.proofs.Kept.{IsGood}
use Rattle.letter_laws.specs.Known.{CheckpointsNameFiles}
use Rattle.letter_laws.proofs.Awaited.{IsDone, acting-done}

-- a checkpoint names these files alone
abbrev NamesFiles : ℕ → ImageMessage → Type 0
NamesFiles count message = (named : FileNumber) → IsAmong named message.image.files → named.file < count

-- what the copies of a process ever sent names files of the process
abbrev PairNames : Site → ℕ → Pair → Type 0
PairNames site number pair =
    (spec : ProcessSpec) → slice_get site.processes number ≡ Some spec → (message : ImageMessage)
    → IsAmong message pair.checkpoints
    → NamesFiles (length (files_of spec.what)) message

-- the files that a process lists are its own
listed-within : (s : ProcessState) → IsSteady s → (file : ℕ) → IsAmong file (listed_files s)
    → file < length (files_of (kind_of s))
listed-within (Runs program s) is file among =
    file-there file ((frames-listed program is.0 s.frames is.1.frames).files_there file among)
listed-within (Serves sectors s) is file none = absurd none

-- all files that it may list are
all-within : (s : ProcessState) → (file : ℕ) → IsAmong file (all_files_of s) → file < length (files_of (kind_of s))
all-within (Runs program s) file among = file-there file ((whole-listed (Runs program s)).files_there file among)
all-within (Serves sectors s) file none = absurd none

named-within : (everything : Bool) (s : ProcessState) → IsSteady s → (file : ℕ)
    → IsAmong file (files_for everything s) → file < length (files_of (kind_of s))
named-within true s is file among = all-within s file among
named-within false s is file among = listed-within s is file among

module _ (site : Site) (regular : AreRegular site) where
  carried-within : (number : ℕ) (everything : Bool) (core : Core) → IsDone site number core → (spec : ProcessSpec)
      → slice_get site.processes number ≡ Some spec
      → (named : FileNumber) → IsAmong named (carried_by everything core).files
      → named.file < length (files_of spec.what)
  carried-within number everything core is spec there named among =
      let from = among-map (λ (file : ℕ). record { file = file; next = next_on core file })
      (files_for everything core.state) named among in
      let within =
      named-within everything core.state (done-steady (regular number is.spec is.there) is.done) from.item from.among in
      let same : kind_of core.state ≡ kind_without_mirror spec.what =
      done-kind is.done ∙ ap (λ (s : ProcessSpec). kind_without_mirror s.what) (some-same (sym is.there ∙ there)) in
      rw (ap (λ (f : FileNumber). f.file) from.same, ← same-files spec.what, ← same) within

  one-more : (number : ℕ) (copy : Copy) (pair : Pair) → IsDone site number copy.core → PairNames site number pair
      → PairNames site number (record pair { checkpoints = checkpoint_of number copy ∷ pair.checkpoints })
  one-more number copy pair is all spec there message (inl same) =
      subst (NamesFiles (length (files_of spec.what))) (sym same)
      (carried-within number copy.renewal copy.core is spec there)
  one-more number copy pair is all spec there message (inr among) = all spec there message among

  passes-files : {number : ℕ} {downs : List Down} {kept after : List Act} {pair next : Pair} {cause : Cause}
      {sendings : List Sending}
      → ((k : Which) → (copy_of k pair).role ≡ Acting → IsDone site number (copy_of k pair).core)
      → Passes number downs kept pair cause sendings next after
      → PairNames site number pair → PairNames site number next
  passes-files {number = number} {pair = pair} done (by_send First role at unsent unmarked) all =
      one-more number pair.first pair (done First role) all
  passes-files {number = number} {pair = pair} done (by_send Second role at unsent unmarked) all =
      one-more number pair.second pair (done Second role) all
  passes-files done (by_pass_again First role at may less) all = all
  passes-files done (by_pass_again Second role at may less) all = all
  passes-files done (by_pass First role at may most) all = all
  passes-files done (by_pass Second role at may most) all = all
  passes-files done (by_end First role sent away may) all = all
  passes-files done (by_end Second role sent away may) all = all
  passes-files done (by_apply_behind First message applied role among era next put less) all = all
  passes-files done (by_apply_behind Second message applied role among era next put less) all = all
  passes-files done (by_apply First message applied role among era next put most) all = all
  passes-files done (by_apply Second message applied role among era next put most) all = all
  passes-files done (by_acknowledge First taken role sent among era same) all = all
  passes-files done (by_acknowledge Second taken role sent among era same) all = all

copy-names : (site : Site) (number : ℕ) (k : Which) (pair : Pair) (copy : Copy) (sectors : List Stored)
    → PairNames site number pair
    → PairNames site number (with_copy k copy (record pair { sectors = sectors }))
copy-names site number First pair copy sectors all = all
copy-names site number Second pair copy sectors all = all

marking-names : (site : Site) (node x number : ℕ) (k : Option Which) (pair : Pair) → PairNames site number pair
    → PairNames site number (renewals_ended node x (pair_after_down k pair))
marking-names site node x number None pair all = all
marking-names site node x number (Some First) pair all = all
marking-names site node x number (Some Second) pair all = all

reloaded-names : (site : Site) (core : Core) (number : ℕ) (pair : Pair) (one two : Bool) → PairNames site number pair
    → PairNames site number (reloaded_by core pair one two)
reloaded-names site core number pair false false all = all
reloaded-names site core number pair true false all = all
reloaded-names site core number pair false true all = all
reloaded-names site core number pair true true all = all

module _ (site : Site) (regular : AreRegular site) (events : ℕ) (w : World) (good : IsGood site events w)
    (files : CheckpointsNameFiles site w) where
  pairs-name : (number : ℕ) (pair : Pair) → slice_get w.processes number ≡ Some pair → PairNames site number pair
  pairs-name number pair there spec known = files number pair spec there known

  pairs-after : (next : World) (cause : Cause) (sendings : List Sending) → Change site w cause sendings next
      → (number : ℕ) (pair : Pair) → slice_get next.processes number ≡ Some pair → PairNames site number pair
  pairs-after next cause sendings (by_own number k pair there role causes advances enters free) =
      set-all (PairNames site) w.processes number _ pairs-name
      (copy-names site number k pair _ _ (pairs-name number pair there))
  pairs-after next cause sendings (by_checkpoint number pair there passes) =
      set-all (PairNames site) w.processes number _ pairs-name
      (passes-files site regular (λ k role. acting-done site events w good number pair k there role) passes
      (pairs-name number pair there))
  pairs-after next cause sendings (by_request request k pair sent there role) =
      set-all (PairNames site) w.processes request.process _ pairs-name
      (copy-names site request.process k pair _ _ (pairs-name request.process pair there))
  pairs-after next cause sendings (by_early_request request k pair sent there role) =
      set-all (PairNames site) w.processes request.process _ pairs-name
      (copy-names site request.process k pair _ _ (pairs-name request.process pair there))
  pairs-after next cause sendings (by_enter number terminal opener there even is opens) = pairs-name
  pairs-after next cause sendings (by_print number terminal reply there odd sent opens is) = pairs-name
  pairs-after next cause sendings (by_stop processor alive whole) =
      map-all (PairNames site) (stopped_pair processor) w.processes pairs-name
  pairs-after next cause sendings (by_mark node processor down alive unmarked) =
      map-all (PairNames site) (pair_at_down node processor) w.processes
      (λ number pair there. marking-names site node processor number (taker node processor pair) pair
      (pairs-name number pair there))
  pairs-after next cause sendings (by_reload x down marked counted less) =
      reload-all (PairNames site) site x w.processes
      (λ number pair there. reloaded-names site (new_core site number (slice_get site.processes number) pair.first.core)
      number pair (pair.first.processor == x) (pair.second.processor == x) (pairs-name number pair there))

  pub change-files : (next : World) (cause : Cause) (sendings : List Sending) → Change site w cause sendings next
      → CheckpointsNameFiles site next
  change-files next cause sendings change number pair spec there known =
      pairs-after next cause sendings change number pair there spec known

pub files-begin : (site : Site) → CheckpointsNameFiles site (boot site)
files-begin site number pair spec there known =
    all-begin (PairNames site) site (λ n from spec other known message none. absurd none) number pair there spec known
