-- What copies change, they change where a process runs or a message is handed over.
use Rattle.std.proofs.Common.{ℕ, List}
use Rattle.tal_tree.specs.declared.act.Act.{Act}
use Rattle.tal_tree.specs.declared.site.Site.{Site}
use Rattle.world_semantics.specs.Core.{Core, Deed}
use Rattle.world_semantics.specs.World.{Pair, Down}
use Rattle.world_semantics.specs.Messages.{Message, Sending, Cause, Running, Entering, Handing, Stopping, MarkingDown}
use Rattle.world_semantics.specs.Messages.{Reloading}
use Rattle.world_semantics.specs.Own.{Around, Causes, by_inner, by_take, by_ask, by_answer, by_device, by_write}
use Rattle.world_semantics.specs.Own.{by_reply}
use Rattle.world_semantics.specs.Passes.{Passes, by_send, by_pass_again, by_pass, by_end, by_apply_behind}
use Rattle.world_semantics.specs.Passes.{by_apply, by_acknowledge}

abbrev pub IsOfCopies : Cause → Type 0
IsOfCopies (Running number) = Unit {0}
IsOfCopies (Handing node message) = Unit {0}
IsOfCopies (Entering terminal) = ⊥
IsOfCopies (Stopping processor) = ⊥
IsOfCopies (MarkingDown node processor) = ⊥
IsOfCopies (Reloading processor) = ⊥

pub own-causes : {site : Site} {number node : ℕ} {core : Core} {before after : Around} {cause : Cause} {deed : Deed}
    {done : Act} {messages : List Message}
    → Causes site number node core before cause deed done messages after → IsOfCopies cause
own-causes by_inner = tt
own-causes (by_take c) = tt
own-causes by_ask = tt
own-causes (by_answer s) = tt
own-causes (by_device n) = tt
own-causes (by_write n) = tt
own-causes (by_reply i o n u) = tt

pub passes-causes : {number : ℕ} {downs : List Down} {kept after : List Act} {pair next : Pair} {cause : Cause}
    {sendings : List Sending}
    → Passes number downs kept pair cause sendings next after → IsOfCopies cause
passes-causes (by_send k r p s m) = tt
passes-causes (by_pass_again k r p m l) = tt
passes-causes (by_pass k r p m l) = tt
passes-causes (by_end k r s p m) = tt
passes-causes (by_apply_behind k message applied r i e n a l) = tt
passes-causes (by_apply k message applied r i e n a l) = tt
passes-causes (by_acknowledge k taken r s i e n) = tt
