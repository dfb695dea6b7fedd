use Rattle.world_semantics.specs.World.{copy_of}
use Rattle.reload_guards.proofs.Plain.{first-leads, plain-of, watches}
use Rattle.reload_guards.proofs.without.copies_without_a_reload.Goals as goal

pub returns : goal.returns
returns c = record {
  blank = λ site events w number pair k run none there. (plain-of run none number there k).blank;
  receives = λ site events w number pair k run none there gets_them.
      watches (copy_of k pair).role (plain-of run none number there k).blank gets_them;
  renewal = λ site events w number pair k run none there. (plain-of run none number there k).renewal;
  leads = λ site events w number pair run none there. first-leads run none number there;
}
