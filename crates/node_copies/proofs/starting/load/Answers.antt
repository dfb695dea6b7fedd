use Rattle.std.proofs.Common.{ap, sym, subst, ◌∙◌}
use Rattle.process_semantics.specs.Process.{ProcessState, in_hand}
use Rattle.process_control.specs.whole_states.specs.Listing.{files_of}
use Rattle.process_control.specs.whole_states.specs.Processes.{IsWholeProcess}
use Rattle.process_control.proofs.Starting.{start-files, start-free}
use Rattle.node_copies.proofs.Loads.{starts-whole}
use Rattle.node_copies.proofs.starting.load.Goals as goal

pub returns-clause-whole : goal.returns-clause-whole
returns-clause-whole c = subst (λ (s : ProcessState). IsWholeProcess s) (sym c.in_ok-process.ensures)
    (starts-whole c.args.what.now c.requires)

pub returns-clause-free : goal.returns-clause-free
returns-clause-free c = ap (λ (s : ProcessState). in_hand s) c.in_ok-process.ensures ∙ start-free c.args.what.now

pub returns-clause-files : goal.returns-clause-files
returns-clause-files c =
    start-files c.args.what.now ∙ sym (ap (λ (s : ProcessState). files_of s) c.in_ok-process.ensures)
