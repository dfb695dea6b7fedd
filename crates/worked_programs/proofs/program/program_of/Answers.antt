use Rattle.loading_laws.specs.tal_laws.proofs.Ordered.{read_is_ordered}
use Rattle.loading_laws.specs.tal_laws.proofs.Regular.{read_is_regular}
use Rattle.loading_laws.specs.tal_laws.proofs.WithinLimits.{read_is_within}
use Rattle.loading_laws.proofs.Loading.{read-is-loadable}
use Rattle.worked_programs.proofs.program.program_of.Goals as goal

pub returns-clause-ordered : goal.returns-clause-ordered
returns-clause-ordered c = read_is_ordered c.args.text.now _ c.in_ok-program.ensures

pub returns-clause-limits : goal.returns-clause-limits
returns-clause-limits c = read_is_within c.args.text.now _ c.in_ok-program.ensures

pub returns-clause-regular : goal.returns-clause-regular
returns-clause-regular c = read_is_regular c.args.text.now _ c.in_ok-program.ensures

pub returns-clause-loadable : goal.returns-clause-loadable
returns-clause-loadable c = read-is-loadable c.args.text.now _ c.in_ok-program.ensures
