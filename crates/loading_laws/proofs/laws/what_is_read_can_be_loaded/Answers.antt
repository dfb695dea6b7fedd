use Rattle.loading_laws.proofs.Loading.{read-is-loadable}
use Rattle.loading_laws.proofs.laws.what_is_read_can_be_loaded.Goals as goal

pub returns : goal.returns
returns c = read-is-loadable
