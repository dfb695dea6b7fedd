use Rattle.receive_changes.proofs.LaterTables.{later-fits, later-gives}
use Rattle.receive_changes.proofs.laws.a_change_gives_the_later_table.Goals as goal

pub returns-clause-gives : goal.returns-clause-gives
returns-clause-gives c = later-gives

pub returns-clause-fits : goal.returns-clause-fits
returns-clause-fits c = later-fits
