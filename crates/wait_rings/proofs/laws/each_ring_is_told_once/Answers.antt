use Rattle.wait_rings.proofs.Told.{rings-told, told-once}
use Rattle.wait_rings.proofs.laws.each_ring_is_told_once.Goals as goal

pub returns-clause-told : goal.returns-clause-told
returns-clause-told c = rings-told

pub returns-clause-only : goal.returns-clause-only
returns-clause-only c = told-once
