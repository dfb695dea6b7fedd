use Rattle.awaited_requests.proofs.Seats.{run-seats}
use Rattle.awaited_requests.proofs.laws.copies_stay_seated.Goals as goal

pub returns : goal.returns
returns c = run-seats
