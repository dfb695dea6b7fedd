use Rattle.file_calls.proofs.Takeover.{comes, only-replies, only-rest}
use Rattle.file_calls.proofs.laws.settling_repeats_all_kept_replies.Goals as goal

pub returns-clause-comes : goal.returns-clause-comes
returns-clause-comes c = comes

pub returns-clause-replies : goal.returns-clause-replies
returns-clause-replies c = only-replies

pub returns-clause-rest : goal.returns-clause-rest
returns-clause-rest c = only-rest
