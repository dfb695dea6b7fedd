-- What the built parts of expressions stand for, by their fields.
use Rattle.tal_syntax.proofs.SeenSteps.{expr-open, both-open, sum-open, product-open}

pub ruleset opens = (expr-open, both-open, sum-open, product-open)
