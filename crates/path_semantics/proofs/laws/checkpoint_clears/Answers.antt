use Rattle.path_semantics.proofs.Checkpoints.{checkpoint-after, checkpoint-due}
use Rattle.path_semantics.proofs.laws.checkpoint_clears.Goals as goal

pub returns : goal.returns
returns c = record { after = checkpoint-after; due = checkpoint-due }
