-- Which receive tables come of one by requests that are taken and answered.
use Rattle.std.specs.Prelude.{◌≡◌, ℕ, ℤ, List, slice_get, Some, None}
use Rattle.sync_ids.specs.checkpoint_image.specs.Receive.{after_answering, after_taking}
use Rattle.sync_ids.specs.checkpoint_image.specs.declared.receive.OpenerBlock.{OpenerBlock}
use Rattle.sync_ids.specs.checkpoint_image.specs.declared.receive.ReceiveBlock.{ReceiveBlock}

-- the tables that come of a table of openers of these depths: itself; that after a request was taken while none was in
-- hand; and that after the request in hand was answered
pub data ComesTo (depths : List ℕ) (base : ReceiveBlock) : ReceiveBlock → Type 0 where
  Same : ComesTo depths base base
  Taken : (table : ReceiveBlock) (place : ℕ) (block : OpenerBlock) → ComesTo depths base table → table.in_hand ≡ None
      → slice_get table.openers place ≡ Some block → ComesTo depths base (after_taking place block table)
  Answered : (table : ReceiveBlock) (place : ℕ) (block : OpenerBlock) (depth : ℕ) (words : List ℤ)
      → ComesTo depths base table → table.in_hand ≡ Some place → slice_get table.openers place ≡ Some block
      → slice_get depths place ≡ Some depth → ComesTo depths base (after_answering depth place block words table)
