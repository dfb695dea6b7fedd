-- Receive tables and requests that the guards name.
use Rattle.std.specs.Prelude.{ℕ, pos, ℤ, List, [], ◌∷◌, Some, None}
use Rattle.gd_words.specs.declared.message.Request.{Request}
use Rattle.checkpoint_image.specs.declared.receive.OpenerBlock.{OpenerBlock}
use Rattle.checkpoint_image.specs.declared.receive.ReceiveBlock.{ReceiveBlock}
use Rattle.sync_ids.specs.Tables.{Remembered}
use Rattle.sync_ids.specs.declared.change.OpenerChange.{OpenerChange}

-- a reply of one word
abbrev pub reply : ℕ → List ℤ
reply n = pos n ∷ []

-- an opener of depth 1: five of its requests were taken, and the reply to the fifth is kept
abbrev pub shallow : OpenerBlock
shallow = record { taken = 5; kept = reply 5 ∷ [] }

-- an opener of depth 4: seven of its requests were taken, and the replies to the last four are kept
abbrev pub deep : OpenerBlock
deep = record { taken = 7; kept = reply 4 ∷ reply 5 ∷ reply 6 ∷ reply 7 ∷ [] }

-- the same opener after two more were taken and answered
abbrev pub deeper : OpenerBlock
deeper = record { taken = 9; kept = reply 6 ∷ reply 7 ∷ reply 8 ∷ reply 9 ∷ [] }

-- an opener of which nothing was taken
abbrev pub fresh : OpenerBlock
fresh = record { taken = 0; kept = [] }

-- an opener of depth 4 whose seventh request is in hand: the replies to the four before it are kept
abbrev pub held : OpenerBlock
held = record { taken = 7; kept = reply 3 ∷ reply 4 ∷ reply 5 ∷ reply 6 ∷ [] }

-- a process with that request in hand
abbrev pub table_in_hand : ReceiveBlock
table_in_hand = record { openers = shallow ∷ held ∷ fresh ∷ []; in_hand = Some 1 }

-- a process of these three openers, with nothing in hand
abbrev pub table : ReceiveBlock
table = record { openers = shallow ∷ deep ∷ fresh ∷ []; in_hand = None }

-- what that process remembers, with the depths of its openers
abbrev pub remembered : Remembered
remembered = record { table = table; depths = 1 ∷ 4 ∷ 1 ∷ [] }

-- a request of this number of the opener at a place
abbrev pub request : ℕ → ℕ → Request
request opener number = record { process = 3; opener = opener; number = number; words = pos 9 ∷ [] }

-- what changed of the opener at a place: so many are taken now, and these replies were added
abbrev pub since : ℕ → ℕ → List (List ℤ) → OpenerChange
since opener taken added = record { opener = opener; taken = taken; added = added }
