-- Two checkpoints of a bank's process, one after the other. The second answers the request in hand and takes the next.
use Rattle.std.specs.Prelude.{ℕ, ℤ, pos, List, [], ◌∷◌, Some}
use Rattle.world_semantics.specs.checkpoint_image.specs.declared.message.ImageMessage.{ImageMessage}
use Rattle.world_semantics.specs.checkpoint_image.specs.declared.receive.OpenerBlock.{OpenerBlock}

-- with this number, this body, a next request on the one file, and one opener
abbrev pub checkpoint : ℕ → List ℤ → ℕ → OpenerBlock → ImageMessage
checkpoint number body next opener = record {
  process = 1;
  era = 0;
  number = number;
  image = record {
    body = body;
    files = record { file = 1; next = next } ∷ [];
    receive = record { openers = opener ∷ []; in_hand = Some 0 };
  };
}

abbrev pub first_body : List ℤ
first_body =
    pos 1 ∷ pos 0 ∷ pos 8 ∷ pos 4 ∷ pos 4 ∷ pos 3 ∷ pos 1 ∷ pos 0 ∷ pos 0 ∷ pos 5 ∷ pos 1 ∷ pos 1 ∷ pos 0 ∷ pos 5 ∷ []

abbrev pub second_body : List ℤ
second_body =
    pos 1 ∷ pos 0 ∷ pos 8 ∷ pos 4 ∷ pos 4 ∷ pos 7 ∷ pos 5 ∷ pos 0 ∷ pos 0 ∷ pos 5 ∷ pos 1 ∷ pos 1 ∷ pos 0 ∷ pos 12
    ∷ []

abbrev pub first_one : ImageMessage
first_one = checkpoint 1 first_body 1 (record { taken = 1; kept = [] })

abbrev pub second_one : ImageMessage
second_one = checkpoint 2 second_body 2 (record { taken = 2; kept = (pos 5 ∷ []) ∷ [] })
