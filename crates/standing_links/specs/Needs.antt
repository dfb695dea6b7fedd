-- What the links of a node are for, and how it changes.
use Rattle.std.specs.Prelude.{◌≡◌, ◌⊎◌, ℕ, List, []}
use Rattle.gd_words.specs.declared.message.Request.{Request}
use Rattle.gd_words.specs.Members.{IsAmong}

-- a request by its process, its opener's place and its number
pub record Name : Type 0 where
  pub process : ℕ
  pub opener : ℕ
  pub number : ℕ

abbrev pub name_of : Request → Name
name_of request = record { process = request.process; opener = request.opener; number = request.number }

-- the requests that wait at copies of a node, those that copies which act there have in hand, and those whose replies
-- are awaited by such copies and by terminals there. The words of a request in hand are its process's, so it is known
-- by name alone
pub record Needs : Type 0 where
  pub waiting : List Request
  pub in_hand : List Name
  pub awaited : List Request

abbrev pub nothing : Needs
nothing = record { waiting = []; in_hand = []; awaited = [] }

-- there is one more than before, wherever it stands
pub record Adds {A : Type 0} (one : A) (before after : List A) : Type 0 where
  pub is_there : IsAmong one after
  pub others_stay : (other : A) → IsAmong other before → IsAmong other after
  pub others_were : (other : A) → IsAmong other after → (other ≡ one) ⊎ IsAmong other before

-- one is gone that may have been there
pub record Drops {A : Type 0} (one : A) (before after : List A) : Type 0 where
  pub is_gone : IsAmong one after → ⊥
  pub others_stay : (other : A) → IsAmong other before → (other ≡ one) ⊎ IsAmong other after
  pub others_were : (other : A) → IsAmong other after → IsAmong other before
