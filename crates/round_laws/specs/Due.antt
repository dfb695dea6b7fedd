-- What a round has still to deliver.
use Rattle.std.specs.Prelude.{◌≡◌, ℕ, List, ◌++◌, length}

-- so many of the packets on a bus are due, its first ones. What has come and then these begin with what was there at
-- the start
pub record IsDue {P : Type 0} (start came : List P) (count : ℕ) (packets : List P) : Type 0 where
  pub first : List P
  pub behind : List P
  pub size : length first ≡ count
  pub are : packets ≡ first ++ behind
  pub more : List P
  pub covers : came ++ first ≡ start ++ more
