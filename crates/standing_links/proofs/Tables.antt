-- What a call on the links of a node does to the requests that links have.
use Rattle.std.proofs.Common.{◌≡◌, ◌≢◌, ℕ, ◌<◌, ◌≤◌, ◌⊎◌, length, set, Option, Some, None, refl, sym, ap, ◌∙◌, inl, inr}
use Rattle.std.proofs.Common.{arith, length-set}
use Rattle.std.proofs.lemmas.Bool.{cases_eq, cases_lt}
use Rattle.std.proofs.lemmas.List.{get_or-set_same, get_or-set_other, get_or_past}
use Rattle.std.specs.Option.{option_and_then, option_map}
use Rattle.gd_words.specs.declared.message.Request.{Request}
use Rattle.node_links.specs.declared.link.Link.{Link}
use Rattle.node_links.specs.declared.link.Side.{Side}
use Rattle.node_links.specs.declared.link.Side.TheVariants.{Arrived, Asked}
use Rattle.node_links.specs.Linking.{Held, Opens, Table, arrived_at, arrived_by, asked_at, asked_by, at, changed_at}
use Rattle.node_links.specs.Linking.{with_side, without}

-- the requests that links of one kind have
abbrev pub had : (Side → Option Request) → Table → ℕ → Option Request
had kind table number = option_and_then (λ link. kind link.side) (at table number)

in_or_past : (table : Table) (number : ℕ) → (number < length table) ⊎ (length table ≤ number)
in_or_past table number = cases_lt number (length table)

module _ (kind : Side → Option Request) where
  pub ended-here : (table : Table) (number : ℕ) → had kind (without number table) number ≡ None
  ended-here table number = elim (in_or_past table number) [
    | inl inside ↦ ap (option_and_then (λ (link : Link). kind link.side))
        (get_or-set_same table number None None inside)
    | inr past ↦ ap (option_and_then (λ (link : Link). kind link.side))
        (get_or_past (set table number None) number None (omega (arith, length-set {A = Option Link})))
  ]

  pub ended-elsewhere : (table : Table) (number : ℕ) (m : ℕ) → m ≢ number
      → had kind (without number table) m ≡ had kind table m
  ended-elsewhere table number m differs =
      ap (option_and_then (λ (link : Link). kind link.side)) (get_or-set_other table number m None None differs)

  pub opened-elsewhere : (old new : Held) (side : Side) (number : ℕ) → Opens old new side number → (m : ℕ) → m ≢ number
      → had kind new.table m ≡ had kind old.table m
  opened-elsewhere old new side number opens m differs =
      ap (option_and_then (λ (link : Link). kind link.side)) (opens.others_stay m differs)

  pub opened-here : (old new : Held) (side : Side) (number : ℕ) → Opens old new side number
      → had kind new.table number ≡ kind side
  opened-here old new side number opens =
      ap (option_and_then (λ (link : Link). kind link.side)) opens.is_open ∙ ap kind opens.has_side

  pub was-free : (old new : Held) (side : Side) (number : ℕ) → Opens old new side number
      → had kind old.table number ≡ None
  was-free old new side number opens = ap (option_and_then (λ (link : Link). kind link.side)) opens.was_free

  -- a link of the other kind is none of these
  pub opened-apart : (old new : Held) (side : Side) (number : ℕ) → Opens old new side number → kind side ≡ None
      → (m : ℕ) → had kind new.table m ≡ had kind old.table m
  opened-apart old new side number opens other m = elim (cases_eq m number) [
    | inl same ↦ ap (had kind new.table) same ∙ opened-here old new side number opens ∙ other
        ∙ sym (was-free old new side number opens) ∙ sym (ap (had kind old.table) same)
    | inr differs ↦ opened-elsewhere old new side number opens m differs
  ]

  of_changed : (change : Side → Side) → ((side : Side) → kind (change side) ≡ kind side) → (one : Option Link)
      → option_and_then (λ (link : Link). kind link.side) (option_map (with_side change) one)
      ≡ option_and_then (λ (link : Link). kind link.side) one
  of_changed change keeps None = refl
  of_changed change keeps (Some link) = keeps link.side

  -- a change that leaves requests leaves all
  pub changed-all : (change : Side → Side) → ((side : Side) → kind (change side) ≡ kind side) → (table : Table)
      (number m : ℕ)
      → had kind (changed_at number change table) m ≡ had kind table m
  changed-all change keeps table number m = elim (cases_eq m number) [
    | inl same ↦ ap (had kind (changed_at number change table)) same ∙ here (in_or_past table number)
        ∙ sym (ap (had kind table) same)
    | inr differs ↦ ap (option_and_then (λ (link : Link). kind link.side))
        (get_or-set_other table number m (option_map (with_side change) (at table number)) None differs)
  ]
    where
      here : (number < length table) ⊎ (length table ≤ number)
          → had kind (changed_at number change table) number ≡ had kind table number
      here (inl inside) =
          ap (option_and_then (λ (link : Link). kind link.side))
          (get_or-set_same table number (option_map (with_side change) (at table number)) None inside)
          ∙ of_changed change keeps (at table number)
      here (inr past) =
          ap (option_and_then (λ (link : Link). kind link.side))
          (get_or_past (set table number (option_map (with_side change) (at table number))) number None
          (omega (arith, length-set {A = Option Link})) ∙ sym (get_or_past table number None past))

-- A link is of one kind

asks_none_by : (request : Request) (side : Side) → arrived_by side ≡ Some request → asked_by side ≡ None
asks_none_by request (Asked other reply) found = absurd (let none : None ≡ Some request = found in cc)
asks_none_by request (Arrived other read) found = refl

asks_none_in : (request : Request) (one : Option Link)
    → option_and_then (λ (link : Link). arrived_by link.side) one ≡ Some request
    → option_and_then (λ (link : Link). asked_by link.side) one ≡ None
asks_none_in request None found = refl
asks_none_in request (Some link) found = asks_none_by request link.side found

pub asks-none : (table : Table) (number : ℕ) (request : Request) → arrived_at table number ≡ Some request
    → asked_at table number ≡ None
asks-none table number request found = asks_none_in request (at table number) found

arrives_none_by : (request : Request) (side : Side) → asked_by side ≡ Some request → arrived_by side ≡ None
arrives_none_by request (Asked other reply) found = refl
arrives_none_by request (Arrived other read) found = absurd (let none : None ≡ Some request = found in cc)

arrives_none_in : (request : Request) (one : Option Link)
    → option_and_then (λ (link : Link). asked_by link.side) one ≡ Some request
    → option_and_then (λ (link : Link). arrived_by link.side) one ≡ None
arrives_none_in request None found = refl
arrives_none_in request (Some link) found = arrives_none_by request link.side found

pub arrives-none : (table : Table) (number : ℕ) (request : Request) → asked_at table number ≡ Some request
    → arrived_at table number ≡ None
arrives-none table number request found = arrives_none_in request (at table number) found

module _ (kind : Side → Option Request) where
  -- a link that ends and is none of these leaves them all
  pub ended-apart : (table : Table) (number : ℕ) → had kind table number ≡ None → (m : ℕ)
      → had kind (without number table) m ≡ had kind table m
  ended-apart table number other m = elim (cases_eq m number) [
    | inl same ↦ ap (had kind (without number table)) same ∙ ended-here kind table number ∙ sym other
        ∙ sym (ap (had kind table) same)
    | inr differs ↦ ended-elsewhere kind table number m differs
  ]
