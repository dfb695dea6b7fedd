-- Links that stand for what a node has to do stand so as it changes, if the right link is opened or ended.
use Rattle.std.proofs.Common.{◌≡◌, ◌≢◌, ◌⊎◌, ℕ, List, [], Some, None, false, refl, sym, subst, ap, ◌∙◌, inl, inr}
use Rattle.std.proofs.lemmas.Bool.{cases_eq}
use Rattle.std.specs.Prelude.{ℤ}
use Rattle.gd_words.specs.declared.message.Request.{Request}
use Rattle.gd_words.specs.Members.{IsAmong}
use Rattle.node_links.specs.declared.link.Side.{Side}
use Rattle.node_links.specs.declared.link.Side.TheVariants.{Arrived, Asked}
use Rattle.node_links.specs.Linking.{Held, Opens, Table, arrived_at, arrived_by, asked_at, asked_by, changed_at, read}
use Rattle.node_links.specs.Linking.{side_after_reply, without}
use Rattle.standing_links.specs.Needs.{Adds, Drops, Name, Needs, name_of, nothing}
use Rattle.standing_links.specs.Standing.{IsTheOnly, IsTheOnlyNamed, StandFor}
use Rattle.standing_links.proofs.Ones.{one-along, one-is-left, one-opens, one-stays, was-open}
use Rattle.standing_links.proofs.Tables.{arrives-none, asks-none, changed-all, ended-apart, ended-elsewhere, ended-here}
use Rattle.standing_links.proofs.Tables.{opened-apart, opened-elsewhere, opened-here, was-free}

pub stands-for-nothing : StandFor nothing []
stands-for-nothing = record {
  waiting_have_one = λ request waits. absurd waits;
  others_are_in_hand = λ number request found. absurd (let none : None ≡ Some request = found in cc);
  awaited_have_one = λ request awaited. absurd awaited;
  others_are_none = λ number request found. absurd (let none : None ≡ Some request = found in cc);
}

-- where all requests stay at their links
pub stands-along : (needs : Needs) (table after : Table)
    → ((m : ℕ) → arrived_at after m ≡ arrived_at table m) → ((m : ℕ) → asked_at after m ≡ asked_at table m)
    → StandFor needs table → StandFor needs after
stands-along needs table after arrived asked stands = record {
  waiting_have_one = λ request waits.
      one-along (arrived_at table) (arrived_at after) request arrived (stands.waiting_have_one request waits);
  others_are_in_hand = λ number request found.
      stands.others_are_in_hand number request (sym (arrived number) ∙ found);
  awaited_have_one = λ request awaits.
      one-along (asked_at table) (asked_at after) request asked (stands.awaited_have_one request awaits);
  others_are_none = λ number request found. stands.others_are_none number request (sym (asked number) ∙ found);
}

-- A request that comes to wait

module _ (needs : Needs) (waiting : List Request) (request : Request) where
  pub stands-as-it-waits : (old new : Held) (number : ℕ) → StandFor needs old.table → Adds request needs.waiting waiting
      → ((other : ℕ) → arrived_at old.table other ≢ Some request) → Opens old new (Arrived request false) number
      → StandFor (record needs { waiting = waiting }) new.table
  stands-as-it-waits old new number stands adds fresh opens = record {
    waiting_have_one = λ later waits. elim (adds.others_were later waits) [
      | inl same ↦ again later same
      | inr before ↦
          one-stays (arrived_at old.table) (arrived_at new.table) number others later request
          (was-free arrived_by old new (Arrived request false) number opens) here fresh
          (stands.waiting_have_one later before)
    ];
    others_are_in_hand = λ other later found. elsewhere other later found (stood other later found);
    awaited_have_one = λ later awaits.
        one-along (asked_at old.table) (asked_at new.table) later asked (stands.awaited_have_one later awaits);
    others_are_none = λ other later found. stands.others_are_none other later (sym (asked other) ∙ found);
  }
    where
      others : (m : ℕ) → m ≢ number → arrived_at new.table m ≡ arrived_at old.table m
      others = opened-elsewhere arrived_by old new (Arrived request false) number opens

      here : arrived_at new.table number ≡ Some request
      here = opened-here arrived_by old new (Arrived request false) number opens

      asked : (m : ℕ) → asked_at new.table m ≡ asked_at old.table m
      asked = opened-apart asked_by old new (Arrived request false) number opens refl

      again : (later : Request) → later ≡ request
          → (m : ℕ) × IsTheOnly (arrived_at new.table) later m
      again later same =
          let P : Request → Type 0 = λ r. (m : ℕ) × IsTheOnly (arrived_at new.table) r m in
          subst P (sym same) (one-opens (arrived_at old.table) (arrived_at new.table) number others request here fresh)

      stood : (other : ℕ) (later : Request) → arrived_at new.table other ≡ Some later
          → (later ≡ request) ⊎ (arrived_at old.table other ≡ Some later)
      stood other later found = elim (cases_eq other number) [
        | inl same ↦ inl (let one = sym here ∙ sym (ap (arrived_at new.table) same) ∙ found in cc)
        | inr differs ↦ inr (sym (others other differs) ∙ found)
      ]

      elsewhere : (other : ℕ) (later : Request) → arrived_at new.table other ≡ Some later
          → (later ≡ request) ⊎ (arrived_at old.table other ≡ Some later)
          → IsAmong later waiting ⊎ IsAmong (name_of later) needs.in_hand
      elsewhere other later found (inl same) =
          let P : Request → Type 0 = λ r. IsAmong r waiting in inl (subst P (sym same) adds.is_there)
      elsewhere other later found (inr before) = elim (stands.others_are_in_hand other later before) [
        | inl waits ↦ inl (adds.others_stay later waits)
        | inr held ↦ inr held
      ]

-- A request that is dropped

module _ (needs : Needs) (waiting : List Request) (request : Request) (table : Table) (number : ℕ) where
  pub stands-as-it-is-dropped : StandFor needs table → Drops request needs.waiting waiting
      → IsTheOnly (arrived_at table) request number
      → StandFor (record needs { waiting = waiting }) (without number table)
  stands-as-it-is-dropped stands drops only = record {
    waiting_have_one = λ later waits.
        one-is-left (arrived_at table) (arrived_at (without number table)) number
        (ended-elsewhere arrived_by table number) later (ended-here arrived_by table number)
        (λ found. drops.is_gone (along later (sym only.is_there ∙ found) waits))
        (stands.waiting_have_one later (drops.others_were later waits));
    others_are_in_hand = λ other later found.
        let before = was-open (arrived_at table) (arrived_at (without number table)) number
        (ended-elsewhere arrived_by table number) later other (ended-here arrived_by table number) found in
        elim (stands.others_are_in_hand other later before.1) [
          | inl waits ↦ elim (drops.others_stay later waits) [
            | inl same ↦ absurd (before.0 (only.is_alone other (before.1 ∙ ap Some same)))
            | inr stays ↦ inl stays
          ]
          | inr held ↦ inr held
        ];
    awaited_have_one = λ later awaits.
        one-along (asked_at table) (asked_at (without number table)) later asked (stands.awaited_have_one later awaits);
    others_are_none = λ other later found. stands.others_are_none other later (sym (asked other) ∙ found);
  }
    where
      along : (later : Request) → Some request ≡ Some later → IsAmong later waiting → IsAmong request waiting
      along later same waits =
          let one : later ≡ request = cc in
          let P : Request → Type 0 = λ r. IsAmong r waiting in subst P one waits

      -- the link that ends is a server's
      asked : (m : ℕ) → asked_at (without number table) m ≡ asked_at table m
      asked = ended-apart asked_by table number (asks-none table number request only.is_there)

-- A request that is taken, and its answer

pub stands-as-it-is-taken : (needs : Needs) (waiting : List Request) (in_hand : List Name) (request : Request)
    (table : Table) → StandFor needs table → Drops request needs.waiting waiting
    → Adds (name_of request) needs.in_hand in_hand
    → StandFor (record needs { waiting = waiting; in_hand = in_hand }) table
stands-as-it-is-taken needs waiting in_hand request table stands drops adds = record {
  waiting_have_one = λ later waits. stands.waiting_have_one later (drops.others_were later waits);
  others_are_in_hand = λ other later found. elim (stands.others_are_in_hand other later found) [
    | inl waits ↦ elim (drops.others_stay later waits) [
      | inl same ↦
          let P : Name → Type 0 = λ name. IsAmong name in_hand in
          inr (subst P (sym (ap name_of same)) adds.is_there)
      | inr stays ↦ inl stays
    ]
    | inr held ↦ inr (adds.others_stay (name_of later) held)
  ];
  awaited_have_one = stands.awaited_have_one;
  others_are_none = stands.others_are_none;
}

pub stands-as-it-is-answered : (needs : Needs) (in_hand : List Name) (request : Request) (table : Table) (number : ℕ)
    → StandFor needs table → Drops (name_of request) needs.in_hand in_hand
    → ((other : Request) → IsAmong other needs.waiting → name_of other ≢ name_of request)
    → IsTheOnlyNamed table request number
    → StandFor (record needs { in_hand = in_hand }) (without number table)
stands-as-it-is-answered needs in_hand request table number stands drops apart only = record {
  waiting_have_one = λ later waits.
      one-is-left (arrived_at table) (arrived_at (without number table)) number
      (ended-elsewhere arrived_by table number) later (ended-here arrived_by table number)
      (λ found. apart later waits (let one : later ≡ only.one = cc in ap name_of one ∙ only.is_named))
      (stands.waiting_have_one later waits);
  others_are_in_hand = λ other later found.
      let before = was-open (arrived_at table) (arrived_at (without number table)) number
      (ended-elsewhere arrived_by table number) later other (ended-here arrived_by table number) found in
      elim (stands.others_are_in_hand other later before.1) [
        | inl waits ↦ inl waits
        | inr held ↦ elim (drops.others_stay (name_of later) held) [
          | inl same ↦ absurd (before.0 (only.is_alone other later before.1 same))
          | inr stays ↦ inr stays
        ]
      ];
  awaited_have_one = λ later awaits.
      one-along (asked_at table) (asked_at (without number table)) later asked (stands.awaited_have_one later awaits);
  others_are_none = λ other later found. stands.others_are_none other later (sym (asked other) ∙ found);
}
  where
    asked : (m : ℕ) → asked_at (without number table) m ≡ asked_at table m
    asked = ended-apart asked_by table number (asks-none table number only.one only.is_there)

pub stands-as-none-is-answered : (needs : Needs) (in_hand : List Name) (request : Request) (table : Table)
    → StandFor needs table → Drops (name_of request) needs.in_hand in_hand
    → ((number : ℕ) (other : Request) → arrived_at table number ≡ Some other → name_of other ≢ name_of request)
    → StandFor (record needs { in_hand = in_hand }) table
stands-as-none-is-answered needs in_hand request table stands drops apart = record {
  waiting_have_one = stands.waiting_have_one;
  others_are_in_hand = λ other later found. elim (stands.others_are_in_hand other later found) [
    | inl waits ↦ inl waits
    | inr held ↦ elim (drops.others_stay (name_of later) held) [
      | inl same ↦ absurd (apart other later found same)
      | inr stays ↦ inr stays
    ]
  ];
  awaited_have_one = stands.awaited_have_one;
  others_are_none = stands.others_are_none;
}

-- A request that is sent, and its reply

module _ (needs : Needs) (awaited : List Request) (request : Request) where
  pub stands-as-it-is-sent : (old new : Held) (number : ℕ) → StandFor needs old.table
      → Adds request needs.awaited awaited
      → ((other : ℕ) → asked_at old.table other ≢ Some request) → Opens old new (Asked request None) number
      → StandFor (record needs { awaited = awaited }) new.table
  stands-as-it-is-sent old new number stands adds fresh opens = record {
    waiting_have_one = λ later waits.
        one-along (arrived_at old.table) (arrived_at new.table) later arrived (stands.waiting_have_one later waits);
    others_are_in_hand = λ other later found. stands.others_are_in_hand other later (sym (arrived other) ∙ found);
    awaited_have_one = λ later awaits. elim (adds.others_were later awaits) [
      | inl same ↦ again later same
      | inr before ↦
          one-stays (asked_at old.table) (asked_at new.table) number others later request
          (was-free asked_by old new (Asked request None) number opens) here fresh
          (stands.awaited_have_one later before)
    ];
    others_are_none = λ other later found. elim (stood other later found) [
      | inl same ↦ let P : Request → Type 0 = λ r. IsAmong r awaited in subst P (sym same) adds.is_there
      | inr before ↦ adds.others_stay later (stands.others_are_none other later before)
    ];
  }
    where
      others : (m : ℕ) → m ≢ number → asked_at new.table m ≡ asked_at old.table m
      others = opened-elsewhere asked_by old new (Asked request None) number opens

      here : asked_at new.table number ≡ Some request
      here = opened-here asked_by old new (Asked request None) number opens

      arrived : (m : ℕ) → arrived_at new.table m ≡ arrived_at old.table m
      arrived = opened-apart arrived_by old new (Asked request None) number opens refl

      again : (later : Request) → later ≡ request → (m : ℕ) × IsTheOnly (asked_at new.table) later m
      again later same =
          let P : Request → Type 0 = λ r. (m : ℕ) × IsTheOnly (asked_at new.table) r m in
          subst P (sym same) (one-opens (asked_at old.table) (asked_at new.table) number others request here fresh)

      stood : (other : ℕ) (later : Request) → asked_at new.table other ≡ Some later
          → (later ≡ request) ⊎ (asked_at old.table other ≡ Some later)
      stood other later found = elim (cases_eq other number) [
        | inl same ↦ inl (let one = sym here ∙ sym (ap (asked_at new.table) same) ∙ found in cc)
        | inr differs ↦ inr (sym (others other differs) ∙ found)
      ]

  pub stands-as-it-is-got : (table : Table) (number : ℕ) → StandFor needs table
      → Drops request needs.awaited awaited → IsTheOnly (asked_at table) request number
      → StandFor (record needs { awaited = awaited }) (without number table)
  stands-as-it-is-got table number stands drops only = record {
    waiting_have_one = λ later waits.
        one-along (arrived_at table) (arrived_at (without number table)) later arrived
        (stands.waiting_have_one later waits);
    others_are_in_hand = λ other later found. stands.others_are_in_hand other later (sym (arrived other) ∙ found);
    awaited_have_one = λ later awaits.
        one-is-left (asked_at table) (asked_at (without number table)) number
        (ended-elsewhere asked_by table number) later (ended-here asked_by table number)
        (λ found. drops.is_gone (along later (sym only.is_there ∙ found) awaits))
        (stands.awaited_have_one later (drops.others_were later awaits));
    others_are_none = λ other later found.
        let before = was-open (asked_at table) (asked_at (without number table)) number
        (ended-elsewhere asked_by table number) later other (ended-here asked_by table number) found in
        elim (drops.others_stay later (stands.others_are_none other later before.1)) [
          | inl same ↦ absurd (before.0 (only.is_alone other (before.1 ∙ ap Some same)))
          | inr stays ↦ stays
        ];
  }
    where
      along : (later : Request) → Some request ≡ Some later → IsAmong later awaited → IsAmong request awaited
      along later same awaits =
          let one : later ≡ request = cc in let P : Request → Type 0 = λ r. IsAmong r awaited in subst P one awaits

      arrived : (m : ℕ) → arrived_at (without number table) m ≡ arrived_at table m
      arrived = ended-apart arrived_by table number (arrives-none table number request only.is_there)

-- Links that are read and answered

read_keeps_asked : (side : Side) → asked_by (read side) ≡ asked_by side
read_keeps_asked (Asked request reply) = refl
read_keeps_asked (Arrived request one) = refl

read_keeps_arrived : (side : Side) → arrived_by (read side) ≡ arrived_by side
read_keeps_arrived (Asked request reply) = refl
read_keeps_arrived (Arrived request one) = refl

reply_keeps_asked : (words : List ℤ) (side : Side) → asked_by (side_after_reply words side) ≡ asked_by side
reply_keeps_asked words (Asked request None) = refl
reply_keeps_asked words (Asked request (Some first)) = refl
reply_keeps_asked words (Arrived request one) = refl

reply_keeps_arrived : (words : List ℤ) (side : Side) → arrived_by (side_after_reply words side) ≡ arrived_by side
reply_keeps_arrived words (Asked request None) = refl
reply_keeps_arrived words (Asked request (Some first)) = refl
reply_keeps_arrived words (Arrived request one) = refl

pub stands-as-read : (needs : Needs) (table : Table) (number : ℕ) → StandFor needs table
    → StandFor needs (changed_at number read table)
stands-as-read needs table number =
    stands-along needs table (changed_at number read table)
    (changed-all arrived_by read read_keeps_arrived table number)
    (changed-all asked_by read read_keeps_asked table number)

pub stands-as-replied : (needs : Needs) (table : Table) (number : ℕ) (words : List ℤ) → StandFor needs table
    → StandFor needs (changed_at number (side_after_reply words) table)
stands-as-replied needs table number words =
    stands-along needs table (changed_at number (side_after_reply words) table)
    (changed-all arrived_by (side_after_reply words) (reply_keeps_arrived words) table number)
    (changed-all asked_by (side_after_reply words) (reply_keeps_asked words) table number)
