-- Lists of parcels and of what is carried, from one node to another.
use Rattle.std.proofs.Common.{◌≡◌, ◌⊎◌, inl, inr, ℕ, ℤ, Bool, true, false, not, if◌then◌else◌, ◌&&◌, ◌||◌, ◌==◌, List}
use Rattle.std.proofs.Common.{[], ◌∷◌, ◌++◌, Option, Some, None, refl, ap, sym, subst, ◌∙◌, eq-eqb, map}
use Rattle.std.specs.List.{filter}
use Rattle.std.specs.Option.{option_to_list, option_and_then}
use Rattle.std.proofs.lemmas.Bool.{eqb-true}
use Rattle.std.proofs.lemmas.List.{map-append}
use Rattle.std.proofs.lemmas.List.Elements.{filter_map-append, filter-append}
use Rattle.world_semantics.proofs.Roles.{both-true}
use Rattle.message_layout.specs.Messages.{NodeMessage, Carrying, Changing, Reporting, Declaring}
use Rattle.message_layout.specs.Layout.{words_of, IsWithin}
use Rattle.message_layout.proofs.Again.{written-again}
use Rattle.packet_wires.specs.Parcels.{Parcel}
use Rattle.packet_nets.specs.Owing.{IsContent, IsTaken, content_of, carried_of, carried, goes, between, is_between}
use Rattle.packet_nets.specs.Owing.{takes_first, takes_later, without_those_between}

-- as parcels: one, if it is of a letter
abbrev pub parcels_by : ℕ → ℕ → NodeMessage → List Parcel
parcels_by x y (Carrying message) = record { sender = x; receiver = y; content = Carrying message } ∷ []
parcels_by x y (Changing change) = record { sender = x; receiver = y; content = Changing change } ∷ []
parcels_by x y (Reporting node set) = []
parcels_by x y (Declaring processor) = []

-- a parcel of a letter is one of these
pub by-own : (x y : ℕ) (told : NodeMessage) → IsContent told
    → parcels_by x y told ≡ record { sender = x; receiver = y; content = told } ∷ []
by-own x y (Carrying message) is = refl
by-own x y (Changing change) is = refl
by-own x y (Reporting node set) is = absurd cc
by-own x y (Declaring processor) is = absurd cc

pub between-append : (a b : ℕ) (one other : List Parcel)
    → between a b (one ++ other) ≡ between a b one ++ between a b other
between-append a b one other = ap (map (λ (l : Parcel). l.content)) (filter-append (goes a b) one other)
    ∙ map-append (λ (l : Parcel). l.content) (filter (goes a b) one) (filter (goes a b) other)

pub carried-append : (one other : List (List ℤ)) → carried (one ++ other) ≡ carried one ++ carried other
carried-append one other = filter_map-append carried_of one other

pub carried-of : (told : NodeMessage) → IsWithin told → carried_of (words_of told) ≡ content_of told
carried-of told is = ap (option_and_then content_of) (written-again told is)

pub carried-one : (words : List ℤ) → carried (words ∷ []) ≡ option_to_list (carried_of words)
carried-one words = by (carried_of words) refl
  where
    by : (o : Option NodeMessage) → carried_of words ≡ o → carried (words ∷ []) ≡ option_to_list o
    by None e = rw e refl
    by (Some m) e = rw e refl

pub goes-there : (x y : ℕ) (content : NodeMessage)
    → goes x y (record { sender = x; receiver = y; content = content }) ≡ true
goes-there x y content = rw (eq-eqb x x refl, eq-eqb y y refl) refl

pub goes-elsewhere : (a b : ℕ) (parcel : Parcel) → (a ≡ parcel.sender → b ≡ parcel.receiver → ⊥)
    → goes a b parcel ≡ false
goes-elsewhere a b parcel n = by (parcel.sender == a) (parcel.receiver == b) refl refl
  where
    by : (p q : Bool) → (parcel.sender == a) ≡ p → (parcel.receiver == b) ≡ q → (p && q) ≡ false
    by true true e h = absurd (n (sym (eqb-true parcel.sender a e)) (sym (eqb-true parcel.receiver b h)))
    by true false e h = refl
    by false q e h = refl

pub by-here : (x y : ℕ) (told : NodeMessage) → between x y (parcels_by x y told) ≡ option_to_list (content_of told)
by-here x y (Carrying message) = rw (goes-there x y (Carrying message)) refl
by-here x y (Changing change) = rw (goes-there x y (Changing change)) refl
by-here x y (Reporting node set) = refl
by-here x y (Declaring processor) = refl

pub by-elsewhere : (x y : ℕ) (told : NodeMessage) (a b : ℕ) → (a ≡ x → b ≡ y → ⊥)
    → between a b (parcels_by x y told) ≡ []
by-elsewhere x y (Carrying message) a b n =
    rw (goes-elsewhere a b (record { sender = x; receiver = y; content = Carrying message }) n) refl
by-elsewhere x y (Changing change) a b n =
    rw (goes-elsewhere a b (record { sender = x; receiver = y; content = Changing change }) n) refl
by-elsewhere x y (Reporting node set) a b n = refl
by-elsewhere x y (Declaring processor) a b n = refl

-- The first of the parcels that go one way is taken

pub record Takes (x y : ℕ) (content : NodeMessage) (owed : List Parcel) (later : List NodeMessage) : Type 0 where
  pub rest : List Parcel
  pub taken : IsTaken (record { sender = x; receiver = y; content = content }) owed rest
  pub here : between x y rest ≡ later
  pub elsewhere : (a b : ℕ) → (a ≡ x → b ≡ y → ⊥) → between a b rest ≡ between a b owed

pub between-yes : (a b : ℕ) (parcel : Parcel) (rest : List Parcel) → goes a b parcel ≡ true
    → between a b (parcel ∷ rest) ≡ parcel.content ∷ between a b rest
between-yes a b parcel rest g = rw g refl

pub between-no : (a b : ℕ) (parcel : Parcel) (rest : List Parcel) → goes a b parcel ≡ false
    → between a b (parcel ∷ rest) ≡ between a b rest
between-no a b parcel rest g = rw g refl

pub between-cons : (a b : ℕ) (parcel : Parcel) (one other : List Parcel) → between a b one ≡ between a b other
    → between a b (parcel ∷ one) ≡ between a b (parcel ∷ other)
between-cons a b parcel one other e = by (goes a b parcel) refl
  where
    by : (test : Bool) → goes a b parcel ≡ test → between a b (parcel ∷ one) ≡ between a b (parcel ∷ other)
    by true g = between-yes a b parcel one g ∙ ap (λ ms. parcel.content ∷ ms) e ∙ sym (between-yes a b parcel other g)
    by false g = between-no a b parcel one g ∙ e ∙ sym (between-no a b parcel other g)

first-of : NodeMessage → List NodeMessage → NodeMessage
first-of m [] = m
first-of m (one ∷ rest) = one

rest-of : List NodeMessage → List NodeMessage
rest-of [] = []
rest-of (one ∷ rest) = rest

cons-head : (a b : NodeMessage) (xs ys : List NodeMessage) → a ∷ xs ≡ b ∷ ys → a ≡ b
unfolding first-of
cons-head a b xs ys e = ap (first-of a) e

cons-tail : (a b : NodeMessage) (xs ys : List NodeMessage) → a ∷ xs ≡ b ∷ ys → xs ≡ ys
unfolding rest-of
cons-tail a b xs ys e = ap rest-of e

-- a parcel that goes there
parcel-is : (x y : ℕ) (parcel : Parcel) → goes x y parcel ≡ true → (x ≡ parcel.sender) × (y ≡ parcel.receiver)
parcel-is x y parcel g = let both = both-true (parcel.sender == x) (parcel.receiver == y) g in
    (sym (eqb-true parcel.sender x both.0), sym (eqb-true parcel.receiver y both.1))

pub takes : (x y : ℕ) (content : NodeMessage) (owed : List Parcel) (later : List NodeMessage)
    → between x y owed ≡ content ∷ later → Takes x y content owed later
takes x y content [] later e = absurd cc
takes x y content (parcel ∷ owed) later e = by (goes x y parcel) refl (takes x y content owed later)
  where
    by : (test : Bool) → goes x y parcel ≡ test → (between x y owed ≡ content ∷ later → Takes x y content owed later)
        → Takes x y content (parcel ∷ owed) later
    by true g more =
        let both : parcel.content ∷ between x y owed ≡ content ∷ later = sym (between-yes x y parcel owed g) ∙ e in
        let ends = parcel-is x y parcel g in record {
          rest = owed;
          taken = subst (λ a. IsTaken (record { sender = a; receiver = y; content = content }) (parcel ∷ owed) owed)
              (sym ends.0)
              (subst (λ b. IsTaken (record { sender = parcel.sender; receiver = b; content = content }) (parcel ∷ owed)
              owed) (sym ends.1)
              (subst (λ m. IsTaken (record { sender = parcel.sender; receiver = parcel.receiver; content = m })
              (parcel ∷ owed) owed) (cons-head parcel.content content (between x y owed) later both) takes_first));
          here = cons-tail parcel.content content (between x y owed) later both;
          elsewhere = λ a b n. sym (between-no a b parcel owed
              (goes-elsewhere a b parcel (λ s u. n (s ∙ sym ends.0) (u ∙ sym ends.1))));
        }
    by false g more =
        let one = more (sym (between-no x y parcel owed g) ∙ e) in record {
          rest = parcel ∷ one.rest;
          taken = takes_later one.taken;
          here = between-no x y parcel one.rest g ∙ one.here;
          elsewhere = λ a b n. between-cons a b parcel one.rest owed (one.elsewhere a b n);
        }

-- Parcels between two nodes are struck off

between-is : (x y : ℕ) (parcel : Parcel) → is_between x y parcel ≡ true
    → ((x ≡ parcel.sender) × (y ≡ parcel.receiver)) ⊎ ((y ≡ parcel.sender) × (x ≡ parcel.receiver))
between-is x y parcel e = by (goes x y parcel) refl e
  where
    by : (test : Bool) → goes x y parcel ≡ test → (test || goes y x parcel) ≡ true
        → ((x ≡ parcel.sender) × (y ≡ parcel.receiver)) ⊎ ((y ≡ parcel.sender) × (x ≡ parcel.receiver))
    by true g e = inl (parcel-is x y parcel g)
    by false g e = inr (parcel-is y x parcel e)

pub without-between : (x y a b : ℕ) (owed : List Parcel) → (a ≡ x → b ≡ y → ⊥) → (a ≡ y → b ≡ x → ⊥)
    → between a b (without_those_between x y owed) ≡ between a b owed
without-between x y a b [] n m = refl
without-between x y a b (parcel ∷ owed) n m = by (is_between x y parcel) refl (without-between x y a b owed n m)
  where
    by : (test : Bool) → is_between x y parcel ≡ test → between a b (without_those_between x y owed) ≡ between a b owed
        → between a b (if not test then parcel ∷ without_those_between x y owed else without_those_between x y owed)
        ≡ between a b (parcel ∷ owed)
    by false e more = between-cons a b parcel (without_those_between x y owed) owed more
    by true e more =
        more ∙ sym (between-no a b parcel owed (goes-elsewhere a b parcel (λ s u. elim (between-is x y parcel e) [
          | inl one ↦ n (s ∙ sym one.0) (u ∙ sym one.1)
          | inr other ↦ m (s ∙ sym other.0) (u ∙ sym other.1)
        ])))
