-- Where a letter comes from: the sending whose message it carries.
use Rattle.std.proofs.Common.{◌≡◌, inl, inr, ℕ, List, [], ◌∷◌, filter_map, Option, Some, None, option_map, refl, ap}
use Rattle.std.proofs.Common.{sym, subst, ◌∙◌}
use Rattle.std.specs.List.{cons_option}
use Rattle.gd_words.specs.Members.{IsAmong}
use Rattle.tal_tree.specs.declared.site.Site.{Site}
use Rattle.world_semantics.specs.Messages.{Message, Sending, sent_at}
use Rattle.world_semantics.specs.World.{World}
use Rattle.world_semantics.proofs.Lists.{some-same}
use Rattle.world_semantics.proofs.Members.{among-map}
use Rattle.awaited_requests.specs.letters.specs.Routes.{Letter, receiver_of, letter_of, letters_of}

-- where a member of what a list gives comes from
record IsGiven {A B : Type 0} (f : A → Option B) (xs : List A) (y : B) : Type 0 where
  pub item : A
  pub among : IsAmong item xs
  pub gives : f item ≡ Some y

among-given : {A B : Type 0} (f : A → Option B) (xs : List A) (y : B) → IsAmong y (filter_map f xs) → IsGiven f xs y
among-given f [] y none = absurd none
among-given {A} {B} f (x ∷ xs) y among = by (among-given f xs y) (f x) refl among
  where
    up : IsGiven f xs y → IsGiven f (x ∷ xs) y
    up given = record { item = given.item; among = inr given.among; gives = given.gives }

    by : (IsAmong y (filter_map f xs) → IsGiven f xs y) → (o : Option B) → f x ≡ o
        → IsAmong y (cons_option o (filter_map f xs)) → IsGiven f (x ∷ xs) y
    by rest None is later = up (rest later)
    by rest (Some z) is (inl same) = record { item = x; among = inl refl; gives = is ∙ ap Some (sym same) }
    by rest (Some z) is (inr later) = up (rest later)

-- the sending whose message a letter carries, from its node to where that finds the message's receiver
pub record IsFromSending (site : Site) (w : World) (sendings : List Sending) (letter : Letter) : Type 0 where
  pub sending : Sending
  pub among : IsAmong sending sendings
  pub sender : letter.sender ≡ sending.node
  pub message : letter.message ≡ sending.message
  pub receiver : receiver_of site w sending.node sending.message ≡ Some letter.receiver

abbrev as_letter : Sending → ℕ → Letter
as_letter sending receiver = record { sender = sending.node; receiver = receiver; message = sending.message }

pub letter-from : (site : Site) (w : World) (sendings : List Sending) (letter : Letter)
    → IsAmong letter (letters_of site w sendings)
    → IsFromSending site w sendings letter
letter-from site w sendings letter among =
    let given = among-given (letter_of site w) sendings letter among in
    by given.item given.among (receiver_of site w given.item.node given.item.message) refl given.gives
  where
    by : (sending : Sending) → IsAmong sending sendings → (o : Option ℕ)
        → receiver_of site w sending.node sending.message ≡ o
        → option_map (λ (receiver : ℕ). as_letter sending receiver) o ≡ Some letter
        → IsFromSending site w sendings letter
    by sending there None is gives = absurd (cc)
    by sending there (Some receiver) is gives =
        let same = some-same gives in
        record {
          sending = sending;
          among = there;
          sender = ap (λ (l : Letter). l.sender) (sym same);
          message = ap (λ (l : Letter). l.message) (sym same);
          receiver = is ∙ ap (λ (l : Letter). Some l.receiver) same;
        }

-- the message of what is sent at a node
pub message-of : (node : ℕ) (messages : List Message) (sending : Sending) → IsAmong sending (sent_at node messages)
    → IsAmong sending.message messages
message-of node messages sending among =
    let from = among-map (λ (message : Message). record { node = node; message = message }) messages sending among in
    subst (λ m. IsAmong m messages) (sym (ap (λ (s : Sending). s.message) from.same)) from.among

-- the one member of a list of one
pub only : {A : Type 0} (x y : A) → IsAmong x (y ∷ []) → x ≡ y
only x y (inl same) = same
only x y (inr none) = absurd none
