-- What is sent is a letter to its receiver, and a reply is sent to where its opener is found.
use Rattle.std.proofs.Common.{◌≡◌, ◌≢◌, ◌⊎◌, inl, inr, ℕ, ℤ, List, [], ◌∷◌, map, Option, Some, None, filter_map, refl}
use Rattle.std.proofs.Common.{ap, ◌∙◌, subst}
use Rattle.std.proofs.lemmas.Bool.Decides.{eqb_tells}
use Rattle.std.specs.List.{cons_option}
use Rattle.gd_words.specs.Members.{IsAmong}
use Rattle.tal_tree.specs.declared.site.Site.{Site}
use Rattle.tal_tree.specs.declared.site.Who.{Who}
use Rattle.plain_semantics.specs.declared.slot.Opener.{Opener}
use Rattle.plain_semantics.specs.Openers.{opener_of}
use Rattle.world_semantics.specs.World.{World}
use Rattle.world_semantics.specs.Messages.{Message, Replying, Sending, sent_at}
use Rattle.world_semantics.proofs.Lists.{some-same}
use Rattle.letter_laws.specs.plain_histories.proofs.Openers.{opener-is}
use Rattle.letters.specs.Posts.{Post}
use Rattle.letters.specs.Routes.{home_of, receiver_of, letter_of, letters_of}
use Rattle.letter_laws.specs.awaited_requests.specs.Served.{reply_of}

pub map-in : {A B : Type 0} (f : A → B) (x : A) (xs : List A) → IsAmong x xs → IsAmong (f x) (map f xs)
map-in f x [] among = among
map-in f x (y ∷ ys) (inl same) = inl (ap f same)
map-in f x (y ∷ ys) (inr later) = inr (map-in f x ys later)

filter_map-in : {A B : Type 0} (f : A → Option B) (x : A) (y : B) (xs : List A) → f x ≡ Some y → IsAmong x xs
    → IsAmong y (filter_map f xs)
filter_map-in f x y [] is among = among
filter_map-in f x y (z ∷ zs) is (inl same) =
    let here : f z ≡ Some y = subst (λ v. f v ≡ Some y) same is in rw here (inl refl)
filter_map-in {B = B} f x y (z ∷ zs) is (inr later) = by (f z) (filter_map-in f x y zs is later)
  where
    by : (first : Option B) → IsAmong y (filter_map f zs) → IsAmong y (cons_option first (filter_map f zs))
    by None rest = rest
    by (Some item) rest = inr rest

pub sent-in : (node : ℕ) (message : Message) (messages : List Message) → IsAmong message messages
    → IsAmong (record { node = node; message = message }) (sent_at node messages)
sent-in node message messages among = map-in (λ m. record { node = node; message = m }) message messages among

-- what a node sends is a letter to its receiver
pub letter-in : (site : Site) (w : World) (node receiver : ℕ) (message : Message) (sendings : List Sending)
    → IsAmong (record { node = node; message = message }) sendings
    → receiver_of site w node message ≡ Some receiver
    → IsAmong (record { sender = node; receiver = receiver; message = message }) (letters_of site w sendings)
letter-in site w node receiver message sendings among to =
    filter_map-in (letter_of site w) (record { node = node; message = message })
    (record { sender = node; receiver = receiver; message = message }) sendings (rw to refl) among

-- a reply goes to where its opener is found
reply-home : (site : Site) (w : World) (node : ℕ) (one : Who) (opener : Opener) (n : ℕ) (words : List ℤ)
    → opener_of site one ≡ Some opener
    → receiver_of site w node (Replying (reply_of opener n words)) ≡ home_of w node one
reply-home site w node one opener n words opens =
    let is = opener-is site one opener opens in rw is.placed (ap (home_of w node) is.same)

pub home-or-not : (asker : ℕ) (home : Option ℕ) → (home ≡ Some asker) ⊎ (home ≢ Some asker)
home-or-not asker None = inr (λ same. cc)
home-or-not asker (Some home) =
    elim (eqb_tells home asker) [ inl same ↦ inl (ap Some same.1) | inr apart ↦ inr (λ same. apart.1 (some-same same)) ]

-- a reply is owed by a node to one that awaits it, unless the node finds the opener elsewhere
abbrev pub IsTold : Post → ℕ → Who → Opener → ℕ → ℕ → List ℤ → Type 0
IsTold post asker one opener n node words =
    IsAmong (record { sender = node; receiver = asker; message = Replying (reply_of opener n words) }) post.owed
    ⊎ (home_of post.world node one ≢ Some asker)

-- a reply that is sent is owed, unless the node finds the opener elsewhere
pub told-now : (site : Site) (w : World) (node asker : ℕ) (one : Who) (opener : Opener) (n : ℕ) (words : List ℤ)
    (sendings : List Sending)
    → opener_of site one ≡ Some opener
    → IsAmong (record { node = node; message = Replying (reply_of opener n words) }) sendings
    → IsAmong (record { sender = node; receiver = asker; message = Replying (reply_of opener n words) })
    (letters_of site w sendings) ⊎ (home_of w node one ≢ Some asker)
told-now site w node asker one opener n words sendings opens among = elim (home-or-not asker (home_of w node one)) [
  | inl home ↦ inl (letter-in site w node asker (Replying (reply_of opener n words)) sendings among
      (reply-home site w node one opener n words opens ∙ home))
  | inr away ↦ inr away
]
