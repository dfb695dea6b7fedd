-- Parcels stand for their letters, as the world goes on.
use Rattle.std.proofs.Common.{◌≡◌, inl, inr, ℕ, ◌==◌, ◌&&◌, ◌||◌, not, Bool, true, false, if◌then◌else◌, List, []}
use Rattle.std.proofs.Common.{◌∷◌, ◌++◌, Option, Some, None, refl, sym, ap, ap₂, subst, ◌∙◌}
use Rattle.gd_words.specs.Members.{IsAmong}
use Rattle.gd_words.proofs.Among.{among-either, among-left, among-right}
use Rattle.tal_tree.specs.declared.site.Site.{Site}
use Rattle.change_layout.specs.Changing.{change_of}
use Rattle.checkpoint_image.specs.declared.message.ImageMessage.{ImageMessage}
use Rattle.world_semantics.specs.Messages.{Message, Asking, Replying, Checkpointing, Taking, Cause, Sending}
use Rattle.world_semantics.specs.Rules.{Change}
use Rattle.world_semantics.specs.World.{World}
use Rattle.world_semantics.proofs.Members.{among-filter, among-map}
use Rattle.computed_changes.specs.Changed.{checkpoint_before}
use Rattle.computed_changes.specs.Laws.{IsSent}
use Rattle.letters.proofs.Owed.{filter-among}
use Rattle.letters.specs.Posts as posts
use Rattle.letters.specs.Routes.{Letter}
use Rattle.letters.specs.Routes as routes
use Rattle.letters.specs.Routes.{letters_of}
use Rattle.message_wires_laws.specs.letter_laws.proofs.Again.{IsAgain, by_copy, by_keeping, by_terminal}
use Rattle.message_wires_laws.specs.letter_laws.proofs.Given.{letter-from}
use Rattle.message_wires_laws.specs.letter_laws.proofs.Sent.{sent-stays}
use Rattle.letters_layout.specs.message_layout.specs.Messages.{NodeMessage, Carrying, Changing}
use Rattle.packet_nets.specs.packet_wires.specs.Parcels.{Parcel, form_after, form_of, parcel_of, parcels_of}
use Rattle.packet_nets.specs.Owing as net
use Rattle.packet_nets.specs.Owing.{IsContent}
use Rattle.checkpoint_chains.proofs.Newest.{IsNewestIfOne}
use Rattle.packets_laws.specs.Carried.{AllStandFor, IsFormOf, StandsFor, WereSent}

-- what was sent is so still
abbrev pub Stays : World → World → Type 0
Stays w next = (message : Message) → IsSent w message → IsSent next message

pub change-stays : {site : Site} (w next : World) (cause : Cause) (sendings : List Sending)
    → Change site w cause sendings next → Stays w next
change-stays w next cause sendings change message sent = sent-stays w next cause sendings change message sent

-- The world goes on

module _ (w next : World) (stays : Stays w next) where
  form-stays : (message : Message) (content : NodeMessage) → IsFormOf w message content → IsFormOf next message content
  form-stays message content (inl same) = inl same
  form-stays message content (inr (before, one, is, goes_as, sent, next_to)) =
      inr (before, one, is, goes_as, stays (Checkpointing before) sent, next_to)

  pub stands-still : (parcel : Parcel) (letter : Letter) → StandsFor w parcel letter → StandsFor next parcel letter
  stands-still parcel letter st = record {
    sender = st.sender;
    receiver = st.receiver;
    form = form-stays letter.message parcel.content st.form;
  }

  pub all-stand-still : (parcels : List Parcel) (letters : List Letter) → AllStandFor w parcels letters
      → AllStandFor next parcels letters
  all-stand-still [] [] all = tt
  all-stand-still [] (letter ∷ letters) all = absurd all
  all-stand-still (parcel ∷ parcels) [] all = absurd all
  all-stand-still (parcel ∷ parcels) (letter ∷ letters) all =
      (stands-still parcel letter all.0, all-stand-still parcels letters all.1)

  pub were-still : (parcels : List Parcel) (letters : List Letter) → WereSent w parcels letters
      → WereSent next parcels letters
  were-still parcels letters were parcel among =
      let one = were parcel among in (one.0, one.1, stands-still parcel one.0 one.2)

-- Lists of them

module _ (w : World) where
  pub stand-append : (parcels more : List Parcel) (letters others : List Letter) → AllStandFor w parcels letters
      → AllStandFor w more others → AllStandFor w (parcels ++ more) (letters ++ others)
  stand-append [] more [] others all rest = rest
  stand-append [] more (letter ∷ letters) others all rest = absurd all
  stand-append (parcel ∷ parcels) more [] others all rest = absurd all
  stand-append (parcel ∷ parcels) more (letter ∷ letters) others all rest =
      (all.0, stand-append parcels more letters others all.1 rest)

  -- where a parcel is taken, so may its letter be
  pub record TakesLetter (parcel : Parcel) (rest : List Parcel) (letters : List Letter) : Type 0 where
    pub letter : Letter
    pub left : List Letter
    pub stands : StandsFor w parcel letter
    pub taken : posts.IsTaken letter letters left
    pub all : AllStandFor w rest left

  pub takes-letter : (parcel : Parcel) (parcels rest : List Parcel) (letters : List Letter)
      → AllStandFor w parcels letters → net.IsTaken parcel parcels rest → TakesLetter parcel rest letters
  takes-letter parcel parcels rest [] all net.takes_first = absurd all
  takes-letter parcel parcels rest (letter ∷ letters) all net.takes_first =
      record { letter = letter; left = letters; stands = all.0; taken = posts.takes_first; all = all.1 }
  takes-letter parcel parcels rest [] all (net.takes_later later) = absurd all
  takes-letter parcel parcels rest (letter ∷ letters) all (net.takes_later later) =
      let one = takes-letter parcel _ _ letters all.1 later in record {
        letter = one.letter;
        left = letter ∷ one.left;
        stands = one.stands;
        taken = posts.takes_later one.taken;
        all = (all.0, one.all);
      }

  -- each letter goes in a parcel
  pub letter-has : (parcels : List Parcel) (letters : List Letter) → AllStandFor w parcels letters → (letter : Letter)
      → IsAmong letter letters → (parcel : Parcel) × IsAmong parcel parcels × StandsFor w parcel letter
  letter-has [] [] all letter among = absurd among
  letter-has [] (one ∷ letters) all letter among = absurd all
  letter-has (parcel ∷ parcels) [] all letter among = absurd all
  letter-has (parcel ∷ parcels) (one ∷ letters) all letter (inl same) =
      (parcel, inl refl, subst (StandsFor w parcel) (sym same) all.0)
  letter-has (parcel ∷ parcels) (one ∷ letters) all letter (inr among) =
      let has = letter-has parcels letters all.1 letter among in (has.0, inr has.1, has.2)

  same-between : (x y : ℕ) (parcel : Parcel) (letter : Letter) → StandsFor w parcel letter
      → net.is_between x y parcel ≡ routes.is_between x y letter
  same-between x y parcel letter st =
      ap₂ (λ (s r : ℕ). (s == x && r == y) || (s == y && r == x)) st.sender st.receiver

  -- parcels between two nodes are struck off as letters are
  pub stand-without : (x y : ℕ) (parcels : List Parcel) (letters : List Letter) → AllStandFor w parcels letters
      → AllStandFor w (net.without_those_between x y parcels) (posts.without_those_between x y letters)
  stand-without x y [] [] all = tt
  stand-without x y [] (letter ∷ letters) all = absurd all
  stand-without x y (parcel ∷ parcels) [] all = absurd all
  stand-without x y (parcel ∷ parcels) (letter ∷ letters) all =
      subst (λ (b : Bool). AllStandFor w
      (if not b then parcel ∷ net.without_those_between x y parcels else net.without_those_between x y parcels)
      (posts.without_those_between x y (letter ∷ letters))) (sym (same-between x y parcel letter all.0))
      (by (routes.is_between x y letter) (stand-without x y parcels letters all.1))
    where
      by : (b : Bool) → AllStandFor w (net.without_those_between x y parcels) (posts.without_those_between x y letters)
          → AllStandFor w
          (if not b then parcel ∷ net.without_those_between x y parcels else net.without_those_between x y parcels)
          (if not b then letter ∷ posts.without_those_between x y letters else posts.without_those_between x y letters)
      by true rest = rest
      by false rest = (all.0, rest)

  -- and so are those from a node and to it

  same-of : (x : ℕ) (parcel : Parcel) (letter : Letter) → StandsFor w parcel letter
      → net.is_from_or_to x parcel ≡ posts.is_from_or_to x letter
  same-of x parcel letter st = ap₂ (λ (s r : ℕ). s == x || r == x) st.sender st.receiver

  pub stand-without-of : (x : ℕ) (parcels : List Parcel) (letters : List Letter) → AllStandFor w parcels letters
      → AllStandFor w (net.without_those_of x parcels) (posts.without_those_of x letters)
  stand-without-of x [] [] all = tt
  stand-without-of x [] (letter ∷ letters) all = absurd all
  stand-without-of x (parcel ∷ parcels) [] all = absurd all
  stand-without-of x (parcel ∷ parcels) (letter ∷ letters) all =
      subst (λ (b : Bool). AllStandFor w
      (if not b then parcel ∷ net.without_those_of x parcels else net.without_those_of x parcels)
      (posts.without_those_of x (letter ∷ letters))) (sym (same-of x parcel letter all.0))
      (by (posts.is_from_or_to x letter) (stand-without-of x parcels letters all.1))
    where
      by : (b : Bool) → AllStandFor w (net.without_those_of x parcels) (posts.without_those_of x letters)
          → AllStandFor w
          (if not b then parcel ∷ net.without_those_of x parcels else net.without_those_of x parcels)
          (if not b then letter ∷ posts.without_those_of x letters else posts.without_those_of x letters)
      by true rest = rest
      by false rest = (all.0, rest)

  pub were-without-of : (x : ℕ) (parcels : List Parcel) (letters : List Letter) → WereSent w parcels letters
      → WereSent w (net.without_those_of x parcels) (posts.without_those_of x letters)
  were-without-of x parcels letters were parcel among =
      let kept = among-filter parcel (λ one. not (net.is_from_or_to x one)) parcels among in
      let one = were parcel kept.0 in (
        one.0,
        filter-among one.0 (λ letter. not (posts.is_from_or_to x letter)) letters one.1
            (ap not (sym (same-of x parcel one.0 one.2)) ∙ kept.1),
        one.2,
      )

  -- New parcels

  pub new-stand : (letters : List Letter)
      → ((letter : Letter) → IsAmong letter letters → IsFormOf w letter.message (form_of w letter.message))
      → AllStandFor w (parcels_of w letters) letters
  new-stand [] forms = tt
  new-stand (letter ∷ letters) forms = (
    record { sender = refl; receiver = refl; form = forms letter (inl refl) },
    new-stand letters (λ one among. forms one (inr among)),
  )

  pub new-were : (letters : List Letter) (posted : List Parcel) (sent : List Letter)
      → ((letter : Letter) → IsAmong letter letters → IsFormOf w letter.message (form_of w letter.message))
      → WereSent w posted sent → WereSent w (parcels_of w letters ++ posted) (letters ++ sent)
  new-were letters posted sent forms were parcel among =
      elim (among-either parcel (parcels_of w letters) posted among) [
        | inl new ↦ (let from = among-map (parcel_of w) letters parcel new in (
          from.item,
          among-left from.item letters sent from.among,
          subst (λ (p : Parcel). StandsFor w p from.item) (sym from.same)
              (record { sender = refl; receiver = refl; form = forms from.item from.among }),
        ))
        | inr old ↦ (let one = were parcel old in (one.0, among-right one.0 letters sent one.1, one.2))
      ]

  -- whatever form a letter's message takes, it is one of a letter
  pub form-own : (message : Message) → IsContent (form_of w message)
  form-own (Asking request) = refl
  form-own (Replying reply) = refl
  form-own (Taking taken) = refl
  form-own (Checkpointing message) = by (checkpoint_before w message.process)
    where
      first : (before : ImageMessage) (b : Bool)
          → IsContent (if b then Carrying (Checkpointing message) else Changing (change_of before message))
      first before true = refl
      first before false = refl

      by : (before : Option ImageMessage) → IsContent (form_after message before)
      by None = refl
      by (Some before) = first before (message.number == 1)

-- Letters of what a change sends

pub again-new : (site : Site) (w : World) (message : Message) → IsAgain site w message → IsNewestIfOne w message
again-new site w message (by_copy number pair k request there role among is) =
    subst (IsNewestIfOne w) (sym is) (λ one other. absurd cc)
again-new site w message (by_terminal number terminal request there among is) =
    subst (IsNewestIfOne w) (sym is) (λ one other. absurd cc)
again-new site w message (by_keeping number pair k place opener reply there role known among is) =
    subst (IsNewestIfOne w) (sym is) (λ one other. absurd cc)

pub letters-new : (site : Site) (next : World) (sendings : List Sending)
    → ((sending : Sending) → IsAmong sending sendings → IsNewestIfOne next sending.message)
    → (letter : Letter) → IsAmong letter (letters_of site next sendings) → IsNewestIfOne next letter.message
letters-new site next sendings all letter among =
    let from = letter-from site next sendings letter among in
    subst (IsNewestIfOne next) (sym from.message) (all from.sending from.among)
