-- What a packet does that comes in over a channel.
use Rattle.std.proofs.Common.{◌≡◌, inl, ℕ, ℤ, Bool, true, false, nat_le, List, [], ◌∷◌, ◌++◌, Option, Some, None, refl}
use Rattle.std.proofs.Common.{ap, sym, subst, ◌∙◌}
use Rattle.std.specs.Option.{option_to_list}
use Rattle.std.proofs.lemmas.Bool.{leb-true, le-leb}
use Rattle.std.proofs.lemmas.List.{append-nil, append_assoc, append_cancel_left}
use Rattle.gd_words.specs.Members.{IsAmong}
use Rattle.gd_words.proofs.Among.{among-right}
use Rattle.tal_tree.specs.declared.site.Site.{Site}
use Rattle.packet_words.specs.declared.packet.PacketKind.{PacketKind}
use Rattle.packet_words.specs.declared.packet.PacketKind.TheVariants as kind
use Rattle.channel_laws.specs.Net.{Net, IsWhole, ways_by}
use Rattle.channel_laws.specs.Way.{Way, way_after_piece, way_after_acknowledgement}
use Rattle.channel_laws.proofs.Nets.{put-all}
use Rattle.world_semantics.specs.World.{is_running}
use Rattle.packet_wires.specs.Parcels.{Parcel}
use Rattle.message_layout.specs.Messages.{NodeMessage, Carrying, Changing, Reporting, Declaring}
use Rattle.message_layout.specs.Layout.{Fits, words_of}
use Rattle.message_layout.specs.Reading.{understood}
use Rattle.message_layout.proofs.Again.{known-again}
use Rattle.packet_nets.specs.Owing.{content_of, carried_of, carried, between, IsContent, IsTaken, IsTrueOf, IsPushed}
use Rattle.packet_nets.specs.Owing.{IsOpen, Owes}
use Rattle.packet_nets.proofs.Between.{carried-append, carried-of, carried-one, takes}
use Rattle.packet_nets.proofs.Tied.{Place, here, there, place, put-other}

-- a packet from s comes in at r. It completes nothing; or a message that is of no letter; or one that is, whose parcel
-- is owed no longer; or one that is, whose parcel was handed over before
pub data Arrives (site : Site) (stopped : List Bool) (reloads : List ℕ) (owed sent : List Parcel) (next : Net)
    (s r : ℕ) : Option (List ℤ)
    → Type 0 where
  hands_none : Owes site stopped reloads owed sent next → Arrives site stopped reloads owed sent next s r None
  hands_other : {words : List ℤ} → (told : NodeMessage) → understood site words ≡ Some told → Fits site told
      → IsTrueOf stopped reloads sent s r told → content_of told ≡ None
      → Owes site stopped reloads owed sent next → Arrives site stopped reloads owed sent next s r (Some words)
  hands_letter : {words : List ℤ} {rest : List Parcel} → (content : NodeMessage) → IsContent content
      → understood site words ≡ Some content → Fits site content
      → IsAmong (record { sender = s; receiver = r; content = content }) sent
      → IsTaken (record { sender = s; receiver = r; content = content }) owed rest
      → Owes site stopped reloads rest sent next → Arrives site stopped reloads owed sent next s r (Some words)
  hands_again : {words : List ℤ} → (content : NodeMessage) → IsContent content
      → understood site words ≡ Some content → Fits site content
      → IsAmong (record { sender = s; receiver = r; content = content }) sent → Owes site stopped reloads owed sent next
      → Arrives site stopped reloads owed sent next s r (Some words)

-- every channel is open or closed
pub data Opened (stopped : List Bool) (n : Net) (x y : ℕ) : Type 0 where
  is_open : IsOpen stopped n x y → Opened stopped n x y
  is_closed : (IsOpen stopped n x y → ⊥) → Opened stopped n x y

pub opened : (stopped : List Bool) (n : Net) (x y : ℕ) → Opened stopped n x y
opened stopped n x y =
    by (nat_le x 16) (nat_le y 16) (is_running stopped x) (n.ends x y).down (n.ends y x).down refl refl refl refl refl
  where
    by : (a b c d e : Bool) → nat_le x 16 ≡ a → nat_le y 16 ≡ b → is_running stopped x ≡ c → (n.ends x y).down ≡ d
        → (n.ends y x).down ≡ e → Opened stopped n x y
    by true true true false false low few runs up back =
        is_open (record {
          sender = leb-true x 16 low;
          receiver = leb-true y 16 few;
          runs = runs;
          there = up;
          back = back;
        })
    by false b c d e low few runs up back =
        is_closed (λ o. let is : nat_le x 16 ≡ true = le-leb x 16 o.sender in absurd cc)
    by true false c d e low few runs up back =
        is_closed (λ o. let is : nat_le y 16 ≡ true = le-leb y 16 o.receiver in absurd cc)
    by true true false d e low few runs up back = is_closed (λ o. let is = o.runs in absurd cc)
    by true true true true e low few runs up back = is_closed (λ o. let is = o.there in absurd cc)
    by true true true false true low few runs up back = is_closed (λ o. let is = o.back in absurd cc)

-- no packet changes what was pushed
pub ways-pushes : (r s : ℕ) (k : PacketKind) (ways : ℕ → ℕ → Way) (a b : ℕ)
    → (ways_by r s k ways a b).pushes ≡ (ways a b).pushes
ways-pushes r s kind.Alive ways a b = refl
ways-pushes r s (kind.Piece number piece) ways a b =
    put-all (λ a b w. w.pushes ≡ (ways a b).pushes) s r (way_after_piece number piece (ways s r)) ways refl
    (λ a b. refl) a b
ways-pushes r s (kind.Acknowledgement number) ways a b =
    put-all (λ a b w. w.pushes ≡ (ways a b).pushes) r s (way_after_acknowledgement number (ways r s)) ways refl
    (λ a b. refl) a b

-- and it changes the output of one way at most
pub ways-out : (r s : ℕ) (k : PacketKind) (ways : ℕ → ℕ → Way) (a b : ℕ) → (a ≡ s → b ≡ r → ⊥)
    → (ways_by r s k ways a b).out ≡ (ways a b).out
ways-out r s kind.Alive ways a b n = refl
ways-out r s (kind.Piece number piece) ways a b n =
    ap (λ (w : Way). w.out) (put-other s r (way_after_piece number piece (ways s r)) ways a b n)
ways-out r s (kind.Acknowledgement number) ways a b n =
    put-all (λ a b w. w.out ≡ (ways a b).out) r s (way_after_acknowledgement number (ways r s)) ways refl
    (λ a b. refl) a b

module _ {site : Site} {stopped : List Bool} {reloads : List ℕ} {owed sent : List Parcel} {n : Net}
    (o : Owes site stopped reloads owed sent n)
    (next : Net) (whole : IsWhole next) (s r : ℕ)
    (pushes : (a b : ℕ) → (next.ways a b).pushes ≡ (n.ways a b).pushes)
    (out : (a b : ℕ) → (a ≡ s → b ≡ r → ⊥) → (next.ways a b).out ≡ (n.ways a b).out)
    (down : (a b : ℕ) → (next.ends a b).down ≡ (n.ends a b).down) where
  was : (a b : ℕ) → IsOpen stopped next a b → IsOpen stopped n a b
  was a b one = record {
    sender = one.sender;
    receiver = one.receiver;
    runs = one.runs;
    there = sym (down a b)
        ∙ one.there;
    back = sym (down b a) ∙ one.back;
  }

  kept : (a b : ℕ) (words : List ℤ) → IsAmong words (next.ways a b).pushes
      → IsPushed site stopped reloads sent a b words
  kept a b words among = o.pushed a b words (subst (IsAmong words) (pushes a b) among)

  -- the rest is owed, if it is right for this channel, and for each other one as before
  by-rest : (rest : List Parcel) → ((a b : ℕ) → (a ≡ s → b ≡ r → ⊥) → between a b rest ≡ between a b owed)
      → (IsOpen stopped next s r → carried (next.ways s r).pushes ≡ carried (next.ways s r).out ++ between s r rest)
      → Owes site stopped reloads rest sent next
  by-rest rest elsewhere here_too = record {
    pushed = kept;
    owes = λ a b one. by a b one (place s r a b);
  }
    where
      by : (a b : ℕ) → IsOpen stopped next a b → Place s r a b
          → carried (next.ways a b).pushes ≡ carried (next.ways a b).out ++ between a b rest
      by a b one (there m) =
          ap carried (pushes a b) ∙ o.owes a b (was a b one)
          ∙ ap (λ ms. carried ms ++ between a b owed) (sym (out a b m))
          ∙ ap (λ ms. carried (next.ways a b).out ++ ms) (sym (elsewhere a b m))
      by a b one (here e u) =
          subst (λ c. carried (next.ways c b).pushes ≡ carried (next.ways c b).out ++ between c b rest) (sym e)
          (subst (λ c. carried (next.ways s c).pushes ≡ carried (next.ways s c).out ++ between s c rest) (sym u)
          (here_too (subst (λ c. IsOpen stopped next s c) u (subst (λ c. IsOpen stopped next c b) e one))))

  pub arrives : (h : Option (List ℤ)) → (next.ways s r).out ≡ (n.ways s r).out ++ option_to_list h
      → Arrives site stopped reloads owed sent next s r h
  arrives None gained = hands_none (by-rest owed (λ a b m. refl) (λ one.
      ap carried (pushes s r) ∙ o.owes s r (was s r one)
      ∙ ap (λ ms. carried ms ++ between s r owed) (sym (gained ∙ append-nil (n.ways s r).out))))
  arrives (Some words) gained = by pushed.message pushed.is pushed.fits pushed.right
    where
      rest : List (List ℤ)
      rest = (whole.joint s r).receiving.rest

      -- what was pushed: first what came out before, then these words, then the rest
      come : (next.ways s r).pushes ≡ (n.ways s r).out ++ words ∷ rest
      come = (whole.joint s r).receiving.come ∙ ap (λ ms. ms ++ rest) gained
          ∙ append_assoc (n.ways s r).out (words ∷ []) rest

      pushed : IsPushed site stopped reloads sent s r words
      pushed = kept s r words (subst (IsAmong words) (sym come)
          (among-right words (n.ways s r).out (words ∷ rest) (inl refl)))

      -- the first that an open channel owes is what comes out now
      first : IsOpen stopped next s r → carried (words ∷ []) ++ carried rest ≡ between s r owed
      first one = append_cancel_left (carried (n.ways s r).out) _ _
          (ap (λ ms. carried (n.ways s r).out ++ ms) (sym (carried-append (words ∷ []) rest))
          ∙ sym (carried-append (n.ways s r).out (words ∷ rest))
          ∙ ap carried (sym come ∙ pushes s r) ∙ o.owes s r (was s r one))

      all : carried (next.ways s r).pushes ≡ carried (next.ways s r).out ++ carried rest
      all = ap carried (whole.joint s r).receiving.come ∙ carried-append (next.ways s r).out rest

      none : carried (words ∷ []) ≡ [] → IsOpen stopped next s r
          → carried (next.ways s r).pushes ≡ carried (next.ways s r).out ++ between s r owed
      none e one =
          all ∙ ap (λ ms. carried (next.ways s r).out ++ ms) (ap (λ ms. ms ++ carried rest) (sym e) ∙ first one)

      reads : (told : NodeMessage) → words ≡ words_of told → Fits site told → understood site words ≡ Some told
      reads told is fits = ap (understood site) is ∙ known-again site told fits

      carries : (told : NodeMessage) → words ≡ words_of told → Fits site told
          → carried (words ∷ []) ≡ option_to_list (content_of told)
      carries told is fits = carried-one words ∙ ap option_to_list (ap carried_of is ∙ carried-of told fits.within)

      letter : (content : NodeMessage) → IsContent content → words ≡ words_of content → Fits site content
          → IsAmong (record { sender = s; receiver = r; content = content }) sent
          → Opened stopped next s r → Arrives site stopped reloads owed sent next s r (Some words)
      letter content own is fits right (is_closed closed) =
          hands_again content own (reads content is fits) fits right
          (by-rest owed (λ a b m. refl) (λ one. absurd (closed one)))
      letter content own is fits right (is_open one) =
          let took = takes s r content owed (carried rest)
          (sym (sym (ap (λ ms. ms ++ carried rest) (carries content is fits ∙ ap option_to_list own)) ∙ first one)) in
          hands_letter content own (reads content is fits) fits right took.taken
          (by-rest took.rest took.elsewhere (λ again. all
          ∙ ap (λ ms. carried (next.ways s r).out ++ ms) (sym took.here)))

      by : (told : NodeMessage) → words ≡ words_of told → Fits site told → IsTrueOf stopped reloads sent s r told
          → Arrives site stopped reloads owed sent next s r (Some words)
      by (Carrying message) is fits right = letter (Carrying message) refl is fits right (opened stopped next s r)
      by (Changing change) is fits right = letter (Changing change) refl is fits right (opened stopped next s r)
      by (Reporting node set) is fits right =
          hands_other (Reporting node set) (reads (Reporting node set) is fits) fits right refl
          (by-rest owed (λ a b m. refl) (none (carries (Reporting node set) is fits)))
      by (Declaring processor) is fits right =
          hands_other (Declaring processor) (reads (Declaring processor) is fits) fits right refl
          (by-rest owed (λ a b m. refl) (none (carries (Declaring processor) is fits)))
