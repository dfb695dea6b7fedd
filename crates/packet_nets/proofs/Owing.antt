-- What a net owes, change by change.
use Rattle.std.proofs.Common.{◌≡◌, inl, inr, ℕ, Bool, true, false, List, [], ◌∷◌, ◌++◌, Some, slice_get, slice_set, ap}
use Rattle.std.proofs.Common.{sym, subst, ◌∙◌}
use Rattle.std.specs.Option.{option_to_list}
use Rattle.std.proofs.lemmas.List.{append-nil, append_assoc}
use Rattle.gd_words.specs.Members.{IsAmong}
use Rattle.gd_words.proofs.Among.{among-either}
use Rattle.tal_tree.specs.declared.site.Site.{Site}
use Rattle.channel_laws.specs.Net.{Net, put, stopped_net}
use Rattle.channel_laws.specs.Way.{Way, way_after_push}
use Rattle.channel_laws.proofs.Nets.{put-same}
use Rattle.packet_nets.specs.Owing.{without_those_between}
use Rattle.packet_wires.specs.Parcels.{Parcel}
use Rattle.message_layout.specs.Messages.{NodeMessage, Carrying, Changing, Reporting, Declaring}
use Rattle.message_layout.specs.Layout.{Fits, words_of}
use Rattle.packet_nets.specs.Owing.{carried, between, IsTrueOf, IsPushed, IsOpen, Owes}
use Rattle.packet_nets.proofs.Between.{parcels_by, between-append, carried-append, carried-of, carried-one, by-here}
use Rattle.packet_nets.proofs.Between.{by-elsewhere, without-between}
use Rattle.packet_nets.proofs.Tied.{Place, here, there, place, put-other, stop-running, stop-stopped}

module _ {site : Site} {stopped : List Bool} {reloads : List ℕ} {owed sent : List Parcel} {n : Net}
    (o : Owes site stopped reloads owed sent n) where
  -- a net in which no way and no cut changed owes as much
  pub calm-owes : (next : Net) → ((a b : ℕ) → (next.ways a b).pushes ≡ (n.ways a b).pushes)
      → ((a b : ℕ) → (next.ways a b).out ≡ (n.ways a b).out)
      → ((a b : ℕ) → (next.ends a b).down ≡ (n.ends a b).down) → Owes site stopped reloads owed sent next
  calm-owes next pushes out down = record {
    pushed = λ a b words among. o.pushed a b words (subst (IsAmong words) (pushes a b) among);
    owes = λ a b opened. ap carried (pushes a b) ∙ o.owes a b (was a b opened)
        ∙ ap (λ ms. carried ms ++ between a b owed) (sym (out a b));
  }
    where
      was : (a b : ℕ) → IsOpen stopped next a b → IsOpen stopped n a b
      was a b opened = record {
        sender = opened.sender;
        receiver = opened.receiver;
        runs = opened.runs;
        there = sym (down a b) ∙ opened.there;
        back = sym (down b a) ∙ opened.back;
      }

  true-more : (more : List Parcel) → ((parcel : Parcel) → IsAmong parcel sent → IsAmong parcel more)
      → (x y : ℕ) (told : NodeMessage) → IsTrueOf stopped reloads sent x y told
      → IsTrueOf stopped reloads more x y told
  true-more more up x y (Carrying message) is = up _ is
  true-more more up x y (Changing change) is = up _ is
  true-more more up x y (Reporting node set) is = tt
  true-more more up x y (Declaring processor) is = is

  -- as many are owed when more parcels were sent
  pub more-owes : (more : List Parcel) → ((parcel : Parcel) → IsAmong parcel sent → IsAmong parcel more)
      → Owes site stopped reloads owed more n
  more-owes more up = record {
    pushed = λ a b words among. let one = o.pushed a b words among in
        record {
          message = one.message;
          is = one.is;
          fits = one.fits;
          right = true-more more up a b one.message one.right;
        };
    owes = o.owes;
  }

  -- one more push
  pub push-owes : (x y : ℕ) (told : NodeMessage) → Fits site told → IsTrueOf stopped reloads sent x y told
      → (next : Net)
      → next.ways ≡ put x y (way_after_push (words_of told) (n.ways x y)) n.ways
      → ((a b : ℕ) → (next.ends a b).down ≡ (n.ends a b).down)
      → Owes site stopped reloads (owed ++ parcels_by x y told) sent next
  push-owes x y told fits right next ways down = record {
    pushed = λ a b words among. new a b words
        (subst (IsAmong words) (ap (λ (f : ℕ → ℕ → Way). (f a b).pushes) ways) among);
    owes = λ a b opened.
        ap (λ (f : ℕ → ℕ → Way). carried (f a b).pushes) ways ∙ owes a b (was a b opened)
        ∙ ap (λ (f : ℕ → ℕ → Way). carried (f a b).out ++ between a b (owed ++ parcels_by x y told)) (sym ways);
  }
    where
      was : (a b : ℕ) → IsOpen stopped next a b → IsOpen stopped n a b
      was a b opened = record {
        sender = opened.sender;
        receiver = opened.receiver;
        runs = opened.runs;
        there = sym (down a b) ∙ opened.there;
        back = sym (down b a) ∙ opened.back;
      }

      new : (a b : ℕ) (words : _) → IsAmong words
          (put x y (way_after_push (words_of told) (n.ways x y)) n.ways a b).pushes
          → IsPushed site stopped reloads sent a b words
      new a b words = by (place x y a b)
        where
          one : IsAmong words ((n.ways x y).pushes ++ words_of told ∷ []) → IsPushed site stopped reloads sent x y words
          one among = elim (among-either words (n.ways x y).pushes (words_of told ∷ []) among) [
            | inl before ↦ o.pushed x y words before
            | inr now ↦ elim now [
              | inl same ↦ record { message = told; is = same; fits = fits; right = right }
              | inr
                  none ↦ absurd none
            ]
          ]

          by : Place x y a b → IsAmong words (put x y (way_after_push (words_of told) (n.ways x y)) n.ways a b).pushes
              → IsPushed site stopped reloads sent a b words
          by (here s u) among =
              subst (λ c. IsPushed site stopped reloads sent c b words) (sym s)
              (subst (λ c. IsPushed site stopped reloads sent x c words) (sym u)
              (one (subst (λ (w : Way). IsAmong words w.pushes)
              (put-same x y (way_after_push (words_of told) (n.ways x y)) n.ways)
              (subst (λ c. IsAmong words (put x y (way_after_push (words_of told) (n.ways x y)) n.ways x c).pushes) u
              (subst (λ c. IsAmong words (put x y (way_after_push (words_of told) (n.ways x y)) n.ways c b).pushes) s
              among)))))
          by (there m) among = o.pushed a b words
              (subst (λ (w : Way). IsAmong words w.pushes)
              (put-other x y (way_after_push (words_of told) (n.ways x y)) n.ways a b m) among)

      Owed : (a b : ℕ) → Way → Type 0
      Owed a b w = carried w.pushes ≡ carried w.out ++ between a b (owed ++ parcels_by x y told)

      owes : (a b : ℕ) → IsOpen stopped n a b
          → Owed a b (put x y (way_after_push (words_of told) (n.ways x y)) n.ways a b)
      owes a b opened = by (place x y a b)
        where
          by : Place x y a b → Owed a b (put x y (way_after_push (words_of told) (n.ways x y)) n.ways a b)
          by (there m) =
              subst (Owed a b) (sym (put-other x y (way_after_push (words_of told) (n.ways x y)) n.ways a b m))
              (o.owes a b opened ∙ ap (λ ms. carried (n.ways a b).out ++ ms)
              (sym (between-append a b owed (parcels_by x y told)
              ∙ ap (λ ms. between a b owed ++ ms) (by-elsewhere x y told a b m) ∙ append-nil (between a b owed))))
          by (here s u) =
              subst (λ c. Owed c b (put x y (way_after_push (words_of told) (n.ways x y)) n.ways c b)) (sym s)
              (subst (λ c. Owed x c (put x y (way_after_push (words_of told) (n.ways x y)) n.ways x c)) (sym u)
              (subst (Owed x y) (sym (put-same x y (way_after_push (words_of told) (n.ways x y)) n.ways))
              (one (subst (λ c. IsOpen stopped n x c) u (subst (λ c. IsOpen stopped n c b) s opened)))))
            where
              last : carried (words_of told ∷ []) ≡ between x y (parcels_by x y told)
              last = carried-one (words_of told) ∙ ap option_to_list (carried-of told fits.within)
                  ∙ sym (by-here x y told)

              one : IsOpen stopped n x y → Owed x y (way_after_push (words_of told) (n.ways x y))
              one opened =
                  carried-append (n.ways x y).pushes (words_of told ∷ [])
                  ∙ ap (λ ms. ms ++ carried (words_of told ∷ [])) (o.owes x y opened)
                  ∙ append_assoc (carried (n.ways x y).out) (between x y owed) (carried (words_of told ∷ []))
                  ∙ ap (λ ms. carried (n.ways x y).out ++ ms)
                  (ap (λ ms. between x y owed ++ ms) last ∙ sym (between-append x y owed (parcels_by x y told)))

  -- a parcel may be owed on a closed channel without being pushed
  pub closed-owes : (x y : ℕ) (told : NodeMessage) → (IsOpen stopped n x y → ⊥)
      → Owes site stopped reloads (owed ++ parcels_by x y told) sent n
  closed-owes x y told closed = record {
    pushed = o.pushed;
    owes = λ a b opened. o.owes a b opened ∙ ap (λ ms. carried (n.ways a b).out ++ ms)
        (sym (between-append a b owed (parcels_by x y told)
        ∙ ap (λ ms. between a b owed ++ ms) (by-elsewhere x y told a b (other a b opened))
        ∙ append-nil (between a b owed)));
  }
    where
      other : (a b : ℕ) → IsOpen stopped n a b → a ≡ x → b ≡ y → ⊥
      other a b opened s u = closed (subst (λ c. IsOpen stopped n x c) u (subst (λ c. IsOpen stopped n c b) s opened))

  -- parcels between two nodes are struck off, if both channels between them are closed
  pub without-owes : (x y : ℕ) (next : Net) → next.ways ≡ n.ways
      → ((a b : ℕ) → IsOpen stopped next a b → IsOpen stopped n a b) → (IsOpen stopped next x y → ⊥)
      → (IsOpen stopped next y x → ⊥)
      → Owes site stopped reloads (without_those_between x y owed) sent next
  without-owes x y next ways was one other = record {
    pushed = λ a b words among. o.pushed a b words
        (subst (IsAmong words) (ap (λ (f : ℕ → ℕ → Way). (f a b).pushes) ways) among);
    owes = λ a b opened.
        ap (λ (f : ℕ → ℕ → Way). carried (f a b).pushes) ways ∙ o.owes a b (was a b opened)
        ∙ ap (λ ms. carried (n.ways a b).out ++ ms)
        (sym (without-between x y a b owed (not_one a b opened) (not_other a b opened)))
        ∙ ap (λ (f : ℕ → ℕ → Way). carried (f a b).out ++ between a b (without_those_between x y owed)) (sym ways);
  }
    where
      not_one : (a b : ℕ) → IsOpen stopped next a b → a ≡ x → b ≡ y → ⊥
      not_one a b opened s u =
          one (subst (λ c. IsOpen stopped next x c) u (subst (λ c. IsOpen stopped next c b) s opened))

      not_other : (a b : ℕ) → IsOpen stopped next a b → a ≡ y → b ≡ x → ⊥
      not_other a b opened s u =
          other (subst (λ c. IsOpen stopped next y c) u (subst (λ c. IsOpen stopped next c b) s opened))

  -- a stop of a processor that runs
  pub stop-owes : (processor : ℕ) → slice_get stopped processor ≡ Some false
      → Owes site (slice_set stopped processor true) reloads owed sent (stopped_net processor n)
  stop-owes processor runs = record {
    pushed = λ a b words among. let one = o.pushed a b words among in
        record { message = one.message; is = one.is; fits = one.fits; right = later a b one.message one.right };
    owes = λ a b opened. o.owes a b (record {
      sender = opened.sender;
      receiver = opened.receiver;
      runs = stop-running stopped processor runs a opened.runs;
      there = opened.there;
      back = opened.back;
    });
  }
    where
      later : (a b : ℕ) (told : NodeMessage) → IsTrueOf stopped reloads sent a b told
          → IsTrueOf (slice_set stopped processor true) reloads sent a b told
      later a b (Carrying message) is = is
      later a b (Changing change) is = is
      later a b (Reporting node set) is = tt
      later a b (Declaring other) (inl is) = inl (stop-stopped stopped processor runs other is)
      later a b (Declaring other) (inr loaded) = inr loaded
