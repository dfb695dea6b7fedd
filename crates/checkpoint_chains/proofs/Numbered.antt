-- In a chain an era and a number name one checkpoint, and what stands next to each other comes of each other.
use Rattle.std.proofs.Common.{◌≡◌, ◌≤◌, ◌<◌, inl, inr, ℕ, ◌+◌, List, [], ◌∷◌, refl, sym, subst, ap, ◌∙◌, arith}
use Rattle.gd_words.specs.Members.{IsAmong}
use Rattle.receive_changes.specs.Later.{ComesTo}
use Rattle.checkpoint_image.specs.declared.message.ImageMessage.{ImageMessage}
use Rattle.checkpoint_image.specs.declared.receive.ReceiveBlock.{ReceiveBlock}
use Rattle.checkpoint_chains.specs.Chains.{FollowsOn, GoesOnFrom, IsChain}

number-same : (one other : ImageMessage) → one ≡ other → one.number ≡ other.number
number-same one other is = ap (λ (m : ImageMessage). m.number) is

era-same : (one other : ImageMessage) → one ≡ other → one.era ≡ other.era
era-same one other is = ap (λ (m : ImageMessage). m.era) is

-- a checkpoint was sent before another: in an earlier era, or in the same one under a smaller number
data IsBefore (message later : ImageMessage) : Type 0 where
  in_earlier : message.era < later.era → IsBefore message later
  in_same : message.era ≡ later.era → message.number < later.number → IsBefore message later

-- none of the era and the number of another was sent before it, nor of the number next to that
not-before : {one other : ImageMessage} → IsBefore one other → one.era ≡ other.era → other.number ≤ one.number → ⊥
not-before (in_earlier less) era count = absurd (omega (arith, less, era))
not-before (in_same same less) era count = absurd (omega (arith, less, count))

module _ (depths : List ℕ) where
  link-before : (newest last : ImageMessage) (older : List ImageMessage) → FollowsOn depths newest (last ∷ older)
      → IsBefore last newest
  link-before newest last older (inl link) =
      let next = link.1 in in_same (sym link.0) (omega (arith, next))
  link-before newest last older (inr link) = in_earlier link.0

  then-before : (message last newest : ImageMessage) → IsBefore message last → IsBefore last newest
      → IsBefore message newest
  then-before message last newest (in_earlier less) (in_earlier more) = in_earlier (omega (arith, less, more))
  then-before message last newest (in_earlier less) (in_same era more) = in_earlier (omega (arith, less, era))
  then-before message last newest (in_same era less) (in_earlier more) = in_earlier (omega (arith, era, more))
  then-before message last newest (in_same era less) (in_same same more) =
      in_same (era ∙ same) (omega (arith, less, more))

  -- the older ones were sent before the newest
  older-before : (newest last : ImageMessage) (older : List ImageMessage) → IsChain depths (newest ∷ last ∷ older)
      → (message : ImageMessage) → IsAmong message (last ∷ older) → IsBefore message newest
  older-before newest last older chain message (inl same) =
      subst (λ (m : ImageMessage). IsBefore m newest) (sym same) (link-before newest last older chain.0)
  older-before newest last [] chain message (inr among) = absurd among
  older-before newest last (before ∷ older) chain message (inr among) =
      then-before message last newest (older-before last before older chain.1 message among)
      (link-before newest last (before ∷ older) chain.0)

  -- each has a number from 1 on
  pub some-number : (sent : List ImageMessage) → IsChain depths sent → (message : ImageMessage)
      → IsAmong message sent → 1 ≤ message.number
  some-number [] chain message among = absurd among
  some-number (newest ∷ []) chain message (inl same) =
      let is = number-same message newest same in
      let one = chain.0 in omega (arith, is, one)
  some-number (newest ∷ before ∷ older) chain message (inl same) = by chain.0
    where
      is : message.number ≡ newest.number
      is = number-same message newest same

      by : FollowsOn depths newest (before ∷ older) → 1 ≤ message.number
      by (inl link) = let next = link.1 in omega (arith, is, next)
      by (inr link) = let one = link.1 in omega (arith, is, one)
  some-number (newest ∷ older) chain message (inr among) = some-number older chain.1 message among

  -- two of one era and number are the same
  pub one-of-number : (sent : List ImageMessage) → IsChain depths sent → (one other : ImageMessage)
      → IsAmong one sent → IsAmong other sent → one.era ≡ other.era → one.number ≡ other.number → one ≡ other
  one-of-number [] chain one other there also era same = absurd there
  one-of-number (newest ∷ older) chain one other (inl is) (inl also) era same = is ∙ sym also
  one-of-number (newest ∷ []) chain one other (inl is) (inr also) era same = absurd also
  one-of-number (newest ∷ []) chain one other (inr there) also era same = absurd there
  one-of-number (newest ∷ before ∷ older) chain one other (inl is) (inr also) era same =
      let this = number-same one newest is in
      absurd (not-before (older-before newest before older chain other also) (sym era ∙ era-same one newest is)
      (omega (arith, this, same)))
  one-of-number (newest ∷ before ∷ older) chain one other (inr there) (inl also) era same =
      let this = number-same other newest also in
      absurd (not-before (older-before newest before older chain one there) (era ∙ era-same other newest also)
      (omega (arith, this, same)))
  one-of-number (newest ∷ before ∷ older) chain one other (inr there) (inr also) era same =
      one-of-number (before ∷ older) chain.1 one other there also era same

  -- the table of each comes of that of the one of the number before in its era
  pub next-comes : (sent : List ImageMessage) → IsChain depths sent → (before message : ImageMessage)
      → IsAmong before sent → IsAmong message sent → message.era ≡ before.era → message.number ≡ before.number + 1
      → ComesTo depths before.image.receive message.image.receive
  next-comes [] chain before message there also era next = absurd there
  next-comes (newest ∷ older) chain before message (inl is) (inl also) era next =
      let this = number-same before newest is in
      let that = number-same message newest also in absurd (omega (arith, this, that, next))
  next-comes (newest ∷ []) chain before message (inr there) also era next = absurd there
  next-comes (newest ∷ []) chain before message (inl is) (inr also) era next = absurd also
  next-comes (newest ∷ last ∷ older) chain before message (inl is) (inr also) era next =
      let this = number-same before newest is in
      absurd (not-before (older-before newest last older chain message also) (era ∙ era-same before newest is)
      (omega (arith, this, next)))
  next-comes (newest ∷ last ∷ older) chain before message (inr there) (inl also) era next = by chain.0
    where
      that : message.number ≡ newest.number
      that = number-same message newest also

      by : FollowsOn depths newest (last ∷ older) → ComesTo depths before.image.receive message.image.receive
      by (inl link) =
          let link_next = link.1 in
          let count : before.number ≡ last.number = omega (arith, that, link_next, next) in
          let eras : before.era ≡ last.era = sym era ∙ era-same message newest also ∙ link.0 in
          let same = one-of-number (last ∷ older) chain.1 before last there (inl refl) eras count in
          subst (λ (m : ImageMessage). ComesTo depths m.image.receive message.image.receive) (sym same)
          (subst (λ (m : ImageMessage). ComesTo depths last.image.receive m.image.receive) (sym also) link.2)
      by (inr link) =
          let one = link.1 in
          let some = some-number (last ∷ older) chain.1 before there in
          absurd (omega (arith, that, one, some, next))
  next-comes (newest ∷ last ∷ older) chain before message (inr there) (inr also) era next =
      next-comes (last ∷ older) chain.1 before message there also era next

  -- the checkpoint of what goes on from the newest one follows on it
  pub link-more : (sent : List ImageMessage) (era number : ℕ) (table : ReceiveBlock) (message : ImageMessage)
      → IsChain depths sent → GoesOnFrom depths sent era number table → message.era ≡ era
      → message.number ≡ number + 1
      → message.image.receive ≡ table → IsChain depths (message ∷ sent)
  link-more [] era number table message chain on same_era next same = (omega (arith, on, next), tt)
  link-more (last ∷ older) era number table message chain (inl on) same_era next same =
      let is = on.1 in (
        inl (
          same_era ∙ on.0,
          omega (arith, is, next),
          subst (λ (t : ReceiveBlock). ComesTo depths last.image.receive t) (sym same) on.2,
        ),
        chain,
      )
  link-more (last ∷ older) era number table message chain (inr on) same_era next same =
      let less = on.0 in
      let none = on.1 in (inr (omega (arith, less, same_era), omega (arith, none, next)), chain)
