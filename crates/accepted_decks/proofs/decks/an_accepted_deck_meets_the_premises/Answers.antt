use Rattle.accepted_decks.proofs.Sites.{IsTold, accepted-of, judgeable-of, laid-out-of, limits-of, startable-of}
use Rattle.accepted_decks.proofs.decks.an_accepted_deck_meets_the_premises.Goals as goal

pub returns : goal.returns
returns c =
    let told : (bytes : _) (deck : _) → _ → IsTold deck.site = λ bytes deck decks. record {
      within = (c.a_deck_keeps_the_limits.ensures bytes deck decks).site;
      short = c.requests_of_a_deck_are_short.ensures bytes deck decks;
      read = λ number spec program there pair.
          c.a_deck_reads_its_programs.ensures bytes deck number spec program decks there pair;
    } in record {
      judgeable = λ bytes deck decks. judgeable-of deck.site (told bytes deck decks);
      startable = λ bytes deck decks. startable-of deck.site (told bytes deck decks);
      laid_out = λ bytes deck decks. laid-out-of deck.site (told bytes deck decks);
      limits = λ bytes deck decks. limits-of deck.site (told bytes deck decks);
      accepted = λ bytes deck decks are. accepted-of deck.site (told bytes deck decks) are;
      can = λ bytes deck stop decks are.
          let is = told bytes deck decks in
          c.an_accepted_site_can_be_played.ensures deck.site deck.lines stop (accepted-of deck.site is are)
          (limits-of deck.site is) (laid-out-of deck.site is)
          (c.a_schedule_asks_for_few_events.ensures.few deck stop (c.a_deck_keeps_the_limits.ensures bytes deck decks));
    }
