-- What a node sends again when it has marked a processor: requests that are awaited there, and kept replies.
use Rattle.std.proofs.Common.{◌≡◌, ◌==◌, inl, inr, ℕ, suc, ◌+◌, Bool, true, false, if◌then◌else◌, List, [], ◌∷◌, ◌++◌}
use Rattle.std.proofs.Common.{Some, slice_get, refl, subst, arith}
use Rattle.gd_words.specs.Members.{IsAmong}
use Rattle.gd_words.specs.declared.message.Reply.{Reply}
use Rattle.gd_words.specs.declared.message.Request.{Request}
use Rattle.gd_words.proofs.Among.{among-either}
use Rattle.tal_tree.specs.declared.site.OpenerSpec.{OpenerSpec}
use Rattle.tal_tree.specs.declared.site.Site.{Site}
use Rattle.plain_semantics.specs.Openers.{openers_of}
use Rattle.world_semantics.specs.checkpoint_image.specs.declared.receive.ReceiveBlock.{ReceiveBlock}
use Rattle.world_semantics.specs.declared.role.Role.{Role}
use Rattle.world_semantics.specs.declared.role.Role.TheVariants.{Acting, Watching, Blank, Gone}
use Rattle.world_semantics.specs.declared.which.Which.{Which}
use Rattle.world_semantics.specs.declared.which.Which.TheVariants.{First, Second}
use Rattle.world_semantics.specs.Messages.{Message, Asking, Replying, Sending}
use Rattle.world_semantics.specs.World.{Copy, Pair, Terminal, World, terminal_node, copy_of}
use Rattle.world_semantics.proofs.Members.{among-filter, among-map}
use Rattle.awaited_requests.specs.letters.specs.Again.{is_rerouted, rerouted, awaited_by, awaited_from, is_moved}
use Rattle.awaited_requests.specs.letters.specs.Again.{kept_for, kept_from}
use Rattle.awaited_requests.specs.letters.specs.Again.{if_acts_on, asks_again, tells_again, of_copies, of_terminals}
use Rattle.awaited_requests.specs.letters.specs.Again.{terminals_ask, sent_again}
use Rattle.letter_laws.proofs.Given.{message-of}

-- a message that is sent again: the request that a copy which acts awaits, or a terminal does; or a reply that such a
-- copy keeps for one of its openers
pub data IsAgain (site : Site) (w : World) (message : Message) : Type 0 where
  by_copy : (number : ℕ) (pair : Pair) (k : Which) (request : Request) → slice_get w.processes number ≡ Some pair
      → (copy_of k pair).role ≡ Acting
      → IsAmong request (awaited_by site number (copy_of k pair).core) → message ≡ Asking request
      → IsAgain site w message
  by_terminal : (number : ℕ) (terminal : Terminal) (request : Request) → slice_get w.terminals number ≡ Some terminal
      → IsAmong request (awaited_from site number terminal) → message ≡ Asking request → IsAgain site w message
  by_keeping : (number : ℕ) (pair : Pair) (k : Which) (place : ℕ) (opener : OpenerSpec) (reply : Reply)
      → slice_get w.processes number ≡ Some pair
      → (copy_of k pair).role ≡ Acting → slice_get (openers_of site number) place ≡ Some opener
      → IsAmong reply (kept_for number (copy_of k pair).core.receive place) → message ≡ Replying reply
      → IsAgain site w message

-- of one copy, or of one terminal
record IsOfCopies (f : ℕ → Copy → List Message) (number : ℕ) (pairs : List Pair) (message : Message) : Type 0 where
  pub at : ℕ
  pub pair : Pair
  pub k : Which
  pub there : slice_get pairs at ≡ Some pair
  pub within : IsAmong message (f (at + number) (copy_of k pair))

of-copies : (f : ℕ → Copy → List Message) (number : ℕ) (pairs : List Pair) (message : Message)
    → IsAmong message (of_copies f number pairs)
    → IsOfCopies f number pairs message
of-copies f number [] message none = absurd none
of-copies f number (pair ∷ pairs) message among =
    elim (among-either message (f number pair.first ++ f number pair.second) (of_copies f (number + 1) pairs) among) [
      | inr later ↦ (let rest = of-copies f (number + 1) pairs message later in
          let same : rest.at + (number + 1) ≡ suc rest.at + number = omega arith in
          record {
            at = suc rest.at;
            pair = rest.pair;
            k = rest.k;
            there = rest.there;
            within = subst (λ n. IsAmong message (f n (copy_of rest.k rest.pair))) same rest.within;
          })
      | inl here ↦ (let same : number ≡ 0 + number = omega arith in
          elim (among-either message (f number pair.first) (f number pair.second) here) [
            | inl one ↦ record {
              at = 0;
              pair = pair;
              k = First;
              there = refl;
              within = subst (λ n. IsAmong message (f n pair.first)) same one;
            }
            | inr two ↦ record {
              at = 0;
              pair = pair;
              k = Second;
              there = refl;
              within = subst (λ n. IsAmong message (f n pair.second)) same two;
            }
          ])
    ]

record IsOfTerminals (f : ℕ → Terminal → List Message) (number : ℕ) (terminals : List Terminal) (message : Message) :
    Type 0 where
  pub at : ℕ
  pub terminal : Terminal
  pub there : slice_get terminals at ≡ Some terminal
  pub within : IsAmong message (f (at + number) terminal)

of-terminals : (f : ℕ → Terminal → List Message) (number : ℕ) (terminals : List Terminal) (message : Message)
    → IsAmong message (of_terminals f number terminals)
    → IsOfTerminals f number terminals message
of-terminals f number [] message none = absurd none
of-terminals f number (terminal ∷ terminals) message among =
    elim (among-either message (f number terminal) (of_terminals f (number + 1) terminals) among) [
      | inl here ↦ (let same : number ≡ 0 + number = omega arith in
          record {
            at = 0;
            terminal = terminal;
            there = refl;
            within = subst (λ n. IsAmong message (f n terminal)) same here;
          })
      | inr later ↦ (let rest = of-terminals f (number + 1) terminals message later in
          let same : rest.at + (number + 1) ≡ suc rest.at + number = omega arith in
          record {
            at = suc rest.at;
            terminal = rest.terminal;
            there = rest.there;
            within = subst (λ n. IsAmong message (f n rest.terminal)) same rest.within;
          })
    ]

-- for one opener
record IsOfOpeners (number : ℕ) (table : ReceiveBlock) (place : ℕ) (openers : List OpenerSpec) (reply : Reply) :
    Type 0 where
  pub at : ℕ
  pub opener : OpenerSpec
  pub there : slice_get openers at ≡ Some opener
  pub within : IsAmong reply (kept_for number table (at + place))

if-among : {A : Type 0} (x : A) (test : Bool) (items : List A) → IsAmong x (if test then items else [])
    → IsAmong x items
if-among x true items among = among
if-among x false items none = absurd none

of-openers : (w : World) (node processor number : ℕ) (table : ReceiveBlock) (place : ℕ) (openers : List OpenerSpec)
    (reply : Reply)
    → IsAmong reply (kept_from w node processor number table place openers)
    → IsOfOpeners number table place openers reply
of-openers w node processor number table place [] reply none = absurd none
of-openers w node processor number table place (opener ∷ openers) reply among =
    elim (among-either reply (if is_moved w node processor opener.who then kept_for number table place else [])
    (kept_from w node processor number table (place + 1) openers) among) [
      | inl here ↦ (let same : place ≡ 0 + place = omega arith in
          record {
            at = 0;
            opener = opener;
            there = refl;
            within = subst (λ n. IsAmong reply (kept_for number table n)) same
                (if-among reply (is_moved w node processor opener.who) (kept_for number table place) here);
          })
      | inr later ↦ (let rest = of-openers w node processor number table (place + 1) openers reply later in
          let same : rest.at + (place + 1) ≡ suc rest.at + place = omega arith in
          record {
            at = suc rest.at;
            opener = rest.opener;
            there = rest.there;
            within = subst (λ n. IsAmong reply (kept_for number table n)) same rest.within;
          })
    ]

-- of a copy that acts
of-acting : {A : Type 0} (x : A) (node : ℕ) (role : Role) (at : ℕ) (items : List A)
    → IsAmong x (if_acts_on node role at items) → (role ≡ Acting) × IsAmong x items
of-acting x node Acting at items among = (refl, if-among x (at == node) items among)
of-acting x node Watching at items none = absurd none
of-acting x node Blank at items none = absurd none
of-acting x node Gone at items none = absurd none

-- which request is asked again
record IsRerouted (requests : List Request) (message : Message) : Type 0 where
  pub request : Request
  pub among : IsAmong request requests
  pub same : message ≡ Asking request

of-rerouted : (w : World) (node processor : ℕ) (requests : List Request) (message : Message)
    → IsAmong message (rerouted w node processor requests)
    → IsRerouted requests message
of-rerouted w node processor requests message among =
    let from = among-map Asking _ message among in
    record {
      request = from.item;
      among = (among-filter from.item
          (λ (request : Request). is_rerouted w node processor request.process) requests from.among).0;
      same = from.same;
    }

-- all that is sent again
pub again-is : (site : Site) (before w : World) (node processor : ℕ) (sending : Sending)
    → IsAmong sending (sent_again site before w node processor)
    → IsAgain site w sending.message
again-is site before w node processor sending among =
    elim (among-either sending.message (asking ++ terminals_ask site before node processor w.terminals) telling
    (message-of node _ sending among)) [
      | inr told ↦ of-told (of-copies (tells_again site before node processor) 0 w.processes sending.message told)
      | inl asked ↦ elim (among-either sending.message asking (terminals_ask site before node processor w.terminals)
          asked) [
            | inl copies ↦ of-asked (of-copies (asks_again site before node processor) 0 w.processes sending.message
                copies)
            | inr terminals ↦ of-terminal
                (of-terminals entered 0 w.terminals sending.message
                (if-among sending.message (node == terminal_node) (of_terminals entered 0 w.terminals) terminals))
          ]
    ]
  where
    asking : List Message
    asking = of_copies (asks_again site before node processor) 0 w.processes

    telling : List Message
    telling = of_copies (tells_again site before node processor) 0 w.processes

    entered : ℕ → Terminal → List Message
    entered number terminal = rerouted before node processor (awaited_from site number terminal)

    of-asked : IsOfCopies (asks_again site before node processor) 0 w.processes sending.message
        → IsAgain site w sending.message
    of-asked of =
        let same : of.at + 0 ≡ of.at = omega arith in
        let here = subst (λ n. IsAmong sending.message
        (asks_again site before node processor n (copy_of of.k of.pair))) same of.within in
        let acts = of-acting sending.message node (copy_of of.k of.pair).role (copy_of of.k of.pair).processor _ here in
        let asked = of-rerouted before node processor (awaited_by site of.at (copy_of of.k of.pair).core)
        sending.message acts.1 in
        by_copy of.at of.pair of.k asked.request of.there acts.0 asked.among asked.same

    of-terminal : IsOfTerminals entered 0 w.terminals sending.message → IsAgain site w sending.message
    of-terminal of =
        let same : of.at + 0 ≡ of.at = omega arith in
        let here = subst (λ n. IsAmong sending.message (entered n of.terminal)) same of.within in
        let asked = of-rerouted before node processor (awaited_from site of.at of.terminal) sending.message here in
        by_terminal of.at of.terminal asked.request of.there asked.among asked.same

    of-told : IsOfCopies (tells_again site before node processor) 0 w.processes sending.message
        → IsAgain site w sending.message
    of-told of =
        let table : ReceiveBlock = (copy_of of.k of.pair).core.receive in
        let same : of.at + 0 ≡ of.at = omega arith in
        let here = subst (λ n. IsAmong sending.message
        (tells_again site before node processor n (copy_of of.k of.pair))) same of.within in
        let acts = of-acting sending.message node (copy_of of.k of.pair).role (copy_of of.k of.pair).processor _ here in
        let from = among-map Replying (kept_from before node processor of.at table 0 (openers_of site of.at))
        sending.message acts.1 in
        let kept = of-openers before node processor of.at table 0 (openers_of site of.at) from.item from.among in
        let first : kept.at + 0 ≡ kept.at = omega arith in
        by_keeping of.at of.pair of.k kept.at kept.opener from.item of.there acts.0 kept.there
        (subst (λ n. IsAmong from.item (kept_for of.at table n)) first kept.within) from.same
