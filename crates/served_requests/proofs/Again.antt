-- What a mark sends again has each request that is awaited at the node and whose route changes, and each kept reply
-- whose opener is found elsewhere.
use Rattle.std.proofs.Common.{◌≡◌, ◌⊎◌, inl, inr, ℕ, zero, suc, ◌+◌, ◌-◌, ◌≤◌, ℤ, true, List, [], ◌∷◌, ◌++◌, length}
use Rattle.std.proofs.Common.{reverse, Some, slice_get, refl, ap, sym, subst, arith}
use Rattle.std.proofs.lemmas.Bool.{eq-eqb}
use Rattle.std.proofs.lemmas.List.{reverse-append, length-reverse}
use Rattle.gd_words.specs.Members.{IsAmong}
use Rattle.gd_words.specs.declared.message.Request.{Request}
use Rattle.gd_words.specs.declared.message.Reply.{Reply}
use Rattle.gd_words.proofs.Among.{among-left, among-right}
use Rattle.tal_tree.specs.declared.site.OpenerSpec.{OpenerSpec}
use Rattle.tal_tree.specs.declared.site.Site.{Site}
use Rattle.tal_tree.specs.declared.site.Who.TheVariants as who
use Rattle.process_semantics.specs.declared.point.Point.TheVariants as point
use Rattle.process_semantics.specs.Process as process
use Rattle.plain_semantics.specs.declared.slot.Opener.{Opener}
use Rattle.plain_semantics.specs.Machine.{next_request}
use Rattle.plain_semantics.specs.Openers.{openers_of, opener_of}
use Rattle.checkpoint_image.specs.declared.receive.ReceiveBlock.{ReceiveBlock}
use Rattle.checkpoint_image.specs.Receive.{holds, answered}
use Rattle.world_semantics.specs.declared.role.Role.TheVariants.{Acting}
use Rattle.world_semantics.specs.declared.which.Which.{Which}
use Rattle.world_semantics.specs.declared.which.Which.TheVariants.{First, Second}
use Rattle.world_semantics.specs.Core.{next_on}
use Rattle.world_semantics.specs.Messages.{Message, Asking, Replying}
use Rattle.world_semantics.specs.World.{Copy, Pair, Terminal, World, terminal_node, copy_of}
use Rattle.world_semantics.proofs.Lists.{some-same}
use Rattle.letters.specs.Again.{is_rerouted, is_moved, rerouted, numbered, kept_for, kept_from, asks_again, tells_again}
use Rattle.letters.specs.Again.{of_copies, of_terminals, terminals_ask, awaited_from, sent_again}
use Rattle.letter_laws.specs.awaited_requests.specs.Served.{reply_of, request_of}
use Rattle.served_requests.proofs.Queues.{filter-in}
use Rattle.served_requests.proofs.Sending.{map-in, sent-in}
use Rattle.served_requests.proofs.Standings.{IsKept, kept-test}

-- Kept replies

get-either : {A : Type 0} (xs : List A) (y x : A) (k : ℕ) → slice_get (xs ++ y ∷ []) k ≡ Some x
    → (slice_get xs k ≡ Some x) ⊎ ((k ≡ length xs) × (y ≡ x))
get-either [] y x zero e = inr (refl, some-same e)
get-either [] y x (suc k) e = absurd (cc)
get-either (z ∷ xs) y x zero e = inl e
get-either (z ∷ xs) y x (suc k) e =
    elim (get-either xs y x k e) [ inl before ↦ inl before | inr last ↦ inr (ap suc last.0, last.1) ]

-- the replies that are kept are numbered up to the last number answered
numbered-in : (number place first last n : ℕ) (kept : List (List ℤ)) (words : List ℤ) → first + length kept ≡ last + 1
    → n ≤ last
    → slice_get (reverse kept) (last - n) ≡ Some words
    → IsAmong (record { process = number; opener = place; number = n; words = words })
    (numbered number place first kept)
numbered-in number place first last n [] words size most e = absurd (cc)
numbered-in number place first last n (one ∷ kept) words size most e =
    elim (get-either (reverse kept) one words (last - n)
    (subst (λ l. slice_get l (last - n) ≡ Some words) (reverse-append (one ∷ []) kept) e)) [
      | inl later ↦ inr (numbered-in number place (first + 1) last n kept words (omega (arith, size)) most later)
      | inr here ↦
          (let count = here.0 in let turned = length-reverse kept in
          let same : n ≡ first = omega (arith, size, most, count, turned) in inl (rw (same, here.1) refl))
    ]

kept-in : (number place n : ℕ) (words : List ℤ) (table : ReceiveBlock) (is : IsKept table place n words)
    → length is.block.kept ≤ answered (holds table place) is.block
    → IsAmong (record { process = number; opener = place; number = n; words = words }) (kept_for number table place)
kept-in number place n words table is few =
    let last : ℕ = answered (holds table place) is.block in
    let test = kept-test last n is.block.kept words is.kept in
    rw is.there (numbered-in number place (last + 1 - length is.block.kept) last n is.block.kept words
    (omega (arith, few)) test.0 test.1)

from-in : (w : World) (node processor number : ℕ) (table : ReceiveBlock) (from : ℕ) (openers : List OpenerSpec) (k : ℕ)
    (opener : OpenerSpec) (reply : Reply)
    → slice_get openers k ≡ Some opener → is_moved w node processor opener.who ≡ true
    → IsAmong reply (kept_for number table (from + k))
    → IsAmong reply (kept_from w node processor number table from openers)
from-in w node processor number table from [] k opener reply there moved among = absurd (cc)
from-in w node processor number table from (first ∷ openers) zero opener reply there moved among =
    let same : from + 0 ≡ from = omega arith in
    let here : is_moved w node processor first.who ≡ true =
    subst (λ o. is_moved w node processor o.who ≡ true) (sym (some-same there)) moved in
    among-left reply _ (kept_from w node processor number table (from + 1) openers)
    (rw here (subst (λ p. IsAmong reply (kept_for number table p)) same among))
from-in w node processor number table from (first ∷ openers) (suc k) opener reply there moved among =
    let same : from + suc k ≡ from + 1 + k = omega arith in
    among-right reply _ (kept_from w node processor number table (from + 1) openers)
    (from-in w node processor number table (from + 1) openers k opener reply there moved
    (subst (λ p. IsAmong reply (kept_for number table p)) same among))

-- Copies and terminals

copies-in : (f : ℕ → Copy → List Message) (from : ℕ) (pairs : List Pair) (at : ℕ) (pair : Pair) (k : Which)
    (message : Message) → slice_get pairs at ≡ Some pair
    → IsAmong message (f (from + at) (copy_of k pair)) → IsAmong message (of_copies f from pairs)
copies-in f from [] at pair k message there among = absurd (cc)
copies-in f from (first ∷ pairs) zero pair k message there among =
    let same : from + 0 ≡ from = omega arith in
    among-left message (f from first.first ++ f from first.second) (of_copies f (from + 1) pairs)
    (by k (subst (λ n. IsAmong message (f n (copy_of k first))) same
    (subst (λ p. IsAmong message (f (from + 0) (copy_of k p))) (sym (some-same there)) among)))
  where
    by : (k : Which) → IsAmong message (f from (copy_of k first))
        → IsAmong message (f from first.first ++ f from first.second)
    by First here = among-left message (f from first.first) (f from first.second) here
    by Second here = among-right message (f from first.first) (f from first.second) here
copies-in f from (first ∷ pairs) (suc at) pair k message there among =
    let same : from + suc at ≡ from + 1 + at = omega arith in
    among-right message (f from first.first ++ f from first.second) (of_copies f (from + 1) pairs)
    (copies-in f (from + 1) pairs at pair k message there
    (subst (λ n. IsAmong message (f n (copy_of k pair))) same among))

terminals-in : (f : ℕ → Terminal → List Message) (from : ℕ) (terminals : List Terminal) (at : ℕ) (terminal : Terminal)
    (message : Message)
    → slice_get terminals at ≡ Some terminal → IsAmong message (f (from + at) terminal)
    → IsAmong message (of_terminals f from terminals)
terminals-in f from [] at terminal message there among = absurd (cc)
terminals-in f from (first ∷ terminals) zero terminal message there among =
    let same : from + 0 ≡ from = omega arith in
    among-left message (f from first) (of_terminals f (from + 1) terminals)
    (subst (λ n. IsAmong message (f n first)) same
    (subst (λ t. IsAmong message (f (from + 0) t)) (sym (some-same there)) among))
terminals-in f from (first ∷ terminals) (suc at) terminal message there among =
    let same : from + suc at ≡ from + 1 + at = omega arith in
    among-right message (f from first) (of_terminals f (from + 1) terminals)
    (terminals-in f (from + 1) terminals at terminal message there
    (subst (λ n. IsAmong message (f n terminal)) same among))

rerouted-in : (w : World) (node processor : ℕ) (request : Request) → is_rerouted w node processor request.process ≡ true
    → IsAmong (Asking request) (rerouted w node processor (request ∷ []))
rerouted-in w node processor request is =
    map-in Asking request _ (filter-in (λ r. is_rerouted w node processor r.process) request (request ∷ []) is
    (inl refl))

module _ (site : Site) (w next : World) (node processor : ℕ) where
  -- a kept reply to an opener that is found elsewhere
  pub reply-again : (opener : Opener) (n : ℕ) (words : List ℤ) (pair : Pair) (k : Which) (spec : OpenerSpec)
      → slice_get next.processes opener.server ≡ Some pair
      → (copy_of k pair).role ≡ Acting → (copy_of k pair).processor ≡ node
      → slice_get (openers_of site opener.server) opener.place ≡ Some spec
      → is_moved w node processor spec.who ≡ true → (is : IsKept (copy_of k pair).core.receive opener.place n words)
      → length is.block.kept ≤ answered (holds (copy_of k pair).core.receive opener.place) is.block
      → IsAmong (record { node = node; message = Replying (reply_of opener n words) })
      (sent_again site w next node processor)
  reply-again opener n words pair k spec there role here placed moved is few =
      let table : ReceiveBlock = (copy_of k pair).core.receive in
      let reply : Reply = reply_of opener n words in
      let at : 0 + opener.server ≡ opener.server = omega arith in
      let place : 0 + opener.place ≡ opener.place = omega arith in
      let kept = from-in w node processor opener.server table 0 (openers_of site opener.server) opener.place spec reply
      placed moved
      (subst (λ p. IsAmong reply (kept_for opener.server table p)) (sym place)
      (kept-in opener.server opener.place n words table is few)) in
      let told : IsAmong (Replying reply) (tells_again site w node processor opener.server (copy_of k pair)) =
      rw (role, eq-eqb (copy_of k pair).processor node here)
      (map-in Replying reply (kept_from w node processor opener.server table 0 (openers_of site opener.server)) kept) in
      sent-in node (Replying reply) _
      (among-right (Replying reply) _ (of_copies (tells_again site w node processor) 0 next.processes)
      (copies-in (tells_again site w node processor) 0 next.processes opener.server pair k (Replying reply) there
      (subst (λ n. IsAmong (Replying reply) (tells_again site w node processor n (copy_of k pair))) (sym at) told)))

  -- the request that a copy awaits
  pub copy-again : (number file n : ℕ) (opener : Opener) (pair : Pair) (k : Which)
      → slice_get next.processes number ≡ Some pair
      → (copy_of k pair).role ≡ Acting
      → (copy_of k pair).processor ≡ node → process.point (copy_of k pair).core.state ≡ point.Await
      → process.asked_file (copy_of k pair).core.state ≡ file
      → next_on (copy_of k pair).core file ≡ n + 1 → opener_of site (who.File number file) ≡ Some opener
      → is_rerouted w node processor opener.server ≡ true
      → IsAmong (record {
        node = node;
        message =
            Asking (request_of opener n (process.asked_words (copy_of k pair).core.state));
      })
      (sent_again site w next node processor)
  copy-again number file n opener pair k there role here awaits on last opens moves =
      let request : Request = request_of opener n (process.asked_words (copy_of k pair).core.state) in
      let at : 0 + number ≡ number = omega arith in
      let same : next_on (copy_of k pair).core file - 1 ≡ n = omega (arith, last) in
      let asked : IsAmong (Asking request) (asks_again site w node processor number (copy_of k pair)) =
      rw (role, eq-eqb (copy_of k pair).processor node here, awaits, on, same, opens)
      (rerouted-in w node processor request moves) in
      sent-in node (Asking request) _
      (among-left (Asking request) _ (of_copies (tells_again site w node processor) 0 next.processes)
      (among-left (Asking request) (of_copies (asks_again site w node processor) 0 next.processes)
      (terminals_ask site w node processor next.terminals)
      (copies-in (asks_again site w node processor) 0 next.processes number pair k (Asking request) there
      (subst (λ n. IsAmong (Asking request) (asks_again site w node processor n (copy_of k pair))) (sym at) asked))))

  -- the request that a terminal awaits
  pub terminal-again : (number : ℕ) (opener : Opener) (terminal : Terminal) (words : List ℤ)
      → slice_get next.terminals number ≡ Some terminal
      → node ≡ terminal_node
      → terminal.entered ≡ terminal.printed + 1 → next_request site number (terminal.entered - 1) ≡ Some words
      → opener_of site (who.Terminal number) ≡ Some opener → is_rerouted w node processor opener.server ≡ true
      → IsAmong (record { node = node; message = Asking (request_of opener terminal.entered words) })
      (sent_again site w next node processor)
  terminal-again number opener terminal words there here odd entered opens moves =
      let request : Request = request_of opener terminal.entered words in
      let at : 0 + number ≡ number = omega arith in
      let asked : IsAmong (Asking request) (rerouted w node processor (awaited_from site number terminal)) =
      rw (eq-eqb terminal.entered (terminal.printed + 1) odd, opens, entered)
      (rerouted-in w node processor request moves) in
      let all : IsAmong (Asking request) (terminals_ask site w node processor next.terminals) =
      rw (eq-eqb node terminal_node here)
      (terminals-in (λ number terminal. rerouted w node processor (awaited_from site number terminal)) 0 next.terminals
      number terminal
      (Asking request) there (subst (λ n. IsAmong (Asking request)
      (rerouted w node processor (awaited_from site n terminal))) (sym at) asked)) in
      sent-in node (Asking request) _
      (among-left (Asking request) _ (of_copies (tells_again site w node processor) 0 next.processes)
      (among-right (Asking request) (of_copies (asks_again site w node processor) 0 next.processes)
      (terminals_ask site w node processor next.terminals) all))
