-- How many letters a mark sends at most.
use Rattle.std.proofs.Common.{◌≡◌, ◌≤◌, ℕ, zero, suc, ◌+◌, ◌*◌, ◌-◌, ◌==◌, Bool, true, false, if◌then◌else◌, List, []}
use Rattle.std.proofs.Common.{◌∷◌, ◌++◌, length, Option, Some, None, slice_get, map, drop, refl, ap, arith}
use Rattle.std.proofs.Common.{length-append, option_map, add-one, suc-mul, mul-le-mul_right}
use Rattle.std.specs.List.{cons_option, filter, flat_map}
use Rattle.std.proofs.lemmas.List.{length-map}
use Rattle.gd_words.specs.declared.message.Request.{Request}
use Rattle.tal_tree.specs.declared.site.OpenerSpec.{OpenerSpec}
use Rattle.tal_tree.specs.declared.site.Site.{Site}
use Rattle.tal_tree.specs.declared.site.Who.TheVariants as who
use Rattle.process_semantics.specs.declared.point.Point.{Point}
use Rattle.process_semantics.specs.declared.point.Point.TheVariants as point
use Rattle.process_semantics.specs.Process as process
use Rattle.plain_semantics.specs.declared.slot.Opener.{Opener}
use Rattle.plain_semantics.specs.Machine.{next_request}
use Rattle.plain_semantics.specs.Openers.{openers_of, opener_of}
use Rattle.checkpoint_image.specs.declared.receive.OpenerBlock.{OpenerBlock}
use Rattle.checkpoint_image.specs.declared.receive.ReceiveBlock.{ReceiveBlock}
use Rattle.checkpoint_image.specs.Receive.{all_repeated, answered, holds, reply_sent_again, request_standing}
use Rattle.world_semantics.specs.declared.role.Role.{Role}
use Rattle.world_semantics.specs.declared.role.Role.TheVariants.{Acting, Watching, Blank, Gone}
use Rattle.world_semantics.specs.declared.which.Which.{Which}
use Rattle.world_semantics.specs.declared.which.Which.TheVariants.{First, Second}
use Rattle.world_semantics.specs.Core.{Core}
use Rattle.world_semantics.specs.Messages.{Message, Asking, Replying, Sending, sent_at}
use Rattle.world_semantics.specs.Own.{request_to}
use Rattle.world_semantics.specs.Rules.{taker, takeover_sendings, told_at_down}
use Rattle.world_semantics.specs.World.{Copy, Pair, Terminal, World, terminal_node}
use Rattle.message_wires.specs.letters.specs.Again.{is_rerouted, rerouted, awaited_at, awaited_by, entered_last}
use Rattle.message_wires.specs.letters.specs.Again.{awaited_from, is_moved}
use Rattle.message_wires.specs.letters.specs.Again.{numbered, kept_in as replies_in, kept_for, kept_from, if_acts_on}
use Rattle.message_wires.specs.letters.specs.Again.{asks_again}
use Rattle.message_wires.specs.letters.specs.Again.{tells_again, of_copies, of_terminals, terminals_ask, sent_again}
use Rattle.message_wires.specs.letters.specs.Routes.{receiver_of, letters_of}
use Rattle.number_laws.proofs.Each.{Each}
use Rattle.number_laws.proofs.Within.{PairWithin, PairsWithin, kept_in, filter-few}
use Rattle.number_laws.proofs.Quiet.{repeated-few}

-- letters of sendings
pub letters-few : (site : Site) (w : World) (sendings : List Sending)
    → length (letters_of site w sendings) ≤ length sendings
letters-few site w [] = omega arith
letters-few site w (sending ∷ sendings) =
    by (receiver_of site w sending.node sending.message) (letters-few site w sendings)
  where
    by : (receiver : Option ℕ) → length (letters_of site w sendings) ≤ length sendings
        → length (cons_option (option_map (λ receiver.
        record { sender = sending.node; receiver = receiver; message = sending.message }) receiver)
        (letters_of site w sendings))
        ≤ length (sending ∷ sendings)
    by None rest = omega (arith, rest)
    by (Some receiver) rest = omega (arith, rest)

sent-same : (node : ℕ) (messages : List Message) → length (sent_at node messages) ≡ length messages
sent-same node messages = length-map messages (λ message. record { node = node; message = message })

-- What a takeover tells

repeated-all : (table : ReceiveBlock) (waiting : List Request) → length (all_repeated table waiting) ≤ length waiting
repeated-all table [] = omega arith
repeated-all table (request ∷ waiting) =
    let one = repeated-few request (request_standing table request) in
    let rest = repeated-all table waiting in
    let sum = length-append (reply_sent_again table request) (all_repeated table waiting) in
    omega (arith, one, rest, sum)

told-copy : (n : ℕ) (copy : Copy) → length copy.waiting ≤ n
    → length (sent_at copy.processor (map Replying (all_repeated copy.core.receive copy.waiting))) ≤ n
told-copy n copy few =
    let sent = sent-same copy.processor (map Replying (all_repeated copy.core.receive copy.waiting)) in
    let same = length-map (all_repeated copy.core.receive copy.waiting) Replying in
    let all = repeated-all copy.core.receive copy.waiting in
    omega (arith, sent, same, all, few)

told-few : (n : ℕ) (d : Bool) (pair : Pair) (k : Option Which) → PairWithin n d pair
    → length (takeover_sendings k pair) ≤ n
told-few n d pair None is = omega arith
told-few n d pair (Some First) is = told-copy n pair.first is.0.4
told-few n d pair (Some Second) is = told-copy n pair.second is.1.4

-- Of each process so many

abbrev of_each : ℕ → List Pair → ℕ
of_each most [] = 0
of_each most (pair ∷ pairs) = most + of_each most pairs

each-times : (most : ℕ) (pairs : List Pair) → of_each most pairs ≡ length pairs * most
each-times most [] = omega arith
each-times most (pair ∷ pairs) =
    let rest = each-times most pairs in let one = suc-mul (length pairs) most in omega (arith, rest, one)

each-few : (most : ℕ) (pairs : List Pair) → length pairs ≤ 16 → of_each most pairs ≤ 16 * most
each-few most pairs few =
    let same = each-times most pairs in let times = mul-le-mul_right most few in omega (arith, same, times)

flat-few : (most node processor : ℕ) (pairs : List Pair)
    → Each (λ pair. length (told_at_down node processor pair) ≤ most) pairs
    → length (flat_map (told_at_down node processor) pairs) ≤ of_each most pairs
flat-few most node processor [] each = omega arith
flat-few most node processor (pair ∷ pairs) each =
    let one = each.0 in
    let rest = flat-few most node processor pairs each.1 in
    let sum = length-append (told_at_down node processor pair) (flat_map (told_at_down node processor) pairs) in
    omega (arith, one, rest, sum)

copies-few : (most : ℕ) (f : ℕ → Copy → List Message) (number : ℕ) (pairs : List Pair)
    → Each (λ (pair : Pair). (place : ℕ) → length (f place pair.first) + length (f place pair.second) ≤ most) pairs
    → length (of_copies f number pairs) ≤ of_each most pairs
copies-few most f number [] each = omega arith
copies-few most f number (pair ∷ pairs) each =
    let one = each.0 number in
    let rest = copies-few most f (number + 1) pairs each.1 in
    let both = length-append (f number pair.first) (f number pair.second) in
    let sum = length-append (f number pair.first ++ f number pair.second) (of_copies f (number + 1) pairs) in
    omega (arith, one, rest, both, sum)

-- What is asked and told again

module _ (site : Site) (before : World) (node processor : ℕ) where
  requested : (number : ℕ) (words : List _) (opener : Option Opener) → length (request_to number words opener) ≤ 1
  requested number words None = omega arith
  requested number words (Some opener) = omega arith

  awaited-one : (number : ℕ) (core : Core) (stands : Point) → length (awaited_at site number core stands) ≤ 1
  awaited-one number core point.Await = requested _ _ (opener_of site (who.File number (process.asked_file core.state)))
  awaited-one number core point.Inner = omega arith
  awaited-one number core point.Take = omega arith
  awaited-one number core point.Ask = omega arith
  awaited-one number core point.Answer = omega arith
  awaited-one number core point.AtCheckpoint = omega arith
  awaited-one number core point.Device = omega arith
  awaited-one number core point.Ended = omega arith

  rerouted-few : (requests : List Request) → length (rerouted before node processor requests) ≤ length requests
  rerouted-few requests =
      let same = length-map (filter (λ (request : Request). is_rerouted before node processor request.process)
      requests) Asking in
      let less = filter-few (λ (request : Request). is_rerouted before node processor request.process) requests in
      omega (arith, same, less)

  acts-few : (role : Role) (at : ℕ) (messages : List Message)
      → length (if_acts_on node role at messages) ≤ length messages
  acts-few Acting at messages = by (at == node)
    where
      by : (test : Bool) → length (if test then messages else []) ≤ length messages
      by true = omega arith
      by false = omega arith
  acts-few Watching at messages = omega arith
  acts-few Blank at messages = omega arith
  acts-few Gone at messages = omega arith

  asks-few : (number : ℕ) (copy : Copy) → length (asks_again site before node processor number copy) ≤ 1
  asks-few number copy =
      let acts = acts-few copy.role copy.processor
      (rerouted before node processor (awaited_by site number copy.core)) in
      let less = rerouted-few (awaited_by site number copy.core) in
      let one = awaited-one number copy.core (process.point copy.core.state) in
      omega (arith, acts, less, one)

  entered-one : (number : ℕ) (opener : Option Opener) (words : Option (List _))
      → length (entered_last number opener words) ≤ 1
  entered-one number None None = omega arith
  entered-one number None (Some words) = omega arith
  entered-one number (Some opener) None = omega arith
  entered-one number (Some opener) (Some words) = omega arith

  awaited-from : (number : ℕ) (terminal : Terminal) → length (awaited_from site number terminal) ≤ 1
  awaited-from number terminal = by (terminal.entered == terminal.printed + 1)
    where
      by : (test : Bool)
          → length
          (if test
          then entered_last terminal.entered (opener_of site (who.Terminal number))
          (next_request site number (terminal.entered - 1)) else [])
          ≤ 1
      by true = entered-one terminal.entered (opener_of site (who.Terminal number))
          (next_request site number (terminal.entered - 1))
      by false = omega arith

  terminals-few : (number : ℕ) (all : List Terminal)
      → length (of_terminals (λ number terminal. rerouted before node processor (awaited_from site number terminal))
      number all) ≤ length all
  terminals-few number [] = omega arith
  terminals-few number (terminal ∷ rest) =
      let less = rerouted-few (awaited_from site number terminal) in
      let one = awaited-from number terminal in
      let later = terminals-few (number + 1) rest in
      let sum = length-append (rerouted before node processor (awaited_from site number terminal))
      (of_terminals (λ number terminal. rerouted before node processor (awaited_from site number terminal))
      (number + 1) rest) in
      omega (arith, less, one, later, sum)

  asking-few : (all : List Terminal) → length (terminals_ask site before node processor all) ≤ length all
  asking-few all = by (node == terminal_node)
    where
      by : (test : Bool)
          → length (if test then of_terminals (λ number terminal.
          rerouted before node processor (awaited_from site number terminal)) 0 all else []) ≤ length all
      by true = terminals-few 0 all
      by false = omega arith

  numbered-same : (number place first : ℕ) (kept : List (List _))
      → length (numbered number place first kept) ≡ length kept
  numbered-same number place first [] = refl
  numbered-same number place first (words ∷ rest) =
      let later = numbered-same number place (first + 1) rest in omega (arith, later)

  -- the replies kept for the opener at a place, with those for the openers after it
  kept-one : (number : ℕ) (table : ReceiveBlock) (at : ℕ) (blocks : List OpenerBlock) (place : ℕ)
      → length (replies_in number table at (slice_get blocks place)) + kept_in (drop (suc place) blocks)
      ≤ kept_in (drop place blocks)
  kept-one number table at [] zero = omega arith
  kept-one number table at [] (suc place) = omega arith
  kept-one number table at (block ∷ blocks) zero =
      let same = numbered-same number at (answered (holds table at) block + 1 - length block.kept) block.kept in
      omega (arith, same)
  kept-one number table at (block ∷ blocks) (suc place) = kept-one number table at blocks place

  kept-few : (number : ℕ) (table : ReceiveBlock) (place : ℕ) (openers : List OpenerSpec)
      → length (kept_from before node processor number table place openers) ≤ kept_in (drop place table.openers)
  kept-few number table place [] = omega arith
  kept-few number table place (opener ∷ openers) =
      let one = kept-one number table place table.openers place in
      let rest = kept-few number table (place + 1) openers in
      let after = ap (λ k. kept_in (drop k table.openers)) (add-one place) in
      let moved = by (is_moved before node processor opener.who) in
      let sum = length-append (if is_moved before node processor opener.who then kept_for number table place else [])
      (kept_from before node processor number table (place + 1) openers) in
      omega (arith, one, rest, after, moved, sum)
    where
      by : (test : Bool) → length (if test then kept_for number table place else [])
          ≤ length (kept_for number table place)
      by true = omega arith
      by false = omega arith

  tells-few : (number : ℕ) (copy : Copy) → length (tells_again site before node processor number copy)
      ≤ kept_in copy.core.receive.openers
  tells-few number copy =
      let acts = acts-few copy.role copy.processor
      (map Replying (kept_from before node processor number copy.core.receive 0 (openers_of site number))) in
      let same = length-map (kept_from before node processor number copy.core.receive 0 (openers_of site number))
      Replying in
      let less = kept-few number copy.core.receive 0 (openers_of site number) in
      omega (arith, acts, same, less)

each-there : (P : Pair → Type 0) (pairs : List Pair)
    → ((number : ℕ) (pair : Pair) → slice_get pairs number ≡ Some pair → P pair) → Each P pairs
each-there P [] all = tt
each-there P (pair ∷ pairs) all =
    (all zero pair refl, each-there P pairs (λ number one there. all (suc number) one there))

-- what a mark sends and sends again
pub mark-few : (n : ℕ) (kinds : ℕ → Bool) (site : Site) (before after : World) (node processor : ℕ) → n ≤ 4294967295
    → PairsWithin n kinds before.processes
    → PairsWithin n kinds after.processes → length before.processes ≤ 16 → length after.processes ≤ 16
    → length after.terminals ≤ 16
    → length (flat_map (told_at_down node processor) before.processes ++ sent_again site before after node processor)
    ≤ 206158430208
mark-few n kinds site before after node processor low was is few_before few_after few_terminals =
    let told = flat-few 4294967295 node processor before.processes
    (each-there (λ pair. length (told_at_down node processor pair) ≤ 4294967295) before.processes
    (λ number pair there. let less = told-few n (kinds number) pair (taker node processor pair)
    (was number pair there) in omega (arith, less, low))) in
    let all_told = each-few 4294967295 before.processes few_before in
    let asks = copies-few 2 (asks_again site before node processor) 0 after.processes
    (each-there (λ (pair : Pair). (place : ℕ)
    → length (asks_again site before node processor place pair.first)
    + length (asks_again site before node processor place pair.second) ≤ 2)
    after.processes
    (λ number pair there place.
    let first = asks-few site before node processor place pair.first in
    let second = asks-few site before node processor place pair.second in
    omega (arith, first, second))) in
    let all_asks = each-few 2 after.processes few_after in
    let terminals = asking-few site before node processor after.terminals in
    let tells = copies-few 8589934590 (tells_again site before node processor) 0 after.processes
    (each-there (λ (pair : Pair). (place : ℕ)
    → length (tells_again site before node processor place pair.first)
    + length (tells_again site before node processor place pair.second) ≤ 8589934590)
    after.processes
    (λ number pair there place.
    let first = tells-few site before node processor place pair.first in
    let second = tells-few site before node processor place pair.second in
    let kept_first = (is number pair there).0.0.kept in
    let kept_second = (is number pair there).1.0.kept in
    omega (arith, first, second, kept_first, kept_second, low))) in
    let all_tells = each-few 8589934590 after.processes few_after in
    let sum = length-append (flat_map (told_at_down node processor) before.processes)
    (sent_again site before after node processor) in
    let sent = sent-same node (of_copies (asks_again site before node processor) 0 after.processes
    ++ terminals_ask site before node processor after.terminals
    ++ of_copies (tells_again site before node processor) 0 after.processes) in
    let outer = length-append (of_copies (asks_again site before node processor) 0 after.processes
    ++ terminals_ask site before node processor after.terminals)
    (of_copies (tells_again site before node processor) 0 after.processes) in
    let inner = length-append (of_copies (asks_again site before node processor) 0 after.processes)
    (terminals_ask site before node processor after.terminals) in
    omega (arith, told, all_told, asks, all_asks, terminals, tells, all_tells, sum, sent, outer, inner, few_terminals)
