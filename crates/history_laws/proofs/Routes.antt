-- Where letters go and in which form, and what is sent again, are the same in the present of a world.
use Rattle.std.proofs.Common.{◌≡◌, ℕ, ◌+◌, ◌==◌, Bool, true, false, if◌then◌else◌, List, [], ◌∷◌, ◌++◌, map, slice_get}
use Rattle.std.proofs.Common.{Option, Some, None, refl, ap, ap₂, ◌∙◌, option_map, option_and_then, cond, filter}
use Rattle.std.specs.List.{cons_option}
use Rattle.checkpoint_image.specs.gd_words.specs.declared.message.Reply.{Reply}
use Rattle.checkpoint_image.specs.gd_words.specs.declared.message.Request.{Request}
use Rattle.checkpoint_image.specs.tal_tree.specs.declared.site.OpenerSpec.{OpenerSpec}
use Rattle.checkpoint_image.specs.tal_tree.specs.declared.site.Site.{Site}
use Rattle.checkpoint_image.specs.tal_tree.specs.declared.site.Who.{Who}
use Rattle.checkpoint_image.specs.tal_tree.specs.declared.site.Who.TheVariants as who
use Rattle.checkpoint_image.specs.declared.message.ImageMessage.{ImageMessage}
use Rattle.checkpoint_image.specs.declared.receive.ReceiveBlock.{ReceiveBlock}
use Rattle.schedule_loop.specs.world_semantics.specs.plain_semantics.specs.Openers.{openers_of}
use Rattle.schedule_loop.specs.world_semantics.specs.declared.which.Which.{Which}
use Rattle.schedule_loop.specs.world_semantics.specs.declared.which.Which.TheVariants.{First, Second}
use Rattle.schedule_loop.specs.world_semantics.specs.Messages.{Asking, Checkpointing, Message, Replying, Sending}
use Rattle.schedule_loop.specs.world_semantics.specs.Messages.{Taking}
use Rattle.schedule_loop.specs.world_semantics.specs.World.{Copy, Down, Pair, Terminal, World, terminal_node}
use Rattle.packet_runs.specs.packet_wires.specs.computed_changes.specs.Changed.{checkpoint_before, one_before}
use Rattle.packet_runs.specs.packet_wires.specs.computed_changes.specs.Changed.{sent_before}
use Rattle.packet_runs.specs.packet_wires.specs.letters.specs.Again.{asks_again, awaited_by, awaited_from, if_acts_on}
use Rattle.packet_runs.specs.packet_wires.specs.letters.specs.Again.{is_at, is_moved, is_rerouted, kept_for, kept_from}
use Rattle.packet_runs.specs.packet_wires.specs.letters.specs.Again.{of_copies, of_terminals, rerouted, sent_again}
use Rattle.packet_runs.specs.packet_wires.specs.letters.specs.Again.{tells_again, terminals_ask}
use Rattle.packet_runs.specs.packet_wires.specs.letters.specs.Routes.{Letter, end_of, home_of, letter_of, letters_of}
use Rattle.packet_runs.specs.packet_wires.specs.letters.specs.Routes.{other_end, receiver_of, route_of, route_to}
use Rattle.packet_runs.specs.packet_wires.specs.message_layout.specs.Messages.{NodeMessage}
use Rattle.packet_runs.specs.packet_wires.specs.Parcels.{Parcel, form_after, form_of, parcel_of, parcels_of}
use Rattle.history_laws.specs.Present.{present, present_pair, recent}
use Rattle.history_laws.proofs.Presents.{get-present}

-- Letters

routed : (downs : List Down) (node : ℕ) (pair : Pair)
    → route_of downs node (present_pair pair) ≡ route_of downs node pair
routed downs node pair = by pair.led
  where
    by : (led : Which)
        → route_of downs node (present_pair (record pair { led = led }))
        ≡ route_of downs node (record pair { led = led })
    by First = refl
    by Second = refl

route-present : (w : World) (node number : ℕ) → route_to (present w) node number ≡ route_to w node number
route-present w node number =
    ap (λ (found : Option Pair). option_map (λ pair. route_of w.downs node pair) found) (get-present w.processes number)
    ∙ by (slice_get w.processes number)
  where
    by : (found : Option Pair)
        → option_map (λ pair. route_of w.downs node pair) (option_map present_pair found)
        ≡ option_map (λ pair. route_of w.downs node pair) found
    by None = refl
    by (Some pair) = ap (λ (route : ℕ). Some route) (routed w.downs node pair)

end-present : (w : World) (node number : ℕ) → end_of (present w) node number ≡ end_of w node number
end-present w node number =
    ap (λ (found : Option Pair). option_map (λ pair. other_end node pair) found) (get-present w.processes number)
    ∙ by (slice_get w.processes number)
  where
    by : (found : Option Pair)
        → option_map (λ pair. other_end node pair) (option_map present_pair found)
        ≡ option_map (λ pair. other_end node pair) found
    by None = refl
    by (Some pair) = refl

home-present : (w : World) (node : ℕ) (one : Who) → home_of (present w) node one ≡ home_of w node one
home-present w node (who.File number file) = route-present w node number
home-present w node (who.Terminal terminal) = refl

receiver-present : (site : Site) (w : World) (node : ℕ) (message : Message)
    → receiver_of site (present w) node message ≡ receiver_of site w node message
receiver-present site w node (Asking request) = route-present w node request.process
receiver-present site w node (Replying reply) = by (slice_get (openers_of site reply.process) reply.opener)
  where
    by : (opener : Option OpenerSpec)
        → option_and_then (λ opener. home_of (present w) node opener.who) opener
        ≡ option_and_then (λ opener. home_of w node opener.who) opener
    by None = refl
    by (Some opener) = home-present w node opener.who
receiver-present site w node (Checkpointing message) = end-present w node message.process
receiver-present site w node (Taking taken) = end-present w node taken.process

letter-present : (site : Site) (w : World) (sending : Sending)
    → letter_of site (present w) sending ≡ letter_of site w sending
letter-present site w sending =
    ap (λ (receiver : Option ℕ). option_map
    (λ receiver. record { sender = sending.node; receiver = receiver; message = sending.message }) receiver)
    (receiver-present site w sending.node sending.message)

pub letters-present : (site : Site) (w : World) (sendings : List Sending)
    → letters_of site (present w) sendings ≡ letters_of site w sendings
letters-present site w [] = refl
letters-present site w (sending ∷ sendings) =
    ap₂ (λ (one : Option Letter) (rest : List Letter). cons_option one rest) (letter-present site w sending)
    (letters-present site w sendings)

-- Parcels

before-recent : (sent : List ImageMessage) → one_before (recent sent) ≡ one_before sent
before-recent [] = refl
before-recent (last ∷ []) = refl
before-recent (last ∷ before ∷ older) = refl

checkpoint-present : (w : World) (number : ℕ) → checkpoint_before (present w) number ≡ checkpoint_before w number
checkpoint-present w number =
    ap (λ (found : Option Pair). sent_before found) (get-present w.processes number) ∙ by (slice_get w.processes number)
  where
    by : (found : Option Pair) → sent_before (option_map present_pair found) ≡ sent_before found
    by None = refl
    by (Some pair) = before-recent pair.checkpoints

form-present : (w : World) (message : Message) → form_of (present w) message ≡ form_of w message
form-present w (Asking request) = refl
form-present w (Replying reply) = refl
form-present w (Checkpointing message) =
    ap (λ (before : Option ImageMessage). form_after message before) (checkpoint-present w message.process)
form-present w (Taking taken) = refl

parcel-present : (w : World) (letter : Letter) → parcel_of (present w) letter ≡ parcel_of w letter
parcel-present w letter =
    ap (λ (content : NodeMessage). record { sender = letter.sender; receiver = letter.receiver; content = content })
    (form-present w letter.message)

pub parcels-present : (w : World) (letters : List Letter) → parcels_of (present w) letters ≡ parcels_of w letters
parcels-present w [] = refl
parcels-present w (letter ∷ letters) =
    ap₂ (λ (one : Parcel) (rest : List Parcel). one ∷ rest) (parcel-present w letter) (parcels-present w letters)

-- What is sent again

-- two tests that give the same let the same pass
filter-same : {A : Type 0} (one other : A → Bool) → ((item : A) → one item ≡ other item) → (items : List A)
    → filter one items ≡ filter other items
filter-same one other same [] = refl
filter-same {A} one other same (item ∷ items) =
    ap₂ (λ (passes : Bool) (rest : List A). cond passes (item ∷ rest) rest) (same item)
    (filter-same one other same items)

module _ (w : World) (node processor : ℕ) where
  rerouted-at : (number : ℕ) → is_rerouted (present w) node processor number ≡ is_rerouted w node processor number
  rerouted-at number = ap (λ (route : Option ℕ). is_at processor route) (route-present w node number)

  rerouted-present : (requests : List Request)
      → rerouted (present w) node processor requests ≡ rerouted w node processor requests
  rerouted-present requests =
      ap (λ (passed : List Request). map Asking passed)
      (filter-same (λ (request : Request). is_rerouted (present w) node processor request.process)
      (λ (request : Request). is_rerouted w node processor request.process) (λ request. rerouted-at request.process)
      requests)

  moved-present : (one : Who) → is_moved (present w) node processor one ≡ is_moved w node processor one
  moved-present (who.File number file) = rerouted-at number
  moved-present (who.Terminal terminal) = refl

  kept-present : (number : ℕ) (table : ReceiveBlock) (place : ℕ) (openers : List OpenerSpec)
      → kept_from (present w) node processor number table place openers
      ≡ kept_from w node processor number table place openers
  kept-present number table place [] = refl
  kept-present number table place (opener ∷ openers) =
      ap₂ (λ (moved : Bool) (rest : List Reply). (if moved then kept_for number table place else []) ++ rest)
      (moved-present opener.who) (kept-present number table (place + 1) openers)

  asks-present : (site : Site) (number : ℕ) (copy : Copy)
      → asks_again site (present w) node processor number copy ≡ asks_again site w node processor number copy
  asks-present site number copy =
      ap (λ (messages : List Message). if_acts_on node copy.role copy.processor messages)
      (rerouted-present (awaited_by site number copy.core))

  tells-present : (site : Site) (number : ℕ) (copy : Copy)
      → tells_again site (present w) node processor number copy ≡ tells_again site w node processor number copy
  tells-present site number copy =
      ap (λ (replies : List Reply). if_acts_on node copy.role copy.processor (map Replying replies))
      (kept-present number copy.core.receive 0 (openers_of site number))

  terminals-present : (site : Site) (number : ℕ) (terminals : List Terminal)
      → of_terminals (λ number terminal. rerouted (present w) node processor (awaited_from site number terminal)) number
      terminals
      ≡ of_terminals (λ number terminal. rerouted w node processor (awaited_from site number terminal)) number terminals
  terminals-present site number [] = refl
  terminals-present site number (terminal ∷ terminals) =
      ap₂ (λ (one rest : List Message). one ++ rest) (rerouted-present (awaited_from site number terminal))
      (terminals-present site (number + 1) terminals)

  terminal-node-present : (site : Site) (terminals : List Terminal)
      → terminals_ask site (present w) node processor terminals ≡ terminals_ask site w node processor terminals
  terminal-node-present site terminals = by (node == terminal_node)
    where
      by : (here : Bool)
          → (if here
          then of_terminals (λ number terminal. rerouted (present w) node processor (awaited_from site number terminal))
          0 terminals else [])
          ≡ (if here
          then of_terminals (λ number terminal. rerouted w node processor (awaited_from site number terminal)) 0
          terminals else [])
      by true = terminals-present site 0 terminals
      by false = refl

-- of the copies of the present of some processes
copies-present : {A : Type 0} (f g : ℕ → Copy → List A) → ((number : ℕ) (copy : Copy) → f number copy ≡ g number copy)
    → (number : ℕ) (pairs : List Pair) → of_copies f number (map present_pair pairs) ≡ of_copies g number pairs
copies-present f g same number [] = refl
copies-present f g same number (pair ∷ pairs) =
    rw (same number pair.first, same number pair.second, copies-present f g same (number + 1) pairs) refl

pub again-present : (site : Site) (before after : World) (node processor : ℕ)
    → sent_again site (present before) (present after) node processor
    ≡ sent_again site before after node processor
again-present site before after node processor =
    rw (
      copies-present (asks_again site (present before) node processor) (asks_again site before node processor)
          (asks-present before node processor site) 0 after.processes,
      terminal-node-present before node processor site after.terminals,
      copies-present (tells_again site (present before) node processor) (tells_again site before node processor)
          (tells-present before node processor site) 0 after.processes,
    ) refl
