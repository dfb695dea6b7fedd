-- What is sent at a node: requests and replies among messages.
use Rattle.std.proofs.Common.{◌≡◌, inl, inr, ℕ, List, [], ◌∷◌, map, ap, ◌∙◌}
use Rattle.gd_words.specs.Members.{IsAmong}
use Rattle.gd_words.specs.declared.message.Reply.{Reply}
use Rattle.gd_words.specs.declared.message.Request.{Request}
use Rattle.standing_links.specs.Needs.{Name}
use Rattle.world_semantics.specs.Messages.{Message, Asking, Replying, Checkpointing, Taking, Sending, sent_at}
use Rattle.world_semantics.proofs.Members.{among-map}
use Rattle.link_laws.specs.Effects.{answered_name}

-- the request that a message carries, and the name of the request that its reply answers
abbrev pub asked_in : Message → List Request
asked_in (Asking request) = request ∷ []
asked_in (Replying reply) = []
asked_in (Checkpointing message) = []
asked_in (Taking taken) = []

abbrev pub answered_in : Message → List Name
answered_in (Asking request) = []
answered_in (Replying reply) = answered_name reply ∷ []
answered_in (Checkpointing message) = []
answered_in (Taking taken) = []

-- a message that is sent at a node
pub record IsSentAt (node at : ℕ) (message : Message) (messages : List Message) : Type 0 where
  pub here : at ≡ node
  pub among : IsAmong message messages

abbrev sending_at : ℕ → Message → Sending
sending_at node message = record { node = node; message = message }

pub sent-one : (node at : ℕ) (message : Message) (messages : List Message)
    → IsAmong (record { node = at; message = message }) (sent_at node messages)
    → IsSentAt node at message messages
sent-one node at message [] among = absurd among
sent-one node at message (first ∷ messages) (inl same) = record {
  here = ap (λ (s : Sending). s.node) same;
  among = inl (ap (λ (s : Sending). s.message) same);
}
sent-one node at message (first ∷ messages) (inr among) =
    let later = sent-one node at message messages among in
    record { here = later.here; among = inr later.among }

-- no reply is a request
pub no-request : (request : Request) (replies : List Reply) → IsAmong (Asking request) (map Replying replies) → ⊥
no-request request replies among =
    let from = among-map Replying replies (Asking request) among in
    let none : request ∷ [] ≡ [] = ap asked_in from.same in
    cc

-- one message that carries none
pub not-asked : (request : Request) (message : Message) → asked_in message ≡ []
    → IsAmong (Asking request) (message ∷ []) → ⊥
not-asked request message without (inl same) =
    let none : request ∷ [] ≡ [] = ap asked_in same ∙ without in
    cc
not-asked request message without (inr none) = absurd none

-- one message that answers none
pub not-answered : (reply : Reply) (message : Message) → answered_in message ≡ []
    → IsAmong (Replying reply) (message ∷ []) → ⊥
not-answered reply message without (inl same) =
    let none : answered_name reply ∷ [] ≡ [] = ap answered_in same ∙ without in
    cc
not-answered reply message without (inr none) = absurd none

pub no-answer : (reply : Reply) (requests : List Request) → IsAmong (Replying reply) (map Asking requests) → ⊥
no-answer reply requests among =
    let from = among-map Asking requests (Replying reply) among in
    let none : answered_name reply ∷ [] ≡ [] = ap answered_in from.same in
    cc
