-- Awaited requests are served: what is so of each of them until its reply is there.
use Rattle.std.specs.Prelude.{◌≡◌, ◌≢◌, ◌⊎◌, ℕ, ℤ, false, List, slice_get, Some, true}
use Rattle.gd_words.specs.Members.{IsAmong}
use Rattle.gd_words.specs.declared.message.Request.{Request}
use Rattle.gd_words.specs.declared.message.Reply.{Reply}
use Rattle.tal_tree.specs.declared.site.Site.{Site}
use Rattle.tal_tree.specs.declared.site.Who.{Who}
use Rattle.world_semantics.specs.plain_semantics.specs.declared.slot.Opener.{Opener}
use Rattle.world_semantics.specs.plain_semantics.specs.Openers.{opener_of}
use Rattle.world_semantics.specs.checkpoint_image.specs.declared.receive.RequestStanding.TheVariants.{Next, Kept}
use Rattle.world_semantics.specs.checkpoint_image.specs.Receive.{standing_at}
use Rattle.world_semantics.specs.declared.role.Role.TheVariants.{Acting}
use Rattle.world_semantics.specs.declared.which.Which.{Which}
use Rattle.world_semantics.specs.Messages.{Asking, Replying}
use Rattle.world_semantics.specs.World.{Copy, Pair, is_running, copy_of, receives}
use Rattle.letters.specs.Posts.{Post}
use Rattle.letters.specs.Routes.{route_of, home_of}
use Rattle.awaited_requests.specs.Awaited.{IsAwaited}

-- a request of an opener of this number waits
abbrev pub WaitsFor : List Request → Opener → ℕ → Type 0
WaitsFor waiting opener n =
    (request : Request) × IsAmong request waiting × (request.process ≡ opener.server) × (request.opener ≡ opener.place)
    × (request.number ≡ n)

abbrev pub reply_of : Opener → ℕ → List ℤ → Reply
reply_of opener n words = record { process = opener.server; opener = opener.place; number = n; words = words }

abbrev pub request_of : Opener → ℕ → List ℤ → Request
request_of opener n words = record { process = opener.server; opener = opener.place; number = n; words = words }

-- a copy at a node has seen to a request that a node awaits: it waits there, where the copy watches or is blank or the
-- request stands next; and where the copy keeps the reply, that is owed to the asker, unless the node finds the opener
-- elsewhere
pub record HasSeen (post : Post) (asker : ℕ) (one : Who) (copy : Copy) (opener : Opener) (n : ℕ) : Type 0 where
  pub watching : receives copy.role ≡ true → WaitsFor copy.waiting opener n
  pub next : copy.role ≡ Acting → standing_at copy.core.receive opener.place n ≡ Next → WaitsFor copy.waiting opener n
  pub kept : copy.role ≡ Acting → (words : List ℤ) → standing_at copy.core.receive opener.place n ≡ Kept words
      → IsAmong (record { sender = copy.processor; receiver = asker; message = Replying (reply_of opener n words) })
      post.owed
      ⊎ (home_of post.world copy.processor one ≢ Some asker)

-- a request that a node awaits is served: the processor to which its route leads has stopped; or the request is owed to
-- it; or the copy there has seen to it
pub data IsServed (site : Site) (post : Post) (asker : ℕ) (one : Who) (n : ℕ) (opener : Opener) (pair : Pair) :
    Type 0 where
  route_stopped : is_running post.world.stopped (route_of post.world.downs asker pair) ≡ false
      → IsServed site post asker one n opener pair
  is_owed : (words : List ℤ)
      → IsAmong (record {
        sender = asker;
        receiver = route_of post.world.downs asker pair;
        message = Asking (request_of opener n words);
      }) post.owed
      → IsServed site post asker one n opener pair
  is_seen : (k : Which) → (copy_of k pair).processor ≡ route_of post.world.downs asker pair
      → HasSeen post asker one (copy_of k pair) opener n
      → IsServed site post asker one n opener pair

-- every awaited request is served
abbrev pub AreServed : Site → Post → Type 0
AreServed site post =
    (asker : ℕ) (one : Who) (n : ℕ) (opener : Opener) (pair : Pair) → opener_of site one ≡ Some opener
    → slice_get post.world.processes opener.server ≡ Some pair → IsAwaited site post.world asker one n
    → IsServed site post asker one n opener pair
