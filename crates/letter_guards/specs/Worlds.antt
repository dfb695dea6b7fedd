-- A small world that the guards name: a bank that awaits a disc's reply, a user of the bank, and a terminal of each of
-- both.
use Rattle.std.specs.Prelude.{ℕ, ℤ, pos, true, false, List, [], ◌∷◌, codes, map, Option, None}
use Rattle.gd_words.specs.declared.message.Request.{Request}
use Rattle.tal_tree.specs.declared.expression.Expr.{Number}
use Rattle.tal_tree.specs.declared.expression.Variable.TheVariants as variable
use Rattle.tal_tree.specs.declared.program.Program.{Program}
use Rattle.tal_tree.specs.declared.program.Shape.TheVariants as shape
use Rattle.tal_tree.specs.declared.program.Target.TheVariants as target
use Rattle.tal_tree.specs.declared.site.Kind.TheVariants as kind
use Rattle.tal_tree.specs.declared.site.ProcessSpec.{ProcessSpec}
use Rattle.tal_tree.specs.declared.site.Site.{Site}
use Rattle.tal_tree.specs.declared.statement.What as what
use Rattle.process_semantics.specs.Process as process
use Rattle.checkpoint_image.specs.declared.receive.ReceiveBlock.{ReceiveBlock}
use Rattle.checkpoint_image.specs.declared.message.ImageMessage.{ImageMessage}
use Rattle.world_semantics.specs.declared.role.Role.TheVariants.{Gone}
use Rattle.world_semantics.specs.declared.which.Which.TheVariants.{Second}
use Rattle.world_semantics.specs.Core.{Core}
use Rattle.world_semantics.specs.Messages.{Message, Asking, Replying}
use Rattle.world_semantics.specs.Passes.{checkpoint_of}
use Rattle.world_semantics.specs.World.{Copy, Pair, World, terminal_node, pair_at_boot}
use Rattle.letters.specs.Posts.{Post}
use Rattle.letters.specs.Routes.{Letter}

-- a program that asks a process of this name one word, once. So many of its replies are kept there
abbrev pub asker_keeping : List ℕ → ℕ → Program
asker_keeping server depth = record {
  items =
      record { name = codes "GOT"; shape = shape.Simple }
      ∷ record { name = codes "FILE"; shape = shape.File 0 }
      ∷ record { name = codes "BUF"; shape = shape.Array (pos 0) (pos 0) }
      ∷ [];
  files = record { item = 1; target = target.Process server; depth = depth } ∷ [];
  procedures =
      record {
        name = codes "ASK";
        gives = false;
        parameters = 0;
        locals = [];
        body =
            record { number = 1; line = 1; what = what.CheckMonitor }
            ∷ record { number = 2; line = 2; what = what.Open 0 }
            ∷ record {
              number = 3;
              line = 3;
              what =
                  what.WriteRead 0 2 (Number (pos 1)) (Number (pos 1)) (variable.Simple 0);
            }
            ∷ [];
      }
      ∷ [];
  main = 0;
}

abbrev pub asker : List ℕ → Program
asker server = asker_keeping server 1

abbrev pub disc : ProcessSpec
disc = record { name = codes "$DATA"; primary = 2; backup = 3; what = kind.Disc 4 false }

abbrev pub bank : ProcessSpec
bank = record { name = codes "$BANK"; primary = 0; backup = 1; what = kind.Pair (asker (codes "$DATA")) }

abbrev pub user : ProcessSpec
user = record { name = codes "$USER"; primary = 2; backup = 3; what = kind.Pair (asker (codes "$BANK")) }

-- the disc and the user in the processors 2 and 3, the bank in 0 and 1, and a terminal each for the disc and the bank
abbrev pub site : Site
site = record {
  processors = 4;
  processes = disc ∷ bank ∷ user ∷ [];
  terminals =
      record { name = codes "$T0"; target = 0; requests = (pos 2 ∷ pos 1 ∷ pos 5 ∷ []) ∷ [] }
      ∷ record { name = codes "$T1"; target = 1; requests = (pos 9 ∷ []) ∷ [] }
      ∷ [];
}

-- the same site, where the bank keeps three replies of the user
abbrev pub deeper_site : Site
deeper_site =
    record site { processes = disc ∷ bank ∷ record user { what = kind.Pair (asker_keeping (codes "$BANK") 3) } ∷ [] }

-- the bank where it awaits the reply to its first request. It keeps a reply to the first request of the user, and one
-- to that of its terminal
abbrev pub awaiting : Core
awaiting = record {
  state = process.after_asked (process.after_inner (process.after_inner (process.start_of bank.what)));
  next = 2 ∷ [];
  receive = record {
    openers = record { taken = 1; kept = (pos 7 ∷ []) ∷ [] } ∷ record { taken = 1; kept = (pos 8 ∷ []) ∷ [] } ∷ [];
    in_hand = None;
  };
}

-- the bank's first copy, on this node
abbrev pub first_copy : ℕ → Copy
first_copy node = record (pair_at_boot site 1 bank).first { processor = node; core = awaiting }

abbrev pub bank_at : ℕ → Pair
bank_at node = record (pair_at_boot site 1 bank) { first = first_copy node }

-- a process whose first copy is gone
abbrev pub lost : Pair → Pair
lost pair = record pair { first = record pair.first { role = Gone } }

-- the world in which processor 2 has stopped and no node has marked it, with the bank's first copy on this node. The
-- disc's terminal awaits its reply
abbrev pub world_at : ℕ → World
world_at node = record {
  stopped = false ∷ false ∷ true ∷ false ∷ [];
  reloads = 0 ∷ 0 ∷ 0 ∷ 0 ∷ [];
  downs = [];
  requests = [];
  replies = [];
  processes = lost (pair_at_boot site 0 disc) ∷ bank_at node ∷ lost (pair_at_boot site 2 user) ∷ [];
  terminals = record { entered = 1; printed = 0 } ∷ record { entered = 1; printed = 1 } ∷ [];
  shown = [];
  kept = [];
}

-- with the bank in its own processor
abbrev pub world : World
world = world_at 0

-- the world after this node marked processor 2
abbrev pub marked_by : ℕ → World → World
marked_by node w = record w { downs = record { node = node; down = 2 } ∷ [] }

-- the world in which the disc's second copy leads, and this node has marked these processors
abbrev pub led_by_second : ℕ → List ℕ → World
led_by_second node downs = record world {
  downs = map (λ down. record { node = node; down = down }) downs;
  processes = record (pair_at_boot site 0 disc) { led = Second } ∷ bank_at 0 ∷ [];
}

-- the request that the bank awaits, and that of the disc's terminal
abbrev pub bank_asks : Message
bank_asks = Asking (record { process = 0; opener = 0; number = 1; words = pos 0 ∷ [] })

abbrev pub terminal_asks : Message
terminal_asks = Asking (record { process = 0; opener = 1; number = 1; words = pos 2 ∷ pos 1 ∷ pos 5 ∷ [] })

-- the replies that the bank keeps
abbrev pub user_is_told : Message
user_is_told = Replying (record { process = 1; opener = 0; number = 1; words = pos 7 ∷ [] })

abbrev pub terminal_is_told : Message
terminal_is_told = Replying (record { process = 1; opener = 1; number = 1; words = pos 8 ∷ [] })

-- a checkpoint of the bank
abbrev pub checkpoint : ImageMessage
checkpoint = checkpoint_of 1 (first_copy 0)

abbrev pub letter : ℕ → ℕ → Message → Letter
letter sender receiver message = record { sender = sender; receiver = receiver; message = message }

-- the post in which the bank's request and its terminal's are owed, and replies to and from the bank's node
abbrev pub post : Post
post = record {
  world = world;
  owed =
      letter 0 2 bank_asks ∷ letter terminal_node 2 terminal_asks ∷ letter 2 0 terminal_is_told
      ∷ letter 0 terminal_node terminal_is_told
      ∷ letter 0 1 user_is_told ∷ [];
  sent = [];
}

-- the next request of the user to the bank, and the post in which no processor has stopped, and this one letter is owed
-- to the bank's node
abbrev pub next_request : Request
next_request = record { process = 1; opener = 0; number = 2; words = pos 6 ∷ [] }

abbrev pub owing : Post
owing = record {
  world = record world { stopped = false ∷ false ∷ false ∷ false ∷ []; requests = next_request ∷ [] };
  owed = letter 3 0 (Asking next_request) ∷ [];
  sent = letter 3 0 (Asking next_request) ∷ [];
}

-- a receive table that keeps two replies of one opener, of whose requests the fifth was taken last
abbrev pub two_kept : Option ℕ → ReceiveBlock
two_kept in_hand = record {
  openers = record { taken = 5; kept = (pos 7 ∷ []) ∷ (pos 6 ∷ []) ∷ [] }
      ∷ record { taken = 1; kept = (pos 8 ∷ []) ∷ [] } ∷ [];
  in_hand = in_hand;
}

-- the world in which the bank keeps two replies for the user
abbrev pub keeping_two : World
keeping_two = record world {
  processes =
      lost (pair_at_boot site 0 disc) ∷ record (bank_at 0)
      { first = record (first_copy 0) { core = record awaiting { receive = two_kept None } } }
      ∷ lost (pair_at_boot site 2 user) ∷ [];
}

-- the reply of the bank to the user's request of a number, and that of the disc to its terminal's first one
abbrev pub user_is_told_of : ℕ → ℤ → Message
user_is_told_of number word = Replying (record { process = 1; opener = 0; number = number; words = word ∷ [] })

abbrev pub disc_tells : Message
disc_tells = Replying (record { process = 0; opener = 1; number = 1; words = pos 0 ∷ [] })

-- the disc's second copy, that keeps the reply to its terminal's request, which waits at it
abbrev pub kept_and_waiting : Pair
kept_and_waiting = record (lost (pair_at_boot site 0 disc)) {
  second = record (pair_at_boot site 0 disc).second {
    core = record (pair_at_boot site 0 disc).second.core {
      receive = record {
        openers = record { taken = 0; kept = [] } ∷ record { taken = 1; kept = (pos 0 ∷ []) ∷ [] }
            ∷ [];
        in_hand = None;
      };
    };
    waiting = record { process = 0; opener = 1; number = 1; words = pos 2 ∷ pos 1 ∷ pos 5 ∷ [] } ∷ [];
  };
}

-- the world with that copy on the bank's node 3, and its post with nothing owed
abbrev pub taking_over : World
taking_over = record (world_at 3) { processes = kept_and_waiting ∷ bank_at 3 ∷ lost (pair_at_boot site 2 user) ∷ [] }

abbrev pub before_takeover : Post
before_takeover = record { world = taking_over; owed = []; sent = [] }

-- a request that tells which copy of which process sends it
abbrev pub asked_by : ℕ → ℕ → Message
asked_by number processor = Asking (record { process = number; opener = processor; number = 1; words = [] })
