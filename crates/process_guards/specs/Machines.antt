-- A disc that a terminal asks, and states of its machine; and a disc that a program opens.
use Rattle.std.specs.Prelude.{ℕ, ℤ, pos, false, List, [], ◌∷◌, map, Option, Some, None, replicate}
use Rattle.tal_tree.specs.declared.program.Program.{Program}
use Rattle.tal_tree.specs.declared.program.Target.TheVariants as target
use Rattle.tal_tree.specs.declared.site.Site.{Site}
use Rattle.tal_tree.specs.declared.site.Kind.TheVariants as kind
use Rattle.process_semantics.specs.declared.disc.DiscState.{DiscState}
use Rattle.process_semantics.specs.declared.point.Point.{Point}
use Rattle.process_semantics.specs.declared.point.Point.TheVariants as point
use Rattle.process_semantics.specs.Process.{Serves}
use Rattle.process_semantics.specs.State.{zeros}
use Rattle.plain_semantics.specs.declared.slot.Opener.{Opener}
use Rattle.plain_semantics.specs.declared.slot.Slot.{Slot}
use Rattle.plain_semantics.specs.Machine.{Plain, PlainProcess}

-- a disc with two sectors and a terminal that reads sector 1
abbrev pub disc_site : Site
disc_site = record {
  processors = 2;
  processes = record { name = 36 ∷ 68 ∷ []; primary = 0; backup = 1; what = kind.Disc 2 false } ∷ [];
  terminals = record { name = 36 ∷ 84 ∷ []; target = 0; requests = (pos 1 ∷ pos 1 ∷ []) ∷ [] } ∷ [];
}

-- a program that opens `$RECEIVE`, and then a disc to depth 3
abbrev pub opening : Program
opening = record {
  items = [];
  files = record { item = 0; target = target.Receive; depth = 1 }
      ∷ record { item = 1; target = target.Process (36 ∷ 68 ∷ []); depth = 3 } ∷ [];
  procedures = [];
  main = 0;
}

-- a disc, a pair that runs that program, a terminal that asks the pair, and one that asks the disc
abbrev pub opened_site : Site
opened_site = record {
  processors = 2;
  processes = record { name = 36 ∷ 68 ∷ []; primary = 0; backup = 1; what = kind.Disc 4 false }
      ∷ record { name = 36 ∷ 65 ∷ []; primary = 0; backup = 1; what = kind.Pair opening } ∷ [];
  terminals = record { name = 36 ∷ 84 ∷ []; target = 1; requests = [] }
      ∷ record { name = 36 ∷ 85 ∷ []; target = 0; requests = [] } ∷ [];
}

-- a disc that has made three writes, with this request in hand
abbrev pub serving : Point → List ℤ → DiscState
serving label request = record { label = label; request = Some request; reply = None; last_write = 3 }

-- the machine with this slot, after so many requests were entered
abbrev pub with_slot : DiscState → Option ℕ → Slot → ℕ → Plain
with_slot disc hand slot entered = record {
  processes = record {
    state = Serves 2 disc;
    hand = hand;
    slots = slot ∷ [];
    sectors = zeros 8 ∷ replicate 8 (pos 4) ∷ [];
  } ∷ [];
  entered = entered ∷ [];
}

-- a disc with this request in hand whose reply is ready, after so many writes
abbrev pub served : ℕ → List ℤ → List ℤ → DiscState
served writes request reply =
    record { label = point.Answer; request = Some request; reply = Some reply; last_write = writes }

abbrev pub having : List (List ℤ) → PlainProcess → PlainProcess
having sectors one = record one { sectors = sectors }

-- the machine with these sectors on each disc
abbrev pub with_sectors : List (List ℤ) → Plain → Plain
with_sectors sectors plain = record plain { processes = map (having sectors) plain.processes }

-- the second opener of the process at the first place
abbrev pub asked : Option Opener
asked = Some (record { server = 0; place = 1 })

-- a server with these slots, and another process
abbrev pub two_slots : List Slot → PlainProcess → PlainProcess → Plain
two_slots slots server one = record { processes = record server { slots = slots } ∷ one ∷ []; entered = [] }

-- a disc with two sectors and a terminal that writes 7 on sector 1
abbrev pub writing_site : Site
writing_site = record disc_site {
  terminals =
      record { name = 36 ∷ 84 ∷ []; target = 0; requests = (pos 2 ∷ pos 1 ∷ pos 7 ∷ []) ∷ [] } ∷ [];
}

-- a program that opens the disc twice, and a site with it before the program above and with two terminals that ask the
-- disc
abbrev pub opening_twice : Program
opening_twice = record opening {
  files = record { item = 0; target = target.Process (36 ∷ 68 ∷ []); depth = 2 }
      ∷ record { item = 1; target = target.Process (36 ∷ 68 ∷ []); depth = 4 } ∷ [];
}

abbrev pub shared_site : Site
shared_site = record {
  processors = 2;
  processes = record { name = 36 ∷ 65 ∷ []; primary = 0; backup = 1; what = kind.Pair opening_twice }
      ∷ record { name = 36 ∷ 66 ∷ []; primary = 0; backup = 1; what = kind.Pair opening }
      ∷ record { name = 36 ∷ 68 ∷ []; primary = 0; backup = 1; what = kind.Disc 4 false } ∷ [];
  terminals = record { name = 36 ∷ 84 ∷ []; target = 2; requests = [] }
      ∷ record { name = 36 ∷ 85 ∷ []; target = 2; requests = [] } ∷ [];
}
