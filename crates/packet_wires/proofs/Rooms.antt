-- What is put on a bus that has room for it, and on a full one.
use Rattle.std.proofs.Common.{◌≡◌, ◌≤◌, ◌+◌, suc, Bool, nat_lt, if◌then◌else◌, List, [], ◌∷◌, ◌++◌, length, refl, sym}
use Rattle.std.proofs.Common.{ap, ◌∙◌, arith, length-append}
use Rattle.std.proofs.lemmas.Bool.{le-leb}
use Rattle.std.proofs.lemmas.List.{append-nil, append_assoc}
use Rattle.packet_words.specs.declared.packet.Packet.{Packet}
use Rattle.bus_model.specs.Packets.{sent}
use Rattle.packet_wires.specs.Wires.{all_put}

pub sent-there : (packet : Packet) (on : List Packet) → suc (length on) ≤ 4096 → sent packet on ≡ on ++ packet ∷ []
sent-there packet on low = ap (λ (b : Bool). if b then on ++ packet ∷ [] else on) (le-leb (suc (length on)) 4096 low)

pub sent-full : (packet : Packet) (on : List Packet) → length on ≡ 4096 → sent packet on ≡ on
sent-full packet on same = ap (λ n. if nat_lt n 4096 then on ++ packet ∷ [] else on) same

pub all-there : (packets on : List Packet) → length on + length packets ≤ 4096 → all_put packets on ≡ on ++ packets
all-there [] on low = sym (append-nil on)
all-there (packet ∷ packets) on low =
    ap (all_put packets) (sent-there packet on (omega (arith, low)))
    ∙ all-there packets (on ++ packet ∷ []) (omega (arith, low, length-append on (packet ∷ [])))
    ∙ append_assoc on (packet ∷ []) packets

pub all-full : (packets on : List Packet) → length on ≡ 4096 → all_put packets on ≡ on
all-full [] on same = refl
all-full (packet ∷ packets) on same = ap (all_put packets) (sent-full packet on same) ∙ all-full packets on same
