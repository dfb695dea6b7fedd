-- What the deeds of a process do to its device.
use Rattle.std.specs.Prelude.{◌≡◌, ℕ, Bool, true, false, List, [], ◌∷◌, length}
use Rattle.std.specs.List.{filter}
use Rattle.gd_words.specs.declared.device.DeviceCall.{DeviceCall}
use Rattle.gd_words.specs.declared.device.DeviceCall.TheVariants.{Write}
use Rattle.tal_tree.specs.declared.site.Kind.{Kind}
use Rattle.world_semantics.specs.disc_device.specs.Sectors.{Stored, stored_after}
use Rattle.world_semantics.specs.Core.{Deed, Acted}
use Rattle.world_semantics.specs.World.{device_at_boot}
use Rattle.world_semantics.specs.Own.{found_on}

-- the sectors after a call of the device
abbrev pub after_call : DeviceCall → List Stored → List Stored
after_call (Write sector words number) sectors = stored_after sectors sector words number
after_call _ sectors = sectors

-- the sectors that deeds leave
abbrev pub sectors_after : Kind → List Deed → List Stored
sectors_after what [] = device_at_boot what
sectors_after what (Acted call found ∷ deeds) = after_call call (sectors_after what deeds)
sectors_after what (_ ∷ deeds) = sectors_after what deeds

-- each call of the device found what stood there
abbrev pub FoundWhatStood : Kind → List Deed → Type 0
FoundWhatStood what [] = Unit {0}
FoundWhatStood what (Acted call found ∷ deeds) =
    (found ≡ found_on (sectors_after what deeds) call) × FoundWhatStood what deeds
FoundWhatStood what (_ ∷ deeds) = FoundWhatStood what deeds

-- whether a deed is a write
abbrev pub is_write : Deed → Bool
is_write (Acted (Write sector words number) found) = true
is_write _ = false

-- how many writes there are among deeds
abbrev pub writes_in : List Deed → ℕ
writes_in deeds = length (filter is_write deeds)
