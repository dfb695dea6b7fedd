-- What a takeover sends, computed.
use Rattle.std.proofs.Common.{◌≡◌, [], ◌∷◌, refl}
use Rattle.std.specs.Int.{int_wrap}
use denote.Hole.Carrier.{shown, out}
use Rattle.schedule.specs.declared.bus_name.BusName.TheVariants.{X, Y}
use Rattle.tal_tree.specs.declared.statement.What.{out-What}
use Rattle.tal_tree.specs.declared.statement.What.TheBlock.{shown-the_row-Statement-0}
use Rattle.schedule.specs.declared.event.Event.TheVariants as event
use Rattle.message_layout.specs.Layout.{words_of}
use Rattle.message_layout.specs.Messages.{Carrying}
use Rattle.letter_guards.specs.Worlds.{bank_asks, disc_tells, user_is_told}
use Rattle.packet_wires.specs.Play.{sent_by}
use Rattle.packet_wires.specs.Sights.{alive, last}
use Rattle.packet_guards.specs.States.{after_three, outgoing, queued, takeover}

pub tick-out : outgoing (sent_by after_three (event.Tick 0))
    ≡ (X, alive 0 1) ∷ (Y, alive 0 1) ∷ (X, alive 0 2) ∷ (Y, alive 0 2) ∷ (X, last 0 1 1) ∷ (X, last 0 2 1) ∷ []
unfolding out-What shown-the_row-Statement-0 shown out int_wrap
tick-out = refl

pub takeover-out : outgoing takeover.wires.out ≡ (X, last 3 16 1) ∷ (X, last 3 3 1) ∷ []
unfolding out-What shown-the_row-Statement-0 shown out int_wrap
takeover-out = refl

pub takeover-told : queued 16 ≡ words_of (Carrying disc_tells) ∷ []
unfolding out-What shown-the_row-Statement-0 shown out int_wrap
takeover-told = refl

pub takeover-again : queued 3 ≡ words_of (Carrying bank_asks) ∷ words_of (Carrying user_is_told) ∷ []
unfolding out-What shown-the_row-Statement-0 shown out int_wrap
takeover-again = refl
