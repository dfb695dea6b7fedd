-- The request that a terminal entered last is one of its own.
use Rattle.std.proofs.Common.{◌≡◌, ℕ, ◌+◌, ◌-◌, ◌≤◌, ℤ, List, Some, slice_get, ap, arith}
use Rattle.tal_tree.specs.declared.site.Site.{Site}
use Rattle.tal_tree.specs.declared.site.TerminalSpec.{TerminalSpec}
use Rattle.plain_semantics.specs.Machine.{next_request}
use Rattle.world_semantics.specs.Messages.{Sending, Cause}
use Rattle.world_semantics.specs.Rules.{Change, by_own, by_checkpoint, by_request, by_early_request, by_enter, by_print}
use Rattle.world_semantics.specs.Rules.{by_stop, by_mark, by_reload}
use Rattle.world_semantics.specs.World.{Terminal, World, boot}
use Rattle.world_semantics.proofs.Lists.{set-all, mapped}
use Rattle.letter_laws.specs.Known.{TerminalsEnterTheirs}

abbrev EntersTheirs : Site → ℕ → Terminal → Type 0
EntersTheirs site number terminal =
    1 ≤ terminal.entered → (words : List ℤ) × (next_request site number (terminal.entered - 1) ≡ Some words)

pub change-entered : {site : Site} (w next : World) (cause : Cause) (sendings : List Sending)
    → Change site w cause sendings next → TerminalsEnterTheirs site w
    → TerminalsEnterTheirs site next
change-entered w next cause sendings (by_own number k pair there role causes advances enters free) all = all
change-entered w next cause sendings (by_checkpoint number pair there passes) all = all
change-entered w next cause sendings (by_request request k pair among there role) all = all
change-entered w next cause sendings (by_early_request request k pair among there role) all = all
change-entered {site = site} w next cause sendings
    (by_enter {words = words} number terminal opener there even is opens) all =
    let back : terminal.entered + 1 - 1 ≡ terminal.entered = omega arith in
    set-all (EntersTheirs site) w.terminals number (record terminal { entered = terminal.entered + 1 }) all
    (λ some. (words, rw back is))
change-entered {site = site} w next cause sendings (by_print number terminal reply there odd among opens same) all =
    set-all (EntersTheirs site) w.terminals number (record terminal { printed = terminal.printed + 1 }) all
    (all number terminal there)
change-entered w next cause sendings (by_stop processor runs whole) all = all
change-entered w next cause sendings (by_mark node processor down runs unmarked) all = all
change-entered w next cause sendings (by_reload processor down marked counted less) all = all

-- at the beginning no terminal has entered anything
pub begins-even : (site : Site) (number : ℕ) (terminal : Terminal)
    → slice_get (boot site).terminals number ≡ Some terminal
    → (terminal.entered ≡ 0) × (terminal.printed ≡ 0)
begins-even site number terminal there =
    let was = mapped (λ (one : TerminalSpec). record { entered = 0; printed = 0 }) site.terminals number terminal
    there in
    (ap (λ (t : Terminal). t.entered) was.2, ap (λ (t : Terminal). t.printed) was.2)

pub entered-begins : (site : Site) → TerminalsEnterTheirs site (boot site)
entered-begins site number terminal there some =
    let none = (begins-even site number terminal there).0 in absurd (omega (arith, some, none))
