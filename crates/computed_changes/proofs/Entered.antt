-- What is computed where a terminal enters is what is permitted there, and nothing else is.
use Rattle.std.proofs.Common.{◌≡◌, ℕ, ◌==◌, ℤ, Bool, true, false, List, Option, Some, None, slice_get, refl, subst}
use Rattle.std.proofs.lemmas.Bool.{eqb-true, eq-eqb}
use Rattle.tal_tree.specs.declared.site.Site.{Site}
use Rattle.tal_tree.specs.declared.site.Who.TheVariants as who
use Rattle.world_semantics.specs.plain_semantics.specs.declared.slot.Opener.{Opener}
use Rattle.world_semantics.specs.plain_semantics.specs.Openers.{opener_of}
use Rattle.world_semantics.specs.plain_semantics.specs.Machine.{next_request}
use Rattle.world_semantics.specs.World.{Terminal, World}
use Rattle.world_semantics.specs.Messages.{Sending, Cause, Entering}
use Rattle.world_semantics.specs.Rules.{Change, by_own, by_checkpoint, by_request, by_early_request, by_enter, by_print}
use Rattle.world_semantics.specs.Rules.{by_stop, by_mark, by_reload}
use Rattle.world_semantics.specs.Running.{Done}
use Rattle.world_semantics.proofs.Lists.{some-same}
use Rattle.computed_changes.specs.Entered.{enter_to, enter_where, enter_at, enter_done}
use Rattle.computed_changes.proofs.Causes.{IsOfCopies, own-causes, passes-causes}

abbrev MayEnter : Site → ℕ → World → Done → Type 0
MayEnter site number w done = Change site w (Entering number) done.sendings done.world

to-may : (site : Site) (number : ℕ) (terminal : Terminal) (w : World) → slice_get w.terminals number ≡ Some terminal
    → terminal.entered ≡ terminal.printed
    → (words : Option (List ℤ)) → next_request site number terminal.entered ≡ words → (opener : Option Opener)
    → opener_of site (who.Terminal number) ≡ opener
    → (done : Done) → enter_to number terminal w words opener ≡ Some done → MayEnter site number w done
to-may site number terminal w there free words n None o done e = absurd (cc)
to-may site number terminal w there free None n (Some opener) o done e = absurd (cc)
to-may site number terminal w there free (Some words) n (Some opener) o done e =
    subst (MayEnter site number w) (some-same e) (by_enter number terminal opener there free n o)

where-may : (site : Site) (number : ℕ) (terminal : Terminal) (w : World) → slice_get w.terminals number ≡ Some terminal
    → (free : Bool)
    → (terminal.entered == terminal.printed) ≡ free → (done : Done)
    → enter_where site number terminal w free ≡ Some done → MayEnter site number w done
where-may site number terminal w there true f done e =
    to-may site number terminal w there (eqb-true _ _ f) _ refl _ refl done e
where-may site number terminal w there false f done e = absurd (cc)

at-may : (site : Site) (number : ℕ) (w : World) (terminal : Option Terminal) → slice_get w.terminals number ≡ terminal
    → (done : Done)
    → enter_at site number w terminal ≡ Some done → MayEnter site number w done
at-may site number w None there done e = absurd (cc)
at-may site number w (Some terminal) there done e = where-may site number terminal w there _ refl done e

pub enter-may : (site : Site) (number : ℕ) (w : World) (done : Done) → enter_done site number w ≡ Some done
    → Change site w (Entering number) done.sendings done.world
enter-may site number w done e = at-may site number w (slice_get w.terminals number) refl done e

same-terminal : {one other : ℕ} → Entering one ≡ Entering other → one ≡ other
same-terminal e = cc

change-only : {site : Site} (number : ℕ) (w next : World) (cause : Cause) (sendings : List Sending)
    → cause ≡ Entering number → Change site w cause sendings next
    → enter_done site number w ≡ Some (record { world = next; sendings = sendings })
change-only number w next cause sendings r (by_own one k pair there role c a e fr) =
    absurd (subst IsOfCopies r (own-causes c))
change-only number w next cause sendings r (by_checkpoint one pair there p) =
    absurd (subst IsOfCopies r (passes-causes p))
change-only number w next cause sendings r (by_request request k pair i there role) = absurd (cc)
change-only number w next cause sendings r (by_early_request request k pair i there role) = absurd (cc)
change-only {site = site} number w next cause sendings r (by_enter one terminal opener there free n o) =
    subst (λ m. enter_done site m w ≡ Some (record { world = next; sendings = sendings })) (same-terminal r)
    (rw (there, eq-eqb _ _ free, n, o) refl)
change-only number w next cause sendings r (by_print one terminal reply t e i o n) = absurd (cc)
change-only number w next cause sendings r (by_stop x s h) = absurd (cc)
change-only number w next cause sendings r (by_mark node x s run n) = absurd (cc)
change-only number w next cause sendings r (by_reload x s m t l) = absurd (cc)

pub enter-only : {site : Site} (number : ℕ) (w next : World) (sendings : List Sending)
    → Change site w (Entering number) sendings next
    → enter_done site number w ≡ Some (record { world = next; sendings = sendings })
enter-only number w next sendings c = change-only number w next _ sendings refl c
