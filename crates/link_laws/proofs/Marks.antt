-- A mark leaves the links of all requests that wait, but for those that a copy drops which takes over.
use Rattle.std.proofs.Common.{◌≡◌, ◌⊎◌, inl, inr, ℕ, zero, suc, ◌+◌, Bool, true, false, if◌then◌else◌, List, []}
use Rattle.std.proofs.Common.{◌∷◌, ◌++◌, map, Option, Some, None, slice_get, refl, ap, subst, sym}
use Rattle.std.proofs.lemmas.Bool.{eq-eqb}
use Rattle.gd_words.specs.Members.{IsAmong}
use Rattle.gd_words.specs.declared.message.Request.{Request}
use Rattle.gd_words.proofs.Among.{among-either, among-left, among-right}
use Rattle.tal_tree.specs.declared.site.Site.{Site}
use Rattle.checkpoint_image.specs.declared.receive.ReceiveBlock.{ReceiveBlock}
use Rattle.checkpoint_image.specs.Receive.{is_waiting, request_standing, still_waiting}
use Rattle.world_semantics.specs.declared.role.Role.{Role}
use Rattle.world_semantics.specs.declared.role.Role.TheVariants.{Acting}
use Rattle.world_semantics.specs.declared.which.Which.{Which}
use Rattle.world_semantics.specs.declared.which.Which.TheVariants.{First, Second}
use Rattle.world_semantics.specs.Messages.{Sending, MarkingDown}
use Rattle.world_semantics.specs.Rules.{Change, pair_after_down, pair_at_down, taker}
use Rattle.world_semantics.specs.Running.{Done}
use Rattle.world_semantics.specs.World.{Pair, World, copy_of}
use Rattle.world_semantics.proofs.Lists.{some-same}
use Rattle.world_semantics.proofs.Roles.{taker-is}
use Rattle.computed_changes.specs.Stopped.{mark_where, marked_where, may_mark, world_at_down}
use Rattle.computed_changes.proofs.Stopped.{mark-only}
use Rattle.served_requests.proofs.Queues.{filter-in}
use Rattle.node_needs.specs.NodeNeeds.{if_there, needs_at, of_copies, waiting_at}
use Rattle.link_laws.specs.Effects.{IsDropped}
use Rattle.link_laws.proofs.Taken.{there-is}

module _ (w : World) (node processor at : ℕ) (one : Request) where
  -- what waits at a copy that takes over waits on, or is dropped
  taken-over : (role : Role) (there : ℕ) (table : ReceiveBlock) (waiting : List Request)
      → IsAmong one (if_there at role there waiting)
      → IsAmong one (if_there at Acting there (still_waiting table waiting))
      ⊎ (IsAmong one waiting × (is_waiting (request_standing table one) ≡ false))
  taken-over role there table waiting among =
      let is = there-is at role there waiting one among in
      by (is_waiting (request_standing table one)) refl is.here is.among
    where
      by : (on : Bool) → is_waiting (request_standing table one) ≡ on → there ≡ at → IsAmong one waiting
          → IsAmong one (if_there at Acting there (still_waiting table waiting))
          ⊎ (IsAmong one waiting × (is_waiting (request_standing table one) ≡ false))
      by true on here waits =
          inl (subst (IsAmong one)
          (sym (ap (λ (b : Bool). if b then still_waiting table waiting else []) (eq-eqb there at here)))
          (filter-in (λ (r : Request). is_waiting (request_standing table r)) one waiting on waits))
      by false off here waits = inr (waits, off)

  abbrev Waiting : Pair → List Request
  Waiting pair = waiting_at at pair.first ++ waiting_at at pair.second

  pair-kept : (number : ℕ) (pair : Pair) → slice_get w.processes number ≡ Some pair → IsAmong one (Waiting pair)
      → IsAmong one (Waiting (pair_at_down node processor pair)) ⊎ IsDropped w one
  pair-kept number pair there among = by (taker node processor pair) refl
    where
      dropped : (k : Which) → taker node processor pair ≡ Some k → IsAmong one (copy_of k pair).waiting
          → is_waiting (request_standing (copy_of k pair).core.receive one) ≡ false → IsDropped w one
      dropped k is waits out = record {
        number = number;
        pair = pair;
        k = k;
        there = there;
        watching = (taker-is node processor pair k is).watching;
        waited = waits;
        out = out;
      }

      first : taker node processor pair ≡ Some First
          → IsAmong one (Waiting (pair_after_down (Some First) pair)) ⊎ IsDropped w one
      first is =
          elim (among-either one (waiting_at at pair.first) (waiting_at at pair.second) among) [
            | inl here ↦ elim (taken-over pair.first.role pair.first.processor pair.first.core.receive
                pair.first.waiting here) [
                  | inl on ↦ inl (among-left one _ (waiting_at at pair.second) on)
                  | inr off ↦ inr (dropped First is off.0 off.1)
                ]
            | inr other ↦ inl (among-right one (waiting_at at (pair_after_down (Some First) pair).first)
                (waiting_at at pair.second) other)
          ]

      second : taker node processor pair ≡ Some Second
          → IsAmong one (Waiting (pair_after_down (Some Second) pair)) ⊎ IsDropped w one
      second is =
          elim (among-either one (waiting_at at pair.first) (waiting_at at pair.second) among) [
            | inl other ↦ inl (among-left one (waiting_at at pair.first)
                (waiting_at at (pair_after_down (Some Second) pair).second) other)
            | inr here ↦ elim (taken-over pair.second.role pair.second.processor pair.second.core.receive
                pair.second.waiting here) [
                  | inl on ↦ inl (among-right one (waiting_at at pair.first) _ on)
                  | inr off ↦ inr (dropped Second is off.0 off.1)
                ]
          ]

      by : (found : Option Which) → taker node processor pair ≡ found
          → IsAmong one (Waiting (pair_after_down found pair)) ⊎ IsDropped w one
      by None is = inl among
      by (Some First) is = first is
      by (Some Second) is = second is

  copies-kept : (n : ℕ) (pairs : List Pair)
      → ((j : ℕ) (pair : Pair) → slice_get pairs j ≡ Some pair
      → (number : ℕ) × (slice_get w.processes number ≡ Some pair))
      → IsAmong one (of_copies (λ number copy. waiting_at at copy) n pairs)
      → IsAmong one (of_copies (λ number copy. waiting_at at copy) n (map (pair_at_down node processor) pairs))
      ⊎ IsDropped w one
  copies-kept n [] from among = absurd among
  copies-kept n (pair ∷ pairs) from among =
      elim (among-either one (Waiting pair) (of_copies (λ number copy. waiting_at at copy) (n + 1) pairs) among) [
        | inl here ↦ (let where_it = from zero pair refl in
            elim (pair-kept where_it.0 pair where_it.1 here) [
              | inl on ↦ inl (among-left one (Waiting (pair_at_down node processor pair)) _ on)
              | inr off ↦ inr off
            ])
        | inr later ↦ elim (copies-kept (n + 1) pairs (λ j other there. from (suc j) other there) later) [
          | inl on ↦ inl (among-right one (Waiting (pair_at_down node processor pair)) _ on)
          | inr off ↦ inr off
        ]
      ]

  pub marked-kept : (site : Site) → IsAmong one (needs_at site w at).waiting
      → IsAmong one (needs_at site (world_at_down node processor w).world at).waiting ⊎ IsDropped w one
  marked-kept site = copies-kept 0 w.processes (λ j pair there. (j, there))

pub mark-keeps : (site : Site) (w next : World) (node processor at : ℕ) (one : Request) (sendings : List Sending)
    → Change site w (MarkingDown node processor) sendings next → IsAmong one (needs_at site w at).waiting
    → IsAmong one (needs_at site next at).waiting ⊎ IsDropped w one
mark-keeps site w next node processor at one sendings change waits =
    by (slice_get w.stopped processor) (mark-only node processor w next sendings change)
  where
    where_it : (test : Bool) → marked_where node processor w test ≡ Some (record { world = next; sendings = sendings })
        → IsAmong one (needs_at site next at).waiting ⊎ IsDropped w one
    where_it false is = absurd (cc)
    where_it true is =
        subst (λ (d : Done). IsAmong one (needs_at site d.world at).waiting ⊎ IsDropped w one) (some-same is)
        (marked-kept w node processor at one site waits)

    by : (found : Option Bool) → mark_where node processor w found ≡ Some (record { world = next; sendings = sendings })
        → IsAmong one (needs_at site next at).waiting ⊎ IsDropped w one
    by None is = absurd (cc)
    by (Some false) is = absurd (cc)
    by (Some true) is = where_it (may_mark node processor w) is
