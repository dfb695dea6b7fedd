-- The same done for one node after the other, and what is made of one number after the other.
use Rattle.std.specs.List.{filter}
use Rattle.std.proofs.Common.{◌≡◌, ℕ, suc, ◌+◌, ◌==◌, not, Bool, true, false, if◌then◌else◌, List, [], ◌∷◌, ◌++◌, map}
use Rattle.std.proofs.Common.{refl, ap, sym, subst, ◌∙◌, append_assoc, append-nil}
use Rattle.event_parts.specs.packet_wires.specs.Nodes.{numbers}
use Rattle.event_parts.specs.packet_wires.specs.Wires.{Wires, Midst, for_each, nothing_sent, with_sent}
use Rattle.event_parts.specs.Numbers.{CanPush}
use Rattle.event_parts.specs.Parts.{OnlyAdds, carried_out}
use Rattle.event_parts.proofs.Turns.{carried-each, carried-then}

module _ (does : ℕ → Midst → Midst) (adds : (y : ℕ) → OnlyAdds (does y)) where
  -- the first of the nodes that are left
  pub each-turn : (m n from : ℕ) (wires after : Wires) → m ≡ suc n → after ≡ carried_out (does from) wires
      → carried_out (for_each does (numbers (from + 1) n)) after ≡ carried_out (for_each does (numbers from m)) wires
  each-turn m n from wires after count is =
      ap (carried_out (for_each does (numbers (from + 1) n))) is
      ∙ carried-each does adds from (numbers (from + 1) n) wires
      ∙ sym (ap (λ (k : ℕ). carried_out (for_each does (numbers from k)) wires) count)

  -- the same, one node left out
  pub other-turn : (me m n from : ℕ) (wires after : Wires) → m ≡ suc n
      → after ≡ (if from == me then wires else carried_out (does from) wires)
      → carried_out (for_each does (filter (λ other. not (other == me)) (numbers (from + 1) n))) after
      ≡ carried_out (for_each does (filter (λ other. not (other == me)) (numbers from m))) wires
  other-turn me m n from wires after count is =
      ap (carried_out (for_each does rest)) is ∙ go (from == me)
      ∙ sym (ap (λ (k : ℕ). carried_out (for_each does (filter (λ other. not (other == me)) (numbers from k))) wires)
      count)
    where
      rest : List ℕ
      rest = filter (λ other. not (other == me)) (numbers (from + 1) n)

      go : (same : Bool) → carried_out (for_each does rest) (if same then wires else carried_out (does from) wires)
          ≡ carried_out (for_each does (if not same then from ∷ rest else rest)) wires
      go true = refl
      go false = carried-each does adds from rest wires

  -- the last node after the others
  pub last-turn : (ys : List ℕ) (last : ℕ) (wires : Wires)
      → carried_out (does last) (carried_out (for_each does ys) wires)
      ≡ carried_out (for_each does (ys ++ last ∷ [])) wires
  last-turn ys last wires =
      carried-then (for_each does ys) (does last) wires (adds last)
      ∙ ap (λ (midst : Midst). with_sent midst wires) (sym (each-append ys (nothing_sent wires.nodes)))
    where
      each-append : (xs : List ℕ) (midst : Midst)
          → for_each does (xs ++ last ∷ []) midst ≡ does last (for_each does xs midst)
      each-append [] midst = refl
      each-append (x ∷ xs) midst = each-append xs (does x midst)

-- what is pushed goes on to find a number
module _ (part : Midst → Midst) (keeps : (midst : Midst) → CanPush midst.nodes → CanPush (part midst).nodes)
    (wires after : Wires)
    (can : CanPush wires.nodes) where
  pub can-after : after ≡ carried_out part wires → CanPush after.nodes
  can-after is = subst (λ (w : Wires). CanPush w.nodes) (sym is) (keeps (nothing_sent wires.nodes) can)

  pub can-after-if : (test : Bool) → after ≡ (if test then wires else carried_out part wires) → CanPush after.nodes
  can-after-if true is = subst (λ (w : Wires). CanPush w.nodes) (sym is) can
  can-after-if false is = can-after is

pub pushed-turn : {A : Type 0} (f : ℕ → A) (items after : List A) (x : A) (from m n : ℕ) → after ≡ items ++ x ∷ []
    → x ≡ f from → m ≡ suc n
    → after ++ map f (numbers (from + 1) n) ≡ items ++ map f (numbers from m)
pushed-turn f items after x from m n pushed is count =
    ap (λ xs. xs ++ map f (numbers (from + 1) n)) (pushed ∙ ap (λ one. items ++ one ∷ []) is)
    ∙ append_assoc items (f from ∷ []) (map f (numbers (from + 1) n))
    ∙ sym (ap (λ (k : ℕ). items ++ map f (numbers from k)) count)

pub pushed-all : {A : Type 0} (f : ℕ → A) (items all : List A) (from left : ℕ) → left ≡ 0
    → items ++ map f (numbers from left) ≡ all → items ≡ all
pushed-all f items all from left none is =
    sym (append-nil items) ∙ sym (ap (λ (k : ℕ). items ++ map f (numbers from k)) none) ∙ is
