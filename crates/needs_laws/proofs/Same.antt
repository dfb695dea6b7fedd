-- The needs of a node are the same where its copies and terminals are.
use Rattle.std.proofs.Common.{◌≡◌, ◌≢◌, ◌⊎◌, ℕ, zero, suc, ◌+◌, ◌==◌, Bool, true, false, if◌then◌else◌, List, []}
use Rattle.std.proofs.Common.{◌∷◌, ◌++◌, length, slice_get, Some, refl, sym, ap, ◌∙◌, inl, inr, arith}
use Rattle.std.proofs.lemmas.Bool.{eqb-true, ne_eqb}
use Rattle.gd_words.specs.declared.message.Request.{Request}
use Rattle.tal_tree.specs.declared.site.Site.{Site}
use Rattle.world_semantics.specs.declared.role.Role.{Role}
use Rattle.world_semantics.specs.declared.role.Role.TheVariants.{Acting, Watching, Blank, Gone}
use Rattle.world_semantics.specs.declared.which.Which.{Which}
use Rattle.world_semantics.specs.declared.which.Which.TheVariants.{First, Second}
use Rattle.world_semantics.specs.World.{Copy, Pair, Terminal, World, copy_of, terminal_node}
use Rattle.letters.specs.Again.{awaited_by, awaited_from, if_acts_on}
use Rattle.packet_places.specs.Places.{KeepsItsOwn}
use Rattle.standing_links.specs.Needs.{Name, Needs}
use Rattle.node_needs.specs.NodeNeeds.{if_there, in_hand_by, needs_at, of_copies, of_terminals}

-- Copies

module _ {A : Type 0} (f : ℕ → Copy → List A) where
  copies-same : (number : ℕ) (ps qs : List Pair) → length qs ≡ length ps
      → ((k : ℕ) (j : Which) (before after : Pair) → slice_get ps k ≡ Some before → slice_get qs k ≡ Some after
      → (m : ℕ) → f m (copy_of j after) ≡ f m (copy_of j before))
      → of_copies f number qs ≡ of_copies f number ps
  copies-same number [] [] long same = refl
  copies-same number [] (q ∷ qs) long same = absurd (omega arith)
  copies-same number (p ∷ ps) [] long same = absurd (omega arith)
  copies-same number (p ∷ ps) (q ∷ qs) long same =
      let one : f number q.first ≡ f number p.first = same zero First p q refl refl number in
      let two : f number q.second ≡ f number p.second = same zero Second p q refl refl number in
      let shorter : length qs ≡ length ps = omega arith in
      let rest : of_copies f (number + 1) qs ≡ of_copies f (number + 1) ps =
      copies-same (number + 1) ps qs shorter (λ k j before after there now. same (suc k) j before after there now) in
      rw (one, two, rest) refl

there-away : {A : Type 0} (x : ℕ) (role : Role) (at : ℕ) (items : List A) → at ≢ x → if_there x role at items ≡ []
there-away x Acting at items away = rw (ne_eqb at x away) refl
there-away x Watching at items away = rw (ne_eqb at x away) refl
there-away x Blank at items away = rw (ne_eqb at x away) refl
there-away x Gone at items away = refl

acts-away : {A : Type 0} (x : ℕ) (role : Role) (at : ℕ) (items : List A) → at ≢ x → if_acts_on x role at items ≡ []
acts-away x Acting at items away = rw (ne_eqb at x away) refl
acts-away x Watching at items away = refl
acts-away x Blank at items away = refl
acts-away x Gone at items away = refl

-- a copy needs what it needed
pub record IsAlike (before after : Copy) : Type 0 where
  pub processor : after.processor ≡ before.processor
  pub role : after.role ≡ before.role
  pub core : after.core ≡ before.core
  pub waiting : after.waiting ≡ before.waiting

pub alike : {before after : Copy} → KeepsItsOwn before after → IsAlike before after
alike keeps = record { processor = keeps.processor; role = keeps.role; core = keeps.core; waiting = keeps.waiting }

-- a copy needs what it needed, or is away from a node before and after
abbrev pub IsLeft : ℕ → Copy → Copy → Type 0
IsLeft x before after = IsAlike before after ⊎ ((before.processor ≢ x) × (after.processor ≢ x))

module _ (site : Site) (x : ℕ) (number : ℕ) (before after : Copy) where
  waiting-same : IsLeft x before after
      → if_there x after.role after.processor after.waiting ≡ if_there x before.role before.processor before.waiting
  waiting-same (inl keeps) = rw (keeps.role, keeps.processor, keeps.waiting) refl
  waiting-same (inr away) =
      there-away x after.role after.processor after.waiting away.1
      ∙ sym (there-away x before.role before.processor before.waiting away.0)

  held-same : IsLeft x before after
      → if_acts_on x after.role after.processor (in_hand_by number after.core.receive after.core.receive.in_hand)
      ≡ if_acts_on x before.role before.processor (in_hand_by number before.core.receive before.core.receive.in_hand)
  held-same (inl keeps) = rw (keeps.role, keeps.processor, keeps.core) refl
  held-same (inr away) =
      acts-away x after.role after.processor (in_hand_by number after.core.receive after.core.receive.in_hand) away.1
      ∙ sym
      (acts-away x before.role before.processor (in_hand_by number before.core.receive before.core.receive.in_hand)
      away.0)

  awaited-same : IsLeft x before after
      → if_acts_on x after.role after.processor (awaited_by site number after.core)
      ≡ if_acts_on x before.role before.processor (awaited_by site number before.core)
  awaited-same (inl keeps) = rw (keeps.role, keeps.processor, keeps.core) refl
  awaited-same (inr away) =
      acts-away x after.role after.processor (awaited_by site number after.core) away.1
      ∙ sym (acts-away x before.role before.processor (awaited_by site number before.core) away.0)

-- Terminals

terminals-same : (site : Site) (x : ℕ) (before after : List Terminal) → (x ≡ terminal_node → after ≡ before)
    → (test : Bool) → (x == terminal_node) ≡ test
    → (if x == terminal_node then of_terminals (awaited_from site) 0 after else [])
    ≡ (if x == terminal_node then of_terminals (awaited_from site) 0 before else [])
terminals-same site x before after same true is =
    ap (λ (ts : List Terminal). if x == terminal_node then of_terminals (awaited_from site) 0 ts else [])
    (same (eqb-true x terminal_node is))
terminals-same site x before after same false is = rw is refl

-- Needs

abbrev made : List Request → List Name → List Request → Needs
made waiting in_hand awaited = record { waiting = waiting; in_hand = in_hand; awaited = awaited }

made-same : (a b : List Request) (c d : List Name) (e g : List Request) → a ≡ b → c ≡ d → e ≡ g
    → made a c e ≡ made b d g
made-same a b c d e g one two three =
    ap (λ (l : List Request). made l c e) one ∙ ap (λ (l : List Name). made b l e) two
    ∙ ap (λ (l : List Request). made b d l) three

pub needs-same : (site : Site) (w next : World) (x : ℕ) → length next.processes ≡ length w.processes
    → ((k : ℕ) (j : Which) (before after : Pair) → slice_get w.processes k ≡ Some before
    → slice_get next.processes k ≡ Some after
    → IsLeft x (copy_of j before) (copy_of j after))
    → (x ≡ terminal_node → next.terminals ≡ w.terminals) → needs_at site next x ≡ needs_at site w x
needs-same site w next x long left terminals =
    made-same _ _ _ _ _ _
    (copies-same (λ number copy. if_there x copy.role copy.processor copy.waiting) 0 w.processes next.processes long
    (λ k j before after there now m. waiting-same site x m (copy_of j before) (copy_of j after)
    (left k j before after there now)))
    (copies-same
    (λ number copy. if_acts_on x copy.role copy.processor
    (in_hand_by number copy.core.receive copy.core.receive.in_hand)) 0 w.processes next.processes long
    (λ k j before after there now m. held-same site x m (copy_of j before) (copy_of j after)
    (left k j before after there now)))
    (both
    (copies-same (λ number copy. if_acts_on x copy.role copy.processor (awaited_by site number copy.core)) 0 w.processes
    next.processes long
    (λ k j before after there now m. awaited-same site x m (copy_of j before) (copy_of j after)
    (left k j before after there now)))
    (terminals-same site x w.terminals next.terminals terminals (x == terminal_node) refl))
  where
    both : {a b c d : List Request} → a ≡ b → c ≡ d → a ++ c ≡ b ++ d
    both {a = a} {b = b} {c = c} {d = d} one two =
        ap (λ (l : List Request). l ++ c) one ∙ ap (λ (l : List Request). b ++ l) two
