-- One node after the other is looked at.
use Rattle.std.specs.List.{list_all}
use Rattle.std.proofs.Common.{◌≡◌, ℕ, suc, ◌+◌, ◌&&◌, Bool, true, false, ap, sym, ◌∙◌}
use Rattle.node.specs.packet_wires.specs.Nodes.{numbers}

module _ (p : ℕ → Bool) where
  passed : (from m n : ℕ) (test : Bool) → m ≡ suc n → test ≡ p from
      → list_all p (numbers from m) ≡ (test && list_all p (numbers (from + 1) n))
  passed from m n test count is =
      ap (λ (k : ℕ). list_all p (numbers from k)) count
      ∙ sym (ap (λ (b : Bool). b && list_all p (numbers (from + 1) n)) is)

  pub all-next : (from m n : ℕ) (test : Bool) → m ≡ suc n → test ≡ p from → test ≡ true
      → list_all p (numbers (from + 1) n) ≡ list_all p (numbers from m)
  all-next from m n test count is passes =
      sym (passed from m n test count is ∙ ap (λ (b : Bool). b && list_all p (numbers (from + 1) n)) passes)

  pub all-stop : (from m n : ℕ) (test : Bool) → m ≡ suc n → test ≡ p from → test ≡ false
      → false ≡ list_all p (numbers from m)
  all-stop from m n test count is fails =
      sym (passed from m n test count is ∙ ap (λ (b : Bool). b && list_all p (numbers (from + 1) n)) fails)

  pub all-done : (from left : ℕ) → left ≡ 0 → true ≡ list_all p (numbers from left)
  all-done from left none = sym (ap (λ (k : ℕ). list_all p (numbers from k)) none)
