-- Sites of the adder, and the site of the bank, are accepted.
use Rattle.std.proofs.Common.{◌≡◌, ◌≤◌, ◌∙◌, ℕ, zero, suc, ℤ, List, [], ◌∷◌, length, slice_get, Some, ap, subst, arith}
use Rattle.tal_tree.specs.declared.program.Program.{Program}
use Rattle.tal_tree.specs.declared.site.Kind.TheVariants as kind
use Rattle.tal_tree.specs.declared.site.ProcessSpec.{ProcessSpec}
use Rattle.plain_semantics.specs.Machine.{next_request}
use Rattle.path_semantics.specs.Accepted.{IsAccepted}
use Rattle.tal_laws.specs.tal_reader.specs.Reads.{Reads}
use Rattle.world_semantics.specs.Examples.{adder, adder_for, bank, bank_site}
use Rattle.world_semantics.proofs.Lists.{some-same}
use Rattle.accepted_sites.specs.Premises.{IsAcceptedSite}
use Rattle.accepted_sites.specs.Texts.{adder_text, bank_text}
use Rattle.accepted_sites.proofs.Paths.{adder-accepted, bank-accepted}
use Rattle.accepted_sites.proofs.Readings.{adder-read, bank-read}

same-program : (one other : Program) → kind.Pair one ≡ kind.Pair other → one ≡ other
same-program one other same = cc

pub adders-accepted : (words : List ℤ) → IsAcceptedSite (adder_for words)
adders-accepted words = record {
  read = λ number spec program there is. (
    adder_text,
    subst (Reads adder_text) (only number spec program there is) adder-read,
  );
  accepted = λ number spec program there is. subst IsAccepted (only number spec program there is) adder-accepted;
  requests = short words;
}
  where
    only : (number : ℕ) (spec : ProcessSpec) (program : Program)
        → slice_get (adder_for words).processes number ≡ Some spec → spec.what ≡ kind.Pair program → adder ≡ program
    only zero spec program there is =
        same-program adder program (ap (λ (s : ProcessSpec). s.what) (some-same there) ∙ is)
    only (suc number) spec program there is = absurd (cc)

    short : (words : List ℤ) (terminal entered : ℕ) (request : List ℤ)
        → next_request (adder_for words) terminal entered ≡ Some request → length request ≤ 16
    short [] terminal entered request next = absurd (cc)
    short (word ∷ words) zero zero request next = rw (← some-same next) (omega arith)
    short (word ∷ words) zero (suc entered) request next = absurd (cc)
    short (word ∷ words) (suc terminal) entered request next = short words terminal entered request next

pub bank-site-accepted : IsAcceptedSite bank_site
bank-site-accepted = record {
  read = λ number spec program there is. (
    bank_text,
    subst (Reads bank_text) (only number spec program there is) bank-read,
  );
  accepted = λ number spec program there is. subst IsAccepted (only number spec program there is) bank-accepted;
  requests = short;
}
  where
    only : (number : ℕ) (spec : ProcessSpec) (program : Program) → slice_get bank_site.processes number ≡ Some spec
        → spec.what ≡ kind.Pair program → bank ≡ program
    only zero spec program there is = let same = some-same there in absurd (cc)
    only (suc zero) spec program there is =
        same-program bank program (ap (λ (s : ProcessSpec). s.what) (some-same there) ∙ is)
    only (suc (suc number)) spec program there is = absurd (cc)

    short : (terminal entered : ℕ) (request : List ℤ) → next_request bank_site terminal entered ≡ Some request
        → length request ≤ 16
    short zero zero request next = rw (← some-same next) (omega arith)
    short zero (suc entered) request next = absurd (cc)
    short (suc terminal) entered request next = absurd (cc)
