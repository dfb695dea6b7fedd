-- Exactly one link has a request, as links are opened and ended.
use Rattle.std.proofs.Common.{◌≡◌, ◌≢◌, ℕ, Option, Some, None, sym, ap, ◌∙◌, inl, inr}
use Rattle.std.proofs.lemmas.Bool.{cases_eq}
use Rattle.gd_words.specs.declared.message.Request.{Request}
use Rattle.standing_links.specs.Standing.{HasOne}

module _ (before after : ℕ → Option Request) where
  pub one-along : (request : Request) → ((m : ℕ) → after m ≡ before m) → HasOne before request → HasOne after request
  one-along request same one = (
    one.0,
    record {
      is_there = same one.0 ∙ one.1.is_there;
      is_alone = λ other found. one.1.is_alone other (sym (same other) ∙ found);
    },
  )

  module _ (number : ℕ) (others : (m : ℕ) → m ≢ number → after m ≡ before m) where
    -- a link that wasn't there has another request
    pub one-stays : (request later : Request) → before number ≡ None → after number ≡ Some later
        → ((m : ℕ) → before m ≢ Some later) → HasOne before request → HasOne after request
    one-stays request later free here fresh one =
        let away : one.0 ≢ number = λ same. let stood = sym (ap before same) ∙ one.1.is_there in cc in (
          one.0,
          record {
            is_there = others one.0 away ∙ one.1.is_there;
            is_alone = λ other found. elim (cases_eq other number) [
              | inl same ↦
                  let twice : later ≡ request = let stands = sym here ∙ sym (ap after same) ∙ found in cc in
                  absurd (fresh one.0 (one.1.is_there ∙ ap Some (sym twice)))
              | inr differs ↦ one.1.is_alone other (sym (others other differs) ∙ found)
            ];
          },
        )

    -- it is the one of its request
    pub one-opens : (later : Request) → after number ≡ Some later → ((m : ℕ) → before m ≢ Some later)
        → HasOne after later
    one-opens later here fresh = (
      number,
      record {
        is_there = here;
        is_alone = λ other found. elim (cases_eq other number) [
          | inl same ↦ same
          | inr differs ↦ absurd (fresh other (sym (others other differs) ∙ found))
        ];
      },
    )

    -- a link that ended wasn't the one
    pub one-is-left : (request : Request) → after number ≡ None → before number ≢ Some request → HasOne before request
        → HasOne after request
    one-is-left request gone apart one =
        let away : one.0 ≢ number = λ same. apart (sym (ap before same) ∙ one.1.is_there) in (
          one.0,
          record {
            is_there = others one.0 away ∙ one.1.is_there;
            is_alone = λ other found. elim (cases_eq other number) [
              | inl same ↦ absurd (let none = sym gone ∙ sym (ap after same) ∙ found in cc)
              | inr differs ↦ one.1.is_alone other (sym (others other differs) ∙ found)
            ];
          },
        )

    -- a link that is open after another one ended was open before
    pub was-open : (request : Request) (other : ℕ) → after number ≡ None → after other ≡ Some request
        → (other ≢ number) × (before other ≡ Some request)
    was-open request other gone found = elim (cases_eq other number) [
      | inl same ↦ absurd (let none = sym gone ∙ sym (ap after same) ∙ found in cc)
      | inr differs ↦ (differs, sym (others other differs) ∙ found)
    ]
