-- What holds of all statements, at any level, by what holds of their layers.
use Rattle.std.proofs.Common.{◌≡◌, inl, inr, ℕ, List, [], ◌∷◌, ◌++◌, ap, sym, subst, ◌∙◌, append-nil}
use Rattle.std.proofs.lemmas.Grind.{flat_map-append}
use Rattle.tal_tree.specs.declared.statement.Statement.{Statement}
use Rattle.tal_tree.specs.declared.statement.What.{What, What-F, out-What, roll-What}
use Rattle.gd_words.specs.Members.{IsAmong}
use Rattle.tal_tree.specs.Statements.{all_in, all_of}
use Rattle.gd_words.proofs.Among.{among-either}
use Rattle.tal_tree.proofs.Within.{within_of, within-is}
use Rattle.tal_laws.proofs.Layers.{layer_of}

module _ (P : What-F What Statement → Type 0) where
  -- it holds of each of these, and of those in a layer
  abbrev pub Among : List Statement → Type 0
  Among xs = (statement : Statement) → IsAmong statement xs → P (out-What statement.what)

  abbrev pub Everywhere : List Statement → Type 0
  Everywhere xs = Among (all_of xs)

  pub among_append : (xs ys : List Statement) → Among xs → Among ys → Among (xs ++ ys)
  among_append xs ys x y statement among =
      elim (among-either statement xs ys among) [ inl left ↦ x statement left | inr right ↦ y statement right ]

  pub everywhere_append : (xs ys : List Statement) → Everywhere xs → Everywhere ys → Everywhere (xs ++ ys)
  everywhere_append xs ys x y =
      subst Among (sym (flat_map-append all_in xs ys)) (among_append (all_of xs) (all_of ys) x y)

  -- one statement
  pub everywhere_one : (n line : ℕ) (it : What) (layer : What-F What Statement) → roll-What layer ≡ it → P layer
      → Among (within_of layer)
      → Everywhere (record { number = n; line = line; what = it } ∷ [])
  everywhere_one n line it layer rolls own inner statement among =
      by (subst (IsAmong statement) (append-nil (all_in this)) among)
    where
      this : Statement
      this = record { number = n; line = line; what = it }

      out : out-What it ≡ layer
      out = layer_of it layer rolls

      by : IsAmong statement (all_in this) → P (out-What statement.what)
      by (inl same) = subst P (sym (ap (λ (x : Statement). out-What x.what) same ∙ out)) own
      by (inr later) = inner statement (subst (IsAmong statement) (within-is it ∙ ap within_of out) later)
