-- The files with one more that an OPEN in the order of the files opens.
use Rattle.std.proofs.Common.{◌≡◌, ℕ, suc, List, [], ◌∷◌, ◌++◌, sym, ap, ◌∙◌, arith}
use Rattle.std.proofs.lemmas.Bool.{leb-false}
use Rattle.std.proofs.lemmas.List.{length-take-le}
use Rattle.std.proofs.lemmas.Option.{slice_get_within}
use Rattle.std.specs.Prelude.{false, nat_le, min, length, take, slice_get, Some, if◌then◌else◌}
use Rattle.tal_syntax.specs.Grammar as g
use Rattle.tal_tree.specs.declared.program.FileUse.{FileUse}
use Rattle.tal_names.specs.declared.meaning.Meaning.{Meaning}
use Rattle.tal_declarations.specs.declared.table.Files.{Files}
use Rattle.tal_declarations.specs.Files.{file_by, target_of, with_file}
use Rattle.tal_names.specs.Names.{is_declared, with_name}
use Rattle.tal_pieces.proofs.Standing.Stands.{first_files}
use Rattle.tal_pieces.proofs.Common.Entries.{take_next}

-- the files with the next one
module _ (f : Files) (k item depth : ℕ) (name : List ℕ) (string : g.Argument) (x : Meaning) (used : FileUse) where
  pub with_next : is_declared name (take k f.names) ≡ false → slice_get f.names k ≡ Some (name, x)
      → slice_get f.uses k ≡ Some used → nat_le 8 k ≡ false
      → file_by string item k ≡ x → ◌≡◌ {A = FileUse}
      (record { item = item; target = target_of string; depth = depth }) used
      → with_file (first_files f k) name item string depth ≡ first_files f (suc k)
  with_next new listed there few by is =
      let count : min 8 (length (take k f.uses)) ≡ k =
      ap (min 8) (length-take-le k f.uses (omega (arith, slice_get_within f.uses k used there)))
      ∙ omega (arith, leb-false 8 k few) in
      let names : with_name (take k f.names) name (file_by string item (min 8 (length (take k f.uses))))
      ≡ take (suc k) f.names =
      ap (λ b. if b then take k f.names else take k f.names
      ++ (name, file_by string item (min 8 (length (take k f.uses)))) ∷ []) new
      ∙ ap (λ m. take k f.names ++ (name, m) ∷ []) (ap (file_by string item) count ∙ by)
      ∙ sym (take_next f.names k (name, x) listed) in
      let uses : take k f.uses ++ record { item = item; target = target_of string; depth = depth } ∷ []
      ≡ take (suc k) f.uses =
      ap (λ u. take k f.uses ++ u ∷ []) is ∙ sym (take_next f.uses k used there) in
      ap (λ b. if b then first_files f k else record {
        names = with_name (take k f.names) name (file_by string item (min 8 (length (take k f.uses))));
        uses = take k f.uses ++ record { item = item; target = target_of string; depth = depth } ∷ [];
      }) new ∙ (λ i. record { names = names i; uses = uses i })
