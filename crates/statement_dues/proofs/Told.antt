-- What is told of each entry of a program, by its entries as they are lent.
use Rattle.std.proofs.Common.{◌≡◌, List, [], ◌∷◌, ◌++◌, flat_map, map, refl, ap, ◌∙◌}
use Rattle.reason_dues.specs.path_semantics.specs.declared.reason.Reason.{Reason}
use Rattle.process_semantics.specs.SeenEntries.{entry_of}
use Rattle.process_semantics.specs.State.{Entry}
use Rattle.process_semantics.specs.declared.entry.Entry.{Entry as Borrowed}
use Rattle.program_entries.specs.Entries.{entries_of}
use Rattle.statement_dues.specs.Checkpoints.{checkpoints_of, named_at}
use Rattle.statement_dues.specs.Deeds.{deed_of, deeds_of}
use Rattle.statement_dues.specs.declared.checkpoints.NamedCheckpoint.{NamedCheckpoint}
use Rattle.statement_dues.specs.declared.deeds.Deed.{Deed}
use Rattle.tal_tree.specs.declared.program.Program.{Program}

each_deed : (reason : Reason) (all : List Borrowed)
    → map (λ entry. deed_of reason (entry_of entry)) all ≡ map (deed_of reason) (map entry_of all)
each_deed reason [] = refl
each_deed reason (one ∷ rest) =
    ap (λ (later : List Deed). deed_of reason (entry_of one) ∷ later) (each_deed reason rest)

each_named : (all : List Borrowed)
    → flat_map (λ entry. named_at (entry_of entry)) all ≡ flat_map named_at (map entry_of all)
each_named [] = refl
each_named (one ∷ rest) =
    ap (λ (later : List NamedCheckpoint). named_at (entry_of one) ++ later) (each_named rest)

module _ (program : Program) (all : List Borrowed) (entries : List Entry) (seen : map entry_of all ≡ entries)
    (are : entries ≡ entries_of program) where
  pub deeds_told : (reason : Reason) (deeds : List Deed)
      → deeds ≡ map (λ entry. deed_of reason (entry_of entry)) all → deeds ≡ deeds_of reason program
  deeds_told reason deeds told =
      told ∙ each_deed reason all ∙ ap (λ (xs : List Entry). map (deed_of reason) xs) (seen ∙ are)

  pub named_told : (found : List NamedCheckpoint)
      → found ≡ flat_map (λ entry. named_at (entry_of entry)) all → found ≡ checkpoints_of program
  named_told found told = told ∙ each_named all ∙ ap (λ (xs : List Entry). flat_map named_at xs) (seen ∙ are)
