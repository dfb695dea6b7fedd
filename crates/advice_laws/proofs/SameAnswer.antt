-- Lists and depths change no advice: it is that of the program with whatever is chosen.
use Rattle.std.proofs.Common.{◌≡◌, ℕ, suc, ◌==◌, Bool, ◌&&◌, IsTrue, List, [], ◌∷◌, length, Option, Some, None}
use Rattle.std.proofs.Common.{option_map, refl, ap, subst, sym, ◌∙◌}
use Rattle.gd_words.specs.Members.{is_among}
use Rattle.tal_tree.specs.declared.program.FileUse.{FileUse}
use Rattle.tal_tree.specs.declared.program.Program.{Program}
use Rattle.tal_tree.specs.declared.statement.Statement.{Statement}
use Rattle.tal_tree.specs.declared.statement.What.{What, What-F, out-What}
use Rattle.process_semantics.specs.State.{Entry, Run, Test, Last}
use Rattle.path_semantics.specs.Break.{asked_count}
use Rattle.path_semantics.specs.Place.{Stand, next_entry}
use Rattle.advice.specs.declared.answer.Advice.{Advice}
use Rattle.advice.specs.declared.answer.Advised.{Advised}
use Rattle.advice.specs.Advice.{IsDepthEnough, IsLeastDepth}
use Rattle.advice.specs.Answer.{IsLeastList, IsAnswer}
use Rattle.advice.specs.Choice.{Choice, files_with, with_choice}
use Rattle.advice.specs.Due.{is_ask, is_checkpoint_next, is_ask_next, IsItemDue, IsFileDue, IsAskedAfter}
use Rattle.advice_laws.specs.Stands.{entry_with, stand_with}
use Rattle.advice_laws.proofs.Accepting.{input-chosen, input-own}
use Rattle.advice_laws.proofs.Layers.{layer_with, layer-is}
use Rattle.advice_laws.proofs.SameBounds.{bounds-chosen, bounds-own}
use Rattle.advice_laws.proofs.SamePaths.{next-kept, leads-chosen, leads-own}
use Rattle.advice_laws.proofs.SameStatements.{checkpoint-kept, checkpoint-numbers, checkpoint-lines}

module _ (choice : Choice) where
  checkpoint-next : (number : ℕ) (next : Option Entry)
      → is_checkpoint_next number (option_map (entry_with choice) next) ≡ is_checkpoint_next number next
  checkpoint-next number None = refl
  checkpoint-next number (Some (Test statement)) = refl
  checkpoint-next number (Some (Last statement)) = refl
  checkpoint-next number (Some (Run statement)) =
      ap (λ (is : Bool). (statement.number == number) && is) (checkpoint-kept choice statement.number statement.what)

  ask-layer : (file number : ℕ) (layer : What-F What Statement)
      → is_ask file (layer_with choice number layer) ≡ is_ask file layer
  ask-layer file number (What-F.WriteRead asked buffer send room got) = refl
  ask-layer file number _ = refl

  ask-next : (file : ℕ) (next : Option Entry)
      → is_ask_next file (option_map (entry_with choice) next) ≡ is_ask_next file next
  ask-next file None = refl
  ask-next file (Some (Test statement)) = refl
  ask-next file (Some (Last statement)) = refl
  ask-next file (Some (Run statement)) = ap (is_ask file) (layer-is choice statement.number statement.what)
      ∙ ask-layer file statement.number (out-What statement.what)

  checkpoint-at : (number : ℕ) (stand : Stand)
      → is_checkpoint_next number (next_entry (stand_with choice stand)) ≡ is_checkpoint_next number (next_entry stand)
  checkpoint-at number stand =
      ap (is_checkpoint_next number) (next-kept choice stand.place) ∙ checkpoint-next number (next_entry stand)

  ask-at : (file : ℕ) (stand : Stand) → is_ask_next file (next_entry (stand_with choice stand))
      ≡ is_ask_next file (next_entry stand)
  ask-at file stand = ap (is_ask_next file) (next-kept choice stand.place) ∙ ask-next file (next_entry stand)

  module _ (program : Program) where
    abbrev chosen : Program
    chosen = with_choice program choice

    item-chosen : (number item : ℕ) → IsItemDue program number item → IsItemDue chosen number item
    item-chosen number item due = record {
      path = due.path;
      stand = stand_with choice due.stand;
      leads = leads-chosen choice program due.path due.stand due.leads;
      next = checkpoint-at number due.stand ∙ due.next;
      due = due.due;
    }

    item-own : (number item : ℕ) → IsItemDue chosen number item → IsItemDue program number item
    item-own number item due =
        let own = leads-own choice program due.path due.stand due.leads in
        record {
          path = due.path;
          stand = own.0;
          leads = own.1;
          next = sym (checkpoint-at number own.0)
              ∙ subst (λ (stand : Stand). IsTrue (is_checkpoint_next number (next_entry stand))) own.2 due.next;
          due = subst (λ (stand : Stand). IsTrue (is_among item stand.dues.globals)) own.2 due.due;
        }

    file-chosen : (number file : ℕ) → IsFileDue program number file → IsFileDue chosen number file
    file-chosen number file due = record {
      path = due.path;
      stand = stand_with choice due.stand;
      leads = leads-chosen choice program due.path due.stand due.leads;
      next = checkpoint-at number due.stand ∙ due.next;
      due = due.due;
    }

    file-own : (number file : ℕ) → IsFileDue chosen number file → IsFileDue program number file
    file-own number file due =
        let own = leads-own choice program due.path due.stand due.leads in
        record {
          path = due.path;
          stand = own.0;
          leads = own.1;
          next = sym (checkpoint-at number own.0)
              ∙ subst (λ (stand : Stand). IsTrue (is_checkpoint_next number (next_entry stand))) own.2 due.next;
          due = subst (λ (stand : Stand). IsTrue (is_among file stand.dues.asked)) own.2 due.due;
        }

    asked-chosen : (file count : ℕ) → IsAskedAfter program file count → IsAskedAfter chosen file count
    asked-chosen file count asked = record {
      path = asked.path;
      stand = stand_with choice asked.stand;
      leads = leads-chosen choice program asked.path asked.stand asked.leads;
      next = ask-at file asked.stand ∙ asked.next;
      counted = asked.counted;
    }

    asked-own : (file count : ℕ) → IsAskedAfter chosen file count → IsAskedAfter program file count
    asked-own file count asked =
        let own = leads-own choice program asked.path asked.stand asked.leads in
        record {
          path = asked.path;
          stand = own.0;
          leads = own.1;
          next = sym (ask-at file own.0) ∙ subst (λ (stand : Stand). IsTrue (is_ask_next file (next_entry stand)))
              own.2 asked.next;
          counted = subst (λ (stand : Stand). asked_count file stand.dues ≡ count) own.2 asked.counted;
        }

    enough-chosen : (file depth : ℕ) → IsDepthEnough program file depth → IsDepthEnough chosen file depth
    enough-chosen file depth enough =
        record { lowest = enough.lowest; counts = λ count asked. enough.counts count (asked-own file count asked) }

    enough-own : (file depth : ℕ) → IsDepthEnough chosen file depth → IsDepthEnough program file depth
    enough-own file depth enough =
        record { lowest = enough.lowest; counts = λ count asked. enough.counts count (asked-chosen file count asked) }

    least-chosen : (file depth : ℕ) → IsLeastDepth program file depth → IsLeastDepth chosen file depth
    least-chosen file depth least = record {
      enough = enough-chosen file depth least.enough;
      least = λ other enough. least.least other (enough-own file other enough);
    }

    least-own : (file depth : ℕ) → IsLeastDepth chosen file depth → IsLeastDepth program file depth
    least-own file depth least = record {
      enough = enough-own file depth least.enough;
      least = λ other enough. least.least other (enough-chosen file other enough);
    }

    list-chosen : (one : Advised) → IsLeastList program one → IsLeastList chosen one
    list-chosen one list = record {
      items = λ item. (
        (λ named. item-chosen one.statement item ((list.items item).0 named)),
        (λ due. (list.items item).1 (item-own one.statement item due)),
      );
      files = λ file. (
        (λ named. file-chosen one.statement file ((list.files file).0 named)),
        (λ due. (list.files file).1 (file-own one.statement file due)),
      );
      ascending_items = list.ascending_items;
      ascending_files = list.ascending_files;
    }

    list-own : (one : Advised) → IsLeastList chosen one → IsLeastList program one
    list-own one list = record {
      items = λ item. (
        (λ named. item-own one.statement item ((list.items item).0 named)),
        (λ due. (list.items item).1 (item-chosen one.statement item due)),
      );
      files = λ file. (
        (λ named. file-own one.statement file ((list.files file).0 named)),
        (λ due. (list.files file).1 (file-chosen one.statement file due)),
      );
      ascending_items = list.ascending_items;
      ascending_files = list.ascending_files;
    }

    length-kept : (place : ℕ) (files : List FileUse) → length (files_with choice place files) ≡ length files
    length-kept place [] = refl
    length-kept place (file ∷ rest) = ap (λ (n : ℕ). suc n) (length-kept (suc place) rest)

    pub answer-chosen : (advice : Advice) → IsAnswer program advice → IsAnswer chosen advice
    answer-chosen advice answer = record {
      bounds = bounds-chosen choice program answer.bounds;
      input = λ path broken. let own = input-own choice program path broken in answer.input own.0 own.1;
      numbers = answer.numbers ∙ sym (checkpoint-numbers choice program);
      lines = answer.lines ∙ sym (checkpoint-lines choice program);
      lists = λ one among. list-chosen one (answer.lists one among);
      count = answer.count ∙ sym (length-kept 0 program.files);
      depths = λ file depth there. least-chosen file depth (answer.depths file depth there);
      few = answer.few;
    }

    pub answer-own : (advice : Advice) → IsAnswer chosen advice → IsAnswer program advice
    answer-own advice answer = record {
      bounds = bounds-own choice program answer.bounds;
      input = λ path broken. let there = input-chosen choice program path broken in answer.input there.0 there.1;
      numbers = answer.numbers ∙ checkpoint-numbers choice program;
      lines = answer.lines ∙ checkpoint-lines choice program;
      lists = λ one among. list-own one (answer.lists one among);
      count = answer.count ∙ length-kept 0 program.files;
      depths = λ file depth there. least-own file depth (answer.depths file depth there);
      few = answer.few;
    }
