-- A printed CHECKPOINT reads back.
use Rattle.std.proofs.Common.{◌≡◌, ◌≤◌, ℕ, suc, List, [], ◌∷◌, refl, ap, ◌∙◌, arith, subst}
use Rattle.std.specs.Prelude.{Option, Some}
use Rattle.tal_tree.specs.declared.program.Program.{Program}
use Rattle.tal_tree.specs.declared.statement.What.TheVariants as what
use Rattle.tal_tokens.specs.declared.token.At.{At}
use Rattle.tal_tokens.specs.declared.token.Token.{Token}
use Rattle.tal_syntax.specs.Grammar as g
use Rattle.tal_syntax.specs.Expected.{AllAtMost}
use Rattle.tal_syntax.specs.Nesting.{nest_further}
use Rattle.tal_names.specs.declared.fault.Rule.TheVariants.{Twice}
use Rattle.tal_names.specs.declared.meaning.Meaning.{Meaning}
use Rattle.tal_names.specs.declared.meaning.Need.TheVariants as need
use Rattle.tal_declarations.specs.declared.table.Files.{Files}
use Rattle.tal_names.specs.declared.scope.Scope.{Scope}
use Rattle.tal_rules.specs.declared.walk.Walk.{Walk}
use Rattle.tal_names.specs.declared.system.System.TheVariants as system
use Rattle.tal_rules.specs.Calls.{checkpoint_faults}
use Rattle.tal_names.specs.Faults.{fault_at, if_so}
use Rattle.tal_names.specs.Names.{Declarations}
use Rattle.tal_names.specs.Places.{further_arguments}
use Rattle.tal_names.specs.Scopes.{meaning_of, kind_faults}
use Rattle.tal_rules.specs.Statements.{next_walk}
use Rattle.tal_meaning.specs.Calls.{items_named, files_named, with_item, with_process}
use Rattle.tal_pieces.specs.declared.piece.Piece.{Piece}
use Rattle.tal_pieces.specs.declared.piece.Piece.TheVariants as piece
use Rattle.tal_pieces.specs.Cuts.{AreTokens}
use Rattle.tal_pieces.specs.Printed.Names.{named}
use Rattle.tal_pieces.specs.Printed.Statements.{close, more_items, more_files, what_pieces}
use Rattle.tal_pieces.proofs.Values.Back.{first}
use Rattle.tal_pieces.proofs.Bodies.Fronts.{behind}
use Rattle.tal_pieces.proofs.Bodies.PartsBack.{lone_name}
use Rattle.tal_pieces.proofs.Standing.Stands.{IsCounted, simple, array, Mentions, none, file, item, IsItem}
use Rattle.tal_pieces.proofs.Bodies.StatementsBack.{StatementBack}
use Rattle.tal_pieces.proofs.Bodies.SystemCallBack.{called_back, system_back}
use Rattle.tal_faultless.proofs.Common.Faultless.{nils}

-- an item may be named, and is one and no file
kept_item : (at : At) (number : ℕ) (found : Option Meaning) → IsItem number found → kind_faults need.Kept at found ≡ []
kept_item at number _ simple = refl
kept_item at number _ array = refl

one_item : (number : ℕ) (rest : List ℕ) (found : Option Meaning) → IsItem number found
    → with_item found rest ≡ number ∷ rest
one_item number rest _ simple = refl
one_item number rest _ array = refl

no_file : (number : ℕ) (rest : List ℕ) (found : Option Meaning) → IsItem number found → with_process found rest ≡ rest
no_file number rest _ simple = refl
no_file number rest _ array = refl

-- the pieces of a name that is there
as_name : {found : Option (List ℕ)} {name : List ℕ} {ks : List Piece} {tokens : List Token} → found ≡ Some name
    → AreTokens (named found ks) tokens
    → AreTokens (piece.Name name ∷ ks) tokens
as_name {ks = ks} {tokens = tokens} is a = subst (λ o. AreTokens (named o ks) tokens) is a

module _ (p : Program) (locals : List (List ℕ)) (s : Scope) where
  -- the tokens begin with further names, of these items and files, with these names before them
  record MentionsBack (before : Declarations) (items files : List ℕ) (ks : List Piece) (tokens : List Token) :
      Type 0 where
    syntax : g.Further
    rest : List Token
    front : tokens ≡ g.of_further syntax rest
    later : AreTokens ks rest
    same_items : items_named s (further_arguments syntax) ≡ items
    same_files : files_named s (further_arguments syntax) ≡ files
    faultless : checkpoint_faults s before (further_arguments syntax) ≡ []
    shallow : (n : ℕ) (ls : List ℕ) → n ≤ 33 → AllAtMost 33 ls → AllAtMost 33 (nest_further n syntax ls)

  mentions_back : {before : Declarations} {items files : List ℕ} → Mentions p locals s before items files
      → (ks : List Piece) (tokens : List Token)
      → AreTokens (more_items p items (more_files p files ks)) tokens → MentionsBack before items files ks tokens
  mentions_back none ks tokens a = record {
    syntax = g.no_further;
    rest = tokens;
    front = refl;
    later = a;
    same_items = refl;
    same_files = refl;
    faultless = refl;
    shallow = λ n ls room held. held;
  }
  mentions_back (file number name is means new others) ks tokens a =
      let c = first a in
      let x = first (as_name is c.later) in
      let b = mentions_back others ks x.rest x.later in
      record {
        syntax = g.more_further c.at (g.value (lone_name x.at name)) b.syntax;
        rest = b.rest;
        front = behind c.is (behind x.is b.front);
        later = b.later;
        same_items = ap (λ found. with_item found (items_named s (further_arguments b.syntax))) means ∙ b.same_items;
        same_files = λ i. with_process (means i) (b.same_files i);
        faultless = nils (nils (ap (kind_faults need.Kept x.at) means)
            (ap (λ twice. if_so twice (fault_at x.at Twice)) new)) b.faultless;
        shallow = λ n ls room held. (room, (room, b.shallow n ls room held));
      }
  mentions_back (item {number = number} name is means new others) ks tokens a =
      let c = first a in
      let x = first (as_name is c.later) in
      let b = mentions_back others ks x.rest x.later in
      record {
        syntax = g.more_further c.at (g.value (lone_name x.at name)) b.syntax;
        rest = b.rest;
        front = behind c.is (behind x.is b.front);
        later = b.later;
        same_items = one_item number (items_named s (further_arguments b.syntax)) (meaning_of s name) means
            ∙ ap (λ xs. number ∷ xs) b.same_items;
        same_files =
            no_file number (files_named s (further_arguments b.syntax)) (meaning_of s name) means ∙ b.same_files;
        faultless = nils (nils (kept_item x.at number (meaning_of s name) means)
            (ap (λ twice. if_so twice (fault_at x.at Twice)) new)) b.faultless;
        shallow = λ n ls room held. (room, (room, b.shallow n ls room held));
      }

module _ (p : Program) (locals : List (List ℕ)) (s : Scope) (f : Files) where
  -- a CHECKPOINT of these reads back
  abbrev Back : ℕ → Walk → ℕ → List ℕ → List ℕ → List Piece → List Token → Type 0
  Back n w line items files ks tokens =
      StatementBack s f n w (record { number = w.number; line = line; what = what.Checkpoint items files } ∷ [])
      (next_walk w) ks tokens

  pub checkpoint_none : (n : ℕ) (w : Walk) (line : ℕ) (ks : List Piece) (tokens : List Token) → IsCounted w → suc n ≤ 33
      → AreTokens (what_pieces p locals (what.Checkpoint [] []) ks) tokens → Back n w line [] [] ks tokens
  checkpoint_none n w line ks tokens count room a =
      let c = called_back system.Checkpoint ks tokens a in
      system_back s f n w (next_walk w) line system.Checkpoint (what.Checkpoint [] []) ks ks tokens count
      room c (record {
        syntax = g.unlisted;
        rest = c.rest;
        front = refl;
        later = c.later;
        same = refl;
        next = refl;
        faultless = λ at. refl;
        shallow = λ ls held. held;
        opened = refl;
      })

  pub checkpoint_back : {items files : List ℕ} (n : ℕ) (w : Walk) (line : ℕ) (ks : List Piece) (tokens : List Token)
      → IsCounted w → suc (suc n) ≤ 33
      → Mentions p locals s [] items files → AreTokens (what_pieces p locals (what.Checkpoint items files) ks) tokens
      → Back n w line items files ks tokens
  checkpoint_back n w line ks tokens count deep none a =
      checkpoint_none n w line ks tokens count (omega (arith, deep)) a
  checkpoint_back n w line ks tokens count deep (file {number = number} place name is means new others) a =
      let c = called_back system.Checkpoint _ tokens a in
      let o = first c.later in
      let x = first (as_name is o.later) in
      let b = mentions_back p locals s others (close ks) x.rest x.later in
      let z = first b.later in
      system_back s f n w (next_walk w) line system.Checkpoint (what.Checkpoint _ _) ks _ tokens count
      (omega (arith, deep)) c (record {
        syntax = g.listed o.at (g.value (lone_name x.at name)) b.syntax z.at;
        rest = z.rest;
        front = behind o.is (behind x.is (b.front ∙ ap (g.of_further b.syntax) z.is));
        later = z.later;
        same = λ i. what.Checkpoint ((ap (λ found. with_item found (items_named s (further_arguments b.syntax))) means
            ∙ b.same_items) i) (with_process (means i) (b.same_files i));
        next = refl;
        faultless = λ at. nils (nils (ap (kind_faults need.Kept x.at) means)
            (ap (λ twice. if_so twice (fault_at x.at Twice)) new)) b.faultless;
        shallow = λ ls held. (deep, (deep, b.shallow (suc (suc n)) (suc (suc n) ∷ ls) deep (deep, held)));
        opened = refl;
      })
  checkpoint_back n w line ks tokens count deep (item {number = number} name is means new others) a =
      let c = called_back system.Checkpoint _ tokens a in
      let o = first c.later in
      let x = first (as_name is o.later) in
      let b = mentions_back p locals s others (close ks) x.rest x.later in
      let z = first b.later in
      system_back s f n w (next_walk w) line system.Checkpoint (what.Checkpoint _ _) ks _ tokens count
      (omega (arith, deep)) c (record {
        syntax = g.listed o.at (g.value (lone_name x.at name)) b.syntax z.at;
        rest = z.rest;
        front = behind o.is (behind x.is (b.front ∙ ap (g.of_further b.syntax) z.is));
        later = z.later;
        same = λ i. what.Checkpoint ((one_item number (items_named s (further_arguments b.syntax)) (meaning_of s name)
            means ∙ ap (λ xs. number ∷ xs) b.same_items) i)
            ((no_file number (files_named s (further_arguments b.syntax)) (meaning_of s name) means ∙ b.same_files) i);
        next = refl;
        faultless = λ at. nils (nils (kept_item x.at number (meaning_of s name) means)
            (ap (λ twice. if_so twice (fault_at x.at Twice)) new)) b.faultless;
        shallow = λ ls held. (deep, (deep, b.shallow (suc (suc n)) (suc (suc n) ∷ ls) deep (deep, held)));
        opened = refl;
      })
