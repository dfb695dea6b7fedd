-- What copies and terminals have, gathered one after another.
use Rattle.std.proofs.Common.{◌≡◌, ℕ, zero, suc, ◌+◌, ◌<◌, ◌==◌, true, if◌then◌else◌, List, [], ◌∷◌, ◌++◌}
use Rattle.std.proofs.Common.{drop, flat_map, get_or, length, take}
use Rattle.std.proofs.Common.{Option, Some, None, option_to_list, slice_get, refl, ap, subst, sym, ◌∙◌, arith}
use Rattle.std.proofs.Common.{append_assoc}
use Rattle.std.proofs.lemmas.Option.{slice_get_read}
use Rattle.gd_words.specs.declared.message.Request.{Request}
use Rattle.world_copies.specs.tal_tree.specs.declared.site.Site.{Site}
use Rattle.world_copies.specs.sync_ids.specs.Tables.{IsSound, Remembered, are_of_depths, can_hold, is_unanswered}
use Rattle.world_copies.specs.sync_ids.specs.Tables.{last_taken}
use Rattle.world_copies.specs.sync_ids.proofs.Tables.{and-left, and-right, lengths}
use Rattle.world_copies.specs.world_semantics.specs.checkpoint_image.specs.declared.receive.OpenerBlock.{OpenerBlock}
use Rattle.world_copies.specs.world_semantics.specs.World.{Copy, Terminal, World, terminal_node}
use Rattle.world_copies.specs.world_semantics.proofs.Lists.{some-same}
use Rattle.world_copies.specs.sendings.specs.letters.specs.Again.{awaited_from}
use Rattle.world_copies.specs.process_copies.specs.Seen.{Placed}
use Rattle.world_copies.specs.Seen.{ArePlaced, pairs_in}
use Rattle.node_needs.specs.standing_links.specs.Needs.{Name, Needs}
use Rattle.node_needs.specs.NodeNeeds.{awaited_at, in_hand_at, in_hand_by, needs_at, of_copies, of_terminals}
use Rattle.node_needs.specs.NodeNeeds.{waiting_at}
use Rattle.open_links.specs.Parts.{awaited_by_terminal, awaited_of, in_hand_of, waiting_of}

-- Processes

-- what is left at a place begins with what stands there
left : {A : Type 0} (xs : List A) (k : ℕ) (x : A) → slice_get xs k ≡ Some x → drop k xs ≡ x ∷ drop (k + 1) xs
left [] k x there = absurd (cc)
left (y ∷ xs) zero x there = ap (λ one. one ∷ xs) (some-same there)
left (y ∷ xs) (suc k) x there = let e : suc k + 1 ≡ suc (k + 1) = omega arith in rw e (left xs k x there)

-- once what the process at a place gives was added, what is left comes after it
pub process-step : {A : Type 0} (f : Placed → List A) (places : List Placed) (k : ℕ) (one : Placed)
    (told more a b : List A) → k < length places → one ≡ get_or places k one → f one ≡ a ++ b → more ≡ told ++ a ++ b
    → told ++ flat_map f (drop k places) ≡ more ++ flat_map f (drop (k + 1) places)
process-step {A} f places k one told more a b within at gives says =
    let there : slice_get places k ≡ Some one = slice_get_read places (length places) k one refl within at in
    let rest : List A = flat_map f (drop (k + 1) places) in
    ap (λ (all : List Placed). told ++ flat_map f all) (left places k one there)
    ∙ ap (λ (those : List A). told ++ (those ++ rest)) gives
    ∙ sym (append_assoc told (a ++ b) rest)
    ∙ ap (λ (all : List A). all ++ rest) (sym (append_assoc told a b) ∙ sym says)

-- what all processes of places give is what all copies of a world have
pub of-places : {A : Type 0} (f : ℕ → Copy → List A) (g : Placed → List A) (n : ℕ) (places : List Placed)
    → ((k : ℕ) (one : Placed) → slice_get places k ≡ Some one
    → g one ≡ f (n + k) one.pair.first ++ f (n + k) one.pair.second)
    → flat_map g places ≡ of_copies f n (pairs_in places)
of-places f g n [] gives = refl
of-places {A} f g n (one ∷ places) gives =
    let here : n + zero ≡ n = omega arith in
    ap (λ (those : List A). those ++ flat_map g places)
    (gives zero one refl ∙ ap (λ (m : ℕ). f m one.pair.first ++ f m one.pair.second) here)
    ∙ ap (λ (those : List A). f n one.pair.first ++ f n one.pair.second ++ those)
    (of-places f g (n + 1) places (λ k other there.
    let further : n + suc k ≡ n + 1 + k = omega arith in
    gives (suc k) other there ∙ ap (λ (m : ℕ). f m other.pair.first ++ f m other.pair.second) further))

-- Requests that wait

take-next : {A : Type 0} (xs : List A) (k : ℕ) → take (k + 1) xs ≡ take k xs ++ option_to_list (slice_get xs k)
take-next [] zero = refl
take-next [] (suc k) = let e : suc k + 1 ≡ suc (k + 1) = omega arith in rw e refl
take-next (x ∷ xs) zero = refl
take-next (x ∷ xs) (suc k) =
    let e : suc k + 1 ≡ suc (k + 1) = omega arith in rw e (ap (λ rest. x ∷ rest) (take-next xs k))

-- once the one at a place was added, as many more are there
pub place-step : {A : Type 0} (first : List A) (xs : List A) (k : ℕ) (told more : List A) → told ≡ first ++ take k xs
    → more ≡ told ++ option_to_list (slice_get xs k) → more ≡ first ++ take (k + 1) xs
place-step {A} first xs k told more so_far says =
    says ∙ ap (λ (all : List A). all ++ option_to_list (slice_get xs k)) so_far
    ∙ append_assoc first (take k xs) (option_to_list (slice_get xs k))
    ∙ ap (λ (all : List A). first ++ all) (sym (take-next xs k))

-- Terminals

terminals-more : (site : Site) (n k : ℕ) (terminals : List Terminal)
    → of_terminals (awaited_from site) n (drop k terminals)
    ≡ awaited_by_terminal site n (slice_get terminals k)
    ++ of_terminals (awaited_from site) (n + 1) (drop (k + 1) terminals)
terminals-more site n zero [] = refl
terminals-more site n (suc k) [] = let e : suc k + 1 ≡ suc (k + 1) = omega arith in rw e refl
terminals-more site n zero (terminal ∷ terminals) = refl
terminals-more site n (suc k) (terminal ∷ terminals) =
    let e : suc k + 1 ≡ suc (k + 1) = omega arith in rw e (terminals-more site n k terminals)

-- once what the terminal at a place awaits was added, what is left leads to the same
pub terminal-step : (site : Site) (k : ℕ) (terminals : List Terminal) (told more : List Request)
    → more ≡ told ++ awaited_by_terminal site k (slice_get terminals k)
    → more ++ of_terminals (awaited_from site) (k + 1) (drop (k + 1) terminals)
    ≡ told ++ of_terminals (awaited_from site) k (drop k terminals)
terminal-step site k terminals told more says =
    let rest : List Request = of_terminals (awaited_from site) (k + 1) (drop (k + 1) terminals) in
    ap (λ (all : List Request). all ++ rest) says
    ∙ append_assoc told (awaited_by_terminal site k (slice_get terminals k)) rest
    ∙ ap (λ (all : List Request). told ++ all) (sym (terminals-more site k k terminals))

-- Requests in hand

unanswered : (block : Option OpenerBlock) → is_unanswered block ≡ true → (b : OpenerBlock) × (block ≡ Some b)
unanswered None is = absurd (cc)
unanswered (Some block) is = (block, refl)

below : {A : Type 0} (xs : List A) (k : ℕ) (x : A) → slice_get xs k ≡ Some x → k < length xs
below [] k x there = absurd (cc)
below (y ∷ xs) zero x there = omega arith
below (y ∷ xs) (suc k) x there = let less = below xs k x there in omega (arith, less)

module _ (receive : Remembered) (place : ℕ) (sound : IsSound receive) (held : Some place ≡ receive.table.in_hand) where
  held-block : (b : OpenerBlock) × (slice_get receive.table.openers place ≡ Some b)
  held-block =
      unanswered (slice_get receive.table.openers place)
      (ap (can_hold receive.table.openers) held
      ∙ and-right (are_of_depths receive.table.openers receive.depths)
      (can_hold receive.table.openers receive.table.in_hand) sound.table)

  -- the opener of the request in hand is one of those that there are
  pub held-there : place < length receive.depths
  held-there =
      subst (λ (n : ℕ). place < n)
      (lengths receive.table.openers receive.depths
      (and-left (are_of_depths receive.table.openers receive.depths)
      (can_hold receive.table.openers receive.table.in_hand) sound.table))
      (below receive.table.openers place held-block.0 held-block.1)

  -- and the request is the one that was last taken from it
  pub held-name : (number : ℕ)
      → record { process = number; opener = place; number = last_taken receive.table place } ∷ []
      ≡ in_hand_by number receive.table receive.table.in_hand
  held-name number =
      let block = held-block in
      rw (sym held, block.1) refl

-- All of it

abbrev made : List Request → List Name → List Request → Needs
made waiting in_hand awaited = record { waiting = waiting; in_hand = in_hand; awaited = awaited }

module _ (site : Site) (w : World) (node : ℕ) (places : List Placed) (placed : ArePlaced site places)
    (pairs : pairs_in places ≡ w.processes) where
  waiting-is : flat_map (waiting_of node) places ≡ (needs_at site w node).waiting
  waiting-is =
      of-places (λ number copy. waiting_at node copy) (waiting_of node) 0 places (λ k one there. refl)
      ∙ ap (of_copies (λ number copy. waiting_at node copy) 0) pairs

  in_hand-is : flat_map (in_hand_of node) places ≡ (needs_at site w node).in_hand
  in_hand-is =
      of-places (in_hand_at node) (in_hand_of node) 0 places
      (λ k one there.
      let number : one.number ≡ 0 + k = (placed k one there).1 ∙ omega arith in
      ap (λ (m : ℕ). in_hand_at node m one.pair.first ++ in_hand_at node m one.pair.second) number)
      ∙ ap (of_copies (in_hand_at node) 0) pairs

  awaited-is : flat_map (awaited_of node) places ≡ of_copies (awaited_at site node) 0 w.processes
  awaited-is =
      of-places (awaited_at site node) (awaited_of node) 0 places
      (λ k one there.
      let number : one.number ≡ 0 + k = (placed k one there).1 ∙ omega arith in
      ap (λ (s : Site). awaited_at s node one.number one.pair.first ++ awaited_at s node one.number one.pair.second)
      (placed k one there).0
      ∙ ap (λ (m : ℕ). awaited_at site node m one.pair.first ++ awaited_at site node m one.pair.second) number)
      ∙ ap (of_copies (awaited_at site node) 0) pairs

  pub links-are : (waiting : List Request) (in_hand : List Name) (awaited all : List Request)
      → waiting ≡ flat_map (waiting_of node) places → in_hand ≡ flat_map (in_hand_of node) places
      → awaited ≡ flat_map (awaited_of node) places
      → all ≡ awaited ++ (if node == terminal_node then of_terminals (awaited_from site) 0 w.terminals else [])
      → made waiting in_hand all ≡ needs_at site w node
  links-are waiting in_hand awaited all waits holds asks more =
      ap (λ (l : List Request). made l in_hand all) (waits ∙ waiting-is)
      ∙ ap (λ (l : List Name). made (needs_at site w node).waiting l all) (holds ∙ in_hand-is)
      ∙ ap (λ (l : List Request). made (needs_at site w node).waiting (needs_at site w node).in_hand l)
      (more
      ∙ ap (λ (l : List Request). l ++ (if node == terminal_node then of_terminals (awaited_from site) 0 w.terminals
      else [])) (asks ∙ awaited-is))
