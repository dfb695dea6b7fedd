-- An event line of the grammar adds the line that it asks for.
use Rattle.std.proofs.Common.{◌≡◌, ℕ, ◌+◌, ◌<◌, ◌≤◌, Bool, true, false, cond, nat_eq, nat_lt, ◌||◌, List, length}
use Rattle.std.proofs.Common.{Option, Some, None, option_map, Result, Ok, Err, refl, sym, ap, ◌∙◌, subst, arith, inl}
use Rattle.std.proofs.Common.{inr}
use Rattle.std.proofs.lemmas.Bool.{le-ltb, lt-ltb, eq-eqb, or_right}
use Rattle.name_table.specs.Entries.{place_of}
use Rattle.schedule.specs.declared.event.DriveChange.TheVariants.{Copy}
use Rattle.schedule.specs.declared.event.Event.TheVariants as event
use Rattle.schedule.specs.declared.line.Line.{Line}
use Rattle.schedule.specs.declared.line.Line.TheVariants as line
use Rattle.tal_tree.specs.declared.site.Site.{Site}
use Rattle.deck_lines.specs.declared.event_saying.EventSaying.{EventSaying}
use Rattle.deck_lines.specs.declared.event_saying.EventSaying.TheVariants as asked
use Rattle.deck_reader.specs.EventLineOf.{event_line, mirror_of}
use Rattle.deck_reader.specs.LineFaults.{asks, more_rounds, more_singles}
use Rattle.deck_reader.specs.Schedules.{IsLineOf, IsNodeOf, rounds_in, singles_in}
use Rattle.deck_reader.specs.declared.line_fault.LineFault.{LineFault}
use Rattle.deck_reader.specs.declared.line_fault.LineFault.TheVariants as fault
use Rattle.deck_reader.specs.declared.outline.Outline.{Outline}
use Rattle.deck_reader.specs.declared.outline.Sums.{Sums}
use Rattle.deck_grammar.specs.Spells.{line_of, mirror_at, process_at, terminal_at}
use Rattle.deck_grammar.proofs.Looked.{AreThere}
use Rattle.tal_tree.specs.declared.limit.DeckLimit.TheVariants as deck_limit

some_same : {X : Type 0} (x y : X) → Some x ≡ Some y → x ≡ y
some_same x y e = cc

mapped : {X Y : Type 0} (f : X → Y) (o : Option X) (y : Y) → option_map f o ≡ Some y
    → (x : X) × (o ≡ Some x) × (f x ≡ y)
mapped f None y e = absurd (cc)
mapped f (Some x) y e = (x, refl, some_same (f x) y e)

-- so many more single events and rounds are asked for
abbrev pub IsMoreBy : Sums → ℕ → ℕ → Result Sums LineFault → Type 0
IsMoreBy sums singles rounds told =
    (next : Sums) × (told ≡ Ok next) × (next.singles ≡ sums.singles + singles) × (next.rounds ≡ sums.rounds + rounds)

singles_more : (sums : Sums) (more : ℕ) → sums.singles + more ≤ 1000000 → IsMoreBy sums more 0 (more_singles sums more)
singles_more sums more few =
    let test = le-ltb 1000000 (sums.singles + more) few in
    let next : Sums = record { singles = sums.singles + more; rounds = sums.rounds } in
    (next, (λ i. cond (test i) (Err (fault.Limit deck_limit.Singles)) (Ok next)), refl, omega arith)

rounds_more : (sums : Sums) (more : ℕ) → sums.rounds + more ≤ 100000 → IsMoreBy sums 0 more (more_rounds sums more)
rounds_more sums more few =
    let test = le-ltb 100000 (sums.rounds + more) few in
    let next : Sums = record { singles = sums.singles; rounds = sums.rounds + more } in
    (next, (λ i. cond (test i) (Err (fault.Limit deck_limit.Rounds)) (Ok next)), omega arith, refl)

-- a test that passes changes nothing
where_true : (sums : Sums) (m n : ℕ) (b : Bool) (told : Result Sums LineFault) (why : LineFault) → b ≡ true
    → IsMoreBy sums m n told → IsMoreBy sums m n (cond b told (Err why))
where_true sums m n b told why e more = (more.0, ap (λ (c : Bool). cond c told (Err why)) e ∙ more.1, more.2, more.3)

where_false : (sums : Sums) (m n : ℕ) (b : Bool) (told : Result Sums LineFault) (why : LineFault) → b ≡ false
    → IsMoreBy sums m n told → IsMoreBy sums m n (cond b (Err why) told)
where_false sums m n b told why e more = (more.0, ap (λ (c : Bool). cond c (Err why) told) e ∙ more.1, more.2, more.3)

tick_there : (processors node : ℕ) → IsNodeOf processors node → (nat_lt node processors || nat_eq node 16) ≡ true
tick_there processors node (inl below) = ap (λ (b : Bool). b || nat_eq node 16) (lt-ltb node processors below)
tick_there processors node (inr same) = or_right (nat_lt node processors) (nat_eq node 16) (eq-eqb node 16 same)

module _ (outline : Outline) (site : Site) (sums : Sums) (same : outline.processors ≡ site.processors)
    (processes : AreThere outline.processes site)
    (terminals : (name : List ℕ) → place_of outline.terminals name ≡ terminal_at site name)
    (mirrors : (name : List ℕ) → mirror_of outline.processes name ≡ mirror_at site name) where
  -- the line is added, and what it asks for
  abbrev pub IsAdded : EventSaying → Line → Type 0
  IsAdded saying told = IsLineOf site.processors (length site.processes) (length site.terminals) told
      → sums.singles + singles_in told ≤ 1000000 → sums.rounds + rounds_in told ≤ 100000
      → (event_line outline saying ≡ Some told)
      × IsMoreBy sums (singles_in told) (rounds_in told) (asks outline.processors sums saying)

  node_there : (node : ℕ) → node < site.processors → nat_lt node outline.processors ≡ true
  node_there node below = lt-ltb node outline.processors (omega (arith, below, same))

  pub line_added : (saying : EventSaying) (told : Line) → line_of site saying ≡ Some told → IsAdded saying told
  line_added (asked.Run name) told e =
      let found = mapped (λ (place : ℕ). line.One (event.Run place)) (process_at site name) told e in
      subst (IsAdded (asked.Run name)) found.2
      (λ of few brief. (
        ap (option_map (λ (place : ℕ). line.One (event.Run place))) (processes name ∙ found.1),
        singles_more sums 1 few,
      ))
  line_added (asked.RunTimes name times) told e =
      let found = mapped (λ (place : ℕ). line.Many (event.Run place) times) (process_at site name) told e in
      subst (IsAdded (asked.RunTimes name times)) found.2
      (λ of few brief.
      let some = le-ltb times 1 of.1 in (
        ap (λ (c : Bool). cond c None (option_map (λ (place : ℕ). line.Many (event.Run place) times)
            (place_of outline.processes name))) some
            ∙ ap (option_map (λ (place : ℕ). line.Many (event.Run place) times)) (processes name ∙ found.1),
        where_false sums times 0 (nat_lt times 1) (more_singles sums times) fault.Form some
            (singles_more sums times few),
      ))
  line_added (asked.Enter name) told e =
      let found = mapped (λ (place : ℕ). line.One (event.Enter place)) (terminal_at site name) told e in
      subst (IsAdded (asked.Enter name)) found.2
      (λ of few brief. (
        ap (option_map (λ (place : ℕ). line.One (event.Enter place))) (terminals name ∙ found.1),
        singles_more sums 1 few,
      ))
  line_added (asked.Deliver packet) told e =
      subst (IsAdded (asked.Deliver packet)) (some_same _ told e) (λ of few brief. (refl, singles_more sums 1 few))
  line_added (asked.Lose packet) told e =
      subst (IsAdded (asked.Lose packet)) (some_same _ told e) (λ of few brief. (refl, singles_more sums 1 few))
  line_added (asked.Repeat packet) told e =
      subst (IsAdded (asked.Repeat packet)) (some_same _ told e) (λ of few brief. (refl, singles_more sums 1 few))
  line_added (asked.Tick node) told e =
      subst (IsAdded (asked.Tick node)) (some_same _ told e)
      (λ of few brief.
      let there = tick_there outline.processors node (subst (λ (n : ℕ). IsNodeOf n node) (sym same) of) in (
        ap (λ (c : Bool). cond c (Some (line.One (event.Tick node))) None) there,
        where_true sums 1 0 (nat_lt node outline.processors || nat_eq node 16) (more_singles sums 1) fault.NoProcessor
            there (singles_more sums 1 few),
      ))
  line_added (asked.Fail processor) told e =
      subst (IsAdded (asked.Fail processor)) (some_same _ told e)
      (λ of few brief.
      let there = node_there processor of in (
        ap (λ (c : Bool). cond c (Some (line.One (event.Fail processor))) None) there,
        where_true sums 1 0 (nat_lt processor outline.processors) (more_singles sums 1) fault.NoProcessor there
            (singles_more sums 1 few),
      ))
  line_added (asked.Reload processor) told e =
      subst (IsAdded (asked.Reload processor)) (some_same _ told e)
      (λ of few brief.
      let there = node_there processor of in (
        ap (λ (c : Bool). cond c (Some (line.One (event.Reload processor))) None) there,
        where_true sums 1 0 (nat_lt processor outline.processors) (more_singles sums 1) fault.NoProcessor there
            (singles_more sums 1 few),
      ))
  line_added (asked.Drive name drive change) told e =
      let one = λ (place : ℕ). line.One (event.Drive (record { process = place; drive = drive; change = change })) in
      let found = mapped one (mirror_at site name) told e in
      subst (IsAdded (asked.Drive name drive change)) found.2
      (λ of few brief. (ap (option_map one) (mirrors name ∙ found.1), singles_more sums 1 few))
  line_added (asked.CopyTimes name drive times) told e =
      let many = λ (place : ℕ). line.Many (event.Drive (record { process = place; drive = drive; change = Copy }))
      times in
      let found = mapped many (mirror_at site name) told e in
      subst (IsAdded (asked.CopyTimes name drive times)) found.2
      (λ of few brief.
      let some = le-ltb times 1 of.1 in (
        ap (λ (c : Bool). cond c None (option_map many (mirror_of outline.processes name))) some
            ∙ ap (option_map many) (mirrors name ∙ found.1),
        where_false sums times 0 (nat_lt times 1) (more_singles sums times) fault.Form some
            (singles_more sums times few),
      ))
  line_added (asked.Drain rounds) told e =
      subst (IsAdded (asked.Drain rounds)) (some_same _ told e) (λ of few brief. (refl, rounds_more sums rounds brief))
  line_added (asked.Mix start rounds) told e =
      subst (IsAdded (asked.Mix start rounds)) (some_same _ told e)
      (λ of few brief. (refl, rounds_more sums rounds brief))
  line_added (asked.Mute processor rounds) told e =
      subst (IsAdded (asked.Mute processor rounds)) (some_same _ told e)
      (λ of few brief.
      let there = node_there processor of in (
        ap (λ (c : Bool). cond c (Some (line.Mute processor rounds)) None) there,
        where_true sums 0 rounds (nat_lt processor outline.processors) (more_rounds sums rounds) fault.NoProcessor
            there (rounds_more sums rounds brief),
      ))
  line_added (asked.Until writes count rounds) told e =
      subst (IsAdded (asked.Until writes count rounds)) (some_same _ told e)
      (λ of few brief. (refl, rounds_more sums rounds brief))
