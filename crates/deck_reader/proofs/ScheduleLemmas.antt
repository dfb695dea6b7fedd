-- What the event lines of a deck ask for together, with one more.
use Rattle.std.proofs.Common.{◌≡◌, ℕ, ◌+◌, ◌<◌, ◌≤◌, Bool, true, false, cond, nat_eq, nat_lt, ◌||◌, inl, inr, List, []}
use Rattle.std.proofs.Common.{◌∷◌, ◌++◌, length, Option, Some, None, option_map, Result, Ok, Err, refl, subst, arith}
use Rattle.std.specs.Prelude.{option_and_then, position}
use Rattle.std.proofs.lemmas.Bool.{ltb-true}
use Rattle.std.proofs.lemmas.Bool.Decides.{nat_tests}
use Rattle.name_table.specs.Entries.{Named, place_of}
use Rattle.schedule.specs.declared.event.DriveChange.TheVariants.{Copy}
use Rattle.schedule.specs.declared.event.Event.TheVariants as event
use Rattle.schedule.specs.declared.line.Line.{Line}
use Rattle.schedule.specs.declared.line.Line.TheVariants as told
use Rattle.deck_reader.specs.EventLineOf.{event_line, is_mirror_there, lines_at, mirror_of}
use Rattle.deck_reader.specs.LineFaults.{asks, more_singles, more_rounds}
use Rattle.deck_reader.specs.Schedules.{IsLineOf, IsNodeOf, singles_in, rounds_in, singles_of, rounds_of}
use Rattle.deck_lines.specs.declared.event_saying.EventSaying.{EventSaying}
use Rattle.deck_lines.specs.declared.event_saying.EventSaying.TheVariants as asked
use Rattle.deck_reader.specs.declared.line_fault.LineFault.{LineFault}
use Rattle.deck_reader.specs.declared.line_fault.LineFault.TheVariants as fault
use Rattle.deck_reader.specs.declared.outline.Outline.{Outline}
use Rattle.deck_reader.specs.declared.outline.ProcessLines.{ProcessLines}
use Rattle.deck_reader.specs.declared.outline.Sums.{Sums}
use Rattle.tal_tree.specs.declared.limit.DeckLimit.TheVariants as deck_limit

pub singles_with : (lines : List Line) (more : Line)
    → singles_of (lines ++ more ∷ []) ≡ singles_of lines + singles_in more
singles_with [] more = omega arith
singles_with (one ∷ lines) more = omega (arith, singles_with lines more)

pub rounds_with : (lines : List Line) (more : Line) → rounds_of (lines ++ more ∷ []) ≡ rounds_of lines + rounds_in more
rounds_with [] more = omega arith
rounds_with (one ∷ lines) more = omega (arith, rounds_with lines more)

-- how much an event line asks for
abbrev pub singles_asked : EventSaying → ℕ
singles_asked (asked.Run name) = 1
singles_asked (asked.RunTimes name times) = times
singles_asked (asked.Enter name) = 1
singles_asked (asked.Deliver place) = 1
singles_asked (asked.Lose place) = 1
singles_asked (asked.Repeat place) = 1
singles_asked (asked.Tick node) = 1
singles_asked (asked.Fail processor) = 1
singles_asked (asked.Reload processor) = 1
singles_asked (asked.Drive name drive change) = 1
singles_asked (asked.CopyTimes name drive times) = times
singles_asked _ = 0

abbrev pub rounds_asked : EventSaying → ℕ
rounds_asked (asked.Drain rounds) = rounds
rounds_asked (asked.Mix start rounds) = rounds
rounds_asked (asked.Mute processor rounds) = rounds
rounds_asked (asked.Until writes count rounds) = rounds
rounds_asked _ = 0

-- sums within the limits
pub record AreFewAsked (sums : Sums) : Type 0 where
  pub singles : sums.singles ≤ 1000000
  pub rounds : sums.rounds ≤ 100000

-- so much more is asked for, within the limits
pub record IsMore (sums : Sums) (m n : ℕ) (next : Sums) : Type 0 where
  pub singles : next.singles ≡ sums.singles + m
  pub rounds : next.rounds ≡ sums.rounds + n
  pub few : AreFewAsked next

abbrev pub AsksMore : Sums → ℕ → ℕ → Result Sums LineFault → Type 0
AsksMore sums singles rounds (Err why) = Unit {0}
AsksMore sums singles rounds (Ok next) = IsMore sums singles rounds next

singles_more : (sums : Sums) (more : ℕ) → AreFewAsked sums → AsksMore sums more 0 (more_singles sums more)
singles_more sums more few = by (nat_lt 1000000 (sums.singles + more)) refl
  where
    by : (b : Bool) → nat_lt 1000000 (sums.singles + more) ≡ b
        → AsksMore sums more 0 (cond b (Err (fault.Limit deck_limit.Singles))
        (Ok (record { singles = sums.singles + more; rounds = sums.rounds })))
    by true over = tt
    by false within = record {
      singles = refl;
      rounds = omega arith;
      few = record { singles = grind (arith, nat_tests); rounds = few.rounds };
    }

rounds_more : (sums : Sums) (more : ℕ) → AreFewAsked sums → AsksMore sums 0 more (more_rounds sums more)
rounds_more sums more few = by (nat_lt 100000 (sums.rounds + more)) refl
  where
    by : (b : Bool) → nat_lt 100000 (sums.rounds + more) ≡ b
        → AsksMore sums 0 more (cond b (Err (fault.Limit deck_limit.Rounds))
        (Ok (record { singles = sums.singles; rounds = sums.rounds + more })))
    by true over = tt
    by false within = record {
      singles = omega arith;
      rounds = refl;
      few = record { singles = few.singles; rounds = grind (arith, nat_tests) };
    }

where_true : (sums : Sums) (m n : ℕ) (why : LineFault) (b : Bool) (o : Result Sums LineFault) → AsksMore sums m n o
    → AsksMore sums m n (cond b o (Err why))
where_true sums m n why true o h = h
where_true sums m n why false o h = tt

where_false : (sums : Sums) (m n : ℕ) (why : LineFault) (b : Bool) (o : Result Sums LineFault) → AsksMore sums m n o
    → AsksMore sums m n (cond b (Err why) o)
where_false sums m n why true o h = tt
where_false sums m n why false o h = h

pub asks_more : (processors : ℕ) (sums : Sums) (saying : EventSaying) → AreFewAsked sums
    → AsksMore sums (singles_asked saying) (rounds_asked saying) (asks processors sums saying)
asks_more processors sums (asked.Run name) few = singles_more sums 1 few
asks_more processors sums (asked.RunTimes name times) few =
    where_false sums times 0 fault.Form (nat_lt times 1) (more_singles sums times) (singles_more sums times few)
asks_more processors sums (asked.Enter name) few = singles_more sums 1 few
asks_more processors sums (asked.Deliver place) few = singles_more sums 1 few
asks_more processors sums (asked.Lose place) few = singles_more sums 1 few
asks_more processors sums (asked.Repeat place) few = singles_more sums 1 few
asks_more processors sums (asked.Tick node) few =
    where_true sums 1 0 fault.NoProcessor (nat_lt node processors || nat_eq node 16) (more_singles sums 1)
    (singles_more sums 1 few)
asks_more processors sums (asked.Fail processor) few =
    where_true sums 1 0 fault.NoProcessor (nat_lt processor processors) (more_singles sums 1) (singles_more sums 1 few)
asks_more processors sums (asked.Reload processor) few =
    where_true sums 1 0 fault.NoProcessor (nat_lt processor processors) (more_singles sums 1) (singles_more sums 1 few)
asks_more processors sums (asked.Drive name drive change) few = singles_more sums 1 few
asks_more processors sums (asked.CopyTimes name drive times) few =
    where_false sums times 0 fault.Form (nat_lt times 1) (more_singles sums times) (singles_more sums times few)
asks_more processors sums (asked.Drain rounds) few = rounds_more sums rounds few
asks_more processors sums (asked.Mix start rounds) few = rounds_more sums rounds few
asks_more processors sums (asked.Mute processor rounds) few =
    where_true sums 0 rounds fault.NoProcessor (nat_lt processor processors) (more_rounds sums rounds)
    (rounds_more sums rounds few)
asks_more processors sums (asked.Until writes count rounds) few = rounds_more sums rounds few

-- what a test and a map that give something came from
given : {X : Type 0} (b : Bool) (x y : X) → cond b (Some x) None ≡ Some y → (b ≡ true) × (x ≡ y)
given true x y e = (refl, cc)
given false x y e = absurd (cc)

mapped : {X Y : Type 0} (f : X → Y) (o : Option X) (y : Y) → option_map f o ≡ Some y
    → (x : X) × (o ≡ Some x) × (f x ≡ y)
mapped f None y e = absurd (cc)
mapped f (Some x) y e = (x, refl, cc)

-- what has a place is there
pub place_there : {X : Type 0} (p : X → Bool) (xs : List X) (k : ℕ) → position p xs ≡ Some k → k < length xs
place_there p xs k e = let found = given _ _ _ e in omega (arith, ltb-true _ _ found.0, found.1)

-- what a test gives is of its kind where it is where the test passes
of_test : (P : Line → Type 0) (b : Bool) (one line : Line) → (b ≡ true → P one) → cond b (Some one) None ≡ Some line
    → P line
of_test P b one line h e = let found = given b one line e in subst P found.1 (h found.0)

-- a place that is found is that of one that is there
of_place : {X : Type 0} (P : Line → Type 0) (f : ℕ → Line) (p : X → Bool) (xs : List X) (line : Line)
    → ((k : ℕ) → k < length xs → P (f k)) → option_map f (position p xs) ≡ Some line → P line
of_place P f p xs line h e =
    let found = mapped f (position p xs) line e in subst P found.2 (h found.0 (place_there p xs found.0 found.1))

same_line : (P : Line → Type 0) (one line : Line) → P one → Some one ≡ Some line → P line
same_line P one line h e = let same : one ≡ line = cc in subst P same h

tick_of : (processors node : ℕ) → (nat_lt node processors || nat_eq node 16) ≡ true → IsNodeOf processors node
tick_of processors node e = by (nat_lt node processors) refl e
  where
    by : (b : Bool) → nat_lt node processors ≡ b → (b || nat_eq node 16) ≡ true → IsNodeOf processors node
    by true below e = inl (ltb-true _ _ below)
    by false below e = inr (grind (arith, nat_tests))

-- a line of the site that asks for so much
pub record IsLineAsked (outline : Outline) (m n : ℕ) (line : Line) : Type 0 where
  pub of_site : IsLineOf outline.processors (length outline.processes) (length outline.terminals) line
  pub singles : singles_in line ≡ m
  pub rounds : rounds_in line ≡ n

-- a mirrored disc that is found is a process that is there
of_mirror : (P : Line → Type 0) (f : ℕ → Line) (processes : List (Named ProcessLines)) (name : List ℕ) (line : Line)
    → ((k : ℕ) → k < length processes → P (f k)) → option_map f (mirror_of processes name) ≡ Some line → P line
of_mirror P f processes name line h e = by (place_of processes name) refl e
  where
    test : (k : ℕ) → k < length processes → (b : Bool) → option_map f (cond b (Some k) None) ≡ Some line → P line
    test k there true e = same_line P (f k) line (h k there) e
    test k there false e = absurd (cc)

    by : (o : Option ℕ) → place_of processes name ≡ o
        → option_map f (option_and_then (λ place. cond (is_mirror_there (lines_at processes place)) (Some place)
        None) o)
        ≡ Some line → P line
    by None is e = absurd (cc)
    by (Some k) is e = test k (place_there _ processes k is) (is_mirror_there (lines_at processes k)) e

-- a line that is said is one of the site, and asks for what is said
pub line_asked : (outline : Outline) (saying : EventSaying) (line : Line) → event_line outline saying ≡ Some line
    → IsLineAsked outline (singles_asked saying) (rounds_asked saying) line
line_asked outline saying line e = by saying e
  where
    P : ℕ → ℕ → Line → Type 0
    P singles rounds one = IsLineAsked outline singles rounds one

    times : (n : ℕ) (name : List ℕ) (b : Bool) → nat_lt n 1 ≡ b
        → cond b None (option_map (λ place. told.Many (event.Run place) n) (place_of outline.processes name))
        ≡ Some line → P n 0 line
    times n name true few same = absurd (cc)
    times n name false few same =
        of_place (P n 0) (λ place. told.Many (event.Run place) n) _ outline.processes line
        (λ k there. record { of_site = (there, grind (arith, nat_tests)); singles = refl; rounds = refl }) same

    copies : (n : ℕ) (name : List ℕ) (drive : ℕ) (b : Bool) → nat_lt n 1 ≡ b
        → cond b None (option_map (λ place. told.Many
        (event.Drive (record { process = place; drive = drive; change = Copy })) n) (mirror_of outline.processes name))
        ≡ Some line → P n 0 line
    copies n name drive true few same = absurd (cc)
    copies n name drive false few same =
        of_mirror (P n 0)
        (λ place. told.Many (event.Drive (record { process = place; drive = drive; change = Copy })) n)
        outline.processes name line
        (λ k there. record { of_site = ((there, refl), grind (arith, nat_tests)); singles = refl; rounds = refl }) same

    by : (saying : EventSaying) → event_line outline saying ≡ Some line
        → P (singles_asked saying) (rounds_asked saying) line
    by (asked.Run name) same = of_place (P 1 0) (λ place. told.One (event.Run place)) _ outline.processes line
        (λ k there. record { of_site = there; singles = refl; rounds = refl }) same
    by (asked.RunTimes name n) same = times n name (nat_lt n 1) refl same
    by (asked.Enter name) same = of_place (P 1 0) (λ place. told.One (event.Enter place)) _ outline.terminals line
        (λ k there. record { of_site = there; singles = refl; rounds = refl }) same
    by (asked.Deliver place) same =
        same_line (P 1 0) _ line (record { of_site = tt; singles = refl; rounds = refl }) same
    by (asked.Lose place) same = same_line (P 1 0) _ line (record { of_site = tt; singles = refl; rounds = refl }) same
    by (asked.Repeat place) same =
        same_line (P 1 0) _ line (record { of_site = tt; singles = refl; rounds = refl }) same
    by (asked.Tick node) same = of_test (P 1 0) _ (told.One (event.Tick node)) line
        (λ e. record { of_site = tick_of outline.processors node e; singles = refl; rounds = refl }) same
    by (asked.Fail processor) same = of_test (P 1 0) _ (told.One (event.Fail processor)) line
        (λ e. record { of_site = ltb-true _ _ e; singles = refl; rounds = refl }) same
    by (asked.Reload processor) same = of_test (P 1 0) _ (told.One (event.Reload processor)) line
        (λ e. record { of_site = ltb-true _ _ e; singles = refl; rounds = refl }) same
    by (asked.Drive name drive change) same =
        of_mirror (P 1 0)
        (λ place. told.One (event.Drive (record { process = place; drive = drive; change = change })))
        outline.processes name line (λ k there. record { of_site = there; singles = refl; rounds = refl }) same
    by (asked.CopyTimes name drive n) same = copies n name drive (nat_lt n 1) refl same
    by (asked.Drain rounds) same =
        same_line (P 0 rounds) _ line (record { of_site = tt; singles = refl; rounds = refl }) same
    by (asked.Mix start rounds) same =
        same_line (P 0 rounds) _ line (record { of_site = tt; singles = refl; rounds = refl }) same
    by (asked.Mute processor rounds) same =
        of_test (P 0 rounds) _ (told.Mute processor rounds) line
        (λ e. record { of_site = ltb-true _ _ e; singles = refl; rounds = refl }) same
    by (asked.Until writes count rounds) same =
        same_line (P 0 rounds) _ line (record { of_site = tt; singles = refl; rounds = refl }) same
