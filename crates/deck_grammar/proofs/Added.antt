-- What a line adds that can stand where it does.
use Rattle.std.proofs.Common.{◌≡◌, ℕ, ◌<◌, ◌≤◌, Bool, true, false, cond, not, nat_eq, nat_le, nat_lt, List, [], length}
use Rattle.std.proofs.Common.{Result, Ok, Err, refl, ap, ◌∙◌}
use Rattle.std.proofs.lemmas.Bool.{lt-leb, le-ltb, ne_eqb}
use Rattle.name_table.specs.Entries.{Named}
use Rattle.deck_lines.specs.declared.saying.Placing.{Placing}
use Rattle.deck_reader.specs.LineFaults.{disc_of, heading_of, is_new, outline_with, process_with, processors_of}
use Rattle.deck_reader.specs.LineFaults.{terminal_of, with_sectors}
use Rattle.deck_reader.specs.declared.line_fault.LineFault.{LineFault}
use Rattle.deck_reader.specs.declared.line_fault.LineFault.TheVariants as fault
use Rattle.deck_reader.specs.declared.outline.Body.TheVariants as body
use Rattle.deck_reader.specs.declared.outline.Heading.{Heading}
use Rattle.deck_reader.specs.declared.outline.Outline.{Outline}
use Rattle.deck_reader.specs.declared.outline.ProcessLines.{ProcessLines}
use Rattle.deck_reader.specs.declared.outline.TerminalLines.{TerminalLines}
use Rattle.deck_reader.proofs.FreshLemmas.{new_names}
use Rattle.deck_grammar.proofs.NewNames.{IsNew, new_is}
use Rattle.tal_tree.specs.declared.limit.DeckLimit.TheVariants as deck_limit

-- the heading of a process, a disc, and a terminal whose requests are to come
abbrev pub heading_with : Placing → Heading
heading_with placing = record { name = placing.name; primary = placing.primary; backup = placing.backup }

abbrev pub disc_with : Placing → ℕ → Bool → Named ProcessLines
disc_with placing sectors mirrored = process_with (heading_with placing) (body.Disc sectors mirrored)

abbrev pub terminal_with : ℕ → List ℕ → TerminalLines
terminal_with number target = record { line = number; target = target; requests = [] }

-- what is added is this, and its name is new
abbrev pub HeadingIs : Outline → Placing → Result Heading LineFault → Type 0
HeadingIs outline placing (Err why) = Unit {0}
HeadingIs outline placing (Ok heading) = (heading ≡ heading_with placing) × IsNew outline placing.name

pub heading_is : (outline : Outline) (placing : Placing) → HeadingIs outline placing (heading_of outline placing)
heading_is outline placing =
    by (not (is_new outline placing.name)) (nat_eq placing.primary placing.backup)
    (nat_le outline.processors placing.primary) (nat_le outline.processors placing.backup)
    (nat_le 16 (length outline.processes)) refl
  where
    by : (a b c d e : Bool) → not (is_new outline placing.name) ≡ a
        → HeadingIs outline placing (cond a (Err fault.NameTwice)
        (cond b (Err fault.SameProcessor) (cond c (Err fault.NoProcessor) (cond d (Err fault.NoProcessor)
        (cond e (Err (fault.Limit deck_limit.Processes)) (Ok (heading_with placing)))))))
    by true b c d e p = tt
    by false true c d e p = tt
    by false false true d e p = tt
    by false false false true e p = tt
    by false false false false true p = tt
    by false false false false false p = (refl, new_names outline placing.name p)

abbrev pub DiscIs : Outline → Placing → ℕ → Bool → Result (Named ProcessLines) LineFault → Type 0
DiscIs outline placing sectors mirrored (Err why) = Unit {0}
DiscIs outline placing sectors mirrored (Ok process) = (process ≡ disc_with placing sectors mirrored)
    × IsNew outline placing.name

pub disc_is : (outline : Outline) (placing : Placing) (sectors : ℕ) (mirrored : Bool)
    → DiscIs outline placing sectors mirrored (disc_of outline placing sectors mirrored)
disc_is outline placing sectors mirrored = by (heading_of outline placing) (heading_is outline placing)
  where
    sized : (heading : Heading) → HeadingIs outline placing (Ok heading) → (a b : Bool)
        → DiscIs outline placing sectors mirrored (cond a (Err (fault.Limit deck_limit.Sectors))
        (cond b (Err (fault.Limit deck_limit.Sectors)) (Ok (process_with heading (body.Disc sectors mirrored)))))
    sized heading is true b = tt
    sized heading is false true = tt
    sized heading is false false = (ap (λ (h : Heading). process_with h (body.Disc sectors mirrored)) is.0, is.1)

    by : (o : Result Heading LineFault) → HeadingIs outline placing o
        → DiscIs outline placing sectors mirrored (with_sectors sectors mirrored o)
    by (Err why) is = tt
    by (Ok heading) is = sized heading is (nat_lt sectors 1) (nat_lt 64 sectors)

abbrev pub TerminalIs : Outline → ℕ → List ℕ → List ℕ → Result TerminalLines LineFault → Type 0
TerminalIs outline number name target (Err why) = Unit {0}
TerminalIs outline number name target (Ok terminal) = (terminal ≡ terminal_with number target) × IsNew outline name

pub terminal_is : (outline : Outline) (number : ℕ) (name target : List ℕ)
    → TerminalIs outline number name target (terminal_of outline number name target)
terminal_is outline number name target = by (not (is_new outline name)) (nat_le 16 (length outline.terminals)) refl
  where
    by : (a b : Bool) → not (is_new outline name) ≡ a
        → TerminalIs outline number name target
        (cond a (Err fault.NameTwice) (cond b (Err (fault.Limit deck_limit.Terminals))
        (Ok (terminal_with number target))))
    by true b p = tt
    by false true p = tt
    by false false p = (refl, new_names outline name p)

abbrev pub ProcessorsAre : ℕ → Result Outline LineFault → Type 0
ProcessorsAre count (Err why) = Unit {0}
ProcessorsAre count (Ok outline) = outline ≡ outline_with count

pub processors_are : (count : ℕ) → ProcessorsAre count (processors_of count)
processors_are count = by (nat_lt count 2) (nat_lt 16 count)
  where
    by : (a b : Bool) → ProcessorsAre count
        (cond a (Err (fault.Limit deck_limit.Processors)) (cond b (Err (fault.Limit deck_limit.Processors))
        (Ok (outline_with count))))
    by true b = tt
    by false true = tt
    by false false = refl

-- and it is added where the limits are kept
pub heading_added : (outline : Outline) (placing : Placing) → IsNew outline placing.name
    → placing.primary < outline.processors → placing.backup < outline.processors
    → (placing.primary ≡ placing.backup → ⊥) → length outline.processes < 16
    → heading_of outline placing ≡ Ok (heading_with placing)
heading_added outline placing new primary backup apart room =
    let a = new_is outline placing.name new in
    let b = ne_eqb placing.primary placing.backup apart in
    let c = lt-leb outline.processors placing.primary primary in
    let d = lt-leb outline.processors placing.backup backup in
    let e = lt-leb 16 (length outline.processes) room in
    λ i. cond (a i) (Err fault.NameTwice) (cond (b i) (Err fault.SameProcessor)
    (cond (c i) (Err fault.NoProcessor) (cond (d i) (Err fault.NoProcessor)
    (cond (e i) (Err (fault.Limit deck_limit.Processes)) (Ok (heading_with placing))))))

pub disc_added : (outline : Outline) (placing : Placing) (sectors : ℕ) (mirrored : Bool)
    → heading_of outline placing ≡ Ok (heading_with placing) → 1 ≤ sectors → sectors ≤ 64
    → disc_of outline placing sectors mirrored ≡ Ok (disc_with placing sectors mirrored)
disc_added outline placing sectors mirrored heading least most =
    let a = le-ltb sectors 1 least in
    let b = le-ltb 64 sectors most in
    ap (with_sectors sectors mirrored) heading ∙ (λ i.
    cond (a i) (Err (fault.Limit deck_limit.Sectors)) (cond (b i) (Err (fault.Limit deck_limit.Sectors))
    (Ok (disc_with placing sectors mirrored))))

pub terminal_added : (outline : Outline) (number : ℕ) (name target : List ℕ) → IsNew outline name
    → length outline.terminals < 16
    → terminal_of outline number name target ≡ Ok (terminal_with number target)
terminal_added outline number name target new room =
    let a = new_is outline name new in
    let b = lt-leb 16 (length outline.terminals) room in
    λ i. cond (a i) (Err fault.NameTwice) (cond (b i) (Err (fault.Limit deck_limit.Terminals))
    (Ok (terminal_with number target)))

pub processors_added : (count : ℕ) → 2 ≤ count → count ≤ 16 → processors_of count ≡ Ok (outline_with count)
processors_added count least most =
    let a = le-ltb count 2 least in
    let b = le-ltb 16 count most in
    λ i. cond (a i) (Err (fault.Limit deck_limit.Processors))
    (cond (b i) (Err (fault.Limit deck_limit.Processors)) (Ok (outline_with count)))
