-- Acts that are made one by one, and how a report is judged once they are.
use Rattle.std.proofs.Common.{Bool, ◌≡◌, ℕ, zero, suc, ◌+◌, ◌<◌, ◌≤◌, true, false, List, [], ◌∷◌, ◌++◌, length, take}
use Rattle.std.proofs.Common.{drop, get_or, Option, Some, None, is_some, refl, sym, ap, subst, ◌∙◌, arith, append-nil}
use Rattle.std.specs.Prelude.{Ok, Err}
use Rattle.std.specs.Option.{option_map, unwrap_or}
use Rattle.std.proofs.lemmas.List.{take_more}
use Rattle.plain_semantics.specs.Machine.{IsPossible, IsStill, Made, made, made_all, made_before, plain_start, shown_by}
use Rattle.plain_semantics.proofs.Runs.{made_all-snoc}
use Rattle.shown_sectors.specs.Sectors.{sectors_after}
use Rattle.tal_tree.specs.declared.act.Act.{Act}
use Rattle.tal_tree.specs.declared.act.Shown.{Shown}
use Rattle.tal_tree.specs.declared.site.Site.{Site}
use Rattle.report_reader.specs.trace_print.specs.ReportText.{report_text}
use Rattle.report_reader.specs.Reading.{acts_in, read_report, stops_in}
use Rattle.report_reader.specs.declared.reading.Reading.{Reading}
use Rattle.report_reader.specs.declared.told.Told.{Told}
use Rattle.report_reader.specs.declared.told.Told.TheVariants as told
use Rattle.report_judge.specs.Lines.{IsFirstDifference, lines_of}
use Rattle.report_judge.specs.Replays.{GoesOn, IsActRefusal, IsEndedAs, IsEndRefusal, IsLeft, IsMadeBy, IsReplayOf}
use Rattle.report_judge.specs.Replays.{IsTextRefusal, text_told}
use Rattle.report_judge.specs.Reported.{IsReported}
use Rattle.report_judge.specs.Verdicts.{IsFirstImpossible, IsNotIdleAt, IsVerdictOn, text_of_acts}
use Rattle.report_judge.specs.declared.judge.VerifyFault.{VerifyFault}
use Rattle.report_judge.specs.declared.judge.VerifyFault.TheVariants as refusal
use Rattle.report_judge.specs.declared.judge.Why.TheVariants as why
use Rattle.report_judge.specs.declared.replay.Replay.{Replay}
use Rattle.report_judge.proofs.NamedLines.{are-named}

pub acts-append : (front back : List Told) → acts_in (front ++ back) ≡ acts_in front ++ acts_in back
acts-append [] back = refl
acts-append (told.Act act ∷ front) back = ap (λ (acts : List Act). act ∷ acts) (acts-append front back)
acts-append (told.Shown ∷ front) back = acts-append front back
acts-append (told.Sector ∷ front) back = acts-append front back
acts-append (told.Stop processor ∷ front) back = acts-append front back
acts-append (told.End end ∷ front) back = acts-append front back

-- one act more
act-more : (site : Site) (acts : List Act) (act : Act) (old new : Replay) → IsReplayOf site acts old
    → IsMadeBy act old new → IsReplayOf site (acts ++ act ∷ []) new
act-more site acts act old new is by = record {
  on_site = by.on_site ∙ is.on_site;
  came = made_all-snoc site acts act (plain_start site) (record { plain = old.plain.state; shown = old.shown }) is.came
      ∙ ap (option_map (made_before old.shown))
      (ap (λ (at : Site). made at old.plain.state act) (sym is.on_site) ∙ by.came)
      ∙ ap (λ (shown : List Shown). Some (record { plain = new.plain.state; shown = shown })) (sym by.kept);
}

same-acts : (site : Site) (front : List Told) (one : Told) (acts : List Act) (replay : Replay)
    → acts_in (one ∷ []) ≡ acts → IsReplayOf site (acts_in front ++ acts) replay
    → IsReplayOf site (acts_in (front ++ one ∷ [])) replay
same-acts site front one acts replay tells is =
    subst (λ (all : List Act). IsReplayOf site all replay)
    (sym (acts-append front (one ∷ []) ∙ ap (λ (xs : List Act). acts_in front ++ xs) tells)) is

quiet : (site : Site) (front : List Told) (one : Told) (old new : Replay) → acts_in (one ∷ []) ≡ [] → new ≡ old
    → IsReplayOf site (acts_in front) old
    → IsReplayOf site (acts_in (front ++ one ∷ [])) new
quiet site front one old new tells same is =
    same-acts site front one [] new tells
    (subst (λ (all : List Act). IsReplayOf site all new) (sym (append-nil (acts_in front)))
    (subst (IsReplayOf site (acts_in front)) (sym same) is))

-- what one line more tells is made
pub line-made : (site : Site) (front : List Told) (one : Told) (old new : Replay) → IsReplayOf site (acts_in front) old
    → GoesOn one old new true
    → IsReplayOf site (acts_in (front ++ one ∷ [])) new
line-made site front (told.Act act) old new is goes =
    same-acts site front (told.Act act) (act ∷ []) new refl (act-more site (acts_in front) act old new is goes)
line-made site front told.Shown old new is goes = quiet site front told.Shown old new refl goes.1 is
line-made site front told.Sector old new is goes = quiet site front told.Sector old new refl goes.1 is
line-made site front (told.Stop processor) old new is goes =
    quiet site front (told.Stop processor) old new refl goes.1 is
line-made site front (told.End end) old new is goes = quiet site front (told.End end) old new refl goes.1 is

is-possible : (site : Site) (acts : List Act) (replay : Replay) → IsReplayOf site acts replay → IsPossible site acts
is-possible site acts replay is = ap is_some is.came

false-true : false ≡ true → ⊥
false-true e = cc

-- an act isn't possible
not-possible : (site : Site) (acts : List Act) (act : Act) (old : Replay) → IsReplayOf site acts old
    → made old.plain.site old.plain.state act ≡ None
    → IsPossible site (acts ++ act ∷ []) → ⊥
not-possible site acts act old is none possible =
    let gone : made_all site (plain_start site) (acts ++ act ∷ []) ≡ None =
    made_all-snoc site acts act (plain_start site) (record { plain = old.plain.state; shown = old.shown }) is.came
    ∙ ap (option_map (made_before old.shown))
    (ap (λ (at : Site). made at old.plain.state act) (sym is.on_site) ∙ none) in
    true-false (sym possible ∙ ap is_some gone)
  where
    true-false : true ≡ false → ⊥
    true-false e = cc

split-at : (lines : List Told) (at : ℕ) (d : Told) → at < length lines
    → lines ≡ take at lines ++ get_or lines at d ∷ drop (suc at) lines
split-at [] at d there = absurd (omega arith)
split-at (one ∷ lines) zero d there = refl
split-at (one ∷ lines) (suc at) d there = ap (λ (xs : List Told). one ∷ xs) (split-at lines at d (omega arith))

length-front : (lines : List Told) (at : ℕ) → at ≤ length lines → length (take at lines) ≡ at
length-front [] zero within = refl
length-front [] (suc at) within = absurd (omega arith)
length-front (one ∷ lines) zero within = refl
length-front (one ∷ lines) (suc at) within = ap suc (length-front lines at (omega arith))

-- what the line at this place tells isn't possible
impossible-at : (site : Site) (lines : List Told) (at : ℕ) (d one : Told) (old new : Replay) → at < length lines
    → get_or lines at d ≡ one
    → IsReplayOf site (acts_in (take at lines)) old → GoesOn one old new false → IsFirstImpossible site lines (at + 1)
impossible-at site lines at d (told.Act act) old new there here is goes = record {
  front = take at lines;
  act = act;
  back = drop (suc at) lines;
  is = split-at lines at d there ∙ ap (λ (one : Told). take at lines ++ one ∷ drop (suc at) lines) here;
  possible = is-possible site (acts_in (take at lines)) old is;
  impossible = not-possible site (acts_in (take at lines)) act old is goes;
  counted = omega (arith, length-front lines at (omega arith));
}
impossible-at site lines at d told.Shown old new there here is goes = absurd (false-true goes.0)
impossible-at site lines at d told.Sector old new there here is goes = absurd (false-true goes.0)
impossible-at site lines at d (told.Stop processor) old new there here is goes = absurd (false-true goes.0)
impossible-at site lines at d (told.End end) old new there here is goes = absurd (false-true goes.0)

pub line-impossible : (site : Site) (lines : List Told) (at : ℕ) (d : Told) (old new : Replay) (went : Bool)
    → at < length lines → IsReplayOf site (acts_in (take at lines)) old → GoesOn (get_or lines at d) old new went
    → went ≡ false → IsFirstImpossible site lines (at + 1)
line-impossible site lines at d old new went there is goes answered =
    impossible-at site lines at d (get_or lines at d) old new there refl is
    (subst (λ (b : Bool). GoesOn (get_or lines at d) old new b) answered goes)

-- the line at this place is made
pub next-made : (site : Site) (lines : List Told) (at : ℕ) (d : Told) (old new : Replay) (went : Bool)
    → at < length lines → IsReplayOf site (acts_in (take at lines)) old → GoesOn (get_or lines at d) old new went
    → went ≡ true → IsReplayOf site (acts_in (take (at + 1) lines)) new
next-made site lines at d old new went there is goes answered =
    subst (λ (front : List Told). IsReplayOf site (acts_in front) new) (sym (take_more lines at d there))
    (line-made site (take at lines) (get_or lines at d) old new is
    (subst (λ (b : Bool). GoesOn (get_or lines at d) old new b) answered goes))

-- lines tell no more acts than they are
pub acts-few : (lines : List Told) → length (acts_in lines) ≤ length lines
acts-few [] = omega arith
acts-few (told.Act act ∷ lines) = omega (arith, acts-few lines)
acts-few (told.Shown ∷ lines) = omega (arith, acts-few lines)
acts-few (told.Sector ∷ lines) = omega (arith, acts-few lines)
acts-few (told.Stop processor ∷ lines) = omega (arith, acts-few lines)
acts-few (told.End end ∷ lines) = omega (arith, acts-few lines)

shown-told : (site : Site) (acts : List Act) (replay : Replay) → IsReplayOf site acts replay
    → replay.shown ≡ shown_by site acts
shown-told site acts replay is =
    sym (ap (λ (m : Option Made). unwrap_or (option_map (λ (m : Made). m.shown) m) []) is.came)

text-same : (site : Site) (reading : Reading) (acts : List Act) (replay : Replay) → acts ≡ acts_in reading.told
    → IsReplayOf site (acts_in reading.told) replay
    → text_told site replay reading acts ≡ text_of_acts site reading
text-same site reading acts replay told is =
    ap (λ (xs : List Act). text_told site replay reading xs) told
    ∙ ap (λ (shown : List Shown). report_text site shown (sectors_after site shown) (stops_in reading.told)
    (acts_in reading.told) reading.end)
    (shown-told site (acts_in reading.told) replay is)

-- what an act's refusal says of the report
pub act-refused : (site : Site) (report : List ℕ) (reading : Reading) (why : VerifyFault)
    → IsActRefusal site reading.told why → IsVerdictOn site report reading (Err why)
act-refused site report reading (refusal.Rejected number why.Act) is = is
act-refused site report reading (refusal.Rejected number why.Form) is = absurd is
act-refused site report reading (refusal.Rejected number why.Differs) is = absurd is
act-refused site report reading (refusal.Rejected number why.NotIdle) is = absurd is
act-refused site report reading (refusal.NoMemory memory) is = tt

module _ (site : Site) (report : List ℕ) (reading : Reading) (acts : List Act) (replay : Replay)
    (told : acts ≡ acts_in reading.told)
    (is : IsReplayOf site (acts_in reading.told) replay) where
  -- what a difference says of it
  pub text-refused : (why : VerifyFault) → IsTextRefusal report (text_told site replay reading acts) why
      → IsVerdictOn site report reading (Err why)
  text-refused (refusal.Rejected number why.Differs) first = record {
    possible = is-possible site (acts_in reading.told) replay is;
    first = subst (λ (text : List ℕ). IsFirstDifference (lines_of report) (lines_of text) number)
        (text-same site reading acts replay told is) first;
  }
  text-refused (refusal.Rejected number why.Form) first = absurd first
  text-refused (refusal.Rejected number why.Act) first = absurd first
  text-refused (refusal.Rejected number why.NotIdle) first = absurd first
  text-refused (refusal.NoMemory memory) first = tt

  module _ (text : report ≡ text_told site replay reading acts) where
    left : (number : ℕ) → IsLeft reading.told reading.end replay number → IsNotIdleAt site report reading number
    left number ends = record {
      possible = is-possible site (acts_in reading.told) replay is;
      text = text ∙ text-same site reading acts replay told is;
      idle = ends.idle;
      left = λ none. ends.left (still none.0 none.1 none.2);
      last = ends.last;
    }
      where
        still : (m : Made) → made_all site (plain_start site) (acts_in reading.told) ≡ Some m → IsStill site m.plain
            → IsStill replay.plain.site replay.plain.state
        still m came at-end =
            let same : m ≡ record { plain = replay.plain.state; shown = replay.shown } = of_some (sym came ∙ is.came) in
            subst (λ (at : Site). IsStill at replay.plain.state) (sym is.on_site)
            (subst (λ (one : Made). IsStill site one.plain) same at-end)
          where
            of_some : {x y : Made} → ◌≡◌ {A = Option Made} (Some x) (Some y) → x ≡ y
            of_some e = cc

    -- what an act that is left says of it
    pub end-refused : (why : VerifyFault) → IsEndRefusal reading.told reading.end replay why
        → IsVerdictOn site report reading (Err why)
    end-refused (refusal.Rejected number why.NotIdle) ends = left number ends
    end-refused (refusal.Rejected number why.Form) ends = absurd ends
    end-refused (refusal.Rejected number why.Act) ends = absurd ends
    end-refused (refusal.Rejected number why.Differs) ends = absurd ends
    end-refused (refusal.NoMemory memory) ends = absurd ends

    -- it is a report of the site
    pub reported : read_report site report ≡ Ok reading → IsEndedAs reading.end replay
        → IsReported site report (acts_in reading.told) (stops_in reading.told) reading.end
    reported read ended =
        let named = are-named site report reading read in
        record {
          possible = is-possible site (acts_in reading.told) replay is;
          rising = named.0;
          ends = named.1;
          text = text ∙ text-same site reading acts replay told is;
          idle = λ idle. (
            record { plain = replay.plain.state; shown = replay.shown },
            is.came,
            subst (λ (at : Site). IsStill at replay.plain.state) is.on_site (ended idle),
          );
        }
