-- A deck has one advice.
use Rattle.std.proofs.Common.{◌≡◌, ◌≤◌, ◌<◌, ◌⊎◌, inl, inr, ℕ, zero, suc, ◌+◌, ◌++◌, List, [], ◌∷◌, map, length}
use Rattle.std.proofs.Common.{Option, Some, None, slice_get, refl, ap, ap₂, subst, sym, ◌∙◌, arith}
use Rattle.std.specs.Prelude.{Err}
use Rattle.std.proofs.lemmas.Bool.{cases_order}
use Rattle.std.proofs.lemmas.Option.{slice_get_within}
use Rattle.gd_words.specs.Members.{IsAmong}
use Rattle.tal_tree.specs.declared.program.Program.{Program}
use Rattle.tal_tree.specs.declared.site.Kind.{Kind}
use Rattle.tal_tree.specs.declared.site.Kind.TheVariants as kind
use Rattle.tal_tree.specs.declared.site.ProcessSpec.{ProcessSpec}
use Rattle.path_semantics.specs.declared.reason.Reason.{Reason}
use Rattle.path_semantics.specs.declared.reason.Reason.TheVariants.{Data, SyncBlock, Input, Depth}
use Rattle.path_semantics.specs.declared.reason.RefusalFault.{RefusalFault}
use Rattle.path_semantics.specs.declared.reason.RefusalFault.TheVariants.{TooDeep, TooLarge, Broken, NoMemory}
use Rattle.path_semantics.specs.Break.{Breaks, asked_count}
use Rattle.path_semantics.specs.Place.{next_entry}
use Rattle.path_semantics.proofs.Kept.{one-mapped}
use Rattle.discipline.specs.Verdict.{Agree}
use Rattle.discipline.proofs.Verdicts.{verdicts-agree}
use Rattle.statement_lines.specs.Lines.{lines_of}
use Rattle.verdicts.specs.Refused.{program_at, program_of}
use Rattle.verdicts.specs.declared.refused.RefusedProgram.{RefusedProgram}
use Rattle.advice.specs.declared.answer.Advice.{Advice}
use Rattle.advice.specs.Answer.{IsAnswer, IsUnmendable}
use Rattle.advice.specs.Choice.{deepest}
use Rattle.advice.specs.Due.{IsAskedAfter}
use Rattle.advice.proofs.Deepest.{depth-asked, input-own, leads-own}
use Rattle.advice_laws.proofs.OneAnswer.{answers-same}
use Rattle.command_dues.specs.site_advice.specs.SiteAdvised.{AreAdvised, IsFirstUnadvised, IsUnadvised, pair_at}
use Rattle.command_dues.specs.site_advice.specs.SiteAdvised.{pairs_from}
use Rattle.command_dues.specs.site_advice.specs.declared.pairs.PairAdvice.{PairAdvice}
use Rattle.command_dues.specs.declared.due.RefusedSite.{RefusedSite}
use Rattle.command_laws.specs.OneDue.{IsSameRefusal}

-- A program with an answer is mended

there-at : (depths : List ℕ) (k : ℕ) → k < length depths → (depth : ℕ) × (slice_get depths k ≡ Some depth)
there-at [] k inside = absurd (omega arith)
there-at (depth ∷ depths) zero inside = (depth, refl)
there-at (depth ∷ depths) (suc k) inside = there-at depths k (omega arith)

module _ (program : Program) (advice : Advice) (answer : IsAnswer program advice) where
  input-kept : (path : List ℕ) → Breaks (deepest program) path Input → ⊥
  input-kept path broken = answer.input path (record {
    front = broken.front;
    number = broken.number;
    stand = broken.stand;
    split = broken.split;
    leads = leads-own program broken.front broken.stand broken.leads;
    next = broken.next;
    breaks = sym (input-own program broken.stand.dues (next_entry broken.stand)) ∙ broken.breaks;
  })

  depth-kept : (file : ℕ) (path : List ℕ) → Breaks (deepest program) path (Depth file) → ⊥
  depth-kept file path broken =
      let told = depth-asked program file broken.stand.dues (next_entry broken.stand) broken.breaks in
      let opened : file < length program.files = slice_get_within program.files file told.1.0 told.1.1 in
      let count : length advice.depths ≡ length program.files = answer.count in
      let depth = there-at advice.depths file (omega arith) in
      let few : depth.0 ≤ 4 = answer.few file depth.0 depth.1 in
      let asked : IsAskedAfter program file (asked_count file broken.stand.dues) = record {
        path = broken.front;
        stand = broken.stand;
        leads = leads-own program broken.front broken.stand broken.leads;
        next = told.0;
        counted = refl;
      } in
      let less : asked_count file broken.stand.dues < depth.0 =
      (answer.depths file depth.0 depth.1).enough.counts (asked_count file broken.stand.dues) asked in
      let many : 4 ≤ asked_count file broken.stand.dues = told.2 in
      omega arith

  mended : (reason : Reason) (path : List ℕ) → IsUnmendable program reason path → ⊥
  mended (Data item) path unmendable = unmendable.beyond
  mended (SyncBlock file) path unmendable = unmendable.beyond
  mended Input path unmendable = input-kept path unmendable.shortest.breaks
  mended (Depth file) path unmendable = depth-kept file path unmendable.shortest.breaks

  answered : (fault : RefusalFault) → IsUnadvised program fault → ⊥
  answered TooDeep cause = let bound = answer.bounds.depth in omega arith
  answered (TooLarge n) cause = let bound = answer.bounds.size in let large = cause.1 in omega arith
  answered (Broken reason path) cause = mended reason path cause
  answered (NoMemory _) cause = cause

-- Two causes agree

less-or-more : (n m : ℕ) → (n < m) ⊎ ((n ≡ m) ⊎ (m < n))
less-or-more n m = grind arith

module _ (program : Program) where
  same-length : (one other : Reason) (path there : List ℕ) → one ≡ other → IsUnmendable program one path
      → IsUnmendable program other there → (one ≡ other) × (length path ≡ length there)
  same-length one other path there same first second =
      let at_most : length path ≤ length there = first.shortest.least there
      (subst (Breaks (deepest program) there) (sym same) second.shortest.breaks) in
      let at_least : length there ≤ length path = second.shortest.least path
      (subst (Breaks (deepest program) path) same first.shortest.breaks) in
      (same, omega arith)

  same-cause : (one other : Reason) (path there : List ℕ) → IsUnmendable program one path
      → IsUnmendable program other there → (one ≡ other) × (length path ≡ length there)
  same-cause (Data item) other path there first second = absurd first.beyond
  same-cause (SyncBlock file) other path there first second = absurd first.beyond
  same-cause Input (Data item) path there first second = absurd second.beyond
  same-cause Input (SyncBlock file) path there first second = absurd second.beyond
  same-cause Input Input path there first second = same-length Input Input path there refl first second
  same-cause Input (Depth file) path there first second = absurd (second.first Input path tt tt first.shortest.breaks)
  same-cause (Depth file) (Data item) path there first second = absurd second.beyond
  same-cause (Depth file) (SyncBlock other) path there first second = absurd second.beyond
  same-cause (Depth file) Input path there first second = absurd (first.first Input there tt tt second.shortest.breaks)
  same-cause (Depth file) (Depth other) path there first second = by_order (less-or-more file other)
    where
      by_order : (file < other) ⊎ ((file ≡ other) ⊎ (other < file))
          → (Depth file ≡ Depth other) × (length path ≡ length there)
      by_order (inl less) = absurd (second.first (Depth file) path tt less first.shortest.breaks)
      by_order (inr (inl same)) = same-length (Depth file) (Depth other) path there (ap Depth same) first second
      by_order (inr (inr more)) = absurd (first.first (Depth other) there tt more second.shortest.breaks)

  causes-agree : (one other : RefusalFault) → IsUnadvised program one → IsUnadvised program other
      → Agree (Err one) (Err other)
  causes-agree (NoMemory _) other first second = absurd first
  causes-agree TooDeep (NoMemory _) first second = tt
  causes-agree (TooLarge n) (NoMemory _) first second = tt
  causes-agree (Broken reason path) (NoMemory _) first second = tt
  causes-agree TooDeep TooDeep first second = tt
  causes-agree TooDeep (TooLarge m) first second = verdicts-agree program (Err TooDeep) (Err (TooLarge m)) first second
  causes-agree TooDeep (Broken reason path) first second = let bound = second.bounds.depth in omega arith
  causes-agree (TooLarge n) TooDeep first second = verdicts-agree program (Err (TooLarge n)) (Err TooDeep) first second
  causes-agree (TooLarge n) (TooLarge m) first second =
      verdicts-agree program (Err (TooLarge n)) (Err (TooLarge m)) first second
  causes-agree (TooLarge n) (Broken reason path) first second =
      let bound = second.bounds.size in let large = first.1 in omega arith
  causes-agree (Broken reason path) TooDeep first second = let bound = first.bounds.depth in omega arith
  causes-agree (Broken reason path) (TooLarge m) first second =
      let bound = first.bounds.size in let large = second.1 in omega arith
  causes-agree (Broken one path) (Broken other there) first second = same-cause one other path there first second

-- The pairs of a deck

-- what stands at a place counted from a start
pub record IsListed (specs : List ProcessSpec) (start place : ℕ) : Type 0 where
  pub at : ℕ
  pub program : Program
  pub is : place ≡ start + at
  pub there : program_at specs at ≡ Some program

one-later : (start at place : ℕ) → place ≡ (start + 1) + at → place ≡ start + suc at
one-later start at place is = omega arith

later-listed : (spec : ProcessSpec) (specs : List ProcessSpec) (start place : ℕ) → IsListed specs (start + 1) place
    → IsListed (spec ∷ specs) start place
later-listed spec specs start place later = record {
  at = suc later.at;
  program = later.program;
  is = one-later start later.at place later.is;
  there = later.there;
}

first-listed : (spec : ProcessSpec) (specs : List ProcessSpec) (start place : ℕ) (what : Kind) → spec.what ≡ what
    → IsAmong place (pair_at start what ++ pairs_from (start + 1) specs)
    → (IsAmong place (pairs_from (start + 1) specs) → IsListed specs (start + 1) place)
    → IsListed (spec ∷ specs) start place
first-listed spec specs start place (kind.Disc sectors mirrored) is among later =
    later-listed spec specs start place (later among)
first-listed spec specs start place (kind.Pair program) is (inr among) later =
    later-listed spec specs start place (later among)
first-listed spec specs start place (kind.Pair program) is (inl same) later = record {
  at = zero;
  program = program;
  is = same ∙ (let whole : start ≡ start + 0 = omega arith in whole);
  there = ap program_of is;
}

listed : (specs : List ProcessSpec) (start place : ℕ) → IsAmong place (pairs_from start specs)
    → IsListed specs start place
listed [] start place among = absurd among
listed (spec ∷ specs) start place among =
    first-listed spec specs start place spec.what refl among (listed specs (start + 1) place)

back-here : (specs : List ProcessSpec) (start : ℕ) (what : Kind) (program : Program)
    → program_of what ≡ Some program → IsAmong (start + 0) (pair_at start what ++ pairs_from (start + 1) specs)
back-here specs start (kind.Disc sectors mirrored) program there =
    absurd (let wrong : None ≡ Some program = there in cc)
back-here specs start (kind.Pair own) program there = inl (let same : start + 0 ≡ start = omega arith in same)

back-later : (specs : List ProcessSpec) (start place : ℕ) (what : Kind) → IsAmong place (pairs_from (start + 1) specs)
    → IsAmong place (pair_at start what ++ pairs_from (start + 1) specs)
back-later specs start place (kind.Disc sectors mirrored) among = among
back-later specs start place (kind.Pair program) among = inr among

list-back : (specs : List ProcessSpec) (start at : ℕ) (program : Program) → program_at specs at ≡ Some program
    → IsAmong (start + at) (pairs_from start specs)
list-back [] start at program there = absurd (let wrong : None ≡ Some program = there in cc)
list-back (spec ∷ specs) start zero program there = back-here specs start spec.what program there
list-back (spec ∷ specs) start (suc at) program there =
    subst (λ (n : ℕ). IsAmong n (pair_at start spec.what ++ pairs_from (start + 1) specs))
    (let same : (start + 1) + at ≡ start + suc at = omega arith in same)
    (back-later specs start ((start + 1) + at) spec.what (list-back specs (start + 1) at program there))

-- Advice and refusals

mapped : (pairs : List PairAdvice) (one : PairAdvice) → IsAmong one pairs
    → IsAmong one.process (map (λ (o : PairAdvice). o.process) pairs)
mapped [] one among = absurd among
mapped (first ∷ pairs) one (inl same) = inl (ap (λ (o : PairAdvice). o.process) same)
mapped (first ∷ pairs) one (inr later) = inr (mapped pairs one later)

-- the program of a pair that has advice
pair-program : (specs : List ProcessSpec) (pairs : List PairAdvice) → AreAdvised specs pairs → (one : PairAdvice)
    → IsAmong one pairs → (program : Program) × (program_at specs one.process ≡ Some program)
pair-program specs pairs advised one among =
    let found = listed specs 0 one.process
    (subst (λ (places : List ℕ). IsAmong one.process places) advised.places (mapped pairs one among)) in
    let same : one.process ≡ found.at = let whole : one.process ≡ 0 + found.at = found.is in omega arith in
    (found.program, ap (program_at specs) same ∙ found.there)

pub advised-or-not : (specs : List ProcessSpec) (pairs : List PairAdvice) (refused : RefusedProgram)
    → AreAdvised specs pairs → IsFirstUnadvised specs refused → ⊥
advised-or-not specs pairs refused advised first =
    let place = subst (λ (places : List ℕ). IsAmong (0 + refused.process) places) (sym advised.places)
    (list-back specs 0 refused.process first.program first.there) in
    let at = one-mapped (λ (o : PairAdvice). o.process) (0 + refused.process) pairs place in
    let same : at.0.process ≡ refused.process =
    let whole : 0 + refused.process ≡ at.0.process = at.2 in omega arith in
    answered first.program at.0.advice
    (advised.each at.0 first.program at.1 (ap (program_at specs) same ∙ first.there)) refused.refusal first.cause

-- Two lists of advice are one

abbrev Answers : List ProcessSpec → List PairAdvice → Type 0
Answers specs pairs = (one : PairAdvice) → IsAmong one pairs
    → ((program : Program) × (program_at specs one.process ≡ Some program))
    × ((program : Program) → program_at specs one.process ≡ Some program → IsAnswer program one.advice)

same-pair : (specs : List ProcessSpec) (one other : PairAdvice) → one.process ≡ other.process
    → (program : Program) → program_at specs one.process ≡ Some program
    → ((program : Program) → program_at specs one.process ≡ Some program → IsAnswer program one.advice)
    → ((program : Program) → program_at specs other.process ≡ Some program → IsAnswer program other.advice)
    → one ≡ other
same-pair specs one other process program there first second =
    ap₂ (λ (p : ℕ) (a : Advice). record { process = p; advice = a }) process
    (answers-same program one.advice other.advice (first program there)
    (second program (ap (program_at specs) (sym process) ∙ there)))

heads : (x y : ℕ) (xs ys : List ℕ) → x ∷ xs ≡ y ∷ ys → (x ≡ y) × (xs ≡ ys)
heads x y xs ys same = ((cc), (cc))

same-pairs : (specs : List ProcessSpec) (pairs others : List PairAdvice)
    → map (λ (o : PairAdvice). o.process) pairs ≡ map (λ (o : PairAdvice). o.process) others
    → Answers specs pairs → Answers specs others → pairs ≡ others
same-pairs specs [] [] same first second = refl
same-pairs specs [] (other ∷ others) same first second =
    absurd (let wrong : [] ≡ other.process ∷ map (λ (o : PairAdvice). o.process) others = same in cc)
same-pairs specs (one ∷ pairs) [] same first second =
    absurd (let wrong : one.process ∷ map (λ (o : PairAdvice). o.process) pairs ≡ [] = same in cc)
same-pairs specs (one ∷ pairs) (other ∷ others) same first second =
    let parts = heads one.process other.process (map (λ (o : PairAdvice). o.process) pairs)
    (map (λ (o : PairAdvice). o.process) others) same in
    let own = first one (inl refl) in
    let its = second other (inl refl) in
    ap₂ (λ (o : PairAdvice) (rest : List PairAdvice). o ∷ rest)
    (same-pair specs one other parts.0 own.0.0 own.0.1 own.1 its.1)
    (same-pairs specs pairs others parts.1 (λ o among. first o (inr among)) (λ o among. second o (inr among)))

answers-of : (specs : List ProcessSpec) (pairs : List PairAdvice) → AreAdvised specs pairs → Answers specs pairs
answers-of specs pairs advised one among =
    (pair-program specs pairs advised one among, (λ program there. advised.each one program among there))

pub one-advised : (specs : List ProcessSpec) (pairs others : List PairAdvice) → AreAdvised specs pairs
    → AreAdvised specs others → pairs ≡ others
one-advised specs pairs others first second =
    same-pairs specs pairs others (first.places ∙ sym second.places) (answers-of specs pairs first)
    (answers-of specs others second)

-- Two refusals are of one program

none-earlier : (specs : List ProcessSpec) (one other : RefusedProgram) → IsFirstUnadvised specs one
    → IsFirstUnadvised specs other → one.process < other.process → ⊥
none-earlier specs one other first later less =
    let advice = later.before one.process first.program less first.there in
    answered first.program advice.0 advice.1 one.refusal first.cause

same-process : (specs : List ProcessSpec) (one other : RefusedProgram) → IsFirstUnadvised specs one
    → IsFirstUnadvised specs other → one.process ≡ other.process
same-process specs one other first later = by (cases_order one.process other.process)
  where
    by : (one.process ≡ other.process) ⊎ ((one.process < other.process) ⊎ (other.process < one.process))
        → one.process ≡ other.process
    by (inl same) = same
    by (inr (inl less)) = absurd (none-earlier specs one other first later less)
    by (inr (inr more)) = absurd (none-earlier specs other one later first more)

one-found : {A X : Type 0} (f : A → Option X) (a b : A) (x y : X) → a ≡ b → f a ≡ Some x → f b ≡ Some y → x ≡ y
one-found f a b x y same one two = cc

pub same-unadvised : (specs : List ProcessSpec) (one other : RefusedSite) → one.site ≡ other.site
    → IsFirstUnadvised specs one.found → IsFirstUnadvised specs other.found → IsSameRefusal one other
same-unadvised specs one other site first later = record {
  site = site;
  process = process;
  lines = first.lines ∙ ap lines_of program ∙ sym later.lines;
  cause = causes-agree later.program one.found.refusal other.found.refusal
      (subst (λ (p : Program). IsUnadvised p one.found.refusal) program first.cause) later.cause;
}
  where
    process : one.found.process ≡ other.found.process
    process = same-process specs one.found other.found first later

    program : first.program ≡ later.program
    program = one-found (program_at specs) one.found.process other.found.process first.program later.program process
        first.there later.there
