-- What a process asks has at most 16 words.
use Rattle.std.proofs.Common.{◌≡◌, ◌≤◌, ℕ, ◌==◌, ℤ, pos, negsuc, Bool, true, false, ◌&&◌, nat_le, if◌then◌else◌, List}
use Rattle.std.proofs.Common.{[], length, Option, Some, None, option_and_then, inl, inr, refl, arith}
use Rattle.std.specs.List.{cons_option}
use Rattle.std.proofs.lemmas.Bool.{leb-true}
use Rattle.std.proofs.lemmas.List.{length-take}
use Rattle.gd_words.specs.Members.{IsAmong}
use Rattle.tal_tree.specs.declared.program.Program.{Program}
use Rattle.tal_tree.specs.declared.site.ProcessSpec.{ProcessSpec}
use Rattle.tal_tree.specs.declared.site.Site.{Site}
use Rattle.tal_tree.specs.declared.statement.Statement.{Statement}
use Rattle.tal_tree.specs.declared.statement.What.{What, What-F, out-What}
use Rattle.world_semantics.specs.process_semantics.specs.tal_values.specs.Value.{value_of}
use Rattle.world_semantics.specs.process_semantics.specs.Calls as calls
use Rattle.world_semantics.specs.process_semantics.specs.Process as process
use Rattle.world_semantics.specs.process_semantics.specs.Process.{ProcessState, Runs, Serves}
use Rattle.world_semantics.specs.process_semantics.specs.State.{ProgramState, Entry, Run, Test, Last, memory_of}
use Rattle.world_semantics.specs.process_semantics.specs.State.{words_of, good_count}
use Rattle.world_semantics.specs.process_semantics.specs.State.{count_of, in_entry, next_of}
use Rattle.world_semantics.specs.Core.{Core, Deed, goes, checkpoints, takes, asks, gets, answers, acts}
use Rattle.process_histories.specs.Histories.{HasDone, nothing_done, one_more}
use Rattle.process_histories.specs.Words.{requests_on}

good-few : (words : List ℤ) (value : Option ℤ) (n : ℕ) → option_and_then (good_count words) value ≡ Some n → n ≤ 16
good-few words None n is = absurd (cc)
good-few words (Some (negsuc m)) n is = absurd (cc)
good-few words (Some (pos m)) n is = by (nat_le m (length words)) (nat_le m 16) refl is
  where
    by : (fits few : Bool) → nat_le m 16 ≡ few → (if fits && few then Some m else None) ≡ Some n → n ≤ 16
    by true true few is = let same : m ≡ n = cc in rw (← same) (leb-true m 16 few)
    by true false few is = absurd (cc)
    by false b few is = absurd (cc)

cut-few : (words : List ℤ) (count : Option ℕ) → ((n : ℕ) → count ≡ Some n → n ≤ 16)
    → length (calls.first_words words count) ≤ 16
cut-few words None few = omega arith
cut-few words (Some n) few = let most = few n refl in let cut = length-take n words in omega (arith, most, cut)

layer-short : (program : Program) (s : ProgramState) (what : What-F What Statement)
    → length (calls.asked_in program s what) ≤ 16
layer-short program s (What-F.WriteRead file buffer send room got) =
    cut-few (words_of s.globals buffer) (count_of program s buffer send)
    (λ n is. good-few (words_of s.globals buffer) (value_of (memory_of program s) send) n is)
layer-short program s _ = omega arith

entry-short : (program : Program) (s : ProgramState) (entry : Option Entry)
    → length (in_entry [] (calls.asked_in program s) entry) ≤ 16
entry-short program s None = omega arith
entry-short program s (Some (Run statement)) = layer-short program s (out-What statement.what)
entry-short program s (Some (Test statement)) = omega arith
entry-short program s (Some (Last statement)) = omega arith

pub asked-short : (s : ProcessState) → length (process.asked_words s) ≤ 16
asked-short (Runs program s) = entry-short program s (next_of s.frames)
asked-short (Serves sectors s) = omega arith

pub requests-short : {site : Site} {number : ℕ} {spec : ProcessSpec} {deeds : List Deed} {core : Core}
    → HasDone site number spec deeds core
    → (file : ℕ) (words : List ℤ) → IsAmong words (requests_on file deeds) → length words ≤ 16
requests-short nothing_done file words among = absurd among
requests-short (one_more done (goes at)) file words among = requests-short done file words among
requests-short (one_more done (checkpoints at)) file words among = requests-short done file words among
requests-short (one_more done (takes block at there)) file words among = requests-short done file words among
requests-short (one_more {deeds = deeds} {before = core} done (asks {file = one} {words = asked} at named said)) file
    words among =
    by (one == file) (requests-short done file words) among
  where
    by : (test : Bool) → (IsAmong words (requests_on file deeds) → length words ≤ 16)
        → IsAmong words (cons_option (if test then Some asked else None) (requests_on file deeds)) → length words ≤ 16
    by true old (inl same) = rw (same, said) (asked-short core.state)
    by true old (inr among) = old among
    by false old among = old among
requests-short (one_more done (gets at file)) named words among = requests-short done named words among
requests-short (one_more done (answers opener block at hand known there words)) file said among =
    requests-short done file said among
requests-short (one_more done (acts at call)) file words among = requests-short done file words among
