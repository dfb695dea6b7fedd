use Rattle.std.proofs.Common.{◌≡◌, ◌≤◌, ◌<◌, ℕ, false, true, Option, Some, None, arith, refl, ap, ◌∙◌}
use Rattle.std.specs.Prelude.{Bool}
use Rattle.tal_tree.specs.Named.{IsProcess}
use Rattle.tal_tree.specs.Regular.{MayBeListed}
use Rattle.tal_tree.specs.Shapes.{has_words}
use Rattle.tal_tree.specs.declared.program.FileUse.{FileUse}
use Rattle.tal_tree.specs.declared.program.Item.{Item}
use Rattle.tal_tree.specs.declared.program.Target.{Target}
use Rattle.tal_tree.specs.declared.program.Target.TheVariants as target
use Rattle.advice_guards.specs.Programs.{serving}
use Rattle.advice_guards.proofs.choices.not_all_may_be_chosen.Goals as goal

abbrev has_words_there : Option Item → Bool
has_words_there None = true
has_words_there (Some item) = has_words item.shape

unlisted : MayBeListed serving 3 → ⊥
unlisted listed =
    let words : false ≡ has_words listed.item.shape = ap has_words_there listed.there in
    let wrong : false ≡ true = words ∙ listed.words in
    absurd (cc)

abbrev target_there : Option FileUse → Target
target_there None = target.Receive
target_there (Some file) = file.target

unopened : IsProcess serving 0 → ⊥
unopened process =
    let received : target.Receive ≡ process.opened.target = ap target_there process.there in
    let wrong : target.Receive ≡ target.Process process.process = received ∙ process.is in
    absurd (cc)

pub returns-clause-variable : goal.returns-clause-variable
returns-clause-variable c = λ is. unlisted (is.items 0 3 refl)

pub returns-clause-file : goal.returns-clause-file
returns-clause-file c = λ is. unopened (is.files 0 0 refl)

pub returns-clause-low : goal.returns-clause-low
returns-clause-low c =
    λ is. let wrong : 1 ≤ 0 = is.lowest 0 (let inside : 0 < 2 = omega arith in inside) in absurd (omega arith)

pub returns-clause-high : goal.returns-clause-high
returns-clause-high c =
    λ is. let wrong : 5 ≤ 4 = is.highest 1 (let inside : 1 < 2 = omega arith in inside) in absurd (omega arith)

pub returns-clause-receive : goal.returns-clause-receive
returns-clause-receive c = λ is. let wrong : ◌≡◌ {A = ℕ} 2 1 =
    is.receive 0 (record { item = 3; target = target.Receive; depth = 1 }) refl refl in absurd (omega arith)
