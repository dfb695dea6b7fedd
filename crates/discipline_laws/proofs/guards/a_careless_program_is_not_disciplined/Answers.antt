use Rattle.std.proofs.Common.{◌≡◌, ℤ, pos, List, [], ◌∷◌, Option, Some, None, refl, ap, arith}
use Rattle.std.specs.Int.{int_wrap}
use denote.Hole.Carrier.{shown, out, hidden}
use Rattle.tal_tree.specs.declared.statement.What.{out-What}
use Rattle.tal_tree.specs.declared.statement.What.TheBlock.{shown-the_row-Statement-0, shape-the_row-Statement-0}
use Rattle.tal_tree.specs.declared.statement.What.TheBlock.{hidden-the_row-Statement-0}
use Rattle.process_semantics.specs.Process.{ProcessState, Runs, Serves}
use Rattle.process_semantics.specs.State.{words_of}
use Rattle.checkpoint_laws.specs.world_semantics.specs.Core.{Core, Took, Answered, takes, answers}
use Rattle.process_histories.specs.Histories.{nothing_done, one_more}
use Rattle.discipline_laws.specs.Careless.{process_of, site_of, hasty, forgetful}
use Rattle.discipline_laws.specs.Disciplined.{IsDisciplined}
use Rattle.discipline_laws.proofs.guards.a_careless_program_is_not_disciplined.Goals as goal

not-hasty : IsDisciplined (site_of hasty) 0 (process_of hasty) → ⊥
unfolding out-What shown-the_row-Statement-0 shown out int_wrap shape-the_row-Statement-0 hidden-the_row-Statement-0
    hidden
not-hasty is = is.quiet (Answered 0 (pos 5 ∷ []) ∷ []) [] 0 (pos 5 ∷ []) _
    (one_more (one_more nothing_done (takes {words = pos 5 ∷ []} _ refl refl)) (answers _ _ refl refl refl refl refl))
    ((λ checkpoint. checkpoint), tt)

-- the words of the global that counts
abbrev count_in : ProcessState → List ℤ
count_in (Runs program s) = words_of s.globals 1
count_in (Serves sectors s) = []

abbrev count_of : Option Core → List ℤ
count_of None = []
count_of (Some core) = count_in core.state

differ : pos 0 ∷ [] ≡ pos 1 ∷ [] → ⊥
differ same = cc

not-forgetful : IsDisciplined (site_of forgetful) 0 (process_of forgetful) → ⊥
unfolding out-What shown-the_row-Statement-0 shown out int_wrap shape-the_row-Statement-0 hidden-the_row-Statement-0
    hidden
not-forgetful is =
    differ (ap count_of (is.resume (Took 0 (pos 5 ∷ []) ∷ []) [] _ _
    (one_more nothing_done (takes {words = pos 5 ∷ []} _ refl refl)) ((λ checkpoint. checkpoint), tt)
    (record { count = omega arith; short = (omega arith, tt) }) refl nothing_done))

pub returns : goal.returns
returns c = record { hasty = not-hasty; forgetful = not-forgetful }
