-- What the machine has taken are the tokens of a text's beginning: whatever is still to come completes them.
use Rattle.std.proofs.Common.{◌≡◌, Bool, true, false, List, [], ◌∷◌, ◌++◌, Option, Some, None, refl, ap, ◌∙◌}
use Rattle.tal_tokens.specs.declared.token.Token.{Token}
use Rattle.tal_recogniser.specs.declared.symbol.Symbol.{Symbol}
use Rattle.tal_recogniser.specs.declared.symbol.Symbol.TheVariants as sym
use Rattle.tal_recogniser.specs.ExpressionTable.{Stack}
use Rattle.tal_recogniser.specs.Machine.{step, vanishes, fed_by, feed, noted, trace}
use Rattle.tal_recogniser.proofs.Things.{Things, of_things, Made, Steps, closing, closed}
use Rattle.tal_recogniser.proofs.SoundExpressions.{sound-neg, sound-or, sound-and, sound-rel, sound-term, sound-times}
use Rattle.tal_recogniser.proofs.SoundExpressions.{sound-factor, sound-index}
use Rattle.tal_recogniser.proofs.SoundStatements.{sound-statement, sound-row, sound-else, sound-right, sound-right-tail}
use Rattle.tal_recogniser.proofs.SoundStatements.{sound-answer, sound-argument, sound-arguments, sound-further}
use Rattle.tal_recogniser.proofs.SoundStatements.{sound-values, sound-direction, sound-step-tail}
use Rattle.tal_recogniser.proofs.SoundDeclarations.{sound-lines, sound-after-int, sound-procedures, sound-bounds}
use Rattle.tal_recogniser.proofs.SoundDeclarations.{sound-items, sound-constant, sound-atom, sound-literals}
use Rattle.tal_recogniser.proofs.SoundDeclarations.{sound-parameters, sound-names, sound-main, sound-locals}
use Rattle.tal_recogniser.proofs.SoundWanted.{sound-name, sound-begin, sound-end, sound-then, sound-do, sound-until}
use Rattle.tal_recogniser.proofs.SoundWanted.{sound-proc, sound-assign, sound-equal, sound-close, sound-close-index}
use Rattle.tal_recogniser.proofs.SoundWanted.{sound-semicolon, sound-colon, sound-finish}

pub sound-step : (s : Symbol) (k : Token) (ss : Stack) → Steps s k ss (step s k)
sound-step sym.LevelEnd k ss = tt
sound-step sym.Neg k ss = sound-neg k ss
sound-step sym.OrTail k ss = sound-or k ss
sound-step sym.AndTail k ss = sound-and k ss
sound-step sym.RelTail k ss = sound-rel k ss
sound-step sym.TermTail k ss = sound-term k ss
sound-step sym.TimesTail k ss = sound-times k ss
sound-step sym.Factor k ss = sound-factor k ss
sound-step sym.IndexTail k ss = sound-index k ss
sound-step sym.Statement k ss = sound-statement k ss
sound-step sym.RowTail k ss = sound-row k ss
sound-step sym.ElseTail k ss = sound-else k ss
sound-step sym.Direction k ss = sound-direction k ss
sound-step sym.StepTail k ss = sound-step-tail k ss
sound-step sym.Right k ss = sound-right k ss
sound-step sym.RightTail k ss = sound-right-tail k ss
sound-step sym.Answer k ss = sound-answer k ss
sound-step sym.Argument k ss = sound-argument k ss
sound-step sym.ArgumentsTail k ss = sound-arguments k ss
sound-step sym.FurtherTail k ss = sound-further k ss
sound-step sym.ValuesTail k ss = sound-values k ss
sound-step sym.Lines k ss = sound-lines k ss
sound-step sym.AfterInt k ss = sound-after-int k ss
sound-step sym.Procedures k ss = sound-procedures k ss
sound-step sym.BoundsTail k ss = sound-bounds k ss
sound-step sym.ItemsTail k ss = sound-items k ss
sound-step sym.Constant k ss = sound-constant k ss
sound-step sym.Atom k ss = sound-atom k ss
sound-step sym.LiteralsTail k ss = sound-literals k ss
sound-step sym.ParametersTail k ss = sound-parameters k ss
sound-step sym.NamesTail k ss = sound-names k ss
sound-step sym.MainTail k ss = sound-main k ss
sound-step sym.Locals k ss = sound-locals k ss
sound-step sym.WantName k ss = sound-name k ss
sound-step sym.WantBegin k ss = sound-begin k ss
sound-step sym.WantEnd k ss = sound-end k ss
sound-step sym.WantThen k ss = sound-then k ss
sound-step sym.WantDo k ss = sound-do k ss
sound-step sym.WantUntil k ss = sound-until k ss
sound-step sym.WantProc k ss = sound-proc k ss
sound-step sym.WantAssign k ss = sound-assign k ss
sound-step sym.WantEqual k ss = sound-equal k ss
sound-step sym.WantClose k ss = sound-close k ss
sound-step sym.WantCloseIndex k ss = sound-close-index k ss
sound-step sym.WantSemicolon k ss = sound-semicolon k ss
sound-step sym.WantColon k ss = sound-colon k ss
sound-step sym.WantFinish k ss = sound-finish k ss

-- what makes the things of the stack that is left makes, with the tokens taken, those of the stack before
abbrev pub Back : Stack → List Token → Option Stack → Type 0
Back ss ks None = Unit {0}
Back ss ks (Some ts) = (x : Things ts) → Made ss (ks ++ of_things ts x)

fed-back : (s : Symbol) (k : Token) (ss : Stack) (o : Option Stack) → Steps s k ss o → (b : Bool) → vanishes s ≡ b
    → (later : Option Stack) → Back ss (k ∷ []) later
    → Back (s ∷ ss) (k ∷ []) (fed_by o b ss later)
fed-back s k ss (Some ts) h b e later m = h.1
fed-back s k ss None h true e None m = tt
fed-back s k ss None h true e (Some ts) m =
    λ x. ((closing s, (m x).0), closed s (rw e tt) (of_things ss (m x).0) ∙ (m x).1)
fed-back s k ss None h false e later m = tt

sound-feed : (k : Token) (ss : Stack) → Back ss (k ∷ []) (feed k ss)
sound-feed k [] = tt
sound-feed k (s ∷ ss) = fed-back s k ss (step s k) (sound-step s k ss) (vanishes s) refl (feed k ss) (sound-feed k ss)

then-back : (ss ts : Stack) (k : Token) (ks : List Token) (o : Option Stack)
    → ((x : Things ts) → Made ss (k ∷ of_things ts x)) → Back ts ks o → Back ss (k ∷ ks) o
then-back ss ts k ks None m n = tt
then-back ss ts k ks (Some us) m n = λ x. ((m (n x).0).0, (m (n x).0).1 ∙ ap (λ l. k ∷ l) (n x).1)

ran : (ss : Stack) (k : Token) (ks : List Token) (o : Option Stack) → Back ss (k ∷ []) o
    → ((ts : Stack) → Back ts ks (trace ts ks).0)
    → Back ss (k ∷ ks) (noted o (λ ts. trace ts ks)).0
ran ss k ks None m go = tt
ran ss k ks (Some ts) m go = then-back ss ts k ks (trace ts ks).0 m (go ts)

pub sound-trace : (ks : List Token) (ss : Stack) → Back ss ks (trace ss ks).0
sound-trace [] ss = λ x. (x, refl)
sound-trace (k ∷ ks) ss = ran ss k ks (feed k ss) (sound-feed k ss) (sound-trace ks)
