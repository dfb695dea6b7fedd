-- Each token that is wanted is what its symbol stands for.
use Rattle.std.proofs.Common.{refl}
use Rattle.tal_tokens.specs.declared.token.Token.{Token}
use Rattle.tal_tokens.specs.declared.token.Token.TheVariants as tok
use Rattle.tal_recogniser.specs.declared.symbol.Symbol.TheVariants as sym
use Rattle.tal_recogniser.specs.ExpressionTable.{Stack}
use Rattle.tal_recogniser.specs.WantedTable.{name_step, begin_step, end_step, then_step, do_step, until_step}
use Rattle.tal_recogniser.specs.WantedTable.{proc_step, assign_step, equal_step, close_step, close_index_step}
use Rattle.tal_recogniser.specs.WantedTable.{semicolon_step}
use Rattle.tal_recogniser.specs.WantedTable.{colon_step, finish_step}
use Rattle.tal_recogniser.proofs.Things.{Steps}

pub sound-name : (k : Token) (ss : Stack) → Steps sym.WantName k ss (name_step k)
sound-name (tok.Name at name) ss = (tt, λ x. (((at, name), x), refl))
sound-name _ ss = tt

pub sound-begin : (k : Token) (ss : Stack) → Steps sym.WantBegin k ss (begin_step k)
sound-begin (tok.Begin at) ss = (tt, λ x. ((at, x), refl))
sound-begin _ ss = tt

pub sound-end : (k : Token) (ss : Stack) → Steps sym.WantEnd k ss (end_step k)
sound-end (tok.End at) ss = (tt, λ x. ((at, x), refl))
sound-end _ ss = tt

pub sound-then : (k : Token) (ss : Stack) → Steps sym.WantThen k ss (then_step k)
sound-then (tok.Then at) ss = (tt, λ x. ((at, x), refl))
sound-then _ ss = tt

pub sound-do : (k : Token) (ss : Stack) → Steps sym.WantDo k ss (do_step k)
sound-do (tok.Do at) ss = (tt, λ x. ((at, x), refl))
sound-do _ ss = tt

pub sound-until : (k : Token) (ss : Stack) → Steps sym.WantUntil k ss (until_step k)
sound-until (tok.Until at) ss = (tt, λ x. ((at, x), refl))
sound-until _ ss = tt

pub sound-proc : (k : Token) (ss : Stack) → Steps sym.WantProc k ss (proc_step k)
sound-proc (tok.Proc at) ss = (tt, λ x. ((at, x), refl))
sound-proc _ ss = tt

pub sound-assign : (k : Token) (ss : Stack) → Steps sym.WantAssign k ss (assign_step k)
sound-assign (tok.Assign at) ss = (tt, λ x. ((at, x), refl))
sound-assign _ ss = tt

pub sound-equal : (k : Token) (ss : Stack) → Steps sym.WantEqual k ss (equal_step k)
sound-equal (tok.Equal at) ss = (tt, λ x. ((at, x), refl))
sound-equal _ ss = tt

pub sound-close : (k : Token) (ss : Stack) → Steps sym.WantClose k ss (close_step k)
sound-close (tok.Close at) ss = (tt, λ x. ((at, x), refl))
sound-close _ ss = tt

pub sound-close-index : (k : Token) (ss : Stack) → Steps sym.WantCloseIndex k ss (close_index_step k)
sound-close-index (tok.CloseIndex at) ss = (tt, λ x. ((at, x), refl))
sound-close-index _ ss = tt

pub sound-semicolon : (k : Token) (ss : Stack) → Steps sym.WantSemicolon k ss (semicolon_step k)
sound-semicolon (tok.Semicolon at) ss = (tt, λ x. ((at, x), refl))
sound-semicolon _ ss = tt

pub sound-colon : (k : Token) (ss : Stack) → Steps sym.WantColon k ss (colon_step k)
sound-colon (tok.Colon at) ss = (tt, λ x. ((at, x), refl))
sound-colon _ ss = tt

pub sound-finish : (k : Token) (ss : Stack) → Steps sym.WantFinish k ss (finish_step k)
sound-finish (tok.Finish at) ss = (tt, λ x. ((at, x), refl))
sound-finish _ ss = tt
