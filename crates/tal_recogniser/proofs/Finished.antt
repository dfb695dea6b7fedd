-- The end is the last token that the machine takes.
use Rattle.std.proofs.Common.{◌≡◌, Bool, true, false, List, [], ◌∷◌, ◌++◌, Option, Some, None, refl, sym, ap, ◌∙◌}
use Rattle.std.proofs.lemmas.Option.{none-some}
use Rattle.tal_tokens.specs.declared.token.At.{At}
use Rattle.tal_tokens.specs.declared.token.Token.{Token}
use Rattle.tal_tokens.specs.declared.token.Token.TheVariants as tok
use Rattle.tal_recogniser.specs.declared.symbol.Symbol.{Symbol}
use Rattle.tal_recogniser.specs.declared.symbol.Symbol.TheVariants as sym
use Rattle.tal_recogniser.specs.ExpressionTable.{Stack}
use Rattle.tal_recogniser.specs.Machine.{step, vanishes, fed_by, feed, noted, trace, start}
use Rattle.tal_recogniser.proofs.Things.{NoFinish, Steps}
use Rattle.tal_recogniser.proofs.Sound.{sound-step}
use Rattle.tal_recogniser.proofs.Split.{on_from, none_from, one_more, one_less}

-- below the end nothing is to come
abbrev pub Seated : Stack → Type 0
Seated [] = Unit {0}
Seated (sym.WantFinish ∷ ss) = ss ≡ []
Seated (s ∷ ss) = Seated ss

seated-tail : (s : Symbol) (ss : Stack) → Seated (s ∷ ss) → Seated ss
seated-tail sym.WantFinish ss h = rw h tt
seated-tail s ss h = h

seated-onto : (ts ss : Stack) → NoFinish ts → Seated ss → Seated (ts ++ ss)
seated-onto [] ss n h = h
seated-onto (sym.WantFinish ∷ ts) ss n h = absurd n
seated-onto (t ∷ ts) ss n h = seated-onto ts ss n h

abbrev IsSeated : Option Stack → Type 0
IsSeated None = Unit {0}
IsSeated (Some ts) = Seated ts

seated-by : (s : Symbol) (k : Token) (ss : Stack) (o : Option Stack) (b : Bool) (later : Option Stack) → Steps s k ss o
    → Seated ss → IsSeated later → IsSeated (fed_by o b ss later)
seated-by s k ss (Some ts) b later h i j = seated-onto ts ss h.0 i
seated-by s k ss None true later h i j = j
seated-by s k ss None false later h i j = tt

seated-feed : (k : Token) (ss : Stack) → Seated ss → IsSeated (feed k ss)
seated-feed k [] h = tt
seated-feed k (s ∷ ss) h =
    seated-by s k ss (step s k) (vanishes s) (feed k ss) (sound-step s k ss) (seated-tail s ss h)
    (seated-feed k ss (seated-tail s ss h))

seated-noted : (o : Option Stack) (ks : List Token) → IsSeated o
    → ((ts : Stack) → Seated ts → IsSeated (trace ts ks).0) → IsSeated (noted o (λ ts. trace ts ks)).0
seated-noted None ks h go = tt
seated-noted (Some ts) ks h go = go ts h

seated-trace : (ks : List Token) (ss : Stack) → Seated ss → IsSeated (trace ss ks).0
seated-trace [] ss h = h
seated-trace (k ∷ ks) ss h = seated-noted (feed k ss) ks (seated-feed k ss h) (seated-trace ks)

gone : (b : Bool) (ss ts : Stack) (later : Option Stack) → fed_by None b ss later ≡ Some ts
    → (later ≡ Some ts → ts ≡ []) → ts ≡ []
gone true ss ts later e h = h e
gone false ss ts later e h = absurd (none-some ts e)

abbrev reached : Option Stack → Stack
reached None = []
reached (Some ts) = ts

ends : (at : At) (ss ts : Stack) → Seated ss → feed (tok.Finish at) ss ≡ Some ts → ts ≡ []
ends at [] ts h e = absurd (none-some ts e)
ends at (sym.WantFinish ∷ ss) ts h e = sym (ap reached e) ∙ h
ends at (s ∷ ss) ts h e = gone (vanishes s) ss ts (feed (tok.Finish at) ss) e (ends at ss ts h)

seated-some : (o : Option Stack) (ts : Stack) → IsSeated o → o ≡ Some ts → Seated ts
seated-some o ts h e = rw e at h

end-after : (front : List Token) (at : At) (ss ts : Stack) (o : Option Stack) → (trace start front).0 ≡ Some ss
    → feed (tok.Finish at) ss ≡ o
    → (trace start (front ++ tok.Finish at ∷ [])).0 ≡ Some ts → ts ≡ []
end-after front at ss ts None r f e =
    absurd (none-some ts (sym (ap (λ t. t.0) (on_from start ss front (tok.Finish at ∷ []) r)
    ∙ ap (λ t. t.0) (one_less (tok.Finish at) ss f)) ∙ e))
end-after front at ss ts (Some us) r f e =
    let same : ts ≡ us = sym (ap reached (sym
    (ap (λ t. t.0) (on_from start ss front (tok.Finish at ∷ []) r)
    ∙ ap (λ t. t.0) (one_more (tok.Finish at) ss us f)) ∙ e)) in
    same ∙ ends at ss us (seated-some (trace start front).0 ss (seated-trace front start refl) r) f

end-from : (front : List Token) (at : At) (ts : Stack) (o : Option Stack) → (trace start front).0 ≡ o
    → (trace start (front ++ tok.Finish at ∷ [])).0 ≡ Some ts → ts ≡ []
end-from front at ts None r e = absurd (none-some ts (sym (none_from start front (tok.Finish at ∷ []) r) ∙ e))
end-from front at ts (Some ss) r e = end-after front at ss ts (feed (tok.Finish at) ss) r refl e

-- after the end nothing is to come
pub finished : (front : List Token) (at : At) (ts : Stack) → (trace start (front ++ tok.Finish at ∷ [])).0 ≡ Some ts
    → ts ≡ []
finished front at ts e = end-from front at ts (trace start front).0 refl e
