-- Runs of calls: one call more, what they tell, and where they end.
use Rattle.std.proofs.Common.{◌≡◌, ℕ, ◌+◌, ◌<◌, List, [], ◌∷◌, ◌++◌, length, get_or, take, drop, set, Some, None, Option, sym, refl, ap, ◌∙◌, subst, append_assoc, append-nil, arith}
use Rattle.std.proofs.lemmas.List.{take_more, drop_more, take_more_set, drop-set-lt}
use Rattle.ledger.specs.Ledger as ledger
use Rattle.ledger.specs.Ledger.{Ledger, Answer, outcome}
use Rattle.ledger.specs.Histories.{Entry, Told, after}
use Rattle.ledger.specs.Port.{Chain, widest}
use Rattle.replay.specs.declared.words.Call.{Call}
use Rattle.replay.specs.Steps.{Held, ledger_held}
use Rattle.replay.specs.Runs.{State, held, ledger_in, Unmoved, replies, entry, asked, Took, Ran}

module _ {E : Type 0} where
  -- a call that was made is told before the rest, and one that was not is no entry
  tells : (l m : Ledger E) (o : Option (ledger.Call E)) (a : Option (Answer E)) (es : List (Entry E)) → (a, m) ≡ replies l o → Told m es → Told l (entry o a ++ es)
  tells l m None a es e t = subst (λ (x : Ledger E). Told x es) (ap (λ x. x.1) e) t
  tells l m (Some c) None es e t = let f = ap (λ x. x.0) e in let z : ◌≡◌ {A = ℕ} 0 1 = cc in absurd (omega arith)
  tells l m (Some c) (Some x) es e t =
      let f : Some x ≡ Some (outcome l c).0 = ap (λ x. x.0) e in
      (cc, subst (λ (x : Ledger E). Told x es) (ap (λ x. x.1) e) t)

  comes : (l m : Ledger E) (o : Option (ledger.Call E)) (a : Option (Answer E)) (es : List (Entry E)) → (a, m) ≡ replies l o → after m es ≡ after l (entry o a ++ es)
  comes l m None a es e = ap (λ x. after x.1 es) e
  comes l m (Some c) None es e = let f = ap (λ x. x.0) e in let z : ◌≡◌ {A = ℕ} 0 1 = cc in absurd (omega arith)
  comes l m (Some c) (Some x) es e = ap (λ x. after x.1 es) e

  unsome : (x y : Answer E) → Some x ≡ Some y → x ≡ y
  unsome x y e = cc

  of_parts : (p : Answer E × Ledger E) (x : Answer E) (l : Ledger E) → x ≡ p.0 → l ≡ p.1 → p ≡ (x, l)
  of_parts (y, m) x l e f = cc

  -- a call that was made is a step, and one that was not leaves the state
  leads : (s m t : Held E) (o : Option (ledger.Call E)) (a : Option (Answer E)) (es : List (Entry E))
      → (a, ledger_held m) ≡ replies (ledger_held s) o → Unmoved a s m → Chain (widest ledger_held) m es t → Chain (widest ledger_held) s (entry o a ++ es) t
  leads s m t None None es e u c = subst (λ (x : Held E). Chain (widest ledger_held) x es t) u c
  leads s m t None (Some x) es e u c = let f = ap (λ x. x.0) e in let z : ◌≡◌ {A = ℕ} 0 1 = cc in absurd (omega arith)
  leads s m t (Some k) None es e u c = let f = ap (λ x. x.0) e in let z : ◌≡◌ {A = ℕ} 0 1 = cc in absurd (omega arith)
  leads s m t (Some k) (Some x) es e u c =
      (m, of_parts (outcome (ledger_held s) k) x (ledger_held m) (unsome x _ (ap (λ x. x.0) e)) (ap (λ x. x.1) e), c)

module _ {E S : Type 0} (means : S → List E) (beneath : S → List (List E)) (others : ℕ) where
  -- some entries of the run
  abbrev pub Run : State E → List (Call S) → List (Option (Answer E)) → List (Call S) → State E → Type 0
  Run p cs rs ds q = (es : List (Entry E)) × Ran means beneath others p cs rs ds es q

  -- one call more
  ran-more : (p m q : State E) (cs ds : List (Call S)) (rs : List (Option (Answer E))) (es : List (Entry E)) (c d : Call S) (a : Option (Answer E))
      → Ran means beneath others p cs rs ds es m → Took means beneath others m c a d q
      → Ran means beneath others p (cs ++ c ∷ []) (rs ++ a ∷ []) (ds ++ d ∷ []) (es ++ entry (asked means beneath others m c) a) q
  ran-more p m q [] [] [] es c d a ran t =
      let new = entry (asked means beneath others m c) a in
      let P : State E → Type 0 = λ x. Ran means beneath others x (c ∷ []) (a ∷ []) (d ∷ []) (es ++ new) q in
      subst P (sym ran.1) (q, [], ap (λ x. x ++ new) ran.0 ∙ sym (append-nil new), t, (refl, refl))
  ran-more p m q [] (x ∷ ds) [] es c d a ran t = absurd ran
  ran-more p m q [] ds (x ∷ rs) es c d a ran t = absurd ran
  ran-more p m q (x ∷ cs) ds [] es c d a ran t = absurd ran
  ran-more p m q (x ∷ cs) [] (y ∷ rs) es c d a ran t = absurd ran
  ran-more p m q (x ∷ cs) (z ∷ ds) (y ∷ rs) es c d a ran t =
      let new = entry (asked means beneath others m c) a in (
        ran.0,
        ran.1 ++ new,
        ap (λ x. x ++ new) ran.2 ∙ append_assoc (entry (asked means beneath others p x) y) ran.1 new,
        ran.3,
        ran-more ran.0 m q cs ds rs ran.1 c d a ran.4 t,
      )

  pub run_told : (p q : State E) (cs ds : List (Call S)) (rs : List (Option (Answer E))) (es : List (Entry E)) → Ran means beneath others p cs rs ds es q → Told (ledger_in p) es
  run_told p q [] [] [] es ran = subst (λ (x : List (Entry E)). Told (ledger_in p) x) (sym ran.0) tt
  run_told p q [] (x ∷ ds) [] es ran = absurd ran
  run_told p q [] ds (x ∷ rs) es ran = absurd ran
  run_told p q (x ∷ cs) ds [] es ran = absurd ran
  run_told p q (x ∷ cs) [] (y ∷ rs) es ran = absurd ran
  run_told p q (x ∷ cs) (z ∷ ds) (y ∷ rs) es ran =
      subst (λ (k : List (Entry E)). Told (ledger_in p) k) (sym ran.2)
      (tells (ledger_in p) (ledger_in ran.0) (asked means beneath others p x) y ran.1 ran.3.told (run_told ran.0 q cs ds rs ran.1 ran.4))

  pub run_ends : (p q : State E) (cs ds : List (Call S)) (rs : List (Option (Answer E))) (es : List (Entry E)) → Ran means beneath others p cs rs ds es q → ledger_in q ≡ after (ledger_in p) es
  run_ends p q [] [] [] es ran = ap ledger_in (sym ran.1) ∙ ap (λ x. after (ledger_in p) x) (sym ran.0)
  run_ends p q [] (x ∷ ds) [] es ran = absurd ran
  run_ends p q [] ds (x ∷ rs) es ran = absurd ran
  run_ends p q (x ∷ cs) ds [] es ran = absurd ran
  run_ends p q (x ∷ cs) [] (y ∷ rs) es ran = absurd ran
  run_ends p q (x ∷ cs) (z ∷ ds) (y ∷ rs) es ran =
      run_ends ran.0 q cs ds rs ran.1 ran.4
      ∙ comes (ledger_in p) (ledger_in ran.0) (asked means beneath others p x) y ran.1 ran.3.told
      ∙ ap (λ k. after (ledger_in p) k) (sym ran.2)

  -- the calls that were made lead from the one state to the other
  pub run_leads : (p q : State E) (cs ds : List (Call S)) (rs : List (Option (Answer E))) (es : List (Entry E)) → Ran means beneath others p cs rs ds es q → Chain (widest ledger_held) (held p) es (held q)
  run_leads p q [] [] [] es ran = subst (λ (x : List (Entry E)). Chain (widest ledger_held) (held p) x (held q)) (sym ran.0) (ap held ran.1)
  run_leads p q [] (x ∷ ds) [] es ran = absurd ran
  run_leads p q [] ds (x ∷ rs) es ran = absurd ran
  run_leads p q (x ∷ cs) ds [] es ran = absurd ran
  run_leads p q (x ∷ cs) [] (y ∷ rs) es ran = absurd ran
  run_leads p q (x ∷ cs) (z ∷ ds) (y ∷ rs) es ran =
      subst (λ (k : List (Entry E)). Chain (widest ledger_held) (held p) k (held q)) (sym ran.2)
      (leads (held p) (held ran.0) (held q) (asked means beneath others p x) y ran.1 ran.3.told ran.3.unmoved (run_leads ran.0 q cs ds rs ran.1 ran.4))

  -- one turn of the loop: the call at place i is done
  pub turn : (p m q : State E) (all cs : List (Call S)) (rs : List (Option (Answer E))) (c d : Call S) (a : Option (Answer E)) (i : ℕ)
      → i < length all → i < length cs → Run p (take i all) rs (take i cs) m → drop i cs ≡ drop i all → Took means beneath others m (get_or cs i c) a d q
      → Run p (take (i + 1) all) (rs ++ a ∷ []) (take (i + 1) (set cs i d)) q
  turn p m q all cs rs c d a i h k run e t =
      let f = take_more all i c h in
      let x = drop_more all i c h in
      let y = drop_more cs i c k in
      let w : take (i + 1) all ≡ take i all ++ get_or cs i c ∷ [] = cc in
      let v = take_more_set cs i d k in
      subst (λ (u : List (Call S)). Run p u (rs ++ a ∷ []) (take (i + 1) (set cs i d)) q) (sym w)
      (subst (λ (u : List (Call S)). Run p (take i all ++ get_or cs i c ∷ []) (rs ++ a ∷ []) u q) (sym v)
      (run.0 ++ entry (asked means beneath others m (get_or cs i c)) a, ran-more p m q (take i all) (take i cs) rs run.0 (get_or cs i c) d a run.1 t))

-- what the loop has not reached stays
pub rest : {X : Type 0} (all xs : List X) (y : X) (i : ℕ) → i < length all → i < length xs → drop i xs ≡ drop i all → drop (i + 1) (set xs i y) ≡ drop (i + 1) all
rest all xs y i h k e =
    let a = drop_more all i y h in
    let b = drop_more xs i y k in
    let c = drop-set-lt (i + 1) xs i y (omega arith) in
    cc
