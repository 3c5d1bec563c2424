-- Runs whose answers stand in notes and a log.
use Rattle.std.proofs.Common.{◌≡◌, ℕ, ◌+◌, ◌*◌, ◌<◌, ◌≤◌, List, [], ◌∷◌, ◌++◌, length, get_or, take, drop, set, Option, sym, refl, ap, ◌∙◌, subst, mul-le-mul_right, add-mul, arith, append-nil, ◌-◌}
use Rattle.std.proofs.lemmas.List.{take-take, drop-take, drop-drop, take_more_set, take_all, take_at, drop_at, length-take-le}
use Rattle.std.proofs.Math.ListN.{drop_of_length-le}
use borrow.Rule.Slice.PartMut.{put_mid}
use Rattle.ledger.specs.Ledger.{Answer}
use Rattle.replay.specs.declared.words.Call.{Call}
use Rattle.replay.specs.Runs.{State, Took}
use Rattle.replay.specs.Logs.{Note, noted, events, all_events, answers_of, Logged, LoggedAll}
use Rattle.replay.proofs.Runs.{Run, turn, rest}

all_more : (ns : List Note) (a : Note) → all_events (ns ++ a ∷ []) ≡ all_events ns + events a
all_more [] a = omega arith
all_more (b ∷ bs) a = let e = all_more bs a in omega arith

module _ {E : Type 0} where
  -- one note more, with a log that has not changed so far
  answers-more : (ns : List Note) (log log' : List E) (a : Note) → take (all_events ns) log' ≡ take (all_events ns) log
      → answers_of (ns ++ a ∷ []) log' ≡ answers_of ns log ++ noted a (take (events a) (drop (all_events ns) log')) ∷ []
  answers-more [] log log' a e = refl
  answers-more (b ∷ bs) log log' a e =
      let le : events b ≤ events b + all_events bs = omega arith in
      let f : take (events b) log' ≡ take (events b) log =
      sym (take-take (events b) (events b + all_events bs) log' le) ∙ ap (λ xs. take (events b) xs) e ∙ take-take (events b) (events b + all_events bs) log le in
      let k : take (all_events bs) (drop (events b) log') ≡ take (all_events bs) (drop (events b) log) =
      sym (drop-take (events b) (all_events bs) log') ∙ ap (λ xs. drop (events b) xs) e ∙ drop-take (events b) (all_events bs) log in
      let h = answers-more bs (drop (events b) log) (drop (events b) log') a k in
      let d = drop-drop (all_events bs) (events b) log' in
      cc

-- a log whose part from `at` on was written: what stands in front of it, in it and past a place of it
pub written_on : {X : Type 0} (at n : ℕ) (log part : List X) → at ≤ length log → drop n part ≡ drop n (drop at log)
    → let new = put_mid at (length log - at) log part in (take at new ≡ take at log) × (drop at new ≡ part) × (drop (at + n) new ≡ drop (at + n) log)
written_on at n log part h e =
    let new = put_mid at (length log - at) log part in
    let none : drop (length log - at) (drop at log) ≡ [] = drop-drop (length log - at) at log ∙ drop_of_length-le log (omega arith) in
    let to_end : new ≡ take at log ++ part = ap (λ zs. take at log ++ (part ++ zs)) none ∙ ap (λ zs. take at log ++ zs) (append-nil part) in
    let l : length (take at log) ≡ at = length-take-le at log h in
    let d : drop at new ≡ part = ap (drop at) to_end ∙ drop_at (take at log) part at l in
    (ap (take at) to_end ∙ take_at (take at log) part at l, d, sym (drop-drop n at new) ∙ ap (drop n) d ∙ e ∙ drop-drop n at log)

module _ {E S : Type 0} (means : S → List E) (beneath : S → List (List E)) where
  -- the first i calls are done, and notes and log hold their answers and no more
  pub record Done (others : ℕ) (p : State E) (all : List (Call S)) (notes₀ : List Note) (log₀ : List E) (i at : ℕ) (cs : List (Call S)) (notes : List Note) (log : List E) (q : State E) : Type 0 where
    pub run : Run means beneath others p (take i all) (answers_of (take i notes) log) (take i cs) q
    pub calls-past : drop i cs ≡ drop i all
    pub notes_past : drop i notes ≡ drop i notes₀
    pub log_past : drop at log ≡ drop at log₀
    pub counted : at ≡ all_events (take i notes)
    pub few : at ≤ i * length p.slots

  pub done_none : (others : ℕ) (p : State E) (all : List (Call S)) (notes : List Note) (log : List E) → Done others p all notes log 0 0 all notes log p
  done_none others p all notes log =
      record { run = ([], (refl, refl)); calls-past = refl; notes_past = refl; log_past = refl; counted = refl; few = omega arith }

  -- room for what one call more hands out, in a log that does for all
  pub room_left : (others : ℕ) (p : State E) (all : List (Call S)) (notes₀ : List Note) (log₀ : List E) (i at : ℕ) (cs : List (Call S)) (notes : List Note) (log : List E) (q : State E) (k : ℕ)
      → Done others p all notes₀ log₀ i at cs notes log q → i < length all → length all * length p.slots ≤ length log → k ≤ length p.slots → at + k ≤ length log
  room_left others p all notes₀ log₀ i at cs notes log q k done h room few =
      let a = add-mul i 1 (length p.slots) in
      let b : (i + 1) * length p.slots ≤ length all * length p.slots = mul-le-mul_right (length p.slots) (omega arith) in
      omega (arith, done.few)

  module _ (others others' : ℕ) (p m q : State E) (all cs : List (Call S)) (notes₀ notes : List Note) (log₀ log part : List E) (c d : Call S) (a : Note) (i at : ℕ) (room : at ≤ length log)
      (h : i < length all) (k : i < length cs) (l : i < length notes) (l₀ : i < length notes₀) (s : length m.slots ≡ length p.slots)
      (was : Done others p all notes₀ log₀ i at cs notes log m) (o : others' ≡ others) (g : Logged means beneath others' m (get_or cs i c) (drop at log) a part d q) where
    -- the log afterwards: the call was given all of it from `at` on
    abbrev log' : List E
    log' = put_mid at (length log - at) log part

    run_turn : Run means beneath others p (take (i + 1) all) (answers_of (take (i + 1) (set notes i a)) log') (take (i + 1) (set cs i d)) q
    run_turn =
        let x : ℕ = all_events (take i notes) in
        let split = written_on at (events a) log part room g.back in
        let f : take x log' ≡ take x log = subst (λ (n : ℕ). take n log' ≡ take n log) was.counted split.0 in
        let u : answers_of (take (i + 1) (set notes i a)) log' ≡ answers_of (take i notes) log ++ noted a (take (events a) (drop x log')) ∷ [] =
        ap (λ ns. answers_of ns log') (take_more_set notes i a l) ∙ answers-more (take i notes) log log' a f in
        let t : Took means beneath others m (get_or cs i c) (noted a (take (events a) (drop x log'))) d q =
        subst (λ (n : ℕ). Took means beneath others m (get_or cs i c) (noted a (take (events a) (drop n log'))) d q) was.counted
        (subst (λ (xs : List E). Took means beneath others m (get_or cs i c) (noted a (take (events a) xs)) d q) (sym split.1)
        (subst (λ (n : ℕ). Took means beneath n m (get_or cs i c) (noted a (take (events a) part)) d q) o g.took)) in
        subst (λ (rs : List (Option (Answer E))). Run means beneath others p (take (i + 1) all) rs (take (i + 1) (set cs i d)) q) (sym u)
        (turn means beneath others p m q all cs (answers_of (take i notes) log) c d (noted a (take (events a) (drop x log'))) i h k was.run was.calls-past t)

    pub done_more : (n : ℕ) → n ≡ events a → Done others p all notes₀ log₀ (i + 1) (at + n) (set cs i d) (set notes i a) log' q
    done_more n e =
        let y = drop-drop (events a) at log in
        let z = drop-drop (events a) at log₀ in
        let past = was.log_past in
        let back : drop (at + events a) log' ≡ drop (at + events a) log₀ = (written_on at (events a) log part room g.back).2 ∙ sym y ∙ ap (drop (events a)) past ∙ z in
        let f = ap all_events (take_more_set notes i a l) in
        let j = all_more (take i notes) a in
        record {
          run = run_turn;
          calls-past = rest all cs d i h k was.calls-past;
          notes_past = rest notes₀ notes a i l₀ l was.notes_past;
          log_past = subst (λ (n : ℕ). drop (at + n) log' ≡ drop (at + n) log₀) (sym e) back;
          counted = omega (arith, was.counted);
          few = omega (arith, was.few, g.few, add-mul i 1 (length p.slots));
        }

  pub done_all : (others : ℕ) (p q : State E) (all cs : List (Call S)) (notes₀ notes : List Note) (log₀ log : List E) (i at : ℕ)
      → length all ≤ i → i ≤ length all → length cs ≡ length all → Done others p all notes₀ log₀ i at cs notes log q
      → LoggedAll means beneath others p all notes₀ log₀ at notes log cs q
  done_all others p q all cs notes₀ notes log₀ log i at h k l done =
      let e : i ≡ length all = omega arith in
      let j : length cs ≤ i = omega arith in
      let run : Run means beneath others p all (answers_of (take i notes) log) cs q =
      subst (λ (u : List (Call S)). Run means beneath others p u (answers_of (take i notes) log) cs q) (take_all i all h)
      (subst (λ (u : List (Call S)). Run means beneath others p (take i all) (answers_of (take i notes) log) u q) (take_all i cs j) done.run) in
      let run' : Run means beneath others p all (answers_of (take (length all) notes) log) cs q =
      subst (λ (n : ℕ). Run means beneath others p all (answers_of (take n notes) log) cs q) e run in
      record {
        entries = run'.0;
        ran = run'.1;
        counted = done.counted ∙ ap (λ n. all_events (take n notes)) e;
        notes_past = subst (λ (n : ℕ). drop n notes ≡ drop n notes₀) e done.notes_past;
        log_past = done.log_past;
      }
