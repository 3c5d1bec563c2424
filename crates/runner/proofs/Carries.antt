-- The records from a place on, carried out one at a time.
use Rattle.std.proofs.Common.{◌≡◌, ℕ, ◌+◌, ◌-◌, ◌≤◌, List, [], ◌∷◌, ◌++◌, length, Some, None, Ok, Err, Option, Result, sym, refl, ap, ◌∙◌, subst, arith, length-append}
use lib.Seq.{paste}
use Rattle.std.proofs.lemmas.List.Edits.{paste_none, length-paste}
use Rattle.std.proofs.lemmas.Bool.{le-leb, lt-leb}
use Rattle.std.specs.Result.{MatchResult, IsErrAnd}
use Rattle.source.specs.declared.fault.Fault.{Fault}
use Rattle.source.specs.Faults.{number_of}
use Rattle.ledger.specs.Ledger.{Ledger}
use Rattle.script.specs.Lines.{Answered, rendered, Put}
use Rattle.script.specs.declared.check.ScriptFault.{ScriptFault}
use Rattle.script.specs.declared.records.Records.{Records}
use Rattle.script.specs.Drawn.{records_left}
use Rattle.script.specs.Records.{Record, before}
use Rattle.script.proofs.Pastes.{put_then}
use Rattle.runner.specs.declared.run.Ran.{Ran}
use Rattle.runner.specs.Sessions.{answered, answers, printed, after}
use Rattle.runner.specs.Runs.{fault_of, Wrote, Carries}

-- a list that begins with a record goes on with what follows it
pub behind : (at : ℕ) (r : Record) (m : Result (List (ℕ × Record)) (ℕ × ℕ)) (records : List (ℕ × Record)) → before at r m ≡ Ok records
    → (rest : List (ℕ × Record)) × (m ≡ Ok rest) × (records ≡ (at, r) ∷ rest)
behind at r (Ok rest) records is = (rest, refl, cc)
behind at r (Err fault) records is = absurd (cc)

-- nothing written
pub wrote_none : (d : List ℕ) (w : ℕ) (r : Ran) → r.written ≡ w → fault_of r.fault ≡ None → Wrote d w ([], None) d r
wrote_none d w r end fault = record { written = omega arith; output = paste_none d w []; fault = fault }

pub wrote-full : (d : List ℕ) (w at : ℕ) (r : Ran) → r.written ≡ w → fault_of r.fault ≡ Some (16, at) → Wrote d w ([], Some at) d r
wrote-full d w at r end fault = record { written = omega arith; output = paste_none d w []; fault = fault }

-- a line written, and the lines behind it
pub wrote-more : (d o o' text : List ℕ) (w end : ℕ) (p : List ℕ × Option ℕ) (r : Ran) → w ≤ length d → end ≡ w + length text
    → o ≡ paste d w text (length text) → Wrote o end p o' r → Wrote d w (after text p) o' r
wrote-more d o o' text w end p r low is one rest =
    record {
      written = simp length-append (omega (arith, rest.written));
      output = put_then d o o' text p.0 (text ++ p.0) w end (length p.0) low is refl one rest.output refl;
      fault = rest.fault;
    }

-- the first of several lines has room, and the others follow it
pub printed-more : (d o o' : List ℕ) (w end at : ℕ) (a : Answered) (rest : List (ℕ × Answered)) (r : Ran) → w ≤ length d
    → Put d w (rendered a) o (Ok end) → Wrote o end (printed (length o - end) rest) o' r
    → Wrote d w (printed (length d - w) ((at, a) ∷ rest)) o' r
printed-more d o o' w end at a rest r low put more =
    let is = put.0 in
    let fits = put.1 in
    let one = put.2 in
    let test = le-leb (length (rendered a)) (length d - w) (omega arith) in
    let same : length o ≡ length d = ap length one ∙ length-paste d w (rendered a) (length (rendered a)) (omega arith) (omega arith) in
    let room : length o - end ≡ length d - w - length (rendered a) = omega arith in
    let behind = subst (λ n. Wrote o end (printed n rest) o' r) room more in
    rw test (wrote-more d o o' (rendered a) w end (printed (length d - w - length (rendered a)) rest) r low is one behind)

-- the first has no room
pub printed-full : (d o : List ℕ) (w at : ℕ) (a : Answered) (rest : List (ℕ × Answered)) (fault : Fault) (r : Ran) → w ≤ length d
    → Put d w (rendered a) o (Err fault) → r.written ≡ w → fault_of r.fault ≡ Some (number_of fault, at)
    → Wrote d w (printed (length d - w) ((at, a) ∷ rest)) o r
printed-full d o w at a rest fault r low put end told =
    let long = put.1 in
    let test = lt-leb (length (rendered a)) (length d - w) (omega arith) in
    let number : fault_of r.fault ≡ Some (16, at) = told ∙ ap (λ n. Some (n, at)) put.0 in
    let kept = subst (λ x. Wrote d w ([], Some at) x r) (sym put.2) (wrote-full d w at r end number) in
    rw test kept

module _ (script : List ℕ) (next : Option ℕ) (l : Ledger ℕ) (d : List ℕ) (w : ℕ) where
  -- past the last record
  pub carries_none : (r : Ran) → records_left script next ≡ Ok [] → r.written ≡ w → fault_of r.fault ≡ None → Carries script next l d w d r
  carries_none r past end told records is =
      let none : records ≡ [] = cc in
      subst (λ rs. Wrote d w (printed (length d - w) (answers l rs)) d r) (sym none) (wrote_none d w r end told)

  -- a faulty record is not met: the rest of the script means a list
  pub carries_fault : (fault : ℕ × ℕ) (o : List ℕ) (r : Ran) → records_left script next ≡ Err fault → Carries script next l d w o r
  carries_fault fault o r past records is = absurd (cc)

  module _ (at : ℕ) (found : Record) (then : Option ℕ) (low : w ≤ length d) (left : records_left script next ≡ before at found (records_left script then)) where
    -- one record, whose line has room, and then the others
    pub carries_more : (o o' : List ℕ) (end : ℕ) (r : Ran) → Put d w (rendered (answered l found).0) o (Ok end)
        → Carries script then (answered l found).1 o end o' r
        → Carries script next l d w o' r
    carries_more o o' end r put more records is =
        let parts = behind at found (records_left script then) records (sym left ∙ is) in
        let line = printed-more d o o' w end at (answered l found).0 (answers (answered l found).1 parts.0) r low put (more parts.0 parts.1) in
        subst (λ rs. Wrote d w (printed (length d - w) (answers l rs)) o' r) (sym parts.2) line

    -- one whose line has none
    pub carries_full : (o : List ℕ) (fault : Fault) (r : Ran) → Put d w (rendered (answered l found).0) o (Err fault)
        → r.written ≡ w → fault_of r.fault ≡ Some (number_of fault, at)
        → Carries script next l d w o r
    carries_full o fault r put end told records is =
        let parts = behind at found (records_left script then) records (sym left ∙ is) in
        let line = printed-full d o w at (answered l found).0 (answers (answered l found).1 parts.0) fault r low put end told in
        subst (λ rs. Wrote d w (printed (length d - w) (answers l rs)) o r) (sym parts.2) line

-- a fault, or none, and the same with the place of its record
abbrev pub Placed : ℕ → Result ℕ Fault → Result ℕ ScriptFault → Type 0
Placed at r q = MatchResult r (λ n. q ≡ Ok n) (λ e. IsErrAnd q (λ f. f ≡ record { fault = e; at = at }))

pub placed-ok : (at : ℕ) (r : Result ℕ Fault) (q : Result ℕ ScriptFault) (n : ℕ) → Placed at r q → q ≡ Ok n → r ≡ Ok n
placed-ok at (Ok m) q n placed is = cc
placed-ok at (Err e) q n placed is = let h = subst (λ q. IsErrAnd q (λ f. f ≡ record { fault = e; at = at })) is placed in absurd h

pub placed-err : (at : ℕ) (r : Result ℕ Fault) (q : Result ℕ ScriptFault) (found : ScriptFault) → Placed at r q → q ≡ Err found → (r ≡ Err found.fault) × (found.at ≡ at)
placed-err at (Ok m) q found placed is = absurd (cc)
placed-err at (Err e) q found placed is =
    let same : found ≡ record { fault = e; at = at } = subst (λ q. IsErrAnd q (λ f. f ≡ record { fault = e; at = at })) is placed in
    (ap (λ (f : ScriptFault). Err f.fault) (sym same), ap (λ (f : ScriptFault). f.at) same)

-- equal records and ledgers carry out the same
pub begun_at : (earlier later : Records) (k l : Ledger ℕ) (d : List ℕ) (w : ℕ) (o : List ℕ) (r : Ran) → later ≡ earlier → k ≡ l
    → Carries later.script.now later.next k d w o r → Carries earlier.script.now earlier.next l d w o r
begun_at earlier later k l d w o r same whole carries =
    subst (λ (s : Records). Carries s.script.now s.next l d w o r) same (subst (λ (x : Ledger ℕ). Carries later.script.now later.next x d w o r) whole carries)
