-- The bytes from a place on, and the record that begins there.
use Rattle.std.proofs.Common.{◌≡◌, ℕ, ◌-◌, ◌≤◌, min, Bool, true, false, not, eqb, cond, nat_lt, List, length, take, drop, Some, None, Ok, Err, Option, Result, codes, sym, refl, ap, ◌∙◌, inl, inr, arith, length-take}
use mathlib.Core.Bool.{beq}
use Rattle.std.specs.Str.{bytes_eq}
use Rattle.std.proofs.lemmas.List.{take_all, take_rest, drop_all}
use Rattle.std.proofs.lemmas.Bool.{cases_lt, cond_both, lt-ltb, le-ltb, true≢false}
use Rattle.script.specs.declared.mark.Mark.{Mark}
use Rattle.script.specs.Marks.{mark_of}
use Rattle.script.specs.Parsed.{told}
use Rattle.script.specs.Records.{Record, marked, record_at, record_of}
use Rattle.script.proofs.Letters.{tested}

from_place : (script : List ℕ) (at from : ℕ) → from ≡ min at (length script) → take (length script - from) (drop from script) ≡ drop at script
from_place script at from e =
    take_rest script from
    ∙ elim (cases_lt (length script) at) [
      | inl past ↦ let all : length script ≤ from = omega arith in let more : length script ≤ at = omega arith in drop_all from script all ∙ sym (drop_all at script more)
      | inr within ↦ ap (λ k. drop k script) (omega arith)
    ]

first_two : (bytes : List ℕ) (n : ℕ) → n ≡ min (length bytes) 2 → take (n - 0) bytes ≡ take 2 bytes
first_two bytes n e =
    elim (cases_lt 2 (length bytes)) [
      | inl more ↦ let e : n - 0 ≡ 2 = omega arith in ap (λ k. take k bytes) e
      | inr all ↦ take_all (n - 0) bytes (omega arith) ∙ sym (take_all 2 bytes all)
    ]

same_flags : (a b : Bool) → not (beq a b) ≡ false → a ≡ b
same_flags true true h = refl
same_flags true false h = absurd (true≢false h)
same_flags false true h = absurd (true≢false h)
same_flags false false h = refl

-- 13 is ruled out
not_misplaced : (first : Bool) (bytes : List ℕ) → bytes_eq (take 2 bytes) (codes "CH") ≡ first → marked (mark_of (take 2 bytes)) bytes ≡ record_at first bytes
not_misplaced true bytes e = rw e
not_misplaced false bytes e = rw e

-- the bytes from a place on, as the reader cuts them out
abbrev pub cut : List ℕ → ℕ → List ℕ
cut script from = take (length script - from) (drop from script)

pub placed : (script : List ℕ) (at from n : ℕ) (opens : Bool) → from ≡ min at (length script) → n ≡ min (length (cut script from)) 2
    → (letters : List ℕ) → letters ≡ codes "CH" → opens ≡ bytes_eq (take (n - 0) (cut script from)) letters → not (beq opens (eqb at 0)) ≡ false
    → marked (mark_of (take (n - 0) (cut script from))) (cut script from) ≡ record_of script at
placed script at from n opens is two letters are m e =
    let bytes = cut script from in
    let start = take (n - 0) bytes in
    let front : start ≡ take 2 bytes = first_two bytes n two in
    let test : bytes_eq start (codes "CH") ≡ eqb at 0 = tested start (codes "CH") opens (eqb at 0) (m ∙ ap (λ xs. bytes_eq start xs) are) (same_flags opens (eqb at 0) e) in
    let test' : bytes_eq (take 2 bytes) (codes "CH") ≡ eqb at 0 = ap (λ xs. bytes_eq xs (codes "CH")) (sym front) ∙ test in
    ap (λ xs. marked (mark_of xs) bytes) front ∙ (not_misplaced (eqb at 0) bytes test' ∙ ap (λ xs. record_at (eqb at 0) xs) (from_place script at from is))

-- what bytes tell of a mark is what they tell of the record: it is read on, or the fault is the record's
pub told-mark : (start : List ℕ) (o : Option Mark) (m : Mark) → Ok m ≡ told start o → o ≡ Some m
told-mark start (Some n) m e = cc
told-mark start None m e = cond_both (nat_lt (length start) 2) (Err 15) (Err 14) (λ r. Ok m ≡ r → None ≡ Some m) (λ _ e. absurd (cc)) (λ _ e. absurd (cc)) e

told_none : (b : Bool) (n : ℕ) → ◌≡◌ {A = Result Mark ℕ} (Err n) (cond b (Err 15) (Err 14)) → ◌≡◌ {A = Result (Record × ℕ) ℕ} (Err n) (cond b (Err 15) (Err 14))
told_none true n e = cc
told_none false n e = cc

pub told-fault : (start bytes : List ℕ) (o : Option Mark) (n : ℕ) → nat_lt (length start) 2 ≡ nat_lt (length bytes) 2 → Err n ≡ told start o → Err n ≡ marked o bytes
told-fault start bytes (Some m) n same e = absurd (cc)
told-fault start bytes None n same e = rw (← same) (told_none (nat_lt (length start) 2) n e)

pub start-short : (bytes : List ℕ) (n : ℕ) → n ≡ min (length bytes) 2 → nat_lt (length (take (n - 0) bytes)) 2 ≡ nat_lt (length bytes) 2
start-short bytes n e =
    let long = length-take (n - 0) bytes in
    elim (cases_lt (length bytes) 2) [
      | inl short ↦ lt-ltb (length (take (n - 0) bytes)) 2 (omega arith) ∙ sym (lt-ltb (length bytes) 2 short)
      | inr more ↦ le-ltb (length (take (n - 0) bytes)) 2 (omega arith) ∙ sym (le-ltb (length bytes) 2 more)
    ]
