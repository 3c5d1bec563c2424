-- What was written down is read.
use Rattle.std.proofs.Common.{◌≡◌, ℕ, suc, ◌+◌, ◌*◌, ◌/◌, ◌%◌, ◌^◌, ◌<◌, ◌≤◌, true, false, eqb, leb, List, [], ◌∷◌, ◌++◌, length, take, drop, Ok, sym, refl, ap, ◌∙◌, append_assoc, append-nil, arith, length-append}
use Rattle.std.specs.List.{flat_map, AllByRecursion}
use Rattle.std.specs.Int.Digits.{number_from_digits}
use Rattle.script.proofs.Each.{All-append}
use Rattle.std.proofs.lemmas.List.{take_at, drop_at}
use Rattle.std.proofs.lemmas.Bool.{le-leb, ne_eqb}
use Rattle.script.specs.Records.{Record, opening, register, would_write, write, read, close, numbers, record_at, record_of, before, rest_of}
use Rattle.script.specs.Spelling.{words, spelled, Later, placed, ReadsBack}
use Rattle.script.proofs.Rests.{rest_more, rest_last}

length-words : (ns : List ℕ) → length (words ns) ≡ 4 * length ns
length-words [] = refl
length-words (n ∷ ns) = let e = length-words ns in omega arith

two : (n : ℕ) → number_from_digits 256 ((n / 256) ∷ (n % 256) ∷ []) ≡ n
two n = omega arith

four : (n : ℕ) → n < 2 ^ 32 → number_from_digits 256 ((n / 16777216) ∷ (n / 65536 % 256) ∷ (n / 256 % 256) ∷ (n % 256) ∷ []) ≡ n
four n h = omega arith

numbers-words : (ns : List ℕ) → AllByRecursion (λ n. n < 2 ^ 32) ns → numbers (words ns) ≡ ns
numbers-words [] h = refl
numbers-words (n ∷ ns) h = let one = four n h.0 in let rest = numbers-words ns h.1 in cc

-- a record at the start of any bytes
opening-spelled : (size : ℕ) (rest : List ℕ) → record_at true (spelled (opening size) ++ rest) ≡ Ok (opening size, 4)
opening-spelled size rest =
    let all : leb 4 (suc (suc (suc (suc (length rest))))) ≡ true = le-leb 4 (suc (suc (suc (suc (length rest))))) (omega arith) in
    let n = two size in
    rw all (ap (λ k. Ok (opening k, 4)) n)

later-spelled : (r : Record) (rest : List ℕ) → Later r → record_at false (spelled r ++ rest) ≡ Ok (r, length (spelled r))
later-spelled (opening size) rest h = absurd h
later-spelled register rest h =
    let all : leb 2 (suc (suc (length rest))) ≡ true = le-leb 2 (suc (suc (length rest))) (omega arith) in rw all
later-spelled would_write rest h =
    let all : leb 2 (suc (suc (length rest))) ≡ true = le-leb 2 (suc (suc (length rest))) (omega arith) in rw all
later-spelled (write events) rest h =
    let long = length-words events in
    let size : 3 + 4 * length events ≡ suc (suc (suc (length (words events)))) = omega arith in
    let both = length-append (words events) rest in
    let all : leb (3 + 4 * length events) (suc (suc (suc (length (words events ++ rest))))) ≡ true = le-leb (3 + 4 * length events) (suc (suc (suc (length (words events ++ rest))))) (omega arith) in
    let cut : take (4 * length events) (words events ++ rest) ≡ words events = take_at (words events) rest (4 * length events) long in
    let back = numbers-words events h.1 in
    rw (all, cut, back) (ap (λ n. Ok (write events, n)) size)
later-spelled (read reader) rest h =
    let all : leb 3 (suc (suc (suc (length rest)))) ≡ true = le-leb 3 (suc (suc (suc (length rest)))) (omega arith) in rw all
later-spelled (close reader) rest h =
    let all : leb 3 (suc (suc (suc (length rest)))) ≡ true = le-leb 3 (suc (suc (suc (length rest)))) (omega arith) in rw all

two_or_more : (r : Record) → 2 ≤ length (spelled r)
two_or_more (opening size) = omega arith
two_or_more register = omega arith
two_or_more would_write = omega arith
two_or_more (write events) = omega arith
two_or_more (read reader) = omega arith
two_or_more (close reader) = omega arith

-- behind some bytes, one record and then the rest
onwards : (pre : List ℕ) (r : Record) (rs : List Record) → record_of (pre ++ flat_map spelled (r ∷ rs)) (length pre) ≡ Ok (r, length (spelled r)) → AllByRecursion Later rs
    → rest_of (pre ++ flat_map spelled (r ∷ rs)) (length pre) ≡ Ok (placed (length pre) (r ∷ rs))
onwards pre r [] is h =
    let long : length (pre ++ flat_map spelled (r ∷ [])) ≡ length pre + length (spelled r) = length-append pre (spelled r ++ []) ∙ ap (λ xs. length pre + length xs) (append-nil (spelled r)) in
    rest_last (pre ++ flat_map spelled (r ∷ [])) (length pre) (r, length (spelled r)) (omega arith) is (omega arith)
onwards pre r (q ∷ rs) is h =
    let script = pre ++ flat_map spelled (r ∷ q ∷ rs) in
    let regroup : script ≡ (pre ++ spelled r) ++ flat_map spelled (q ∷ rs) = sym (append_assoc pre (spelled r) (flat_map spelled (q ∷ rs))) in
    let here : length (pre ++ spelled r) ≡ length pre + length (spelled r) = length-append pre (spelled r) in
    let left = length-append (pre ++ spelled r) (flat_map spelled (q ∷ rs)) in
    let next = length-append (spelled q) (flat_map spelled rs) in
    let some = two_or_more q in
    let long = ap length regroup in
    let some' = two_or_more r in
    let start : drop (length (pre ++ spelled r)) ((pre ++ spelled r) ++ flat_map spelled (q ∷ rs)) ≡ flat_map spelled (q ∷ rs) = drop_at (pre ++ spelled r) (flat_map spelled (q ∷ rs)) (length (pre ++ spelled r)) refl in
    let later : eqb (length (pre ++ spelled r)) 0 ≡ false = ne_eqb (length (pre ++ spelled r)) 0 (λ z. omega arith) in
    let found : record_of ((pre ++ spelled r) ++ flat_map spelled (q ∷ rs)) (length (pre ++ spelled r)) ≡ Ok (q, length (spelled q)) =
    ap (λ b. record_at b (drop (length (pre ++ spelled r)) ((pre ++ spelled r) ++ flat_map spelled (q ∷ rs)))) later ∙ (ap (record_at false) start ∙ later-spelled q (flat_map spelled rs) h.0) in
    let rest = onwards (pre ++ spelled r) q rs found h.1 in
    let moved : rest_of script (length pre + length (spelled r)) ≡ Ok (placed (length pre + length (spelled r)) (q ∷ rs)) = cc in
    rest_more script (length pre) (r, length (spelled r)) (omega arith) is (omega arith) ∙ ap (before (length pre) r) moved

-- what is written down are bytes
bytes_words : (ns : List ℕ) → AllByRecursion (λ n. n < 2 ^ 32) ns → AllByRecursion (λ b. b < 256) (words ns)
bytes_words [] h = tt
bytes_words (n ∷ ns) h =
    let small = h.0 in (omega arith, (omega arith, (omega arith, (omega arith, bytes_words ns h.1))))

bytes_later : (r : Record) → Later r → AllByRecursion (λ b. b < 256) (spelled r)
bytes_later (opening size) h = absurd h
bytes_later register h = (omega arith, (omega arith, tt))
bytes_later would_write h = (omega arith, (omega arith, tt))
bytes_later (write events) h = (omega arith, (omega arith, (h.0, bytes_words events h.1)))
bytes_later (read reader) h = (omega arith, (omega arith, (h, tt)))
bytes_later (close reader) h = (omega arith, (omega arith, (h, tt)))

bytes_joined : (rs : List Record) → AllByRecursion Later rs → AllByRecursion (λ b. b < 256) (flat_map spelled rs)
bytes_joined [] h = tt
bytes_joined (r ∷ rs) h =
    All-append (λ b. b < 256) (spelled r) (flat_map spelled rs) (bytes_later r h.0) (bytes_joined rs h.1)

pub reads_back : ReadsBack
reads_back size rs h later = (
  (omega arith, (omega arith, (omega arith, (omega arith, bytes_joined rs later)))),
  onwards [] (opening size) rs (opening-spelled size (flat_map spelled rs)) later,
)
