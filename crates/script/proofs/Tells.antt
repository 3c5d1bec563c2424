-- Lines are told apart: digits end where something else begins.
use Rattle.std.proofs.Common.{◌≡◌, ℕ, ◌^◌, ◌<◌, Bool, true, false, cond, eqb, List, [], ◌∷◌, ◌++◌, length, get_or, take, drop, Some, codes, decimal, sym, refl, ap, ◌∙◌, subst, append_assoc, append-nil, arith, length-append}
use Rattle.std.specs.Str.Parse.{AllDigits}
use Rattle.std.specs.Int.{IsInRange}
use Rattle.std.specs.List.{flat_map, AllByRecursion}
use Rattle.std.proofs.lemmas.Fmt.{digits_decimal, decimal_nonempty, decimal_injective}
use Rattle.script.proofs.Each.{All-append}
use Rattle.std.proofs.lemmas.List.{take_at, drop_at}
use Rattle.std.proofs.lemmas.Str.Parse.{tells_digits, numerals_by_value}
use Rattle.script.specs.declared.mark.Mark.{Mark}
use Rattle.script.specs.declared.mark.Mark.TheVariants as mark
use Rattle.script.specs.Marks.{letters, mark_of}
use Rattle.script.specs.Lines.{Answered, opened, registered, would_write, wrote, handed, closed, refused, spaced, line, answering, fields, rendered}
use Rattle.script.specs.Telling.{Fitting, OneFeed, LineTells, LinesTell}
use Rattle.script.proofs.Letters.{mark_of_letters}
use Rattle.script.proofs.Fields.{length-letters, length-line}

decimal_digits : (n : ℕ) → n < 2 ^ 64 → AllDigits 10 (decimal n)
decimal_digits n h = digits_decimal (numerals_by_value (AllDigits 10) tells_digits) n h

-- no digit comes first
abbrev Stops : List ℕ → Type 0
Stops [] = Unit {0}
Stops (c ∷ cs) = IsInRange 48 57 c → ⊥

-- two runs of digits that are followed by something else
runs_tell : (xs ys s t : List ℕ) → AllDigits 10 xs → AllDigits 10 ys → Stops s → Stops t → xs ++ s ≡ ys ++ t → (xs ≡ ys) × (s ≡ t)
runs_tell [] [] s t dx dy ps pt e = (refl, e)
runs_tell [] (y ∷ ys) s t dx dy ps pt e = absurd (subst Stops e ps (tells_digits.parts y ys dy).0)
runs_tell (x ∷ xs) [] s t dx dy ps pt e = absurd (subst Stops (sym e) pt (tells_digits.parts x xs dx).0)
runs_tell (x ∷ xs) (y ∷ ys) s t dx dy ps pt e =
    let head : x ≡ y = cc in
    let tail : xs ++ s ≡ ys ++ t = cc in
    let rest = runs_tell xs ys s t (tells_digits.parts x xs dx).1 (tells_digits.parts y ys dy).1 ps pt tail in
    let same = rest.0 in
    (cc, rest.1)

numbers-tell : (m n : ℕ) (s t : List ℕ) → m < 2 ^ 64 → n < 2 ^ 64 → Stops s → Stops t → decimal m ++ s ≡ decimal n ++ t → (m ≡ n) × (s ≡ t)
numbers-tell m n s t hm hn ps pt e =
    let runs = runs_tell (decimal m) (decimal n) s t (decimal_digits m hm) (decimal_digits n hn) ps pt e in
    (decimal_injective m n hm hn runs.0, runs.1)

stops_spaced : (es s : List ℕ) → Stops (spaced es ++ (10 ∷ s))
stops_spaced [] s = λ h. omega arith
stops_spaced (e ∷ es) s = λ h. omega arith

events-tell : (es fs s t : List ℕ) → AllByRecursion (λ e. e < 2 ^ 64) es → AllByRecursion (λ e. e < 2 ^ 64) fs
    → spaced es ++ (10 ∷ s) ≡ spaced fs ++ (10 ∷ t) → (es ≡ fs) × (s ≡ t)
events-tell [] [] s t he hf e = (refl, cc)
events-tell [] (f ∷ fs) s t he hf e = let z : ◌≡◌ {A = ℕ} 10 32 = cc in absurd (omega arith)
events-tell (e ∷ es) [] s t he hf p = let z : ◌≡◌ {A = ℕ} 32 10 = cc in absurd (omega arith)
events-tell (e ∷ es) (f ∷ fs) s t he hf p =
    let left = append_assoc (decimal e) (spaced es) (10 ∷ s) in
    let right = append_assoc (decimal f) (spaced fs) (10 ∷ t) in
    let tail : (decimal e ++ spaced es) ++ (10 ∷ s) ≡ (decimal f ++ spaced fs) ++ (10 ∷ t) = cc in
    let first = numbers-tell e f (spaced es ++ (10 ∷ s)) (spaced fs ++ (10 ∷ t)) he.0 hf.0 (stops_spaced es s) (stops_spaced fs t) (sym left ∙ (tail ∙ right)) in
    let rest = events-tell es fs s t he.1 hf.1 first.1 in
    let one = first.0 in
    let more = rest.0 in
    (cc, rest.1)

-- a colon or none before the events
abbrev colon : Bool → List ℕ
colon b = cond b (58 ∷ []) []

tails_tell : (g h : Bool) (es fs s t : List ℕ) → AllByRecursion (λ e. e < 2 ^ 64) es → AllByRecursion (λ e. e < 2 ^ 64) fs
    → colon g ++ (spaced es ++ (10 ∷ s)) ≡ colon h ++ (spaced fs ++ (10 ∷ t)) → (es ≡ fs) × (s ≡ t)
tails_tell true true es fs s t he hf e = events-tell es fs s t he hf cc
tails_tell true false es [] s t he hf e = let z : ◌≡◌ {A = ℕ} 58 10 = cc in absurd (omega arith)
tails_tell true false es (f ∷ fs) s t he hf e = let z : ◌≡◌ {A = ℕ} 58 32 = cc in absurd (omega arith)
tails_tell false true [] fs s t he hf e = let z : ◌≡◌ {A = ℕ} 10 58 = cc in absurd (omega arith)
tails_tell false true (f ∷ es) fs s t he hf e = let z : ◌≡◌ {A = ℕ} 32 58 = cc in absurd (omega arith)
tails_tell false false es fs s t he hf e = events-tell es fs s t he hf e

stops_tail : (g : Bool) (es s : List ℕ) → Stops (colon g ++ (spaced es ++ (10 ∷ s)))
stops_tail true es s = λ h. omega arith
stops_tail false es s = stops_spaced es s

-- what an answer's line is made of besides its mark: whether it is a refusal, its first number, a colon or none, and
-- the other numbers
abbrev refusal : Answered → Bool
refusal (opened size) = false
refusal (registered reader) = false
refusal (would_write yes_or_no) = false
refusal (wrote count size) = false
refusal (handed reader events) = false
refusal (closed reader) = false
refusal (refused m number) = true

abbrev first_of : Answered → ℕ
first_of (opened size) = size
first_of (registered reader) = reader
first_of (would_write yes_or_no) = cond yes_or_no 1 0
first_of (wrote count size) = count
first_of (handed reader events) = reader
first_of (closed reader) = reader
first_of (refused m number) = number

abbrev colon_in : Answered → Bool
colon_in (opened size) = false
colon_in (registered reader) = false
colon_in (would_write yes_or_no) = false
colon_in (wrote count size) = false
colon_in (handed reader events) = true
colon_in (closed reader) = false
colon_in (refused m number) = false

abbrev others : Answered → List ℕ
others (opened size) = []
others (registered reader) = []
others (would_write yes_or_no) = []
others (wrote count size) = size ∷ []
others (handed reader events) = events
others (closed reader) = []
others (refused m number) = []

-- these and the mark give the answer back
abbrev back : Mark → Bool → ℕ → List ℕ → Answered
back m true n es = refused m n
back mark.Opening false n es = opened n
back mark.Register false n es = registered n
back mark.WouldWrite false n es = would_write (eqb n 1)
back mark.Write false n es = wrote n (get_or es 0 0)
back mark.Read false n es = handed n es
back mark.Close false n es = closed n

back_is : (a : Answered) → back (answering a) (refusal a) (first_of a) (others a) ≡ a
back_is (opened size) = refl
back_is (registered reader) = refl
back_is (would_write true) = refl
back_is (would_write false) = refl
back_is (wrote count size) = refl
back_is (handed reader events) = refl
back_is (closed reader) = refl
back_is (refused m number) = refl

first_fits : (a : Answered) → Fitting a → first_of a < 2 ^ 64
first_fits (opened size) h = h
first_fits (registered reader) h = h
first_fits (would_write true) h = omega arith
first_fits (would_write false) h = omega arith
first_fits (wrote count size) h = h.0
first_fits (handed reader events) h = h.0
first_fits (closed reader) h = h
first_fits (refused m number) h = h

others_fit : (a : Answered) → Fitting a → AllByRecursion (λ e. e < 2 ^ 64) (others a)
others_fit (opened size) h = tt
others_fit (registered reader) h = tt
others_fit (would_write yes_or_no) h = tt
others_fit (wrote count size) h = (h.1, tt)
others_fit (handed reader events) h = h.1
others_fit (closed reader) h = tt
others_fit (refused m number) h = tt

-- "no " or nothing
abbrev said : Bool → List ℕ
said b = cond b (codes "no ") []

abbrev parts : Answered → List ℕ
parts a = said (refusal a) ++ (decimal (first_of a) ++ (colon (colon_in a) ++ spaced (others a)))

fields-are : (a : Answered) → fields a ≡ parts a
fields-are (opened size) = sym (append-nil (decimal size))
fields-are (registered reader) = sym (append-nil (decimal reader))
fields-are (would_write yes_or_no) = sym (append-nil (decimal (cond yes_or_no 1 0)))
fields-are (wrote count size) = ap (λ ds. decimal count ++ (32 ∷ ds)) (sym (append-nil (decimal size)))
fields-are (handed reader events) = refl
fields-are (closed reader) = sym (append-nil (decimal reader))
fields-are (refused m number) = ap (λ ds. codes "no " ++ ds) (sym (append-nil (decimal number)))

regrouped : (a : Answered) (s : List ℕ)
    → fields a ++ (10 ∷ s) ≡ said (refusal a) ++ (decimal (first_of a) ++ (colon (colon_in a) ++ (spaced (others a) ++ (10 ∷ s))))
regrouped a s =
    ap (λ xs. xs ++ (10 ∷ s)) (fields-are a)
    ∙ (append_assoc (said (refusal a)) (decimal (first_of a) ++ (colon (colon_in a) ++ spaced (others a))) (10 ∷ s)
    ∙ ap (λ xs. said (refusal a) ++ xs)
    (append_assoc (decimal (first_of a)) (colon (colon_in a) ++ spaced (others a)) (10 ∷ s)
    ∙ ap (λ xs. decimal (first_of a) ++ xs) (append_assoc (colon (colon_in a)) (spaced (others a)) (10 ∷ s))))

begins : (ds y : List ℕ) (c : ℕ) (cs : List ℕ) → AllDigits 10 ds → 0 < length ds → c ∷ cs ≡ ds ++ y → IsInRange 48 57 c
begins [] y c cs d h e = absurd (omega arith)
begins (x ∷ ds) y c cs d h e = let same : x ≡ c = cc in subst (IsInRange 48 57) same (tells_digits.parts x ds d).0

-- the letter of a refusal is no digit
not_said : (n : ℕ) (y cs : List ℕ) → n < 2 ^ 64 → 110 ∷ cs ≡ decimal n ++ y → ⊥
not_said n y cs h e = let digit = begins (decimal n) y 110 cs (decimal_digits n h) (decimal_nonempty n h) e in omega arith

heads_tell : (p q : Bool) (m n : ℕ) (x y : List ℕ) → m < 2 ^ 64 → n < 2 ^ 64 → Stops x → Stops y
    → said p ++ (decimal m ++ x) ≡ said q ++ (decimal n ++ y) → (p ≡ q) × (m ≡ n) × (x ≡ y)
heads_tell true true m n x y hm hn px py e = let rest = numbers-tell m n x y hm hn px py cc in (refl, rest.0, rest.1)
heads_tell true false m n x y hm hn px py e = absurd (not_said n y _ hn e)
heads_tell false true m n x y hm hn px py e = absurd (not_said m x _ hm (sym e))
heads_tell false false m n x y hm hn px py e = let rest = numbers-tell m n x y hm hn px py e in (refl, rest.0, rest.1)

marks-tell : (m n : Mark) (x y : List ℕ) → letters m ++ x ≡ letters n ++ y → (m ≡ n) × (x ≡ y)
marks-tell m n x y e =
    let tm = take_at (letters m) x 2 (length-letters m) in
    let tn = take_at (letters n) y 2 (length-letters n) in
    let dm = drop_at (letters m) x 2 (length-letters m) in
    let dn = drop_at (letters n) y 2 (length-letters n) in
    let front = ap (take 2) e in
    let rest = ap (drop 2) e in
    let same : letters m ≡ letters n = sym tm ∙ (front ∙ tn) in
    let om = mark_of_letters m in
    let on = mark_of_letters n in
    let both = ap mark_of same in
    let some : Some m ≡ Some n = sym om ∙ (both ∙ on) in
    (cc, sym dm ∙ (rest ∙ dn))

line-opens : (m : Mark) (x s : List ℕ) → line m x ++ s ≡ letters m ++ (32 ∷ (x ++ (10 ∷ s)))
line-opens m x s =
    append_assoc (letters m) (32 ∷ (x ++ (10 ∷ []))) s ∙ ap (λ xs. letters m ++ (32 ∷ xs)) (append_assoc x (10 ∷ []) s)

pub line_tells : LineTells
line_tells a b s t ha hb e =
    let whole = marks-tell (answering a) (answering b) (32 ∷ (fields a ++ (10 ∷ s))) (32 ∷ (fields b ++ (10 ∷ t))) (sym (line-opens (answering a) (fields a) s) ∙ (e ∙ line-opens (answering b) (fields b) t)) in
    let behind = whole.1 in
    let text : fields a ++ (10 ∷ s) ≡ fields b ++ (10 ∷ t) = cc behind in
    let heads = heads_tell (refusal a) (refusal b) (first_of a) (first_of b) (colon (colon_in a) ++ (spaced (others a) ++ (10 ∷ s))) (colon (colon_in b) ++ (spaced (others b) ++ (10 ∷ t))) (first_fits a ha) (first_fits b hb) (stops_tail (colon_in a) (others a) s) (stops_tail (colon_in b) (others b) t) (sym (regrouped a s) ∙ (text ∙ regrouped b t)) in
    let tails = tails_tell (colon_in a) (colon_in b) (others a) (others b) s t (others_fit a ha) (others_fit b hb) heads.2 in
    let marks = whole.0 in
    let no-or-not = heads.0 in
    let number = heads.1 in
    let more = tails.0 in
    let left = back_is a in
    let right = back_is b in
    let same : back (answering a) (refusal a) (first_of a) (others a) ≡ back (answering b) (refusal b) (first_of b) (others b) = cc in
    (sym left ∙ (same ∙ right), tails.1)

never_empty : (a : Answered) (s : List ℕ) → [] ≡ rendered a ++ s → ⊥
never_empty a s e =
    let long = ap length e in
    let both = length-append (rendered a) s in
    let four = length-line (answering a) (fields a) in
    omega arith

pub lines_tell : LinesTell
lines_tell [] [] hx hy e = refl
lines_tell [] (y ∷ ys) hx hy e = absurd (never_empty y (flat_map rendered ys) e)
lines_tell (x ∷ xs) [] hx hy e = absurd (never_empty x (flat_map rendered xs) (sym e))
lines_tell (x ∷ xs) (y ∷ ys) hx hy e =
    let first = line_tells x y (flat_map rendered xs) (flat_map rendered ys) hx.0 hy.0 e in
    let rest = lines_tell xs ys hx.1 hy.1 first.1 in
    let one = first.0 in
    cc

-- no line feed inside a line
abbrev Plain : List ℕ → Type 0
Plain xs = AllByRecursion (λ c. c ≡ 10 → ⊥) xs

plain_digits : (ds : List ℕ) → AllDigits 10 ds → Plain ds
plain_digits [] d = tt
plain_digits (c ∷ cs) d =
    let both = tells_digits.parts c cs d in ((λ e. omega arith), plain_digits cs both.1)

plain_number : (n : ℕ) → n < 2 ^ 64 → Plain (decimal n)
plain_number n h = plain_digits (decimal n) (decimal_digits n h)

plain_spaced : (es : List ℕ) → AllByRecursion (λ e. e < 2 ^ 64) es → Plain (spaced es)
plain_spaced [] h = tt
plain_spaced (e ∷ es) h =
    ((λ z. omega arith), All-append (λ c. c ≡ 10 → ⊥) (decimal e) (spaced es) (plain_number e h.0) (plain_spaced es h.1))

plain_letters : (m : Mark) → Plain (letters m)
plain_letters mark.Opening = ((λ z. omega arith), ((λ z. omega arith), tt))
plain_letters mark.Register = ((λ z. omega arith), ((λ z. omega arith), tt))
plain_letters mark.WouldWrite = ((λ z. omega arith), ((λ z. omega arith), tt))
plain_letters mark.Write = ((λ z. omega arith), ((λ z. omega arith), tt))
plain_letters mark.Read = ((λ z. omega arith), ((λ z. omega arith), tt))
plain_letters mark.Close = ((λ z. omega arith), ((λ z. omega arith), tt))

plain_colon : (b : Bool) → Plain (colon b)
plain_colon true = ((λ z. omega arith), tt)
plain_colon false = tt

plain_said : (b : Bool) → Plain (said b)
plain_said true = ((λ z. omega arith), ((λ z. omega arith), ((λ z. omega arith), tt)))
plain_said false = tt

plain_fields : (a : Answered) → Fitting a → Plain (fields a)
plain_fields a h =
    subst Plain (sym (fields-are a))
    (All-append (λ c. c ≡ 10 → ⊥) (said (refusal a)) _ (plain_said (refusal a))
    (All-append (λ c. c ≡ 10 → ⊥) (decimal (first_of a)) _ (plain_number (first_of a) (first_fits a h))
    (All-append (λ c. c ≡ 10 → ⊥) (colon (colon_in a)) (spaced (others a)) (plain_colon (colon_in a)) (plain_spaced (others a) (others_fit a h)))))

pub one_feed : OneFeed
one_feed a h = (
  letters (answering a) ++ (32 ∷ fields a),
  sym (append_assoc (letters (answering a)) (32 ∷ fields a) (10 ∷ [])),
  All-append (λ c. c ≡ 10 → ⊥) (letters (answering a)) (32 ∷ fields a) (plain_letters (answering a)) ((λ z. omega arith), plain_fields a h),
)
