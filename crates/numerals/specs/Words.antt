-- What a word says: the number or the date in it.
use Rattle.std.specs.Prelude.{ℕ, ◌+◌, ◌*◌, ◌-◌, ◌^◌, Bool, true, cond, ◌&&◌, List, [], ◌∷◌, eqb, leb, ltb, ℤ, pos, neg_ℤ, length, get_or, Option, Some, None, option_map}
use Rattle.std.proofs.Math.Seq.{slice}
use Rattle.numerals.specs.declared.Day.{Day}

-- the digit that a byte is; 10 or more for no digit
abbrev pub digit_of : ℕ → ℕ
digit_of b = cond (ltb b 48) 10 (b - 48)

-- whether a word is digits and nothing else
unfoldable pub is_digits : List ℕ → Bool
is_digits [] = true
is_digits (b ∷ w) = leb (digit_of b) 9 && is_digits w

-- the value of digits that follow digits of value v
unfoldable pub value_after : ℕ → List ℕ → ℕ
value_after v [] = v
value_after v (b ∷ w) = value_after (10 * v + digit_of b) w

-- the value of digits, one at least, if it is at most `most`
unfoldable pub size_in : ℕ → List ℕ → Option ℕ
size_in most w = cond (is_digits w && (leb (value_after 0 w) most && ltb 0 (length w))) (Some (value_after 0 w)) None

-- the opposite of a size
abbrev pub minus_of : ℕ → ℤ
minus_of v = neg_ℤ (pos v)

-- the number that a whole word is, from −2^63 to 2^63 − 1: digits, or a minus (45) and digits
unfoldable pub number_in : List ℕ → Option ℤ
number_in [] = None
number_in (b ∷ w) = cond (eqb b 45) (option_map minus_of (size_in (2 ^ 63) w)) (option_map pos (size_in (2 ^ 63 - 1) (b ∷ w)))

-- the date of a year, a month and a day
abbrev pub date_of : Option ℕ → Option ℕ → Option ℕ → Option Day
date_of None m d = None
date_of (Some y) None d = None
date_of (Some y) (Some m) None = None
date_of (Some y) (Some m) (Some d) = Some (record { year = y; month = m; day = d })

-- the date that a whole word is: four digits, two and two, each a part between minuses
unfoldable pub date_in : List ℕ → Option Day
date_in w =
    cond (eqb (length w) 10 && (eqb (get_or w 4 0) 45 && eqb (get_or w 7 0) 45))
    (date_of (size_in 9999 (slice 0 4 w)) (size_in 99 (slice 5 7 w)) (size_in 99 (slice 8 10 w)))
    None
