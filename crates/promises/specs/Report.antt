-- What the program writes for an outcome. 01: 'It prints "refused N", or "accepted N" with the count, then a line per answer, objects in
-- decimal with single spaces, and no line for the empty tuple.' A text is the list of its ASCII codes; every line ends in a newline.
use Rattle.std.specs.Prelude.{ℕ, zero, suc, ◌+◌, ◌*◌, ◌/◌, ◌%◌, cond, List, [], ◌∷◌, ◌++◌, eqb, ltb, get_or}
use Rattle.words.specs.Limits.{object_bytes}
use Rattle.sheets.specs.AnswerList.{tuple_size}
use Rattle.promises.specs.Ascii.{ascii}

abbrev pub newline : ℕ
newline = 10

abbrev pub space : ℕ
space = 32

abbrev pub refused_text : List ℕ
refused_text = ascii "refused "

abbrev pub accepted_text : List ℕ
accepted_text = ascii "accepted "

-- a number below 10 is its digit; any other, the number without its last digit, and that digit. `0` has the code 48. The first argument
-- only bounds the number of digits.
unfoldable pub decimal_in : ℕ → ℕ → List ℕ
decimal_in zero n = []
decimal_in (suc most) n = cond (ltb n 10) ((48 + n) ∷ []) (decimal_in most (n / 10) ++ ((48 + n % 10) ∷ []))

-- a number in decimal, without zeros in front
unfoldable pub decimal_of : ℕ → List ℕ
unfolding decimal_in
decimal_of n = decimal_in (suc n) n

-- what stands behind an object in its line: a newline behind the last, a space behind any other
abbrev pub separator : List ℕ → ℕ
separator [] = newline
separator (o ∷ os) = space

-- the line of a tuple
unfoldable pub line : List ℕ → List ℕ
unfolding decimal_of
line [] = []
line (o ∷ os) = decimal_of o ++ (separator os ∷ line os)

-- the object at byte `at` of an answer list: "16-bit objects, high byte first"
abbrev pub object_at : List ℕ → ℕ → ℕ
object_at list at = 256 * get_or list at 0 + get_or list (at + 1) 0

-- the tuple of so many terms at byte `at`
unfoldable pub objects_at : List ℕ → ℕ → ℕ → List ℕ
objects_at list at zero = []
objects_at list at (suc terms) = object_at list at ∷ objects_at list (at + object_bytes) terms

-- the lines of so many tuples from byte `at` on
unfoldable pub lines_at : List ℕ → ℕ → ℕ → ℕ → List ℕ
unfolding line objects_at
lines_at list at terms zero = []
lines_at list at terms (suc count) = line (objects_at list at terms) ++ lines_at list (at + tuple_size terms) terms count

-- a word, a number, and the end of the line
abbrev pub first_line : List ℕ → ℕ → List ℕ
first_line word n = word ++ (decimal_of n ++ (newline ∷ []))

-- THE TEXT for a number, a count, the question's number of answer terms, and the bytes of an answer list
unfoldable pub report : ℕ → ℕ → ℕ → List ℕ → List ℕ
unfolding decimal_of lines_at
report number count terms list =
    cond (eqb number 0) (first_line accepted_text count ++ lines_at list 0 terms count) (first_line refused_text number)
