-- The text of a capture: a line `SAMPLE COUNT` for each run. Assumes nothing: these are definitions.
use Rattle.std.specs.Prelude.{◌≡◌, ℕ, ◌+◌, ◌-◌, ◌^◌, ◌≤◌, min, cond, ◌&&◌, List, [], ◌∷◌, ◌++◌, length, Some, None, Ok, Err, decimal, Option, Result, ◌==◌, nat_le, nat_lt}
use Rattle.std.specs.Str.Parse.{digits_value}
use Rattle.std.specs.Str.{all_ascii_digits}
use Rattle.std.specs.List.{All, flat_map, before_first, after_first, onto_first}
use Rattle.std.specs.Option.{option_zip, option_map_or}
use Rattle.std.specs.Result.{result_map_both}
use Rattle.samples.specs.declared.refusal.Refusal.{Refusal}
use Rattle.samples.specs.declared.refusal.Refusal.TheVariants.{Samples, Text}
use Rattle.samples.specs.declared.run.Run.{Run}
use Rattle.samples.specs.Runs.{WellFormed}

-- WRITING

-- the sample and the count, with one space between
abbrev pub line_of : Run → List ℕ
line_of r = decimal r.sample ++ (32 ∷ decimal r.count)

-- each line ends with a newline
abbrev pub text_of : List Run → List ℕ
text_of rs = flat_map (λ r. line_of r ++ (10 ∷ [])) rs

-- READING

-- the lines of a text: the last may lack its newline, and the empty text has none
abbrev pub lines_of : List ℕ → List (List ℕ)
lines_of [] = []
lines_of (b ∷ bs) = cond (b == 10) ([] ∷ lines_of bs) (onto_first b (lines_of bs))

-- the number that one decimal digit or more write; zeros may lead
abbrev pub number_in : List ℕ → Option ℕ
number_in bs = cond (nat_lt 0 (length bs) && all_ascii_digits bs) (Some (digits_value 10 bs)) None

-- the two numbers of a line, with one space between
abbrev pub numbers_in : List ℕ → Option (ℕ × ℕ)
numbers_in line =
    option_zip (number_in (before_first (λ b. b == 32) line)) (number_in (after_first (λ b. b == 32) line))

-- the run of two numbers, or why it is none: n lines and p samples come before them
abbrev pub run_of : (n p sample count : ℕ) → Result Run Refusal
run_of n p s c =
    cond (nat_lt 0 c && nat_le c 65535) (cond (nat_le s 65535) (Ok (record { sample = s; count = c })) (Err (Samples p))) (Err (Text n))

-- the run of a line, or its refusal
abbrev pub run_in : (n p : ℕ) → List ℕ → Result Run Refusal
run_in n p line = option_map_or (λ q. run_of n p q.0 q.1) (numbers_in line) (Err (Text n))

-- a place counts to 2 ^ 64 - 1 and no further
abbrev pub later : ℕ → Run → ℕ
later p r = min (p + r.count) (2 ^ 64 - 1)

-- nothing is read after a refusal
abbrev pub then_read : Result Run Refusal → (Run → List (Result Run Refusal)) → List (Result Run Refusal)
then_read (Ok r) rest = Ok r ∷ rest r
then_read (Err f) rest = Err f ∷ []

-- what is read of lines, one after the other: n lines and p samples come before them
abbrev pub reading_from : (n p : ℕ) → List (List ℕ) → List (Result Run Refusal)
reading_from n p [] = []
reading_from n p (l ∷ ls) = then_read (run_in n p l) (λ r. reading_from (n + 1) (later p r) ls)

-- the runs that were read, or the refusal
abbrev pub runs_read : List (Result Run Refusal) → Result (List Run) Refusal
runs_read [] = Ok []
runs_read (Ok r ∷ rest) = result_map_both (λ rs. r ∷ rs) (λ f. f) (runs_read rest)
runs_read (Err f ∷ rest) = Err f

-- the runs of a text whose first line is line n; or the refusal of its first line at fault
abbrev pub runs_in : (n : ℕ) → List ℕ → Result (List Run) Refusal
runs_in n bs = runs_read (reading_from n 0 (lines_of bs))

-- ROUND TRIP

-- samples of sixteen bits
abbrev pub SixteenBit : List Run → Type 0
SixteenBit rs = All (λ r. r.sample ≤ 65535) rs

-- what is written of any runs is read back as those runs, whatever the number of its first line
abbrev pub RoundTrip : Type 0
RoundTrip = (n : ℕ) (rs : List Run) → WellFormed rs → SixteenBit rs → runs_in n (text_of rs) ≡ Ok rs
