-- The text format of sheets, as a relation between names, rows and text: each byte is accounted for.
use Rattle.std.specs.Prelude.{◌≡◌, ℕ, ◌+◌, ◌-◌, ◌*◌, ◌<◌, ◌≤◌, ◌⊎◌, List, [], ◌∷◌, ◌++◌, map, length, drop, slice_index, slice_index_or}
use Rattle.std.specs.List.{range_with_len, AllByRecursion}

abbrev pub Letter : ℕ → Type 0
Letter b = (97 ≤ b) × (b ≤ 122)

abbrev pub Decimal : ℕ → Type 0
Decimal b = (48 ≤ b) × (b ≤ 57)

-- 1 to 8 lowercase letters or decimal digits, a letter first
pub record Name (w : List ℕ) : Type 0 where
  pub some : 0 < length w
  pub short : length w ≤ 8
  pub first : Letter (slice_index w 0)
  pub bytes : AllByRecursion (λ b. Letter b ⊎ Decimal b) w

-- words with single blanks between them, and a line feed at the end
abbrev pub line : List (List ℕ) → List ℕ
line [] = 10 ∷ []
line (w ∷ []) = w ++ 10 ∷ []
line (w ∷ (v ∷ ws)) = w ++ 32 ∷ line (v ∷ ws)

-- the lines one after another
abbrev pub lines : List (List ℕ) → List ℕ
lines [] = []
lines (l ∷ ls) = l ++ lines ls

-- 1 to 64 names, all different
pub record Names (names : List (List ℕ)) : Type 0 where
  pub some : 0 < length names
  pub most : length names ≤ 64
  pub each : AllByRecursion Name names
  pub different : (i j : ℕ) → i < length names → j < length names → slice_index_or names i [] ≡ slice_index_or names j [] → i ≡ j

-- one digit 0, 1 or 2 for each of n names
pub record Row (n : ℕ) (row : List ℕ) : Type 0 where
  pub whole : length row ≡ n
  pub small : AllByRecursion (λ d. d < 3) row

-- a value line: the digits as words of one byte
abbrev pub values : List ℕ → List ℕ
values row = line (map (λ d. (48 + d) ∷ []) row)

-- the names line, then the value lines
abbrev pub written : List (List ℕ) → List (List ℕ) → List ℕ
written names rows = line names ++ lines (map values rows)

-- the text is the sheet of these names and rows
pub record Sheet (names rows : List (List ℕ)) (text : List ℕ) : Type 0 where
  pub names_rule : Names names
  pub rows_rule : AllByRecursion (Row (length names)) rows
  pub text_is : text ≡ written names rows
  pub short : length text ≤ 65000

-- a text, the names line that begins it, and how many names and value lines it has
pub record Parts (text head : List ℕ) (count number : ℕ) (names rows : List (List ℕ)) : Type 0 where
  pub sheet : Sheet names rows text
  pub head_is : head ≡ line names
  pub names_are : count ≡ length names
  pub rows_are : number ≡ length rows

-- they are those of a sheet
abbrev pub IsSheet : List ℕ → List ℕ → ℕ → ℕ → Type 0
IsSheet text head count number = (names : List (List ℕ)) × (rows : List (List ℕ)) × Parts text head count number names rows

-- the digits of n names where a value line begins the text: each has two bytes
abbrev pub row_read : ℕ → List ℕ → List ℕ
row_read n text = map (λ k. slice_index text (2 * k) - 48) (range_with_len 0 n)

-- the digits of so many value lines, where they begin the text
abbrev pub rows_read : ℕ → ℕ → List ℕ → List (List ℕ)
rows_read n number text = map (λ i. row_read n (drop (i * (2 * n)) text)) (range_with_len 0 number)
