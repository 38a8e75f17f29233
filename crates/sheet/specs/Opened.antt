-- What an opened sheet says of its text, and how its lines are read as vectors.
use Rattle.std.specs.Prelude.{◌≡◌, ℕ, ◌<◌, ◌≤◌, ◌⊎◌, List, drop, length, Result, MatchResult, slice_index}
use Rattle.algebra.specs.Field.{Field, of}
use Rattle.algebra.specs.Vector.{Vector}
use Rattle.coding.specs.Refusals.{number_of}
use Rattle.sheet.specs.declared.faults.Fault.{Fault}
use Rattle.sheet.specs.declared.faults.Layer.TheVariants.{Job}
use Rattle.sheet.specs.declared.opened.Opened.{Opened}
use Rattle.sheet.specs.Faults.{FaultOf}
use Rattle.sheet.specs.Format.{Parts, Sheet, rows_read}

-- the opened sheet is that of these names and rows
abbrev pub Describes : Opened → List (List ℕ) → List (List ℕ) → Type 0
Describes opened names rows = Parts opened.text.now opened.head.now opened.names opened.lines names rows

-- the rows of an opened sheet: the digits of its value lines, as they stand in the text
abbrev pub rows_of : Opened → List (List ℕ)
rows_of opened = rows_read opened.names opened.lines (drop (length opened.head.now) opened.text.now)

-- a text is the sheet of at most these names and rows
abbrev pub Only : List ℕ → List (List ℕ) → List (List ℕ) → Type 0
Only text names rows =
    (names' rows' : List (List ℕ)) → Sheet names' rows' text → (names' ≡ names) × (rows' ≡ rows)

-- a text is no sheet
abbrev pub NoSheet : List ℕ → Type 0
NoSheet text = (names rows : List (List ℕ)) → Sheet names rows text → ⊥

-- the text is a sheet, in one way, and the opened sheet is that one
pub record OpenedFrom (text : List ℕ) (opened : Opened) : Type 0 where
  pub text_is : opened.text.now ≡ text
  pub names : List (List ℕ)
  pub rows : List (List ℕ)
  pub describes : Describes opened names rows
  pub read : rows ≡ rows_of opened
  pub only : Only text names rows

-- what `open` answers on a text: the sheet that it is, or the one fault of a text that is none
abbrev pub Opens : List ℕ → Result Opened Fault → Type 0
Opens text r = MatchResult r (λ o. OpenedFrom text o) (λ f. FaultOf text f × NoSheet text)

-- whatever `open` answers on a text, it is the sheet of these names and rows
abbrev pub ReadsBack : List (List ℕ) → List (List ℕ) → List ℕ → Type 0
ReadsBack names rows text = (r : Result Opened Fault) → Opens text r → MatchResult r (λ o. Describes o names rows) (λ _. ⊥)

-- the vector of a row: its digits, and nil from there on
pub record VectorOf (F : Field) (v : Vector F) (row : List ℕ) : Type 0 where
  pub digits : (k : ℕ) → k < length row → v k ≡ of F (slice_index row k)
  pub nils : (k : ℕ) → length row ≤ k → v k ≡ F.nil

-- a line of an opened sheet can be read into so many places
pub record Readable (width number : ℕ) (opened : Opened) : Type 0 where
  pub wide : opened.names ≤ width
  pub there : number < opened.lines

-- why a line is not read. 6: more names than places; 9: no line of that number
abbrev pub Unreadable : ℕ → ℕ → Opened → ℕ → Type 0
Unreadable width number opened refusal =
    ((refusal ≡ 6) × (width < opened.names)) ⊎ ((refusal ≡ 9) × (opened.names ≤ width) × (opened.lines ≤ number))

-- the fault of a line that is not read
pub record LineFault (width number : ℕ) (opened : Opened) (f : Fault) : Type 0 where
  pub layer : f.layer ≡ Job
  pub place : f.place ≡ length opened.text.now
  pub why : Unreadable width number opened (number_of f.refusal)
