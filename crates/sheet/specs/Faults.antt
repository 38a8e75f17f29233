-- When a text is refused as a sheet, and with which fault.
use Rattle.std.specs.Prelude.{◌≡◌, ℕ, ◌<◌, ◌≤◌, ◌⊎◌, List, ◌++◌, length, ◌≢◌, slice_index}
use Rattle.std.specs.List.{AllByRecursion}
use Rattle.coding.specs.Refusals.{number_of}
use Rattle.sheet.specs.declared.faults.Fault.{Fault}
use Rattle.sheet.specs.declared.faults.Layer.TheVariants.{Text, Sheet}
use Rattle.sheet.specs.Format.{Letter, Decimal, Names, Row, line, values, written}

-- the bytes that a text may hold
abbrev pub Known : ℕ → Type 0
Known b = (Letter b ⊎ Decimal b) ⊎ ((b ≡ 32) ⊎ (b ≡ 10))

-- 1: more bytes than a text may have
pub record TooLong (text : List ℕ) (f : Fault) : Type 0 where
  pub number : number_of f.refusal ≡ 1
  pub layer : f.layer ≡ Text
  pub place : f.place ≡ 65000
  pub long : 65000 < length text

-- 2: the first byte that no text may hold
pub record Foreign (text : List ℕ) (f : Fault) : Type 0 where
  pub number : number_of f.refusal ≡ 2
  pub layer : f.layer ≡ Text
  pub short : length text ≤ 65000
  pub within : f.place < length text
  pub there : Known (slice_index text f.place) → ⊥
  pub before : (k : ℕ) → k < f.place → Known (slice_index text k)

-- 3: no names line begins the text
pub record BadNames (text : List ℕ) (f : Fault) : Type 0 where
  pub number : number_of f.refusal ≡ 3
  pub layer : f.layer ≡ Sheet
  pub place : f.place ≡ 0
  pub short : length text ≤ 65000
  pub known : AllByRecursion Known text
  pub none : (names : List (List ℕ)) (rest : List ℕ) → Names names → text ≢ line names ++ rest

-- 4: after a names line and value lines stands something that no value line begins
pub record BadValues (text : List ℕ) (f : Fault) : Type 0 where
  pub number : number_of f.refusal ≡ 4
  pub layer : f.layer ≡ Sheet
  pub short : length text ≤ 65000
  pub known : AllByRecursion Known text
  pub names : List (List ℕ)
  pub rows : List (List ℕ)
  pub rest : List ℕ
  pub names_rule : Names names
  pub rows_rule : AllByRecursion (Row (length names)) rows
  pub text_is : text ≡ written names rows ++ rest
  pub more : 0 < length rest
  pub none : (row after : List ℕ) → Row (length names) row → rest ≢ values row ++ after
  pub place : f.place ≡ length (written names rows)

-- the fault of the text layer
abbrev pub TextFault : List ℕ → Fault → Type 0
TextFault text f = TooLong text f ⊎ Foreign text f

-- the one fault of a text
abbrev pub FaultOf : List ℕ → Fault → Type 0
FaultOf text f = TextFault text f ⊎ (BadNames text f ⊎ BadValues text f)
