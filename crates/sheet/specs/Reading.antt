-- What the reader's parts find, each as a relation between a text and a place in it.
use Rattle.std.specs.Prelude.{◌≡◌, ℕ, ◌+◌, ◌<◌, ◌⊎◌, List, [], ◌∷◌, ◌++◌, map, length, drop, ◌≢◌, slice_index}
use Rattle.std.specs.List.{AllByRecursion}
use Rattle.coding.specs.Refusals.{number_of}
use Rattle.sheet.specs.declared.faults.Fault.{Fault}
use Rattle.sheet.specs.declared.faults.Layer.TheVariants.{Sheet}
use Rattle.sheet.specs.declared.texts.Kind.{Kind}
use Rattle.sheet.specs.declared.texts.Kind.TheVariants as kind
use Rattle.sheet.specs.declared.tokens.Break.{Break}
use Rattle.sheet.specs.declared.tokens.Break.TheVariants.{Blank, LineEnd}
use Rattle.sheet.specs.declared.tokens.Token.{Token}
use Rattle.sheet.specs.declared.tokens.Token.TheVariants as token
use Rattle.sheet.specs.declared.sheets.Named.{Named}
use Rattle.sheet.specs.declared.sheets.Head.{Head}
use Rattle.sheet.specs.Format.{Letter, Decimal, Name, Names, Row, line, lines, values}
use Rattle.sheet.specs.Faults.{Known}

-- the bytes of words
abbrev pub WordByte : ℕ → Type 0
WordByte b = Letter b ⊎ Decimal b

abbrev pub IsKind : Kind → ℕ → Type 0
IsKind kind.Letter b = Letter b
IsKind kind.Digit b = Decimal b
IsKind kind.Blank b = b ≡ 32
IsKind kind.LineEnd b = b ≡ 10
IsKind kind.Foreign b = Known b → ⊥

-- no word goes on at the start of the rest
abbrev pub Stops : List ℕ → Type 0
Stops [] = Unit {0}
Stops (b ∷ rest) = WordByte b → ⊥

-- the longest word that starts at a place
pub record WordAt (text : List ℕ) (place : ℕ) (word : List ℕ) : Type 0 where
  pub rest : List ℕ
  pub there : drop place text ≡ word ++ rest
  pub some : 0 < length word
  pub bytes : AllByRecursion WordByte word
  pub stops : Stops rest

abbrev pub IsToken : List ℕ → ℕ → Token → Type 0
IsToken text place (token.Word w) = WordAt text place w.now
IsToken text place token.Blank = slice_index text place ≡ 32
IsToken text place token.LineEnd = slice_index text place ≡ 10

-- the byte that ends a word
abbrev pub ending : Break → ℕ
ending Blank = 32
ending LineEnd = 10

-- words with a blank after each
abbrev pub spaced : List (List ℕ) → List ℕ
spaced [] = []
spaced (w ∷ ws) = w ++ 32 ∷ spaced ws

-- no word starts at a place
abbrev pub NoWord : List ℕ → ℕ → Type 0
NoWord text place = (b : ℕ) (rest : List ℕ) → WordByte b → drop place text ≢ b ∷ rest

-- a blank or a line end stands at a place
abbrev pub BreakAt : List ℕ → ℕ → Break → Type 0
BreakAt text place found = drop place text ≡ ending found ∷ drop (place + 1) text

abbrev pub NoBreak : List ℕ → ℕ → Type 0
NoBreak text place = (end : Break) (rest : List ℕ) → drop place text ≢ ending end ∷ rest

-- a name and what ends it start at a place
pub record NameAt (text : List ℕ) (place : ℕ) (found : Named) : Type 0 where
  pub name : Name found.word.now
  pub there : drop place text ≡ found.word.now ++ ending found.end ∷ drop found.next text
  pub next : found.next ≡ place + length found.word.now + 1

-- no name with its ending starts at a place
abbrev pub NoName : List ℕ → ℕ → Type 0
NoName text place = (w rest : List ℕ) (end : Break) → Name w → drop place text ≢ w ++ ending end ∷ rest

-- a names line begins the text
pub record Headed (text : List ℕ) (head : Head) : Type 0 where
  pub names : List (List ℕ)
  pub rule : Names names
  pub count : head.names ≡ length names
  pub end : head.end ≡ length (line names)
  pub text_is : text ≡ line names ++ drop head.end text

-- a value line of n digits begins the rest
abbrev pub Begins : ℕ → List ℕ → Type 0
Begins n rest = (row : List ℕ) × (after : List ℕ) × Row n row × (rest ≡ values row ++ after)

-- value lines of n digits, and after them the rest
pub record Lined (n : ℕ) (text : List ℕ) (count : ℕ) (rest : List ℕ) : Type 0 where
  pub rows : List (List ℕ)
  pub rule : AllByRecursion (Row n) rows
  pub many : length rows ≡ count
  pub text_is : text ≡ lines (map values rows) ++ rest

-- the first value line that is against its rule
pub record LinesFault (n : ℕ) (text : List ℕ) (head : ℕ) (f : Fault) : Type 0 where
  pub number : number_of f.refusal ≡ 4
  pub layer : f.layer ≡ Sheet
  pub count : ℕ
  pub rest : List ℕ
  pub before : Lined n (drop head text) count rest
  pub more : 0 < length rest
  pub none : Begins n rest → ⊥
  pub place : f.place + length rest ≡ length text
