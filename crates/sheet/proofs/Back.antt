-- A text that is a sheet is opened as that sheet.
use Rattle.std.proofs.Common.{ℕ, List, Ok, Err, sym, subst₂}
use Rattle.sheet.specs.Format.{Sheet}
use Rattle.sheet.specs.Opened.{Describes, ReadsBack}

pub reads_back : (names rows : List (List ℕ)) (text : List ℕ) → Sheet names rows text → ReadsBack names rows text
reads_back names rows text sheet (Ok o) opened =
    let same = opened.only names rows sheet in
    subst₂ (Describes o) (sym same.0) (sym same.1) opened.describes
reads_back names rows text sheet (Err f) opened = opened.1 names rows sheet
