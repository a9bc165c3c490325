-- How it is printed why there is no file.
use Rattle.std.specs.Prelude.{ℕ, List, ◌++◌, codes}
use Rattle.layout.specs.Shown.{shown}
use Rattle.filing.specs.declared.error.FilingError.{FilingError}
use Rattle.filing.specs.declared.error.FilingError.TheVariants.{Table, Memory}

abbrev pub filing_shown : FilingError → List ℕ
filing_shown (Table refusal) = codes "the table " ++ shown refusal
filing_shown Memory = codes "no memory is left"
