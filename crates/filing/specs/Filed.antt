-- What asking for the file of a table answers.
use Rattle.std.specs.Prelude.{◌≡◌, ℕ, true, Result, Ok, Err, Vec}
use Rattle.std.specs.declared.alloc.Global.{Global}
use Rattle.order.specs.Order.{Order}
use Rattle.layout.specs.Refusals.{accepted, refused, said}
use Rattle.meaning.specs.Table.{Table, holds}
use Rattle.meaning.specs.Questions.{asked_of}
use Rattle.meaning.specs.File.{file}
use Rattle.filing.specs.declared.error.FilingError.{FilingError}
use Rattle.filing.specs.declared.error.FilingError.TheVariants.{Table as Refused, Memory}

-- The file, or the refusal of a table that holds nothing. Memory is asked for, and can be short, only where it holds something.
abbrev pub Filed : Order → Table → Result (Vec ℕ Global) FilingError → Type 0
Filed o t (Ok v) = accepted v.items ≡ asked_of t (accepted (file o t))
Filed o t (Err (Refused e)) = refused (said e) ≡ asked_of t (accepted (file o t))
Filed o t (Err Memory) = holds t ≡ true
