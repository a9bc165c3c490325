-- What a check says, and what a refusal of a rewriting says: its own faults, or the table's fault whole.
use Rattle.std.specs.Prelude.{ℕ, ◌+◌, List, [], ◌∷◌, Some, None, Option}
use Rattle.layout.specs.Refusals.{Refusal, refusal, said}
use Rattle.rewriting.specs.Closed.{before}
use Rattle.inspect.specs.declared.error.FixupError.{FixupError}
use Rattle.inspect.specs.declared.error.FixupError.TheVariants.{Table, UnknownSectionSize, InvalidDatasec, SymbolOffsetNotFound, NumberTooLarge}

-- number and values by case
abbrev pub fixup_said : FixupError → Refusal
fixup_said (Table fault) = said fault
fixup_said (UnknownSectionSize section) = refusal 12 (Some section) None None
fixup_said (InvalidDatasec section entry type-id) = refusal 13 (Some section) (Some entry) (Some type-id)
fixup_said (SymbolOffsetNotFound section entry) = refusal 14 (Some section) (Some entry) None
fixup_said (NumberTooLarge section entry number) = refusal 15 (Some section) entry (Some number)

-- the first fault of items in rising order, by the place of each
abbrev pub first_fault : {X : Type 0} → (ℕ → X → Option Refusal) → ℕ → List X → Option Refusal
first_fault fault at [] = None
first_fault fault at (x ∷ xs) = before (fault at x) (first_fault fault (at + 1) xs)
