-- How a refusal of a rewriting is printed: as the table's are, by number, refused value, section and entry.
use Rattle.std.specs.Prelude.{ℕ, List, ◌++◌, Some, None, codes, decimal}
use Rattle.layout.specs.Shown.{shown}
use Rattle.inspect.specs.declared.error.FixupError.{FixupError}
use Rattle.inspect.specs.declared.error.FixupError.TheVariants.{Table, UnknownSectionSize, InvalidDatasec, SymbolOffsetNotFound, NumberTooLarge}

abbrev pub fixup_shown : FixupError → List ℕ
fixup_shown (Table fault) = shown fault
fixup_shown (UnknownSectionSize section) = codes "refused 12: at id " ++ decimal section
fixup_shown (InvalidDatasec section entry type-id) = codes "refused 13: id " ++ decimal type-id ++ codes ", at id " ++ decimal section ++ codes ", element " ++ decimal entry
fixup_shown (SymbolOffsetNotFound section entry) = codes "refused 14: at id " ++ decimal section ++ codes ", element " ++ decimal entry
fixup_shown (NumberTooLarge section (Some entry) number) = codes "refused 15: number " ++ decimal number ++ codes ", at id " ++ decimal section ++ codes ", element " ++ decimal entry
fixup_shown (NumberTooLarge section None number) = codes "refused 15: number " ++ decimal number ++ codes ", at id " ++ decimal section
