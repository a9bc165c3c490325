-- What may be missing or too large for the rules on sections.
use Rattle.std.specs.Prelude.{ℕ, ◌+◌, ◌*◌, cond, List, [], ◌∷◌, Some, None, Option, ◌==◌, nat_le, nat_lt}
use Rattle.layout.specs.Kinds.{kind_number}
use Rattle.layout.specs.Refusals.{Refusal, refusal}
use Rattle.features.specs.declared.BtfFeature.TheVariants as feature
use Rattle.meaning.specs.Table.{Decl}
use Rattle.meaning.specs.Questions.{decl_kind, decl_at, greatest_word}
use Rattle.rewriting.specs.Requests.{Job, granted, section_number, symbol_number}
use Rattle.rewriting.specs.Closed.{before}
use Rattle.rewriting.specs.Rules.{name_at, entry_id, entry_offset, entry_end, var_linkage}

-- refusal 15: a number that is no word
abbrev pub too_large : ℕ → Option ℕ → ℕ → Option Refusal
too_large id entry n = cond (nat_le n greatest_word) None (Some (refusal 15 (Some id) entry (Some n)))

-- a row that is needed: missing, or its number is no word
abbrev pub needed : ℕ → ℕ → Option ℕ → Option ℕ → Option Refusal
needed number id entry None = Some (refusal number (Some id) entry None)
needed number id entry (Some n) = too_large id entry n

-- sections granted: an entry is a Var's, and one that is not static has a symbol
abbrev pub symbol_fault : Job → ℕ → ℕ → Decl → Option Refusal
symbol_fault j id index var = cond (var_linkage var == 0) None (needed 14 id (Some index) (symbol_number j (name_at j var.name)))

abbrev pub entry_fault : Job → ℕ → ℕ → List ℕ → Option Refusal
entry_fault j id index ws =
    let var = decl_at j.decls (entry_id ws) in
    cond (kind_number (decl_kind var) == 14) (symbol_fault j id index var) (Some (refusal 13 (Some id) (Some index) (Some (entry_id ws))))

-- sections refused: a member's offset in bits and where it ends are words
abbrev pub member_fault : ℕ → ℕ → List ℕ → Option Refusal
member_fault id index ws = before (too_large id (Some index) (entry_offset ws * 8)) (too_large id (Some index) (entry_end ws))

abbrev pub each_fault : (ℕ → List ℕ → Option Refusal) → ℕ → List (List ℕ) → Option Refusal
each_fault fault index [] = None
each_fault fault index (ws ∷ rest) = before (fault index ws) (each_fault fault (index + 1) rest)

-- a section with a size of its own needs no row, and its entries are not read
abbrev pub granted_fault : Job → ℕ → Decl → Option Refusal
granted_fault j id d =
    cond (nat_lt 0 d.third) None
    (before (needed 12 id None (section_number j (name_at j d.name))) (each_fault (entry_fault j id) 0 d.tail))

abbrev pub section_fault : Job → ℕ → Decl → Option Refusal
section_fault j id d =
    cond (kind_number (decl_kind d) == 15)
    (cond (granted j feature.DataSec) (granted_fault j id d) (each_fault (member_fault id) 0 d.tail))
    None

abbrev pub sections_from : Job → ℕ → List Decl → Option Refusal
sections_from j id [] = None
sections_from j id (d ∷ ds) = before (section_fault j id d) (sections_from j (id + 1) ds)

-- the first fault of a section, in rising id order
abbrev pub sections_fault : Job → Option Refusal
sections_fault j = sections_from j 0 j.decls
