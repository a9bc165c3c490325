-- What a rewriting is asked with: section rows, symbol rows, the bytes of their names, and which features are granted.
use Rattle.std.specs.Prelude.{ℕ, ◌+◌, Bool, cond, ◌&&◌, List, [], ◌∷◌, length, take, drop, Some, None, Option, nat_le}
use Rattle.std.specs.Str.{bytes_eq}
use Rattle.features.specs.declared.BtfFeature.{BtfFeature}
use Rattle.meaning.specs.Table.{Decl}

-- A row gives a name by its place in the name bytes, and a number: a section's size or a symbol's offset.
pub record Row : Type 0 where
  pub start : ℕ
  pub span : ℕ
  pub number : ℕ

pub record Request : Type 0 where
  pub sections : List Row
  pub symbols : List Row
  pub names : List ℕ
  pub grants : BtfFeature → Bool

-- whether a row gives this name; one that reaches outside the name bytes gives none
abbrev pub gives : List ℕ → List ℕ → Row → Bool
gives names name row = nat_le (row.start + row.span) (length names) && bytes_eq (take row.span (drop row.start names)) name

-- the number of the first row of a name
abbrev pub number_of : List ℕ → List Row → List ℕ → Option ℕ
number_of names [] name = None
number_of names (row ∷ rows) name = cond (gives names name row) (Some row.number) (number_of names rows name)

abbrev pub or_zero : Option ℕ → ℕ
or_zero (Some n) = n
or_zero None = 0

-- what a rewriting works on: what the table held before it, and the request
pub record Job : Type 0 where
  pub decls : List Decl
  pub bytes : List ℕ
  pub request : Request

abbrev pub granted : Job → BtfFeature → Bool
granted j feature = j.request.grants feature

abbrev pub section_number : Job → List ℕ → Option ℕ
section_number j name = number_of j.request.names j.request.sections name

abbrev pub symbol_number : Job → List ℕ → Option ℕ
symbol_number j name = number_of j.request.names j.request.symbols name
