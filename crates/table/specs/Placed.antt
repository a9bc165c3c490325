-- What is said of rows and of areas by themselves.
use Rattle.std.specs.Prelude.{ℕ, ◌+◌, ◌≤◌, Bool, ◌&&◌, nat_lt}
use Rattle.layout.specs.Info.{elements_of, type_length}
use Rattle.rows.specs.declared.row.TypeRow.{TypeRow}

-- a row's elements are in use
abbrev pub Placed : ℕ → TypeRow → Type 0
Placed used row = row.first + elements_of row.head.info ≤ used

abbrev pub row_length : TypeRow → ℕ
row_length row = type_length row.head.info

-- whether areas of these lengths have room for id 0 and a zero byte
abbrev pub holding : ℕ → ℕ → Bool
holding types strings = nat_lt 0 types && nat_lt 0 strings
