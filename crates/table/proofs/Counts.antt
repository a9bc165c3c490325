-- How many declarations a table has, and when it lacks room.
use Rattle.std.proofs.Common.{◌≡◌, ℕ, List, length, arith, length-take}
use lib.ListN.{length-map}
use Rattle.table.specs.declared.btf.Btf.{Btf}
use Rattle.table.specs.Tables.{table_of}

pub decl_count : (s : Btf) (strings : List ℕ) → length (table_of s strings).decls ≡ s.type_count
decl_count s strings = let h = s.within in simp (length-map, length-take) (omega arith)
