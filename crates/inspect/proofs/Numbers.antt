-- The first row of a name.
use Rattle.std.proofs.Common.{◌≡◌, ℕ, Bool, true, false, cond, List, [], ◌∷◌, map, Some, Option, find, option_map, refl}
use Rattle.rewriting.specs.Requests.{gives, number_of}
use Rattle.inspect.specs.Listed.{listed}
use Rattle.inspect.specs.declared.names.NamedRow.{NamedRow}

by_row : (row : NamedRow) (b : Bool) (o : Option NamedRow) (n : Option ℕ) → n ≡ option_map (λ (r : NamedRow). r.number) o → cond b (Some row.number) n ≡ option_map (λ (r : NamedRow). r.number) (cond b (Some row) o)
by_row row true o n e = refl
by_row row false o n e = e

pub number_of-find : (names name : List ℕ) (rows : List NamedRow) → number_of names (map listed rows) name ≡ option_map (λ (row : NamedRow). row.number) (find (λ row. gives names name (listed row)) rows)
number_of-find names name [] = refl
number_of-find names name (row ∷ rows) = by_row row (gives names name (listed row)) _ _ (number_of-find names name rows)
