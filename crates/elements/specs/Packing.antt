-- How the words of an element are kept: in three places, the last ones 0 where it has fewer.
use Rattle.std.specs.Prelude.{ℕ, ◌-◌, List, ◌++◌, length, replicate}
use Rattle.elements.specs.declared.Element.{Element}

abbrev pub packed : List ℕ → Element
packed ws = record { words = ws ++ replicate (3 - length ws) 0 }
