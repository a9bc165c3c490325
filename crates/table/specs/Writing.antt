-- What a writer has room for, and what it wrote.
use Rattle.std.specs.Prelude.{◌≡◌, ℕ, ◌+◌, ◌≤◌, List, length, take}
use Rattle.elements.specs.declared.Element.{Element}
use Rattle.meaning.specs.Adding.{over}
use Rattle.table.specs.declared.writer.Writer.{Writer}

abbrev pub Room : {O : Type 0} → Writer O → ℕ → Type 0
Room w count = w.at + count ≤ length w.out.now

-- bytes written behind what was, into the same buffer
pub record Wrote {O : Type 0} (before : Writer O) (bytes : List ℕ) (after : Writer O) : Type 0 where
  pub out : after.out.now ≡ over before.at bytes before.out.now
  pub at : after.at ≡ before.at + length bytes
  pub long : length after.out.now ≡ length before.out.now
  pub same : after.out.ghost_name ≡ before.out.ghost_name

-- the words that are written of an element
abbrev pub kept : ℕ → Element → List ℕ
kept width e = take width e.words
