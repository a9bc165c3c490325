-- How adding is refused or accepted, check by check.
use Rattle.std.proofs.Common.{◌≡◌, ℕ, ◌+◌, ◌<◌, ◌≤◌, min, Bool, true, false, cond, not, length, None, refl, arith}
use Rattle.std.proofs.lemmas.Grind.{common_steps}
use Rattle.layout.specs.Kinds.{kind_at}
use Rattle.layout.specs.Refusals.{accepted, refused}
use Rattle.layout.specs.declared.kind.BtfKind.{BtfKind}
use Rattle.layout.specs.declared.declaration.Declaration.{Declaration}
use Rattle.meaning.specs.Table.{Table, holds, no_table, most_decls, most_elements}
use Rattle.meaning.specs.Questions.{asked_of}
use Rattle.meaning.specs.Adding.{declaration_fault, room_fault}

held_by : {A : Type 0} (b : Bool) (x y : A) → accepted x ≡ cond (not b) (refused no_table) (accepted y) → (b ≡ true) × (x ≡ y)
held_by true x y e = (refl, cc)
held_by false x y e = absurd (cc)

-- what is answered of a table that holds something
pub asked_held : {A : Type 0} (t : Table) (x y : A) → accepted x ≡ asked_of t (accepted y) → (holds t ≡ true) × (x ≡ y)
asked_held t x y e = held_by (holds t) x y e

-- what room for a declaration and n elements means
pub room_none : (t : Table) (n : ℕ) → None ≡ room_fault t n → (length t.decls < min t.decl_room most_decls) × (t.elements + n ≤ min t.element_room most_elements)
room_none t n e = (grind (arith, common_steps), grind (arith, common_steps))

-- what a declaration without fault has
pub record SoundDeclaration (d : Declaration) (serving : BtfKind → Bool) (count : ℕ) : Type 0 where
  pub serves : 0 < count → serving (kind_at d.kind) ≡ true
  pub few : count ≤ 65535

pub declaration_none : (d : Declaration) (serving : BtfKind → Bool) (count : ℕ) → None ≡ declaration_fault d serving count → SoundDeclaration d serving count
declaration_none d serving count e = record { serves = λ some. grind (arith, common_steps); few = grind (arith, common_steps) }
