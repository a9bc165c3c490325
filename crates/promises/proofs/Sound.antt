-- What holds of the declarations of a table that calls have made.
use Rattle.std.proofs.Common.{◌≡◌, ◌+◌, ◌-◌, ◌*◌, ◌≤◌, true, false, cond, eqb, ltb, List, [], ◌∷◌, ◌++◌, length, drop, replicate, ℕ, sum_by}
use Rattle.std.specs.List.{AllByRecursion}
use Rattle.std.proofs.ByRecursion.{All-push}
use Rattle.std.proofs.lemmas.Bool.{false≢true}
use Rattle.layout.specs.declared.kind.BtfKind.{BtfKind}
use Rattle.layout.specs.Kinds.{kind_number, extra_words, element_words}
use Rattle.layout.specs.Info.{low_of}
use Rattle.meaning.specs.Table.{Decl, Table, void, most_decls, most_elements}
use Rattle.meaning.specs.Questions.{decl_kind}
use Rattle.meaning.specs.File.{type_words}
use Rattle.promises.specs.Calls.{Word}

-- a declaration that was added: its words fit, and its info word tells how many words it has
pub record Sound (d : Decl) : Type 0 where
  pub kind : BtfKind
  pub kind_is : decl_kind d ≡ kind
  pub known : eqb (kind_number kind) 0 ≡ false
  pub name_fits : Word d.name
  pub info_fits : Word d.info
  pub third_fits : Word d.third
  pub extra_fits : AllByRecursion Word d.extra
  pub extra_length : length d.extra ≡ 3
  pub extra_rest : drop (extra_words kind) d.extra ≡ replicate (3 - extra_words kind) 0
  pub counted : length d.tail ≡ cond (ltb 0 (element_words kind)) (low_of d.info) 0
  pub widths : AllByRecursion (λ ws. length ws ≡ element_words kind) d.tail
  pub tail_fits : AllByRecursion (AllByRecursion Word) d.tail

-- id 0, and then what was added
abbrev pub Grown : List Decl → Type 0
Grown [] = Unit {0}
Grown (d ∷ ds) = (d ≡ void) × AllByRecursion Sound ds

abbrev pub tail_length : Decl → ℕ
tail_length d = length d.tail

-- one more behind them
pub grown_push : (ds : List Decl) (d : Decl) → ltb 0 (length ds) ≡ true → Grown ds → Sound d → Grown (ds ++ d ∷ [])
grown_push [] d h g s = absurd (false≢true h)
grown_push (v ∷ ds) d h g s = (g.0, All-push Sound ds d g.1 s)

pub record SoundTable (t : Table) : Type 0 where
  pub grown : Grown t.decls
  pub counts : t.elements ≡ sum_by tail_length t.decls
  pub few_elements : t.elements ≤ most_elements
  pub few_decls : length t.decls ≤ most_decls

-- what holds of a table after rewritings too
pub record BoundedTable (t : Table) : Type 0 where
  pub grown : Grown t.decls
  pub few_words : length (type_words t.decls) ≤ 6 * length t.decls + 3 * t.elements
  pub few_elements : t.elements ≤ most_elements
  pub few_decls : length t.decls ≤ most_decls
