-- The search, one row at a time.
use Rattle.std.proofs.Common.{◌≡◌, ℕ, ◌+◌, ◌<◌, List, [], length, get_or, drop, sym, ap, ◌∙◌}
use lib.ListN.{length-map}
use Rattle.std.proofs.lemmas.List.{at_drop_more}
use Rattle.layout.specs.Refusals.{Answer, Refusal, accepted, refused}
use Rattle.layout.specs.declared.kind.BtfKind.{BtfKind}
use Rattle.meaning.specs.Table.{void}
use Rattle.meaning.specs.Questions.{find_here, find_from}
use Rattle.rows.specs.declared.row.TypeRow.{TypeRow}
use Rattle.elements.specs.declared.Element.{Element}
use Rattle.rows.specs.Rows.{decl_of, decls_of}
use Rattle.rows.proofs.Lookups.{decl_found}

-- what a row past the end reads as
abbrev blank : TypeRow
blank = record { head = record { name_offset = 0; info = 0; size_or_type = 0; extra = [] }; first = 0 }

-- the search as it was asked is the search from where it has come to
pub record Searched (rows : List TypeRow) (es : List Element) (strings name : List ℕ) (kind : BtfKind) (whole : Answer ℕ) (at : ℕ) : Type 0 where
  pub on : whole ≡ find_from (drop at (decls_of es rows)) strings name kind at

module _ {rows : List TypeRow} {es : List Element} {strings name : List ℕ} {kind : BtfKind} {whole : Answer ℕ} {at : ℕ} (far : Searched rows es strings name kind whole at) where
  module _ (there : at < length rows) where
    abbrev pub here : Answer ℕ → Answer ℕ
    here rest = find_here (decl_of es (get_or rows at blank)) strings name kind at rest

    find_more : whole ≡ here (find_from (drop (at + 1) (decls_of es rows)) strings name kind (at + 1))
    find_more =
        far.on ∙
        at_drop_more (λ l. find_from l strings name kind at) (decls_of es rows) at void (simp length-map there) ∙
        ap (λ x. find_here x strings name kind at (find_from (drop (at + 1) (decls_of es rows)) strings name kind (at + 1))) (decl_found rows es at blank there)

    pub find_stops : (r : Refusal) → ((rest : Answer ℕ) → refused r ≡ here rest) → refused r ≡ whole
    find_stops r e = e _ ∙ sym find_more

    pub find_ends : ((rest : Answer ℕ) → accepted at ≡ here rest) → accepted at ≡ whole
    find_ends e = e _ ∙ sym find_more

    pub find_onward : ((rest : Answer ℕ) → rest ≡ here rest) → Searched rows es strings name kind whole (at + 1)
    find_onward e = record { on = find_more ∙ sym (e _) }
