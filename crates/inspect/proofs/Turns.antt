-- Loops over faults, turn by turn: a fault that is found is the fault of the whole, and without one the rest has it.
use Rattle.std.proofs.Common.{◌≡◌, ℕ, ◌+◌, ◌<◌, ◌≤◌, List, [], map, length, get_or, drop, Some, None, Option, sym, ap, ◌∙◌}
use lib.ListN.{length-map}
use Rattle.std.proofs.lemmas.List.{at_drop_more, at_drop_all, get_or-map}
use Rattle.layout.specs.Refusals.{Refusal}
use Rattle.elements.specs.declared.Element.{Element}
use Rattle.meaning.specs.Table.{void}
use Rattle.rows.specs.declared.row.TypeRow.{TypeRow}
use Rattle.rows.specs.Rows.{decl_of}
use Rattle.rows.proofs.Lookups.{decl_found}
use Rattle.rewriting.specs.Requests.{Job}
use Rattle.rewriting.specs.Sections.{each_fault, section_fault, sections_from}
use Rattle.rewriting.specs.Closed.{before, Refers, element_fault, elements_fault, open_at, open_from}

-- the elements of a tail
module _ (bytes : List ℕ) (count id : ℕ) (to : Refers) (f : Element → List ℕ) (tail : List Element) (at : ℕ) where
  pub elements_more : (d : Element) → at < length tail →
      elements_fault bytes count id to at (drop at (map f tail)) ≡ before (element_fault bytes count id to at (f (get_or tail at d))) (elements_fault bytes count id to (at + 1) (drop (at + 1) (map f tail)))
  elements_more d h =
      at_drop_more (elements_fault bytes count id to at) (map f tail) at [] (simp length-map h) ∙
      ap (λ ws. before (element_fault bytes count id to at ws) (elements_fault bytes count id to (at + 1) (drop (at + 1) (map f tail)))) (get_or-map f tail at d [] h)

  pub elements_none : length tail ≤ at → elements_fault bytes count id to at (drop at (map f tail)) ≡ None
  elements_none h = at_drop_all (elements_fault bytes count id to at) (map f tail) at (simp length-map h)

  -- a fault ends the loop, and without one it goes on
  pub elements_stop : (d : Element) (whole : Option Refusal) (words : List ℕ) (found : Option Refusal) → whole ≡ elements_fault bytes count id to at (drop at (map f tail)) → at < length tail →
      found ≡ element_fault bytes count id to at words → words ≡ f (get_or tail at d) → (r : Refusal) → found ≡ Some r → Some r ≡ whole
  elements_stop d whole words found inv h e same r is =
      sym (inv ∙ elements_more d h ∙ ap (λ o. before o (elements_fault bytes count id to (at + 1) (drop (at + 1) (map f tail)))) (ap (element_fault bytes count id to at) (sym same) ∙ sym e ∙ is))

  pub elements_go : (d : Element) (whole : Option Refusal) (words : List ℕ) (found : Option Refusal) → whole ≡ elements_fault bytes count id to at (drop at (map f tail)) → at < length tail →
      found ≡ element_fault bytes count id to at words → words ≡ f (get_or tail at d) → found ≡ None → whole ≡ elements_fault bytes count id to (at + 1) (drop (at + 1) (map f tail))
  elements_go d whole words found inv h e same is =
      inv ∙ elements_more d h ∙ ap (λ o. before o (elements_fault bytes count id to (at + 1) (drop (at + 1) (map f tail)))) (ap (element_fault bytes count id to at) (sym same) ∙ sym e ∙ is)

-- the declarations of a table
module _ (bytes : List ℕ) (count : ℕ) (es : List Element) (rows : List TypeRow) (at : ℕ) where
  pub open_more : (d : TypeRow) → at < length rows →
      open_from bytes count at (drop at (map (decl_of es) rows)) ≡ before (open_at bytes count at (decl_of es (get_or rows at d))) (open_from bytes count (at + 1) (drop (at + 1) (map (decl_of es) rows)))
  open_more d h =
      at_drop_more (open_from bytes count at) (map (decl_of es) rows) at void (simp length-map h) ∙
      ap (λ x. before (open_at bytes count at x) (open_from bytes count (at + 1) (drop (at + 1) (map (decl_of es) rows)))) (get_or-map (decl_of es) rows at d void h)

  pub open_none : length rows ≤ at → open_from bytes count at (drop at (map (decl_of es) rows)) ≡ None
  open_none h = at_drop_all (open_from bytes count at) (map (decl_of es) rows) at (simp length-map h)

  pub open_stop : (d : TypeRow) (whole found : Option Refusal) → whole ≡ open_from bytes count at (drop at (map (decl_of es) rows)) → at < length rows →
      found ≡ open_at bytes count at (decl_of es (get_or rows at d)) → (r : Refusal) → found ≡ Some r → Some r ≡ whole
  open_stop d whole found inv h e r is = sym (inv ∙ open_more d h ∙ ap (λ o. before o (open_from bytes count (at + 1) (drop (at + 1) (map (decl_of es) rows)))) (sym e ∙ is))

  pub open_go : (d : TypeRow) (whole found : Option Refusal) → whole ≡ open_from bytes count at (drop at (map (decl_of es) rows)) → at < length rows →
      found ≡ open_at bytes count at (decl_of es (get_or rows at d)) → found ≡ None → whole ≡ open_from bytes count (at + 1) (drop (at + 1) (map (decl_of es) rows))
  open_go d whole found inv h e is = inv ∙ open_more d h ∙ ap (λ o. before o (open_from bytes count (at + 1) (drop (at + 1) (map (decl_of es) rows)))) (sym e ∙ is)

-- the entries of a section
module _ (fault : ℕ → List ℕ → Option Refusal) (tail : List Element) (at : ℕ) (whole : Option Refusal) (inv : whole ≡ each_fault fault at (drop at (map (λ e. e.words) tail))) where
  abbrev blank : Element
  blank = record { words = [] }

  each_more : at < length tail → whole ≡ before (fault at (get_or tail at blank).words) (each_fault fault (at + 1) (drop (at + 1) (map (λ e. e.words) tail)))
  each_more h =
      inv ∙ at_drop_more (each_fault fault at) (map (λ e. e.words) tail) at [] (simp length-map h) ∙
      ap (λ ws. before (fault at ws) (each_fault fault (at + 1) (drop (at + 1) (map (λ e. e.words) tail)))) (get_or-map (λ e. e.words) tail at blank [] h)

  pub each_stop : (words : List ℕ) (found : Option Refusal) → at < length tail → found ≡ fault at words → words ≡ (get_or tail at blank).words → (r : Refusal) → found ≡ Some r → Some r ≡ whole
  each_stop words found h e same r is = sym (each_more h ∙ ap (λ o. before o (each_fault fault (at + 1) (drop (at + 1) (map (λ e. e.words) tail)))) (ap (fault at) (sym same) ∙ sym e ∙ is))

  pub each_go : (words : List ℕ) (found : Option Refusal) → at < length tail → found ≡ fault at words → words ≡ (get_or tail at blank).words → found ≡ None → whole ≡ each_fault fault (at + 1) (drop (at + 1) (map (λ e. e.words) tail))
  each_go words found h e same is = each_more h ∙ ap (λ o. before o (each_fault fault (at + 1) (drop (at + 1) (map (λ e. e.words) tail)))) (ap (fault at) (sym same) ∙ sym e ∙ is)

  pub each_none : length tail ≤ at → None ≡ whole
  each_none h = sym (inv ∙ at_drop_all (each_fault fault at) (map (λ e. e.words) tail) at (simp length-map h))

-- the sections of a table
module _ (j : Job) (es : List Element) (rows : List TypeRow) (at : ℕ) (whole : Option Refusal) (inv : whole ≡ sections_from j at (drop at (map (decl_of es) rows))) where
  abbrev blank_row : TypeRow
  blank_row = record { head = record { name_offset = 0; info = 0; size_or_type = 0; extra = [] }; first = 0 }

  sections_more : at < length rows → whole ≡ before (section_fault j at (decl_of es (get_or rows at blank_row))) (sections_from j (at + 1) (drop (at + 1) (map (decl_of es) rows)))
  sections_more h =
      inv ∙ at_drop_more (sections_from j at) (map (decl_of es) rows) at void (simp length-map h) ∙
      ap (λ x. before (section_fault j at x) (sections_from j (at + 1) (drop (at + 1) (map (decl_of es) rows)))) (decl_found rows es at blank_row h)

  pub sections_stop : (found : Option Refusal) → at < length rows → found ≡ section_fault j at (decl_of es (get_or rows at blank_row)) → (r : Refusal) → found ≡ Some r → Some r ≡ whole
  sections_stop found h e r is = sym (sections_more h ∙ ap (λ o. before o (sections_from j (at + 1) (drop (at + 1) (map (decl_of es) rows)))) (sym e ∙ is))

  pub sections_go : (found : Option Refusal) → at < length rows → found ≡ section_fault j at (decl_of es (get_or rows at blank_row)) → found ≡ None → whole ≡ sections_from j (at + 1) (drop (at + 1) (map (decl_of es) rows))
  sections_go found h e is = sections_more h ∙ ap (λ o. before o (sections_from j (at + 1) (drop (at + 1) (map (decl_of es) rows)))) (sym e ∙ is)

  pub sections_none : length rows ≤ at → None ≡ whole
  sections_none h = sym (inv ∙ at_drop_all (sections_from j at) (map (decl_of es) rows) at (simp length-map h))
