-- The faults of a rewriting, as first faults of rows and elements.
use Rattle.std.proofs.Common.{◌≡◌, ℕ, ◌+◌, ◌≤◌, Bool, cond, eqb, ltb, List, [], ◌∷◌, map, take, None, Option, sym, refl, ap, ◌∙◌}
use Rattle.std.proofs.lemmas.Bool.{cond-false, le-ltb}
use Rattle.layout.specs.Info.{kind_of}
use Rattle.layout.specs.Kinds.{kind_number, element_words}
use Rattle.layout.specs.Refusals.{Refusal}
use Rattle.layout.specs.declared.kind.BtfKind.{BtfKind}
use Rattle.layout.specs.declared.kind.BtfKind.TheVariants.{DataSec as Section}
use Rattle.elements.specs.declared.Element.{Element}
use Rattle.features.specs.declared.BtfFeature.{BtfFeature}
use Rattle.features.specs.declared.BtfFeature.TheVariants.{DataSec}
use Rattle.meaning.specs.Table.{Decl}
use Rattle.meaning.specs.Questions.{decl_kind}
use Rattle.rows.specs.declared.row.TypeRow.{TypeRow}
use Rattle.rows.specs.declared.view.View.{View}
use Rattle.rows.specs.Rows.{decl_of, kept_words}
use Rattle.rewriting.specs.Requests.{Job, section_number}
use Rattle.rewriting.specs.Rules.{name_at}
use Rattle.rewriting.specs.Closed.{before, Refers, element_fault, elements_fault, open_at, open_from}
use Rattle.rewriting.specs.Sections.{needed, entry_fault, member_fault, each_fault, granted_fault, section_fault, sections_from}
use Rattle.inspect.specs.declared.names.Lists.{Lists}
use Rattle.inspect.specs.Faults.{first_fault}
use Rattle.inspect.specs.Listed.{request_of, job_of}

pub first_element : (bytes : List ℕ) (count id : ℕ) (to : Refers) (info at : ℕ) (tail : List Element) →
    first_fault (λ index e. element_fault bytes count id to index (kept_words info e)) at tail ≡ elements_fault bytes count id to at (map (kept_words info) tail)
first_element bytes count id to info at [] = refl
first_element bytes count id to info at (e ∷ tail) = ap (before (element_fault bytes count id to at (kept_words info e))) (first_element bytes count id to info (at + 1) tail)

pub first_open : (bytes : List ℕ) (count : ℕ) (es : List Element) (at : ℕ) (rows : List TypeRow) →
    first_fault (λ id row. open_at bytes count id (decl_of es row)) at rows ≡ open_from bytes count at (map (decl_of es) rows)
first_open bytes count es at [] = refl
first_open bytes count es at (row ∷ rows) = ap (before (open_at bytes count at (decl_of es row))) (first_open bytes count es (at + 1) rows)

-- a section's entries have three words
first_each : (fault : ℕ → List ℕ → Option Refusal) (at : ℕ) (tail : List Element) → first_fault (λ entry e. fault entry (take 3 e.words)) at tail ≡ each_fault fault at (map (λ e. take 3 e.words) tail)
first_each fault at [] = refl
first_each fault at (e ∷ tail) = ap (before (fault at (take 3 e.words))) (first_each fault (at + 1) tail)

pub first_entry : (fault : ℕ → List ℕ → Option Refusal) (info : ℕ) → kind_of info ≡ Section → (tail : List Element) → first_fault (λ entry e. fault entry (take 3 e.words)) 0 tail ≡ each_fault fault 0 (map (kept_words info) tail)
first_entry fault info kind tail = first_each fault 0 tail ∙ sym (ap (λ (k : BtfKind). each_fault fault 0 (map (λ e. take (element_words k) e.words) tail)) kind)

-- of what is granted, sections alone are asked about
section_same : (view : View) (lists : Lists) (f g : BtfFeature → Bool) → f DataSec ≡ g DataSec → (id : ℕ) (d : Decl) →
    section_fault (job_of view (request_of lists f)) id d ≡ section_fault (job_of view (request_of lists g)) id d
section_same view lists f g same id d =
    ap (λ granted. cond (eqb (kind_number (decl_kind d)) 15) (cond granted (granted_fault (job_of view (request_of lists f)) id d) (each_fault (member_fault id) 0 d.tail)) None) same

pub first_section : (view : View) (lists : Lists) (f g : BtfFeature → Bool) → f DataSec ≡ g DataSec → (es : List Element) (at : ℕ) (rows : List TypeRow) →
    first_fault (λ id row. section_fault (job_of view (request_of lists f)) id (decl_of es row)) at rows ≡ sections_from (job_of view (request_of lists g)) at (map (decl_of es) rows)
first_section view lists f g same es at [] = refl
first_section view lists f g same es at (row ∷ rows) = cc (section_same view lists f g same at (decl_of es row), first_section view lists f g same es (at + 1) rows)

-- a section whose row is there is judged by its entries
pub granted_rest : (j : Job) (id : ℕ) (d : Decl) → d.third ≤ 0 → None ≡ needed 12 id None (section_number j (name_at j d.name)) → each_fault (entry_fault j id) 0 d.tail ≡ granted_fault j id d
granted_rest j id d h e = sym (cond-false (ltb 0 d.third) _ _ (le-ltb 0 d.third h) ∙ ap (λ o. before o (each_fault (entry_fault j id) 0 d.tail)) (sym e))
