-- What holds where the checks of a rewriting find no fault.
use Rattle.std.proofs.Common.{◌≡◌, ℕ, zero, suc, ◌+◌, ◌*◌, ◌<◌, ◌≤◌, Bool, true, false, cond, not, eqb, ltb, leb, List, [], ◌∷◌, length, Some, None, Option, sym, refl, ap, ◌∙◌, subst, inl, inr, arith}
use Rattle.std.specs.List.{AllByRecursion}
use Rattle.std.proofs.lemmas.Bool.{cond_both, cond-true, cond-false, not-false, ltb-true, leb-true, eqb-true, cases_Bool}
use Rattle.std.proofs.lemmas.Bool.Decides.{nat_tests}
use Rattle.layout.specs.declared.kind.BtfKind.{BtfKind}
use Rattle.layout.specs.declared.kind.BtfKind.TheVariants.{Var, DataSec}
use Rattle.layout.specs.Kinds.{kind_number, kind_at}
use Rattle.layout.specs.Refusals.{Refusal, accepted}
use Rattle.features.specs.declared.BtfFeature.TheVariants as feature
use Rattle.meaning.specs.Table.{Decl, Table, Outcome, holds, refuses, accepts, no_table, most_decls, most_elements, most_strings}
use Rattle.meaning.specs.Adding.{unless}
use Rattle.meaning.specs.Questions.{decl_kind, decl_at, string_from, greatest_word}
use Rattle.rewriting.specs.Requests.{Request, Job, granted, section_number, symbol_number}
use Rattle.rewriting.specs.Closed.{before, no_name, name_fault, id_fault, ids_fault, own_ids, element_refers, elements_fault, open_at, open_from, open_fault}
use Rattle.rewriting.specs.Rules.{State, name_at, entry_id, entry_offset, entry_end, var_linkage}
use Rattle.rewriting.specs.Sections.{too_large, needed, symbol_fault, entry_fault, member_fault, each_fault, granted_fault, section_fault, sections_from, sections_fault}
use Rattle.rewriting.specs.Rewriting.{Tallies, tallied, job, ended, room_left_fault, with_rewritten, rewriting_fault, rewrite}
use Rattle.layout.proofs.Each.{kind_at_number}

pub before_none : (a b : Option Refusal) → before a b ≡ None → (a ≡ None) × (b ≡ None)
before_none (Some r) b e = absurd (let z : ◌≡◌ {A = ℕ} 0 1 = cc in omega arith)
before_none None b e = (refl, e)

on_true : (x y : Option Refusal) (b : Bool) → b ≡ true → cond b x y ≡ None → x ≡ None
on_true x y b e e' = sym (cond-true b x y e) ∙ e'

on_false : (x y : Option Refusal) (b : Bool) → b ≡ false → cond b x y ≡ None → y ≡ None
on_false x y b e e' = sym (cond-false b x y e) ∙ e'

pub same_kind : (k k' : BtfKind) → eqb (kind_number k) (kind_number k') ≡ true → k ≡ k'
same_kind k k' e = sym (kind_at_number k) ∙ ap kind_at (eqb-true _ _ e) ∙ kind_at_number k'

-- Closed tables.
pub record Closed (bytes : List ℕ) (count : ℕ) (d : Decl) : Type 0 where
  pub name : List ℕ
  pub named : string_from bytes d.name ≡ Some name
  pub ids : AllByRecursion (λ id. id < count) (own_ids d)

named_passed : (id offset : ℕ) (element : Option ℕ) (o : Option (List ℕ)) → no_name id element offset o ≡ None → (name : List ℕ) × (o ≡ Some name)
named_passed id offset element (Some name) e = (name, refl)
named_passed id offset element None e = absurd (let z : ◌≡◌ {A = ℕ} 0 1 = cc in omega arith)

id_passed : (count id named : ℕ) (element : Option ℕ) → id_fault count id element named ≡ None → named < count
id_passed count id named element e =
    elim (cases_Bool (ltb named count)) [
      | inl yes' ↦ ltb-true named count yes'
      | inr no' ↦ absurd (let z : ◌≡◌ {A = ℕ} 0 1 = cc in omega arith)
    ]

ids_passed : (count id : ℕ) (ids : List ℕ) → ids_fault count id ids ≡ None → AllByRecursion (λ n. n < count) ids
ids_passed count id [] e = tt
ids_passed count id (n ∷ ids) e =
    let parts = before_none (id_fault count id None n) (ids_fault count id ids) e in
    (id_passed count id n None parts.0, ids_passed count id ids parts.1)

closed_at : (bytes : List ℕ) (count id : ℕ) (d : Decl) → open_at bytes count id d ≡ None → Closed bytes count d
closed_at bytes count id d e =
    let parts = before_none (name_fault bytes id None d.name) (before (ids_fault count id (own_ids d)) (elements_fault bytes count id (element_refers (decl_kind d)) 0 d.tail)) e in
    let name = named_passed id d.name None (string_from bytes d.name) parts.0 in
    let ids = before_none (ids_fault count id (own_ids d)) (elements_fault bytes count id (element_refers (decl_kind d)) 0 d.tail) parts.1 in
    record { name = name.0; named = name.1; ids = ids_passed count id (own_ids d) ids.0 }

closed_from : (bytes : List ℕ) (count id : ℕ) (ds : List Decl) → open_from bytes count id ds ≡ None → AllByRecursion (Closed bytes count) ds
closed_from bytes count id [] e = tt
closed_from bytes count id (d ∷ ds) e =
    let parts = before_none (open_at bytes count id d) (open_from bytes count (id + 1) ds) e in
    (closed_at bytes count id d parts.0, closed_from bytes count (id + 1) ds parts.1)

pub closed_passed : (bytes : List ℕ) (ds : List Decl) → open_fault bytes ds ≡ None → AllByRecursion (Closed bytes (length ds)) ds
closed_passed bytes ds e = closed_from bytes (length ds) 0 ds e

-- Sections.
pub record Found (o : Option ℕ) : Type 0 where
  pub number : ℕ
  pub found : o ≡ Some number
  pub small : number ≤ greatest_word

large_passed : (id n : ℕ) (entry : Option ℕ) → too_large id entry n ≡ None → n ≤ greatest_word
large_passed id n entry e =
    elim (cases_Bool (leb n greatest_word)) [
      | inl yes' ↦ leb-true n greatest_word yes'
      | inr no' ↦ absurd (let z : ◌≡◌ {A = ℕ} 0 1 = cc in omega arith)
    ]

needed_passed : (number id : ℕ) (entry o : Option ℕ) → needed number id entry o ≡ None → Found o
needed_passed number id entry None e = absurd (let z : ◌≡◌ {A = ℕ} 0 1 = cc in omega arith)
needed_passed number id entry (Some n) e = record { number = n; found = refl; small = large_passed id n entry e }

each_passed : (fault : ℕ → List ℕ → Option Refusal) (P : List ℕ → Type 0) → ((index : ℕ) (ws : List ℕ) → fault index ws ≡ None → P ws) →
    (index : ℕ) (tail : List (List ℕ)) → each_fault fault index tail ≡ None → AllByRecursion P tail
each_passed fault P one index [] e = tt
each_passed fault P one index (ws ∷ rest) e =
    let parts = before_none (fault index ws) (each_fault fault (index + 1) rest) e in
    (one index ws parts.0, each_passed fault P one (index + 1) rest parts.1)

-- an entry of a granted section without a size
pub record EntryPassed (j : Job) (ws : List ℕ) : Type 0 where
  pub var : decl_kind (decl_at j.decls (entry_id ws)) ≡ Var
  pub symbol : eqb (var_linkage (decl_at j.decls (entry_id ws))) 0 ≡ false → Found (symbol_number j (name_at j (decl_at j.decls (entry_id ws)).name))

entry_passed : (j : Job) (id index : ℕ) (ws : List ℕ) → entry_fault j id index ws ≡ None → EntryPassed j ws
entry_passed j id index ws e =
    let var = decl_at j.decls (entry_id ws) in
    elim (cases_Bool (eqb (kind_number (decl_kind var)) 14)) [
      | inl yes' ↦
          let kept : symbol_fault j id index var ≡ None = sym (cond-true (eqb (kind_number (decl_kind var)) 14) (symbol_fault j id index var) _ yes') ∙ e in
          record { var = same_kind (decl_kind var) Var yes'; symbol = λ other. needed_passed 14 id (Some index) (symbol_number j (name_at j var.name)) (on_false None _ (eqb (var_linkage var) 0) other kept) }
      | inr no' ↦ absurd (let z : ◌≡◌ {A = ℕ} 0 1 = cc in omega arith)
    ]

-- an entry of a refused section
pub record MemberPassed (ws : List ℕ) : Type 0 where
  pub offset : entry_offset ws * 8 ≤ greatest_word
  pub reach : entry_end ws ≤ greatest_word

member_passed : (id index : ℕ) (ws : List ℕ) → member_fault id index ws ≡ None → MemberPassed ws
member_passed id index ws e =
    let parts = before_none (too_large id (Some index) (entry_offset ws * 8)) (too_large id (Some index) (entry_end ws)) e in
    record { offset = large_passed id (entry_offset ws * 8) (Some index) parts.0; reach = large_passed id (entry_end ws) (Some index) parts.1 }

-- a section
pub record SectionPassed (j : Job) (d : Decl) : Type 0 where
  pub row : granted j feature.DataSec ≡ true → ltb 0 d.third ≡ false → Found (section_number j (name_at j d.name))
  pub entries : granted j feature.DataSec ≡ true → ltb 0 d.third ≡ false → AllByRecursion (EntryPassed j) d.tail
  pub members : granted j feature.DataSec ≡ false → AllByRecursion MemberPassed d.tail

pub section_passed : (j : Job) (id : ℕ) (d : Decl) → decl_kind d ≡ DataSec → section_fault j id d ≡ None → SectionPassed j d
section_passed j id d kind e =
    record {
      row = λ g zero'. needed_passed 12 id None (section_number j (name_at j d.name)) (both g zero').0;
      entries = λ g zero'. each_passed (entry_fault j id) (EntryPassed j) (entry_passed j id) 0 d.tail (both g zero').1;
      members = λ r. each_passed (member_fault id) MemberPassed (member_passed id) 0 d.tail (on_false _ _ (granted j feature.DataSec) r checked);
    }
  where
    checked : cond (granted j feature.DataSec) (granted_fault j id d) (each_fault (member_fault id) 0 d.tail) ≡ None
    checked = on_true _ _ (eqb (kind_number (decl_kind d)) 15) (ap (λ k. eqb (kind_number k) 15) kind) e

    both : granted j feature.DataSec ≡ true → ltb 0 d.third ≡ false → (needed 12 id None (section_number j (name_at j d.name)) ≡ None) × (each_fault (entry_fault j id) 0 d.tail ≡ None)
    both g zero' = before_none _ _ (on_false _ _ (ltb 0 d.third) zero' (on_true _ _ (granted j feature.DataSec) g checked))

-- at each id
pub section_at : (j : Job) (from : ℕ) (ds : List Decl) → sections_from j from ds ≡ None → (k : ℕ) → k < length ds → section_fault j (from + k) (decl_at ds k) ≡ None
section_at j from [] e k h = absurd (omega arith)
section_at j from (d ∷ ds) e zero h = subst (λ n. section_fault j n d ≡ None) (omega arith) (before_none (section_fault j from d) (sections_from j (from + 1) ds) e).0
section_at j from (d ∷ ds) e (suc k) h =
    subst (λ n. section_fault j n (decl_at ds k) ≡ None) (omega arith) (section_at j (from + 1) ds (before_none (section_fault j from d) (sections_from j (from + 1) ds) e).1 k (omega arith))

-- An accepted rewriting has passed every check.
pub record Passed (t : Table) (q : Request) : Type 0 where
  pub held : holds t ≡ true
  pub closed : open_fault (job t q).bytes t.decls ≡ None
  pub sections : sections_fault (job t q) ≡ None
  pub room : room_left_fault t (ended (job t q)) ≡ None

pub by_rewriting : (t : Table) (q : Request) (P : Outcome Tallies → Type 0) → ((r : Refusal) → P (refuses t r)) →
    (Passed t q → P (accepts (tallied (ended (job t q))) (with_rewritten t (ended (job t q))))) → P (rewrite t q)
by_rewriting t q P stays goes =
    cond_both (not (holds t)) (refuses t no_table) _ P (λ e. stays no_table) (λ e. checked (not-false (holds t) e) (rewriting_fault t q) refl)
  where
    done : Outcome Tallies
    done = accepts (tallied (ended (job t q))) (with_rewritten t (ended (job t q)))

    checked : holds t ≡ true → (f : Option Refusal) → rewriting_fault t q ≡ f → P (unless f t done)
    checked h (Some r) e = stays r
    checked h None e =
        let first = before_none (open_fault (job t q).bytes t.decls) _ e in
        let then = before_none (sections_fault (job t q)) _ first.1 in
        goes (record { held = h; closed = first.0; sections = then.0; room = then.1 })

pub record Accepted (t : Table) (q : Request) (n : Tallies) (later : Table) : Type 0 where
  pub passed : Passed t q
  pub tallies : n ≡ tallied (ended (job t q))
  pub later_is : later ≡ with_rewritten t (ended (job t q))

pub when_accepted : (t : Table) (q : Request) (n : Tallies) → (rewrite t q).answer ≡ accepted n → Accepted t q n (rewrite t q).later
when_accepted t q n =
    by_rewriting t q (λ o. o.answer ≡ accepted n → Accepted t q n o.later)
    (λ r e. absurd (let z : ◌≡◌ {A = ℕ} 0 1 = cc in omega arith))
    (λ p e. record { passed = p; tallies = cc; later_is = refl })

-- there is room for what is new
pub record Roomy (t : Table) (s : State) : Type 0 where
  pub decls : length t.decls + length s.made ≤ most_decls
  pub elements : t.elements + s.filled ≤ most_elements
  pub strings : t.strings + length s.added ≤ most_strings
  pub area : t.strings + length s.added ≤ length t.area

pub room_passed : (t : Table) (s : State) → room_left_fault t s ≡ None → Roomy t s
room_passed t s e = record { decls = grind (arith, nat_tests); elements = grind (arith, nat_tests); strings = grind (arith, nat_tests); area = grind (arith, nat_tests) }
