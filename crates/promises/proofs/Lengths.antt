-- The type part grows by the published length of each declaration that is added.
use Rattle.std.proofs.Common.{◌≡◌, ℕ, ◌+◌, ◌*◌, ◌&&◌, ltb, List, [], ◌∷◌, length, None, refl, ◌∙◌, mul_assoc, arith}
use Rattle.std.proofs.lemmas.Bool.{cond_both}
use Rattle.layout.specs.Kinds.{kind_at, extra_words, element_words}
use Rattle.layout.specs.Heads.{head_kept}
use Rattle.meaning.specs.Table.{Table, made}
use Rattle.meaning.specs.Adding.{decl_with, with_type, declaration_fault}
use Rattle.order.specs.Order.{Order}
use Rattle.meaning.specs.File.{decl_words, type_words, type_part, type_bytes}
use Rattle.promises.specs.Calls.{Given, Elements, Call, adds_string, adds_type, asks, encodes, step, run, published, if_accepted, added_by, added}
use Rattle.promises.specs.Acts.{Act, calls, rewrites, left_by, left_by_all, tally_bytes, gained_by, gained, first_table, last_table}
use Rattle.promises.specs.Promises.{fresh, table, LengthAddsUp}
use Rattle.promises.specs.Lasting.{LengthAddsUpWithRewritings}
use Rattle.promises.proofs.Declared.{sound_declared, kind_declared}
use Rattle.promises.proofs.Steps.{by_outcome, by_string, fine_declared, sound_made, sound_run}
use Rattle.promises.proofs.Acted.{bounded_act, bounded_first, bounded_last}
use Rattle.promises.proofs.Sound.{Grown, BoundedTable}
use Rattle.promises.proofs.Passed.{by_rewriting}
use Rattle.promises.proofs.Whole.{words_rewritten}
use Rattle.promises.proofs.Coded.{length_coded}
use Rattle.promises.proofs.Files.{grown_fit, grown_stated}
use Rattle.promises.proofs.Words.{word_bytes, length_words, length_pushed}

length_with_type : (t : Table) (g : Given) (es : Elements) → declaration_fault g.declaration es.serving (length es.items) ≡ None →
    word_bytes (with_type t g.declaration es.items).decls ≡ word_bytes t.decls + published (kind_at g.declaration.kind) (length es.items)
length_with_type t g es e =
    let k = kind_at g.declaration.kind in
    let count = length es.items in
    let new = decl_with (head_kept g.declaration k count) es.items in
    let fine = fine_declared g.declaration es.serving count e in
    let more : length (decl_words new) ≡ 3 + extra_words k + element_words k * count = rw (kind_declared g es k fine) at (length_words new (sound_declared g es k fine)) in
    omega (arith, length_pushed t.decls new, mul_assoc 4 (element_words k) count)

length_step : (t : Table) (c : Call) → word_bytes (step t c).decls ≡ word_bytes t.decls + added_by t c
length_step t (adds_string name) = by_string t name (λ o. word_bytes o.later.decls ≡ word_bytes t.decls + 0) (λ r. omega arith) (λ h room. omega arith)
length_step t (adds_type g es) =
    by_outcome t g.declaration es.serving es.items
    (λ o. word_bytes o.later.decls ≡ word_bytes t.decls + if_accepted o.answer (published (kind_at g.declaration.kind) (length es.items)))
    (λ r. omega arith) (λ h e e'. length_with_type t g es e)
length_step t (asks q) = omega arith
length_step t (encodes o buffer) = omega arith

length_run : (t : Table) (cs : List Call) → word_bytes (run t cs).decls ≡ word_bytes t.decls + added t cs
length_run t [] = omega arith
length_run t (c ∷ cs) = omega (arith, length_run (step t c) cs, length_step t c)

length_act : (t : Table) (a : Act) → BoundedTable t → word_bytes (left_by t a).decls ≡ word_bytes t.decls + gained_by t a
length_act t (calls c) s = length_step t c
length_act t (rewrites q) s =
    by_rewriting t q (λ o. word_bytes o.later.decls ≡ word_bytes t.decls + tally_bytes o.answer) (λ r. omega arith) (λ p. omega (arith, words_rewritten t q s p))

length_acts : (t : Table) (acts : List Act) → BoundedTable t → word_bytes (left_by_all t acts).decls ≡ word_bytes t.decls + gained t acts
length_acts t [] s = omega arith
length_acts t (a ∷ acts) s = omega (arith, length_acts (left_by t a) acts (bounded_act t a s), length_act t a s)

-- a new table has id 0 alone, or nothing
length_made : (decl_room element_room : ℕ) (area : List ℕ) → word_bytes (made decl_room element_room area).decls ≡ 0
length_made decl_room element_room area = cond_both (ltb 0 decl_room && ltb 0 (length area)) _ _ (λ (t : Table). word_bytes t.decls ≡ 0) (λ e. refl) (λ e. refl)

-- the type part has as many bytes as its words, and the header says so
stated : (o : Order) (t : Table) (n : ℕ) → Grown t.decls → word_bytes t.decls ≡ n → (length (type_part o t.decls) ≡ n) × (type_bytes t.decls ≡ n)
stated o t n g words = (length_coded o (type_words t.decls) (grown_fit t.decls g) ∙ words, grown_stated t.decls g ∙ words)

pub length_adds_up : LengthAddsUp
length_adds_up o r =
    let made_bytes = length_made r.decl_room r.element_room r.area in
    stated o (table r) (added (fresh r) r.calls) (sound_run (fresh r) r.calls (sound_made r.decl_room r.element_room r.area)).grown
    (omega (arith, length_run (fresh r) r.calls, made_bytes))

pub length_adds_up_with_rewritings : LengthAddsUpWithRewritings
length_adds_up_with_rewritings o h =
    let made_bytes = length_made h.decl_room h.element_room h.area in
    stated o (last_table h) (gained (first_table h) h.acts) (bounded_last h).grown (omega (arith, length_acts (first_table h) h.acts (bounded_first h), made_bytes))
