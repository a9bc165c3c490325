-- Each act leaves a table whose words are few.
use Rattle.std.proofs.Common.{◌≡◌, ℕ, true, ◌&&◌, ltb, List, [], ◌∷◌, length, None, refl, arith}
use Rattle.std.proofs.lemmas.Bool.{cond_both, and_parts}
use Rattle.std.proofs.lemmas.List.{length_push}
use Rattle.layout.specs.Kinds.{kind_at}
use Rattle.layout.specs.Heads.{head_kept}
use Rattle.meaning.specs.Table.{Table, made, holds}
use Rattle.meaning.specs.Adding.{with_type, with_string, decl_with, declaration_fault, room_fault}
use Rattle.promises.specs.Calls.{Given, Elements, adds_string, adds_type, asks, encodes}
use Rattle.promises.specs.Acts.{Act, calls, rewrites, left_by, left_by_all, History, first_table, last_table}
use Rattle.promises.proofs.Sound.{grown_push, BoundedTable}
use Rattle.promises.proofs.Declared.{sound_declared}
use Rattle.promises.proofs.Words.{few_words, length_pushed}
use Rattle.promises.proofs.Steps.{by_outcome, by_string, fine_declared, room_left}
use Rattle.promises.proofs.Passed.{by_rewriting}
use Rattle.promises.proofs.Whole.{bounded_rewritten}

bounded_made : (decl_room element_room : ℕ) (area : List ℕ) → BoundedTable (made decl_room element_room area)
bounded_made decl_room element_room area =
    cond_both (ltb 0 decl_room && ltb 0 (length area)) _ _ BoundedTable
    (λ e. record { grown = (refl, tt); few_words = omega arith; few_elements = omega arith; few_decls = omega arith })
    (λ e. record { grown = tt; few_words = omega arith; few_elements = omega arith; few_decls = omega arith })

bounded_with_type : (t : Table) (g : Given) (es : Elements) → BoundedTable t → holds t ≡ true →
    declaration_fault g.declaration es.serving (length es.items) ≡ None → room_fault t (length es.items) ≡ None →
    BoundedTable (with_type t g.declaration es.items)
bounded_with_type t g es b h e e' =
    let k = kind_at g.declaration.kind in
    let new = decl_with (head_kept g.declaration k (length es.items)) es.items in
    let room = room_left t (length es.items) e' in
    let sound = sound_declared g es k (fine_declared g.declaration es.serving (length es.items) e) in
    record {
      grown = grown_push t.decls new (and_parts _ _ h).0 b.grown sound;
      few_words = omega (arith, b.few_words, length_pushed t.decls new, few_words new sound, length_push t.decls new);
      few_elements = room.1;
      few_decls = omega (arith, length_push t.decls new);
    }

bounded_with_string : (t : Table) (name : List ℕ) → BoundedTable t → BoundedTable (with_string t name)
bounded_with_string t name b = record { grown = b.grown; few_words = b.few_words; few_elements = b.few_elements; few_decls = b.few_decls }

pub bounded_act : (t : Table) (a : Act) → BoundedTable t → BoundedTable (left_by t a)
bounded_act t (calls (adds_string name)) b = by_string t name (λ o. BoundedTable o.later) (λ r. b) (λ h room. bounded_with_string t name b)
bounded_act t (calls (adds_type g es)) b =
    by_outcome t g.declaration es.serving es.items (λ o. BoundedTable o.later) (λ r. b) (λ h e e'. bounded_with_type t g es b h e e')
bounded_act t (calls (asks q)) b = b
bounded_act t (calls (encodes o buffer)) b = b
bounded_act t (rewrites q) b = by_rewriting t q (λ o. BoundedTable o.later) (λ r. b) (λ p. bounded_rewritten t q b p)

bounded_acts : (t : Table) (acts : List Act) → BoundedTable t → BoundedTable (left_by_all t acts)
bounded_acts t [] b = b
bounded_acts t (a ∷ acts) b = bounded_acts (left_by t a) acts (bounded_act t a b)

pub bounded_first : (h : History) → BoundedTable (first_table h)
bounded_first h = bounded_made h.decl_room h.element_room h.area

pub bounded_last : (h : History) → BoundedTable (last_table h)
bounded_last h = bounded_acts (first_table h) h.acts (bounded_first h)
