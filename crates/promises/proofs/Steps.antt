-- Each call leaves a sound table.
use Rattle.std.proofs.Common.{◌≡◌, ℕ, ◌+◌, ◌<◌, ◌≤◌, min, Bool, true, not, ◌&&◌, ltb, List, [], ◌∷◌, length, Some, None, Option, refl, inl, inr, arith}
use Rattle.std.specs.List.{prefix_len}
use Rattle.std.proofs.lemmas.Bool.{cond_both, not-false, cases_eq, and_parts, ltb-false}
use Rattle.std.proofs.lemmas.List.{length_push}
use Rattle.std.proofs.lemmas.Bool.Decides.{nat_tests}
use Rattle.std.proofs.lemmas.List.Sums.{sum_by_push}
use Rattle.layout.specs.declared.kind.BtfKind.{BtfKind}
use Rattle.layout.specs.declared.declaration.Declaration.{Declaration}
use Rattle.layout.specs.Kinds.{kind_at}
use Rattle.layout.specs.Heads.{head_kept}
use Rattle.layout.specs.Refusals.{Refusal}
use Rattle.meaning.specs.Table.{Table, Outcome, made, holds, refuses, accepts, no_table, most_decls, most_elements, most_strings}
use Rattle.meaning.specs.Adding.{add_type, with_type, with_string, add_string, decl_with, named, declaration_fault, room_fault, unless}
use Rattle.promises.specs.Calls.{Given, Elements, Call, adds_string, adds_type, asks, encodes, step, run}
use Rattle.promises.proofs.Sound.{grown_push, SoundTable, tail_length}
use Rattle.promises.proofs.Declared.{Fine, sound_declared}

module _ (t : Table) (d : Declaration) (serving : BtfKind → Bool) (tail : List (List ℕ)) where
  -- a declaration is refused, and the table stays, or it stands behind the others
  pub by_outcome : (P : Outcome ℕ → Type 0) → ((r : Refusal) → P (refuses t r)) →
      (holds t ≡ true → declaration_fault d serving (length tail) ≡ None → room_fault t (length tail) ≡ None → P (accepts (length t.decls) (with_type t d tail))) →
      P (add_type t d serving tail)
  by_outcome P refused accepted =
      cond_both (not (holds t)) (refuses t no_table) fits P (λ e. refused no_table) (λ e. declared (not-false (holds t) e) (declaration_fault d serving (length tail)) refl)
    where
      added : Outcome ℕ
      added = accepts (length t.decls) (with_type t d tail)

      fits : Outcome ℕ
      fits = unless (declaration_fault d serving (length tail)) t (unless (room_fault t (length tail)) t added)

      roomy : holds t ≡ true → declaration_fault d serving (length tail) ≡ None → (f : Option Refusal) → room_fault t (length tail) ≡ f → P (unless f t added)
      roomy h e (Some r) e' = refused r
      roomy h e None e' = accepted h e e'

      declared : holds t ≡ true → (f : Option Refusal) → declaration_fault d serving (length tail) ≡ f → P (unless f t (unless (room_fault t (length tail)) t added))
      declared h (Some r) e = refused r
      declared h None e = roomy h e (room_fault t (length tail)) refl

-- so is a name
pub by_string : (t : Table) (name : List ℕ) (P : Outcome ℕ → Type 0) → ((r : Refusal) → P (refuses t r)) →
    (holds t ≡ true → t.strings + (length name + 1) ≤ length t.area → P (accepts t.strings (with_string t name))) → P (add_string t name)
by_string t name P refused accepted =
    cond_both (not (holds t)) _ _ P (λ e. refused _) λ e.
    cond_both (ltb (prefix_len named name) (length name)) _ _ P (λ e'. refused _) λ e'.
    cond_both (ltb (min (length t.area) most_strings) (t.strings + (length name + 1))) _ _ P (λ e''. refused _) λ e''.
    accepted (not-false (holds t) e) (omega (arith, ltb-false _ _ e''))

-- what no fault and room enough tell
pub fine_declared : (d : Declaration) (serving : BtfKind → Bool) (count : ℕ) → declaration_fault d serving count ≡ None → Fine (kind_at d.kind) d.linkage serving count
fine_declared d serving count e =
    record {
      known = grind (arith, nat_tests);
      served = elim (cases_eq count 0) [ inl none ↦ inl none | inr some ↦ inr (grind (arith, nat_tests)) ];
      linked = grind (arith, nat_tests);
      few = grind (arith, nat_tests);
    }

pub room_left : (t : Table) (count : ℕ) → room_fault t count ≡ None → (length t.decls < most_decls) × (t.elements + count ≤ most_elements)
room_left t count e = grind (arith, nat_tests)

pub sound_made : (decl_room element_room : ℕ) (area : List ℕ) → SoundTable (made decl_room element_room area)
sound_made decl_room element_room area =
    cond_both (ltb 0 decl_room && ltb 0 (length area)) _ _ SoundTable
    (λ e. record { grown = (refl, tt); counts = refl; few_elements = omega arith; few_decls = omega arith })
    (λ e. record { grown = tt; counts = refl; few_elements = omega arith; few_decls = omega arith })

sound_with_type : (t : Table) (g : Given) (es : Elements) → SoundTable t → holds t ≡ true →
    declaration_fault g.declaration es.serving (length es.items) ≡ None → room_fault t (length es.items) ≡ None →
    SoundTable (with_type t g.declaration es.items)
sound_with_type t g es s h e e' =
    let k = kind_at g.declaration.kind in
    let new = decl_with (head_kept g.declaration k (length es.items)) es.items in
    let room = room_left t (length es.items) e' in
    let sound = sound_declared g es k (fine_declared g.declaration es.serving (length es.items) e) in
    record {
      grown = grown_push t.decls new (and_parts _ _ h).0 s.grown sound;
      counts = omega (arith, s.counts, sum_by_push tail_length t.decls new);
      few_elements = room.1;
      few_decls = omega (arith, length_push t.decls new);
    }

sound_with_string : (t : Table) (name : List ℕ) → SoundTable t → SoundTable (with_string t name)
sound_with_string t name s = record { grown = s.grown; counts = s.counts; few_elements = s.few_elements; few_decls = s.few_decls }

pub sound_step : (t : Table) (c : Call) → SoundTable t → SoundTable (step t c)
sound_step t (adds_string name) s = by_string t name (λ o. SoundTable o.later) (λ r. s) (λ h room. sound_with_string t name s)
sound_step t (adds_type g es) s =
    by_outcome t g.declaration es.serving es.items (λ o. SoundTable o.later) (λ r. s) (λ h e e'. sound_with_type t g es s h e e')
sound_step t (asks q) s = s
sound_step t (encodes o buffer) s = s

pub sound_run : (t : Table) (cs : List Call) → SoundTable t → SoundTable (run t cs)
sound_run t [] s = s
sound_run t (c ∷ cs) s = sound_run (step t c) cs (sound_step t c s)
