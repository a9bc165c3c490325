-- Sizes and ends stay.
use Rattle.std.proofs.Common.{◌≡◌, ℕ, zero, suc, ◌+◌, ◌<◌, ◌≤◌, true, not, List, [], ◌∷◌, ◌++◌, map, length, get_or, None, sym, refl, ap, ◌∙◌, subst, arith, length-append}
use lib.ListN.{length-map}
use Rattle.std.specs.List.{AllByRecursion}
use Rattle.std.proofs.ByRecursion.{All-get_or}
use Rattle.std.proofs.lemmas.List.{get_or_append_left, length_push}
use Rattle.std.proofs.lemmas.Bool.{cond_both, cond-false, false≢true, and_parts, and_from, le-leb, not_from_true}
use Rattle.layout.specs.declared.kind.BtfKind.{BtfKind}
use Rattle.layout.specs.declared.kind.BtfKind.TheVariants.{Unknown, Int, Ptr, Array, Struct, Union, Enum, Fwd, Typedef, Volatile, Const, Restrict, Func, FuncProto, Var, DataSec, Float, DeclTag, TypeTag, Enum64}
use Rattle.layout.specs.Kinds.{pointer_bytes}
use Rattle.layout.specs.Info.{flag_of}
use Rattle.layout.specs.Refusals.{Answer, refused}
use Rattle.features.specs.declared.BtfFeature.TheVariants as feature
use Rattle.meaning.specs.Table.{Decl, Table, void, no_table, holds}
use Rattle.meaning.specs.Adding.{with_string}
use Rattle.meaning.specs.Questions.{decl_kind, decl_at, follows, resolving, Sizing, points, sized, passes, sizing, size_step, measuring, most_reads, asked_of}
use Rattle.meaning.proofs.Over.{length_over}
use Rattle.rewriting.specs.Requests.{Request, Job, granted}
use Rattle.rewriting.specs.Rules.{State, begun, kept, placeholder_id, as_union, nameless, stand_in}
use Rattle.rewriting.specs.Rewriting.{job, ended, with_rewritten}
use Rattle.promises.specs.Calls.{Call, adds_string, adds_type, asks, encodes, step, walked}
use Rattle.promises.specs.Kinds.{data_kind}
use Rattle.promises.specs.Acts.{Act, calls, rewrites, left_by, left_by_all, last_table}
use Rattle.promises.specs.Lasting.{SizesAndEndsStay}
use Rattle.promises.proofs.Sound.{Sound, Grown, BoundedTable}
use Rattle.promises.proofs.Kept.{kind_kept}
use Rattle.promises.proofs.States.{length_turns}
use Rattle.promises.proofs.Passed.{by_rewriting, when_accepted, Closed, closed_passed}
use Rattle.promises.proofs.Standing.{few_elements}
use Rattle.promises.proofs.Stood.{Stood, stood}
use Rattle.promises.proofs.Steady.{SameWalk, same_walk, Keeps, keeps_same, keeps_on, walk_steady, resolving_closed, measuring_closed}
use Rattle.promises.proofs.Steps.{by_outcome, by_string}
use Rattle.promises.proofs.Acted.{bounded_act, bounded_last}
use Rattle.promises.proofs.Alike.{held_rewritten}
use Rattle.promises.proofs.Turning.{some_more}

-- Kinds that a walk takes alike.
module _ (d d' : Decl) (k k' : BtfKind) (kind : decl_kind d ≡ k) (kind' : decl_kind d' ≡ k') (third : d'.third ≡ d.third) (goes : follows k' ≡ follows k) (data_still : data_kind k' ≡ true) where
  alike : (z : Sizing) → sizing k ≡ z → sizing k' ≡ z → ((width count id : ℕ) → size_step z width count id d' ≡ size_step z width count id d) → SameWalk d d'
  alike z is is' steps = record {
    data_still = ap data_kind kind' ∙ data_still;
    resolves = λ id. let f : follows (decl_kind d') ≡ follows (decl_kind d) = ap follows kind' ∙ goes ∙ sym (ap follows kind) in cc;
    measures = λ width count id.
        ap (λ x. size_step (sizing x) width count id d') kind' ∙ ap (λ x. size_step x width count id d') is' ∙ steps width count id ∙
        sym (ap (λ x. size_step (sizing x) width count id d) kind ∙ ap (λ x. size_step x width count id d) is);
  }

  alike_sized : sizing k ≡ sized → sizing k' ≡ sized → SameWalk d d'
  alike_sized is is' = alike sized is is' (λ width count id. ap (λ n. size_step sized width count id (record { name = 0; info = 0; third = n; extra = []; tail = [] })) third)

  alike_passed : sizing k ≡ passes → sizing k' ≡ passes → SameWalk d d'
  alike_passed is is' = alike passes is is' (λ width count id. ap (λ n. size_step passes width count id (record { name = 0; info = 0; third = n; extra = []; tail = [] })) third)

-- what stands in the place of a data kind
module _ (j : Job) (s : State) (d : Decl) (few : length d.tail ≤ 65535) where
  steady : (k : BtfKind) → decl_kind d ≡ k → data_kind k ≡ true → SameWalk d (stand_in k j s d)
  steady Unknown kind h = same_walk d (ap data_kind kind)
  steady Int kind h = same_walk d (ap data_kind kind)
  steady Ptr kind h = alike d (nameless d) Ptr Ptr kind kind refl refl refl points refl refl (λ width count id. refl)
  steady Array kind h = same_walk d (ap data_kind kind)
  steady Struct kind h = same_walk d (ap data_kind kind)
  steady Union kind h = same_walk d (ap data_kind kind)
  steady Enum kind h =
      cond_both (granted j feature.Enum64) _ _ (SameWalk d) (λ e. same_walk d (ap data_kind kind))
      (λ e. cond_both (flag_of d.info) _ _ (SameWalk d)
      (λ e'. alike_sized d (kept d.name Enum 0 d.third 0 d.tail) Enum Enum kind (kind_kept d.name Enum 0 d.third 0 d.tail few) refl refl refl refl refl) (λ e'. same_walk d (ap data_kind kind)))
  steady Fwd kind h = same_walk d (ap data_kind kind)
  steady Typedef kind h = same_walk d (ap data_kind kind)
  steady Volatile kind h = same_walk d (ap data_kind kind)
  steady Const kind h = same_walk d (ap data_kind kind)
  steady Restrict kind h = same_walk d (ap data_kind kind)
  steady Func kind h = absurd (false≢true h)
  steady FuncProto kind h = absurd (false≢true h)
  steady Var kind h = absurd (false≢true h)
  steady DataSec kind h = absurd (false≢true h)
  steady Float kind h = cond_both (granted j feature.Float) _ _ (SameWalk d) (λ e. same_walk d (ap data_kind kind)) (λ e. alike_sized d (kept 0 Struct 0 d.third 0 []) Float Struct kind refl refl refl refl refl refl)
  steady DeclTag kind h = absurd (false≢true h)
  steady TypeTag kind h = cond_both (granted j feature.TypeTag) _ _ (SameWalk d) (λ e. same_walk d (ap data_kind kind)) (λ e. alike_passed d (kept 0 Const 0 d.third 0 []) TypeTag Const kind refl refl refl refl refl refl)
  steady Enum64 kind h =
      let member : List ℕ → List ℕ = λ ws. get_or ws 0 0 ∷ placeholder_id j s ∷ 0 ∷ [] in
      let kind' = kind_kept d.name Union 0 d.third 0 (map member d.tail) (omega (arith, length-map d.tail member, few)) in
      cond_both (granted j feature.Enum64) _ _ (SameWalk d) (λ e. same_walk d (ap data_kind kind)) (λ e. alike_sized d (as_union j s d) Enum64 Union kind kind' refl refl refl refl refl)

pub few_at : (ds : List Decl) → Grown ds → (id : ℕ) → length (decl_at ds id).tail ≤ 65535
few_at [] g id = omega arith
few_at (d ∷ ds) g zero = subst (λ (x : Decl). length x.tail ≤ 65535) (sym g.0) (omega arith)
few_at (d ∷ ds) g (suc id) = few_among ds g.1 id
  where
    few_among : (es : List Decl) → AllByRecursion Sound es → (k : ℕ) → length (decl_at es k).tail ≤ 65535
    few_among [] p k = omega arith
    few_among (e ∷ es) p zero = few_elements e p.0
    few_among (e ∷ es) p (suc k) = few_among es p.1 k

-- what stands at an old id
pub old_at : (t : Table) (q : Request) (id : ℕ) → id < length t.decls → Stood (job t q) (λ s. Unit {0}) (ended (job t q)) id (decl_at t.decls id)
old_at t q id h = subst (λ n. Stood (job t q) (λ s. Unit {0}) (ended (job t q)) n (decl_at t.decls id)) (omega arith) (stood (job t q) (λ s. Unit {0}) (λ s d i. tt) begun t.decls tt id h)

pub old_in_front : (t : Table) (q : Request) (id : ℕ) → id < length t.decls → decl_at (with_rewritten t (ended (job t q))).decls id ≡ decl_at (ended (job t q)).done id
old_in_front t q id h = get_or_append_left (ended (job t q)).done (ended (job t q)).made void id (omega (arith, length_turns (job t q) begun t.decls))

keeps_rewritten : (t : Table) (q : Request) → BoundedTable t → Keeps t.decls (with_rewritten t (ended (job t q))).decls
keeps_rewritten t q sound =
    let s = ended (job t q) in
    record {
      longer = omega (arith, length_turns (job t q) begun t.decls, length-append s.done s.made);
      walked = λ id h p.
          let at = old_at t q id h in
          let d = decl_at t.decls id in
          subst (SameWalk d) (sym (old_in_front t q id h ∙ at.stands)) (steady (job t q) at.state d (few_at t.decls sound.grown id) (decl_kind d) refl p);
    }

keeps_push : (ds : List Decl) (d : Decl) → Keeps ds (ds ++ d ∷ [])
keeps_push ds d = record {
  longer = omega (arith, length_push ds d);
  walked = λ id h p. subst (SameWalk (decl_at ds id)) (sym (get_or_append_left ds (d ∷ []) void id h)) (same_walk (decl_at ds id) p);
}

-- every call keeps them
keeps_step : (t : Table) (c : Call) → BoundedTable t → Keeps t.decls (step t c).decls
keeps_step t (adds_string name) s = by_string t name (λ o. Keeps t.decls o.later.decls) (λ r. keeps_same t.decls) (λ h room. keeps_same t.decls)
keeps_step t (adds_type g es) s =
    by_outcome t g.declaration es.serving es.items (λ o. Keeps t.decls o.later.decls) (λ r. keeps_same t.decls) (λ h e e'. keeps_push t.decls _)
keeps_step t (asks q) s = keeps_same t.decls
keeps_step t (encodes o buffer) s = keeps_same t.decls

-- and every act
keeps_act : (t : Table) (a : Act) → BoundedTable t → Keeps t.decls (left_by t a).decls
keeps_act t (calls c) s = keeps_step t c s
keeps_act t (rewrites q) s = by_rewriting t q (λ o. Keeps t.decls o.later.decls) (λ r. keeps_same t.decls) (λ p. keeps_rewritten t q s)

keeps_acts : (t : Table) (acts : List Act) → BoundedTable t → Keeps t.decls (left_by_all t acts).decls
keeps_acts t [] s = keeps_same t.decls
keeps_acts t (a ∷ acts) s = keeps_on t.decls (left_by t a).decls (left_by_all (left_by t a) acts).decls (keeps_act t a s) (keeps_acts (left_by t a) acts (bounded_act t a s))

-- a table that holds something goes on holding it
held_string : (t : Table) (name : List ℕ) → holds t ≡ true → t.strings + (length name + 1) ≤ length t.area → holds (with_string t name) ≡ true
held_string t name h room =
    and_from _ _ (and_parts _ _ h).0
    (le-leb (t.strings + (length name + 1)) (length (with_string t name).area)
    (let more = length-append name (0 ∷ []) in omega (arith, length_over t.strings (name ++ 0 ∷ []) t.area (omega (arith, more)))))

held_step : (t : Table) (c : Call) → holds t ≡ true → holds (step t c) ≡ true
held_step t (adds_string name) h = by_string t name (λ o. holds o.later ≡ true) (λ r. h) (λ h' room. held_string t name h room)
held_step t (adds_type g es) h =
    by_outcome t g.declaration es.serving es.items (λ o. holds o.later ≡ true) (λ r. h)
    (λ h' e e'. and_from _ _ (some_more t.decls _) (and_parts _ _ h).1)
held_step t (asks q) h = h
held_step t (encodes o buffer) h = h

held_act : (t : Table) (a : Act) → holds t ≡ true → holds (left_by t a) ≡ true
held_act t (calls c) h = held_step t c h
held_act t (rewrites q) h = by_rewriting t q (λ o. holds o.later ≡ true) (λ r. h) (λ p. held_rewritten t q p)

held_acts : (t : Table) (acts : List Act) → holds t ≡ true → holds (left_by_all t acts) ≡ true
held_acts t [] h = h
held_acts t (a ∷ acts) h = held_acts (left_by t a) acts (held_act t a h)

asked_held : {A : Type 0} (t : Table) (a : Answer A) → holds t ≡ true → asked_of t a ≡ a
asked_held t a h = cond-false (not (holds t)) (refused no_table) a (not_from_true (holds t) h)

pub sizes_and_ends_stay : SizesAndEndsStay
sizes_and_ends_stay history q n later id e h =
    let t = last_table history in
    let u = left_by t (rewrites q) in
    let v = left_by_all u later in
    let sound : BoundedTable t = bounded_last history in
    let passed = (when_accepted t q n e).passed in
    let keeps = keeps_on t.decls u.decls v.decls (keeps_act t (rewrites q) sound) (keeps_acts u later (bounded_act t (rewrites q) sound)) in
    let held = held_acts u later (held_act t (rewrites q) passed.held) in
    let closed = closed_passed (job t q).bytes t.decls passed.closed in
    let ids : (i : ℕ) → i < length t.decls → Closed (job t q).bytes (length t.decls) (decl_at t.decls i) = λ i p. All-get_or (Closed (job t q).bytes (length t.decls)) t.decls i void p closed in (
      λ data_only.
          ap walked (asked_held v _ held ∙
          walk_steady resolving t.decls v.decls keeps.longer (λ i p d s. (keeps.walked i p d).resolves i)
          (λ i p d s next s' m. resolving_closed (decl_at t.decls i) (length t.decls) i next s' (ids i p).ids m) id most_reads None tt id 0 h data_only ∙
          sym (asked_held t _ passed.held)),
      λ width data_only.
          ap walked (asked_held v _ held ∙
          walk_steady (measuring (pointer_bytes width)) t.decls v.decls keeps.longer (λ i p d count. (keeps.walked i p d).measures (pointer_bytes width) count i)
          (λ i p d count next count' m. measuring_closed (decl_at t.decls i) (length t.decls) i next (pointer_bytes width) count count' (ids i p).ids m) id most_reads None 1 id 0 h data_only ∙
          sym (asked_held t _ passed.held)),
    )
