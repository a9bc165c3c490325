-- No refused kind is left.
use Rattle.std.proofs.Common.{◌≡◌, ℕ, ◌+◌, ◌-◌, ◌<◌, ◌≤◌, max, Bool, true, false, cond, not, ◌&&◌, ◌||◌, eqb, ltb, List, [], ◌∷◌, ◌++◌, map, length, get_or, Some, None, Option, sym, refl, ap, ◌∙◌, subst, inl, inr, arith, length-append}
use lib.ListN.{length-map}
use Rattle.std.specs.List.{AllByRecursion}
use Rattle.std.proofs.ByRecursion.{All-get_or, All-append, All-push}
use Rattle.std.proofs.lemmas.List.{get_or-append_right}
use Rattle.std.proofs.lemmas.Bool.{cond_both, cases_lt, and_right, or_from, not_from_true}
use Rattle.layout.specs.declared.kind.BtfKind.{BtfKind}
use Rattle.layout.specs.declared.kind.BtfKind.TheVariants.{Unknown, Int, Ptr, Array, Struct, Union, Enum, Fwd, Typedef, Volatile, Const, Restrict, Func, FuncProto, Var, DataSec, Float, DeclTag, TypeTag, Enum64}
use Rattle.layout.specs.Info.{low_of, flag_of}
use Rattle.features.specs.declared.BtfFeature.TheVariants as feature
use Rattle.meaning.specs.Table.{Decl, Table, void}
use Rattle.meaning.specs.Questions.{decl_kind, decl_at}
use Rattle.rewriting.specs.Requests.{Job, granted}
use Rattle.rewriting.specs.Rules.{State, begun, with_placeholder, with_filler, with_renamed, changes, dotted, underscored, one_byte_int, kept, renamed, filler_id, placeholder_id, section_size, spanned, as_member, as_struct, fills, filled_section, mended_section, mended_entry, with_param, with_params, lacks_name, named_proto, becomes_static, is_builtin, name_at, nameless, as_union, stand_in, news, turn, turns}
use Rattle.rewriting.specs.Rewriting.{job, ended}
use Rattle.promises.specs.Kinds.{kind_refused, refused_kind}
use Rattle.promises.specs.Acts.{last_table}
use Rattle.promises.specs.Lasting.{NoRefusedKindLeft}
use Rattle.promises.proofs.Sound.{BoundedTable}
use Rattle.promises.proofs.Kept.{kind_kept, flag_kept}
use Rattle.promises.proofs.States.{length_turns}
use Rattle.promises.proofs.Passed.{when_accepted}
use Rattle.promises.proofs.Acted.{bounded_last}
use Rattle.promises.proofs.Stay.{few_at, old_at, old_in_front}

abbrev Taken : Job → Decl → Type 0
Taken j d = refused_kind j.request.grants d ≡ false

-- by its kind, its flag and its count
taken_at : (j : Job) (d : Decl) (k : BtfKind) → decl_kind d ≡ k → kind_refused j.request.grants k (flag_of d.info) (low_of d.info) (length d.tail) ≡ false → Taken j d
taken_at j d k kind e = ap (λ x. kind_refused j.request.grants x (flag_of d.info) (low_of d.info) (length d.tail)) kind ∙ e

either : (j : Job) (b : Bool) (x y : Decl) → (b ≡ true → Taken j x) → (b ≡ false → Taken j y) → Taken j (cond b x y)
either j b x y p q = cond_both b x y (Taken j) p q

module _ (j : Job) (s : State) (d : Decl) (few : length d.tail ≤ 65535) where
  -- a granted kind stays
  granted_stays : (b : Bool) (k : BtfKind) → decl_kind d ≡ k → kind_refused j.request.grants k (flag_of d.info) (low_of d.info) (length d.tail) ≡ not b → b ≡ true → Taken j d
  granted_stays b k kind same g = taken_at j d k kind (same ∙ not_from_true b g)

  -- a section that is not filled has entries, or needs none
  section_taken : decl_kind d ≡ DataSec → granted j feature.DataSec ≡ true → fills j d ≡ false → Taken j (mended_section j s d)
  section_taken kind g none =
      let count = cond_both (ltb 0 d.third) _ _ (λ (l : List (List ℕ)). length l ≡ length d.tail) (λ e'. refl) (λ e'. length-map d.tail (mended_entry j)) in
      taken_at j (mended_section j s d) DataSec kind
      (or_from (not (granted j feature.DataSec)) _ (not_from_true (granted j feature.DataSec) g) (ap (λ n. not (granted j feature.DataSecZero) && eqb n 0) count ∙ needs (granted j feature.DataSecZero) (eqb (length d.tail) 0) (eqb (section_size j d) 0) none))
    where
      needs : (zero_granted empty nil : Bool) → (empty && (nil || not zero_granted)) ≡ false → (not zero_granted && empty) ≡ false
      needs true empty nil e = refl
      needs false true true e = e
      needs false true false e = e
      needs false false nil e = refl

  -- a function that stays global may be
  func_taken : decl_kind d ≡ Func → granted j feature.Func ≡ true → becomes_static j d ≡ false → Taken j d
  func_taken kind g stays =
      taken_at j d Func kind (or_from (not (granted j feature.Func)) _ (not_from_true (granted j feature.Func) g) (may (granted j feature.FuncGlobal) (eqb (low_of d.info) 1) (is_builtin (name_at j d.name)) stays))
    where
      may : (global_granted global builtin : Bool) → (global && (builtin || not global_granted)) ≡ false → (not global_granted && global) ≡ false
      may true global builtin e = refl
      may false true true e = e
      may false true false e = e
      may false false builtin e = refl

  unsigned_taken : (k : BtfKind) (third : ℕ) → Taken j (kept d.name Enum 0 third 0 d.tail)
  unsigned_taken k third =
      let e = kept d.name Enum 0 third 0 d.tail in
      taken_at j e Enum (kind_kept d.name Enum 0 third 0 d.tail few) (and_right (not (granted j feature.Enum64)) (flag_of e.info) (flag_kept d.name Enum 0 third 0 d.tail few))

  taken_stand_in : (k : BtfKind) → decl_kind d ≡ k → Taken j (stand_in k j s d)
  taken_stand_in Unknown kind = taken_at j d Unknown kind refl
  taken_stand_in Int kind = taken_at j d Int kind refl
  taken_stand_in Ptr kind = taken_at j (nameless d) Ptr kind refl
  taken_stand_in Array kind = taken_at j d Array kind refl
  taken_stand_in Struct kind = taken_at j d Struct kind refl
  taken_stand_in Union kind = taken_at j d Union kind refl
  taken_stand_in Enum kind =
      either j (granted j feature.Enum64) _ _ (λ g. taken_at j d Enum kind (ap (λ b. not b && flag_of d.info) g))
      (λ g. either j (flag_of d.info) _ _ (λ e. unsigned_taken Enum d.third) (λ e. taken_at j d Enum kind (and_right (not (granted j feature.Enum64)) (flag_of d.info) e)))
  taken_stand_in Fwd kind = taken_at j d Fwd kind refl
  taken_stand_in Typedef kind = taken_at j d Typedef kind refl
  taken_stand_in Volatile kind = taken_at j d Volatile kind refl
  taken_stand_in Const kind = taken_at j d Const kind refl
  taken_stand_in Restrict kind = taken_at j d Restrict kind refl
  taken_stand_in Func kind =
      either j (granted j feature.Func) _ _
      (λ g. either j (becomes_static j d) _ _ (λ e. or_from (not (granted j feature.Func)) _ (not_from_true (granted j feature.Func) g) (and_right (not (granted j feature.FuncGlobal)) false refl)) (λ e. func_taken kind g e))
      (λ g. refl)
  taken_stand_in FuncProto kind =
      either j (granted j feature.Func) _ _ (λ g. taken_at j (named_proto j s d) FuncProto kind (not_from_true (granted j feature.Func) g)) (λ g. unsigned_taken FuncProto 4)
  taken_stand_in Var kind = either j (granted j feature.DataSec) _ _ (granted_stays (granted j feature.DataSec) Var kind refl) (λ e. refl)
  taken_stand_in DataSec kind =
      either j (granted j feature.DataSec) _ _
      (λ g. either j (fills j d) _ _
      (λ e.
      let size = max (section_size j d) 1 in
      taken_at j (filled_section j s d) DataSec (kind_kept (renamed j s dotted d.name) DataSec 0 size 0 ((filler_id j s ∷ 0 ∷ size ∷ []) ∷ []) (omega arith))
      (or_from (not (granted j feature.DataSec)) _ (not_from_true (granted j feature.DataSec) g) (and_right (not (granted j feature.DataSecZero)) false refl)))
      (λ e. section_taken kind g e))
      (λ g. taken_at j (as_struct j s d) Struct (kind_kept (renamed j s underscored d.name) Struct 0 (spanned d.third d.tail) 0 (map (as_member j s) d.tail) (omega (arith, length-map d.tail (as_member j s), few))) refl)
  taken_stand_in Float kind = either j (granted j feature.Float) _ _ (granted_stays (granted j feature.Float) Float kind refl) (λ e. refl)
  taken_stand_in DeclTag kind = either j (granted j feature.DeclTag) _ _ (granted_stays (granted j feature.DeclTag) DeclTag kind refl) (λ e. refl)
  taken_stand_in TypeTag kind = either j (granted j feature.TypeTag) _ _ (granted_stays (granted j feature.TypeTag) TypeTag kind refl) (λ e. refl)
  taken_stand_in Enum64 kind =
      let member : List ℕ → List ℕ = λ ws. get_or ws 0 0 ∷ placeholder_id j s ∷ 0 ∷ [] in
      either j (granted j feature.Enum64) _ _ (granted_stays (granted j feature.Enum64) Enum64 kind refl)
      (λ g. taken_at j (as_union j s d) Union (kind_kept d.name Union 0 d.third 0 (map member d.tail) (omega (arith, length-map d.tail member, few))) refl)

-- what is new is taken too: the filler's Var is made only where sections are granted
abbrev MadeTaken : Job → State → Type 0
MadeTaken j s = AllByRecursion (Taken j) s.made

made_placeholder : (j : Job) (s : State) (o : Option ℕ) → MadeTaken j s → MadeTaken j (with_placeholder j s o)
made_placeholder j s (Some id) h = h
made_placeholder j s None h = All-push (Taken j) s.made (one_byte_int _) h refl

made_filler : (j : Job) (s : State) (o : Option ℕ) → granted j feature.DataSec ≡ true → MadeTaken j s → MadeTaken j (with_filler j s o)
made_filler j s (Some id) g h = h
made_filler j s None g h = All-append (Taken j) s.made _ h (refl, (not_from_true (granted j feature.DataSec) g, tt))

made_renamed : (j : Job) (s : State) (f : ℕ → ℕ) (offset : ℕ) → MadeTaken j s → MadeTaken j (with_renamed j s f offset)
made_renamed j s f offset h = cond_both (changes j f offset) _ _ (MadeTaken j) (λ e. h) (λ e. h)

made_params : (j : Job) (s : State) (index : ℕ) (tail : List (List ℕ)) → MadeTaken j s → MadeTaken j (with_params s index tail)
made_params j s index [] h = h
made_params j s index (ws ∷ rest) h = made_params j (with_param s index ws) (index + 1) rest (cond_both (lacks_name ws) _ _ (MadeTaken j) (λ e. h) (λ e. h))

made_news : (k : BtfKind) (j : Job) (s : State) (d : Decl) → MadeTaken j s → MadeTaken j (news k j s d)
made_news Unknown j s d h = h
made_news Int j s d h = h
made_news Ptr j s d h = h
made_news Array j s d h = h
made_news Struct j s d h = h
made_news Union j s d h = h
made_news Enum j s d h = h
made_news Fwd j s d h = h
made_news Typedef j s d h = h
made_news Volatile j s d h = h
made_news Const j s d h = h
made_news Restrict j s d h = h
made_news Func j s d h = h
made_news FuncProto j s d h = cond_both (granted j feature.Func) _ _ (MadeTaken j) (λ g. made_params j s 0 d.tail h) (λ g. h)
made_news Var j s d h = h
made_news DataSec j s d h =
    let named = with_renamed j s dotted d.name in
    let first = made_renamed j s dotted d.name h in
    cond_both (granted j feature.DataSec) _ _ (MadeTaken j)
    (λ g. cond_both (fills j d) _ _ (MadeTaken j) (λ e. made_filler j named named.filler g first) (λ e. first))
    (λ g. made_renamed j s underscored d.name h)
made_news Float j s d h = h
made_news DeclTag j s d h = h
made_news TypeTag j s d h = h
made_news Enum64 j s d h = cond_both (granted j feature.Enum64) _ _ (MadeTaken j) (λ g. h) (λ g. made_placeholder j s s.placeholder h)

made_turns : (j : Job) (s : State) (ds : List Decl) → MadeTaken j s → MadeTaken j (turns j s ds)
made_turns j s [] h = h
made_turns j s (d ∷ ds) h = made_turns j (turn j s d) ds (made_news (decl_kind d) j s d h)

pub no_refused_kind_left : NoRefusedKindLeft
no_refused_kind_left history q n id e h =
    let t = last_table history in
    let j = job t q in
    let s = ended j in
    let sound : BoundedTable t = bounded_last history in
    let is = (when_accepted t q n e).later_is in
    let within : id < length (s.done ++ s.made) = subst (λ (u : Table). id < length u.decls) is h in
    let count = length_turns j begun t.decls in
    let lower : id < length t.decls → Taken j (decl_at (s.done ++ s.made) id) = λ below.
    let at = old_at t q id below in
    subst (Taken j) (sym (old_in_front t q id below ∙ at.stands)) (taken_stand_in j at.state (decl_at t.decls id) (few_at t.decls sound.grown id) (decl_kind (decl_at t.decls id)) refl) in
    let higher : length t.decls ≤ id → Taken j (decl_at (s.done ++ s.made) id) = λ above.
    let place = get_or-append_right s.done s.made (length s.done) id void refl (omega (arith, count)) in
    subst (Taken j) (sym place) (All-get_or (Taken j) s.made (id - length s.done) void (omega (arith, count, length-append s.done s.made)) (made_turns j begun t.decls tt)) in
    let either_way : Taken j (decl_at (s.done ++ s.made) id) = elim (cases_lt id (length t.decls)) [ inl below ↦ lower below | inr above ↦ higher above ] in
    ap (λ (u : Table). refused_kind q.grants (decl_at u.decls id)) is ∙ either_way
