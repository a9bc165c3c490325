-- What stands in a declaration's place is sound.
use Rattle.std.proofs.Common.{◌≡◌, ℕ, zero, suc, ◌+◌, ◌<◌, ◌≤◌, max, Bool, true, false, cond, eqb, ltb, List, [], ◌∷◌, map, length, get_or, Some, None, Option, sym, refl, ap, ◌∙◌, subst, inl, inr, arith}
use lib.ListN.{length-map}
use Rattle.std.specs.List.{AllByRecursion}
use Rattle.std.proofs.ByRecursion.{All-map, All-weaker}
use Rattle.std.proofs.lemmas.Bool.{cond_both}
use Rattle.std.proofs.lemmas.Bool.Decides.{nat_tests}
use Rattle.layout.specs.declared.kind.BtfKind.{BtfKind}
use Rattle.layout.specs.declared.kind.BtfKind.TheVariants.{Unknown, Int, Ptr, Array, Struct, Union, Enum, Fwd, Typedef, Volatile, Const, Restrict, Func, FuncProto, Var, DataSec, Float, DeclTag, TypeTag, Enum64}
use Rattle.layout.specs.Kinds.{kind_number, element_words}
use Rattle.layout.specs.Info.{flag_of}
use Rattle.features.specs.declared.BtfFeature.TheVariants as feature
use Rattle.meaning.specs.Table.{Decl, most_decls, most_strings}
use Rattle.meaning.specs.Questions.{decl_kind, decl_at, greatest_word}
use Rattle.rewriting.specs.Requests.{Job, granted, section_number, symbol_number, or_zero}
use Rattle.rewriting.specs.Rules.{State, next_offset, next_id, renamed, changes, name_at, dotted, underscored, kept, one_byte_int, placeholder_id, filler_id, id_or, entry_id, entry_end, at_this_moment, as_member, spanned, as_struct, section_size, fills, var_linkage, mended_entry, filled_section, mended_section, with_param, with_params, lacks_name, named_params, named_proto, becomes_static, as_union, stand_in, news}
use Rattle.promises.specs.Calls.{Word}
use Rattle.promises.proofs.Sound.{Sound}
use Rattle.promises.proofs.Declared.{word_at}
use Rattle.promises.proofs.Kept.{sound_kept}
use Rattle.promises.proofs.States.{Later, begins_length, later_param, later_params}
use Rattle.promises.proofs.Passed.{Found, EntryPassed, MemberPassed, SectionPassed}

-- one thing and another of each item give a third
pub all_two : {X : Type 0} (P Q R : X → Type 0) → ((x : X) → P x → Q x → R x) → (xs : List X) → AllByRecursion P xs → AllByRecursion Q xs → AllByRecursion R xs
all_two P Q R f [] p q = tt
all_two P Q R f (x ∷ xs) p q = (f x p.0 q.0, all_two P Q R f xs p.1 q.1)

-- what a sound declaration of a kind is
module _ (d : Decl) (sound : Sound d) where
  pub few_elements : length d.tail ≤ 65535
  few_elements = let counts = sound.counted in grind (arith, nat_tests)

  module _ (k : BtfKind) (kind : decl_kind d ≡ k) where
    same : sound.kind ≡ k
    same = sym sound.kind_is ∙ kind

    pub widths_at : AllByRecursion (λ ws. length ws ≡ element_words k) d.tail
    widths_at = subst (λ (x : BtfKind). AllByRecursion (λ ws. length ws ≡ element_words x) d.tail) same sound.widths

-- names that are words, at any id
pub word_name : (ds : List Decl) → AllByRecursion (λ d. Word d.name) ds → (id : ℕ) → Word (decl_at ds id).name
word_name [] p id = omega arith
word_name (d ∷ ds) p zero = p.0
word_name (d ∷ ds) p (suc id) = word_name ds p.1 id

-- what holds of the state of a rewriting, and where it stays within bounds
pub record Ready (j : Job) (s : State) : Type 0 where
  pub old_names : AllByRecursion (λ d. Word d.name) j.decls
  pub names : AllByRecursion (λ d. Word d.name) s.done
  pub placeholder : (id : ℕ) → s.placeholder ≡ Some id → id < next_id j s
  pub filler : (id : ℕ) → s.filler ≡ Some id → id < next_id j s

pub record Bounded (j : Job) (s : State) : Type 0 where
  pub strings : length j.bytes + length s.added ≤ most_strings
  pub decls : length j.decls + length s.made ≤ most_decls

pub bounded_before : (j : Job) (s u : State) → Later s u → Bounded j u → Bounded j s
bounded_before j s u l b = record {
  strings = omega (arith, begins_length s.added u.added l.added, b.strings);
  decls = omega (arith, begins_length s.made u.made l.made, b.decls);
}

pub next_fits : (j : Job) (s : State) → Bounded j s → Word (next_offset j s)
next_fits j s b = omega (arith, b.strings)

id_or_fits : (o : Option ℕ) (n : ℕ) → ((id : ℕ) → o ≡ Some id → Word id) → Word n → Word (id_or o n)
id_or_fits (Some id) n h p = h id refl
id_or_fits None n h p = p

module _ (j : Job) (s : State) (ready : Ready j s) (bound : Bounded j s) where
  pub placeholder_fits : Word (placeholder_id j s)
  placeholder_fits = id_or_fits s.placeholder (next_id j s) (λ id e. omega (arith, ready.placeholder id e, bound.decls)) (omega (arith, bound.decls))

  pub filler_fits : Word (filler_id j s)
  filler_fits = id_or_fits s.filler (next_id j s + 1) (λ id e. omega (arith, ready.filler id e, bound.decls)) (omega (arith, bound.decls))

  renamed_fits : (f : ℕ → ℕ) (offset : ℕ) → Word offset → Word (renamed j s f offset)
  renamed_fits f offset p = cond_both (changes j f offset) _ _ Word (λ e. next_fits j s bound) (λ e. p)

  moment_fits : (id : ℕ) → Word (at_this_moment j s id).name
  moment_fits id =
      cond_both (ltb id (length s.done)) _ _ (λ (d : Decl). Word d.name) (λ e. word_name s.done ready.names id) (λ e. word_name j.decls ready.old_names id)

-- a one-byte Int, and other declarations without elements
pub sound_int : (name : ℕ) → Word name → Sound (one_byte_int name)
sound_int name p = sound_kept name Int 0 1 8 [] (omega arith) p (omega arith) (omega arith) (omega arith) refl (inl refl) tt tt

sound_plain : (name : ℕ) (k : BtfKind) (third : ℕ) → Word name → Word third → eqb (kind_number k) 0 ≡ false → Sound (kept name k 0 third 0 [])
sound_plain name k third p q known = sound_kept name k 0 third 0 [] (omega arith) p q (omega arith) (omega arith) known (inl refl) tt tt

pub sound_var : (name of : ℕ) → Word name → Word of → Sound (kept name Var 0 of 0 [])
sound_var name of p q = sound_plain name Var of p q refl

-- names alone changed
sound_named : (d : Decl) (name : ℕ) → Sound d → Word name → Sound (record { name = name; info = d.info; third = d.third; extra = d.extra; tail = d.tail })
sound_named d name s p = record {
  kind = s.kind;
  kind_is = s.kind_is;
  known = s.known;
  name_fits = p;
  info_fits = s.info_fits;
  third_fits = s.third_fits;
  extra_fits = s.extra_fits;
  extra_length = s.extra_length;
  extra_rest = s.extra_rest;
  counted = s.counted;
  widths = s.widths;
  tail_fits = s.tail_fits;
}

-- name, third word and elements changed, as many elements as before
sound_changed : (d : Decl) (name third : ℕ) (tail : List (List ℕ)) (sound : Sound d) → Word name → Word third → length tail ≡ length d.tail →
    AllByRecursion (λ ws. length ws ≡ element_words sound.kind) tail → AllByRecursion (AllByRecursion Word) tail →
    Sound (record { name = name; info = d.info; third = third; extra = d.extra; tail = tail })
sound_changed d name third tail s p q same wide fits = record {
  kind = s.kind;
  kind_is = s.kind_is;
  known = s.known;
  name_fits = p;
  info_fits = s.info_fits;
  third_fits = q;
  extra_fits = s.extra_fits;
  extra_length = s.extra_length;
  extra_rest = s.extra_rest;
  counted = same ∙ s.counted;
  widths = wide;
  tail_fits = fits;
}

-- Sections refused.
spanned_fits : (size : ℕ) (tail : List (List ℕ)) → size ≤ greatest_word → AllByRecursion MemberPassed tail → spanned size tail ≤ greatest_word
spanned_fits size [] p m = p
spanned_fits size (ws ∷ rest) p m = spanned_fits (max size (entry_end ws)) rest (omega (arith, m.0.reach)) m.1

module _ (j : Job) (s : State) (d : Decl) (ready : Ready j s) (bound : Bounded j s) (sound : Sound d) where
  sound_struct : decl_kind d ≡ DataSec → AllByRecursion MemberPassed d.tail → Sound (as_struct j s d)
  sound_struct kind m =
      let tail = map (as_member j s) d.tail in
      let count = length-map d.tail (as_member j s) in
      sound_kept (renamed j s underscored d.name) Struct 0 (spanned d.third d.tail) 0 tail (omega (arith, count, few_elements d sound))
      (renamed_fits j s ready bound underscored d.name sound.name_fits)
      (omega (arith, spanned_fits d.third d.tail (omega (arith, sound.third_fits)) m))
      (omega arith) (omega arith) refl (inr (omega arith))
      (All-map (λ ws. length ws ≡ 3) (as_member j s) d.tail (All-weaker (AllByRecursion Word) _ (λ ws p. refl) d.tail sound.tail_fits))
      (All-map (AllByRecursion Word) (as_member j s) d.tail
      (all_two (AllByRecursion Word) MemberPassed (λ ws. AllByRecursion Word (as_member j s ws))
      (λ ws p passed. (moment_fits j s ready bound (entry_id ws), (word_at ws 0 p, (omega (arith, passed.offset), tt)))) d.tail sound.tail_fits m))

  -- Sections granted.
  or_zero_fits : (o : Option ℕ) → Found o → or_zero o ≤ greatest_word
  or_zero_fits o found = subst (λ (x : Option ℕ). or_zero x ≤ greatest_word) (sym found.found) found.small

  pub size_fits : SectionPassed j d → granted j feature.DataSec ≡ true → section_size j d ≤ greatest_word
  size_fits passed g =
      cond_both (ltb 0 d.third) _ _ (λ n. n ≤ greatest_word) (λ e. omega (arith, sound.third_fits)) (λ e. or_zero_fits (section_number j (name_at j d.name)) (passed.row g e))

  sound_filled : SectionPassed j d → granted j feature.DataSec ≡ true → Sound (filled_section j s d)
  sound_filled passed g =
      let size = size_fits passed g in
      sound_kept (renamed j s dotted d.name) DataSec 0 (max (section_size j d) 1) 0 ((filler_id j s ∷ 0 ∷ max (section_size j d) 1 ∷ []) ∷ []) (omega arith)
      (renamed_fits j s ready bound dotted d.name sound.name_fits) (omega (arith, size)) (omega arith) (omega arith) refl (inr (omega arith))
      (refl, tt) ((filler_fits j s ready bound, (omega arith, (omega (arith, size), tt))), tt)

  mended_wide : (ws : List ℕ) → length ws ≡ 3 → length (mended_entry j ws) ≡ 3
  mended_wide ws three = cond_both (eqb (var_linkage (decl_at j.decls (entry_id ws))) 0) _ _ (λ (l : List ℕ). length l ≡ 3) (λ e. three) (λ e. refl)

  mended_fits : (ws : List ℕ) → AllByRecursion Word ws → EntryPassed j ws → AllByRecursion Word (mended_entry j ws)
  mended_fits ws p passed =
      let var = decl_at j.decls (entry_id ws) in
      cond_both (eqb (var_linkage var) 0) _ _ (AllByRecursion Word) (λ e. p)
      (λ e. (word_at ws 0 p, (omega (arith, or_zero_fits (symbol_number j (name_at j var.name)) (passed.symbol e)), (word_at ws 2 p, tt))))

  sound_mended : decl_kind d ≡ DataSec → SectionPassed j d → granted j feature.DataSec ≡ true → Sound (mended_section j s d)
  sound_mended kind passed g =
      let tail : List (List ℕ) = cond (ltb 0 d.third) d.tail (map (mended_entry j) d.tail) in
      let at = widths_at d sound DataSec kind in
      let is = same d sound DataSec kind in
      sound_changed d (renamed j s dotted d.name) (section_size j d) tail sound
      (renamed_fits j s ready bound dotted d.name sound.name_fits)
      (omega (arith, size_fits passed g))
      (cond_both (ltb 0 d.third) _ _ (λ (l : List (List ℕ)). length l ≡ length d.tail) (λ e. refl) (λ e. length-map d.tail (mended_entry j)))
      (cond_both (ltb 0 d.third) _ _ (AllByRecursion (λ ws. length ws ≡ element_words sound.kind)) (λ e. sound.widths)
      (λ e. All-map (λ ws. length ws ≡ element_words sound.kind) (mended_entry j) d.tail
      (All-weaker (λ ws. length ws ≡ 3) (λ ws. length (mended_entry j ws) ≡ element_words sound.kind) (λ ws three. mended_wide ws three ∙ ap element_words (sym is)) d.tail at)))
      (cond_both (ltb 0 d.third) _ _ (AllByRecursion (AllByRecursion Word)) (λ e. sound.tail_fits)
      (λ e. All-map (AllByRecursion Word) (mended_entry j) d.tail
      (all_two (AllByRecursion Word) (EntryPassed j) (λ ws. AllByRecursion Word (mended_entry j ws)) mended_fits d.tail sound.tail_fits (passed.entries g e))))

-- Parameters.
pub length_named : (j : Job) (s : State) (index : ℕ) (tail : List (List ℕ)) → length (named_params j s index tail) ≡ length tail
length_named j s index [] = refl
length_named j s index (ws ∷ rest) = ap suc (length_named j (with_param s index ws) (index + 1) rest)

named_wide : (j : Job) (s : State) (index : ℕ) (tail : List (List ℕ)) → AllByRecursion (λ ws. length ws ≡ 2) tail → AllByRecursion (λ ws. length ws ≡ 2) (named_params j s index tail)
named_wide j s index [] p = tt
named_wide j s index (ws ∷ rest) p =
    (cond_both (lacks_name ws) _ _ (λ (l : List ℕ). length l ≡ 2) (λ e. refl) (λ e. p.0), named_wide j (with_param s index ws) (index + 1) rest p.1)

named_fits : (j : Job) (s : State) (index : ℕ) (tail : List (List ℕ)) → Bounded j (with_params s index tail) → AllByRecursion (AllByRecursion Word) tail → AllByRecursion (AllByRecursion Word) (named_params j s index tail)
named_fits j s index [] b p = tt
named_fits j s index (ws ∷ rest) b p =
    let after = bounded_before j (with_param s index ws) _ (later_params (with_param s index ws) (index + 1) rest) b in
    let here = bounded_before j s (with_param s index ws) (later_param s index ws) after in (
      cond_both (lacks_name ws) _ _ (AllByRecursion Word) (λ e. (next_fits j s here, (word_at ws 1 p.0, tt))) (λ e. p.0),
      named_fits j (with_param s index ws) (index + 1) rest b p.1,
    )

-- Every kind.
module _ (j : Job) (s : State) (d : Decl) (ready : Ready j s) (sound : Sound d) where
  sound_proto : decl_kind d ≡ FuncProto → Bounded j (with_params s 0 d.tail) → Sound (named_proto j s d)
  sound_proto kind b =
      let at = widths_at d sound FuncProto kind in
      let is = same d sound FuncProto kind in
      sound_changed d d.name d.third (named_params j s 0 d.tail) sound sound.name_fits sound.third_fits (length_named j s 0 d.tail)
      (subst (λ (k : BtfKind). AllByRecursion (λ ws. length ws ≡ element_words k) (named_params j s 0 d.tail)) (sym is) (named_wide j s 0 d.tail at))
      (named_fits j s 0 d.tail b sound.tail_fits)

  sound_enum : (third : ℕ) (k : BtfKind) → Word third → decl_kind d ≡ k → element_words k ≡ 2 → Sound (kept d.name Enum 0 third 0 d.tail)
  sound_enum third k p kind two =
      sound_kept d.name Enum 0 third 0 d.tail (few_elements d sound) sound.name_fits p (omega arith) (omega arith) refl (inr (omega arith))
      (subst (λ n. AllByRecursion (λ ws. length ws ≡ n) d.tail) two (widths_at d sound k kind)) sound.tail_fits

  sound_union : decl_kind d ≡ Enum64 → Bounded j s → Sound (as_union j s d)
  sound_union kind b =
      let member : List ℕ → List ℕ = λ ws. get_or ws 0 0 ∷ placeholder_id j s ∷ 0 ∷ [] in
      sound_kept d.name Union 0 d.third 0 (map member d.tail) (omega (arith, length-map d.tail member, few_elements d sound))
      sound.name_fits sound.third_fits (omega arith) (omega arith) refl (inr (omega arith))
      (All-map (λ ws. length ws ≡ 3) member d.tail (All-weaker (AllByRecursion Word) _ (λ ws p. refl) d.tail sound.tail_fits))
      (All-map (AllByRecursion Word) member d.tail (All-weaker (AllByRecursion Word) _ (λ ws p. (word_at ws 0 p, (placeholder_fits j s ready b, (omega arith, tt)))) d.tail sound.tail_fits))

  either_way : (b : Bool) (x y : Decl) → (b ≡ true → Sound x) → (b ≡ false → Sound y) → Sound (cond b x y)
  either_way b x y p q = cond_both b x y Sound p q

  pub sound_stand_in : (k : BtfKind) → decl_kind d ≡ k → (k ≡ DataSec → SectionPassed j d) → Bounded j (news k j s d) → Bounded j s → Sound (stand_in k j s d)
  sound_stand_in Ptr kind passed b here = sound_named d 0 sound (omega arith)
  sound_stand_in Var kind passed b here = either_way (granted j feature.DataSec) _ _ (λ e. sound) (λ e. sound_int d.name sound.name_fits)
  sound_stand_in DataSec kind passed b here =
      either_way (granted j feature.DataSec) _ _
      (λ g. either_way (fills j d) _ _ (λ e. sound_filled j s d ready here sound (passed refl) g) (λ e. sound_mended j s d ready here sound kind (passed refl) g))
      (λ g. sound_struct j s d ready here sound kind ((passed refl).members g))
  sound_stand_in FuncProto kind passed b here =
      either_way (granted j feature.Func) _ _
      (λ g. sound_proto kind (subst (Bounded j) (cond_true' g) b)) (λ g. sound_enum 4 FuncProto (omega arith) kind refl)
    where
      cond_true' : granted j feature.Func ≡ true → news FuncProto j s d ≡ with_params s 0 d.tail
      cond_true' g = ap (λ x. cond x (with_params s 0 d.tail) s) g
  sound_stand_in Func kind passed b here =
      either_way (granted j feature.Func) _ _
      (λ g. either_way (becomes_static j d) _ _ (λ e. sound_plain d.name Func d.third sound.name_fits sound.third_fits refl) (λ e. sound))
      (λ g. sound_plain d.name Typedef d.third sound.name_fits sound.third_fits refl)
  sound_stand_in Float kind passed b here =
      either_way (granted j feature.Float) _ _ (λ e. sound) (λ e. sound_plain 0 Struct d.third (omega arith) sound.third_fits refl)
  sound_stand_in DeclTag kind passed b here = either_way (granted j feature.DeclTag) _ _ (λ e. sound) (λ e. sound_int d.name sound.name_fits)
  sound_stand_in TypeTag kind passed b here =
      either_way (granted j feature.TypeTag) _ _ (λ e. sound) (λ e. sound_plain 0 Const d.third (omega arith) sound.third_fits refl)
  sound_stand_in Enum kind passed b here =
      either_way (granted j feature.Enum64) _ _ (λ e. sound)
      (λ e. either_way (flag_of d.info) _ _ (λ e'. sound_enum d.third Enum sound.third_fits kind refl) (λ e'. sound))
  sound_stand_in Enum64 kind passed b here = either_way (granted j feature.Enum64) _ _ (λ e. sound) (λ e. sound_union kind here)
  sound_stand_in Unknown kind passed b here = sound
  sound_stand_in Int kind passed b here = sound
  sound_stand_in Array kind passed b here = sound
  sound_stand_in Struct kind passed b here = sound
  sound_stand_in Union kind passed b here = sound
  sound_stand_in Fwd kind passed b here = sound
  sound_stand_in Typedef kind passed b here = sound
  sound_stand_in Volatile kind passed b here = sound
  sound_stand_in Const kind passed b here = sound
  sound_stand_in Restrict kind passed b here = sound
