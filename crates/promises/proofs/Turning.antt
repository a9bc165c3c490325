-- Each turn of a rewriting leaves a sound state, and the words add up.
use Rattle.std.proofs.Common.{◌≡◌, ℕ, ◌+◌, ◌*◌, ◌≤◌, max, Bool, true, cond, ltb, List, [], ◌∷◌, ◌++◌, map, length, get_or, Some, None, Option, sym, refl, ap, ◌∙◌, subst, arith, length-append}
use lib.ListN.{length-map}
use Rattle.std.specs.List.{AllByRecursion}
use Rattle.std.proofs.ByRecursion.{All-append, All-push}
use Rattle.std.proofs.lemmas.List.{length_push}
use Rattle.std.proofs.lemmas.Bool.{cond_both, lt-ltb, eqb-true, and_parts}
use Rattle.layout.specs.declared.kind.BtfKind.{BtfKind}
use Rattle.layout.specs.declared.kind.BtfKind.TheVariants.{Unknown, Int, Ptr, Array, Struct, Union, Enum, Fwd, Typedef, Volatile, Const, Restrict, Func, FuncProto, Var, DataSec, Float, DeclTag, TypeTag, Enum64}
use Rattle.layout.specs.Kinds.{extra_words, element_words}
use Rattle.layout.specs.Info.{flag_of}
use Rattle.features.specs.declared.BtfFeature.TheVariants as feature
use Rattle.meaning.specs.Table.{Decl}
use Rattle.meaning.specs.Questions.{decl_kind}
use Rattle.meaning.specs.File.{decl_words, type_words}
use Rattle.meaning.proofs.Files.{joined_append}
use Rattle.rewriting.specs.Requests.{Job, granted}
use Rattle.rewriting.specs.Sections.{section_fault, sections_from}
use Rattle.rewriting.specs.Rules.{State, renamed, filler_id, placeholder_id, section_size, spanned, named_proto, next_offset, next_id, with_string, with_placeholder, with_filler, with_renamed, changes, dotted, underscored, placeholder_name, filler_type_name, filler_name, one_byte_int, kept, as_struct, fills, filled_section, mended_section, mended_entry, section_news, as_member, with_param, with_params, lacks_name, becomes_static, as_union, stand_in, news, stands, turn, turns}
use Rattle.rewriting.specs.Rewriting.{one_if_made}
use Rattle.promises.specs.Calls.{Word}
use Rattle.promises.proofs.Sound.{Sound, Grown, grown_push}
use Rattle.promises.proofs.Words.{length_words, length_pushed}
use Rattle.promises.proofs.Parts.{cond_both₂}
use Rattle.promises.proofs.Kept.{kind_kept}
use Rattle.promises.proofs.States.{later_news, later_turns, done_turn, length_turn}
use Rattle.promises.proofs.Passed.{before_none, section_passed}
use Rattle.promises.proofs.Standing.{Ready, Bounded, bounded_before, few_elements, length_named, sound_int, sound_var, sound_stand_in}

pub record SoundState (j : Job) (s : State) : Type 0 where
  pub ready : Ready j s
  pub some : ltb 0 (length s.done) ≡ true
  pub grown : Grown s.done
  pub made : AllByRecursion Sound s.made
  pub made_count : length s.made ≡ one_if_made s.placeholder + 2 * one_if_made s.filler
  pub made_words : length (type_words s.made) ≡ 4 * one_if_made s.placeholder + 8 * one_if_made s.filler

-- strings and counts leave the rest as it is
with_other : (j : Job) (s : State) (added : List ℕ) (filled : ℕ) → SoundState j s →
    SoundState j (record { done = s.done; made = s.made; added = added; placeholder = s.placeholder; filler = s.filler; filled = filled })
with_other j s added filled h = record {
  ready = record { old_names = h.ready.old_names; names = h.ready.names; placeholder = h.ready.placeholder; filler = h.ready.filler };
  some = h.some;
  grown = h.grown;
  made = h.made;
  made_count = h.made_count;
  made_words = h.made_words;
}

same_some : (a b : ℕ) → Some a ≡ Some b → a ≡ b
same_some a b e = cc

sound_placeholder : (j : Job) (s : State) (o : Option ℕ) → s.placeholder ≡ o → SoundState j s → Bounded j (with_placeholder j s o) → SoundState j (with_placeholder j s o)
sound_placeholder j s (Some id) e h b = h
sound_placeholder j s None e h b =
    let new = one_byte_int (next_offset j s) in
    let more = length_push s.made new in
    record {
      ready = record {
        old_names = h.ready.old_names;
        names = h.ready.names;
        placeholder = λ id e'. omega (arith, more, same_some (next_id j s) id e');
        filler = λ id e'. omega (arith, more, h.ready.filler id e');
      };
      some = h.some;
      grown = h.grown;
      made = All-push Sound s.made new h.made (sound_int (next_offset j s) (omega (arith, b.strings, length-append s.added (placeholder_name ++ 0 ∷ []))));
      made_count = omega (arith, more, h.made_count, ap one_if_made e);
      made_words = omega (arith, length_pushed s.made new, h.made_words, ap one_if_made e);
    }

sound_filler : (j : Job) (s : State) (o : Option ℕ) → s.filler ≡ o → SoundState j s → Bounded j (with_filler j s o) → SoundState j (with_filler j s o)
sound_filler j s (Some id) e h b = h
sound_filler j s None e h b =
    let named = with_string s filler_type_name in
    let int = one_byte_int (next_offset j s) in
    let var = kept (next_offset j named) Var 0 (next_id j s) 0 [] in
    let more : length (s.made ++ int ∷ var ∷ []) ≡ length s.made + 2 = length-append s.made (int ∷ var ∷ []) in
    let words : length (type_words (s.made ++ int ∷ var ∷ [])) ≡ length (type_words s.made) + 8 =
    ap length (joined_append decl_words s.made (int ∷ var ∷ [])) ∙ length-append (type_words s.made) (type_words (int ∷ var ∷ [])) in
    let behind = length-append named.added (filler_name ++ 0 ∷ []) in
    let front = length-append s.added (filler_type_name ++ 0 ∷ []) in
    record {
      ready = record {
        old_names = h.ready.old_names;
        names = h.ready.names;
        placeholder = λ id e'. omega (arith, more, h.ready.placeholder id e');
        filler = λ id e'. omega (arith, more, same_some (next_id j s + 1) id e');
      };
      some = h.some;
      grown = h.grown;
      made = All-append Sound s.made (int ∷ var ∷ []) h.made (sound_int (next_offset j s) (omega (arith, b.strings, behind, front)), (sound_var (next_offset j named) (next_id j s) (omega (arith, b.strings, behind)) (omega (arith, b.decls, more)), tt));
      made_count = omega (arith, more, h.made_count, ap one_if_made e);
      made_words = omega (arith, words, h.made_words, ap one_if_made e);
    }

sound_renamed : (j : Job) (s : State) (f : ℕ → ℕ) (offset : ℕ) → SoundState j s → SoundState j (with_renamed j s f offset)
sound_renamed j s f offset h = cond_both (changes j f offset) _ _ (SoundState j) (λ e. with_other j s _ _ h) (λ e. h)

sound_params : (j : Job) (s : State) (index : ℕ) (tail : List (List ℕ)) → SoundState j s → SoundState j (with_params s index tail)
sound_params j s index [] h = h
sound_params j s index (ws ∷ rest) h =
    sound_params j (with_param s index ws) (index + 1) rest (cond_both (lacks_name ws) _ _ (SoundState j) (λ e. with_other j s _ _ h) (λ e. h))

sound_news : (k : BtfKind) (j : Job) (s : State) (d : Decl) → SoundState j s → Bounded j (news k j s d) → SoundState j (news k j s d)
sound_news DataSec j s d h =
    let named = with_renamed j s dotted d.name in
    let first = sound_renamed j s dotted d.name h in
    cond_both (granted j feature.DataSec) _ _ (λ (u : State). Bounded j u → SoundState j u)
    (λ g. cond_both (fills j d) _ _ (λ (u : State). Bounded j u → SoundState j u)
    (λ e b. with_other j (with_filler j named named.filler) _ _ (sound_filler j named named.filler refl first (record { strings = b.strings; decls = b.decls })))
    (λ e b. first))
    (λ g b. sound_renamed j s underscored d.name h)
sound_news FuncProto j s d h =
    cond_both (granted j feature.Func) _ _ (λ (u : State). Bounded j u → SoundState j u) (λ g b. sound_params j s 0 d.tail h) (λ g b. h)
sound_news Enum64 j s d h =
    cond_both (granted j feature.Enum64) _ _ (λ (u : State). Bounded j u → SoundState j u) (λ g b. h) (λ g b. sound_placeholder j s s.placeholder refl h b)
sound_news Unknown j s d h = λ b. h
sound_news Int j s d h = λ b. h
sound_news Ptr j s d h = λ b. h
sound_news Array j s d h = λ b. h
sound_news Struct j s d h = λ b. h
sound_news Union j s d h = λ b. h
sound_news Enum j s d h = λ b. h
sound_news Fwd j s d h = λ b. h
sound_news Typedef j s d h = λ b. h
sound_news Volatile j s d h = λ b. h
sound_news Const j s d h = λ b. h
sound_news Restrict j s d h = λ b. h
sound_news Func j s d h = λ b. h
sound_news Var j s d h = λ b. h
sound_news Float j s d h = λ b. h
sound_news DeclTag j s d h = λ b. h
sound_news TypeTag j s d h = λ b. h

pub some_more : (ds : List Decl) (d : Decl) → ltb 0 (length (ds ++ d ∷ [])) ≡ true
some_more ds d = lt-ltb 0 (length (ds ++ d ∷ [])) (omega (arith, length_push ds d))

sound_stands : (j : Job) (s : State) (d : Decl) → SoundState j s → Sound d → SoundState j (stands s d)
sound_stands j s d h sound = record {
  ready = record {
    old_names = h.ready.old_names;
    names = All-push (λ x. Word x.name) s.done d h.ready.names sound.name_fits;
    placeholder = h.ready.placeholder;
    filler = h.ready.filler;
  };
  some = some_more s.done d;
  grown = grown_push s.done d h.some h.grown sound;
  made = h.made;
  made_count = h.made_count;
  made_words = h.made_words;
}

-- a declaration whose section checks found nothing
module _ (j : Job) (s : State) (d : Decl) (h : SoundState j s) (sound : Sound d) (fine : section_fault j (length s.done) d ≡ None) (bound : Bounded j (turn j s d)) where
  pub news_bounded : Bounded j (news (decl_kind d) j s d)
  news_bounded = record { strings = bound.strings; decls = bound.decls }

  pub stand_in_sound : Sound (stand_in (decl_kind d) j s d)
  stand_in_sound =
      sound_stand_in j s d h.ready sound (decl_kind d) refl (λ e. section_passed j (length s.done) d e fine) news_bounded
      (bounded_before j s (news (decl_kind d) j s d) (later_news (decl_kind d) j s d) news_bounded)

  pub sound_turn : SoundState j (turn j s d)
  sound_turn = sound_stands j (news (decl_kind d) j s d) (stand_in (decl_kind d) j s d) (sound_news (decl_kind d) j s d h news_bounded) stand_in_sound

-- The words. Only a section that is filled gains any.
length_at : (d : Decl) (sound : Sound d) (k : BtfKind) → decl_kind d ≡ k → length (decl_words d) ≡ 3 + extra_words k + element_words k * length d.tail
length_at d sound k kind = subst (λ (x : BtfKind). length (decl_words d) ≡ 3 + extra_words x + element_words x * length d.tail) (sym sound.kind_is ∙ kind) (length_words d sound)

filled_filler : (j : Job) (s : State) (o : Option ℕ) → (with_filler j s o).filled ≡ s.filled
filled_filler j s (Some id) = refl
filled_filler j s None = refl

filled_placeholder : (j : Job) (s : State) (o : Option ℕ) → (with_placeholder j s o).filled ≡ s.filled
filled_placeholder j s (Some id) = refl
filled_placeholder j s None = refl

filled_renamed : (j : Job) (s : State) (f : ℕ → ℕ) (offset : ℕ) → (with_renamed j s f offset).filled ≡ s.filled
filled_renamed j s f offset = cond_both (changes j f offset) _ _ (λ (u : State). u.filled ≡ s.filled) (λ e. refl) (λ e. refl)

filled_params : (s : State) (index : ℕ) (tail : List (List ℕ)) → (with_params s index tail).filled ≡ s.filled
filled_params s index [] = refl
filled_params s index (ws ∷ rest) =
    filled_params (with_param s index ws) (index + 1) rest ∙ cond_both (lacks_name ws) _ _ (λ (u : State). u.filled ≡ s.filled) (λ e. refl) (λ e. refl)

module _ (j : Job) (s : State) (d : Decl) (sound : Sound d) where
  -- what stands in its place is as long as it was, but for three words of an entry
  abbrev Weighs : Decl → State → Type 0
  Weighs d' u = Sound d' → length (decl_words d') + 3 * s.filled ≡ length (decl_words d) + 3 * u.filled

  -- as long, at another kind
  weighs_as : (k k' : BtfKind) (d' : Decl) (u : State) → decl_kind d ≡ k → decl_kind d' ≡ k' →
      extra_words k + element_words k * length d.tail ≡ extra_words k' + element_words k' * length d'.tail → u.filled ≡ s.filled → Weighs d' u
  weighs_as k k' d' u kind kind' same filled sound' = omega (arith, length_at d sound k kind, length_at d' sound' k' kind')

  stays : (b : Bool) (d' : Decl) → Weighs d' s → Weighs (cond b d d') s
  stays b d' h = cond_both b d d' (λ (x : Decl). Weighs x s) (λ e sound'. refl) (λ e. h)

  few : length d.tail ≤ 65535
  few = few_elements d sound

  weighs_section : decl_kind d ≡ DataSec → Weighs (cond (fills j d) (filled_section j s d) (mended_section j s d)) (section_news j s d)
  weighs_section kind =
      let named = with_renamed j s dotted d.name in
      let as_before = filled_renamed j s dotted d.name in
      cond_both₂ (fills j d) _ _ _ _ Weighs
      (λ e sound'.
      let none = eqb-true (length d.tail) 0 (and_parts _ _ e).0 in
      let size = max (section_size j d) 1 in
      let kind' = kind_kept (renamed j s dotted d.name) DataSec 0 size 0 ((filler_id j s ∷ 0 ∷ size ∷ []) ∷ []) (omega arith) in
      omega (arith, length_at d sound DataSec kind, length_at (filled_section j s d) sound' DataSec kind', filled_filler j named named.filler))
      (λ e.
      let count = cond_both (ltb 0 d.third) _ _ (λ (l : List (List ℕ)). length l ≡ length d.tail) (λ e'. refl) (λ e'. length-map d.tail (mended_entry j)) in
      weighs_as DataSec DataSec (mended_section j s d) named kind kind (omega (arith, count)) as_before)

  weighs : (k : BtfKind) → decl_kind d ≡ k → Weighs (stand_in k j s d) (news k j s d)
  weighs Ptr kind = weighs_as Ptr Ptr (stand_in Ptr j s d) s kind kind refl refl
  weighs Var kind = stays (granted j feature.DataSec) _ (weighs_as Var Int (one_byte_int d.name) s kind refl (omega arith) refl)
  weighs DataSec kind =
      cond_both₂ (granted j feature.DataSec) _ _ _ _ Weighs (λ e. weighs_section kind)
      (λ e.
      let count = length-map d.tail (as_member j s) in
      let kind' = kind_kept (renamed j s underscored d.name) Struct 0 (spanned d.third d.tail) 0 (map (as_member j s) d.tail) (omega (arith, count, few)) in
      weighs_as DataSec Struct (as_struct j s d) (with_renamed j s underscored d.name) kind kind' (omega (arith, count)) (filled_renamed j s underscored d.name))
  weighs FuncProto kind =
      cond_both₂ (granted j feature.Func) _ _ _ _ Weighs
      (λ e. weighs_as FuncProto FuncProto (named_proto j s d) (with_params s 0 d.tail) kind kind (omega (arith, length_named j s 0 d.tail)) (filled_params s 0 d.tail))
      (λ e. weighs_as FuncProto Enum (kept d.name Enum 0 4 0 d.tail) s kind (kind_kept d.name Enum 0 4 0 d.tail few) refl refl)
  weighs Func kind =
      cond_both (granted j feature.Func) _ _ (λ (x : Decl). Weighs x s)
      (λ e. cond_both (becomes_static j d) _ _ (λ (x : Decl). Weighs x s) (λ e'. weighs_as Func Func (kept d.name Func 0 d.third 0 []) s kind refl (omega arith) refl) (λ e' sound'. refl))
      (λ e. weighs_as Func Typedef (kept d.name Typedef 0 d.third 0 []) s kind refl (omega arith) refl)
  weighs Float kind = stays (granted j feature.Float) _ (weighs_as Float Struct (kept 0 Struct 0 d.third 0 []) s kind refl (omega arith) refl)
  weighs DeclTag kind = stays (granted j feature.DeclTag) _ (weighs_as DeclTag Int (one_byte_int d.name) s kind refl (omega arith) refl)
  weighs TypeTag kind = stays (granted j feature.TypeTag) _ (weighs_as TypeTag Const (kept 0 Const 0 d.third 0 []) s kind refl (omega arith) refl)
  weighs Enum kind =
      stays (granted j feature.Enum64) _
      (cond_both (flag_of d.info) _ _ (λ (x : Decl). Weighs x s)
      (λ e. weighs_as Enum Enum (kept d.name Enum 0 d.third 0 d.tail) s kind (kind_kept d.name Enum 0 d.third 0 d.tail few) refl refl) (λ e sound'. refl))
  weighs Enum64 kind =
      let member : List ℕ → List ℕ = λ ws. get_or ws 0 0 ∷ placeholder_id j s ∷ 0 ∷ [] in
      let count = length-map d.tail member in
      let kind' = kind_kept d.name Union 0 d.third 0 (map member d.tail) (omega (arith, count, few)) in
      cond_both₂ (granted j feature.Enum64) _ _ _ _ Weighs (λ e sound'. refl)
      (λ e. weighs_as Enum64 Union (as_union j s d) (with_placeholder j s s.placeholder) kind kind' (omega (arith, count)) (filled_placeholder j s s.placeholder))
  weighs Unknown kind = λ sound'. refl
  weighs Int kind = λ sound'. refl
  weighs Array kind = λ sound'. refl
  weighs Struct kind = λ sound'. refl
  weighs Union kind = λ sound'. refl
  weighs Fwd kind = λ sound'. refl
  weighs Typedef kind = λ sound'. refl
  weighs Volatile kind = λ sound'. refl
  weighs Const kind = λ sound'. refl
  weighs Restrict kind = λ sound'. refl

-- a turn's words
words_turn : (j : Job) (s : State) (d : Decl) → SoundState j s → Sound d → section_fault j (length s.done) d ≡ None → Bounded j (turn j s d) →
    length (type_words (turn j s d).done) + 3 * s.filled ≡ length (type_words s.done) + length (decl_words d) + 3 * (turn j s d).filled
words_turn j s d h sound fine bound =
    let d' = stand_in (decl_kind d) j s d in
    omega (arith, ap (λ l. length (type_words l)) (done_turn j s d), length_pushed s.done d', weighs j s d sound (decl_kind d) refl (stand_in_sound j s d h sound fine bound))

-- All turns.
pub record Turned (j : Job) (s u : State) (ds : List Decl) : Type 0 where
  pub sound : SoundState j u
  pub words : length (type_words u.done) + 3 * s.filled ≡ length (type_words s.done) + length (type_words ds) + 3 * u.filled

pub turned : (j : Job) (s : State) (ds : List Decl) → SoundState j s → AllByRecursion Sound ds → sections_from j (length s.done) ds ≡ None → Bounded j (turns j s ds) → Turned j s (turns j s ds) ds
turned j s [] h p fine b = record { sound = h; words = omega arith }
turned j s (d ∷ ds) h p fine b =
    let next = turn j s d in
    let parts = before_none (section_fault j (length s.done) d) (sections_from j (length s.done + 1) ds) fine in
    let here = bounded_before j next (turns j next ds) (later_turns j next ds) b in
    let counts = length_turn j s d in
    let rest = turned j next ds (sound_turn j s d h p.0 parts.0 here) p.1 (subst (λ n. sections_from j n ds ≡ None) (sym counts) parts.1) b in
    record { sound = rest.sound; words = omega (arith, rest.words, words_turn j s d h p.0 parts.0 here, length-append (decl_words d) (type_words ds)) }
