-- The placeholder and the filler are there, under their names.
use Rattle.std.proofs.Common.{◌≡◌, ℕ, ◌+◌, ◌<◌, List, [], ◌∷◌, ◌++◌, length, get_or, Some, None, Option, sym, refl, ap, ◌∙◌, append_assoc, arith, length-append}
use Rattle.std.specs.List.{AllByRecursion}
use Rattle.std.proofs.lemmas.List.{get_or_append_left, get_or-append-add, get_or_at, get_or_push, length_push}
use Rattle.std.proofs.lemmas.Bool.{cond_both}
use Rattle.layout.specs.declared.kind.BtfKind.{BtfKind}
use Rattle.layout.specs.declared.kind.BtfKind.TheVariants.{Unknown, Int, Ptr, Array, Struct, Union, Enum, Fwd, Typedef, Volatile, Const, Restrict, Func, FuncProto, Var, DataSec, Float, DeclTag, TypeTag, Enum64}
use Rattle.features.specs.declared.BtfFeature.TheVariants as feature
use Rattle.meaning.specs.Table.{Decl, void}
use Rattle.meaning.specs.Questions.{decl_kind, string_from}
use Rattle.rewriting.specs.Requests.{Job, granted}
use Rattle.rewriting.specs.Rules.{State, begun, next_offset, next_id, with_string, with_placeholder, with_filler, counts_filled, with_renamed, changes, dotted, underscored, one_byte_int, kept, placeholder_name, filler_type_name, filler_name, id_or, fills, with_param, with_params, lacks_name, param_name, stand_in, news, turn, turns}
use Rattle.promises.proofs.States.{Begins, begins_length, begins_more, Later, later_string, later_placeholder, later_filler, later_stands}
use Rattle.promises.proofs.Strings.{Nonzero, string_added, string_kept}

-- the strings so far
abbrev pub strings : Job → State → List ℕ
strings j s = j.bytes ++ s.added

-- a new Int of one byte under a name
pub record IntMade (j : Job) (s : State) (id : ℕ) (name : List ℕ) : Type 0 where
  pub place : ℕ
  pub id_is : id ≡ length j.decls + place
  pub within : place < length s.made
  pub offset : ℕ
  pub int : get_or s.made place void ≡ one_byte_int offset
  pub named : string_from (strings j s) offset ≡ Some name

-- a new static Var of a new Int
pub record FillerMade (j : Job) (s : State) (id : ℕ) : Type 0 where
  pub place : ℕ
  pub id_is : id ≡ length j.decls + place
  pub within : place < length s.made
  pub offset : ℕ
  pub of : ℕ
  pub var : get_or s.made place void ≡ kept offset Var 0 of 0 []
  pub named : string_from (strings j s) offset ≡ Some filler_name
  pub int : IntMade j s of filler_type_name

pub record Right (j : Job) (s : State) : Type 0 where
  pub placeholder : (id : ℕ) → s.placeholder ≡ Some id → IntMade j s id placeholder_name
  pub filler : (id : ℕ) → s.filler ≡ Some id → FillerMade j s id

-- they stay
pub strings_on : (j : Job) (s u : State) (b : Begins s.added u.added) → strings j u ≡ strings j s ++ b.0
strings_on j s u b = ap (λ l. j.bytes ++ l) b.1 ∙ sym (append_assoc j.bytes s.added b.0)

pub read_on : (j : Job) (s u : State) → Begins s.added u.added → (offset : ℕ) (name : List ℕ) → string_from (strings j s) offset ≡ Some name → string_from (strings j u) offset ≡ Some name
read_on j s u b offset name e = ap (λ l. string_from l offset) (strings_on j s u b) ∙ string_kept (strings j s) b.0 offset name e

made_on : (s u : State) → Begins s.made u.made → (place : ℕ) → place < length s.made → get_or u.made place void ≡ get_or s.made place void
made_on s u b place h = ap (λ l. get_or l place void) b.1 ∙ get_or_append_left s.made b.0 void place h

int_on : (j : Job) (s u : State) → Later s u → (id : ℕ) (name : List ℕ) → IntMade j s id name → IntMade j u id name
int_on j s u l id name m = record {
  place = m.place;
  id_is = m.id_is;
  within = omega (arith, m.within, begins_length s.made u.made l.made);
  offset = m.offset;
  int = made_on s u l.made m.place m.within ∙ m.int;
  named = read_on j s u l.added m.offset name m.named;
}

filler_on : (j : Job) (s u : State) → Later s u → (id : ℕ) → FillerMade j s id → FillerMade j u id
filler_on j s u l id m = record {
  place = m.place;
  id_is = m.id_is;
  within = omega (arith, m.within, begins_length s.made u.made l.made);
  offset = m.offset;
  of = m.of;
  var = made_on s u l.made m.place m.within ∙ m.var;
  named = read_on j s u l.added m.offset filler_name m.named;
  int = int_on j s u l m.of filler_type_name m.int;
}

right_on : (j : Job) (s u : State) → Later s u → u.placeholder ≡ s.placeholder → u.filler ≡ s.filler → Right j s → Right j u
right_on j s u l p f right = record {
  placeholder = λ id e. int_on j s u l id placeholder_name (right.placeholder id (sym p ∙ e));
  filler = λ id e. filler_on j s u l id (right.filler id (sym f ∙ e));
}

same_some : (a b : ℕ) → Some a ≡ Some b → b ≡ a
same_some a b e = cc

right_string : (j : Job) (s : State) (name : List ℕ) → Right j s → Right j (with_string s name)
right_string j s name = right_on j s (with_string s name) (later_string s name) refl refl

-- a string that is added can be read at once
pub read_added : (j : Job) (s : State) (name : List ℕ) → AllByRecursion Nonzero name → string_from (strings j (with_string s name)) (next_offset j s) ≡ Some name
read_added j s name p =
    ap (λ l. string_from l (next_offset j s)) (sym (append_assoc j.bytes s.added (name ++ 0 ∷ []))) ∙
    ap (string_from (strings j s ++ (name ++ 0 ∷ []))) (sym (length-append j.bytes s.added)) ∙
    string_added (strings j s) name [] p

all_letters : AllByRecursion Nonzero placeholder_name
all_letters = search

right_placeholder : (j : Job) (s : State) (o : Option ℕ) → s.placeholder ≡ o → Right j s → Right j (with_placeholder j s o)
right_placeholder j s (Some id) e right = right
right_placeholder j s None e right =
    let u = with_placeholder j s None in
    let int = one_byte_int (next_offset j s) in
    record {
      placeholder = λ id e'. record {
        place = length s.made;
        id_is = same_some (next_id j s) id e';
        within = omega (arith, length_push s.made int);
        offset = next_offset j s;
        int = get_or_push s.made int void (length s.made) refl;
        named = read_added j s placeholder_name all_letters;
      };
      filler = λ id e'. filler_on j s u (later_placeholder j s None e) id (right.filler id e');
    }

type_letters : AllByRecursion Nonzero filler_type_name
type_letters = search

filler_letters : AllByRecursion Nonzero filler_name
filler_letters = search

right_filler : (j : Job) (s : State) (o : Option ℕ) → s.filler ≡ o → Right j s → Right j (with_filler j s o)
right_filler j s (Some id) e right = right
right_filler j s None e right =
    let u = with_filler j s None in
    let typed = with_string s filler_type_name in
    let int = one_byte_int (next_offset j s) in
    let var = kept (next_offset j typed) Var 0 (next_id j s) 0 [] in
    let count = length-append s.made (int ∷ var ∷ []) in
    record {
      placeholder = λ id e'. int_on j s u (later_filler j s None e) id placeholder_name (right.placeholder id e');
      filler = λ id e'. record {
        place = length s.made + 1;
        id_is = omega (arith, same_some (next_id j s + 1) id e');
        within = omega (arith, count);
        offset = next_offset j typed;
        of = next_id j s;
        var = get_or-append-add s.made (int ∷ var ∷ []) 1 void;
        named = read_added j typed filler_name filler_letters;
        int = record {
          place = length s.made;
          id_is = refl;
          within = omega (arith, count);
          offset = next_offset j s;
          int = get_or_at s.made int (var ∷ []) void (length s.made) refl;
          named = read_on j typed u (begins_more typed.added (filler_name ++ 0 ∷ [])) (next_offset j s) filler_type_name (read_added j s filler_type_name type_letters);
        };
      };
    }

right_renamed : (j : Job) (s : State) (f : ℕ → ℕ) (offset : ℕ) → Right j s → Right j (with_renamed j s f offset)
right_renamed j s f offset right = cond_both (changes j f offset) _ _ (Right j) (λ e. right_string j s _ right) (λ e. right)

right_params : (j : Job) (s : State) (index : ℕ) (tail : List (List ℕ)) → Right j s → Right j (with_params s index tail)
right_params j s index [] right = right
right_params j s index (ws ∷ rest) right = right_params j (with_param s index ws) (index + 1) rest (cond_both (lacks_name ws) _ _ (Right j) (λ e. right_string j s (param_name index) right) (λ e. right))

right_filled : (j : Job) (s : State) → Right j s → Right j (counts_filled s)
right_filled j s right = record {
  placeholder = λ id e. let m = right.placeholder id e in record { place = m.place; id_is = m.id_is; within = m.within; offset = m.offset; int = m.int; named = m.named };
  filler = λ id e. let m = right.filler id e in
      let i = m.int in
      record {
        place = m.place;
        id_is = m.id_is;
        within = m.within;
        offset = m.offset;
        of = m.of;
        var = m.var;
        named = m.named;
        int = record { place = i.place; id_is = i.id_is; within = i.within; offset = i.offset; int = i.int; named = i.named };
      };
}

right_news : (k : BtfKind) (j : Job) (s : State) (d : Decl) → Right j s → Right j (news k j s d)
right_news Unknown j s d right = right
right_news Int j s d right = right
right_news Ptr j s d right = right
right_news Array j s d right = right
right_news Struct j s d right = right
right_news Union j s d right = right
right_news Enum j s d right = right
right_news Fwd j s d right = right
right_news Typedef j s d right = right
right_news Volatile j s d right = right
right_news Const j s d right = right
right_news Restrict j s d right = right
right_news Func j s d right = right
right_news FuncProto j s d right = cond_both (granted j feature.Func) _ _ (Right j) (λ g. right_params j s 0 d.tail right) (λ g. right)
right_news Var j s d right = right
right_news DataSec j s d right =
    let named = with_renamed j s dotted d.name in
    let first = right_renamed j s dotted d.name right in
    cond_both (granted j feature.DataSec) _ _ (Right j)
    (λ g. cond_both (fills j d) _ _ (Right j) (λ e. right_filled j _ (right_filler j named named.filler refl first)) (λ e. first))
    (λ g. right_renamed j s underscored d.name right)
right_news Float j s d right = right
right_news DeclTag j s d right = right
right_news TypeTag j s d right = right
right_news Enum64 j s d right = cond_both (granted j feature.Enum64) _ _ (Right j) (λ g. right) (λ g. right_placeholder j s s.placeholder refl right)

right_turn : (j : Job) (s : State) (d : Decl) → Right j s → Right j (turn j s d)
right_turn j s d right =
    let u = news (decl_kind d) j s d in
    right_on j u (turn j s d) (later_stands u (stand_in (decl_kind d) j s d)) refl refl (right_news (decl_kind d) j s d right)

pub right_turns : (j : Job) (s : State) (ds : List Decl) → Right j s → Right j (turns j s ds)
right_turns j s [] right = right
right_turns j s (d ∷ ds) right = right_turns j (turn j s d) ds (right_turn j s d right)

pub right_begun : (j : Job) → Right j begun
right_begun j = record {
  placeholder = λ id e. absurd (let z : ◌≡◌ {A = ℕ} 0 1 = cc in omega arith);
  filler = λ id e. absurd (let z : ◌≡◌ {A = ℕ} 0 1 = cc in omega arith);
}

-- which id a turn makes known
pub known_placeholder : (j : Job) (s : State) (o : Option ℕ) → s.placeholder ≡ o → (with_placeholder j s o).placeholder ≡ Some (id_or o (next_id j s))
known_placeholder j s (Some id) e = e
known_placeholder j s None e = refl

pub known_filler : (j : Job) (s : State) (o : Option ℕ) → s.filler ≡ o → (with_filler j s o).filler ≡ Some (id_or o (next_id j s + 1))
known_filler j s (Some id) e = e
known_filler j s None e = refl
