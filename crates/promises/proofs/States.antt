-- How the state of a rewriting grows from turn to turn.
use Rattle.std.proofs.Common.{◌≡◌, ℕ, ◌+◌, ◌≤◌, List, [], ◌∷◌, ◌++◌, map, length, Some, None, Option, sym, refl, ap, ◌∙◌, append_assoc, arith, length-append}
use Rattle.std.proofs.lemmas.List.{append-nil, length_push}
use Rattle.std.proofs.lemmas.Bool.{cond_both}
use Rattle.layout.specs.declared.kind.BtfKind.{BtfKind}
use Rattle.layout.specs.declared.kind.BtfKind.TheVariants.{Unknown, Int, Ptr, Array, Struct, Union, Enum, Fwd, Typedef, Volatile, Const, Restrict, Func, FuncProto, Var, DataSec, Float, DeclTag, TypeTag, Enum64}
use Rattle.features.specs.declared.BtfFeature.TheVariants as feature
use Rattle.meaning.specs.Table.{Decl}
use Rattle.meaning.specs.Questions.{decl_kind}
use Rattle.rewriting.specs.Requests.{Job, granted}
use Rattle.rewriting.specs.Rules.{State, with_string, with_placeholder, with_filler, counts_filled, with_renamed, changes, name_at, dotted, underscored, fills, section_news, with_param, with_params, lacks_name, param_name, news, stand_in, stands, turn, turns}

-- one list goes on another
abbrev pub Begins : {X : Type 0} → List X → List X → Type 0
Begins {X} xs ys = (more : List X) × (ys ≡ xs ++ more)

pub begins_same : {X : Type 0} (xs : List X) → Begins xs xs
begins_same xs = ([], sym (append-nil xs))

pub begins_more : {X : Type 0} (xs more : List X) → Begins xs (xs ++ more)
begins_more xs more = (more, refl)

pub begins_on : {X : Type 0} (xs ys zs : List X) → Begins xs ys → Begins ys zs → Begins xs zs
begins_on xs ys zs b c = (b.0 ++ c.0, c.1 ∙ ap (λ l. l ++ c.0) b.1 ∙ append_assoc xs b.0 c.0)

pub begins_length : {X : Type 0} (xs ys : List X) → Begins xs ys → length xs ≤ length ys
begins_length xs ys b = omega (arith, ap length b.1, length-append xs b.0)

-- what was made stays
abbrev pub Stays : Option ℕ → Option ℕ → Type 0
Stays a b = (id : ℕ) → a ≡ Some id → b ≡ Some id

-- a state with more declarations, strings and declarations in their place
pub record Later (s u : State) : Type 0 where
  pub done : Begins s.done u.done
  pub made : Begins s.made u.made
  pub added : Begins s.added u.added
  pub placeholder : Stays s.placeholder u.placeholder
  pub filler : Stays s.filler u.filler

pub later_same : (s : State) → Later s s
later_same s = record { done = begins_same s.done; made = begins_same s.made; added = begins_same s.added; placeholder = λ id e. e; filler = λ id e. e }

pub later_on : (s u v : State) → Later s u → Later u v → Later s v
later_on s u v a b = record {
  done = begins_on s.done u.done v.done a.done b.done;
  made = begins_on s.made u.made v.made a.made b.made;
  added = begins_on s.added u.added v.added a.added b.added;
  placeholder = λ id e. b.placeholder id (a.placeholder id e);
  filler = λ id e. b.filler id (a.filler id e);
}

pub later_string : (s : State) (name : List ℕ) → Later s (with_string s name)
later_string s name = record { done = begins_same s.done; made = begins_same s.made; added = begins_more s.added (name ++ 0 ∷ []); placeholder = λ id e. e; filler = λ id e. e }

none_stays : (a b : Option ℕ) → a ≡ None → Stays a b
none_stays (Some id) b e id' e' = absurd (let z : ◌≡◌ {A = ℕ} 0 1 = cc in omega arith)
none_stays None b e id' e' = absurd (let z : ◌≡◌ {A = ℕ} 0 1 = cc in omega arith)

pub later_placeholder : (j : Job) (s : State) (o : Option ℕ) → s.placeholder ≡ o → Later s (with_placeholder j s o)
later_placeholder j s (Some id) e = later_same s
later_placeholder j s None e = record { done = begins_same s.done; made = begins_more s.made _; added = begins_more s.added _; placeholder = none_stays s.placeholder _ e; filler = λ id e'. e' }

pub later_filler : (j : Job) (s : State) (o : Option ℕ) → s.filler ≡ o → Later s (with_filler j s o)
later_filler j s (Some id) e = later_same s
later_filler j s None e =
    record {
      done = begins_same s.done;
      made = begins_more s.made _;
      added = begins_on s.added _ _ (begins_more s.added _) (begins_more _ _);
      placeholder = λ id e'. e';
      filler = none_stays s.filler _ e;
    }

pub later_renamed : (j : Job) (s : State) (f : ℕ → ℕ) (offset : ℕ) → Later s (with_renamed j s f offset)
later_renamed j s f offset = cond_both (changes j f offset) _ _ (Later s) (λ e. later_string s (map f (name_at j offset))) (λ e. later_same s)

later_filled : (s : State) → Later s (counts_filled s)
later_filled s = record { done = begins_same s.done; made = begins_same s.made; added = begins_same s.added; placeholder = λ id e. e; filler = λ id e. e }

pub later_section : (j : Job) (s : State) (d : Decl) → Later s (section_news j s d)
later_section j s d =
    let named = with_renamed j s dotted d.name in
    let first = later_renamed j s dotted d.name in
    cond_both (fills j d) _ _ (Later s)
    (λ e. later_on s named _ first (later_on named (with_filler j named named.filler) _ (later_filler j named named.filler refl) (later_filled (with_filler j named named.filler))))
    (λ e. first)

pub later_param : (s : State) (index : ℕ) (ws : List ℕ) → Later s (with_param s index ws)
later_param s index ws = cond_both (lacks_name ws) _ _ (Later s) (λ e. later_string s (param_name index)) (λ e. later_same s)

pub later_params : (s : State) (index : ℕ) (tail : List (List ℕ)) → Later s (with_params s index tail)
later_params s index [] = later_same s
later_params s index (ws ∷ rest) = later_on s (with_param s index ws) _ (later_param s index ws) (later_params (with_param s index ws) (index + 1) rest)

pub later_news : (k : BtfKind) (j : Job) (s : State) (d : Decl) → Later s (news k j s d)
later_news DataSec j s d = cond_both (granted j feature.DataSec) _ _ (Later s) (λ e. later_section j s d) (λ e. later_renamed j s underscored d.name)
later_news FuncProto j s d = cond_both (granted j feature.Func) _ _ (Later s) (λ e. later_params s 0 d.tail) (λ e. later_same s)
later_news Enum64 j s d = cond_both (granted j feature.Enum64) _ _ (Later s) (λ e. later_same s) (λ e. later_placeholder j s s.placeholder refl)
later_news Unknown j s d = later_same s
later_news Int j s d = later_same s
later_news Ptr j s d = later_same s
later_news Array j s d = later_same s
later_news Struct j s d = later_same s
later_news Union j s d = later_same s
later_news Enum j s d = later_same s
later_news Fwd j s d = later_same s
later_news Typedef j s d = later_same s
later_news Volatile j s d = later_same s
later_news Const j s d = later_same s
later_news Restrict j s d = later_same s
later_news Func j s d = later_same s
later_news Var j s d = later_same s
later_news Float j s d = later_same s
later_news DeclTag j s d = later_same s
later_news TypeTag j s d = later_same s

-- news put nothing in its place
done_filler : (j : Job) (s : State) (o : Option ℕ) → (with_filler j s o).done ≡ s.done
done_filler j s (Some id) = refl
done_filler j s None = refl

done_placeholder : (j : Job) (s : State) (o : Option ℕ) → (with_placeholder j s o).done ≡ s.done
done_placeholder j s (Some id) = refl
done_placeholder j s None = refl

done_renamed : (j : Job) (s : State) (f : ℕ → ℕ) (offset : ℕ) → (with_renamed j s f offset).done ≡ s.done
done_renamed j s f offset = cond_both (changes j f offset) _ _ (λ (u : State). u.done ≡ s.done) (λ e. refl) (λ e. refl)

done_params : (s : State) (index : ℕ) (tail : List (List ℕ)) → (with_params s index tail).done ≡ s.done
done_params s index [] = refl
done_params s index (ws ∷ rest) =
    done_params (with_param s index ws) (index + 1) rest ∙ cond_both (lacks_name ws) _ _ (λ (u : State). u.done ≡ s.done) (λ e. refl) (λ e. refl)

pub done_news : (k : BtfKind) (j : Job) (s : State) (d : Decl) → (news k j s d).done ≡ s.done
done_news DataSec j s d =
    let named = with_renamed j s dotted d.name in
    cond_both (granted j feature.DataSec) _ _ (λ (u : State). u.done ≡ s.done)
    (λ e. cond_both (fills j d) _ _ (λ (u : State). u.done ≡ s.done)
    (λ e'. done_filler j named named.filler ∙ done_renamed j s dotted d.name) (λ e'. done_renamed j s dotted d.name))
    (λ e. done_renamed j s underscored d.name)
done_news FuncProto j s d = cond_both (granted j feature.Func) _ _ (λ (u : State). u.done ≡ s.done) (λ e. done_params s 0 d.tail) (λ e. refl)
done_news Enum64 j s d = cond_both (granted j feature.Enum64) _ _ (λ (u : State). u.done ≡ s.done) (λ e. refl) (λ e. done_placeholder j s s.placeholder)
done_news Unknown j s d = refl
done_news Int j s d = refl
done_news Ptr j s d = refl
done_news Array j s d = refl
done_news Struct j s d = refl
done_news Union j s d = refl
done_news Enum j s d = refl
done_news Fwd j s d = refl
done_news Typedef j s d = refl
done_news Volatile j s d = refl
done_news Const j s d = refl
done_news Restrict j s d = refl
done_news Func j s d = refl
done_news Var j s d = refl
done_news Float j s d = refl
done_news DeclTag j s d = refl
done_news TypeTag j s d = refl

pub done_turn : (j : Job) (s : State) (d : Decl) → (turn j s d).done ≡ s.done ++ stand_in (decl_kind d) j s d ∷ []
done_turn j s d = ap (λ l. l ++ stand_in (decl_kind d) j s d ∷ []) (done_news (decl_kind d) j s d)

pub length_turn : (j : Job) (s : State) (d : Decl) → length (turn j s d).done ≡ length s.done + 1
length_turn j s d = ap length (done_turn j s d) ∙ length_push s.done (stand_in (decl_kind d) j s d)

pub later_stands : (s : State) (d : Decl) → Later s (stands s d)
later_stands s d = record { done = begins_more s.done (d ∷ []); made = begins_same s.made; added = begins_same s.added; placeholder = λ id e. e; filler = λ id e. e }

pub later_turn : (j : Job) (s : State) (d : Decl) → Later s (turn j s d)
later_turn j s d = later_on s (news (decl_kind d) j s d) _ (later_news (decl_kind d) j s d) (later_stands (news (decl_kind d) j s d) (stand_in (decl_kind d) j s d))

pub later_turns : (j : Job) (s : State) (ds : List Decl) → Later s (turns j s ds)
later_turns j s [] = later_same s
later_turns j s (d ∷ ds) = later_on s (turn j s d) _ (later_turn j s d) (later_turns j (turn j s d) ds)

pub length_turns : (j : Job) (s : State) (ds : List Decl) → length (turns j s ds).done ≡ length s.done + length ds
length_turns j s [] = omega arith
length_turns j s (d ∷ ds) = omega (arith, length_turns j (turn j s d) ds, length_turn j s d)
