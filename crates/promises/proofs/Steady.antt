-- Walks over data kinds stay as they are.
use Rattle.std.proofs.Common.{◌≡◌, ℕ, zero, suc, ◌+◌, ◌*◌, ◌<◌, ◌≤◌, true, cond, eqb, ltb, leb, List, [], ◌∷◌, length, get_or, Some, None, Option, sym, refl, ap, ◌∙◌, subst, arith}
use Rattle.std.specs.List.{AllByRecursion}
use Rattle.std.proofs.lemmas.Bool.{cond_both, cond-true, lt-ltb}
use Rattle.layout.specs.declared.kind.BtfKind.{BtfKind}
use Rattle.layout.specs.declared.kind.BtfKind.TheVariants.{Unknown, Int, Ptr, Array, Struct, Union, Enum, Fwd, Typedef, Volatile, Const, Restrict, Func, FuncProto, Var, DataSec, Float, DeclTag, TypeTag, Enum64}
use Rattle.layout.specs.Kinds.{kind_number, third_word}
use Rattle.layout.specs.Refusals.{Refusal, accepted, refused, refusal}
use Rattle.meaning.specs.Table.{Decl}
use Rattle.meaning.specs.Questions.{decl_kind, decl_at, Move, onward, ends, stuck, moved, walk, follows, resolving, sizing, greatest_word, product, size_step, measuring}
use Rattle.rewriting.specs.Closed.{own_ids, third_ids}
use Rattle.promises.specs.Kinds.{data_kind, read_on, reads}

abbrev pub Data : Decl → Type 0
Data d = data_kind (decl_kind d) ≡ true

-- a walk does the same at both declarations
pub record SameWalk (d d' : Decl) : Type 0 where
  pub data_still : Data d'
  pub resolves : (id : ℕ) → resolving tt id d' ≡ resolving tt id d
  pub measures : (width count id : ℕ) → measuring width count id d' ≡ measuring width count id d

pub same_walk : (d : Decl) → Data d → SameWalk d d
same_walk d h = record { data_still = h; resolves = λ id. refl; measures = λ width count id. refl }

-- declarations of data kinds are walked as before
pub record Keeps (ds es : List Decl) : Type 0 where
  pub longer : length ds ≤ length es
  pub walked : (id : ℕ) → id < length ds → Data (decl_at ds id) → SameWalk (decl_at ds id) (decl_at es id)

pub keeps_same : (ds : List Decl) → Keeps ds ds
keeps_same ds = record { longer = omega arith; walked = λ id h p. same_walk (decl_at ds id) p }

pub keeps_on : (ds es fs : List Decl) → Keeps ds es → Keeps es fs → Keeps ds fs
keeps_on ds es fs a b = record {
  longer = omega (arith, a.longer, b.longer);
  walked = λ id h p.
      let first = a.walked id h p in
      let then = b.walked id (omega (arith, a.longer)) first.data_still in
      record {
        data_still = then.data_still;
        resolves = λ i. then.resolves i ∙ first.resolves i;
        measures = λ width count i. then.measures width count i ∙ first.measures width count i;
      };
}

module _ {S X : Type 0} (look : S → ℕ → Decl → Move S X) (ds es : List Decl) (longer : length ds ≤ length es)
    (same : (id : ℕ) → id < length ds → Data (decl_at ds id) → (s : S) → look s id (decl_at es id) ≡ look s id (decl_at ds id))
    (closed : (id : ℕ) → id < length ds → Data (decl_at ds id) → (s : S) (next : ℕ) (s' : S) → look s id (decl_at ds id) ≡ onward next s' → next < length ds) (asked : ℕ) where
  reads_here : (left : ℕ) (s : S) (id : ℕ) → id < length ds → reads look (suc left) ds s id ≡ decl_at ds id ∷ read_on (look s id (decl_at ds id)) (λ next s'. reads look left ds s' next)
  unfolding reads
  reads_here left s id h = cond-true (ltb id (length ds)) _ _ (lt-ltb id (length ds) h)

  walk_here : (fs : List Decl) (left : ℕ) (holder : Option ℕ) (s : S) (id links : ℕ) → id < length fs →
      walk look (suc left) fs asked holder s id links ≡ moved (look s id (decl_at fs id)) (λ next s'. walk look left fs asked (Some id) s' next (links + 1)) (λ x. accepted (x, links))
  unfolding walk
  walk_here fs left holder s id links h = cond-true (ltb id (length fs)) _ _ (lt-ltb id (length fs) h)

  walk_over : (fs : List Decl) (holder : Option ℕ) (s : S) (id links : ℕ) → walk look zero fs asked holder s id links ≡ refused (refusal 10 (Some asked) None None)
  unfolding walk
  walk_over fs holder s id links = refl

  -- on to the next declaration, if any
  goes : (left id links : ℕ) (m : Move S X) →
      ((next : ℕ) (s' : S) → m ≡ onward next s' → AllByRecursion Data (reads look left ds s' next) → walk look left es asked (Some id) s' next (links + 1) ≡ walk look left ds asked (Some id) s' next (links + 1)) →
      AllByRecursion Data (read_on m (λ next s'. reads look left ds s' next)) →
      moved m (λ next s'. walk look left es asked (Some id) s' next (links + 1)) (λ x. accepted (x, links)) ≡ moved m (λ next s'. walk look left ds asked (Some id) s' next (links + 1)) (λ x. accepted (x, links))
  goes left id links (onward next s') rest p = rest next s' refl p
  goes left id links (ends x) rest p = refl
  goes left id links (stuck r) rest p = refl

  pub walk_steady : (left : ℕ) (holder : Option ℕ) (s : S) (id links : ℕ) → id < length ds → AllByRecursion Data (reads look left ds s id) →
      walk look left es asked holder s id links ≡ walk look left ds asked holder s id links
  walk_steady zero holder s id links h p = walk_over es holder s id links ∙ sym (walk_over ds holder s id links)
  walk_steady (suc left) holder s id links h p =
      let here = subst (AllByRecursion Data) (reads_here left s id h) p in
      walk_here es left holder s id links (omega (arith, longer)) ∙
      ap (λ m. moved m (λ next s'. walk look left es asked (Some id) s' next (links + 1)) (λ x. accepted (x, links))) (same id h here.0 s) ∙
      goes left id links (look s id (decl_at ds id)) (λ next s' e q. walk_steady left (Some id) s' next (links + 1) (closed id h here.0 s next s' e) q) here.1 ∙
      sym (walk_here ds left holder s id links h)

-- Where a walk goes, closed tables have a declaration.
abbrev ids_at : BtfKind → Decl → List ℕ
ids_at k d = cond (eqb (kind_number k) 3) (get_or d.extra 0 0 ∷ get_or d.extra 1 0 ∷ []) (third_ids (third_word k) d)

onward_to : {S X : Type 0} (a b : ℕ) (s s' : S) → ◌≡◌ {A = Move S X} (onward a s) (onward b s') → a ≡ b
onward_to a b s s' e = cc

no_end : {S X : Type 0} (x : X) (b : ℕ) (s : S) → ◌≡◌ {A = Move S X} (ends x) (onward b s) → ⊥
no_end x b s e = let z : ◌≡◌ {A = ℕ} 0 1 = cc in omega arith

no_fault : {S X : Type 0} (r : Refusal) (b : ℕ) (s : S) → ◌≡◌ {A = Move S X} (stuck r) (onward b s) → ⊥
no_fault r b s e = let z : ◌≡◌ {A = ℕ} 0 1 = cc in omega arith

module _ (d : Decl) (bound id next : ℕ) where
  resolving_at : (k : BtfKind) (s : Unit {0}) → AllByRecursion (λ n. n < bound) (ids_at k d) → ◌≡◌ {A = Move (Unit {0}) ℕ} (cond (follows k) (onward d.third tt) (ends id)) (onward next s) → next < bound
  resolving_at Unknown s p e = absurd (no_end id next s e)
  resolving_at Int s p e = absurd (no_end id next s e)
  resolving_at Ptr s p e = absurd (no_end id next s e)
  resolving_at Array s p e = absurd (no_end id next s e)
  resolving_at Struct s p e = absurd (no_end id next s e)
  resolving_at Union s p e = absurd (no_end id next s e)
  resolving_at Enum s p e = absurd (no_end id next s e)
  resolving_at Fwd s p e = absurd (no_end id next s e)
  resolving_at Typedef s p e = omega (arith, p.0, onward_to d.third next tt s e)
  resolving_at Volatile s p e = omega (arith, p.0, onward_to d.third next tt s e)
  resolving_at Const s p e = omega (arith, p.0, onward_to d.third next tt s e)
  resolving_at Restrict s p e = omega (arith, p.0, onward_to d.third next tt s e)
  resolving_at Func s p e = absurd (no_end id next s e)
  resolving_at FuncProto s p e = absurd (no_end id next s e)
  resolving_at Var s p e = absurd (no_end id next s e)
  resolving_at DataSec s p e = absurd (no_end id next s e)
  resolving_at Float s p e = absurd (no_end id next s e)
  resolving_at DeclTag s p e = absurd (no_end id next s e)
  resolving_at TypeTag s p e = omega (arith, p.0, onward_to d.third next tt s e)
  resolving_at Enum64 s p e = absurd (no_end id next s e)

  pub resolving_closed : (s : Unit {0}) → AllByRecursion (λ n. n < bound) (own_ids d) → resolving tt id d ≡ onward next s → next < bound
  resolving_closed = resolving_at (decl_kind d)

  repeats_to : (n count : ℕ) → get_or d.extra 0 0 < bound → ◌≡◌ {A = Move ℕ ℕ} (product id n (λ m. onward (get_or d.extra 0 0) m)) (onward next count) → next < bound
  repeats_to n count p =
      cond_both (leb n greatest_word) _ _ (λ (m : Move ℕ ℕ). m ≡ onward next count → next < bound)
      (λ h e. omega (arith, onward_to (get_or d.extra 0 0) next n count e)) (λ h e. absurd (no_fault _ next count e))

  ends_with : (n count : ℕ) → ◌≡◌ {A = Move ℕ ℕ} (product id n (λ m. ends m)) (onward next count) → next < bound
  ends_with n count =
      cond_both (leb n greatest_word) _ _ (λ (m : Move ℕ ℕ). m ≡ onward next count → next < bound)
      (λ h e. absurd (no_end n next count e)) (λ h e. absurd (no_fault _ next count e))

  measuring_at : (k : BtfKind) (width count count' : ℕ) → AllByRecursion (λ n. n < bound) (ids_at k d) → size_step (sizing k) width count id d ≡ onward next count' → next < bound
  measuring_at Unknown width count count' p e = absurd (no_fault _ next count' e)
  measuring_at Int width count count' p e = ends_with (d.third * count) count' e
  measuring_at Ptr width count count' p e = ends_with (width * count) count' e
  measuring_at Array width count count' p e = repeats_to (count * get_or d.extra 2 0) count' p.0 e
  measuring_at Struct width count count' p e = ends_with (d.third * count) count' e
  measuring_at Union width count count' p e = ends_with (d.third * count) count' e
  measuring_at Enum width count count' p e = ends_with (d.third * count) count' e
  measuring_at Fwd width count count' p e = absurd (no_fault _ next count' e)
  measuring_at Typedef width count count' p e = omega (arith, p.0, onward_to d.third next count count' e)
  measuring_at Volatile width count count' p e = omega (arith, p.0, onward_to d.third next count count' e)
  measuring_at Const width count count' p e = omega (arith, p.0, onward_to d.third next count count' e)
  measuring_at Restrict width count count' p e = omega (arith, p.0, onward_to d.third next count count' e)
  measuring_at Func width count count' p e = absurd (no_fault _ next count' e)
  measuring_at FuncProto width count count' p e = absurd (no_fault _ next count' e)
  measuring_at Var width count count' p e = omega (arith, p.0, onward_to d.third next count count' e)
  measuring_at DataSec width count count' p e = ends_with (d.third * count) count' e
  measuring_at Float width count count' p e = ends_with (d.third * count) count' e
  measuring_at DeclTag width count count' p e = omega (arith, p.0, onward_to d.third next count count' e)
  measuring_at TypeTag width count count' p e = omega (arith, p.0, onward_to d.third next count count' e)
  measuring_at Enum64 width count count' p e = ends_with (d.third * count) count' e

  pub measuring_closed : (width count count' : ℕ) → AllByRecursion (λ n. n < bound) (own_ids d) → measuring width count id d ≡ onward next count' → next < bound
  measuring_closed = measuring_at (decl_kind d)
