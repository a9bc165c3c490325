-- Every rule is done to every declaration.
use Rattle.std.proofs.Common.{◌≡◌, ℕ, zero, suc, ◌+◌, ◌*◌, ◌<◌, ◌≤◌, max, Bool, true, false, cond, not, ◌||◌, eqb, ltb, ◌⊎◌, List, [], ◌∷◌, map, length, get_or, take, Some, None, codes, Option, sym, refl, ap, ◌∙◌, subst, subst₂, inl, inr, arith, length-append}
use lib.ListN.{length-map}
use Rattle.std.specs.List.{AllByRecursion}
use Rattle.std.proofs.ByRecursion.{All-get_or}
use Rattle.std.proofs.lemmas.Slice.Eq.{bytes_eq-Decides}
use Rattle.std.proofs.lemmas.List.{get_or_append_left, get_or-append_right, get_or-map, get_or_past, take_at, nil_from_length}
use Rattle.std.proofs.lemmas.Bool.{cond_both, cond-true, cond-false, cases_Bool, cases_lt, ltb-true, lt-ltb, le-ltb, eqb-true, eqb-false, eq-eqb, ne_eqb, and_parts, and_from, and_cases, or_cases, or_parts, or_left, or_right, not-true, not-false, not_from_true, not_from_false, true≢false, false≢true}
use Rattle.layout.specs.declared.kind.BtfKind.{BtfKind}
use Rattle.layout.specs.declared.kind.BtfKind.TheVariants.{Unknown, Int, Ptr, Array, Struct, Union, Enum, Fwd, Typedef, Volatile, Const, Restrict, Func, FuncProto, Var, DataSec, Float, DeclTag, TypeTag, Enum64}
use Rattle.layout.specs.Kinds.{extra_words}
use Rattle.layout.specs.Info.{low_of, flag_of}
use Rattle.features.specs.declared.BtfFeature.TheVariants as feature
use Rattle.meaning.specs.Table.{Decl, Table, void, text}
use Rattle.meaning.specs.Questions.{decl_kind, decl_at, string_from}
use Rattle.rewriting.specs.Requests.{Request, Job, granted, section_number, symbol_number, or_zero}
use Rattle.rewriting.specs.Rules.{State, begun, next_offset, with_string, with_filler, counts_filled, with_placeholder, with_renamed, renamed, changes, name_at, or_empty, dotted, underscored, one_byte_int, kept, placeholder_id, filler_id, entry_id, entry_offset, entry_size, entry_end, at_this_moment, as_member, spanned, as_struct, section_size, fills, var_linkage, mended_entry, filled_section, mended_section, section_news, param_name, lacks_name, with_param, with_params, named_params, named_proto, is_builtin, becomes_static, linked_func, unsigned, as_union, stand_in, news, turn}
use Rattle.rewriting.specs.Rewriting.{Tallies, tallied, one_if_made, job, ended, with_rewritten}
use Rattle.promises.specs.Rewritten.{Shows, OneByteInt, NewInt, NewFiller, Respelled, entry_reach, BecameStruct, EntryMended, Sized, Mended, NeedsName, ParametersNamed, Builtin, MadeStatic, builtin, refused, Linked, BecameUnion, ByFeature, Rule, Rewritten}
use Rattle.promises.specs.Acts.{last_table}
use Rattle.promises.specs.Lasting.{RulesDone}
use Rattle.promises.proofs.Parts.{cond_both₂}
use Rattle.promises.proofs.Sound.{BoundedTable}
use Rattle.promises.proofs.Kept.{kind_kept, flag_kept}
use Rattle.promises.proofs.States.{Begins, begins_on, begins_same, Later, later_on, later_filler, later_params, later_stands, later_turn, length_turns}
use Rattle.promises.proofs.Passed.{Passed, when_accepted, Closed, closed_passed, EntryPassed, SectionPassed, section_passed, section_at}
use Rattle.promises.proofs.Standing.{length_named}
use Rattle.promises.proofs.Acted.{bounded_last}
use Rattle.promises.proofs.Whole.{bytes_length, all_ended}
use Rattle.promises.proofs.Alike.{text_rewritten}
use Rattle.promises.proofs.Stay.{few_at, old_at, old_in_front}
use Rattle.promises.proofs.Strings.{Nonzero, string_kept, name_nonzero, mapped_nonzero, param_nonzero}
use Rattle.promises.proofs.Made.{strings, IntMade, FillerMade, Right, right_turns, right_begun, read_on, read_added, known_placeholder, known_filler}

-- by a feature
by_feature : (b : Bool) (x y : Decl) (P Q : Decl → Type 0) → (b ≡ true → P x) → (b ≡ false → Q y) → ByFeature b (P (cond b x y)) (Q (cond b x y))
by_feature true x y P Q p q = (p, λ e. absurd (true≢false e))
by_feature false x y P Q p q = ((λ e. absurd (false≢true e)), q)

-- declarations without elements show what they were made of
shows_int : (name : ℕ) → OneByteInt (one_byte_int name) name
shows_int name = record { kind_is = refl; flag_is = refl; name_is = refl; third_is = refl; extra_is = refl; tail_is = refl }

shows_kept : (name : ℕ) (k : BtfKind) (third : ℕ) (tail : List (List ℕ)) → length tail ≤ 65535 → take (extra_words k) (kept name k 0 third 0 tail).extra ≡ [] → (kept name k 0 third 0 tail).third ≡ third →
    Shows (kept name k 0 third 0 tail) k false name third [] tail
shows_kept name k third tail few extra same = record { kind_is = kind_kept name k 0 third 0 tail few; flag_is = flag_kept name k 0 third 0 tail few; name_is = refl; third_is = same; extra_is = extra; tail_is = refl }

-- the greatest of a size and of where entries end
spanned_least : (size : ℕ) (tail : List (List ℕ)) → size ≤ spanned size tail
spanned_least size [] = omega arith
spanned_least size (ws ∷ rest) = omega (arith, spanned_least (max size (entry_end ws)) rest)

spanned_reaches : (size : ℕ) (tail : List (List ℕ)) (k : ℕ) → k < length tail → entry_end (get_or tail k []) ≤ spanned size tail
spanned_reaches size [] k h = absurd (omega arith)
spanned_reaches size (ws ∷ rest) zero h = omega (arith, spanned_least (max size (entry_end ws)) rest)
spanned_reaches size (ws ∷ rest) (suc k) h = spanned_reaches (max size (entry_end ws)) rest k (omega arith)

ReachedBy : ℕ → List (List ℕ) → ℕ → Type 0
ReachedBy size tail n = (n ≡ size) ⊎ ((k : ℕ) × (k < length tail) × (n ≡ entry_reach (get_or tail k [])))

spanned_is : (size : ℕ) (tail : List (List ℕ)) → ReachedBy size tail (spanned size tail)
unfolding ReachedBy
spanned_is size [] = inl refl
spanned_is size (ws ∷ rest) = go (spanned_is (max size (entry_end ws)) rest)
  where
    here : spanned (max size (entry_end ws)) rest ≡ max size (entry_end ws) → ReachedBy size (ws ∷ rest) (spanned (max size (entry_end ws)) rest)
    here e = elim (cases_lt size (entry_end ws)) [ inl less ↦ inr (0, omega arith, omega (arith, e)) | inr more ↦ inl (omega (arith, e)) ]

    go : ReachedBy (max size (entry_end ws)) rest (spanned (max size (entry_end ws)) rest) → ReachedBy size (ws ∷ rest) (spanned (max size (entry_end ws)) rest)
    go (inl e) = here e
    go (inr m) = inr (suc m.0, omega (arith, m.1), m.2)

-- parameters: each that needs a name gets one, which can be read in whatever strings go on from there
lacks_needs : (ws : List ℕ) → lacks_name ws ≡ true → NeedsName ws
lacks_needs ws e =
    let parts = and_parts _ _ e in
    (eqb-true (get_or ws 0 0) 0 parts.0, eqb-false (get_or ws 1 0) 0 (not-true (eqb (get_or ws 1 0) 0) parts.1))

needs_lacks : (ws : List ℕ) → NeedsName ws → lacks_name ws ≡ true
needs_lacks ws n = and_from _ _ (eq-eqb (get_or ws 0 0) 0 n.0) (not_from_false _ (ne_eqb (get_or ws 1 0) 0 n.1))

params_others : (j : Job) (s : State) (index : ℕ) (tail : List (List ℕ)) (k : ℕ) → k < length tail → lacks_name (get_or tail k []) ≡ false → get_or (named_params j s index tail) k [] ≡ get_or tail k []
params_others j s index [] k h e = absurd (omega arith)
params_others j s index (ws ∷ rest) zero h e = cond-false (lacks_name ws) _ _ e
params_others j s index (ws ∷ rest) (suc k) h e = params_others j (with_param s index ws) (index + 1) rest k (omega arith) e

pub record ParamNamed (j : Job) (u : State) (old new : List ℕ) (index : ℕ) : Type 0 where
  pub offset : ℕ
  pub words : new ≡ offset ∷ get_or old 1 0 ∷ []
  pub named : string_from (strings j u) offset ≡ Some (param_name index)

params_named : (j : Job) (s u : State) (index : ℕ) (tail : List (List ℕ)) → Begins (with_params s index tail).added u.added → index + length tail ≤ 65535 → (k : ℕ) → k < length tail → lacks_name (get_or tail k []) ≡ true →
    ParamNamed j u (get_or tail k []) (get_or (named_params j s index tail) k []) (index + k)
params_named j s u index [] b few k h e = absurd (omega arith)
params_named j s u index (ws ∷ rest) b few zero h e =
    let next = with_param s index ws in
    let is : next ≡ with_string s (param_name index) = cond-true (lacks_name ws) (with_string s (param_name index)) s e in
    let begins : Begins next.added u.added = begins_on next.added (with_params next (index + 1) rest).added u.added (later_params next (index + 1) rest).added b in
    record {
      offset = next_offset j s;
      words = cond-true (lacks_name ws) _ _ e;
      named =
          subst (λ n. string_from (strings j u) (next_offset j s) ≡ Some (param_name n)) (omega arith)
          (read_on j next u begins (next_offset j s) (param_name index) (subst (λ (v : State). string_from (strings j v) (next_offset j s) ≡ Some (param_name index)) (sym is) (read_added j s (param_name index) (param_nonzero index (omega arith)))));
    }
params_named j s u index (ws ∷ rest) b few (suc k) h e =
    subst (ParamNamed j u (get_or rest k []) (get_or (named_params j (with_param s index ws) (index + 1) rest) k [])) (omega arith)
    (params_named j (with_param s index ws) u (index + 1) rest b (omega arith) k (omega arith) e)

-- the builtins
builtin_found : (name : List ℕ) → is_builtin name ≡ true → Builtin name
builtin_found name e =
    elim (or_cases _ _ e) [
      | inl e₁ ↦
          elim (or_cases _ _ e₁) [
            | inl e₂ ↦
                elim (or_cases _ _ e₂) [
                  | inl e₃ ↦ inl ((bytes_eq-Decides name (codes "memset")).0 e₃)
                  | inr e₃ ↦ inr (inl ((bytes_eq-Decides name (codes "memcpy")).0 e₃))
                ]
            | inr e₂ ↦ inr (inr (inl ((bytes_eq-Decides name (codes "memmove")).0 e₂)))
          ]
      | inr e₁ ↦ inr (inr (inr ((bytes_eq-Decides name (codes "memcmp")).0 e₁)))
    ]

builtin_tells : (name : List ℕ) → Builtin name → is_builtin name ≡ true
builtin_tells name (inl e) = subst (λ (l : List ℕ). is_builtin l ≡ true) (sym e) refl
builtin_tells name (inr (inl e)) = subst (λ (l : List ℕ). is_builtin l ≡ true) (sym e) refl
builtin_tells name (inr (inr (inl e))) = subst (λ (l : List ℕ). is_builtin l ≡ true) (sym e) refl
builtin_tells name (inr (inr (inr e))) = subst (λ (l : List ℕ). is_builtin l ≡ true) (sym e) refl

module _ (t : Table) (q : Request) (passed : Passed t q) (sound : BoundedTable t) where
  abbrev j : Job
  j = job t q

  abbrev last : State
  last = ended (job t q)

  abbrev u : Table
  u = with_rewritten t (ended (job t q))

  -- the strings at the end
  text_is : text u ≡ strings j last
  text_is = text_rewritten t q passed

  read_last : (offset : ℕ) (name : List ℕ) → string_from (strings j last) offset ≡ Some name → string_from (text u) offset ≡ Some name
  read_last offset name e = ap (λ l. string_from l offset) text_is ∙ e

  count : length last.done ≡ length t.decls
  count = length_turns j begun t.decls ∙ omega arith

  closed_id : (id : ℕ) → id < length t.decls → Closed (text t) (length t.decls) (decl_at t.decls id)
  closed_id id h = All-get_or (Closed (text t) (length t.decls)) t.decls id void h (closed_passed (text t) t.decls passed.closed)

  -- what has a kind is there
  var_there : (id : ℕ) → decl_kind (decl_at t.decls id) ≡ Var → id < length t.decls
  var_there id kind =
      elim (cases_lt id (length t.decls)) [
        | inl there ↦ there
        | inr past ↦ absurd (let none : Unknown ≡ Var = sym (ap decl_kind (get_or_past t.decls id void past)) ∙ kind in let z : ◌≡◌ {A = ℕ} 0 1 = cc in omega arith)
      ]

  -- new declarations
  new_at : (place : ℕ) → decl_at u.decls (length t.decls + place) ≡ get_or last.made place void
  new_at place = get_or-append_right last.done last.made (length t.decls) (length t.decls + place) void count (omega arith) ∙ ap (λ n. get_or last.made n void) (omega arith)

  right : Right j last
  right = right_turns j begun t.decls (right_begun j)

  new_int : (id : ℕ) (name : List ℕ) → IntMade j last id name → NewInt t u id name
  new_int id name m =
      let at : decl_at u.decls id ≡ one_byte_int m.offset = ap (decl_at u.decls) m.id_is ∙ new_at m.place ∙ m.int in
      record {
        behind = omega (arith, m.id_is);
        there = omega (arith, m.id_is, m.within, length-append last.done last.made, count);
        offset = m.offset;
        int = subst (λ (d : Decl). OneByteInt d m.offset) (sym at) (shows_int m.offset);
        named = read_last m.offset name m.named;
      }

  new_filler : (id : ℕ) → FillerMade j last id → NewFiller t u id
  new_filler id m =
      let at : decl_at u.decls id ≡ kept m.offset Var 0 m.of 0 [] = ap (decl_at u.decls) m.id_is ∙ new_at m.place ∙ m.var in
      record {
        behind = omega (arith, m.id_is);
        there = omega (arith, m.id_is, m.within, length-append last.done last.made, count);
        offset = m.offset;
        of = m.of;
        var = subst (λ (d : Decl). Shows d Var false m.offset m.of (0 ∷ []) []) (sym at) (record { kind_is = refl; flag_is = refl; name_is = refl; third_is = refl; extra_is = refl; tail_is = refl });
        named = read_last m.offset _ m.named;
        int = new_int m.of _ m.int;
      }

  -- one old id, and the state in which its turn came
  module _ (id : ℕ) (h : id < length t.decls) (s : State) (place : length s.done ≡ id) (later : Later (turn j s (decl_at t.decls id)) last) where
    abbrev d : Decl
    d = decl_at t.decls id

    few : length d.tail ≤ 65535
    few = few_at t.decls sound.grown id

    name_is : name_at j d.name ≡ (closed_id id h).name
    name_is = ap or_empty (closed_id id h).named

    -- names with one byte in place of another
    respelled : (from to : ℕ) → 0 < to → Begins (with_renamed j s (λ b. cond (eqb b from) to b) d.name).added last.added → Respelled t u d.name (renamed j s (λ b. cond (eqb b from) to b) d.name) from to
    respelled from to some begins =
        let f : ℕ → ℕ = λ b. cond (eqb b from) to b in
        let name = (closed_id id h).name in
        let was = (closed_id id h).named in
        let whole : string_from (text u) d.name ≡ Some name = read_last d.name name (string_kept (text t) last.added d.name name was) in
        record {
          before = name;
          was = was;
          is =
              elim (cases_Bool (changes j f d.name)) [
                | inl changed ↦
                    let added : with_renamed j s f d.name ≡ with_string s (map f (name_at j d.name)) = cond-true (changes j f d.name) _ _ changed in
                    let nonzero = mapped_nonzero from to some (name_at j d.name) (subst (AllByRecursion Nonzero) (sym name_is) (name_nonzero (text t) d.name name was)) in
                    let now = subst (λ (v : State). string_from (strings j v) (next_offset j s) ≡ Some (map f (name_at j d.name))) (sym added) (read_added j s (map f (name_at j d.name)) nonzero) in
                    ap (string_from (text u)) (cond-true (changes j f d.name) (next_offset j s) d.name changed) ∙
                    read_last (next_offset j s) _ (read_on j (with_renamed j s f d.name) last begins (next_offset j s) _ now) ∙
                    ap (λ l. Some (map f l)) name_is
                | inr unchanged ↦
                    let same : map f (name_at j d.name) ≡ name_at j d.name = (bytes_eq-Decides _ _).0 (not-false _ unchanged) in
                    ap (string_from (text u)) (cond-false (changes j f d.name) (next_offset j s) d.name unchanged) ∙ whole ∙ ap Some (sym (sym (ap (map f) name_is) ∙ same ∙ name_is))
              ];
          kept = λ same.
              let old = (bytes_eq-Decides (map f (name_at j d.name)) (name_at j d.name)).1 (ap (map f) name_is ∙ same ∙ sym name_is) in
              cond-false (changes j f d.name) (next_offset j s) d.name (not_from_true _ old);
        }

    -- sections refused
    moment : (e : ℕ) → at_this_moment j s e ≡ decl_at (cond (ltb e id) u.decls t.decls) e
    moment e =
        ap (λ n. cond (ltb e n) (decl_at s.done e) (decl_at t.decls e)) place ∙
        cond_both₂ (ltb e id) (decl_at s.done e) (decl_at t.decls e) u.decls t.decls (λ (x : Decl) (l : List Decl). x ≡ decl_at l e) (λ below. lower (ltb-true e id below)) (λ above. refl)
      where
        lower : e < id → decl_at s.done e ≡ decl_at u.decls e
        lower below =
            let all = begins_on s.done (turn j s d).done last.done (later_turn j s d).done later.done in
            sym (get_or_append_left last.done last.made void e (omega (arith, count)) ∙ ap (λ l. decl_at l e) all.1 ∙ get_or_append_left s.done all.0 void e (omega (arith, place)))

    became_struct : Begins (with_renamed j s underscored d.name).added last.added → BecameStruct t u id d (as_struct j s d)
    became_struct begins =
        let tail = map (as_member j s) d.tail in
        let long = length-map d.tail (as_member j s) in
        let name = renamed j s underscored d.name in
        let size = spanned d.third d.tail in
        record {
          shows = shows_kept name Struct size tail (omega (arith, long, few)) refl refl;
          named = respelled 46 95 (omega arith) begins;
          count = long;
          members = λ k below. get_or-map (as_member j s) d.tail k [] [] below ∙ ap (λ (x : Decl). x.name ∷ entry_id (get_or d.tail k []) ∷ entry_offset (get_or d.tail k []) * 8 ∷ []) (moment (entry_id (get_or d.tail k [])));
          at_least = spanned_least d.third d.tail;
          reaches = λ k below. spanned_reaches d.third d.tail k below;
          no_more = unfold ReachedBy in spanned_is d.third d.tail;
        }

    -- sections granted
    module _ (kind : decl_kind d ≡ DataSec) (g : granted j feature.DataSec ≡ true) where
      checked : SectionPassed j d
      checked = section_passed j (0 + id) d kind (section_at j 0 t.decls passed.sections id h)

      sized : Sized q t d (section_size j d)
      sized = record {
        own = λ some. cond-true (ltb 0 d.third) _ _ (lt-ltb 0 d.third some);
        row = λ none.
            let zero' = le-ltb 0 d.third (omega arith) in
            let found = checked.row g zero' in
            let size : section_size j d ≡ found.number = cond-false (ltb 0 d.third) _ _ zero' ∙ ap or_zero found.found in
            ((closed_id id h).name, (closed_id id h).named, ap (section_number j) (sym name_is) ∙ found.found ∙ ap Some (sym size));
      }

      mended_entries : d.third ≡ 0 → (k : ℕ) → k < length d.tail → EntryMended q t (get_or d.tail k []) (mended_entry j (get_or d.tail k []))
      mended_entries none k below =
          let ws = get_or d.tail k [] in
          let var = decl_at t.decls (entry_id ws) in
          let ok = All-get_or (EntryPassed j) d.tail k [] below (checked.entries g (le-ltb 0 d.third (omega arith))) in
          record {
            var = ok.var;
            static = λ zero'. cond-true (eqb (var_linkage var) 0) _ _ (eq-eqb (var_linkage var) 0 zero');
            other = λ other.
                let not_static = ne_eqb (var_linkage var) 0 other in
                let found = ok.symbol not_static in
                let symbol = closed_id (entry_id ws) (var_there (entry_id ws) ok.var) in (
                  symbol.name,
                  found.number,
                  symbol.named,
                  ap (λ o. symbol_number j (or_empty o)) (sym symbol.named) ∙ found.found,
                  cond-false (eqb (var_linkage var) 0) _ _ not_static ∙ ap (λ o. entry_id ws ∷ or_zero o ∷ entry_size ws ∷ []) found.found,
                );
          }

      module _ (begins : Later (section_news j s d) last) where
        abbrev named : State
        named = with_renamed j s dotted d.name

        abbrev size : ℕ
        size = section_size j d

        named_first : Begins named.added last.added
        named_first =
            begins_on named.added (section_news j s d).added last.added
            (cond_both (fills j d) _ _ (λ (v : State). Begins named.added v.added) (λ e. (later_filler j named named.filler refl).added) (λ e. begins_same named.added))
            begins.added

        same_filler : filler_id j named ≡ filler_id j s
        same_filler = cond_both (changes j dotted d.name) _ _ (λ (v : State). filler_id j v ≡ filler_id j s) (λ e. refl) (λ e. refl)

        filled_by : fills j d ≡ true → NewFiller t u (filler_id j s)
        filled_by e =
            let news_is : section_news j s d ≡ counts_filled (with_filler j named named.filler) = cond-true (fills j d) _ _ e in
            let known : (section_news j s d).filler ≡ Some (filler_id j s) = ap (λ (v : State). v.filler) news_is ∙ known_filler j named named.filler refl ∙ ap Some same_filler in
            new_filler (filler_id j s) (right.filler (filler_id j s) (begins.filler (filler_id j s) known))

        -- what it means that a section is filled, or not
        fills_empty : fills j d ≡ true → length d.tail ≡ 0
        fills_empty e = eqb-true (length d.tail) 0 (and_parts _ _ e).0

        not_needed : fills j d ≡ true → 0 < size → q.grants feature.DataSecZero ≡ true → ⊥
        not_needed e some zero_granted =
            elim (or_cases _ _ (and_parts _ _ e).1) [
              | inl none ↦ omega (arith, eqb-true size 0 none)
              | inr refused' ↦ true≢false (sym zero_granted ∙ not-true _ refused')
            ]

        needed : fills j d ≡ false → length d.tail ≡ 0 → (0 < size) × (q.grants feature.DataSecZero ≡ true)
        needed e none =
            let other : (eqb size 0 || not (granted j feature.DataSecZero)) ≡ false =
            elim (and_cases _ _ e) [ inl entries ↦ absurd (true≢false (sym (eq-eqb (length d.tail) 0 none) ∙ entries)) | inr rest ↦ rest ] in
            let parts = or_parts _ _ other in
            (positive size (eqb-false size 0 parts.0), not-false _ parts.1)
          where
            positive : (n : ℕ) → (n ≡ 0 → ⊥) → 0 < n
            positive zero f = absurd (f refl)
            positive (suc n) f = omega arith

        mended_filled : fills j d ≡ true → Mended q t u d (filled_section j s d)
        mended_filled e =
            let none = fills_empty e in
            record {
              kind = kind_kept (renamed j s dotted d.name) DataSec 0 (max size 1) 0 ((filler_id j s ∷ 0 ∷ max size 1 ∷ []) ∷ []) (omega arith);
              named = respelled 47 46 (omega arith) named_first;
              size = size;
              sized = sized;
              empty = λ _. refl;
              left_empty = λ _ some zero_granted. absurd (not_needed e some zero_granted);
              filled = λ _ _. (filler_id j s, filled_by e, refl);
              entries = λ some. absurd (omega (arith, none));
              stay = λ some. absurd (omega (arith, none));
              mended = λ _ k below. absurd (omega (arith, none));
            }

        abbrev entries_now : List (List ℕ)
        entries_now = cond (ltb 0 d.third) d.tail (map (mended_entry j) d.tail)

        length_now : length entries_now ≡ length d.tail
        length_now = cond_both (ltb 0 d.third) _ _ (λ (l : List (List ℕ)). length l ≡ length d.tail) (λ e. refl) (λ e. length-map d.tail (mended_entry j))

        mended_only : fills j d ≡ false → Mended q t u d (mended_section j s d)
        mended_only e = record {
          kind = kind;
          named = respelled 47 46 (omega arith) named_first;
          size = size;
          sized = sized;
          empty = λ none. omega (arith, (needed e none).0);
          left_empty = λ none some zero_granted. nil_from_length entries_now (length_now ∙ none);
          filled = λ none why. absurd (elim why [ inl nothing ↦ omega (arith, (needed e none).0) | inr refused' ↦ true≢false (sym (needed e none).1 ∙ refused') ]);
          entries = λ some. (refl, length_now);
          stay = λ some own. cond-true (ltb 0 d.third) _ _ (lt-ltb 0 d.third own);
          mended = λ none k below.
              let is : entries_now ≡ map (mended_entry j) d.tail = cond-false (ltb 0 d.third) _ _ (le-ltb 0 d.third (omega arith)) in
              subst (EntryMended q t (get_or d.tail k [])) (sym (ap (λ l. get_or l k []) is ∙ get_or-map (mended_entry j) d.tail k [] [] below)) (mended_entries none k below);
        }

        section_mended : Mended q t u d (cond (fills j d) (filled_section j s d) (mended_section j s d))
        section_mended = cond_both (fills j d) _ _ (Mended q t u d) mended_filled mended_only

    -- functions
    parameters : Later (with_params s 0 d.tail) last → ParametersNamed u d (named_proto j s d)
    parameters begins =
        let tail = named_params j s 0 d.tail in
        record {
          same = record { info = refl; extra = refl };
          name = refl;
          third = refl;
          count = length_named j s 0 d.tail;
          others = λ k below fine. params_others j s 0 d.tail k below (otherwise (get_or d.tail k []) fine);
          named = λ k below needs.
              let one = params_named j s last 0 d.tail begins.added (omega (arith, few)) k below (needs_lacks (get_or d.tail k []) needs) in
              (one.offset, one.words, read_last one.offset _ (one.named ∙ ap (λ n. Some (param_name n)) (omega arith)));
        }
      where
        otherwise : (ws : List ℕ) → (NeedsName ws → ⊥) → lacks_name ws ≡ false
        otherwise ws fine = elim (cases_Bool (lacks_name ws)) [ inl lacks ↦ absurd (fine (lacks_needs ws lacks)) | inr has ↦ has ]

    static_tells : MadeStatic q t d → becomes_static j d ≡ true
    static_tells (builtin name global named is) =
        let same : name_at j d.name ≡ name = ap or_empty named in
        and_from _ _ (eq-eqb (low_of d.info) 1 global) (or_left _ _ (ap is_builtin same ∙ builtin_tells name is))
    static_tells (refused global no-global) = and_from _ _ (eq-eqb (low_of d.info) 1 global) (or_right _ _ (not_from_false _ no-global))

    static_found : becomes_static j d ≡ true → MadeStatic q t d
    static_found e =
        let parts = and_parts _ _ e in
        let global = eqb-true (low_of d.info) 1 parts.0 in
        elim (or_cases _ _ parts.1) [
          | inl is ↦ builtin (closed_id id h).name global (closed_id id h).named (builtin_found (closed_id id h).name (ap is_builtin (sym name_is) ∙ is))
          | inr no-global ↦ refused global (not-true _ no-global)
        ]

    linked : Linked q t d (linked_func j d)
    linked = record {
      static = λ made.
          let is : linked_func j d ≡ kept d.name Func 0 d.third 0 [] = cond-true (becomes_static j d) _ _ (static_tells made) in
          subst (λ (x : Decl). Shows x Func false d.name d.third [] [] × (low_of x.info ≡ 0)) (sym is) (shows_kept d.name Func d.third [] (omega arith) refl refl, refl);
      other = λ none. cond-false (becomes_static j d) _ _ (elim (cases_Bool (becomes_static j d)) [ inl yes' ↦ absurd (none (static_found yes')) | inr no' ↦ no' ]);
    }

    -- enums
    unsigned_shows : decl_kind d ≡ Enum → Shows (unsigned d) Enum false d.name d.third [] d.tail
    unsigned_shows kind =
        cond_both (flag_of d.info) _ _ (λ (x : Decl). Shows x Enum false d.name d.third [] d.tail)
        (λ e. shows_kept d.name Enum d.third d.tail few refl refl)
        (λ e. record { kind_is = kind; flag_is = e; name_is = refl; third_is = refl; extra_is = refl; tail_is = refl })

    became_union : Later (with_placeholder j s s.placeholder) last → BecameUnion t u d (as_union j s d)
    became_union begins =
        let member : List ℕ → List ℕ = λ ws. get_or ws 0 0 ∷ placeholder_id j s ∷ 0 ∷ [] in
        let known = known_placeholder j s s.placeholder refl in
        record {
          placeholder = placeholder_id j s;
          int = new_int (placeholder_id j s) _ (right.placeholder (placeholder_id j s) (begins.placeholder (placeholder_id j s) known));
          shows = shows_kept d.name Union d.third (map member d.tail) (omega (arith, length-map d.tail member, few)) refl refl;
        }

    -- what is new by the turn is there at the end
    after : (k : BtfKind) → decl_kind d ≡ k → Later (news k j s d) last
    after k kind = subst (λ (x : BtfKind). Later (news x j s d) last) kind (later_on (news (decl_kind d) j s d) (turn j s d) last (later_stands (news (decl_kind d) j s d) (stand_in (decl_kind d) j s d)) later)

    on_granted : (b : Bool) (x y : State) → Later (cond b x y) last → b ≡ true → Later x last
    on_granted b x y l e = subst (λ (v : State). Later v last) (cond-true b x y e) l

    on_refused : (b : Bool) (x y : State) → Later (cond b x y) last → b ≡ false → Later y last
    on_refused b x y l e = subst (λ (v : State). Later v last) (cond-false b x y e) l

    rule : (k : BtfKind) → decl_kind d ≡ k → Rule k q t u id d (stand_in k j s d)
    rule Unknown kind = refl
    rule Int kind = refl
    rule Ptr kind = (record { info = refl; extra = refl }, refl, refl, refl)
    rule Array kind = refl
    rule Struct kind = refl
    rule Union kind = refl
    rule Enum kind = by_feature (granted j feature.Enum64) _ _ (λ (x : Decl). x ≡ d) (λ (x : Decl). Shows x Enum false d.name d.third [] d.tail) (λ g. refl) (λ g. unsigned_shows kind)
    rule Fwd kind = refl
    rule Typedef kind = refl
    rule Volatile kind = refl
    rule Const kind = refl
    rule Restrict kind = refl
    rule Func kind =
        by_feature (granted j feature.Func) _ _ (λ (x : Decl). Linked q t d x) (λ (x : Decl). Shows x Typedef false d.name d.third [] [])
        (λ g. linked) (λ g. shows_kept d.name Typedef d.third [] (omega arith) refl refl)
    rule FuncProto kind =
        by_feature (granted j feature.Func) _ _ (λ (x : Decl). ParametersNamed u d x) (λ (x : Decl). Shows x Enum false d.name 4 [] d.tail)
        (λ g. parameters (on_granted (granted j feature.Func) _ _ (after FuncProto kind) g)) (λ g. shows_kept d.name Enum 4 d.tail few refl refl)
    rule Var kind = by_feature (granted j feature.DataSec) _ _ (λ (x : Decl). x ≡ d) (λ (x : Decl). OneByteInt x d.name) (λ g. refl) (λ g. shows_int d.name)
    rule DataSec kind =
        by_feature (granted j feature.DataSec) _ _ (λ (x : Decl). Mended q t u d x) (λ (x : Decl). BecameStruct t u id d x)
        (λ g. section_mended kind g (on_granted (granted j feature.DataSec) _ _ (after DataSec kind) g)) (λ g. became_struct (on_refused (granted j feature.DataSec) _ _ (after DataSec kind) g).added)
    rule Float kind = by_feature (granted j feature.Float) _ _ (λ (x : Decl). x ≡ d) (λ (x : Decl). Shows x Struct false 0 d.third [] []) (λ g. refl) (λ g. shows_kept 0 Struct d.third [] (omega arith) refl refl)
    rule DeclTag kind = by_feature (granted j feature.DeclTag) _ _ (λ (x : Decl). x ≡ d) (λ (x : Decl). OneByteInt x d.name) (λ g. refl) (λ g. shows_int d.name)
    rule TypeTag kind = by_feature (granted j feature.TypeTag) _ _ (λ (x : Decl). x ≡ d) (λ (x : Decl). Shows x Const false 0 d.third [] []) (λ g. refl) (λ g. shows_kept 0 Const d.third [] (omega arith) refl refl)
    rule Enum64 kind = by_feature (granted j feature.Enum64) _ _ (λ (x : Decl). x ≡ d) (λ (x : Decl). BecameUnion t u d x) (λ g. refl) (λ g. became_union (on_refused (granted j feature.Enum64) _ _ (after Enum64 kind) g))

  -- at most one placeholder and one filler pair
  at_most_one : (o : Option ℕ) → one_if_made o ≤ 1
  at_most_one (Some id) = omega arith
  at_most_one None = omega arith

  rewritten : Rewritten q t u (tallied last)
  rewritten =
      let all = all_ended t q sound passed in
      record {
        rules = λ id h.
            let at = old_at t q id h in
            let d = decl_at t.decls id in
            subst (Rule (decl_kind d) q t u id d) (sym (old_in_front t q id h ∙ at.stands)) (rule id h at.state at.place at.later (decl_kind d) refl);
        strings_stay = ap (take t.strings) text_is ∙ take_at (text t) last.added t.strings (bytes_length t passed.held);
        strings_added = refl;
        decls_made = omega (arith, length-append last.done last.made, count, all.sound.made_count);
        one_placeholder = at_most_one last.placeholder;
        one_filler = at_most_one last.filler;
      }

pub rules_done : RulesDone
rules_done history q n e =
    let t = last_table history in
    let sound : BoundedTable t = bounded_last history in
    let is = when_accepted t q n e in
    subst₂ (λ (v : Table) (m : Tallies). Rewritten q t v m) (sym is.later_is) (sym is.tallies) (rewritten t q is.passed sound)
