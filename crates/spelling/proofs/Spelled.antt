-- Names spelled byte by byte.
use Rattle.std.proofs.Common.{◌≡◌, ℕ, ◌+◌, ◌<◌, ◌≤◌, Bool, true, false, not, ◌&&◌, ◌||◌, eqb, List, [], ◌∷◌, map, length, get_or, take, drop, set, refl, sym, ap, ◌∙◌, arith, length-drop, length-take}
use lib.ListN.{length-map}
use Rattle.std.specs.Str.{bytes_eq}
use Rattle.std.specs.List.{list_any}
use Rattle.std.proofs.lemmas.List.{at_drop_more, at_drop_all, get_or_append_left, get_or-take, get_or-drop, get_or_default, take_all}
use Rattle.std.proofs.lemmas.Bool.{eq-eqb, ne_eqb}
use Rattle.meaning.specs.Adding.{over}
use Rattle.meaning.proofs.Over.{over_map_more, over_more}
use Rattle.spelling.specs.Names.{changes, respelled}

module _ (spells : ℕ → ℕ) where
  abbrev same : List ℕ → Bool
  same l = bytes_eq (map spells l) l

  same_more : (name : List ℕ) (i : ℕ) → i < length name → same (drop i name) ≡ (eqb (spells (get_or name i 0)) (get_or name i 0) && same (drop (i + 1) name))
  same_more name i h = at_drop_more same name i 0 h

  pub changed_here : (name : List ℕ) (i b : ℕ) → changes spells name ≡ changes spells (drop i name) → i < length name → b ≡ spells (get_or name i 0) → (b ≡ get_or name i 0 → ⊥) → true ≡ changes spells name
  changed_here name i b inv h e other =
      sym (inv ∙ ap not (same_more name i h ∙ ap (λ x. x && same (drop (i + 1) name)) (ne_eqb (spells (get_or name i 0)) (get_or name i 0) (λ x. other (e ∙ x)))))

  pub same_here : (name : List ℕ) (i b : ℕ) → changes spells name ≡ changes spells (drop i name) → i < length name → b ≡ spells (get_or name i 0) → b ≡ get_or name i 0 → changes spells name ≡ changes spells (drop (i + 1) name)
  same_here name i b inv h e stays = inv ∙ ap not (same_more name i h ∙ ap (λ x. x && same (drop (i + 1) name)) (eq-eqb (spells (get_or name i 0)) (get_or name i 0) (sym e ∙ stays)))

  pub all_same : (name : List ℕ) (i : ℕ) → changes spells name ≡ changes spells (drop i name) → length name ≤ i → false ≡ changes spells name
  all_same name i inv h = sym (inv ∙ ap not (at_drop_all same name i h))

  -- what stands before the place of writing is read as it was
  before : (at k : ℕ) (new old : List ℕ) → k < at → at ≤ length old → get_or (over at new old) k 0 ≡ get_or old k 0
  before at k new old h room = get_or_append_left (take at old) _ 0 k (omega (arith, length-take at old)) ∙ get_or-take at old k 0 h

  module _ (area old : List ℕ) (at from count i : ℕ) (inv : area ≡ over at (map spells (take i (take count (drop from old)))) old) (apart : from + count ≤ at) (room : at + count < length old) where
    pub spell_more : (x : ℕ) → i < count → x ≡ spells (get_or area (from + i) 0) → set area (at + i) x ≡ over at (map spells (take (i + 1) (take count (drop from old)))) old
    spell_more x h e =
        let ys = take count (drop from old) in
        let long : length ys ≡ count = length-take count (drop from old) ∙ omega (arith, length-drop from old) in
        let read : get_or area (from + i) 0 ≡ get_or ys i 0 = ap (λ l. get_or l (from + i) 0) inv ∙ before at (from + i) _ old (omega arith) (omega arith) ∙ sym (get_or-take count (drop from old) i 0 h ∙ get_or-drop from old i 0) in
        over_map_more spells ys i (get_or ys i 0) x at area old inv (omega arith) (get_or_default ys i 0 (get_or ys i 0) (omega arith)) (e ∙ ap spells read) (omega arith)

    pub spell_all : count ≤ i → area ≡ over at (map spells (take count (drop from old))) old
    spell_all h = inv ∙ ap (λ l. over at (map spells l) old) (take_all i (take count (drop from old)) (omega (arith, length-take count (drop from old))))

  -- the zero byte behind
  pub spell_ends : (area old : List ℕ) (at from count : ℕ) → area ≡ over at (map spells (take count (drop from old))) old → from + count ≤ at → at + count < length old → set area (at + count) 0 ≡ respelled spells old at from count
  spell_ends area old at from count e apart room =
      let new = map spells (take count (drop from old)) in
      let long : length new ≡ count = length-map (take count (drop from old)) spells ∙ length-take count (drop from old) ∙ omega (arith, length-drop from old) in
      ap (λ l. set l (at + count) 0) e ∙ ap (λ n. set (over at new old) (at + n) 0) (sym long) ∙ over_more at new 0 old (omega arith)

one_more : (here rest : Bool) (later : Bool) → not rest ≡ later → not (here && rest) ≡ (not here || later)
one_more true rest later e = e
one_more false rest later e = refl

-- a spelling that changes a name changes a byte of it
pub changes-any : (spells : ℕ → ℕ) (name : List ℕ) → changes spells name ≡ list_any (λ b. not (eqb (spells b) b)) name
changes-any spells [] = refl
changes-any spells (b ∷ name) = one_more (eqb (spells b) b) _ _ (changes-any spells name)
