-- Equal words come from equal declarations: the second word of each tells how many words it has.
use Rattle.std.proofs.Common.{◌≡◌, ℕ, List, [], ◌∷◌, ◌++◌, length, get_or, take, drop, sym, refl, ap, ◌∙◌, arith, length-append}
use Rattle.std.specs.List.{flat_map, AllByRecursion}
use Rattle.std.proofs.lemmas.List.{take-append-drop}
use Rattle.layout.specs.Info.{kind_of}
use Rattle.layout.specs.Kinds.{extra_words, element_words}
use Rattle.meaning.specs.Table.{Decl}
use Rattle.meaning.specs.File.{decl_words, type_words}
use Rattle.promises.proofs.Parts.{same_parts, same_joined}
use Rattle.promises.proofs.Sound.{Sound}
use Rattle.promises.proofs.Words.{words_are, length_extra, length_words}

module _ (d e : Decl) (s : Sound d) (r : Sound e) where
  same_infos : (ws vs : List ℕ) → decl_words d ++ ws ≡ decl_words e ++ vs → d.info ≡ e.info
  same_infos ws vs w =
      let at : List ℕ → ℕ = λ l. get_or l 1 0 in
      ap (λ l. at (l ++ ws)) (sym (words_are d s)) ∙ ap at w ∙ ap (λ l. at (l ++ vs)) (words_are e r)

  -- the info words tell the kinds and the counts, and with them the lengths
  module _ (same : d.info ≡ e.info) where
    same_kinds : s.kind ≡ r.kind
    same_kinds = sym s.kind_is ∙ ap kind_of same ∙ r.kind_is

    same_counts : length d.tail ≡ length e.tail
    same_counts = let k = same_kinds in cc

    same_lengths : length (decl_words d) ≡ length (decl_words e)
    same_lengths = let k = same_kinds in let c = same_counts in cc (length_words d s, length_words e r)

    same_extras : take (extra_words s.kind) d.extra ≡ take (extra_words r.kind) e.extra → d.extra ≡ e.extra
    same_extras t =
        let k = same_kinds in
        let back : drop (extra_words s.kind) d.extra ≡ drop (extra_words r.kind) e.extra = cc in
        cc (take-append-drop (extra_words s.kind) d.extra, take-append-drop (extra_words r.kind) e.extra)

    same_tails : flat_map (λ ws. ws) d.tail ≡ flat_map (λ ws. ws) e.tail → d.tail ≡ e.tail
    same_tails t =
        let n = element_words s.kind in
        same_joined (λ ws. ws) n (λ ws. length ws ≡ n) (λ ws p. p) (λ ws vs p q w. w) d.tail e.tail s.widths (rw same_kinds r.widths) same_counts t

  -- what stands behind the words is equal too
  pub same_decl : (ws vs : List ℕ) → decl_words d ++ ws ≡ decl_words e ++ vs → (d ≡ e) × (ws ≡ vs)
  same_decl ws vs w =
      let i = same_infos ws vs w in
      let parts = same_parts (decl_words d) (decl_words e) ws vs (same_lengths i) w in
      let words = sym (words_are d s) ∙ parts.0 ∙ words_are e r in
      let names : d.name ≡ e.name = cc in
      let thirds : d.third ≡ e.third = cc in
      let rests : take (extra_words s.kind) d.extra ++ flat_map (λ ws. ws) d.tail ≡ take (extra_words r.kind) e.extra ++ flat_map (λ ws. ws) e.tail = cc in
      let fronts : length (take (extra_words s.kind) d.extra) ≡ length (take (extra_words r.kind) e.extra) = cc (length_extra d s, length_extra e r, same_kinds i) in
      let behind = same_parts (take (extra_words s.kind) d.extra) (take (extra_words r.kind) e.extra) (flat_map (λ ws. ws) d.tail) (flat_map (λ ws. ws) e.tail) fronts rests in
      let extras = same_extras i behind.0 in
      let tails = same_tails i behind.1 in
      (λ j. record { name = names j; info = i j; third = thirds j; extra = extras j; tail = tails j }, parts.1)

has_words : (d : Decl) (ds : List Decl) → Sound d → [] ≡ type_words (d ∷ ds) → ⊥
has_words d ds s e = omega (arith, length_words d s, length-append (decl_words d) (type_words ds), ap length e)

pub same_decls : (ds es : List Decl) → AllByRecursion Sound ds → AllByRecursion Sound es → type_words ds ≡ type_words es → ds ≡ es
same_decls [] [] p q w = refl
same_decls [] (e ∷ es) p q w = absurd (has_words e es q.0 w)
same_decls (d ∷ ds) [] p q w = absurd (has_words d ds p.0 (sym w))
same_decls (d ∷ ds) (e ∷ es) p q w =
    let first = same_decl d e p.0 q.0 (type_words ds) (type_words es) w in
    let others = same_decls ds es p.1 q.1 first.1 in
    cc
