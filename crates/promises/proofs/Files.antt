-- Equal files come from equal tables.
use Rattle.std.proofs.Common.{◌≡◌, ℕ, ◌*◌, Bool, true, false, ltb, List, [], ◌∷◌, ◌++◌, length, sym, refl, ap, ◌∙◌, subst, append_assoc, arith, ◌≤◌, sum_by, ◌+◌}
use Rattle.std.specs.List.{AllByRecursion}
use Rattle.std.proofs.lemmas.List.Sums.{sum_by-cons}
use Rattle.std.proofs.lemmas.Bool.{false≢true, and_parts}
use Rattle.order.specs.Order.{Order}
use Rattle.layout.specs.Refusals.{accepted}
use Rattle.meaning.specs.Table.{Decl, Table, void, holds, text}
use Rattle.meaning.specs.File.{type_words, type_bytes, coded, header, file}
use Rattle.promises.specs.Calls.{Word}
use Rattle.promises.specs.Promises.{Reached, fresh, table, OneFileOneTable}
use Rattle.promises.specs.Acts.{last_table}
use Rattle.promises.specs.Lasting.{encoding, RewrittenAlike, OneEncodingOneTable}
use Rattle.promises.specs.Calls.{Question, ask}
use Rattle.promises.proofs.Parts.{same_parts}
use Rattle.promises.proofs.Sound.{Grown, SoundTable, BoundedTable, tail_length}
use Rattle.promises.proofs.Steps.{sound_made, sound_run}
use Rattle.promises.proofs.Acted.{bounded_last}
use Rattle.promises.proofs.Words.{word_bytes, type_words_fit, few_type_words, types_stated}
use Rattle.promises.proofs.Told.{same_decls}
use Rattle.promises.proofs.Coded.{length_coded, same_coded, length_header, same_types}
use Rattle.promises.proofs.Asked.{same_answers, no_answers}
use Rattle.promises.proofs.Alike.{encoding_held, rewritten_alike, nothing_rewritten}

-- id 0 has no words
wordless : (d : Decl) (ds : List Decl) → d ≡ void → type_words (d ∷ ds) ≡ type_words ds
wordless d ds e = ap (λ v. type_words (v ∷ ds)) e

-- id 0 with what was added: its words fit, are few, and tell the declarations
pub grown_fit : (ds : List Decl) → Grown ds → AllByRecursion Word (type_words ds)
grown_fit [] g = tt
grown_fit (d ∷ ds) g = subst (AllByRecursion Word) (sym (wordless d ds g.0)) (type_words_fit ds g.1)

grown_few : (ds : List Decl) → Grown ds → length (type_words ds) ≤ 6 * length ds + 3 * sum_by tail_length ds
grown_few [] g = omega arith
grown_few (d ∷ ds) g = omega (arith, ap length (wordless d ds g.0), few_type_words ds g.1, sum_by-cons tail_length d ds)

grown_same : (ds es : List Decl) → ltb 0 (length ds) ≡ true → ltb 0 (length es) ≡ true → Grown ds → Grown es → type_words ds ≡ type_words es → ds ≡ es
grown_same [] es h k g j w = absurd (false≢true h)
grown_same (d ∷ ds) [] h k g j w = absurd (false≢true k)
grown_same (d ∷ ds) (e ∷ es) h k g j w =
    let others = same_decls ds es g.1 j.1 (sym (wordless d ds g.0) ∙ w ∙ wordless e es j.0) in
    cc (g.0, j.0)

-- the header states the length of the words
pub grown_stated : (ds : List Decl) → Grown ds → type_bytes ds ≡ word_bytes ds
grown_stated [] g = refl
grown_stated (d ∷ ds) g =
    ap (λ v. type_bytes (v ∷ ds)) g.0 ∙ types_stated ds g.1 ∙ ap (λ ws. 4 * length ws) (sym (wordless d ds g.0))

-- the areas are bounded, so the type part's length is a word
type_bytes_fit : (t : Table) → BoundedTable t → Word (type_bytes t.decls)
type_bytes_fit t s = omega (arith, s.few_words, grown_stated t.decls s.grown)

sound_bounded : (t : Table) → SoundTable t → BoundedTable t
sound_bounded t s = record { grown = s.grown; few_words = omega (arith, grown_few t.decls s.grown, s.counts); few_elements = s.few_elements; few_decls = s.few_decls }

module _ (o : Order) (t u : Table) (s : BoundedTable t) (r : BoundedTable u) where
  pub same_file : holds t ≡ true → holds u ≡ true → file o t ≡ file o u → (t.decls ≡ u.decls) × (text t ≡ text u)
  same_file h k same =
      let begins : Table → List ℕ = λ v. header o (type_bytes v.decls) v.strings in
      let types : Table → List ℕ = λ v. coded o (type_words v.decls) in
      let whole = sym (append_assoc (begins t) (types t) (text t)) ∙ same ∙ append_assoc (begins u) (types u) (text u) in
      let headers : length (begins t) ≡ length (begins u) = cc (length_header o (type_bytes t.decls) t.strings, length_header o (type_bytes u.decls) u.strings) in
      let parts = same_parts (begins t) (begins u) (types t ++ text t) (types u ++ text u) headers whole in
      let amounts = same_types o (type_bytes t.decls) (type_bytes u.decls) t.strings u.strings (type_bytes_fit t s) (type_bytes_fit u r) parts.0 in
      let fit = grown_fit t.decls s.grown in
      let fit' = grown_fit u.decls r.grown in
      let behind = same_parts (types t) (types u) (text t) (text u) (omega (arith, length_coded o (type_words t.decls) fit, length_coded o (type_words u.decls) fit', grown_stated t.decls s.grown, grown_stated u.decls r.grown, amounts)) parts.1 in
      let words = same_coded o (type_words t.decls) (type_words u.decls) fit fit' behind.0 in
      (grown_same t.decls u.decls (and_parts _ _ h).0 (and_parts _ _ k).0 s.grown r.grown words, behind.1)

-- equal encodings: both tables hold something, and then the same, or neither does
module _ (o : Order) (t u : Table) (s : BoundedTable t) (r : BoundedTable u) where
  abbrev Alike : Type 0
  Alike = ((q : Question) → ask t q ≡ ask u q) × RewrittenAlike t u × (holds t ≡ true → (t.decls ≡ u.decls) × (text t ≡ text u))

  alike : (h k : Bool) → holds t ≡ h → holds u ≡ k → encoding o t ≡ encoding o u → Alike
  alike true true h k same =
      let files : accepted (file o t) ≡ accepted (file o u) = sym (encoding_held o t h) ∙ same ∙ encoding_held o u k in
      let equal = same_file o t u s r h k cc in
      (same_answers t u h k equal.0 equal.1, rewritten_alike t u equal.0 equal.1, λ e. equal)
  alike true false h k same = absurd (let e = encoding_held o t h in let z : ◌≡◌ {A = ℕ} 0 1 = cc in omega arith)
  alike false true h k same = absurd (let e = encoding_held o u k in let z : ◌≡◌ {A = ℕ} 0 1 = cc in omega arith)
  alike false false h k same = (no_answers t u h k, nothing_rewritten t u h, λ e. absurd (let z : ◌≡◌ {A = ℕ} 0 1 = cc in omega arith))

pub one_file_one_table : OneFileOneTable
one_file_one_table o r s h k same =
    let t = table r in
    let u = table s in
    let bounded : (v : Reached) → BoundedTable (table v) = λ v. sound_bounded (table v) (sound_run (fresh v) v.calls (sound_made v.decl_room v.element_room v.area)) in
    let equal = same_file o t u (bounded r) (bounded s) h k same in
    (equal.0, equal.1, same_answers t u h k equal.0 equal.1)

pub one_encoding_one_table : OneEncodingOneTable
one_encoding_one_table o g h same =
    alike o (last_table g) (last_table h) (bounded_last g) (bounded_last h) (holds (last_table g)) (holds (last_table h)) refl refl same
