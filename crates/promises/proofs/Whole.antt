-- A whole rewriting leaves a sound table, and its words add up to what it answered.
use Rattle.std.proofs.Common.{◌≡◌, ℕ, ◌+◌, ◌*◌, true, ltb, List, [], ◌∷◌, ◌++◌, length, None, sym, refl, ap, ◌∙◌, subst, arith, length-append, length-take}
use Rattle.std.specs.List.{AllByRecursion}
use Rattle.std.proofs.ByRecursion.{All-append, All-weaker}
use Rattle.std.proofs.lemmas.Bool.{false≢true, and_parts, leb-true}
use Rattle.meaning.specs.Table.{Decl, Table, void, text, holds}
use Rattle.meaning.specs.File.{decl_words, type_words}
use Rattle.meaning.proofs.Files.{joined_append}
use Rattle.rewriting.specs.Requests.{Request, Job}
use Rattle.rewriting.specs.Sections.{section_fault, sections_from}
use Rattle.rewriting.specs.Rules.{State, begun, stands, turns}
use Rattle.rewriting.specs.Rewriting.{tallied, job, ended, with_rewritten}
use Rattle.promises.specs.Calls.{Word}
use Rattle.promises.proofs.Sound.{Sound, Grown, BoundedTable}
use Rattle.promises.proofs.States.{length_turns}
use Rattle.promises.proofs.Passed.{before_none, Passed, room_passed}
use Rattle.promises.proofs.Standing.{Bounded}
use Rattle.promises.proofs.Turning.{SoundState, turned}

-- id 0 stays as it is
first_sound : (j : Job) → AllByRecursion (λ d. Word d.name) j.decls → SoundState j (stands begun void)
first_sound j names = record {
  ready = record {
    old_names = names;
    names = (omega arith, tt);
    placeholder = λ id e. absurd (let z : ◌≡◌ {A = ℕ} 0 1 = cc in omega arith);
    filler = λ id e. absurd (let z : ◌≡◌ {A = ℕ} 0 1 = cc in omega arith);
  };
  some = refl;
  grown = (refl, tt);
  made = tt;
  made_count = refl;
  made_words = refl;
}

pub grown_names : (ds : List Decl) → Grown ds → AllByRecursion (λ d. Word d.name) ds
grown_names [] g = tt
grown_names (d ∷ ds) g = (subst (λ (x : Decl). Word x.name) (sym g.0) (omega arith), All-weaker Sound (λ x. Word x.name) (λ x s. s.name_fits) ds g.1)

grown_append : (ds es : List Decl) → ltb 0 (length ds) ≡ true → Grown ds → AllByRecursion Sound es → Grown (ds ++ es)
grown_append [] es h g s = absurd (false≢true h)
grown_append (v ∷ ds) es h g s = (g.0, All-append Sound ds es g.1 s)

-- what is so at the end of all turns
pub record Ended (j : Job) (s : State) : Type 0 where
  pub sound : SoundState j s
  pub words : length (type_words s.done) ≡ length (type_words j.decls) + 3 * s.filled
  pub count : length s.done ≡ length j.decls

ended_from : (j : Job) (ds : List Decl) → ltb 0 (length ds) ≡ true → Grown ds → AllByRecursion (λ d. Word d.name) j.decls → sections_from j 0 ds ≡ None → Bounded j (turns j begun ds) →
    SoundState j (turns j begun ds) × (length (type_words (turns j begun ds).done) ≡ length (type_words ds) + 3 * (turns j begun ds).filled)
ended_from j [] h g names fine b = absurd (false≢true h)
ended_from j (v ∷ rest) h g names fine b =
    let P : Decl → Type 0 = λ x. Bounded j (turns j begun (x ∷ rest)) → SoundState j (turns j begun (x ∷ rest)) × (length (type_words (turns j begun (x ∷ rest)).done) ≡ length (type_words (x ∷ rest)) + 3 * (turns j begun (x ∷ rest)).filled) in
    let parts = before_none (section_fault j 0 v) (sections_from j 1 rest) fine in
    let at_void : P void = λ bound.
    let all = turned j (stands begun void) rest (first_sound j names) g.1 parts.1 bound in
    (all.sound, omega (arith, all.words)) in
    subst P (sym g.0) at_void b

pub all_ended : (t : Table) (q : Request) → BoundedTable t → Passed t q → Ended (job t q) (ended (job t q))
all_ended t q s p =
    let j = job t q in
    let room = room_passed t (ended j) p.room in
    let parts = and_parts _ _ p.held in
    let bytes : length j.bytes ≡ t.strings = length-take t.strings t.area ∙ omega (arith, leb-true t.strings (length t.area) parts.1) in
    let bound : Bounded j (ended j) = record { strings = omega (arith, bytes, room.strings); decls = omega (arith, room.decls) } in
    let all = ended_from j t.decls parts.0 s.grown (grown_names t.decls s.grown) p.sections bound in
    record { sound = all.0; words = all.1; count = length_turns j begun t.decls ∙ omega arith }

pub bytes_length : (t : Table) → holds t ≡ true → length (text t) ≡ t.strings
bytes_length t h = length-take t.strings t.area ∙ omega (arith, leb-true t.strings (length t.area) (and_parts _ _ h).1)

-- the words of the table after a rewriting
pub words_rewritten : (t : Table) (q : Request) → BoundedTable t → Passed t q →
    let n = tallied (ended (job t q)) in
    length (type_words (with_rewritten t (ended (job t q))).decls) ≡ length (type_words t.decls) + (4 * n.placeholders + 8 * n.fillers + 3 * n.filled)
words_rewritten t q s p =
    let u = ended (job t q) in
    let all = all_ended t q s p in
    omega (arith, all.words, all.sound.made_words, ap length (joined_append decl_words u.done u.made), length-append (type_words u.done) (type_words u.made))

pub bounded_rewritten : (t : Table) (q : Request) → BoundedTable t → Passed t q → BoundedTable (with_rewritten t (ended (job t q)))
bounded_rewritten t q s p =
    let u = ended (job t q) in
    let all = all_ended t q s p in
    let room = room_passed t u p.room in
    let count = length-append u.done u.made in
    record {
      grown = grown_append u.done u.made all.sound.some all.sound.grown all.sound.made;
      few_words = omega (arith, words_rewritten t q s p, s.few_words, count, all.count, all.sound.made_count);
      few_elements = room.elements;
      few_decls = omega (arith, count, all.count, room.decls);
    }
