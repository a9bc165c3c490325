-- A walk over rows, one declaration at a time.
use Rattle.std.proofs.Common.{◌≡◌, ℕ, ◌+◌, ◌-◌, ◌<◌, ◌≤◌, List, Some, None, Option, sym, ap, ◌∙◌, arith}
use Rattle.layout.specs.Refusals.{Answer, Refusal, accepted, refused, refusal}
use Rattle.meaning.specs.Table.{Decl}
use Rattle.meaning.specs.Questions.{Move, onward, ends, stuck, moved, walk, decl_at}
use Rattle.meaning.proofs.Walks.{walk_over, walk_missing, walk_more}
use Rattle.rows.specs.declared.row.TypeRow.{TypeRow}
use Rattle.elements.specs.declared.Element.{Element}
use Rattle.rows.specs.Rows.{decl_of, decls_of, row_at}
use Rattle.rows.proofs.Lookups.{row_found, row_missing}

-- the walk as it was asked is the walk from where it has come to
pub record Walked {S X : Type 0} (look : S → ℕ → Decl → Move S X) (rows : List TypeRow) (es : List Element) (asked : ℕ) (whole : Answer (X × ℕ)) (holder : Option ℕ) (s : S) (id links : ℕ) : Type 0 where
  pub on : whole ≡ walk look (32 - links) (decls_of es rows) asked holder s id links

module _ {S X : Type 0} {look : S → ℕ → Decl → Move S X} {rows : List TypeRow} {es : List Element} {asked : ℕ} {whole : Answer (X × ℕ)} {holder : Option ℕ} {s : S} {id links : ℕ} (far : Walked look rows es asked whole holder s id links) where
  pub path_over : 32 ≤ links → refused (refusal 10 (Some asked) None None) ≡ whole
  path_over h =
      let none : 32 - links ≡ 0 = omega arith in
      sym (far.on ∙ ap (λ n. walk look n (decls_of es rows) asked holder s id links) none ∙ walk_over look (decls_of es rows) asked holder s id links)

  pub path_missing : links < 32 → (r : Refusal) → refused r ≡ row_at rows holder id → refused r ≡ whole
  path_missing h r e =
      let gone = row_missing rows es holder id r e in
      ap refused gone.1 ∙ sym (far.on ∙ walk_missing look (decls_of es rows) asked (32 - links) holder s id links (omega arith) gone.0)

  module _ (few : links < 32) (row : TypeRow) (there : accepted row ≡ row_at rows holder id) where
    path_more : (m : Move S X) → m ≡ look s id (decl_of es row) → whole ≡ moved m (λ next s'. walk look (32 - (links + 1)) (decls_of es rows) asked (Some id) s' next (links + 1)) (λ x. accepted (x, links))
    path_more m does =
        let found = row_found rows es holder id row there in
        let less : 32 - links - 1 ≡ 32 - (links + 1) = omega arith in
        far.on ∙
        walk_more look (decls_of es rows) asked (32 - links) holder s id links (omega arith) found.0 ∙
        ap (λ n. moved (look s id (decl_at (decls_of es rows) id)) (λ next s'. walk look n (decls_of es rows) asked (Some id) s' next (links + 1)) (λ x. accepted (x, links))) less ∙
        ap (λ x. moved x (λ next s'. walk look (32 - (links + 1)) (decls_of es rows) asked (Some id) s' next (links + 1)) (λ y. accepted (y, links)))
        (ap (look s id) found.1 ∙ sym does)

    pub path_ends : (x : X) → ends x ≡ look s id (decl_of es row) → accepted (x, links) ≡ whole
    path_ends x does = sym (path_more (ends x) does)

    pub path_stuck : (r : Refusal) → stuck r ≡ look s id (decl_of es row) → refused r ≡ whole
    path_stuck r does = sym (path_more (stuck r) does)

    pub path_onward : (next : ℕ) (later : S) → onward next later ≡ look s id (decl_of es row) → Walked look rows es asked whole (Some id) later next (links + 1)
    path_onward next later does = record { on = path_more (onward next later) does }
