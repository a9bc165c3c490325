-- The steps of a walk.
use Rattle.std.proofs.Common.{◌≡◌, ℕ, zero, suc, ◌+◌, ◌-◌, ◌<◌, ◌≤◌, ltb, List, length, Some, None, Option, sym, refl, ap, ◌∙◌, sub-one, arith}
use Rattle.std.proofs.lemmas.Bool.{lt-ltb, le-ltb, cond-true, cond-false}
use Rattle.layout.specs.Refusals.{accepted, refused, refusal}
use Rattle.meaning.specs.Table.{Decl}
use Rattle.meaning.specs.Questions.{Move, moved, walk, unknown, decl_at}

module _ {S X : Type 0} (look : S → ℕ → Decl → Move S X) (ds : List Decl) (asked : ℕ) where
  pub walk_over : (holder : Option ℕ) (s : S) (id links : ℕ) → walk look 0 ds asked holder s id links ≡ refused (refusal 10 (Some asked) None None)
  unfolding walk
  walk_over holder s id links = refl

  pub walk_missing : (n : ℕ) (holder : Option ℕ) (s : S) (id links : ℕ) → 0 < n → length ds ≤ id → walk look n ds asked holder s id links ≡ refused (unknown holder id)
  unfolding walk
  walk_missing zero holder s id links some h = absurd (omega arith)
  walk_missing (suc n) holder s id links some h = cond-false (ltb id (length ds)) _ _ (le-ltb id (length ds) h)

  pub walk_more : (n : ℕ) (holder : Option ℕ) (s : S) (id links : ℕ) → 0 < n → id < length ds →
      walk look n ds asked holder s id links ≡ moved (look s id (decl_at ds id)) (λ next s'. walk look (n - 1) ds asked (Some id) s' next (links + 1)) (λ x. accepted (x, links))
  unfolding walk
  walk_more zero holder s id links some h = absurd (omega arith)
  walk_more (suc n) holder s id links some h =
      cond-true (ltb id (length ds)) _ _ (lt-ltb id (length ds) h) ∙
      ap (λ m. moved (look s id (decl_at ds id)) (λ next s'. walk look m ds asked (Some id) s' next (links + 1)) (λ x. accepted (x, links))) (sym (sub-one (suc n)))
