-- Tables with equal declarations and equal strings answer alike.
use Rattle.std.proofs.Common.{◌≡◌, true, false, not, sym, ap, ◌∙◌}
use Rattle.std.proofs.lemmas.Bool.{cond-true, not_from_false}
use Rattle.layout.specs.Refusals.{Answer, refused}
use Rattle.meaning.specs.Questions.{asked_of}
use Rattle.meaning.specs.Table.{Table, holds, no_table, text}
use Rattle.promises.specs.Calls.{Question, string_of, head_of, element_of, name_of, id_of, end_of, size_of, bytes, head, element, id, walked, ask}

pub same_answers : (t u : Table) → holds t ≡ true → holds u ≡ true → t.decls ≡ u.decls → text t ≡ text u → (q : Question) → ask t q ≡ ask u q
same_answers t u h k d x (string_of offset) = cc
same_answers t u h k d x (head_of n) = cc
same_answers t u h k d x (element_of n index) = cc
same_answers t u h k d x (name_of n) = cc
same_answers t u h k d x (id_of name kind) = cc
same_answers t u h k d x (end_of n) = cc
same_answers t u h k d x (size_of n width) = cc

-- so do tables that hold nothing
none_asked : {A : Type 0} (t : Table) (a : Answer A) → holds t ≡ false → asked_of t a ≡ refused no_table
none_asked t a h = cond-true (not (holds t)) (refused no_table) a (not_from_false (holds t) h)

both_none : {A : Type 0} (t u : Table) (a b : Answer A) → holds t ≡ false → holds u ≡ false → asked_of t a ≡ asked_of u b
both_none t u a b h k = none_asked t a h ∙ sym (none_asked u b k)

pub no_answers : (t u : Table) → holds t ≡ false → holds u ≡ false → (q : Question) → ask t q ≡ ask u q
no_answers t u h k (string_of offset) = ap bytes (both_none t u _ _ h k)
no_answers t u h k (head_of n) = ap head (both_none t u _ _ h k)
no_answers t u h k (element_of n index) = ap element (both_none t u _ _ h k)
no_answers t u h k (name_of n) = ap bytes (both_none t u _ _ h k)
no_answers t u h k (id_of name kind) = ap id (both_none t u _ _ h k)
no_answers t u h k (end_of n) = ap walked (both_none t u _ _ h k)
no_answers t u h k (size_of n width) = ap walked (both_none t u _ _ h k)
