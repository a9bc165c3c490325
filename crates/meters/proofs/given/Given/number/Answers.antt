-- a file that is new goes behind the others
use Rattle.std.proofs.Common.{◌++◌, ◌∷◌, [], ℕ, List, map, vec_items, sym, subst, ap, ◌∙◌, inl, inr, arith}
use Rattle.std.proofs.lemmas.Bool.{cases_cond}
use Rattle.std.proofs.lemmas.Grind.{common_steps}
use Rattle.std.proofs.lemmas.List.{map_push}
use Rattle.meters.specs.Numbering.{Absent, Unlike}
use Rattle.meters.proofs.given.Given.number.Goals as goal

one_more : (files : List (List ℕ)) (bytes : List ℕ) → Unlike files → Absent files bytes → Unlike (files ++ bytes ∷ [])
one_more files bytes unlike absent i j h = grind (arith, common_steps, unlike i j, absent i)

pub invariant_of-self : goal.invariant_of-self
invariant_of-self c =
    let files = c.args.self.now.files.items in
    let unlike = c.args.self.now.unlike in
    let bytes = c.args.bytes.now in
    let absent = subst (λ fs. Absent (map vec_items fs) bytes) c.as_slice.ensures.value c.in_default.ensures in
    let pushed = map_push vec_items files c.in_ok-file.file ∙ ap (λ b. map vec_items files ++ b ∷ []) c.in_ok-file.ensures.items in
    record {
      unlike = elim (cases_cond _ _ _ _ c.push.ensures.items) [
        | inl e ↦ subst Unlike (sym (ap (map vec_items) e ∙ pushed)) (one_more _ bytes unlike absent)
        | inr e ↦ subst (λ fs. Unlike (map vec_items fs)) (sym e) unlike
      ];
    }
