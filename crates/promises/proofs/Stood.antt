-- What stands at an old id after a rewriting, and the state in which its turn came.
use Rattle.std.proofs.Common.{◌≡◌, ℕ, zero, suc, ◌+◌, ◌<◌, List, [], ◌∷◌, ◌++◌, length, get_or, ap, ◌∙◌, subst, arith}
use Rattle.std.proofs.lemmas.List.{get_or_append_left, get_or_push, length_push}
use Rattle.meaning.specs.Table.{Decl, void}
use Rattle.meaning.specs.Questions.{decl_kind, decl_at}
use Rattle.rewriting.specs.Requests.{Job}
use Rattle.rewriting.specs.Rules.{State, stand_in, turn, turns}
use Rattle.promises.proofs.States.{Later, done_turn, length_turn, later_turns}

pub record Stood (j : Job) (Inv : State → Type 0) (last : State) (id : ℕ) (d : Decl) : Type 0 where
  pub state : State
  pub place : length state.done ≡ id
  pub inv : Inv state
  pub stands : decl_at last.done id ≡ stand_in (decl_kind d) j state d
  pub later : Later (turn j state d) last

module _ (j : Job) (Inv : State → Type 0) (keep : (s : State) (d : Decl) → Inv s → Inv (turn j s d)) where
  first : (s : State) (d : Decl) (ds : List Decl) → Inv s → Stood j Inv (turns j (turn j s d) ds) (length s.done + 0) d
  first s d ds inv =
      let next = turn j s d in
      let last = turns j next ds in
      let later = later_turns j next ds in
      let x = stand_in (decl_kind d) j s d in
      let more = later.done.0 in
      let at : length s.done ≡ length s.done + 0 = omega arith in
      let whole : last.done ≡ (s.done ++ x ∷ []) ++ more = later.done.1 ∙ ap (λ l. l ++ more) (done_turn j s d) in
      record {
        state = s;
        place = at;
        inv = inv;
        stands =
            ap (λ l. decl_at l (length s.done + 0)) whole ∙
            get_or_append_left (s.done ++ x ∷ []) more void (length s.done + 0) (omega (arith, length_push s.done x)) ∙
            get_or_push s.done x void (length s.done + 0) at;
        later = later;
      }

  pub stood : (s : State) (ds : List Decl) → Inv s → (k : ℕ) → k < length ds → Stood j Inv (turns j s ds) (length s.done + k) (get_or ds k void)
  stood s [] inv k h = absurd (omega arith)
  stood s (d ∷ ds) inv zero h = first s d ds inv
  stood s (d ∷ ds) inv (suc k) h =
      let rest = stood (turn j s d) ds (keep s d inv) k (omega arith) in
      let same : length (turn j s d).done + k ≡ length s.done + suc k = omega (arith, length_turn j s d) in
      subst (λ n. Stood j Inv (turns j (turn j s d) ds) n (get_or ds k void)) same rest
