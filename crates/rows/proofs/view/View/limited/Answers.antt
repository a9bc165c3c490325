use Rattle.std.proofs.Common.{◌≡◌, ℕ, ◌≤◌, List, length, length-take, take, Some, None, Option, Bor, sym, ap, ◌∙◌, arith}
use Rattle.std.specs.Option.{unwrap_or}
use Rattle.std.specs.Slice.{IsGetRangeResult}
use Rattle.std.proofs.lemmas.List.{take_all}
use Rattle.rows.proofs.view.View.limited.Goals as goal

-- the front of a list, or all of it where it is shorter
front : {X : Type 0} (n : ℕ) (xs : Bor (List X)) (o : Option (Bor (List X))) → IsGetRangeResult xs.now 0 n o → (unwrap_or o xs).now ≡ take n xs.now
front n xs (Some x) h = h.0.2 ∙ ap (λ m. take m xs.now) (omega arith)
front n xs None h = let all : length xs.now ≤ n = omega arith in sym (take_all n xs.now all)

pub returns-clause-rows : goal.returns-clause-rows
returns-clause-rows c = ap (λ (r : Bor (List _)). r.now) c.unwrap_or.ensures ∙ front 1048575 c.args.self.now.rows c.get.result c.get.ensures.lookup

pub returns-clause-few : goal.returns-clause-few
returns-clause-few c =
    let rows = ap (λ (r : Bor (List _)). length r.now) c.unwrap_or.ensures ∙ ap length (front 1048575 c.args.self.now.rows c.get.result c.get.ensures.lookup) in
    omega (arith, length-take 1048575 c.args.self.now.rows.now)
