-- Maps over lists.
use Rattle.std.proofs.Common.{◌≡◌, List, [], ◌∷◌, map, refl}
use Rattle.std.specs.List.{All}
use Rattle.std.proofs.lemmas.List.Elements.{All-head, All-tail}

pub map_same : {X Y : Type 0} (f h : X → Y) (xs : List X) → All (λ x. f x ≡ h x) xs → map f xs ≡ map h xs
map_same f h [] each = refl
map_same f h (x ∷ xs) each =
    let first : f x ≡ h x = All-head (λ y. f y ≡ h y) x xs each in
    let rest : map f xs ≡ map h xs = map_same f h xs (All-tail (λ y. f y ≡ h y) x xs each) in
    cc
