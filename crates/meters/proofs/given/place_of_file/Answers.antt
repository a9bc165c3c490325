-- the first place where a file has the bytes, or none
use Rattle.std.proofs.Common.{rules, tests, ◌≡◌, ◌≢◌, ◌<◌, ℕ, List, [], length, Option, None, Some, vec_items, arith}
use Rattle.std.specs.Option.{MatchOption}
use Rattle.std.specs.List.{AllWithin, HoldsAt}
use Rattle.std.proofs.lemmas.Iterator.{IsFirst-from_position, YieldsList-from_slice, YieldsList-from_map_by}
use Rattle.meters.specs.Numbering.{Absent, Stands}
use Rattle.meters.proofs.given.place_of_file.Goals as goal

placed : (files : List (List ℕ)) (bytes : List ℕ) (r : Option ℕ)
    → MatchOption r (AllWithin (λ file. file ≢ bytes) files 0 (length files)) (λ i. (i < length files) × HoldsAt (λ file. file ≡ bytes) files i × AllWithin (λ file. file ≢ bytes) files 0 i)
    → MatchOption r (Absent files bytes) (λ i. Stands files i bytes)
placed files bytes None none = λ k below. none k [] (omega arith) below
placed files bytes (Some i) found = (found.0, found.1 [])

pub returns : goal.returns
returns c =
    placed _ c.args.bytes.now _
    (IsFirst-from_position _ _ _ (λ file. file ≡ c.args.bytes.now) (λ file. file ≢ c.args.bytes.now) c.position.ensures.ran
    (YieldsList-from_map_by _ (λ file. file.now) vec_items (YieldsList-from_slice c.args.files.now cc) c.map.ensures.closure (λ x r q k. search (rules, tests)))
    (λ x q k. search (rules, tests)) (λ x q k. search (rules, tests)))
