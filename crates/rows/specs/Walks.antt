-- What the steps of the walks and of the search say.
use Rattle.std.specs.Prelude.{ℕ, Bool, cond, Some, None, Ok, Err, Result, nat_le}
use Rattle.layout.specs.declared.error.BtfError.{BtfError}
use Rattle.layout.specs.Refusals.{said, Answer, accepted, refused, refusal}
use Rattle.meaning.specs.Questions.{Move, onward, ends, stuck, greatest_word}
use Rattle.rows.specs.declared.walking.Step.{Step}
use Rattle.rows.specs.declared.walking.Step.TheVariants.{Onward, Ends}

abbrev pub move_of : {S : Type 0} → Result (Step S) BtfError → Move S ℕ
move_of (Ok (Onward id carried)) = onward id carried
move_of (Ok (Ends answer)) = ends answer
move_of (Err fault) = stuck (said fault)

-- a product at a declaration that is a word, or refusal 9
abbrev pub word_of : ℕ → ℕ → Answer ℕ
word_of id n = cond (nat_le n greatest_word) (accepted n) (refused (refusal 9 (Some id) None (Some n)))

-- the search ends at a row that is found or faulty, and else goes on
abbrev pub verdict : ℕ → Answer ℕ → Answer Bool → Answer ℕ
verdict id rest (accepted found) = cond found (accepted id) rest
verdict id rest (refused r) = refused r
