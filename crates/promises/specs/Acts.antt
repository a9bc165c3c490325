-- Lists of acts on a table: calls and rewritings, in any order and number, accepted or refused.
use Rattle.std.specs.Prelude.{ℕ, ◌+◌, ◌*◌, List, [], ◌∷◌}
use Rattle.layout.specs.Refusals.{Answer, accepted, refused}
use Rattle.meaning.specs.Table.{Table, made}
use Rattle.rewriting.specs.Requests.{Request}
use Rattle.rewriting.specs.Rewriting.{Tallies, rewrite}
use Rattle.promises.specs.Calls.{Call, step, added_by}

pub data Act : Type 0 where
  calls : Call → Act
  rewrites : Request → Act

-- what an act leaves
abbrev pub left_by : Table → Act → Table
left_by t (calls c) = step t c
left_by t (rewrites q) = (rewrite t q).later

abbrev pub left_by_all : Table → List Act → Table
left_by_all t [] = t
left_by_all t (a ∷ acts) = left_by_all (left_by t a) acts

-- what the type part gains by an act: by a call the published length of what it added, by a rewriting as it answered, 16
-- bytes for each placeholder, 32 for each filler pair and 12 for each section filled
abbrev pub tally_bytes : Answer Tallies → ℕ
tally_bytes (accepted n) = 16 * n.placeholders + 32 * n.fillers + 12 * n.filled
tally_bytes (refused r) = 0

abbrev pub gained_by : Table → Act → ℕ
gained_by t (calls c) = added_by t c
gained_by t (rewrites q) = tally_bytes (rewrite t q).answer

abbrev pub gained : Table → List Act → ℕ
gained t [] = 0
gained t (a ∷ acts) = gained_by t a + gained (left_by t a) acts

-- a table after a list of acts, over areas of any size
pub record History : Type 0 where
  pub decl_room : ℕ
  pub element_room : ℕ
  pub area : List ℕ
  pub acts : List Act

abbrev pub first_table : History → Table
first_table h = made h.decl_room h.element_room h.area

abbrev pub last_table : History → Table
last_table h = left_by_all (first_table h) h.acts
