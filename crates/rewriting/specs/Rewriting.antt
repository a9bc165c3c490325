-- Rewriting a table: every check comes before anything changes.
use Rattle.std.specs.Prelude.{ℕ, ◌+◌, min, cond, not, ◌++◌, length, Some, None, Option, nat_lt}
use Rattle.layout.specs.Refusals.{Refusal, area_number}
use Rattle.layout.specs.declared.error.Area.TheVariants.{Declarations, Elements, Strings}
use Rattle.meaning.specs.Table.{Table, Outcome, text, holds, refuses, accepts, no_table, most_decls, most_elements, most_strings}
use Rattle.meaning.specs.Adding.{over, no_room, unless}
use Rattle.rewriting.specs.Requests.{Request, Job}
use Rattle.rewriting.specs.Closed.{before, open_fault}
use Rattle.rewriting.specs.Sections.{sections_fault}
use Rattle.rewriting.specs.Rules.{State, begun, turns}

-- What an accepted rewriting answers.
pub record Tallies : Type 0 where
  pub placeholders : ℕ
  pub fillers : ℕ
  pub filled : ℕ
  pub string_bytes : ℕ

abbrev pub one_if_made : Option ℕ → ℕ
one_if_made (Some id) = 1
one_if_made None = 0

abbrev pub tallied : State → Tallies
tallied s = record { placeholders = one_if_made s.placeholder; fillers = one_if_made s.filler; filled = s.filled; string_bytes = length s.added }

abbrev pub job : Table → Request → Job
job t q = record { decls = t.decls; bytes = text t; request = q }

-- every rule done to every declaration
abbrev pub ended : Job → State
ended j = turns j begun j.decls

-- refusal 16: declarations, elements, strings
abbrev pub room_left_fault : Table → State → Option Refusal
room_left_fault t s =
    cond (nat_lt (min t.decl_room most_decls) (length t.decls + length s.made)) (Some (no_room (area_number Declarations)))
    (cond (nat_lt (min t.element_room most_elements) (t.elements + s.filled)) (Some (no_room (area_number Elements)))
    (cond (nat_lt (min (length t.area) most_strings) (t.strings + length s.added)) (Some (no_room (area_number Strings)))
    None))

abbrev pub with_rewritten : Table → State → Table
with_rewritten t s = record {
  decls = s.done ++ s.made;
  area = over t.strings s.added t.area;
  strings = t.strings + length s.added;
  elements = t.elements + s.filled;
  decl_room = t.decl_room;
  element_room = t.element_room;
}

abbrev pub rewriting_fault : Table → Request → Option Refusal
rewriting_fault t q =
    let j = job t q in
    before (open_fault j.bytes j.decls) (before (sections_fault j) (room_left_fault t (ended j)))

-- A rewriting is refused and leaves the table as it was, or does every rule.
abbrev pub rewrite : Table → Request → Outcome Tallies
rewrite t q =
    cond (not (holds t)) (refuses t no_table)
    (unless (rewriting_fault t q) t
    (accepts (tallied (ended (job t q))) (with_rewritten t (ended (job t q)))))
