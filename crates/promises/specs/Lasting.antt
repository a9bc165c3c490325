-- What is promised of tables after any lists of acts, rewritings among them.
use Rattle.std.specs.Prelude.{◌≡◌, ℕ, ◌<◌, true, false, cond, not, List, length}
use Rattle.order.specs.Order.{Order}
use Rattle.layout.specs.Kinds.{pointer_bytes}
use Rattle.layout.specs.Refusals.{Answer, accepted, refused}
use Rattle.layout.specs.declared.pointer.PointerWidth.{PointerWidth}
use Rattle.features.specs.declared.BtfFeature.{BtfFeature}
use Rattle.meaning.specs.Table.{Table, holds, no_table, text}
use Rattle.meaning.specs.Questions.{decl_at, resolving, measuring}
use Rattle.meaning.specs.File.{file, type_part, type_bytes}
use Rattle.rewriting.specs.Requests.{Request}
use Rattle.rewriting.specs.Rewriting.{Tallies, rewrite}
use Rattle.promises.specs.Calls.{Question, end_of, size_of, ask}
use Rattle.promises.specs.Acts.{Act, rewrites, left_by, left_by_all, gained, History, first_table, last_table}
use Rattle.promises.specs.Kinds.{DataOnly, refused_kind}
use Rattle.promises.specs.Rewritten.{Rewritten}

-- the bytes of a table in a byte order, or the refusal of one that holds nothing
abbrev pub encoding : Order → Table → Answer (List ℕ)
encoding o t = cond (not (holds t)) (refused no_table) (accepted (file o t))

-- the same rewriting: equal rows, equal name bytes, equal answers about each feature
pub record SameRequest (p q : Request) : Type 0 where
  pub sections : p.sections ≡ q.sections
  pub symbols : p.symbols ≡ q.symbols
  pub names : p.names ≡ q.names
  pub grants : (f : BtfFeature) → p.grants f ≡ q.grants f

-- a rewriting that is accepted by two tables answers alike, and leaves equal encodings in every byte order
abbrev pub RewrittenAlike : Table → Table → Type 0
RewrittenAlike t u =
    (p q : Request) (n m : Tallies) → SameRequest p q → (rewrite t p).answer ≡ accepted n → (rewrite u q).answer ≡ accepted m →
    (n ≡ m) × ((o : Order) → encoding o (rewrite t p).later ≡ encoding o (rewrite u q).later)

-- Two tables whose encodings in one byte order are equal answer every question alike and are rewritten alike; they
-- hold equal declarations with their elements and equal strings, where they hold anything.
abbrev pub OneEncodingOneTable : Type 0
OneEncodingOneTable =
    (o : Order) (g h : History) → encoding o (last_table g) ≡ encoding o (last_table h) →
    ((q : Question) → ask (last_table g) q ≡ ask (last_table h) q) × RewrittenAlike (last_table g) (last_table h) ×
    (holds (last_table g) ≡ true → ((last_table g).decls ≡ (last_table h).decls) × (text (last_table g) ≡ text (last_table h)))

-- An id's end and size, asked just before an accepted rewriting, are the same after it and after whatever follows, if
-- the walk before it met data kinds only.
abbrev pub SizesAndEndsStay : Type 0
SizesAndEndsStay =
    (h : History) (q : Request) (n : Tallies) (later : List Act) (id : ℕ) → (rewrite (last_table h) q).answer ≡ accepted n → id < length (last_table h).decls →
    (DataOnly resolving (last_table h).decls tt id → ask (left_by_all (left_by (last_table h) (rewrites q)) later) (end_of id) ≡ ask (last_table h) (end_of id)) ×
    ((width : PointerWidth) → DataOnly (measuring (pointer_bytes width)) (last_table h).decls 1 id →
    ask (left_by_all (left_by (last_table h) (rewrites q)) later) (size_of id width) ≡ ask (last_table h) (size_of id width))

-- An accepted rewriting does every rule to every declaration.
abbrev pub RulesDone : Type 0
RulesDone = (h : History) (q : Request) (n : Tallies) → (rewrite (last_table h) q).answer ≡ accepted n → Rewritten q (last_table h) (rewrite (last_table h) q).later n

-- An accepted rewriting leaves no refused kind, among the new declarations too.
abbrev pub NoRefusedKindLeft : Type 0
NoRefusedKindLeft =
    (h : History) (q : Request) (n : Tallies) (id : ℕ) → (rewrite (last_table h) q).answer ≡ accepted n → id < length (rewrite (last_table h) q).later.decls →
    refused_kind q.grants (decl_at (rewrite (last_table h) q).later.decls id) ≡ false

-- The type part's length, which the header states, is the sum of the published lengths of what was added and of what the
-- rewritings answered.
abbrev pub LengthAddsUpWithRewritings : Type 0
LengthAddsUpWithRewritings =
    (o : Order) (h : History) →
    (length (type_part o (last_table h).decls) ≡ gained (first_table h) h.acts) × (type_bytes (last_table h).decls ≡ gained (first_table h) h.acts)
