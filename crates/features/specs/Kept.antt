-- The answers that a resolver keeps, one for each feature.
use Rattle.std.specs.Prelude.{◌≡◌, Bool, cond, Some, None, Option, MatchOption}
use Rattle.features.specs.declared.BtfFeature.{BtfFeature}
use Rattle.features.specs.declared.BtfFeature.TheVariants.{Func, FuncGlobal, DataSec, DataSecZero, Float, DeclTag, TypeTag, Enum64}
use Rattle.features.specs.declared.Answers.{Answers}
use Rattle.features.specs.declared.BtfFeatureResolver.{BtfFeatureResolver}
use Rattle.features.specs.Features.{same}

-- the answer that is kept for a feature
abbrev pub kept : Answers → BtfFeature → Option Bool
kept a Func = a.func
kept a FuncGlobal = a.func_global
kept a DataSec = a.data_sec
kept a DataSecZero = a.data_sec_zero
kept a Float = a.float
kept a DeclTag = a.decl_tag
kept a TypeTag = a.type_tag
kept a Enum64 = a.enum64

-- no answer is kept
abbrev pub empty : Answers
empty = record {
  func = None;
  func_global = None;
  data_sec = None;
  data_sec_zero = None;
  float = None;
  decl_tag = None;
  type_tag = None;
  enum64 = None;
}

-- what is kept for g once b is kept for f
abbrev pub once_kept : Answers → BtfFeature → Bool → BtfFeature → Option Bool
once_kept a f b g = cond (same f g) (Some b) (kept a g)

-- the answers once b is kept for f
abbrev pub keeping : Answers → BtfFeature → Bool → Answers
keeping a f b = record {
  func = once_kept a f b Func;
  func_global = once_kept a f b FuncGlobal;
  data_sec = once_kept a f b DataSec;
  data_sec_zero = once_kept a f b DataSecZero;
  float = once_kept a f b Float;
  decl_tag = once_kept a f b DeclTag;
  type_tag = once_kept a f b TypeTag;
  enum64 = once_kept a f b Enum64;
}

-- the kept answer, or else the one that a source would give
abbrev pub or_else : Option Bool → Bool → Bool
or_else (Some b) otherwise = b
or_else None otherwise = otherwise

-- what a resolver answers, over what its source means
abbrev pub resolves : {F : Type 0} → (F → BtfFeature → Bool) → BtfFeatureResolver F → BtfFeature → Bool
resolves means s f = or_else (kept s.answers f) (means s.source f)

-- what becomes of a resolver s that is asked about f: its answer is kept, and its source is asked, once, only if none was kept
pub record Resolved {F : Type 0} (means : F → BtfFeature → Bool) (asked : F → BtfFeature → F → Type 0) (s : BtfFeatureResolver F) (f : BtfFeature) (t : BtfFeatureResolver F) : Type 0 where
  pub keeps : t.answers ≡ keeping s.answers f (resolves means s f)
  pub asks : MatchOption (kept s.answers f) (asked s.source f t.source) (λ _. t.source ≡ s.source)
  pub below : (g : BtfFeature) → means t.source g ≡ means s.source g
