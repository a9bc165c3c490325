-- What is asked of the limited view is asked of as many rows as a table may have.
use Rattle.std.proofs.Common.{◌≡◌, ℕ, Bool, List, take, ap, ◌∙◌}
use Rattle.features.specs.declared.BtfFeature.{BtfFeature}
use Rattle.meaning.specs.Table.{Decl, most_decls}
use Rattle.rows.specs.declared.view.View.{View}
use Rattle.rows.specs.Rows.{decls_of}
use Rattle.rows.specs.Views.{decls, few_decls}
use Rattle.rewriting.specs.Sections.{sections_fault}
use Rattle.inspect.specs.declared.names.Lists.{Lists}
use Rattle.inspect.specs.Listed.{request_of, job_of, few_job}

pub limited_asked : {A : Type 0} (asked : List ℕ → List Decl → A) (given v : View) → v.rows.now ≡ take most_decls given.rows.now → v.elements.now ≡ given.elements.now → v.strings.now ≡ given.strings.now →
    asked v.strings.now (decls v) ≡ asked given.strings.now (few_decls given)
limited_asked asked given v rows elements strings =
    ap (λ bytes. asked bytes (decls v)) strings ∙
    ap (λ es. asked given.strings.now (decls_of es v.rows.now)) elements ∙
    ap (λ rs. asked given.strings.now (decls_of given.elements.now rs)) rows

pub limited_sections : (given v : View) (lists : Lists) (grants : BtfFeature → Bool) → v.rows.now ≡ take most_decls given.rows.now → v.elements.now ≡ given.elements.now → v.strings.now ≡ given.strings.now →
    sections_fault (job_of v (request_of lists grants)) ≡ sections_fault (few_job given (request_of lists grants))
limited_sections given v lists grants rows elements strings =
    limited_asked (λ bytes ds. sections_fault (record { decls = ds; bytes = bytes; request = request_of lists grants })) given v rows elements strings
