-- The caller's lists, and the job that a table and lists make.
use Rattle.std.specs.Prelude.{Bool, map}
use Rattle.features.specs.declared.BtfFeature.{BtfFeature}
use Rattle.rows.specs.declared.view.View.{View}
use Rattle.rows.specs.Views.{decls, few_decls}
use Rattle.rewriting.specs.Requests.{Row, Request, Job}
use Rattle.inspect.specs.declared.names.NamedRow.{NamedRow}
use Rattle.inspect.specs.declared.names.Lists.{Lists}

abbrev pub listed : NamedRow → Row
listed row = record { start = row.start; span = row.len; number = row.number }

abbrev pub request_of : Lists → (BtfFeature → Bool) → Request
request_of lists grants = record {
  sections = map listed lists.sections.now;
  symbols = map listed lists.symbols.now;
  names = lists.names.now;
  grants = grants;
}

abbrev pub job_of : View → Request → Job
job_of view request = record { decls = decls view; bytes = view.strings.now; request = request }

-- the same of as many rows as a table may have
abbrev pub few_job : View → Request → Job
few_job view request = record { decls = few_decls view; bytes = view.strings.now; request = request }
