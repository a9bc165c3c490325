-- The job that a check of granted sections reads.
use Rattle.std.specs.Prelude.{true}
use Rattle.rewriting.specs.Requests.{Job}
use Rattle.inspect.specs.Listed.{request_of, job_of}
use Rattle.inspect.specs.declared.sections.Sources.{Sources}

abbrev pub sources_job : Sources → Job
sources_job sources = job_of sources.view.now (request_of sources.lists.now (λ _. true))
