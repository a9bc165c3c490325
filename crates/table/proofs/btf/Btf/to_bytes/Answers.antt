use Rattle.promises.proofs.Files.{one_file_one_table, one_encoding_one_table}
use Rattle.promises.proofs.Stay.{sizes_and_ends_stay}
use Rattle.promises.proofs.Done.{rules_done}
use Rattle.promises.proofs.Taken.{no_refused_kind_left}
use Rattle.promises.proofs.Lengths.{length_adds_up, length_adds_up_with_rewritings}
use Rattle.promises.proofs.Examples.{examples_hold, rewritings_hold}
use Rattle.table.proofs.btf.Btf.to_bytes.Goals as goal

pub returns : goal.returns
returns g c = record {
  file = c.encode.ensures.file;
  whole = c.encode.ensures.whole;
  one_file = one_file_one_table;
  length = length_adds_up;
  examples = examples_hold;
  one_encoding = one_encoding_one_table;
  sizes = sizes_and_ends_stay;
  rules = rules_done;
  kinds = no_refused_kind_left;
  length_with_rewritings = length_adds_up_with_rewritings;
  rewritings = rewritings_hold;
}
